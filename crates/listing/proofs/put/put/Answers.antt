use Rattle.std.proofs.Common.{◌≡◌, ◌-◌, ap, ◌∙◌, arith, length}
use native.Mathlib.Nat.{sub_self}
use Rattle.listing.specs.Bytes.{laid}
use Rattle.listing.proofs.Laid.{laid_join, laid_begun}
use Rattle.listing.proofs.put.put.Goals as goal

pub loop-i-init : goal.loop-i-init
unfolding laid
loop-i-init c = rw sub_self

pub loop-i-preserved : goal.loop-i-preserved
unfolding laid
loop-i-preserved c =
    let l = c.loop-i in
    let fours = c.put_fours-left in
    let g = c.args.g.now in
    let r = fours.result in
    ap (laid g (l.i - 1) 1) l.invariant
    ∙ laid_join g fours.new.out (l.i - 1) l.i 1 (r - l.i) (r - (l.i - 1)) (omega arith) (omega arith)

pub returns : goal.returns
returns c =
    let fours = c.put_fours-left in
    let g = c.args.g.now in
    let out = c.args.out.now in
    let all : c.loop-i.i ≡ 0 = omega arith in
    rw all at c.loop-i.invariant
    ∙ ap (laid g 0 (fours.result - 0)) fours.ensures.1
    ∙ laid_join g out 0 fours.result _ _ (length g) (omega arith) (omega arith)
    ∙ laid_begun g out c.requires
