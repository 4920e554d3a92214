use Rattle.std.proofs.Common.{refl, ap, ◌∙◌, List, ℕ, arith, set, get_or, add-one}
use Rattle.bounds.proofs.Cells.{copied_suc}
use Rattle.blocks.proofs.copies.store.Goals as goal

pub loop-i-init : goal.loop-i-init
loop-i-init g c = refl

pub loop-i-preserved : goal.loop-i-preserved
loop-i-preserved g c =
    let l = c.loop-i in
    let a = c.args in
    ap (λ (x : List ℕ). set x l.i (get_or a.from.now l.i 0)) l.invariant
    ∙ rw add-one (copied_suc a.from.now a.out.now l.i (omega arith) (omega arith))
