use Rattle.std.proofs.Common.{◌≡◌, ◌++◌, refl, sym, ap, ◌∙◌, List, ℕ, length, drop, arith, set, get_or, add-one}
use lib.Seq.{take_all}
use Rattle.bounds.proofs.Cells.{copied_suc, copied_front}
use Rattle.step.proofs.batch.store.Goals as goal

pub loop-i-init : goal.loop-i-init
loop-i-init c = refl

pub loop-i-preserved : goal.loop-i-preserved
loop-i-preserved c =
    let l = c.loop-i in
    let a = c.args in
    let h = c.loop-i-test.true in
    ap (λ (x : List ℕ). set x l.i (get_or a.cells.now l.i 0)) l.invariant
    ∙ rw add-one (copied_suc a.cells.now a.out.now l.i (omega (arith, h, c.requires.0)) (omega (arith, h, c.requires.1)))

pub returns : goal.returns
returns c =
    let l = c.loop-i in
    let a = c.args in
    let all : l.i ≡ length a.cells.now = omega (arith, c.loop-i-test.false, l.auto.i-end, c.requires.0) in
    l.invariant ∙ ap (λ (x : List ℕ). x ++ drop l.i a.out.now) (take_all l.i a.cells.now (omega (arith, all)))
    ∙ ap (λ (k : ℕ). a.cells.now ++ drop k a.out.now) all ∙ sym (copied_front a.cells.now a.out.now (omega (arith, c.requires.0, c.requires.1)))
