use mathlib.Core.Path.{◌≡◌, ap, ◌∙◌}
use mathlib.Core.List.{List, ◌++◌}
use Prim.Native.Nat.{ℕ, min}
use native.Mathlib.Numerals.{add-one}
use native.Mathlib.Omega.{arith}
use lib.ListN.{length, get_or, take, drop, set, length-set}
use Rattle.bounds.specs.Places.{copied}
use Rattle.bounds.proofs.Cells.{copied_suc}
use Rattle.replay.proofs.widen.Goals as goal

pub loop-i-preserved : goal.loop-i-preserved
loop-i-preserved c =
    let l = c.loop-i in
    let a = c.args in (
      length-set l.out l.i _ ∙ l.invariant.0,
      ap (λ (x : ℕ). set l.out l.i x) c.from.ensures
          ∙ ap (λ (x : List ℕ). set x l.i (get_or a.cells.now l.i 0)) l.invariant.1
          ∙ rw add-one (copied_suc a.cells.now a.out.now l.i (omega arith) (omega arith)),
    )

pub returns : goal.returns
unfolding copied
returns c =
    let l = c.loop-i in
    let a = c.args in
    let all : l.i ≡ min (length a.cells.now) (length a.out.now) = omega (arith, c.min-i-end.ensures) in
    l.invariant.1 ∙ ap (λ (k : ℕ). take k a.cells.now ++ drop k a.out.now) all
