use mathlib.Core.Path.{◌≡◌, refl, ap, ◌∙◌}
use mathlib.Core.List.{List, ◌++◌, append-nil}
use Prim.Native.Nat.{ℕ, ◌+◌, ◌≤◌, ◌<◌}
use native.Mathlib.Numerals.{add-one}
use native.Mathlib.Omega.{arith}
use lib.ListN.{length, get_or, take, drop, set, length-set, drop_of_length-le}
use lib.Seq.{take_all}
use Rattle.bounds.proofs.Cells.{copied_suc}
use Rattle.ledger.proofs.lay.Goals as goal

-- one cell more of a column
more : (new from out : List ℕ) (k : ℕ) → k < length from → k < length out → new ≡ take k from ++ drop k out
    → set new k (get_or from k 0) ≡ take (k + 1) from ++ drop (k + 1) out
more new from out k h i e = ap (λ (x : List ℕ). set x k (get_or from k 0)) e ∙ rw add-one (copied_suc from out k h i)

-- all of a column
all : (new from out : List ℕ) (k : ℕ) → length from ≤ k → length out ≤ k → new ≡ take k from ++ drop k out → new ≡ from
all new from out k h i e =
    e ∙ ap (λ (x : List ℕ). x ++ drop k out) (take_all k from h) ∙ ap (λ (x : List ℕ). from ++ x) (drop_of_length-le out i) ∙ append-nil from

pub loop-k-preserved : goal.loop-k-preserved
loop-k-preserved c =
    let l = c.loop-k in
    let a = c.args in
    let h = c.loop-k-test.true in (
      length-set l.orders l.k _ ∙ l.invariant.0,
      more l.orders a.bundle.now a.orders.now l.k h (omega (arith, h, c.requires.room.0)) l.invariant.1,
      length-set l.items l.k _ ∙ l.invariant.2,
      more l.items a.itemlines.now a.items.now l.k (omega (arith, h, c.requires.even)) (omega (arith, h, c.requires.room.1)) l.invariant.3,
    )

pub returns : goal.returns
returns c =
    let l = c.loop-k in
    let a = c.args in
    let h = c.loop-k-test.false in (
      all l.orders a.bundle.now a.orders.now l.k h (omega (arith, h, c.requires.room.0)) l.invariant.1,
      all l.items a.itemlines.now a.items.now l.k (omega (arith, h, c.requires.even)) (omega (arith, h, c.requires.room.1)) l.invariant.3,
    )

pub loop-k-init : goal.loop-k-init
loop-k-init c = (refl, refl, refl, refl)
