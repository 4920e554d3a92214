-- `step::batch::lay` meets its contract.
use mathlib.Core.Path.{◌≡◌, sym, ap, ◌∙◌}
use mathlib.Core.List.{List, [], ◌∷◌, ◌++◌, append-nil}
use Prim.Native.Nat.{ℕ, suc, ◌-◌, ◌≤◌, ◌<◌}
use native.Mathlib.Nat.{le_refl}
use native.Mathlib.Omega.{arith}
use lib.ListN.{length, get_or, set, take, drop, length-take, length-drop, drop_of_length-le}
use Rattle.bounds.proofs.Cells.{copied_same, copied_over}
use Rattle.step.proofs.batch.lay.Goals as goal

-- the first cell, and behind it as many of the others as there is room for
laid : (cells out ys : List ℕ) → 0 < length out → length out ≤ length cells → ys ≡ take (length out - 1) (drop 1 cells)
    → set (take 1 out ++ (ys ++ drop (length out - 1) (drop 1 out))) 0 (get_or cells 0 0) ≡ take (length out) cells
laid [] out ys some few e = absurd (omega arith)
laid (x ∷ cells) [] ys some few e = absurd (omega arith)
laid (x ∷ cells) (y ∷ out) ys some few e =
    let n : suc (length out) - 1 ≡ length out = omega arith in
    ap (λ (l : List ℕ). x ∷ l) (rw (n, drop_of_length-le out (le_refl (length out))) (append-nil ys ∙ rw n at e))

pub returns-then-room-ge24 : goal.returns-then-room-ge24
returns-then-room-ge24 c = c.store.ensures

-- as many cells as there is room for
same_at : (cells out : List ℕ) → length cells ≡ 24 → length out < 24
    → length (take (length out - 1) (drop 1 out)) ≡ length (take (length out - 1) (drop 1 cells))
same_at cells out e l = simp (length-take, length-drop) (omega arith)

pub returns : goal.returns
returns c =
    let start = c in
    let short = c.if-room-ge24.false in
    let cells = start.args.cells.now in
    let out = start.args.out.now in
    let ys : List ℕ = c.copy.new.out in
    let few : length out ≤ length cells = omega (arith, start.requires.0) in
    laid cells out ys start.requires.1 few
    (c.copy.ensures ∙ copied_same _ _ (same_at cells out start.requires.0 (omega arith)))
    ∙ sym (copied_over cells out few)
