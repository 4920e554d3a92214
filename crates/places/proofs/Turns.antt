-- What one turn of `is_other` does: a part over its bound, or a sum over the total, is found, or all are passed.
use mathlib.Core.Path.{◌≡◌, refl, sym, ap, ◌∙◌}
use mathlib.Core.Bool.{Bool, true, false, not}
use mathlib.Core.List.{List}
use Prim.Native.Nat.{ℕ, suc, ◌+◌, ◌-◌, ◌≤◌, ◌<◌}
use native.Mathlib.Numerals.{add-one}
use native.Mathlib.Decide.{dec_le}
use native.Mathlib.Omega.{arith}
use lib.Dec.{eqb}
use lib.ListN.{length, get_or}
use borrow.Author.Tests.{le-leb, lt-leb, eq-eqb, ne_eqb}
use Rattle.walsh.specs.Sums.{sum_to}
use Rattle.walsh.specs.Tests.{either, every}
use Rattle.walsh.proofs.Tests.{every_not}
use Rattle.walsh.proofs.Lists.{sum_to_mono}
use Rattle.bounds.specs.Edition.{whole}
use Rattle.bounds.specs.Places.{is_within, is_other}

either_true : (b : Bool) → either b true ≡ true
either_true true = refl
either_true false = refl

-- nothing is left of the total exactly if it is the sum
eqb_same : (left sum total : ℕ) → left + sum ≡ total → eqb left 0 ≡ eqb sum total
eqb_same left sum total e = go (dec_le left 0)
  where
    go : Dec (left ≤ 0) → eqb left 0 ≡ eqb sum total
    go (yes l) = eq-eqb left 0 (omega arith) ∙ sym (eq-eqb sum total (omega arith))
    go (no l) = ne_eqb left 0 (λ q. l (omega arith)) ∙ sym (ne_eqb sum total (λ q. l (omega arith)))

module _ (ms : List ℕ) (r : ℕ) (g : List ℕ) (i : ℕ) where
  pub within_turn : {u v : ℕ} → u ≡ get_or ms i 0 → v ≡ get_or g i 0 → v ≤ u → every (is_within ms g) i ≡ true → every (is_within ms g) (i + 1) ≡ true
  within_turn eu ev l e = rw (add-one i, le-leb (get_or g i 0) (get_or ms i 0) (omega arith)) e

  pub left_turn : {v : ℕ} → v ≡ get_or g i 0 → (left : ℕ) → v ≤ left → left + sum_to g i ≡ r → left - v + sum_to g (i + 1) ≡ r
  left_turn ev left l e = rw (add-one i) (omega arith)

  pub other_over : i < length ms → {u v : ℕ} → u ≡ get_or ms i 0 → v ≡ get_or g i 0 → u < v → true ≡ is_other ms r g
  other_over h eu ev l = rw (every_not (is_within ms g) (length ms) i h (lt-leb (get_or g i 0) (get_or ms i 0) (omega arith)))

  pub other_sum : i < length g → {v : ℕ} → v ≡ get_or g i 0 → (left : ℕ) → left < v → left + sum_to g i ≡ r → true ≡ is_other ms r g
  other_sum h ev left l e =
      let more : (whole g ≡ r → ⊥) = λ q. omega (arith, sum_to_mono g (suc i) (length g) h) in
      rw (ne_eqb (whole g) r more) (sym (either_true (not (every (is_within ms g) (length ms)))))

  pub other_end : length g ≡ length ms → i ≡ length g → every (is_within ms g) i ≡ true → (left : ℕ) → left + sum_to g i ≡ r
      → not (eqb left 0) ≡ is_other ms r g
  other_end size all within left e =
      let full : every (is_within ms g) (length ms) ≡ true = rw (← size, ← all) within in
      rw (full, ← all) (ap not (eqb_same left (sum_to g i) r e))
