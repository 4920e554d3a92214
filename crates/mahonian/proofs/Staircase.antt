-- Staircase bounds: the test at a place, what it says of the bounds, and that the table has their count.
use mathlib.Core.Path.{◌≡◌, refl, sym, ap, ◌∙◌}
use mathlib.Core.Bool.{true, false}
use mathlib.Core.Logic.{◌↔◌}
use mathlib.Core.List.{List, ◌∷◌}
use Prim.Native.Nat.{ℕ, zero, suc, ◌+◌, ◌-◌, ◌≤◌, ◌<◌}
use native.Mathlib.Numerals.{add-one}
use native.Mathlib.Omega.{arith}
use borrow.Author.Tests.{le-leb, lt-leb, eq-eqb, ne_eqb}
use lib.Dec.{eqb}
use lib.ListN.{length, get_or, drop, length-drop, drop_of_length-le}
use lib.Seq.{drop-cons}
use Rattle.walsh.specs.Tests.{both}
use Rattle.walsh.specs.Withdrawn.{kept}
use Rattle.walsh.specs.Order.{count_of}
use Rattle.walsh.specs.Serial.{same}
use Rattle.walsh.proofs.Tests.{both_none}
use Rattle.walsh.proofs.Serials.{same_refl, same_eq}
use Rattle.mahonian.specs.Staircase.{staircase, is_staircase}
use Rattle.mahonian.specs.Read.{read_of, staircase_count_of}
use Rattle.std.proofs.Common.{None}
use Rattle.mahonian.proofs.Counting.{mahonian_count}

-- ---- the test, at a place

staircase_cons : (m : ℕ) (ms : List ℕ) → is_staircase (m ∷ ms) ≡ both (eqb m (suc (length ms))) (is_staircase ms)
unfolding is_staircase same staircase
staircase_cons m ms = refl

module _ (ms : List ℕ) (i : ℕ) (h : i < length ms) where
  opened : is_staircase (drop i ms) ≡ both (eqb (get_or ms i 0) (length ms - i)) (is_staircase (drop (i + 1) ms))
  opened =
      let size : suc (length (drop (suc i) ms)) ≡ length ms - i = omega (arith, length-drop (suc i) ms) in
      rw (add-one i, drop-cons ms i 0 h) (staircase_cons (get_or ms i 0) (drop (suc i) ms) ∙ rw size)

  pub staircase_next : get_or ms i 0 ≡ length ms - i → is_staircase (drop i ms) ≡ is_staircase (drop (i + 1) ms)
  staircase_next e = opened ∙ rw (eq-eqb (get_or ms i 0) (length ms - i) e)

  pub staircase_not : (get_or ms i 0 ≡ length ms - i → ⊥) → is_staircase (drop i ms) ≡ false
  staircase_not e = opened ∙ rw (ne_eqb (get_or ms i 0) (length ms - i) e)

pub staircase_end : (ms : List ℕ) (i : ℕ) → length ms ≤ i → is_staircase (drop i ms) ≡ true
unfolding is_staircase same staircase
staircase_end ms i h = rw (drop_of_length-le ms h)

-- ---- the bounds

pub staircase_iff : (ms : List ℕ) → (is_staircase ms ≡ true) ↔ (ms ≡ staircase (length ms + 1))
unfolding is_staircase
staircase_iff ms =
    rw (add-one (length ms)) (same_eq ms (staircase (suc (length ms))), λ e. ap (same ms) (sym e) ∙ same_refl ms)

-- ---- what is read

pub staircase_read : (ms : List ℕ) (r : ℕ) → is_staircase ms ≡ true → read_of (length ms + 1) r ≡ staircase_count_of ms r
unfolding read_of staircase_count_of is_staircase
staircase_read ms r e =
    let n : ℕ = length ms in
    let counts = mahonian_count n r ∙ ap (λ (l : List ℕ). count_of l r) (sym (same_eq ms (staircase (suc n)) e)) in
    rw (add-one n, e, counts)

pub staircase_other : (ms : List ℕ) (r : ℕ) → is_staircase ms ≡ false → staircase_count_of ms r ≡ None
unfolding staircase_count_of
staircase_other ms r e = rw e

pub staircase_long : (ms : List ℕ) (r : ℕ) → 15 < length ms → staircase_count_of ms r ≡ None
unfolding staircase_count_of
staircase_long ms r h = rw (le-leb 2 (suc (length ms)) (omega arith), lt-leb (suc (length ms)) 16 (omega arith), both_none (is_staircase ms))

-- ---- request (ii): "puzzle editions keep their ceilings"; none of them is 0

kept_staircase : (k : ℕ) → kept (staircase k) ≡ staircase k
unfolding staircase
kept_staircase zero = refl
kept_staircase (suc zero) = refl
kept_staircase (suc (suc n)) = ap (λ (l : List ℕ). suc n ∷ l) (kept_staircase (suc n))

pub staircase_kept : (ms : List ℕ) → is_staircase ms ≡ true → kept ms ≡ ms
staircase_kept ms e =
    let is : ms ≡ staircase (length ms + 1) = (staircase_iff ms).0 e in
    ap (λ (l : List ℕ). kept l) is ∙ kept_staircase (length ms + 1) ∙ sym is
