-- A staircase whose N is in the table is no edition that the checks 1 to 4 refuse.
use mathlib.Core.Path.{◌≡◌, refl, ap, ◌∙◌}
use mathlib.Core.Bool.{Bool, true}
use mathlib.Core.List.{List}
use Prim.Native.Nat.{ℕ, suc, ◌+◌, ◌≤◌}
use native.Mathlib.Numerals.{add-one}
use native.Mathlib.Omega.{arith}
use borrow.Author.Tests.{ne_eqb, le-ltb, eqb-true, leb-true}
use lib.Dec.{eqb, leb}
use lib.ListN.{length}
use Rattle.walsh.specs.Tests.{both, every}
use Rattle.walsh.proofs.Tests.{both_left, both_right, every_at}
use Rattle.walsh.proofs.Cases.{on_test}
use Rattle.mahonian.specs.Mahonian.{top, in_table}
use Rattle.mahonian.specs.Staircase.{staircase, is_staircase}
use Rattle.mahonian.specs.Read.{staircase_count_of}
use Rattle.std.proofs.Common.{Option, Some, None}
use Rattle.mahonian.proofs.Rows.{staircase_sum}
use Rattle.mahonian.proofs.Staircase.{staircase_iff}
use Rattle.bounds.specs.Refusal.{first_refusal}
use Rattle.bounds.specs.Edition.{first_outside, whole, shape_checks}

-- no bound of 2 to 16 elements is over 60, and a total may be the row's last place, their sum: one test that antt computes
abbrev test : ℕ → Bool
test n = both (eqb (first_outside (staircase (n + 1)) 0) 0) (leb (top (n + 1)) 255)

tested : every test 16 ≡ true
unfolding staircase first_outside
tested = refl

module _ (ms : List ℕ) (r : ℕ) where
  abbrev n : ℕ
  n = length ms

  shaped : is_staircase ms ≡ true → 2 ≤ suc n → suc n ≤ 16 → r ≤ top (suc n) → (first_refusal (shape_checks ms r)).number ≡ 0
  unfolding first_refusal
  shaped e low high h =
      let same : ms ≡ staircase (n + 1) = (staircase_iff ms).0 e in
      let t : test n ≡ true = every_at test 16 tested n (omega arith) in
      let none : first_outside ms 0 ≡ 0 = ap (λ (l : List ℕ). first_outside l 0) same ∙ eqb-true _ 0 (both_left _ _ t) in
      let sums : whole ms ≡ top (n + 1) = ap (λ (l : List ℕ). whole l) same ∙ rw (add-one n) (staircase_sum n (omega arith)) in
      let small : top (n + 1) ≤ 255 = leb-true (top (n + 1)) 255 (both_right (eqb (first_outside (staircase (n + 1)) 0) 0) _ t) in
      let reached : r ≤ top (n + 1) = rw (add-one n) h in
      rw
      (ne_eqb n 0 (omega arith), le-ltb 24 n (omega arith), none, le-ltb 255 r (omega arith), le-ltb (whole ms) r (rw sums reached))
      refl

pub staircase_shape : (ms : List ℕ) (r : ℕ) (x : Option ℕ) (n : ℕ) → x ≡ staircase_count_of ms r → x ≡ Some n
    → (first_refusal (shape_checks ms r)).number ≡ 0
unfolding staircase_count_of
staircase_shape ms r x n e q =
    on_test (both (is_staircase ms) (in_table (suc (length ms)) r))
    (λ t.
    let i = both_right (is_staircase ms) _ t in
    let j = both_right (leb 2 (suc (length ms))) _ i in
    shaped ms r
    (both_left (is_staircase ms) _ t)
    (leb-true 2 (suc (length ms)) (both_left _ _ i))
    (leb-true (suc (length ms)) 16 (both_left _ _ j))
    (leb-true r (top (suc (length ms))) (both_right (leb (suc (length ms)) 16) _ j)))
    (λ t. let c : x ≡ None = rw t at e in cc)
