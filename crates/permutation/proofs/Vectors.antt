-- Inversion vectors as compositions of staircase bounds: their parts, their bounds and their sum.
use mathlib.Core.Path.{◌≡◌, refl, sym, ap, subst, ◌∙◌}
use mathlib.Core.Bool.{true}
use mathlib.Core.List.{List, [], ◌∷◌}
use Prim.Native.Nat.{ℕ, zero, suc, ◌+◌, ◌-◌, ◌≤◌, ◌<◌}
use native.Mathlib.Numerals.{add-one}
use native.Mathlib.Omega.{arith}
use lib.ListN.{length, get_or}
use Rattle.walsh.specs.Sums.{sum_to}
use Rattle.walsh.specs.Order.{Composition}
use Rattle.mahonian.specs.Staircase.{staircase, is_staircase}
use Rattle.mahonian.proofs.Staircase.{staircase_iff}
use Rattle.permutation.specs.Permutation.{IsPermutation, inversion_vector, permutation_of, inversions}
use Rattle.permutation.proofs.Smaller.{inversions_sum}
use Rattle.permutation.proofs.Inverse.{Under, permutation_is, inversions_permutation, inversions_under, inversions_length}

-- ---- the staircase

pub length_staircase : (n : ℕ) → length (staircase (suc n)) ≡ n
unfolding staircase
length_staircase zero = refl
length_staircase (suc n) = ap suc (length_staircase n)

pub is_staircase_lem : (k : ℕ) → is_staircase (staircase k) ≡ true
unfolding staircase
is_staircase_lem zero = (staircase_iff []).1 refl
is_staircase_lem (suc n) =
    let size : suc n ≡ length (staircase (suc n)) + 1 = omega (arith, length_staircase n) in
    (staircase_iff (staircase (suc n))).1 (ap staircase size)

stair_at : (n i : ℕ) → i < n → get_or (staircase (suc n)) i 0 ≡ n - i
unfolding staircase
stair_at zero i h = absurd (omega arith)
stair_at (suc n) zero h = omega arith
stair_at (suc n) (suc i) h = omega (arith, stair_at n i (omega arith))

staircase_at : (ms : List ℕ) → is_staircase ms ≡ true → (i : ℕ) → i < length ms → get_or ms i 0 ≡ length ms - i
staircase_at ms e i h = ap (λ (l : List ℕ). get_or l i 0) (rw (add-one (length ms)) at ((staircase_iff ms).0 e)) ∙ stair_at (length ms) i h

pub under_at : (g : List ℕ) → Under g → (i : ℕ) → i < length g → get_or g i 0 ≤ length g - i
under_at [] u i h = absurd (omega arith)
under_at (c ∷ g) u zero h = omega (arith, u.0)
under_at (c ∷ g) u (suc i) h = omega (arith, under_at g u.1 i (omega arith))

pub at_under : (g : List ℕ) → ((i : ℕ) → i < length g → get_or g i 0 ≤ length g - i) → Under g
at_under [] fits = tt
at_under (c ∷ g) fits = (omega (arith, fits 0 (omega arith)), at_under g (λ i h. omega (arith, fits (suc i) (omega arith))))

-- ---- permutations and compositions: the bounds are a staircase of k - 1 parts

module _ (ms : List ℕ) (stairs : is_staircase ms ≡ true) where
  -- what is within the staircase of its length is a composition of its sum
  pub under_composition : (g : List ℕ) → length g ≡ length ms → Under g → Composition ms (sum_to g (length g)) g
  under_composition g size under =
      record {
        size = size;
        parts =
            record {
              fits = λ i h. omega (arith, size, staircase_at ms stairs i h, under_at g under i (omega arith));
              sums = ap (sum_to g) (sym size);
            };
      }

  -- the vector of a permutation is a composition of its inversions
  pub vector_composition : (p : List ℕ) → IsPermutation (suc (length ms)) p → Composition ms (inversions p) (inversion_vector p)
  vector_composition p perm =
      subst (λ (r : ℕ). Composition ms r (inversion_vector p)) (inversions_sum p)
      (under_composition (inversion_vector p) (inversions_length perm) (inversions_under perm))

  module _ {r : ℕ} {g : List ℕ} (comp : Composition ms r g) where
    pub composition_fits : (i : ℕ) → i < length g → get_or g i 0 ≤ length g - i
    composition_fits i h =
        let l : i < length ms = omega (arith, comp.size) in
        omega (arith, comp.size, comp.parts.fits i l, staircase_at ms stairs i l)

    pub composition_under : Under g
    composition_under = at_under g composition_fits

    -- the permutation of a composition is one, and has as many inversions as the total
    pub composition_permutation : IsPermutation (suc (length ms)) (permutation_of g)
    composition_permutation = subst (λ (n : ℕ). IsPermutation (suc n) (permutation_of g)) comp.size (permutation_is g composition_under)

    pub composition_inversions : inversions (permutation_of g) ≡ r
    composition_inversions =
        sym (inversions_sum (permutation_of g)) ∙ rw (inversions_permutation g composition_under) (ap (sum_to g) comp.size ∙ comp.parts.sums)
