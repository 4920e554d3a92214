-- The reading by major index is faithful; so M(k, r) also counts the permutations with major index r (MacMahon's theorem).
use mathlib.Core.Path.{◌≡◌, ap, subst, ◌∙◌}
use mathlib.Core.Bool.{true}
use mathlib.Core.List.{List}
use Prim.Native.Nat.{ℕ, zero, suc, ◌+◌, ◌≤◌}
use native.Mathlib.Numerals.{add-one}
use native.Mathlib.Omega.{arith}
use lib.ListN.{length}
use Rattle.walsh.specs.Sums.{sum_to}
use Rattle.walsh.specs.Order.{Composition}
use Rattle.mahonian.specs.Staircase.{staircase, is_staircase}
use Rattle.permutation.specs.Permutation.{IsPermutation}
use Rattle.permutation.specs.Reading.{Reading, by_inversions, PermutationWith, Faithful}
use Rattle.permutation.specs.Numbered.{permutations_of, Numbered}
use Rattle.permutation.proofs.Counts.{permutation}
use Rattle.permutation.proofs.Vectors.{under_composition, composition_under, is_staircase_lem, length_staircase}
use Rattle.permutation.proofs.ByInversions.{by_inversions_lem}
use Rattle.permutation.proofs.Mahonian.{numbered}
use Rattle.major.specs.Major.{major_permutation, major_code}
use Rattle.major.specs.Reading.{by_major}
use Rattle.major.specs.Matched.{partner, Matched}
use Rattle.major.proofs.Index.{major_sum}
use Rattle.major.proofs.Codes.{code_major}
use Rattle.major.proofs.Coded.{major_counted, major_code_lem, code_under, code_length, code_sum}

one_more : {n r : ℕ} {p : List ℕ} → PermutationWith by_major (n + 1) r p → IsPermutation (suc n) p
one_more {n} {r} {p} perm = rw (add-one n) at perm.is

pub by_major_lem : Faithful by_major
by_major_lem =
    record {
      refuses = omega arith;
      permutation_is =
          λ ms r g stairs comp.
          let u = composition_under ms stairs comp in
          record {
            is =
                rw (add-one (length ms))
                (subst (λ (n : ℕ). IsPermutation (suc n) (major_permutation g)) comp.size (permutation (major_counted g u)));
            total = major_sum g u ∙ ap (sum_to g) comp.size ∙ comp.parts.sums;
          };
      composition_is =
          λ ms r p stairs perm.
          let is = one_more perm in
          subst (λ (t : ℕ). Composition ms t (major_code p)) (code_sum is ∙ perm.total)
          (under_composition ms stairs (major_code p) (code_length is) (code_under is));
      composition_back = λ ms r g stairs comp. code_major g (composition_under ms stairs comp);
      permutation_back = λ ms r p stairs perm. major_code_lem (one_more perm);
    }

-- "Over the whole edition they must give all orders of that major index, each exactly once."
pub major_numbers : (k r : ℕ) → 1 ≤ k → Numbered by_major k r (permutations_of by_major k r)
major_numbers = numbered by_major_lem

-- ---- MacMahon's theorem

-- of 1..n + 1
module _ {one other : Reading} (faithful : Faithful one) (faithful' : Faithful other) (n r : ℕ) where
  abbrev ms : List ℕ
  ms = staircase (suc n)

  stairs : is_staircase ms ≡ true
  stairs = is_staircase_lem (suc n)

  size : length ms + 1 ≡ suc n
  size = omega (arith, length_staircase n)

  module _ (p : List ℕ) (perm : PermutationWith one (suc n) r p) where
    comp : Composition ms r (one.composition p)
    comp = faithful.composition_is ms r p stairs (rw size perm)

    there : PermutationWith other (suc n) r (partner one other p)
    there = rw size at (faithful'.permutation_is ms r (one.composition p) stairs comp)

    back : partner other one (partner one other p) ≡ p
    back =
        ap one.permutation (faithful'.composition_back ms r (one.composition p) stairs comp)
        ∙ faithful.permutation_back ms r p stairs (rw size perm)

matched : {one other : Reading} → Faithful one → Faithful other → (k r : ℕ) → 1 ≤ k → Matched one other k r
matched faithful faithful' zero r h = absurd (omega arith)
matched faithful faithful' (suc n) r h = record { there = there faithful faithful' n r; back = back faithful faithful' n r }

-- as many permutations of 1..k have major index r as have r inversions: each has its partner among the others. There are M(k, r) of both
-- (`major_numbers`, `mahonian_numbers`).
pub macmahon : (k r : ℕ) → 1 ≤ k → Matched by_major by_inversions k r × Matched by_inversions by_major k r
macmahon k r h = (matched by_major_lem by_inversions_lem k r h, matched by_inversions_lem by_major_lem k r h)
