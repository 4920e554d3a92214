-- The reading by inversions is faithful.
use mathlib.Core.Path.{subst}
use mathlib.Core.List.{List}
use Prim.Native.Nat.{ℕ, suc, ◌+◌}
use native.Mathlib.Numerals.{add-one}
use native.Mathlib.Omega.{arith}
use lib.ListN.{length}
use Rattle.walsh.specs.Order.{Composition}
use Rattle.permutation.specs.Permutation.{IsPermutation, inversion_vector}
use Rattle.permutation.specs.Reading.{by_inversions, PermutationWith, Faithful}
use Rattle.permutation.proofs.Inverse.{inversions_permutation, permutation_inversions}
use Rattle.permutation.proofs.Vectors.{vector_composition, composition_under, composition_permutation, composition_inversions}

one_more : {n r : ℕ} {p : List ℕ} → PermutationWith by_inversions (n + 1) r p → IsPermutation (suc n) p
one_more {n} {r} {p} perm = rw (add-one n) at perm.is

pub by_inversions_lem : Faithful by_inversions
by_inversions_lem =
    record {
      refuses = omega arith;
      permutation_is =
          λ ms r g stairs comp.
          record { is = rw (add-one (length ms)) (composition_permutation ms stairs comp); total = composition_inversions ms stairs comp };
      composition_is =
          λ ms r p stairs perm.
          subst (λ (t : ℕ). Composition ms t (inversion_vector p)) perm.total (vector_composition ms stairs p (one_more perm));
      composition_back = λ ms r g stairs comp. inversions_permutation g (composition_under ms stairs comp);
      permutation_back = λ ms r p stairs perm. permutation_inversions (one_more perm);
    }
