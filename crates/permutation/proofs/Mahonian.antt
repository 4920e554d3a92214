-- Document 01, "Counting table": M(k, r) is the number of permutations of 1..k with r inversions. By any faithful reading, it is that of the
-- permutations whose total is r.
use mathlib.Core.Path.{◌≡◌, refl, sym, ap, ◌∙◌}
use mathlib.Core.Bool.{true}
use mathlib.Core.List.{List, [], ◌∷◌, map}
use Prim.Native.Nat.{ℕ, zero, suc, ◌+◌, ◌≤◌, ◌<◌}
use native.Mathlib.Omega.{arith}
use lib.ListN.{length, get_or, length-map}
use Rattle.walsh.specs.Order.{Composition, order, count_of}
use Rattle.walsh.proofs.Complete.{order_length, complete, once}
use Rattle.mahonian.specs.Mahonian.{mahonian}
use Rattle.mahonian.specs.Staircase.{staircase, is_staircase}
use Rattle.mahonian.proofs.Counting.{mahonian_count}
use Rattle.permutation.specs.Reading.{Reading, by_inversions, PermutationWith, Faithful}
use Rattle.permutation.specs.Numbered.{permutations_of, Numbered}
use Rattle.permutation.proofs.Vectors.{is_staircase_lem, length_staircase}
use Rattle.permutation.proofs.ByInversions.{by_inversions_lem}

-- the entry of a place, and not of one past the end: f need not leave `[]` as it is
map_at : (f : List ℕ → List ℕ) (gs : List (List ℕ)) (s : ℕ) → s < length gs → get_or (map f gs) s [] ≡ f (get_or gs s [])
map_at f [] s h = absurd (omega arith)
map_at f (g ∷ gs) zero h = refl
map_at f (g ∷ gs) (suc s) h = map_at f gs s (omega arith)

module _ {reading : Reading} (faithful : Faithful reading) (n r : ℕ) where
  abbrev ms : List ℕ
  ms = staircase (suc n)

  abbrev ps : List (List ℕ)
  ps = map reading.permutation (order ms r)

  stairs : is_staircase ms ≡ true
  stairs = is_staircase_lem (suc n)

  size : length ms + 1 ≡ suc n
  size = omega (arith, length_staircase n)

  same : length ps ≡ length (order ms r)
  same = length-map (order ms r) reading.permutation

  count_is : length ps ≡ mahonian (suc n) r
  unfolding count_of
  count_is = same ∙ order_length ms r ∙ sym (mahonian_count n r)

  module _ (s : ℕ) (l : s < length ps) where
    abbrev g : List ℕ
    g = get_or (order ms r) s []

    within : s < length (order ms r)
    within = rw same at l

    at_is : Composition ms r g
    at_is = (complete ms r g).1 (s, within, refl)

    sound : PermutationWith reading (suc n) r (get_or ps s [])
    sound = rw (map_at reading.permutation (order ms r) s within) (rw size at (faithful.permutation_is ms r g stairs at_is))

    back : reading.composition (get_or ps s []) ≡ g
    back = rw (map_at reading.permutation (order ms r) s within) (faithful.composition_back ms r g stairs at_is)

  stands : (p : List ℕ) → PermutationWith reading (suc n) r p → (s : ℕ) × (s < length ps) × (get_or ps s [] ≡ p)
  stands p perm =
      let perm' : PermutationWith reading (length ms + 1) r p = rw size perm in
      let place = (complete ms r (reading.composition p)).0 (faithful.composition_is ms r p stairs perm') in (
        place.0,
        rw same place.1,
        map_at reading.permutation (order ms r) place.0 place.1
            ∙ ap reading.permutation place.2
            ∙ faithful.permutation_back ms r p stairs perm',
      )

  once_only : (s s' : ℕ) → s < length ps → s' < length ps → get_or ps s [] ≡ get_or ps s' [] → s ≡ s'
  once_only s s' l l' e = once ms r s s' (within s l) (within s' l') (sym (back s l) ∙ ap reading.composition e ∙ back s' l')

-- the permutations of the compositions are those whose total is r, each once, and M(k, r) is their number, for every k and r
pub numbered : {reading : Reading} → Faithful reading → (k r : ℕ) → 1 ≤ k → Numbered reading k r (permutations_of reading k r)
unfolding permutations_of
numbered faithful zero r h = absurd (omega arith)
numbered faithful (suc n) r h =
    record { number = count_is faithful n r; sound = sound faithful n r; complete = stands faithful n r; once = once_only faithful n r }

-- of inversions
pub mahonian_numbers : (k r : ℕ) → 1 ≤ k → Numbered by_inversions k r (permutations_of by_inversions k r)
mahonian_numbers = numbered by_inversions_lem
