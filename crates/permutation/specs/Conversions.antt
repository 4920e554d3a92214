-- Document 01, "Sheet orders" and "Refusals by place of checking": "Both ways are built: mix to order fills a lent part of k bytes, order to
-- mix one of n bytes." The refusals are those of the places 'edition', 'sheet orders', 'mix given' and 'lent part', in the table's order.
use Rattle.std.specs.Prelude.{◌≡◌, refl, not, List, [], ◌∷◌, ◌++◌, ℕ, ◌+◌, eqb, length}
use Rattle.walsh.specs.Order.{count, count_of}
use Rattle.walsh.specs.Serial.{same}
use Rattle.bounds.specs.Refusal.{Check, check, refused, first_refusal}
use Rattle.bounds.specs.Edition.{edition_checks, first_outside}
use Rattle.bounds.specs.Places.{composition_checks, lent_checks, filling}
use Rattle.bounds.specs.declared.Refusal.{Refusal}
use Rattle.mahonian.specs.Staircase.{staircase, is_staircase}
use Rattle.permutation.specs.Permutation.{is_permutation, inversions}
use Rattle.permutation.specs.Reading.{Reading, by_inversions}

-- ---- the place 'sheet orders'

-- "not a puzzle edition"
abbrev pub staircase_checks : List ℕ → List Check
staircase_checks ms = check 10 (not (is_staircase ms)) 0 ∷ []

-- "length isn't k, or not a permutation of 1..k"
abbrev pub permutation_checks : List ℕ → List ℕ → List Check
permutation_checks ms p = check 11 (not (is_permutation (length ms + 1) p)) 0 ∷ []

-- the total, under the reading's number
abbrev pub statistic_checks : Reading → ℕ → List ℕ → List Check
statistic_checks reading r p = check reading.number (not (eqb (reading.statistic p) r)) 0 ∷ []

-- ---- the two calls, over the bounds ms and the total r, with the lent part out

-- mix to order: a part of k bytes
abbrev pub to_permutation_checks : List ℕ → ℕ → List ℕ → ℕ → List Check
to_permutation_checks ms r g room = edition_checks ms r ++ staircase_checks ms ++ composition_checks ms r g ++ lent_checks (length ms + 1) room

unfoldable pub to_permutation : Reading → List ℕ → ℕ → List ℕ → List ℕ → Refusal × List ℕ
to_permutation reading ms r g out = filling (to_permutation_checks ms r g (length out)) (reading.permutation g) out

-- order to mix: a part of n bytes
abbrev pub to_composition_checks : Reading → List ℕ → ℕ → List ℕ → ℕ → List Check
to_composition_checks reading ms r p room =
    edition_checks ms r ++ staircase_checks ms ++ permutation_checks ms p ++ statistic_checks reading r p ++ lent_checks (length ms) room

unfoldable pub to_composition : Reading → List ℕ → ℕ → List ℕ → List ℕ → Refusal × List ℕ
to_composition reading ms r p out = filling (to_composition_checks reading ms r p (length out)) (reading.composition p) out

-- sheets that are no permutation, have no inversion and come with too short a part, where the total is 1: 11 is the first of 11, 12 and 13
first_of_three : to_composition by_inversions (2 ∷ 1 ∷ []) 1 (1 ∷ 3 ∷ 3 ∷ []) [] ≡ (refused 11 0, [])
unfolding to_composition filling first_refusal first_outside count_of count same staircase is_staircase is_permutation inversions
first_of_three = refl
