-- The lone statement: every row of the table holds. It is computed over the whole table at once.
use mathlib.Core.Path.{◌≡◌, refl, ap}
use mathlib.Core.Logic.{◌⊎◌, inl, inr}
use mathlib.Core.List.Memᴰ
use mathlib.Core.List.{List, [], ◌∷◌, map, Memᴰ}
use lib.ListN.{get_or, drop}
use Rattle.walsh.specs.Order.{listing, order, count, count_of}
use Rattle.walsh.specs.Serial.{same, place_of, serial_of, composition_of}
use Rattle.walsh.specs.Transition.{gain_from, transition_at}
use Rattle.digits.specs.Digits.{weighted_sum}
use Rattle.bounds.specs.Refusal.{first_refusal}
use Rattle.bounds.specs.Edition.{first_outside, cells_of}
use Rattle.bounds.specs.Places.{filling}
use Rattle.mahonian.specs.Staircase.{staircase, is_staircase}
use Rattle.rank.specs.Rank.{rank_answer}
use Rattle.step.specs.Steps.{step_of}
use Rattle.permutation.specs.Permutation.{is_permutation, inversions, permutation_of, lift, inversion_vector}
use Rattle.permutation.specs.Conversions.{to_permutation, to_composition}
use Rattle.major.specs.Major.{major_index, turn_rows, major_permutation, major_code}
use Rattle.model.specs.Printing.{compositions}
use Rattle.model.specs.Model.{answer, after, book_from}
use Rattle.model.specs.Record.{opened, opening, consistent, answered, record_after, column_after, run}
use Rattle.boundary.specs.Row.{Row, given, claimed, Holds}
use Rattle.boundary.specs.Rows.{rows}

all_hold : map given rows ≡ map claimed rows
unfolding rows same place_of serial_of composition_of order listing count_of count first_refusal first_outside cells_of rank_answer step_of
    gain_from transition_at filling staircase is_staircase is_permutation inversions permutation_of lift inversion_vector major_index turn_rows
    major_permutation major_code to_permutation to_composition
    compositions opened opening consistent answered record_after column_after run answer after book_from weighted_sum
all_hold = refl

agree : (l : List Row) → map given l ≡ map claimed l → (row : Row) → Memᴰ row l → Holds row
agree [] e row m = absurd (Memᴰ.not-nil m)
agree (x ∷ l) e row m = go (Memᴰ.cases_cons m) (agree l (ap (drop 1) e) row)
  where
    go : (row ≡ x) ⊎ Memᴰ row l → (Memᴰ row l → Holds row) → Holds row
    go (inl is) rest = rw is (ap (λ gs. get_or gs 0 []) e)
    go (inr m') rest = rest m'

pub boundary : (row : Row) → Memᴰ row rows → Holds row
boundary = agree rows all_hold
