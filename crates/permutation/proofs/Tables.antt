-- What the tables of the two calls say where they refuse nothing, for any reading.
use mathlib.Core.Path.{◌≡◌, refl, sym, ap, ◌∙◌}
use mathlib.Core.Bool.{Bool, true, false}
use mathlib.Core.List.{List, ◌++◌}
use Prim.Native.Nat.{ℕ, ◌+◌, ◌-◌, ◌≤◌, ◌<◌}
use native.Mathlib.Omega.{arith}
use lib.ListN.{length, get_or}
use borrow.Author.Tests.{eqb-true, eq-eqb, ne_eqb, lt-ltb, not-false}
use Rattle.walsh.specs.Order.{Composition}
use Rattle.bounds.specs.Refusal.{Check, refused, first_refusal}
use Rattle.bounds.specs.Edition.{edition_checks}
use Rattle.bounds.specs.Places.{composition_checks, filling}
use Rattle.bounds.specs.declared.Refusal.{Refusal}
use Rattle.bounds.specs.declared.Reason.{Reason}
use Rattle.bounds.specs.Reason.{coded}
use Rattle.bounds.proofs.Reasons.{coded-number}
use Rattle.bounds.proofs.Filling.{filling_refused}
use Rattle.bounds.proofs.Refusals.{numbered, passed}
use Rattle.bounds.proofs.Editions.{edition_shapely}
use Rattle.bounds.proofs.Places.{lent_passed, lent_passes}
use Rattle.bounds.proofs.Compositions.{composition_passed, composition_passes}
use Rattle.bounds.proofs.Chains.{Accepts, accepts_split, accepts_join}
use Rattle.mahonian.specs.Staircase.{is_staircase}
use Rattle.permutation.specs.Permutation.{IsPermutation, is_permutation}
use Rattle.permutation.specs.Reading.{Reading, PermutationWith}
use Rattle.permutation.specs.Conversions.{staircase_checks, permutation_checks, statistic_checks}
use Rattle.permutation.specs.Conversions.{to_permutation_checks, to_composition_checks}
use Rattle.permutation.proofs.Counts.{is_permutation_lem}
use Rattle.permutation.proofs.Vectors.{composition_fits}

pub number_of_lem : {v w : Refusal} → v ≡ w → v.number ≡ w.number
number_of_lem e = ap (λ (v : Refusal). v.number) e

-- a call that fills a lent part and is refused leaves it as it was
pub filling_reason : (e : Reason) (checks : List Check) (bytes out : List ℕ) → coded e ≡ first_refusal checks
    → ◌≡◌ {A = Refusal × List ℕ} (coded e, out) (filling checks bytes out)
filling_reason e checks bytes out is = filling_refused checks bytes out is (λ none. omega (arith, coded-number e))

-- ---- the bounds

-- the bounds are a staircase of 1 to 24 parts
pub record Staircase (ms : List ℕ) (r : ℕ) : Type 0 where
  pub edition : Accepts (edition_checks ms r)
  pub stairs : is_staircase ms ≡ true

-- what the test t says of the table
module _ (ms : List ℕ) {t : Bool} (e : t ≡ is_staircase ms) {v : Refusal} where
  pub staircase_yes : t ≡ true → v ≡ refused 0 0 → v ≡ first_refusal (staircase_checks ms)
  unfolding first_refusal
  staircase_yes h is = rw (← e, h) is

  pub staircase_no : t ≡ false → v ≡ refused 10 0 → v ≡ first_refusal (staircase_checks ms)
  unfolding first_refusal
  staircase_no h is = rw (← e, h) is

module _ (ms : List ℕ) (r : ℕ) where
  staircase_passed : Accepts (edition_checks ms r) → Accepts (staircase_checks ms) → Staircase ms r
  staircase_passed e s = record { edition = e; stairs = not-false _ (passed _ _ refl s).0 }

  staircase_passes : is_staircase ms ≡ true → Accepts (staircase_checks ms)
  unfolding first_refusal
  staircase_passes e = rw e

  edition_few : Accepts (edition_checks ms r) → length ms ≤ 24
  edition_few e = (edition_shapely ms r e).few

  pub staircase_few : {v : Refusal} → v ≡ first_refusal (edition_checks ms r ++ staircase_checks ms) → v.number ≡ 0 → length ms ≤ 24
  staircase_few {v} e none = edition_few (accepts_split (edition_checks ms r) _ refl (number_of_lem (sym e) ∙ none)).0

-- ---- mix to order

module _ (ms : List ℕ) (r : ℕ) (g : List ℕ) (room : ℕ) where
  pub to_permutation_passed : Accepts (to_permutation_checks ms r g room) → Staircase ms r × Composition ms r g × (room ≡ length ms + 1)
  to_permutation_passed e =
      let a = accepts_split (edition_checks ms r) _ refl e in
      let b = accepts_split (staircase_checks ms) _ refl a.1 in
      let c = accepts_split (composition_checks ms r g) _ refl b.1 in
      (staircase_passed ms r a.0 b.0, composition_passed ms r g c.0, lent_passed (length ms + 1) room c.1)

  pub to_permutation_passes : Staircase ms r → Composition ms r g → room ≡ length ms + 1 → Accepts (to_permutation_checks ms r g room)
  to_permutation_passes s comp fits =
      accepts_join (edition_checks ms r) _ refl s.edition
      (accepts_join (staircase_checks ms) _ refl (staircase_passes ms r s.stairs)
      (accepts_join (composition_checks ms r g) _ refl (number_of_lem (composition_passes ms r g comp))
      (number_of_lem (lent_passes (length ms + 1) room fits))))

  -- what `fill_permutation` asks
  pub to_permutation_ready : {v : Refusal} → v ≡ first_refusal (to_permutation_checks ms r g room) → v.number ≡ 0
      → (length g ≤ 24) × (room ≡ length g + 1) × ((i : ℕ) → i < length g → get_or g i 0 ≤ length g - i)
  to_permutation_ready {v} e none =
      let known = to_permutation_passed (number_of_lem (sym e) ∙ none) in
      let size = known.1.size in
      (omega (arith, size, edition_few ms r known.0.edition), omega (arith, size, known.2), composition_fits ms known.0.stairs known.1)

-- ---- order to mix

module _ (ms p : List ℕ) where
  -- what the test t says of the table
  module _ {t : Bool} (e : t ≡ is_permutation (length ms + 1) p) {v : Refusal} where
    pub permutation_yes : t ≡ true → v ≡ refused 0 0 → v ≡ first_refusal (permutation_checks ms p)
    unfolding first_refusal
    permutation_yes h is = rw (← e, h) is

    pub permutation_no : t ≡ false → v ≡ refused 11 0 → v ≡ first_refusal (permutation_checks ms p)
    unfolding first_refusal
    permutation_no h is = rw (← e, h) is

  permutation_passed : Accepts (permutation_checks ms p) → IsPermutation (length ms + 1) p
  permutation_passed e = (is_permutation_lem (length ms + 1) p).0 (not-false _ (passed _ _ refl e).0)

  permutation_passes : IsPermutation (length ms + 1) p → Accepts (permutation_checks ms p)
  unfolding first_refusal
  permutation_passes perm = rw ((is_permutation_lem (length ms + 1) p).1 perm)

  -- what `permutation_refusal` says where it refuses nothing
  pub permutation_known : (r : ℕ) {v : Refusal} → v ≡ first_refusal (edition_checks ms r ++ staircase_checks ms ++ permutation_checks ms p) → v.number ≡ 0
      → (length ms ≤ 24) × IsPermutation (length ms + 1) p
  permutation_known r {v} e none =
      let a = accepts_split (edition_checks ms r) _ refl (number_of_lem (sym e) ∙ none) in
      (edition_few ms r a.0, permutation_passed (accepts_split (staircase_checks ms) _ refl a.1).1)

-- the code found n where the total is r
module _ (reading : Reading) (r : ℕ) (p : List ℕ) {n : ℕ} (found : n ≡ reading.statistic p) (rest : List Check) {v : Refusal} where
  pub statistic_other : 0 < reading.number → (n ≡ r → ⊥) → v ≡ refused reading.number 0 → v ≡ first_refusal (statistic_checks reading r p ++ rest)
  unfolding first_refusal
  statistic_other refuses other is = rw (ne_eqb (reading.statistic p) r (λ e. other (found ∙ e))) is

  pub statistic_same : n ≡ r → v ≡ first_refusal rest → v ≡ first_refusal (statistic_checks reading r p ++ rest)
  unfolding first_refusal
  statistic_same same is = rw (eq-eqb (reading.statistic p) r (sym found ∙ same)) is

module _ (reading : Reading) (refuses : 0 < reading.number) (ms : List ℕ) (r : ℕ) (p : List ℕ) where
  statistic_numbered : numbered (statistic_checks reading r p) ≡ true
  statistic_numbered = rw (lt-ltb 0 reading.number refuses)

  statistic_passed : Accepts (statistic_checks reading r p) → reading.statistic p ≡ r
  statistic_passed e = eqb-true (reading.statistic p) r (not-false _ (passed _ _ statistic_numbered e).0)

  statistic_passes : reading.statistic p ≡ r → Accepts (statistic_checks reading r p)
  unfolding first_refusal
  statistic_passes e = rw (eq-eqb (reading.statistic p) r e)

  module _ (room : ℕ) where
    pub to_composition_numbered : numbered (to_composition_checks reading ms r p room) ≡ true
    to_composition_numbered = rw (lt-ltb 0 reading.number refuses)

    pub to_composition_passed : Accepts (to_composition_checks reading ms r p room)
        → Staircase ms r × PermutationWith reading (length ms + 1) r p × (room ≡ length ms)
    to_composition_passed e =
        let a = accepts_split (edition_checks ms r) _ refl e in
        let b = accepts_split (staircase_checks ms) _ refl a.1 in
        let c = accepts_split (permutation_checks ms p) _ refl b.1 in
        let d = accepts_split (statistic_checks reading r p) _ statistic_numbered c.1 in (
          staircase_passed ms r a.0 b.0,
          record { is = permutation_passed ms p c.0; total = statistic_passed d.0 },
          lent_passed (length ms) room d.1,
        )

    pub to_composition_passes : Staircase ms r → PermutationWith reading (length ms + 1) r p → room ≡ length ms
        → Accepts (to_composition_checks reading ms r p room)
    to_composition_passes s perm fits =
        accepts_join (edition_checks ms r) _ refl s.edition
        (accepts_join (staircase_checks ms) _ refl (staircase_passes ms r s.stairs)
        (accepts_join (permutation_checks ms p) _ refl (permutation_passes ms p perm.is)
        (accepts_join (statistic_checks reading r p) _ statistic_numbered (statistic_passes perm.total) (number_of_lem (lent_passes (length ms) room fits)))))

    -- the part that is lent is no longer than the cells
    pub to_composition_ready : {v : Refusal} → v ≡ first_refusal (to_composition_checks reading ms r p room) → v.number ≡ 0 → room ≤ 24
    to_composition_ready {v} e none =
        let known = to_composition_passed (number_of_lem (sym e) ∙ none) in
        omega (arith, edition_few ms r known.0.edition, known.2)
