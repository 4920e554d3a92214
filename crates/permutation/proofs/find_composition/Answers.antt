-- `permutation::find_composition` meets its contract.
use Rattle.std.proofs.Common.{◌≡◌, refl, sym, ap, ◌∙◌, ◌++◌, ◌+◌, ◌-◌, ◌≤◌, ◌<◌, List, ℕ, arith, length, take, Result, Ok, Err, IfOk}
use Rattle.bounds.specs.Refusal.{first_refusal}
use Rattle.bounds.specs.Reason.{coded, told}
use Rattle.bounds.specs.declared.Reason.{Reason}
use Rattle.bounds.specs.Edition.{edition_checks}
use Rattle.bounds.specs.Places.{lent_checks}
use Rattle.bounds.proofs.Reasons.{passed_on, coded-first, coded-refuses, told-later}
use Rattle.bounds.proofs.Places.{lent_passed}
use Rattle.permutation.specs.Permutation.{IsPermutation}
use Rattle.permutation.specs.Conversions.{staircase_checks, permutation_checks, statistic_checks}
use Rattle.permutation.proofs.Tables.{number_of_lem, permutation_known, statistic_other, statistic_same}
use Rattle.permutation.proofs.find_composition.Goals as goal
use Rattle.permutation.proofs.find_composition.Goals.{In_ok-check_permutation}

-- there are at most 24 bounds, and p is a permutation
known : (g : _) (c : In_ok-check_permutation g) → let a = c.args in
    (length a.upper.now ≤ 24) × IsPermutation (length a.upper.now + 1) a.p.now
known g c = permutation_known c.args.upper.now c.args.p.now c.args.total c.in_ok-check_permutation.ensures refl

-- a part of another length is refused
lent_found : (n room : ℕ) (answer : Result (Unit {0}) Reason) (l m : List ℕ) → told answer ≡ first_refusal (lent_checks n room)
    → take n l ≡ m → IfOk answer (λ _. take room l ≡ m)
lent_found n room (Ok _) l m is e = rw (lent_passed n room (number_of_lem (sym is))) e
lent_found n room (Err _) l m is e = tt

pub returns-in_err-check_permutation-clause-refusal : goal.returns-in_err-check_permutation-clause-refusal
returns-in_err-check_permutation-clause-refusal g c =
    let a = c.args in
    let ms = a.upper.now in
    passed_on _ _ c.from_residual.ensures.1
    ∙ coded-first _ (edition_checks ms a.total ++ staircase_checks ms ++ permutation_checks ms a.p.now)
    (statistic_checks g.R.Reads.reading a.total a.p.now ++ lent_checks (length ms) a.room) c.in_err-check_permutation.ensures

pub find-requires : goal.find-requires
find-requires g c =
    let is = known g (goal.at.find-requires g c).In_ok-check_permutation in
    record {
      some = omega (arith, is.1.size);
      few = omega (arith, is.0, is.1.size);
      sheets = rw is.1.size is.1;
      room = c.requires;
    }

pub returns-then-find-total-clause-refusal : goal.returns-then-find-total-clause-refusal
returns-then-find-total-clause-refusal g c =
    let a = c.args in
    let ms = a.upper.now in
    let reading = g.R.Reads.reading in
    let other = g.met.R.Reads.other_is in
    let some : 0 < reading.number = coded-refuses g.R.Reads.OTHER _ other in
    told-later _ (edition_checks ms a.total ++ staircase_checks ms ++ permutation_checks ms a.p.now)
    (statistic_checks reading a.total a.p.now ++ lent_checks (length ms) a.room) refl c.in_ok-check_permutation.ensures
    (statistic_other reading _ _ c.find.ensures.total _ some c.if-find-total.true (ap coded c.OTHER.ensures ∙ other))

pub returns-clause-refusal : goal.returns-clause-refusal
returns-clause-refusal g c =
    let a = c.args in
    let ms = a.upper.now in
    let reading = g.R.Reads.reading in
    told-later _ (edition_checks ms a.total ++ staircase_checks ms ++ permutation_checks ms a.p.now)
    (statistic_checks reading a.total a.p.now ++ lent_checks (length ms) a.room) refl c.in_ok-check_permutation.ensures
    (statistic_same reading _ _ c.find.ensures.total _ c.if-find-total.false c.check_lent.ensures)

pub returns-clause-found : goal.returns-clause-found
returns-clause-found g c =
    let a = c.args in
    let is = known g (goal.at.returns-clause-found g c).In_ok-check_permutation in
    let one_less : length a.p.now - 1 ≡ length a.upper.now = omega (arith, is.1.size) in
    lent_found (length a.upper.now) a.room _ _ _ c.check_lent.ensures (rw one_less at c.find.ensures.parts)
