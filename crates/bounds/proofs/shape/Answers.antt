-- `bounds::shape` meets its contract.
use Rattle.std.proofs.Common.{arith, ◌∙◌}
use Rattle.std.proofs.lemmas.Bool.Decides.{nat_tests}
use Rattle.bounds.specs.Refusal.{first_refusal}
use Rattle.bounds.proofs.Reasons.{passed_on}
use Rattle.bounds.proofs.shape.Goals as goal

pub returns-then-is_empty-clause-refusal : goal.returns-then-is_empty-clause-refusal
unfolding first_refusal
returns-then-is_empty-clause-refusal c = grind (arith, nat_tests)

pub returns-in_err-all-clause-refusal : goal.returns-in_err-all-clause-refusal
unfolding first_refusal
returns-in_err-all-clause-refusal c =
    passed_on c.in_err-all.field-0.0 _ c.from_residual.ensures.1 ∙ grind (arith, nat_tests, c.in_err-all.ensures)

pub returns-then-total-gt255-clause-refusal : goal.returns-then-total-gt255-clause-refusal
unfolding first_refusal
returns-then-total-gt255-clause-refusal c = grind (arith, nat_tests, c.in_ok-all.ensures)

pub returns-then-all-total-clause-refusal : goal.returns-then-all-total-clause-refusal
unfolding first_refusal
returns-then-all-total-clause-refusal c = grind (arith, nat_tests, c.in_ok-all.ensures)

pub returns-clause-refusal : goal.returns-clause-refusal
unfolding first_refusal
returns-clause-refusal c = grind (arith, nat_tests, c.in_ok-all.ensures)
