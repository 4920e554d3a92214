-- `count::row::number` meets its contract.
use Rattle.std.proofs.Common.{◌≡◌, sym, ◌∙◌, arith}
use Rattle.walsh.specs.Order.{count_of}
use Rattle.bounds.specs.Refusal.{first_refusal}
use Rattle.bounds.specs.Edition.{shape_checks, limit_checks}
use Rattle.bounds.proofs.Answers.{edition_over, edition_none}
use Rattle.bounds.proofs.Reasons.{passed_on, coded-first}
use Rattle.count.proofs.Answers.{staircase_number}
use Rattle.count.proofs.Stairs.{staircase_shape}
use Rattle.count.proofs.row.number.Goals as goal
use Rattle.count.proofs.row.number.Goals.{In-Some}

-- N stands in the table
module _ (c : In-Some) where
  shape_at : (first_refusal (shape_checks c.args.upper.now c.args.total)).number ≡ 0
  shape_at = staircase_shape c.args.upper.now c.args.total _ _ c.staircase_count.ensures c.in-Some.is

  number_at : c.in-Some.n ≡ count_of c.args.upper.now c.args.total
  number_at = staircase_number c.args.upper.now c.args.total _ _ c.staircase_count.ensures c.in-Some.is

pub returns-then-n-gt-LIMIT-clause-refusal : goal.returns-then-n-gt-LIMIT-clause-refusal
returns-then-n-gt-LIMIT-clause-refusal c =
    let i = (goal.at.returns-then-n-gt-LIMIT-clause-refusal c).In-Some in
    sym (edition_over c.args.upper.now c.args.total (shape_at i) (omega (arith, number_at i)))

pub returns-in-Some-clause-refusal : goal.returns-in-Some-clause-refusal
returns-in-Some-clause-refusal c =
    let i = (goal.at.returns-in-Some-clause-refusal c).In-Some in
    sym (edition_none c.args.upper.now c.args.total (shape_at i) (omega (arith, number_at i)))

pub returns-in-Some-clause-count : goal.returns-in-Some-clause-count
returns-in-Some-clause-count c = number_at (goal.at.returns-in-Some-clause-count c).In-Some

pub returns-in_err-shape-clause-refusal : goal.returns-in_err-shape-clause-refusal
returns-in_err-shape-clause-refusal c =
    let ms = c.args.upper.now in
    let r = c.args.total in
    passed_on _ _ c.from_residual.ensures.1 ∙ coded-first _ (shape_checks ms r) (limit_checks ms r) c.in_err-shape.ensures.refusal
