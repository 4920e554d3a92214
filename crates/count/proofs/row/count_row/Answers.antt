-- `count::row::count_row` meets its contract.
use Rattle.walsh.specs.Order.{count_of}
use Rattle.count.proofs.Answers.{limited}
use Rattle.count.proofs.row.count_row.Goals as goal

pub returns-clause-refusal : goal.returns-clause-refusal
unfolding count_of
returns-clause-refusal c = (limited c.args.shape.upper.now c.args.shape.total c.rows.result _ c.args.shape.shaped.accepted c.rows.ensures c.ok_or.ensures.value).0

pub returns-clause-count : goal.returns-clause-count
unfolding count_of
returns-clause-count c = (limited c.args.shape.upper.now c.args.shape.total c.rows.result _ c.args.shape.shaped.accepted c.rows.ensures c.ok_or.ensures.value).1
