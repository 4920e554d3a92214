-- `rank::locate_record` meets its contract.
use Rattle.std.proofs.Common.{◌∙◌}
use Rattle.bounds.proofs.Answers.{record_many, record_few}
use Rattle.rank.proofs.locate_record.Goals as goal

pub returns-then-n-gt24-clause-refusal : goal.returns-then-n-gt24-clause-refusal
returns-then-n-gt24-clause-refusal c = record_many c.args.bounds c.if-n-gt24.true

pub returns-clause-refusal : goal.returns-clause-refusal
returns-clause-refusal c = c.locate.ensures.refusal ∙ record_few c.args.bounds c.if-n-gt24.false
