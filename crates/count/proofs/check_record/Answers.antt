-- `count::check_record` meets its contract.
use Rattle.std.proofs.Common.{◌∙◌}
use Rattle.count.proofs.Answers.{record_refused, record_checked}
use Rattle.count.proofs.check_record.Goals as goal

pub returns-then-n-gt24 : goal.returns-then-n-gt24
returns-then-n-gt24 c = record_refused c.args.bounds c.if-n-gt24.true

pub returns : goal.returns
returns c = c.check.ensures ∙ record_checked c.args.bounds c.if-n-gt24.false
