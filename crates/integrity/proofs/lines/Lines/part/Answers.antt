-- `integrity::lines::Lines::part` meets its contract.
use Rattle.std.proofs.Common.{◌-◌, sym}
use Rattle.integrity.proofs.Pairs.{part_lines}
use Rattle.integrity.proofs.lines.Lines.part.Goals as goal

pub returns-clause-lines : goal.returns-clause-lines
returns-clause-lines c = sym (part_lines (c.args.to - c.args.from) c.args.from c.args.self.orders.now c.args.self.items.now)
