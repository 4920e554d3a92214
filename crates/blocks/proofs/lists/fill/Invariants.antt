-- `blocks::lists::fill` meets its contract.
use Rattle.std.proofs.Common.{◌*◌, ◌≤◌}
use Rattle.blocks.specs.Lists.{ListedTo}
use Rattle.blocks.proofs.lists.fill.Given as goal

-- the lists of the sums before s are filled
abbrev pub invariant-loop-s : goal.invariant-loop-s
invariant-loop-s l = (l.number * l.parts ≤ l.end) × ListedTo l.upper l.s l.number l.entries l.starts
