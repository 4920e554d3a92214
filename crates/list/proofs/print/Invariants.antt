-- `list::print` meets its contract: each page begins at a later line.
use Rattle.std.proofs.Common.{◌≡◌, ℕ, suc, Option, Some, None, length}
use Rattle.lines.proofs.Pages.{left}
use Rattle.list.proofs.print.Given as goal

abbrev pub invariant-loop-next : goal.invariant-loop-next
invariant-loop-next g l = length l.buffer ≡ 65536

-- how many lines there can be from the next one on
abbrev pub to_come : Option ℕ → ℕ
to_come None = 0
to_come (Some line) = suc (left line)

abbrev pub decreases-loop-next : goal.decreases-loop-next
decreases-loop-next g l = to_come l.next
