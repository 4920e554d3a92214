-- `listing::put::put` meets its contract.
use Rattle.std.proofs.Common.{◌≡◌, ◌-◌}
use Rattle.listing.specs.Bytes.{laid}
use Rattle.listing.proofs.put.put.Given as goal

abbrev pub invariant-loop-i : goal.invariant-loop-i
invariant-loop-i l = l.out ≡ laid l.g l.i (l.left - l.i) l.initial.out
