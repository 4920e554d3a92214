-- `listing::put::put_fours` meets its contract.
use Rattle.std.proofs.Common.{◌≡◌, ◌-◌, ◌≤◌, length}
use Rattle.listing.specs.Bytes.{laid}
use Rattle.listing.proofs.put.put_fours.Given as goal

abbrev pub invariant-loop-i : goal.invariant-loop-i
invariant-loop-i l =
    (l.out ≡ laid l.g l.i (length l.g - l.i) l.initial.out) × (l.i ≤ length l.g)

abbrev pub decreases-loop-i : goal.decreases-loop-i
decreases-loop-i l = l.i
