-- `band::walk::pick_value` meets its contract. The rank is the blocks passed and what is left of it.
use Rattle.std.proofs.Common.{◌≡◌, ◌+◌, ◌-◌, ◌<◌}
use Rattle.walsh.specs.Sums.{sum}
use Rattle.walsh.specs.Order.{part_choices}
use Rattle.walsh.specs.Rank.{block_size}
use Rattle.band.proofs.walk.pick_value.Given as goal

abbrev pub invariant-loop-size : goal.invariant-loop-size
invariant-loop-size l =
    (l.i < part_choices l.upper l.k l.rem) × (l.rank ≡ sum (block_size l.upper l.k l.rem l.t) l.i + l.s) × (l.size ≡ block_size l.upper l.k l.rem l.t l.i)

abbrev pub decreases-loop-size : goal.decreases-loop-size
decreases-loop-size l = part_choices l.upper l.k l.rem - l.i
