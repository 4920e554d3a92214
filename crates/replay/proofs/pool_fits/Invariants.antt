-- `replay::pool_fits` meets its contract: what is left of the pool, less what the rows to come name, is the whole pool less what all name.
use mathlib.Core.Path.{◌≡◌}
use Prim.Native.Nat.{◌+◌, ◌*◌}
use lib.ListN.{drop}
use Rattle.replay.specs.Rows.{call_width, named_in}
use Rattle.replay.proofs.pool_fits.Given as goal

abbrev pub invariant-loop-k : goal.invariant-loop-k
invariant-loop-k l = l.pool + named_in l.counts (drop (l.k * call_width) l.rows) ≡ l.left + named_in l.counts l.rows
