-- `reply::takes` meets its contract: the takes before place k have good orders, serials are left for them, and they stand in no earlier line.
use Prim.Native.Nat.{ℕ, ◌+◌, ◌≤◌, ◌<◌}
use lib.ListN.{get_or}
use Rattle.bounds.proofs.Chains.{Accepts}
use Rattle.model.specs.Entry.{void_entry, pairs}
use Rattle.model.specs.Model.{order_checks}
use Rattle.reply.proofs.takes.Given as goal

abbrev pub invariant-loop-k : goal.invariant-loop-k
invariant-loop-k l =
    ((j : ℕ) → j < l.k → Accepts (order_checks (get_or (pairs l.bundle l.itemlines) j void_entry)))
    × ((j : ℕ) → j < l.k → l.serial + j ≤ l.met.count)
    × (l.k ≤ l.met.first)
