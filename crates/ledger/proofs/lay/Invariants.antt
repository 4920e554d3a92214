-- `ledger::lay` meets its contract: the first k lines are copied.
use Rattle.std.proofs.Common.{◌≡◌, ◌++◌, length, take, drop}
use Rattle.ledger.proofs.lay.Given as goal

abbrev pub invariant-loop-k : goal.invariant-loop-k
invariant-loop-k l =
    (length l.orders ≡ length l.initial.orders) × (l.orders ≡ take l.k l.bundle ++ drop l.k l.initial.orders)
    × (length l.items ≡ length l.initial.items) × (l.items ≡ take l.k l.itemlines ++ drop l.k l.initial.items)
