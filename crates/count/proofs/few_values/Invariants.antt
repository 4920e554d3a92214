-- `count::few_values` meets its contract.
use Rattle.std.proofs.Common.{ℕ, ◌≤◌, ◌<◌}
use Rattle.walsh.proofs.Product.{Few}
use Rattle.count.specs.Row.{UpTo}
use Rattle.count.proofs.few_values.Given as goal

abbrev pub invariant-loop-k : goal.invariant-loop-k
invariant-loop-k l = record {
  limited : l.product ≤ 9223372036854775807;
  wide : 0 < l.widest;
  narrow : l.widest ≤ 256;
  few : Few l.upper l.most l.k l.product l.widest;
  each : (j : ℕ) → j ≤ l.k → UpTo l.upper l.most j;
}
