-- `engine::huz_entries` meets its contract.
use mathlib.Core.Path.{◌≡◌, ap, ◌∙◌}
use mathlib.Core.List.{List}
use Prim.Native.Nat.{ℕ}
use lib.ListN.{length, length-map}
use Rattle.model.specs.Entry.{Lent, order_of, orders_of}
use Rattle.model.specs.Record.{entries_of}
use Rattle.model.specs.declared.Ledger.{Ledger}
use Rattle.engine.proofs.huz_entries.Goals as goal

-- as many orders as lines
as_many : (h : Ledger) (col : Lent) (os : List ℕ) → os ≡ orders_of (entries_of h col) → length os ≡ length (entries_of h col)
as_many h col os e = ap length e ∙ length-map (entries_of h col) order_of

pub returns : goal.returns
returns c = as_many _ _ _ c.entries.ensures.0
