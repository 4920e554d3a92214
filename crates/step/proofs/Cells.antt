-- A composition in 24 cells.
use mathlib.Core.Path.{◌≡◌}
use mathlib.Core.List.{List}
use Prim.Native.Nat.{ℕ, ◌≤◌, ◌<◌}
use lib.ListN.{length, take}
use lib.Seq.{take_at}
use Rattle.walsh.specs.Order.{count_of}
use Rattle.walsh.specs.Serial.{composition_of}
use Rattle.walsh.proofs.Serials.{composition_is}
use Rattle.bounds.specs.Edition.{cells_of}

-- the composition of a serial in its cells
pub cells_front : (ms : List ℕ) (r s : ℕ) (cells : List ℕ) → 0 < s → s ≤ count_of ms r → cells ≡ cells_of (composition_of ms r s)
    → take (length ms) cells ≡ composition_of ms r s
unfolding cells_of
cells_front ms r s cells some l e = rw e (take_at (composition_of ms r s) _ (length ms) (composition_is ms r s some l).size)
