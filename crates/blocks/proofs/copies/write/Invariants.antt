-- `blocks::copies::write` meets its contract. The first j copies are written, and the cells have the next one.
use Rattle.std.proofs.Common.{◌≡◌, List, ℕ, ◌+◌, ◌-◌, ◌*◌, ◌≤◌, ◌<◌, length, take}
use Rattle.walsh.specs.Serial.{serial_of, composition_of}
use Rattle.step.specs.Batch.{copies_of}
use Rattle.blocks.specs.Blocks.{Entered}
use Rattle.blocks.proofs.copies.write.Given as goal

-- the serial of the first
abbrev pub from : List ℕ → ℕ → List ℕ → ℕ
from upper total first = serial_of upper total (take (length upper) first)

abbrev pub invariant-loop-j : goal.invariant-loop-j
invariant-loop-j l =
    let ms = l.fronts.job.upper.now in
    let r = l.fronts.job.total in
    (l.j ≤ l.end) × (length l.out ≡ length l.initial.out) × (take (l.j * l.n) l.out ≡ copies_of ms r (from ms r l.initial.cells) l.j)
    × (take l.n l.cells ≡ composition_of ms r (from ms r l.initial.cells + l.j))
    × (l.j < l.end → Entered ms r l.fronts.width (take l.n l.cells) l.i)

abbrev pub decreases-loop-j : goal.decreases-loop-j
decreases-loop-j l = l.end - l.j
