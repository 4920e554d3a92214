-- `step::batch::write_runs` meets its contract. The part of `out` up to `at` holds the first j copies, and the run and `parts` show the next one.
use mathlib.Core.Path.{◌≡◌}
use Prim.Native.Nat.{◌+◌, ◌*◌, ◌<◌}
use lib.ListN.{length, take}
use Rattle.walsh.specs.Serial.{composition_of}
use Rattle.step.specs.Batch.{copies_of}
use Rattle.step.specs.Run.{Running, shown}
use Rattle.std.proofs.Common.{List, ℕ}
use Rattle.walsh.specs.Serial.{serial_of}
use Rattle.step.proofs.batch.write_runs.Given as goal

-- the serial of the first
abbrev pub from : List ℕ → ℕ → List ℕ → ℕ
from upper total first = serial_of upper total (take (length upper) first)

abbrev pub invariant-loop-j : goal.invariant-loop-j
invariant-loop-j l = record {
  long : length l.parts ≡ 24;
  written : take (l.j * l.n) l.out ≡ copies_of l.shape.upper.now l.shape.total (from l.shape.upper.now l.shape.total l.initial.parts) l.j;
  running : Running l.shape.upper.now l.shape.total l.shape.front l.run;
  next : l.j < l.copies → shown l.shape.front l.run (take (length l.shape.upper.now) l.parts) ≡ composition_of l.shape.upper.now l.shape.total (from l.shape.upper.now l.shape.total l.initial.parts + l.j);
}
