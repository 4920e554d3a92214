-- Document 01, "Walsh's order": "Mixes with the same ending stand together." A block is the part of the order that has one ending from part w on; the
-- first w parts run through `listing ms w s t` there, where they sum to s and the ending to t.
use Rattle.std.specs.Prelude.{◌≡◌, Bool, true, false, cond, List, [], ◌++◌, ℕ, ◌+◌, ◌-◌, ◌*◌, ◌≤◌, ◌<◌, length, get_or, take, drop}
use Rattle.walsh.specs.Sums.{sum_to}
use Rattle.walsh.specs.Order.{is_odd, listing, count}
use Rattle.walsh.specs.Serial.{composition_of}
use Rattle.step.specs.Batch.{copies_of}
use Rattle.step.specs.Run.{copies_from}
use Rattle.blocks.specs.declared.copies.Block.{Block}
use Rattle.blocks.specs.declared.job.Job.{Job}
use Rattle.blocks.specs.declared.lists.Fronts.{Fronts}

-- the first w parts of g are entry number i of what they run through in the block of g
pub record Entered (ms : List ℕ) (r w : ℕ) (g : List ℕ) (i : ℕ) : Type 0 where
  pub inside : i < count ms w (sum_to g w)
  pub is : get_or (listing ms w (sum_to g w) (r - sum_to g w)) i [] ≡ take w g

-- the number among c entries of the list that is entry number i of a block: a block is read backwards where its ending's sum is odd
abbrev pub listed_at : Bool → ℕ → ℕ → ℕ
listed_at falling c i = cond falling (c - 1 - i) i

-- entry number j of a block from a place on
abbrev pub number_of : Block → ℕ → ℕ
number_of b j = cond b.falling (b.from - j) (b.from + j)

-- the entries of the sum s from number i on, where `low` entries stand before its list and `high` before the next
pub record IsBlock (r s low high i : ℕ) (b : Block) : Type 0 where
  pub count : b.count ≡ high - low - i
  pub way : b.falling ≡ is_odd (r - s)
  pub from : b.from ≡ low + listed_at b.falling (high - low) i

-- the first k entries of a block can be read, 16 bytes each
pub record Readable (w : ℕ) (b : Block) (k size : ℕ) : Type 0 where
  pub back : b.falling ≡ true → k ≤ b.from + 1
  pub ahead : b.falling ≡ false → b.from + k ≤ size
  pub room : (j : ℕ) → j < k → number_of b j * w + 16 ≤ size

-- copy j of a block: the entry in the lists, and the ending of the cells
abbrev pub laid : Fronts → Block → List ℕ → ℕ → List ℕ
laid f b cells j = take f.width (drop (number_of b j * f.width) f.entries) ++ take (length f.job.upper.now - f.width) (drop f.width cells)

-- the composition of a job's edition in the first cells
abbrev pub shown : Job → List ℕ → List ℕ
shown job cells = take (length job.upper.now) cells

-- that of serial p
abbrev pub copy_of : Job → ℕ → List ℕ
copy_of job p = composition_of job.upper.now job.total p

-- the first parts of the composition in the cells are entry number i of its block
abbrev pub Enters : Fronts → List ℕ → ℕ → Type 0
Enters f cells i = Entered f.job.upper.now f.job.total f.width (shown f.job cells) i

-- k copies from serial p on are written, and the cells have the composition after them; with fewer than `most` the block has ended, so that it is the
-- first of the next
pub record WentOn (f : Fronts) (p most k : ℕ) (cells out : List ℕ) : Type 0 where
  pub copies : take (k * length f.job.upper.now) out ≡ copies_of f.job.upper.now f.job.total p k
  pub next : shown f.job cells ≡ copy_of f.job (p + k)
  pub entered : k < most → Enters f cells 0

-- of the copies of a job the first k are written, and 40 or more are left
pub record Begun (job : Job) (k : ℕ) (out : List ℕ) : Type 0 where
  pub left : k + 40 ≤ job.copies
  pub copies : take (k * length job.upper.now) out ≡ copies_from job.upper.now job.total job.first k
