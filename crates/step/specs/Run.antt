-- What the functions inside the batch promise. A run is a composition whose first two parts of those that are left (document 02, (ii)) are kept
-- apart: the second of them moves on while it can.
use Rattle.std.specs.Prelude.{◌≡◌, Bool, true, false, cond, List, ℕ, ◌+◌, ◌-◌, ◌*◌, ◌≤◌, ◌<◌, min, length, get_or, set, take}
use Rattle.walsh.specs.Sums.{sum_to}
use Rattle.walsh.specs.Order.{Composition, is_odd, count_of}
use Rattle.walsh.specs.Serial.{serial_of, composition_of}
use Rattle.step.specs.Batch.{copies_of}
use Rattle.step.specs.declared.PivotSums.{PivotSums}
use Rattle.step.specs.declared.batch.Front.{Front}
use Rattle.step.specs.declared.batch.Run.{Run}

-- j is the first part from part i on whose bound is not 0, or a place behind them all: the bounds that are passed add nothing
pub record NextLeft (ms : List ℕ) (i j : ℕ) : Type 0 where
  pub from : i ≤ j
  pub passed : sum_to ms j ≡ sum_to ms i
  pub left : j < length ms → 0 < get_or ms j 0
  pub end : i ≤ length ms → j ≤ length ms

-- p is two parts, and every bound before them and between them is 0: the sums before them have nothing else
pub record InFront (ms : List ℕ) (p : Front) : Type 0 where
  pub apart : p.low < p.high
  pub inside : p.high < length ms
  pub before : sum_to ms p.low ≡ 0
  pub between : sum_to ms p.high ≡ get_or ms p.low 0

-- how many of the values lo..hi come after v
abbrev pub values_left : ℕ → ℕ → Bool → ℕ → ℕ
values_left lo hi falling v = cond falling (v - lo) (hi - v)

abbrev pub sum_of : Run → ℕ
sum_of x = x.first + x.second

-- the way is that of the second part, and it can move `more` times
pub record Running (ms : List ℕ) (r : ℕ) (p : Front) (x : Run) : Type 0 where
  pub way : x.falling ≡ is_odd (r - sum_of x)
  pub bytes : (get_or ms p.low 0 ≤ 255) × (get_or ms p.high 0 ≤ 255)
  pub left : x.more ≡ values_left (sum_of x - get_or ms p.low 0) (min (get_or ms p.high 0) (sum_of x)) x.falling x.second

-- the composition of a run, over the other parts
abbrev pub shown : Front → Run → List ℕ → List ℕ
shown p x parts = set (set parts p.low x.first) p.high x.second

-- x after a move of the second part
abbrev pub moved_of : Run → Run
moved_of x =
    cond x.falling
    (record { first = x.first + 1; second = x.second - 1; falling = true; more = x.more - 1 })
    (record { first = x.first - 1; second = x.second + 1; falling = false; more = x.more - 1 })

-- the move stays within bytes
pub record CanMove (x : Run) : Type 0 where
  pub more : 0 < x.more
  pub down : x.falling ≡ true → (x.first < 255) × (0 < x.second)
  pub up : x.falling ≡ false → (0 < x.first) × (x.second < 255)

-- where the search for the part that moves begins when the second cannot: behind it, with the sums before that place
pub record BehindRun (ms : List ℕ) (p : Front) (x : Run) (f : PivotSums) : Type 0 where
  pub at : f.at ≡ p.high + 1
  pub left : f.left ≡ get_or ms p.low 0 + get_or ms p.high 0
  pub sum : f.sum ≡ sum_of x
  pub small : (f.left ≤ 510) × (f.sum ≤ 510)

-- y and the parts show the composition after g
pub record Onward (ms : List ℕ) (r : ℕ) (p : Front) (g : List ℕ) (y : Run) (parts : List ℕ) : Type 0 where
  pub running : Running ms r p y
  pub next : (k : ℕ) → 0 < k → k < count_of ms r → g ≡ composition_of ms r k → shown p y parts ≡ composition_of ms r (k + 1)

-- ---- a batch that begins with the composition in the cells `first`

abbrev pub copies_from : List ℕ → ℕ → List ℕ → ℕ → List ℕ
copies_from ms r first c = copies_of ms r (serial_of ms r (take (length ms) first)) c

-- there are c of them, and `have` bytes for them
pub record Asked (ms : List ℕ) (r : ℕ) (first : List ℕ) (c have : ℕ) : Type 0 where
  pub some : 0 < length ms
  pub few : length ms ≤ 24
  pub small : r ≤ 255
  pub valid : Composition ms r (take (length ms) first)
  pub within : serial_of ms r (take (length ms) first) + c ≤ count_of ms r + 1
  pub room : have ≡ c * length ms
