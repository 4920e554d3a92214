-- What a ledger is opened for, which serials its lines have, and which compositions.
use Rattle.std.specs.Prelude.{List, map, ℕ, ◌+◌, ◌-◌, min, get_or}
use Rattle.walsh.specs.Order.{order, count_of}
use Rattle.walsh.specs.Transition.{transition_at}
use Rattle.walsh.specs.declared.Transition.{Transition}
pub use Rattle.bounds.specs.Edition.{blank}
use Rattle.bounds.specs.Edition.{cells_of}

-- the edition: its bounds and its total
pub record Printing : Type 0 where
  pub bounds : List ℕ
  pub total : ℕ

-- the compositions of an edition in Walsh's order, 24 cells each
unfoldable pub compositions : List ℕ → ℕ → List (List ℕ)
compositions ms r = map cells_of (order ms r)

abbrev pub listed : Printing → List (List ℕ)
listed p = compositions p.bounds p.total

-- the document's N
abbrev pub size : Printing → ℕ
size p = count_of p.bounds p.total

-- the composition of serial s
abbrev pub composition_at : Printing → ℕ → List ℕ
composition_at p s = get_or (listed p) (s - 1) blank

-- document 02, (i): the pair of the copy of serial s, "measured from the copy before"
abbrev pub transition_to : Printing → ℕ → Transition
transition_to p s = transition_at p.bounds p.total s

-- ---- the lines

-- the serial of the first line: "the first entry is serial 1's, the second serial 2's and so on"
abbrev pub lowest : Printing → ℕ
lowest p = 1

-- the serial of the line at place i, from 0; where i lines are written it is the next serial: "the list's length + 1"
abbrev pub serial_at : Printing → ℕ → ℕ
serial_at p i = i + lowest p

-- the place of the line of serial s: "entry s−1 is the line of serial s"
abbrev pub place_of : Printing → ℕ → ℕ
place_of p s = s - lowest p

-- how many lines there can be
abbrev pub capacity : Printing → ℕ
capacity p = size p

-- the compositions of the lines, from the first line's on
abbrev pub stock : Printing → List (List ℕ)
stock p = listed p

-- "the mix of the next serial (of serial N when full)", where so many lines are written
abbrev pub next_composition : Printing → ℕ → List ℕ
next_composition p entries = composition_at p (min (serial_at p entries) (size p))
