-- What the pass that looks for the orders of a bundle keeps from line to line. Lines and orders have one row of places: line q has the place q, and
-- order k of es, which is to be written behind the lines l, the place length l + k.
use Rattle.std.specs.Prelude.{◌≡◌, ◌≢◌, ◌⊎◌, List, ◌++◌, ℕ, ◌+◌, ◌%◌, ◌≤◌, ◌<◌, length, get_or}
use Rattle.model.specs.Entry.{Entry, void_entry}

-- after i lines, and all of the bundle: place q is looked at and stands before order k
abbrev pub Before : List Entry → ℕ → ℕ → ℕ → Type 0
Before l i k q = (q < length l + k) × ((q < i) ⊎ (length l ≤ q))

-- order k does not stand at such a place below p
pub record New (l es : List Entry) (i k p : ℕ) : Type 0 where
  pub none : (q : ℕ) → q < p → Before l i k q → get_or (l ++ es) q void_entry ≢ get_or es k void_entry

-- the orders before f do not stand in an earlier line, as far as was looked; order f does, and p is the lowest
pub record Sifted (l es : List Entry) (i f p : ℕ) : Type 0 where
  pub most : f ≤ length es
  pub new : (k : ℕ) → k < f → New l es i k (length l + k)
  pub here : f < length es → Before l i f p × (get_or (l ++ es) p void_entry ≡ get_or es f void_entry) × New l es i f p
  pub none : f ≡ length es → p ≡ length l + length es

-- ---- the table of marks, which tells of most lines that they are none of the orders

abbrev pub slots : ℕ
slots = 8192

-- the slots of the first n orders, by their numbers, are marked
pub record Marked (marks os : List ℕ) (n : ℕ) : Type 0 where
  pub all : length marks ≡ slots
  pub set : (k : ℕ) → k < n → get_or marks (get_or os k 0 % slots) 0 ≢ 0

-- the mark of line q of an order column
abbrev pub mark_of : List ℕ → List ℕ → ℕ → ℕ
mark_of marks os q = get_or marks (get_or os q 0 % slots) 0

-- none of the n lines from place i on is marked
pub record Unmarked (marks os : List ℕ) (i n : ℕ) : Type 0 where
  pub none : (j : ℕ) → j < n → mark_of marks os (i + j) ≡ 0
