-- The sheets that are left as a circle, as code and proofs see them. No public contract cites this file.
use Rattle.std.specs.Prelude.{cond, List, [], ◌∷◌, ◌++◌, ℕ, zero, suc, ◌+◌, ◌-◌, ltb, length, get_or}

-- l without its entry at place r
abbrev pub erase : ℕ → List ℕ → List ℕ
erase r [] = []
erase zero (x ∷ l) = l
erase (suc r) (x ∷ l) = x ∷ erase r l

-- i sheets in rising order, and the sheet behind them would stand at place s: t + 1 steps down the circle of the i from there
abbrev pub steps_down : ℕ → ℕ → ℕ → ℕ
steps_down i s t = cond (ltb t s) (s - suc t) (s + i - suc t)

-- the places of the sheets of the rows of g, each among those that are left, where the sheet behind would stand at place s
abbrev pub places_from : ℕ → List ℕ → List ℕ
places_from s [] = []
places_from s (t ∷ g) = steps_down (suc (suc (length g))) s t ∷ places_from (steps_down (suc (suc (length g))) s t) g

-- the list from behind: each time the entry at that place of those that are left, and what is left at the end stands in front
abbrev pub drawn : List ℕ → List ℕ → List ℕ
drawn l [] = l
drawn l (r ∷ rs) = drawn (erase r l) rs ++ (get_or l r 0 ∷ [])
