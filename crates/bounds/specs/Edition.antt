-- Document 01, "Editions and their number" and "Refusals by place of checking", place 'edition'. An edition is the list ms of its ceilings
-- (bounds), n being their number, and its total r.
use Rattle.std.specs.Prelude.{Bool, cond, List, [], ◌∷◌, ◌++◌, ℕ, ◌+◌, ◌-◌, ltb, eqb, length, replicate, take}
use Rattle.walsh.specs.Tests.{either}
use Rattle.walsh.specs.Sums.{sum_to}
use Rattle.walsh.specs.Order.{count_of}
use Rattle.bounds.specs.Refusal.{Check, check}
use Rattle.bounds.specs.declared.Bounds.{Bounds}

-- "a ceiling is outside 1..60"; since request (ii) "number 2 is given only above 60"
abbrev pub outside : ℕ → Bool
outside m = ltb 60 m

-- "the first such kind, from 1", i parts having been passed; 0 where there is none
unfoldable pub first_outside : List ℕ → ℕ → ℕ
first_outside [] i = 0
first_outside (m ∷ ms) i = cond (outside m) (i + 1) (first_outside ms (i + 1))

-- "the sum of ceilings"
abbrev pub whole : List ℕ → ℕ
whole ms = sum_to ms (length ms)

abbrev pub bound_check : List ℕ → Check
bound_check ms = check 2 (ltb 0 (first_outside ms 0)) (first_outside ms 0)

-- the place 'edition', without its last check
abbrev pub shape_checks : List ℕ → ℕ → List Check
shape_checks ms r =
    check 1 (either (eqb (length ms) 0) (ltb 24 (length ms))) 0
    ∷ bound_check ms
    ∷ check 3 (ltb 255 r) 0
    ∷ check 4 (ltb (whole ms) r) 0
    ∷ []

-- its last check
abbrev pub limit_checks : List ℕ → ℕ → List Check
limit_checks ms r = check 5 (ltb 9223372036854775807 (count_of ms r)) 0 ∷ []

-- the place 'edition'
abbrev pub edition_checks : List ℕ → ℕ → List Check
edition_checks ms r = shape_checks ms r ++ limit_checks ms r

-- "the record keeps n, 24 cells and r"; "Array cells past n are 0."
unfoldable pub cells_of : List ℕ → List ℕ
cells_of ms = ms ++ replicate (24 - length ms) 0

-- no numbers: 24 cells of 0
abbrev pub blank : List ℕ
blank = replicate 24 0

abbrev pub bounds_of : List ℕ → ℕ → Bounds
bounds_of ms r = record { parts = length ms; upper = cells_of ms; total = r }

abbrev pub blank_bounds : Bounds
blank_bounds = record { parts = 0; upper = blank; total = 0 }

-- ---- an edition's record that nobody has checked: more than 24 parts have no cells

abbrev pub record_checks : Bounds → List Check
record_checks b = check 1 (ltb 24 b.parts) 0 ∷ edition_checks (take b.parts b.upper) b.total
