-- Document 01, "Listing program": numbers as text, and lines of numbers. What is read and what is printed is said with the same words.
-- A text is the list of its bytes.
use Rattle.std.specs.Prelude.{◌≡◌, refl, true, false, List, [], ◌∷◌, ◌++◌, ℕ, zero, suc, ◌+◌, ◌/◌, ◌%◌, ltb}

-- the last digits of n, at most so many; 48 is the byte of the digit 0
unfoldable pub digits_of : ℕ → ℕ → List ℕ
digits_of zero n = []
digits_of (suc most) n = elim (ltb n 10) [ true ↦ (48 + n) ∷ [] | false ↦ digits_of most (n / 10) ++ ((48 + n % 10) ∷ []) ]

-- n in decimal, "without leading zeros": no number has more digits than n + 1
unfoldable pub decimal : ℕ → List ℕ
decimal n = digits_of (suc n) n

-- each number with a space (32) in front, then a line feed (10)
unfoldable pub line_end : List ℕ → List ℕ
line_end [] = 10 ∷ []
line_end (n ∷ ns) = 32 ∷ (decimal n ++ line_end ns)

-- "parted by one space"; a line feed ends the line
unfoldable pub line : List ℕ → List ℕ
line [] = 10 ∷ []
line (n ∷ ns) = decimal n ++ line_end ns

-- "`refused`, a space, the number"
unfoldable pub refusal_line : ℕ → List ℕ
refusal_line n = (114 ∷ 101 ∷ 102 ∷ 117 ∷ 115 ∷ 101 ∷ 100 ∷ 32 ∷ []) ++ line (n ∷ [])

-- the document's third line, `3 0 2 1`, and a number of three digits
the_line : line (3 ∷ 0 ∷ 2 ∷ 1 ∷ []) ≡ 51 ∷ 32 ∷ 48 ∷ 32 ∷ 50 ∷ 32 ∷ 49 ∷ 10 ∷ []
unfolding line line_end decimal digits_of
the_line = refl

the_decimal : decimal 907 ≡ 57 ∷ 48 ∷ 55 ∷ []
unfolding decimal digits_of
the_decimal = refl
