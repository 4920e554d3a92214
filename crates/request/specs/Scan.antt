-- Reading a line of numbers byte by byte. That it finds exactly the lines is proved in proofs/Scans.antt.
use Rattle.std.specs.Prelude.{Bool, Option, Some, None, cond, List, [], ◌∷◌, ◌++◌, map, ℕ, ◌+◌, ◌-◌, ◌*◌, ltb, eqb, length, get_or}
use Rattle.std.specs.Char.{is_ascii_digit}
use Rattle.walsh.specs.Tests.{either}
use Rattle.request.specs.Request.{held, request_cells}
use Rattle.request.specs.declared.Line.{Line}

-- a digit more, where that makes a number: none begins with 0 and goes on, and none has four digits
abbrev pub with_digit : Option ℕ → ℕ → Option ℕ
with_digit None d = Some d
with_digit (Some v) d = cond (either (ltb v 1) (ltb 99 v)) None (Some (10 * v + d))

-- a byte more
unfoldable pub grown_of : Option ℕ → ℕ → Option ℕ
grown_of n b = cond (is_ascii_digit b) (with_digit n (b - 48)) None

-- the byte ends a number
abbrev pub is_end : ℕ → Bool
is_end b = either (eqb b 32) (eqb b 10)

-- the numbers of a line, and the bytes behind it; or that there is no such line
pub data Scanned : Type 0 where
  found : List ℕ → List ℕ → Scanned
  none : Scanned

-- the numbers ns have been read, and the beginning n of a further one, if one has begun; the bytes are still to be read
unfoldable pub scan : List ℕ → Option ℕ → List ℕ → Scanned
scan ns n [] = none
scan ns n (b ∷ bs) =
    cond (is_end b)
    (elim n [
      | None ↦ none
      | Some v ↦ cond (eqb b 10) (found (ns ++ (v ∷ [])) bs) (scan (ns ++ (v ∷ [])) None bs)
    ])
    (elim (grown_of n b) [ None ↦ none | Some v ↦ scan ns (Some v) bs ])

-- the line of the numbers ns in a text of so many bytes, with the bytes bs behind it
abbrev pub line_found : ℕ → List ℕ → List ℕ → Line
line_found size ns bs =
    record { parts = length ns; upper = request_cells (map held ns); last = get_or ns (length ns - 1) 0; end = size - length bs }

-- what the code answers of a line
abbrev pub line_of : ℕ → Scanned → Option Line
line_of size (found ns bs) = Some (line_found size ns bs)
line_of size none = None
