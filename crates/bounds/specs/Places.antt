-- Document 01, "Refusals by place of checking": the places that several calls have.
use Rattle.std.specs.Prelude.{Bool, not, List, [], ◌∷◌, ◌++◌, ℕ, min, eqb, leb, ltb, length, get_or, take, drop}
use Rattle.walsh.specs.Tests.{either, every}
use Rattle.walsh.specs.Order.{count_of}
use Rattle.bounds.specs.Refusal.{Check, check, first_refusal, decided}
use Rattle.bounds.specs.Edition.{whole}
use Rattle.bounds.specs.declared.Refusal.{Refusal}

-- the part i of g is at most its bound
abbrev pub is_within : List ℕ → List ℕ → ℕ → Bool
is_within ms g i = leb (get_or g i 0) (get_or ms i 0)

-- "a count over its ceiling, or the sum isn't the total"
abbrev pub is_other : List ℕ → ℕ → List ℕ → Bool
is_other ms r g = either (not (every (is_within ms g) (length ms))) (not (eqb (whole g) r))

-- the place 'mix given'
abbrev pub composition_checks : List ℕ → ℕ → List ℕ → List Check
composition_checks ms r g =
    check 7 (not (eqb (length g) (length ms))) 0
    ∷ check 8 (is_other ms r g) 0
    ∷ []

-- s is outside f..N, where N is n; the place 'serial given' for serials from f on
abbrev pub is_outside : ℕ → ℕ → ℕ → Bool
is_outside f n s = either (ltb s f) (ltb n s)

abbrev pub outside : ℕ → ℕ → ℕ → Check
outside f n s = check 6 (is_outside f n s) 0

-- "s is outside 1..N"; the place 'serial given': "0 or over N"
abbrev pub is_no_serial : ℕ → ℕ → Bool
is_no_serial n s = is_outside 1 n s

abbrev pub no_serial : ℕ → ℕ → Check
no_serial n s = outside 1 n s

abbrev pub serial_checks : List ℕ → ℕ → ℕ → List Check
serial_checks ms r s = no_serial (count_of ms r) s ∷ []

-- the most lines that a register and a listing have; `MOST_ENTRIES` of the code
abbrev pub most_entries : ℕ
most_entries = 1000000

-- "N over 1,000,000", in the place 'opening' and for a listing
abbrev pub too_many : ℕ → Check
too_many n = check 14 (ltb most_entries n) 0

abbrev pub many_checks : List ℕ → ℕ → List Check
many_checks ms r = too_many (count_of ms r) ∷ []

-- the place 'lent part': "length differs from what is to be written"
abbrev pub lent_checks : ℕ → ℕ → List Check
lent_checks want have = check 13 (not (eqb have want)) 0 ∷ []

-- what a call that fills a lent part leaves: its answer, and the bytes of the part. "A refusal .. changes no lent byte"
unfoldable pub filling : List Check → List ℕ → List ℕ → Refusal × List ℕ
filling checks bytes out = (first_refusal checks, decided (first_refusal checks) bytes out)

-- the bytes of `out` after the beginning of `from` was copied over them, as many as both have
unfoldable pub copied : List ℕ → List ℕ → List ℕ
copied from out = take (min (length from) (length out)) from ++ drop (min (length from) (length out)) out
