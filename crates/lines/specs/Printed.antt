-- Document 01, "Listing program" and "Refusals by place of checking": what the program prints, for every text that it is given. A reader who
-- believes this file, and `Asks` in crate `request`, need not read how a text is taken apart: proofs/Printed.antt says `printed` by `Asks`.
use Rattle.std.specs.Prelude.{◌≡◌, refl, List, [], ◌∷◌, ◌++◌, ℕ}
use Rattle.walsh.specs.Order.{order, listing, count, count_of}
use Rattle.walsh.specs.Serial.{same, composition_of}
use Rattle.walsh.specs.Transition.{gain_from, transition_at}
use Rattle.bounds.specs.Refusal.{Check, first_refusal, decided}
use Rattle.bounds.specs.Edition.{first_outside, edition_checks}
use Rattle.bounds.specs.Places.{many_checks}
use Rattle.request.specs.Text.{digits_of, decimal, line_end, line, refusal_line}
use Rattle.request.specs.Scan.{scan, grown_of}
use Rattle.request.specs.Asked.{Asked, wants, nothing, asked_of, example}
use Rattle.lines.specs.Lines.{counts_then, pair_end, copy_line, line_at, lines_of}

-- "A refusal prints one line and no copy"; or "one line for each copy"
pub data Output : Type 0 where
  refusal : ℕ → Output
  copies : List ℕ → ℕ → Output

-- the place 'edition', then "N over 1,000,000 is 14."
abbrev pub list_checks : List ℕ → ℕ → List Check
list_checks ms r = edition_checks ms r ++ many_checks ms r

unfoldable pub listed : List ℕ → ℕ → Output
listed ms r = decided (first_refusal (list_checks ms r)) (copies ms r) (refusal (first_refusal (list_checks ms r)).number)

-- "22: not the form below; checked before all others"
abbrev pub output_for : Asked → Output
output_for nothing = refusal 22
output_for (wants ms r) = listed ms r

abbrev pub output_of : List ℕ → Output
output_of s = output_for (asked_of s)

abbrev pub text_of : Output → List ℕ
text_of (refusal number) = refusal_line number
text_of (copies ms r) = lines_of (line_at ms r) 1 (count_of ms r)

-- what is printed for the text s
unfoldable pub printed : List ℕ → List ℕ
printed s = text_of (output_of s)

-- the document's slip and its seven lines, each with its pair
the_printed : printed example ≡
    49 ∷ 32 ∷ 50 ∷ 32 ∷ 49 ∷ 32 ∷ 48 ∷ 32 ∷ 43 ∷ 48 ∷ 32 ∷ 45 ∷ 48 ∷ 10
    ∷ 50 ∷ 32 ∷ 49 ∷ 32 ∷ 50 ∷ 32 ∷ 48 ∷ 32 ∷ 43 ∷ 50 ∷ 32 ∷ 45 ∷ 49 ∷ 10
    ∷ 51 ∷ 32 ∷ 48 ∷ 32 ∷ 50 ∷ 32 ∷ 49 ∷ 32 ∷ 43 ∷ 51 ∷ 32 ∷ 45 ∷ 49 ∷ 10
    ∷ 52 ∷ 32 ∷ 49 ∷ 32 ∷ 49 ∷ 32 ∷ 49 ∷ 32 ∷ 43 ∷ 49 ∷ 32 ∷ 45 ∷ 50 ∷ 10
    ∷ 53 ∷ 32 ∷ 50 ∷ 32 ∷ 48 ∷ 32 ∷ 49 ∷ 32 ∷ 43 ∷ 49 ∷ 32 ∷ 45 ∷ 50 ∷ 10
    ∷ 54 ∷ 32 ∷ 49 ∷ 32 ∷ 48 ∷ 32 ∷ 50 ∷ 32 ∷ 43 ∷ 51 ∷ 32 ∷ 45 ∷ 49 ∷ 10
    ∷ 55 ∷ 32 ∷ 48 ∷ 32 ∷ 49 ∷ 32 ∷ 50 ∷ 32 ∷ 43 ∷ 50 ∷ 32 ∷ 45 ∷ 49 ∷ 10
    ∷ []
unfolding printed listed asked_of same scan grown_of first_refusal first_outside count_of count
    lines_of line_at copy_line counts_then pair_end transition_at gain_from composition_of order listing decimal digits_of
the_printed = refl

-- `mixes`, `2`, `3`: "total over the sum of ceilings", `refused 4`
the_refusal : printed (109 ∷ 105 ∷ 120 ∷ 101 ∷ 115 ∷ 10 ∷ 50 ∷ 10 ∷ 51 ∷ 10 ∷ [])
    ≡ 114 ∷ 101 ∷ 102 ∷ 117 ∷ 115 ∷ 101 ∷ 100 ∷ 32 ∷ 52 ∷ 10 ∷ []
unfolding printed listed asked_of same scan grown_of first_refusal first_outside count_of count refusal_line line line_end decimal digits_of
the_refusal = refl

-- the same without the last line feed: `refused 22`
the_22 : printed (109 ∷ 105 ∷ 120 ∷ 101 ∷ 115 ∷ 10 ∷ 50 ∷ 10 ∷ 51 ∷ [])
    ≡ 114 ∷ 101 ∷ 102 ∷ 117 ∷ 115 ∷ 101 ∷ 100 ∷ 32 ∷ 50 ∷ 50 ∷ 10 ∷ []
unfolding printed asked_of same scan grown_of refusal_line line line_end decimal digits_of
the_22 = refl
