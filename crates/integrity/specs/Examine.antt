-- Number 16 as the code tests it: first what needs no line, then the counts of the lines written.
use Rattle.std.specs.Prelude.{Bool, Option, List, [], ◌∷◌, ℕ, leb, eqb}
use Rattle.std.specs.Bool.{then_some}
use Rattle.walsh.specs.Serial.{same}
use Rattle.bounds.specs.Refusal.{first_refusal}
use Rattle.bounds.specs.Edition.{record_checks, cells_of}
use Rattle.bounds.specs.Places.{most_entries}
use Rattle.model.specs.Basics.{all}
use Rattle.model.specs.Entry.{Entry, Lent, entries_in}
use Rattle.model.specs.Printing.{size, capacity, next_composition}
use Rattle.model.specs.Record.{upper_of, printing_of, written}
use Rattle.model.specs.declared.Ledger.{Ledger}
use Rattle.integrity.specs.declared.Found.{Found}
use Rattle.integrity.specs.declared.Met.{Met}
use Rattle.integrity.specs.Lines.{stands_at}
use Rattle.integrity.specs.Again.{first_again, place_again}

-- the tests that look at no line, of columns with room for n
abbrev pub frame_tests : Ledger → ℕ → List Bool
frame_tests r n =
    let p = printing_of r in
    eqb (first_refusal (record_checks r.bounds)).number 0
    ∷ leb (capacity p) most_entries
    ∷ leb (capacity p) n
    ∷ leb r.entries (capacity p)
    ∷ same r.next (next_composition p r.entries)
    ∷ same r.bounds.upper (cells_of (upper_of r.bounds))
    ∷ []

unfoldable pub framed : Ledger → ℕ → Bool
framed r n = all (frame_tests r n)

-- what is answered where a test says fits: N, or else nothing
unfoldable pub seen_by : Bool → Ledger → Option ℕ
seen_by fits r = then_some fits (size (printing_of r))

-- the same, with the lowest place of e's order among the lines written, where it stands there
unfoldable pub found_by : Bool → Ledger → Lent → Entry → Option Found
found_by fits r col e = then_some fits (record { count = size (printing_of r); place = stands_at e (written r col) })

-- the same, with the first order of a bundle that stands in an earlier line, and that line's place
unfoldable pub met_by : Bool → Ledger → Lent → Lent → Option Met
met_by fits r col es =
    then_some fits
    (record {
      count = size (printing_of r);
      first = first_again (written r col) (entries_in es);
      place = place_again (written r col) (entries_in es);
    })
