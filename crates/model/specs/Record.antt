-- Document 01, "The register", and "Refusals", places 'opening' and 'register calls': what each call does, as a function of the record and the
-- columns alone. `col` is both columns (specs/Entry `Lent`).
use Rattle.std.specs.Prelude.{Bool, cond, not, List, [], ◌∷◌, ◌++◌, ℕ, ◌+◌, ltb, leb, eqb, length, take}
use Rattle.walsh.specs.Serial.{same}
use Rattle.walsh.specs.declared.Transition.{Transition}
use Rattle.bounds.specs.Refusal.{Check, check, first_refusal, decided}
use Rattle.bounds.specs.Edition.{edition_checks, record_checks, cells_of, bounds_of, blank_bounds}
use Rattle.bounds.specs.Places.{most_entries, too_many}
use Rattle.bounds.specs.declared.Bounds.{Bounds}
use Rattle.bounds.specs.declared.Refusal.{Refusal}
use Rattle.model.specs.declared.Answer.{Answer}
use Rattle.model.specs.declared.Claimed.{Claimed}
use Rattle.model.specs.declared.Ledger.{Ledger}
use Rattle.model.specs.declared.Opened.{Opened}
use Rattle.model.specs.declared.Peeked.{Peeked}
use Rattle.model.specs.Basics.{all}
use Rattle.model.specs.Entry.{Entry, sold_in, voided_in, unsound_in, Lent, room, first_entries, put}
use Rattle.model.specs.Printing.{Printing, blank, place_of, capacity, next_composition}
use Rattle.model.specs.Model.{Call, peek, call_checks, granted, answer_by, accepted, appended, told, Event, event}

-- ---- the edition of a record

-- the bounds that a record of bounds holds
abbrev pub upper_of : Bounds → List ℕ
upper_of b = take b.parts b.upper

-- what a record is opened for
abbrev pub printing_of : Ledger → Printing
printing_of r = record { bounds = upper_of r.bounds; total = r.bounds.total }

-- ---- opening

-- "column shorter than N", of columns with room for so many lines: document 02, (vi), "The opening check of 15 covers both columns"
abbrev pub short_column : Printing → ℕ → Check
short_column p lines = check 15 (ltb lines (capacity p)) 0

-- the places 'edition' and 'opening'
abbrev pub opening_checks : Printing → ℕ → List Check
opening_checks p lines = edition_checks p.bounds p.total ++ (too_many (capacity p) ∷ short_column p lines ∷ [])

-- the record that belongs to a list of lines
abbrev pub ledger_of : Printing → List Entry → Ledger
ledger_of p l =
    record {
      bounds = bounds_of p.bounds p.total;
      entries = length l;
      sold = sold_in l;
      voided = voided_in l;
      next = next_composition p (length l);
    }

-- "its record has no lines and the mix of serial 1"
unfoldable pub opened : Printing → Ledger
opened p = ledger_of p []

abbrev pub blank_ledger : Ledger
blank_ledger = record { bounds = blank_bounds; entries = 0; sold = 0; voided = 0; next = blank }

-- "a refused opening, a record all zeros"
abbrev pub opened_by : Refusal → Printing → Opened
opened_by v p =
    decided v
    (record { number = 0; detail = 0; ledger = opened p })
    (record { number = v.number; detail = v.detail; ledger = blank_ledger })

unfoldable pub opening : Printing → Lent → Opened
opening p col = opened_by (first_refusal (opening_checks p (room col))) p

-- ---- number 16

-- the lines written, as they stand in the columns
abbrev pub written : Ledger → Lent → List Entry
written r col = first_entries r.entries col

-- what number 16 tests, in the order of its row, "the mix or spare cells" at its end; then document 02, (vi), of the lines written. An item column that
-- is too short has no room either.
abbrev pub tests : Ledger → Lent → List Bool
tests r col =
    let p = printing_of r in
    eqb (first_refusal (record_checks r.bounds)).number 0
    ∷ leb (capacity p) most_entries
    ∷ leb (capacity p) (room col)
    ∷ leb r.entries (capacity p)
    ∷ eqb r.sold (sold_in (written r col))
    ∷ eqb r.voided (voided_in (written r col))
    ∷ same r.next (next_composition p r.entries)
    ∷ same r.bounds.upper (cells_of (upper_of r.bounds))
    ∷ eqb (unsound_in (written r col)) 0
    ∷ []

-- a record and columns that belong together
unfoldable pub consistent : Ledger → Lent → Bool
consistent r col = all (tests r col)

-- ---- the calls

-- the place 'register calls'
abbrev pub not_together : Ledger → Lent → Check
not_together r col = check 16 (not (consistent r col)) 0

-- then those of the call over the lines written
abbrev pub ledger_checks : Ledger → Lent → Call → List Check
ledger_checks r col c = not_together r col ∷ call_checks (printing_of r) (written r col) c

-- the serial that an accepted call answers
abbrev pub granted_by : Ledger → Lent → Call → ℕ
granted_by r col c = granted (printing_of r) (written r col) c

unfoldable pub answered : Ledger → Lent → Call → Answer
answered r col c = answer_by (first_refusal (ledger_checks r col c)) (printing_of r) (granted_by r col c)

-- a peek: its answer and the pair
abbrev pub peeked_by : Answer → Transition → Peeked
peeked_by a t =
    record {
      number = a.number;
      detail = a.detail;
      serial = a.serial;
      composition = a.composition;
      gain = t.gain;
      loss = t.loss;
    }

unfoldable pub peeking : Ledger → Lent → Peeked
peeking r col = peeked_by (answered r col peek) (told (printing_of r) peek (answered r col peek))

-- the record with the lines es more
abbrev pub advanced : Ledger → List Entry → Ledger
advanced r es =
    record {
      bounds = r.bounds;
      entries = r.entries + length es;
      sold = r.sold + sold_in es;
      voided = r.voided + voided_in es;
      next = next_composition (printing_of r) (r.entries + length es);
    }

-- what an accepted call makes of the record, and of the columns: its lines stand from the entry of the serial that it answers on. A peek appends
-- none, and leaves both as they were (proofs/Records `calling_peek`).
abbrev pub counted : Ledger → Call → Ledger
counted r c = advanced r (appended c)

abbrev pub entered : Ledger → Lent → Call → Lent
entered r col c = put col (place_of (printing_of r) (granted_by r col c)) (appended c)

-- a refusal "changes no lent byte and no record"
unfoldable pub record_after : Ledger → Lent → Call → Ledger
record_after r col c = cond (accepted (answered r col c)) (counted r c) r

unfoldable pub column_after : Ledger → Lent → Call → Lent
column_after r col c = cond (accepted (answered r col c)) (entered r col c) col

-- a claim, a void or a bundle: what it hands back, and the columns that it leaves
unfoldable pub calling : Ledger → Lent → Call → Claimed × Lent
calling r col c = (record { answer = answered r col c; ledger = record_after r col c }, column_after r col c)

-- the lines so far, "of no entries where 16 holds"
unfoldable pub entries_of : Ledger → Lent → List Entry
entries_of r col = cond (consistent r col) (written r col) []

-- ---- a list of calls

-- the calls with their answers, and the record and the columns that they leave
pub record Run : Type 0 where
  pub trace : List Event
  pub ledger : Ledger
  pub column : Lent

-- "Each call is handed the column and the record as the one before it left them"
unfoldable pub run : Ledger → Lent → List Call → Run
run r col [] = record { trace = []; ledger = r; column = col }
run r col (c ∷ cs) =
    let rest = run (record_after r col c) (column_after r col c) cs in
    record { trace = event (printing_of r) c (answered r col c) ∷ rest.trace; ledger = rest.ledger; column = rest.column }
