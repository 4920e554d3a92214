-- Document 01, "The register": the statement about a whole list of calls, in one record. "Demand 3 speaks of any number of looks, takes and spoils,
-- also none, with any arguments. They start from the column and the record of an accepted opening." Document 02, (v): "The checkout guarantee covers
-- lists with bundles among the other calls"; an accepted one "is counted as its takes", which is in `writers`.
use Rattle.std.specs.Prelude.{◌≡◌, true, ◌≢◌, ◌↔◌, ◌⊎◌, ℕ, suc, ◌+◌, ◌-◌, ◌≤◌, ◌<◌, length, get_or, take}
use mathlib.Core.List.{List, [], ◌∷◌, ◌++◌, Memᴰ}
use Rattle.walsh.specs.Order.{Composition}
use Rattle.walsh.specs.Neighbours.{Adjacent}
use Rattle.walsh.specs.Transition.{none, Carries}
use Rattle.bounds.specs.Refusal.{first_refusal}
use Rattle.bounds.specs.Edition.{cells_of, bounds_of}
use Rattle.model.specs.declared.Answer.{Answer}
use Rattle.model.specs.Basics.{Distinct, Once}
use Rattle.model.specs.Entry.{Entry, void_entry, DistinctOrders, sold_in, voided_in, Lent, entries_in, first_entries, room, Paired, over}
use Rattle.model.specs.Printing.{Printing, blank, composition_at, lowest, serial_at, capacity, stock, next_composition}
use Rattle.model.specs.Model.{Call, peek, claim, void, claim_all, call_checks, rows_before, given, accepted, Event, Book, book_from}
use Rattle.model.specs.Record.{opened, answered, Run, run}
use Rattle.model.specs.Trace.{writes, is_claim, is_void, named, those, writers, serials, entries_by, answered_compositions}
use Rattle.model.specs.Trace.{peeked, Foretold, count_from}
use Rattle.model.specs.Reason.{GoodOrder, Reason}

-- the list of calls on the record and the columns of an opened ledger, and on the model
abbrev pub ran : Printing → Lent → List Call → Run
ran p col cs = run (opened p) col cs

abbrev pub book : Printing → List Call → Book
book p cs = book_from p [] cs

-- the lines that a run leaves: the beginnings of its columns, as many as its record counts
abbrev pub lines : Run → List Entry
lines w = first_entries w.ledger.entries w.column

-- "A second list has the accepted takes and spoils alone, in their order, each with a look directly before it"; the takes of a bundle stand there singly
abbrev pub second_list : Printing → Run → List Call
second_list p w = peeked (writers p w.trace)

-- Of an opening for p over the columns col: w is the run of the list cs, v the run of its second list. First what document 01 says by the paper
-- register, then what it comes to by the calls and their answers alone.
pub record Whole (p : Printing) (col : Lent) (cs : List Call) (w v : Run) : Type 0 where
  -- "The answer of each call (number and detail, serial, mix) is the paper register's"; document 02, (i): "the paper register's look answers the pair
  -- too". "So 16 never comes up there."
  pub answers : w.trace ≡ (book p cs).trace
  pub never_16 : (x : Event) → Memᴰ x w.trace → x.reply.number ≢ 16
  -- "Look gives the same pair for its serial, measured from the copy before": of the kinds that it names the copy answered has one more and one fewer
  pub pair_some : (x : Event) → Memᴰ x w.trace → x.call ≡ peek → 2 ≤ x.reply.serial
      → Carries (length p.bounds) (composition_at p (x.reply.serial - 1)) x.reply.composition x.transition
  -- "serial 1 has 0 and 0, and so has a refused call", whose serial is 0; the other calls have no pair
  pub pair_none : (x : Event) → Memᴰ x w.trace → (x.reply.serial < 2) ⊎ (x.call ≢ peek) → x.transition ≡ none
  -- "the column begins with the paper register's list"; "Other entries of the column keep their values." Document 02, (vi): "what is promised of the
  -- column holds of both columns"
  pub column : w.column ≡ over col (book p cs).entries
  -- "the record's three counts are that register's"
  pub entries : w.ledger.entries ≡ length (book p cs).entries
  pub sold : w.ledger.sold ≡ sold_in (book p cs).entries
  pub voided : w.ledger.voided ≡ voided_in (book p cs).entries
  -- "the record's edition is the opened one and its mix that of the next serial (of serial N when full)"
  pub bounds : w.ledger.bounds ≡ bounds_of p.bounds p.total
  pub next : w.ledger.next ≡ next_composition p (length (book p cs).entries)
  -- document 02, (v): "An accepted bundle answers its first serial and that mix", its answer "being that of the first" of its takes
  pub bundle_answer : (x : Event) → Memᴰ x w.trace → (s : ℕ) (b : Lent) → x.call ≡ claim_all s b → accepted x.reply ≡ true
      → x.reply ≡ given p s
  -- the second list "leaves the same column and record, its takes and spoils get the answers they had, and each look answers the serial that the
  -- call after it names"
  pub second_column : v.column ≡ w.column
  pub second_record : v.ledger ≡ w.ledger
  pub second_answers : those writes v.trace ≡ writers p w.trace
  pub second_peeks : Foretold v.trace
  -- ---- by the calls and their answers

  -- the lines are as many as the accepted claims and the accepted voids, the sold ones as the former, the voided ones as the latter
  pub written : w.ledger.entries ≡ length (those is_claim (writers p w.trace)) + length (those is_void (writers p w.trace))
  pub claims : w.ledger.sold ≡ length (those is_claim (writers p w.trace))
  pub voids : w.ledger.voided ≡ length (those is_void (writers p w.trace))
  -- in turn they are what these calls wrote: number and item line of a claim, 0 and 0 for a void; no number stands in two of them with the same item
  -- line
  pub line_orders : lines w ≡ entries_by (writers p w.trace)
  pub orders_once : DistinctOrders (lines w)
  -- they were written from serial 1 up; "A line holds the mix of its serial, a spoilt line too."
  pub in_turn : serials (writers p w.trace) ≡ count_from (lowest p) w.ledger.entries
  pub first_compositions : answered_compositions (writers p w.trace) ≡ take w.ledger.entries (stock p)
  -- no composition twice, and each next one has one unit more at one part and one fewer at another
  pub no_repeat : Distinct blank (answered_compositions (writers p w.trace))
  pub neighbours : (i : ℕ) → suc i < w.ledger.entries
      → Adjacent (length p.bounds) (get_or (answered_compositions (writers p w.trace)) i blank)
      (get_or (answered_compositions (writers p w.trace)) (suc i) blank)
  -- a peek afterwards answers 21 exactly when the lines hold every composition of the edition, each exactly once
  pub full : ((answered w.ledger w.column peek).number ≡ 21)
      ↔ ((g : List ℕ) → Composition p.bounds p.total g → Once blank (cells_of g) (answered_compositions (writers p w.trace)))
  -- afterwards, while there is room, a claim of the next serial for a good order that stands in no line is accepted, and so is a void of that serial, and
  -- a bundle of 1 to 40 such orders, all different, for which there is room
  pub next_claim : (e : Entry) → w.ledger.entries < capacity p → GoodOrder e
      → ((i : ℕ) → i < length (lines w) → get_or (lines w) i void_entry ≢ e)
      → answered w.ledger w.column (claim (serial_at p w.ledger.entries) e) ≡ given p (serial_at p w.ledger.entries)
  pub next_void : w.ledger.entries < capacity p
      → answered w.ledger w.column (void (serial_at p w.ledger.entries)) ≡ given p (serial_at p w.ledger.entries)
  pub next_claim_all : (b : Lent) → Paired b → room b ≢ 0 → room b ≤ 40 → w.ledger.entries + room b ≤ capacity p
      → ((k : ℕ) → k < room b → GoodOrder (get_or (entries_in b) k void_entry))
      → DistinctOrders (lines w ++ entries_in b)
      → answered w.ledger w.column (claim_all (serial_at p w.ledger.entries) b) ≡ given p (serial_at p w.ledger.entries)
  -- every answer has its reason in the calls before it and their answers, and no other answer has one
  pub reasons : (before rest : List Event) (x : Event) → w.trace ≡ before ++ (x ∷ rest)
      → (a : Answer) → Reason p before x.call a ↔ (a ≡ x.reply)
  -- "A take that no check before 18 refuses is refused 18 exactly when an earlier accepted call wrote that serial." A spoil too.
  pub claimed_once : (before rest : List Event) (x : Event) → w.trace ≡ before ++ (x ∷ rest)
      → writes x.call ≡ true
      → (first_refusal (rows_before 18 (call_checks p (entries_by (writers p before)) x.call))).number ≡ 0
      → (x.reply.number ≡ 18) ↔ Memᴰ (named x.call) (serials (writers p before))
