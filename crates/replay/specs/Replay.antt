-- Document 01, "The register": a whole list of calls, run by the code over slices that the caller lends. What the code promises of it is the
-- statement about the list as a whole (crate `model`, specs/Whole.antt), of what stands in the slices afterwards.
use Rattle.std.specs.Prelude.{◌≡◌, refl, ◌≢◌, Bool, true, false, not, List, [], ◌∷◌, ◌++◌, ℕ, ◌*◌, ◌%◌, eqb, length}
use Rattle.walsh.specs.Transition.{none}
use Rattle.bounds.specs.Refusal.{Check, check, first_refusal}
use Rattle.model.specs.Basics.{all}
use Rattle.model.specs.Entry.{Lent, columns, room}
use Rattle.model.specs.Printing.{Printing}
use Rattle.model.specs.Model.{Call, refused_with}
use Rattle.model.specs.Record.{opened, blank_ledger, opening_checks, Run, run}
use Rattle.model.specs.Whole.{ran, second_list, Whole}
use Rattle.model.specs.declared.Ledger.{Ledger}
use Rattle.model.specs.declared.Opened.{Opened}
use Rattle.replay.specs.Rows.{call_width, orders_column, items_column, calls_in, named_in, row_width, row_of, rows_of, shown}

-- ---- what is lent

-- the rows of the calls, and the pools: orders, and item lines
pub record Script : Type 0 where
  pub rows : List ℕ
  pub pool : Lent

abbrev pub scripted : (rows : List ℕ) (pool : Lent) → Script
scripted rows pool = record { rows = rows; pool = pool }

abbrev pub calls_of : Script → List Call
calls_of x = calls_in x.rows x.pool

-- the two columns, and the rows of the answers
pub record Buffers : Type 0 where
  pub column : Lent
  pub answers : List ℕ

abbrev pub buffers : (column : Lent) (answers : List ℕ) → Buffers
buffers column answers = record { column = column; answers = answers }

-- a run as the record, the columns and the rows show it
abbrev pub seen : List Call → Ledger → Buffers → Run
seen cs l b = record { trace = shown cs b.answers; ledger = l; column = b.column }

-- ---- refusals: those of the opening, then the place 'lent part'

-- such rows are whole ones, a buffer of so many numbers has a row for each call, and pools of so many orders and item lines just those that the calls
-- name
abbrev pub sizes_of : (rows : List ℕ) (calls answers orders items : ℕ) → List Bool
sizes_of rows calls answers orders items =
    eqb (length rows % call_width) 0
    ∷ eqb answers (calls * row_width)
    ∷ eqb orders (named_in orders_column rows)
    ∷ eqb items (named_in items_column rows)
    ∷ []

abbrev pub sizes : Script → Buffers → List Bool
sizes x b = sizes_of x.rows (length (calls_of x)) (length b.answers) (length x.pool.orders) (length x.pool.items)

-- for example, with a bundle of two orders and one item line and a buffer of one row pools of two and one fit, and those in which one of either is
-- missing or over do not
fitting : (pool : Lent) → Bool
fitting pool = all (sizes (scripted (3 ∷ 1 ∷ 2 ∷ 1 ∷ []) pool) (buffers (columns [] []) (row_of (refused_with 18 1007) none)))

just_those : fitting (columns (1007 ∷ 1014 ∷ []) (1 ∷ [])) ≡ true
unfolding fitting
just_those = refl

one_missing : fitting (columns (1007 ∷ []) (1 ∷ [])) ≡ false
unfolding fitting
one_missing = refl

one_over : fitting (columns (1007 ∷ 1014 ∷ 1021 ∷ []) (1 ∷ [])) ≡ false
unfolding fitting
one_over = refl

item_missing : fitting (columns (1007 ∷ 1014 ∷ []) []) ≡ false
unfolding fitting
item_missing = refl

item_over : fitting (columns (1007 ∷ 1014 ∷ []) (1 ∷ 1 ∷ [])) ≡ false
unfolding fitting
item_over = refl

abbrev pub size_checks : Script → Buffers → List Check
size_checks x b = check 13 (not (all (sizes x b))) 0 ∷ []

abbrev pub replay_checks : Printing → Script → Buffers → List Check
replay_checks p x b = opening_checks p (room b.column) ++ size_checks x b

-- ---- the promise: with b lent, o is answered and b' left

-- The calls cs from the record r: the answers' rows and nothing else stand in the buffer, and what is seen is the run.
pub record Ran (r : Ledger) (cs : List Call) (b b' : Buffers) (l : Ledger) : Type 0 where
  pub rows : b'.answers ≡ rows_of (run r b.column cs).trace
  pub same_run : seen cs l b' ≡ run r b.column cs

-- They are run from the opened record, with all that is said of the list as a whole, of what is seen. What the columns hold besides the entries
-- is in `Whole.column`.
pub record Replayed (p : Printing) (cs : List Call) (b b' : Buffers) (l : Ledger) : Type 0 where
  pub done : Ran (opened p) cs b b' l
  pub whole : Whole p b.column cs (seen cs l b') (ran p b.column (second_list p (seen cs l b')))

-- "A refusal answers its number and a detail [..] and changes no lent byte"; "a refused opening, a record all zeros", also where the lengths do
-- not fit
pub record Replays (p : Printing) (x : Script) (b b' : Buffers) (o : Opened) : Type 0 where
  pub number : o.number ≡ (first_refusal (replay_checks p x b)).number
  pub detail : o.detail ≡ (first_refusal (replay_checks p x b)).detail
  pub refused : o.number ≢ 0 → (o.ledger ≡ blank_ledger) × (b' ≡ b)
  pub accepted : o.number ≡ 0 → Replayed p (calls_of x) b b' o.ledger
