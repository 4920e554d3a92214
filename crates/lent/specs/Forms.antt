-- Document 01, "The register": "First the record goes in and comes back. After the base, the record is also lent to take and spoil, which update it
-- there with the same answers." A list of calls in which each comes in either form, run as the contracts of the functions say. Document 02, (vi):
-- "what is promised of the column holds of both columns".
use Rattle.std.specs.Prelude.{◌≡◌, List, [], ◌∷◌, ℕ}
use Rattle.walsh.specs.Transition.{none}
use Rattle.walsh.specs.declared.Transition.{Transition}
use Rattle.model.specs.Entry.{Entry, Lent as Columns}
use Rattle.model.specs.Printing.{Printing}
use Rattle.model.specs.Model.{Call}
use Rattle.model.specs.Record.{opening, peeked_by, peeking, calling, Run}
use Rattle.model.specs.declared.Answer.{Answer}
use Rattle.model.specs.declared.Claimed.{Claimed}
use Rattle.model.specs.declared.Ledger.{Ledger}

-- the functions that can be called: `ledger::peek`, `ledger::claim`, `ledger::void`, `ledger::claim_all`, and `engine::huz_claim_in`, `huz_void_in`; a
-- bundle comes by value alone
pub data Invocation : Type 0 where
  peek : Invocation
  claim : ℕ → Entry → Invocation
  void : ℕ → Invocation
  claim_all : ℕ → Columns → Invocation
  claim_in : ℕ → Entry → Invocation
  void_in : ℕ → Invocation

-- which of document 01's calls it is
abbrev pub call_of : Invocation → Call
call_of peek = Call.peek
call_of (claim s e) = Call.claim s e
call_of (void s) = Call.void s
call_of (claim_all s b) = Call.claim_all s b
call_of (claim_in s e) = Call.claim s e
call_of (void_in s) = Call.void s

-- what the caller keeps between two calls: the record and both columns
pub record State : Type 0 where
  pub ledger : Ledger
  pub column : Columns

-- ---- the contracts: of a call at x, that a is answered and y is left

-- the record goes in; r comes back, and its record goes into the next call
pub record ByValue (c : Call) (x : State) (a : Answer) (y : State) : Type 0 where
  pub r : Claimed
  pub meets : (r, y.column) ≡ calling x.ledger x.column c
  pub answer : a ≡ r.answer
  pub kept : y.ledger ≡ r.ledger

-- the record is lent; y has what it holds at exit
abbrev pub Lent : Call → State → Answer → State → Type 0
Lent c x a y = (record { answer = a; ledger = y.ledger }, y.column) ≡ calling x.ledger x.column c

-- the record goes in, both columns are lent to be read; the pair t is answered too
pub record Peeks (x : State) (a : Answer) (t : Transition) (y : State) : Type 0 where
  pub meets : peeked_by a t ≡ peeking x.ledger x.column
  pub kept : y ≡ x

-- the other calls answer no pair
abbrev pub Does : Invocation → State → Answer → Transition → State → Type 0
Does peek x a t y = Peeks x a t y
Does (claim s e) x a t y = ByValue (Call.claim s e) x a y × (t ≡ none)
Does (void s) x a t y = ByValue (Call.void s) x a y × (t ≡ none)
Does (claim_all s b) x a t y = ByValue (Call.claim_all s b) x a y × (t ≡ none)
Does (claim_in s e) x a t y = Lent (Call.claim s e) x a y × (t ≡ none)
Does (void_in s) x a t y = Lent (Call.void s) x a y × (t ≡ none)

-- ---- a list of calls

-- w is a run of the list from x: "Each call is handed the column and the record as the one before it left them"
abbrev pub Runs : State → List Invocation → Run → Type 0
Runs x [] w = w ≡ record { trace = []; ledger = x.ledger; column = x.column }
Runs x (s ∷ ss) w =
    (a : Answer) × (t : Transition) × (y : State) × (v : Run) × Does s x a t y × Runs y ss v
    × (w ≡ record { trace = record { call = call_of s; reply = a; transition = t } ∷ v.trace; ledger = v.ledger; column = v.column })

-- "the column and the record of an accepted opening"
abbrev pub start : Printing → Columns → State
start p col = record { ledger = (opening p col).ledger; column = col }
