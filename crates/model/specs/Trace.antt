-- What is said of a trace, a list of calls with their answers: the accepted ones, those that wrote a line, the second list.
use Rattle.std.specs.Prelude.{◌≡◌, Bool, true, false, cond, List, [], ◌∷◌, ◌++◌, map, ℕ, zero, suc}
use Rattle.walsh.specs.Tests.{either}
use Rattle.model.specs.Entry.{Entry, void_entry, entries_in}
use Rattle.model.specs.Printing.{Printing}
use Rattle.model.specs.Model.{Call, peek, claim, void, claim_all, given, accepted, Event, event}

-- ---- a call

abbrev pub is_claim : Call → Bool
is_claim peek = false
is_claim (claim s e) = true
is_claim (void s) = false
is_claim (claim_all s b) = false

abbrev pub is_void : Call → Bool
is_void peek = false
is_void (claim s e) = false
is_void (void s) = true
is_void (claim_all s b) = false

-- claims and voids
abbrev pub writes : Call → Bool
writes c = either (is_claim c) (is_void c)

-- the serial that a call names
abbrev pub named : Call → ℕ
named peek = 0
named (claim s e) = s
named (void s) = s
named (claim_all s b) = s

-- the line that an accepted claim or void writes; those of a bundle are the lines of its takes (`counted_as`)
abbrev pub entry_of : Call → Entry
entry_of peek = void_entry
entry_of (claim s e) = e
entry_of (void s) = void_entry
entry_of (claim_all s b) = void_entry

-- ---- a trace

-- the events whose call passes a test
abbrev pub those : (Call → Bool) → List Event → List Event
those f [] = []
those f (x ∷ t) = cond (f x.call) (x ∷ those f t) (those f t)

-- the accepted ones
abbrev pub kept : List Event → List Event
kept [] = []
kept (x ∷ t) = cond (accepted x.reply) (x ∷ kept t) (kept t)

-- document 02, (v): the takes of a bundle from serial s on, each with the answer of a take that is accepted
abbrev pub takes_from : Printing → ℕ → List Entry → List Event
takes_from p s [] = []
takes_from p s (e ∷ es) = event p (claim s e) (given p s) ∷ takes_from p (suc s) es

-- "an accepted one is counted as its takes, [..] a refused one as none"; the other calls as themselves
abbrev pub counted_as : Printing → Call → Event → List Event
counted_as p peek x = x ∷ []
counted_as p (claim s e) x = x ∷ []
counted_as p (void s) x = x ∷ []
counted_as p (claim_all s b) x = cond (accepted x.reply) (takes_from p s (entries_in b)) []

abbrev pub singles : Printing → List Event → List Event
singles p [] = []
singles p (x ∷ t) = counted_as p x.call x ++ singles p t

-- the accepted claims and voids, those of bundles among them: they wrote the lines
abbrev pub writers : Printing → List Event → List Event
writers p t = those writes (kept (singles p t))

abbrev pub serials : List Event → List ℕ
serials t = map (λ x. named x.call) t

abbrev pub entries_by : List Event → List Entry
entries_by t = map (λ x. entry_of x.call) t

abbrev pub answered_compositions : List Event → List (List ℕ)
answered_compositions t = map (λ x. x.reply.composition) t

-- ---- the second list

-- the calls of a trace, each with a peek directly before it
abbrev pub peeked : List Event → List Call
peeked [] = []
peeked (x ∷ t) = peek ∷ x.call ∷ peeked t

-- calls in pairs: "each look answers the serial that the call after it names"
abbrev pub Foretold : List Event → Type 0
Foretold [] = Unit
Foretold (x ∷ []) = ⊥
Foretold (x ∷ y ∷ t) = (x.call ≡ peek) × (x.reply.number ≡ 0) × (x.reply.serial ≡ named y.call) × Foretold t

-- n numbers from s
abbrev pub count_from : ℕ → ℕ → List ℕ
count_from s zero = []
count_from s (suc n) = s ∷ count_from (suc s) n
