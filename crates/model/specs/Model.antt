-- Document 01, "The register": the paper register, which says what must happen. "It is fed the arguments of the calls, and nothing of the record
-- or the column. Its state is the edition and a list of order numbers, empty after opening; the first entry is serial 1's, the second serial 2's
-- and so on, and its next serial is the list's length + 1." Document 02, (vi): its "entries become pairs of number and item line". Here p is what it is
-- opened for, the edition, and l is the list of lines.
use Rattle.std.specs.Prelude.{◌≡◌, refl, Bool, cond, not, List, [], ◌∷◌, ◌++◌, ℕ, suc, ltb, eqb, length, get_or}
use Rattle.walsh.specs.Order.{order, listing}
use Rattle.walsh.specs.Tests.{either}
use Rattle.walsh.specs.Serial.{composition_of}
use Rattle.walsh.specs.Transition.{none, transition_at, gain_from}
use Rattle.walsh.specs.declared.Transition.{Transition}
use Rattle.digits.specs.Digits.{passes}
use Rattle.bounds.specs.Refusal.{Check, check, first_refusal, decided}
use Rattle.bounds.specs.Places.{outside}
use Rattle.bounds.specs.declared.Refusal.{Refusal}
use Rattle.model.specs.declared.Answer.{Answer}
use Rattle.model.specs.Basics.{first_place}
use Rattle.model.specs.Entry.{Entry, void_entry, order_of, is_voided, same_order, is_no_item, Lent, entries_in, room, is_paired}
use Rattle.model.specs.Printing.{Printing, blank, size, composition_at, transition_to, lowest, place_of, serial_at}

-- the document's look; take, of a serial for an order; spoil, of a serial; document 02, (v): the bundle, which "names a first serial and 1 to 40 order
-- numbers", and (vi): "an item line for each order"
pub data Call : Type 0 where
  peek : Call
  claim : ℕ → Entry → Call
  void : ℕ → Call
  claim_all : ℕ → Lent → Call

-- the next serial
abbrev pub next : Printing → List Entry → ℕ
next p l = serial_at p (length l)

-- ---- the rows of the table of refusals, in its words and order; behind them the words of the paper register

-- take: "order 0"; "o is 0"
abbrev pub no_order : Entry → Check
no_order e = check 17 (is_voided e) 0

-- document 02, (vii): "26, the weighted sum isn't a multiple of ten, directly after 17 and before 25"
abbrev pub mistyped : Entry → Check
mistyped e = check 26 (not (passes (order_of e))) 0

-- document 02, (vi): "25, item line 0 or over 99, directly after 17"
abbrev pub bad_item : Entry → Check
bad_item e = check 25 (is_no_item e) 0

-- serial given: "0 or over N"; "s is 0 or over N"
abbrev pub no_line : Printing → ℕ → Check
no_line p s = outside (lowest p) (size p) s

-- take, spoil: "already written; detail: the number on its line"; "s is below the next serial, detail the order number of its entry"
abbrev pub already_written : Printing → List Entry → ℕ → Check
already_written p l s = check 18 (ltb s (next p l)) (order_of (get_or l (place_of p s) void_entry))

-- "above the next serial; detail: the next"; "s is above the next serial, detail the next"
abbrev pub above_next : Printing → List Entry → ℕ → Check
above_next p l s = check 19 (ltb (next p l) s) (next p l)

-- take: "this order stands in an earlier line; detail: the lowest such serial"; "o stands in the list, detail the lowest serial it stands at"; document
-- 02, (vi): "when number and item line both stand already"
abbrev pub stands_earlier : Printing → List Entry → Entry → Check
stands_earlier p l e = check 20 (ltb (first_place (same_order e) l) (length l)) (serial_at p (first_place (same_order e) l))

-- look: "lines = N"; "if the next serial is above N"
abbrev pub all_written : Printing → List Entry → Check
all_written p l = check 21 (ltb (size p) (next p l)) 0

-- document 02, (v): "24, a bundle of 0 or over 40"; (vi): "A bundle names an item line for each order; another number of them is 24"
abbrev pub bad_bundle : Lent → Check
bad_bundle b = check 24 (either (not (is_paired b)) (either (eqb (room b) 0) (ltb 40 (room b)))) 0

-- ---- a call

-- the checks of an order, and those of a serial
abbrev pub order_checks : Entry → List Check
order_checks e = no_order e ∷ mistyped e ∷ bad_item e ∷ []

abbrev pub place_checks : Printing → List Entry → ℕ → List Check
place_checks p l s = no_line p s ∷ already_written p l s ∷ above_next p l s ∷ []

-- "Take (serial s, order o) is refused by the first of these that holds"
abbrev pub claim_checks : Printing → List Entry → ℕ → Entry → List Check
claim_checks p l s e = order_checks e ++ (place_checks p l s ++ (stands_earlier p l e ∷ []))

-- "single takes one after another", from serial s on: those of each, on the list as the ones before it would leave it
abbrev pub takes_checks : Printing → List Entry → ℕ → List Entry → List Check
takes_checks p l s [] = []
takes_checks p l s (e ∷ es) = claim_checks p l s e ++ takes_checks p (l ++ (e ∷ [])) (suc s) es

module _ (p : Printing) (l : List Entry) where
  -- "Spoil (s): the same without o and its checks"; a bundle "answers the refusal of the first that would fail, with its detail", and that is the first
  -- row that holds
  abbrev pub call_checks : Call → List Check
  call_checks peek = all_written p l ∷ []
  call_checks (claim s e) = claim_checks p l s e
  call_checks (void s) = place_checks p l s
  call_checks (claim_all s b) = bad_bundle b ∷ takes_checks p l s (entries_in b)

  -- the serial that an accepted call answers: "the next serial"; "s"; "An accepted bundle answers its first serial"
  abbrev pub granted : Call → ℕ
  granted peek = next p l
  granted (claim s e) = s
  granted (void s) = s
  granted (claim_all s b) = s

-- the rows of a table that stand before the row of a number
abbrev pub rows_before : ℕ → List Check → List Check
rows_before n [] = []
rows_before n (c ∷ cs) = cond (eqb c.number n) [] (c ∷ rows_before n cs)

-- for example, of a claim 17, 26, 25 and 6 stand before 18
before_18 : (p : Printing) (l : List Entry) (s : ℕ) (e : Entry) → rows_before 18 (call_checks p l (claim s e)) ≡ no_order e ∷ mistyped e ∷ bad_item e ∷ no_line p s ∷ []
before_18 p l s e = refl

-- an accepted call answers a serial "and its mix"
abbrev pub given : Printing → ℕ → Answer
given p s = record { number = 0; detail = 0; serial = s; composition = composition_at p s }

-- a refused one "such a mix all zeros, and serial 0"
abbrev pub refused_with : ℕ → ℕ → Answer
refused_with number detail = record { number = number; detail = detail; serial = 0; composition = blank }

abbrev pub answer_by : Refusal → Printing → ℕ → Answer
answer_by v p s = decided v (given p s) (refused_with v.number v.detail)

unfoldable pub answer : Printing → List Entry → Call → Answer
answer p l c = answer_by (first_refusal (call_checks p l c)) p (granted p l c)

abbrev pub accepted : Answer → Bool
accepted a = eqb a.number 0

-- the lines that an accepted call appends: "Otherwise it is accepted, o is appended"; a spoil "appends 0", and 0 for the item line; of a bundle all the
-- orders
abbrev pub appended : Call → List Entry
appended peek = []
appended (claim s e) = e ∷ []
appended (void s) = void_entry ∷ []
appended (claim_all s b) = entries_in b

-- "A refused call changes nothing."
unfoldable pub after : Printing → List Entry → Call → List Entry
after p l c = cond (accepted (answer p l c)) (l ++ appended c) l

-- ---- a list of calls

-- document 02, (i), the pair that goes with an answer: "the paper register's look answers the pair too", that of its serial; a refused one has serial
-- 0, and so none. The other calls answer no pair.
abbrev pub told : Printing → Call → Answer → Transition
told p peek a = transition_to p a.serial
told p (claim s e) a = none
told p (void s) a = none
told p (claim_all s b) a = none

-- for example, of the two copies 1 0 and 0 1 the second kind gains what the first loses
two_ones : Printing
two_ones = record { bounds = 1 ∷ 1 ∷ []; total = 1 }

look_first : told two_ones peek (given two_ones 1) ≡ none
unfolding two_ones transition_at
look_first = refl

look_second : told two_ones peek (given two_ones 2) ≡ record { gain = 2; loss = 1 }
unfolding two_ones transition_at gain_from composition_of order listing
look_second = refl

-- a call with its answer and the pair
pub record Event : Type 0 where
  pub call : Call
  pub reply : Answer
  pub transition : Transition

abbrev pub event : Printing → Call → Answer → Event
event p c a = record { call = c; reply = a; transition = told p c a }

-- a call on the list l, with the model's answer
abbrev pub event_at : Printing → List Entry → Call → Event
event_at p l c = event p c (answer p l c)

-- what a list of calls leaves: the calls with their answers, and the list of lines
pub record Book : Type 0 where
  pub trace : List Event
  pub entries : List Entry

unfoldable pub book_from : Printing → List Entry → List Call → Book
book_from p l [] = record { trace = []; entries = l }
book_from p l (c ∷ cs) =
    let rest = book_from p (after p l c) cs in
    record { trace = event_at p l c ∷ rest.trace; entries = rest.entries }
