-- Document 01, "The register": why a call is answered as it is, in the words of the calls before it and of their answers. Nothing here goes through
-- the table of refusals, the paper register's list or the record: a reader need not believe these. That in a list of calls each answer has a reason,
-- and no other answer has one, is in specs/Whole.
use Rattle.std.specs.Prelude.{◌≡◌, ◌≢◌, ◌⊎◌, ℕ, suc, ◌≤◌, ◌<◌, length}
use mathlib.Core.List.{List, [], ◌∷◌, ◌++◌, Memᴰ}
use Rattle.digits.specs.Digits.{Passes}
use Rattle.model.specs.declared.Answer.{Answer}
use Rattle.model.specs.Entry.{Entry, order_of, item_of, Lent, entries_in, room, Paired}
use Rattle.model.specs.Printing.{Printing, size, lowest, serial_at}
use Rattle.model.specs.Model.{Call, peek, claim, void, claim_all, given, refused_with, Event, event}
use Rattle.model.specs.Trace.{named, entry_of, writers}

-- ---- an order by itself

-- an order that a claim may name, and why one is refused
abbrev pub GoodOrder : Entry → Type 0
GoodOrder e = (order_of e ≢ 0) × Passes (order_of e) × (item_of e ≢ 0) × (item_of e ≤ 99)

pub data OrderReason (e : Entry) (a : Answer) : Type 0 where
  -- "17, o is 0"
  no_order_given : order_of e ≡ 0 → a ≡ refused_with 17 0 → OrderReason e a
  -- document 02, (vii): "26, the weighted sum isn't a multiple of ten, directly after 17 and before 25"
  wrong_digit : order_of e ≢ 0 → ¬ Passes (order_of e) → a ≡ refused_with 26 0 → OrderReason e a
  -- document 02, (vi): "25, item line 0 or over 99"
  no_item : order_of e ≢ 0 → Passes (order_of e) → (item_of e ≡ 0) ⊎ (99 < item_of e) → a ≡ refused_with 25 0 → OrderReason e a

-- ---- a call; p is what the ledger was opened for, past the calls so far with their answers

module _ (p : Printing) (past : List Event) where
  -- x is an accepted claim or void among them, or such a claim of a bundle
  abbrev pub Wrote : Event → Type 0
  Wrote x = Memᴰ x (writers p past)

  -- each of these has written a line
  abbrev pub next_serial : ℕ
  next_serial = serial_at p (length (writers p past))

  -- "Look: if the next serial is above N, 21; else the next serial with its mix"
  pub data PeekReason (a : Answer) : Type 0 where
    none_left : size p < next_serial → a ≡ refused_with 21 0 → PeekReason a
    shown : next_serial ≤ size p → a ≡ given p next_serial → PeekReason a

  -- a serial s that is not the next one is refused
  pub data SerialReason (s : ℕ) (a : Answer) : Type 0 where
    -- "6, s is 0 or over N"
    outside : (s < lowest p) ⊎ (size p < s) → a ≡ refused_with 6 0 → SerialReason s a
    -- "18, s is below the next serial, detail the order number of its entry"
    written : (x : Event) → Wrote x → named x.call ≡ s → a ≡ refused_with 18 (order_of (entry_of x.call)) → SerialReason s a
    -- "19, s is above the next serial, detail the next"
    above : next_serial < s → s ≤ size p → a ≡ refused_with 19 next_serial → SerialReason s a

  -- "Take (serial s, order o)"
  pub data ClaimReason (s : ℕ) (e : Entry) (a : Answer) : Type 0 where
    bad_order : OrderReason e a → ClaimReason s e a
    not_next : GoodOrder e → SerialReason s a → ClaimReason s e a
    -- "20, o stands in the list, detail the lowest serial it stands at"
    stands :
        GoodOrder e
        → s ≡ next_serial
        → s ≤ size p
        → (x : Event)
        → Wrote x
        → entry_of x.call ≡ e
        → ((y : Event) → Wrote y → entry_of y.call ≡ e → named x.call ≤ named y.call)
        → a ≡ refused_with 20 (named x.call)
        → ClaimReason s e a
    -- "Otherwise it is accepted [..], and the answer is s and its mix."
    claimed : GoodOrder e → s ≡ next_serial → s ≤ size p → ((y : Event) → Wrote y → entry_of y.call ≢ e) → a ≡ given p s → ClaimReason s e a

  -- "Spoil (s): the same without o and its checks"
  pub data VoidReason (s : ℕ) (a : Answer) : Type 0 where
    not_next : SerialReason s a → VoidReason s a
    voided : s ≡ next_serial → s ≤ size p → a ≡ given p s → VoidReason s a

  -- document 02, (v), one of the takes of a bundle: its refusal is the bundle's answer, or it is accepted and the others say
  pub data TakeReason (s : ℕ) (e : Entry) (others : Answer → Type 0) (a : Answer) : Type 0 where
    fails : a.number ≢ 0 → ClaimReason s e a → TakeReason s e others a
    taken : ClaimReason s e (given p s) → others a → TakeReason s e others a

-- the takes from serial s on, each after the calls before the bundle and the takes before it; where all are accepted, "its first serial and that mix"
abbrev pub TakesReason : Printing → (first : ℕ) → List Event → ℕ → List Entry → Answer → Type 0
TakesReason p first past s [] a = a ≡ given p first
TakesReason p first past s (e ∷ es) a =
    TakeReason p past s e (TakesReason p first (past ++ (event p (claim s e) (given p s) ∷ [])) (suc s) es) a

module _ (p : Printing) (past : List Event) where
  pub data ClaimAllReason (s : ℕ) (b : Lent) (a : Answer) : Type 0 where
    -- "24, a bundle of 0 or over 40"
    wrong_size : (room b ≡ 0) ⊎ (40 < room b) → a ≡ refused_with 24 0 → ClaimAllReason s b a
    -- document 02, (vi): "A bundle names an item line for each order; another number of them is 24"
    wrong_items : length b.items ≢ length b.orders → a ≡ refused_with 24 0 → ClaimAllReason s b a
    right_size : Paired b → room b ≢ 0 → room b ≤ 40 → TakesReason p s past s (entries_in b) a → ClaimAllReason s b a

  abbrev pub Reason : Call → Answer → Type 0
  Reason peek a = PeekReason p past a
  Reason (claim s e) a = ClaimReason p past s e a
  Reason (void s) a = VoidReason p past s a
  Reason (claim_all s b) a = ClaimAllReason s b a
