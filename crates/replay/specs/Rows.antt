-- The rows that the caller lends for a list of calls: a script with a row for each call, pools of the orders that the calls name and of their item
-- lines, and a buffer with a row for each answer.
use Rattle.std.specs.Prelude.{◌≡◌, refl, cond, List, [], ◌∷◌, ◌++◌, ℕ, ◌+◌, eqb, length, get_or, take, drop}
use Rattle.walsh.specs.Transition.{none}
use Rattle.walsh.specs.declared.Transition.{Transition}
use Rattle.model.specs.Entry.{entry, Lent, columns}
use Rattle.model.specs.Model.{Call, peek, claim, void, claim_all, refused_with, Event}
use Rattle.model.specs.declared.Answer.{Answer}
use Rattle.replay.specs.declared.Opcode.{Opcode}
use Rattle.replay.specs.declared.Opcode.TheVariants.{Peek, Claim, Bundle, Void}

-- ---- the script

-- the columns of a call: which call, its serial, how many orders it names and how many item lines
abbrev pub call_width : ℕ
call_width = 4

abbrev pub orders_column : ℕ
orders_column = 2

abbrev pub items_column : ℕ
items_column = 3

-- 0 is a peek, 1 a claim, 3 a bundle, any other a void
abbrev pub opcode_of : ℕ → Opcode
opcode_of k = cond (eqb k 0) Peek (cond (eqb k 1) Claim (cond (eqb k 3) Bundle Void))

-- the call, with the orders and the item lines that it names: a claim is for the first of each
abbrev pub call_by : Opcode → (serial : ℕ) (lines : Lent) → Call
call_by Peek s b = peek
call_by Claim s b = claim s (entry (get_or b.orders 0 0) (get_or b.items 0 0))
call_by Bundle s b = claim_all s b
call_by Void s b = void s

abbrev pub call_of : (which serial : ℕ) (lines : Lent) → Call
call_of k s b = call_by (opcode_of k) s b

-- how many orders a call names, or item lines: the number in its row counts for a bundle alone; a claim names one, a peek and a void none
abbrev pub uses_by : Opcode → (number : ℕ) → ℕ
uses_by Peek n = 0
uses_by Claim n = 1
uses_by Bundle n = n
uses_by Void n = 0

abbrev pub uses : (which number : ℕ) → ℕ
uses k n = uses_by (opcode_of k) n

-- the first orders and the first item lines of the pools, and what is left of both behind them
abbrev pub next_of : (orders items : ℕ) → Lent → Lent
next_of n m pool = columns (take n pool.orders) (take m pool.items)

abbrev pub left_of : (orders items : ℕ) → Lent → Lent
left_of n m pool = columns (drop n pool.orders) (drop m pool.items)

-- the calls in turn, each for the next orders and item lines of the pools, which it uses up. Numbers that make no whole row are no call.
abbrev pub calls_in : (rows : List ℕ) (pool : Lent) → List Call
calls_in [] pool = []
calls_in (k ∷ []) pool = []
calls_in (k ∷ s ∷ []) pool = []
calls_in (k ∷ s ∷ n ∷ []) pool = []
calls_in (k ∷ s ∷ n ∷ m ∷ rows) pool = call_of k s (next_of (uses k n) (uses k m) pool) ∷ calls_in rows (left_of (uses k n) (uses k m) pool)

-- how many orders they name in all, or item lines: by the numbers in that column
abbrev pub named_in : (column : ℕ) (rows : List ℕ) → ℕ
named_in c [] = 0
named_in c (k ∷ []) = 0
named_in c (k ∷ s ∷ []) = 0
named_in c (k ∷ s ∷ n ∷ []) = 0
named_in c (k ∷ s ∷ n ∷ m ∷ rows) = uses k (get_or (k ∷ s ∷ n ∷ m ∷ rows) c 0) + named_in c rows

-- for example, a claim, a peek, a void, a bundle of two, an uneven one of two orders and one item line, a claim and a bundle of none; of the last
-- two numbers in a row those of the bundles alone count
some_rows : List ℕ
some_rows =
    1 ∷ 1 ∷ 9 ∷ 9
    ∷ 0 ∷ 9 ∷ 9 ∷ 9
    ∷ 2 ∷ 2 ∷ 9 ∷ 9
    ∷ 3 ∷ 3 ∷ 2 ∷ 2
    ∷ 3 ∷ 5 ∷ 2 ∷ 1
    ∷ 1 ∷ 5 ∷ 0 ∷ 0
    ∷ 3 ∷ 6 ∷ 0 ∷ 0
    ∷ []

in_turn : calls_in some_rows (columns (1007 ∷ 1014 ∷ 1014 ∷ 1021 ∷ 1035 ∷ 1028 ∷ []) (4 ∷ 1 ∷ 2 ∷ 5 ∷ 3 ∷ []))
    ≡ claim 1 (entry 1007 4)
    ∷ peek
    ∷ void 2
    ∷ claim_all 3 (columns (1014 ∷ 1014 ∷ []) (1 ∷ 2 ∷ []))
    ∷ claim_all 5 (columns (1021 ∷ 1035 ∷ []) (5 ∷ []))
    ∷ claim 5 (entry 1028 3)
    ∷ claim_all 6 (columns [] [])
    ∷ []
unfolding some_rows
in_turn = refl

six_orders : named_in orders_column some_rows ≡ 6
unfolding some_rows
six_orders = refl

five_items : named_in items_column some_rows ≡ 5
unfolding some_rows
five_items = refl

-- ---- the answers

-- the columns of an answer: number, detail, serial, the 24 cells of the composition, and the pair, 0 and 0 where the call answers none
abbrev pub row_width : ℕ
row_width = 29

abbrev pub row_of : Answer → Transition → List ℕ
row_of a x = a.number ∷ a.detail ∷ a.serial ∷ (a.composition ++ (x.gain ∷ x.loss ∷ []))

-- the answer and the pair that the first of some rows shows
abbrev pub answer_in : List ℕ → Answer
answer_in rows = record { number = get_or rows 0 0; detail = get_or rows 1 0; serial = get_or rows 2 0; composition = take 24 (drop 3 rows) }

abbrev pub transition_in : List ℕ → Transition
transition_in rows = record { gain = get_or rows 27 0; loss = get_or rows 28 0 }

-- for example, a refusal; and any pair
whole_row : length (row_of (refused_with 18 1007) none) ≡ row_width
whole_row = refl

back_again : answer_in (row_of (refused_with 18 1007) none) ≡ refused_with 18 1007
back_again = refl

pair_again : (x : Transition) → transition_in (row_of (refused_with 18 1007) x) ≡ x
pair_again x = refl

-- the rows of a trace, one behind the other
abbrev pub rows_of : List Event → List ℕ
rows_of [] = []
rows_of (x ∷ t) = row_of x.reply x.transition ++ rows_of t

-- the trace that rows show for the calls of a list, in turn
abbrev pub shown : List Call → List ℕ → List Event
shown [] rows = []
shown (c ∷ cs) rows = record { call = c; reply = answer_in rows; transition = transition_in rows } ∷ shown cs (drop row_width rows)
