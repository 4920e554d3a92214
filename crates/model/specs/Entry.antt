-- Document 01, "The register": a line, and what the caller lends for the lines. "An order number has 32 bits; 0 means spoilt. The caller lends a
-- column of 32-bit numbers; entry s−1 is the line of serial s." Document 02, (vi): "An order shall be told apart by its number and its item line, 1 to
-- 99. Item lines have a lent byte column of their own beside the order numbers; spoilt lines carry 0 there." All other definitions know lines and the
-- columns by the names of this file alone.
use Rattle.std.specs.Prelude.{◌≡◌, ◌≢◌, Bool, not, List, [], ◌∷◌, map, ℕ, min, ◌<◌, eqb, ltb, length, get_or, take}
use Rattle.std.proofs.lemmas.List.Edits.{sets}
use Rattle.walsh.specs.Tests.{both, either}
use Rattle.model.specs.Basics.{how_many, replaced}

-- ---- a line

-- "The paper register's entries become pairs of number and item line"
pub record Entry : Type 0 where
  pub order : ℕ
  pub item : ℕ

abbrev pub entry : ℕ → ℕ → Entry
entry order item = record { order = order; item = item }

-- the line of a void: "0 means spoilt", "spoilt lines carry 0 there"
abbrev pub void_entry : Entry
void_entry = entry 0 0

abbrev pub order_of : Entry → ℕ
order_of e = e.order

abbrev pub item_of : Entry → ℕ
item_of e = e.item

abbrev pub is_voided : Entry → Bool
is_voided e = eqb (order_of e) 0

-- the line d is of the same order as e: "number and item line both"
abbrev pub same_order : Entry → Entry → Bool
same_order e d = both (eqb (order_of d) (order_of e)) (eqb (item_of d) (item_of e))

-- no order stands in two lines
pub record DistinctOrders (l : List Entry) : Type 0 where
  pub same_place : (i j : ℕ) → i < length l → j < length l → order_of (get_or l i void_entry) ≢ 0 → get_or l i void_entry ≡ get_or l j void_entry → i ≡ j

-- "25, item line 0 or over 99"
abbrev pub is_no_item : Entry → Bool
is_no_item e = either (eqb (item_of e) 0) (ltb 99 (item_of e))

-- "is 0 beside a nonzero order, or isn't 0 beside a spoilt one"
abbrev pub is_unmatched : Entry → Bool
is_unmatched e = either (both (eqb (item_of e) 0) (not (is_voided e))) (both (not (eqb (item_of e) 0)) (is_voided e))

-- "A line whose item line is over 99, or" is so
abbrev pub is_unsound : Entry → Bool
is_unsound e = either (ltb 99 (item_of e)) (is_unmatched e)

-- ---- counts: "its nonzero entries and its zeros"

abbrev pub sold_in : List Entry → ℕ
sold_in l = how_many (λ e. not (is_voided e)) l

abbrev pub voided_in : List Entry → ℕ
voided_in l = how_many is_voided l

abbrev pub unsound_in : List Entry → ℕ
unsound_in l = how_many is_unsound l

-- ---- what the caller lends

-- the order column, and the item column beside it
pub record Lent : Type 0 where
  pub orders : List ℕ
  pub items : List ℕ

abbrev pub columns : List ℕ → List ℕ → Lent
columns orders items = record { orders = orders; items = items }

-- the lines of two columns, as many as both have
abbrev pub pairs : List ℕ → List ℕ → List Entry
pairs [] is = []
pairs (o ∷ os) [] = []
pairs (o ∷ os) (i ∷ is) = entry o i ∷ pairs os is

abbrev pub entries_in : Lent → List Entry
entries_in col = pairs col.orders col.items

abbrev pub first_entries : ℕ → Lent → List Entry
first_entries n col = take n (entries_in col)

-- how many lines they have room for
abbrev pub room : Lent → ℕ
room col = min (length col.orders) (length col.items)

-- as many item lines as orders: "A bundle names an item line for each order"
abbrev pub Paired : Lent → Type 0
Paired b = length b.items ≡ length b.orders

abbrev pub is_paired : Lent → Bool
is_paired b = eqb (length b.items) (length b.orders)

-- the numbers and the item lines of a list of lines
abbrev pub orders_of : List Entry → List ℕ
orders_of l = map order_of l

abbrev pub items_of : List Entry → List ℕ
items_of l = map item_of l

-- the lines l in place of the beginnings of both
abbrev pub over : Lent → List Entry → Lent
over col l = columns (replaced col.orders (orders_of l)) (replaced col.items (items_of l))

-- the lines es from place i on
abbrev pub put : Lent → ℕ → List Entry → Lent
put col i es = columns (sets col.orders i (orders_of es)) (sets col.items i (items_of es))
