-- Laws of the lines and of what the caller lends for them.
use mathlib.Core.Path.{◌≡◌, refl, sym, ap, ◌∙◌}
use mathlib.Core.Logic.{◌≢◌, ◌⊎◌, inl, inr}
use mathlib.Core.Bool.{true, false}
use mathlib.Core.List.{List, [], ◌∷◌, ◌++◌, map}
use Prim.Native.Nat.{ℕ, zero, suc, ◌+◌, ◌≤◌, ◌<◌, min}
use native.Mathlib.Nat.{le_of_suc-le-suc, not-suc-le-zero}
use native.Mathlib.Omega.{arith}
use lib.ListN.{length, get_or, take, drop, length-map}
use lib.Dec.{eqb, ltb}
use lib.Seq.{length-take-le, get_or-take, sets, take_at}
use borrow.Author.Tests.{eq-eqb, ne_eqb, eqb-true, le-ltb, lt-ltb}
use Rattle.walsh.proofs.Tests.{both_left, both_right}
use Rattle.bounds.proofs.Editions.{neither}
use Rattle.model.specs.Basics.{replaced}
use Rattle.model.specs.Entry.{Entry, entry, void_entry, order_of, item_of, is_voided, same_order, is_no_item, is_unsound, sold_in, voided_in}
use Rattle.model.specs.Entry.{Lent, pairs, entries_in, first_entries, room, Paired, orders_of, items_of, over, put}
use Rattle.model.proofs.Lists.{many_or_not, length_replaced, sets_replaced}

-- ---- a line

pub same_order_lem : (e d : Entry) → same_order e d ≡ true → d ≡ e
same_order_lem e d t =
    let o = eqb-true (order_of d) (order_of e) (both_left _ _ t) in
    let i = eqb-true (item_of d) (item_of e) (both_right (eqb (order_of d) (order_of e)) _ t) in
    λ k. entry (o k) (i k)

pub order_same : (e d : Entry) → d ≡ e → same_order e d ≡ true
order_same e d q = rw (eq-eqb (order_of d) (order_of e) (ap order_of q), eq-eqb (item_of d) (item_of e) (ap item_of q))

pub not_voided : (e : Entry) → order_of e ≢ 0 → is_voided e ≡ false
not_voided e n = ne_eqb (order_of e) 0 n

pub is_voided_lem : (e : Entry) → order_of e ≡ 0 → is_voided e ≡ true
is_voided_lem e z = eq-eqb (order_of e) 0 z

pub bad_item_lem : (e : Entry) → (item_of e ≡ 0) ⊎ (99 < item_of e) → is_no_item e ≡ true
bad_item_lem e (inl z) = rw (eq-eqb (item_of e) 0 z)
bad_item_lem e (inr h) = rw (ne_eqb (item_of e) 0 (λ z. omega (arith, z, h)), lt-ltb 99 (item_of e) h)

pub good_item : (e : Entry) → item_of e ≢ 0 → item_of e ≤ 99 → is_no_item e ≡ false
good_item e n h = rw (ne_eqb (item_of e) 0 n, le-ltb 99 (item_of e) h)

-- an order and an item line that are allowed make a sound line
pub sound_line : (e : Entry) → is_voided e ≡ false → is_no_item e ≡ false → is_unsound e ≡ false
sound_line e f g =
    let q = neither (eqb (item_of e) 0) (ltb 99 (item_of e)) g in
    rw (f, q.0, q.1)

-- ---- counts

pub sold_or_voided : (l : List Entry) → sold_in l + voided_in l ≡ length l
sold_or_voided l = many_or_not is_voided l

-- a line that is not spoilt counts as sold
pub one_sold : (e : Entry) → is_voided e ≡ false → (sold_in (e ∷ []) ≡ 1) × (voided_in (e ∷ []) ≡ 0)
one_sold e f = (rw f, rw f)

-- ---- two columns

length_pairs : (os is : List ℕ) → length (pairs os is) ≡ min (length os) (length is)
length_pairs [] is = omega arith
length_pairs (o ∷ os) [] = omega arith
length_pairs (o ∷ os) (i ∷ is) = omega (arith, length_pairs os is)

pub take_pairs : (n : ℕ) (os is : List ℕ) → take n (pairs os is) ≡ pairs (take n os) (take n is)
take_pairs zero os is = refl
take_pairs (suc n) [] is = refl
take_pairs (suc n) (o ∷ os) [] = refl
take_pairs (suc n) (o ∷ os) (i ∷ is) = ap (λ (l : List Entry). entry o i ∷ l) (take_pairs n os is)

pairs_back : (l : List Entry) → pairs (orders_of l) (items_of l) ≡ l
pairs_back [] = refl
pairs_back (e ∷ l) = ap (λ (m : List Entry). e ∷ m) (pairs_back l)

pub pairs_at : (os is : List ℕ) (i : ℕ) → i < length os → i < length is → get_or (pairs os is) i void_entry ≡ entry (get_or os i 0) (get_or is i 0)
pairs_at [] is i h k = absurd (not-suc-le-zero h)
pairs_at (o ∷ os) [] i h k = absurd (not-suc-le-zero k)
pairs_at (o ∷ os) (x ∷ is) zero h k = refl
pairs_at (o ∷ os) (x ∷ is) (suc i) h k = pairs_at os is i (le_of_suc-le-suc h) (le_of_suc-le-suc k)

back_orders : (os is : List ℕ) → length os ≡ length is → orders_of (pairs os is) ≡ os
back_orders [] is e = refl
back_orders (o ∷ os) [] e = absurd (omega arith)
back_orders (o ∷ os) (i ∷ is) e = ap (λ (l : List ℕ). o ∷ l) (back_orders os is (omega arith))

back_items : (os is : List ℕ) → length os ≡ length is → items_of (pairs os is) ≡ is
back_items [] [] e = refl
back_items [] (i ∷ is) e = absurd (omega arith)
back_items (o ∷ os) [] e = absurd (omega arith)
back_items (o ∷ os) (i ∷ is) e = ap (λ (l : List ℕ). i ∷ l) (back_items os is (omega arith))

-- ---- lines that stand in what is lent

pub room_entries : (col : Lent) → length (entries_in col) ≡ room col
room_entries col = length_pairs col.orders col.items

pub length_entries : (n : ℕ) (col : Lent) → n ≤ room col → length (first_entries n col) ≡ n
length_entries n col h = length-take-le n (entries_in col) (omega (arith, room_entries col))

-- the order number of a line
pub entry_order : (n : ℕ) (col : Lent) (i : ℕ) → i < n → n ≤ room col → order_of (get_or (first_entries n col) i void_entry) ≡ get_or col.orders i 0
entry_order n col i h k =
    ap order_of (get_or-take n (entries_in col) i void_entry h ∙ pairs_at col.orders col.items i (omega arith) (omega arith))

-- of columns of the same length, the lines have all of both
pub orders_back : (col : Lent) → Paired col → orders_of (entries_in col) ≡ col.orders
orders_back col e = back_orders col.orders col.items (sym e)

pub items_back : (col : Lent) → Paired col → items_of (entries_in col) ≡ col.items
items_back col e = back_items col.orders col.items (sym e)

-- the first lines are the beginnings of both columns
module _ (n : ℕ) (col : Lent) (h : n ≤ room col) where
  as_long : length (take n col.orders) ≡ length (take n col.items)
  as_long = omega (arith, length-take-le n col.orders (omega arith), length-take-le n col.items (omega arith))

  pub entries_orders : orders_of (first_entries n col) ≡ take n col.orders
  entries_orders = ap orders_of (take_pairs n col.orders col.items) ∙ back_orders (take n col.orders) (take n col.items) as_long

  pub entries_items : items_of (first_entries n col) ≡ take n col.items
  entries_items = ap items_of (take_pairs n col.orders col.items) ∙ back_items (take n col.orders) (take n col.items) as_long

-- ---- lines put over the beginning

-- of one column, where f is the part of a line that stands there
module _ (f : Entry → ℕ) (c : List ℕ) (l : List Entry) where
  map_append : (es m : List Entry) → map f (es ++ m) ≡ map f es ++ map f m
  map_append [] m = refl
  map_append (e ∷ es) m = ap (λ (r : List ℕ). f e ∷ r) (map_append es m)

  column_take : take (length l) (replaced c (map f l)) ≡ map f l
  column_take = take_at (map f l) (drop (length (map f l)) c) (length l) (length-map l f)

  column_length : length l ≤ length c → length (replaced c (map f l)) ≡ length c
  column_length h = length_replaced c (map f l) (omega (arith, length-map l f))

  column_put : (es : List Entry) → length l + length es ≤ length c → sets (replaced c (map f l)) (length l) (map f es) ≡ replaced c (map f (l ++ es))
  column_put es h =
      ap (λ (n : ℕ). sets (replaced c (map f l)) n (map f es)) (sym (length-map l f))
      ∙ sets_replaced (map f es) c (map f l) (omega (arith, length-map l f, length-map es f))
      ∙ ap (replaced c) (sym (map_append l es))

module _ (col : Lent) (l : List Entry) where
  pub entries_over : first_entries (length l) (over col l) ≡ l
  entries_over =
      let os = column_take order_of col.orders l in
      let is = column_take item_of col.items l in
      take_pairs (length l) (over col l).orders (over col l).items ∙ (λ k. pairs (os k) (is k)) ∙ pairs_back l

  pub room_over : length l ≤ room col → room (over col l) ≡ room col
  room_over h =
      let os = column_length order_of col.orders l (omega arith) in
      let is = column_length item_of col.items l (omega arith) in
      λ k. min (os k) (is k)

  pub put_over : (es : List Entry) → length l + length es ≤ room col → put (over col l) (length l) es ≡ over col (l ++ es)
  put_over es h =
      let os = column_put order_of col.orders l es (omega arith) in
      let is = column_put item_of col.items l es (omega arith) in
      λ k. record { orders = os k; items = is k }
