-- The pass that looks for the orders of a bundle: a law for each turn of its loops, and what it has found at the end.
use mathlib.Core.Path.{◌≡◌, refl, sym, ap, subst, ◌∙◌}
use mathlib.Core.Logic.{◌≢◌, ◌⊎◌, inl, inr, ⊎_elim}
use mathlib.Core.List.{List, ◌++◌}
use Prim.Native.Nat.{ℕ, zero, suc, ◌+◌, ◌-◌, ◌%◌, ◌≤◌, ◌<◌}
use native.Mathlib.Nat.{eq-or-lt_of_le}
use native.Mathlib.Omega.{arith}
use lib.Dec.{eqb}
use lib.ListN.{length, get_or, take, drop, set, length-append, length-set, length-take, length-drop, get_or-append}
use Rattle.std.proofs.lemmas.List.{get_or-drop}
use lib.Seq.{length-take-le, take-append-add, get_or-take, get_or-append-add, get_or-set_same, get_or-set_other}
use borrow.Author.Tests.{eqb-true, eqb-false}
use Rattle.walsh.proofs.Cases.{on_test, on_less}
use Rattle.model.specs.Basics.{first_place}
use Rattle.model.specs.Entry.{Entry, entry, void_entry, order_of, same_order, pairs}
use Rattle.model.proofs.Orders.{place_at, place_lowest, place_none}
use Rattle.integrity.specs.Sift.{Before, New, Sifted, slots, Marked, mark_of, Unmarked}
use Rattle.integrity.proofs.Pairs.{pairs_length, line_at}
use Rattle.integrity.proofs.Again.{earlier, lowest, First}

-- ---- places

-- an order that stands at no place before f is none of those
not_among : (x : Entry) (es : List Entry) {f k : ℕ} → f ≤ length es → k ≡ first_place (same_order x) es → f ≤ k
    → (j : ℕ) → j < f → x ≢ get_or es j void_entry
not_among x es m e h j b y = let n = place_lowest x es j (omega (arith, b, m)) (sym y) in omega (arith, n, e, h, b)

at_order : (l es : List Entry) (q : ℕ) → length l ≤ q → get_or (l ++ es) q void_entry ≡ get_or es (q - length l) void_entry
at_order l es q h =
    let all : length l + (q - length l) ≡ q = omega (arith, h) in
    ap (λ (j : ℕ). get_or (l ++ es) j void_entry) (sym all) ∙ get_or-append-add l es (q - length l) void_entry

-- ---- at the end

module _ (l es : List Entry) where
  long : (k : ℕ) → k ≤ length es → length (earlier l es k) ≡ length l + k
  long k h = omega (arith, length-append l (take k es), length-take-le k es h)

  in_front : (k q : ℕ) → q < length l + k → get_or (earlier l es k) q void_entry ≡ get_or (l ++ es) q void_entry
  in_front k q h =
      ap (λ (m : List Entry). get_or m q void_entry) (sym (take-append-add l es k)) ∙ get_or-take (length l + k) (l ++ es) q void_entry h

  -- after all lines every place is looked at
  looked : {i : ℕ} (k q : ℕ) → i ≡ length l → q < length l + k → Before l i k q
  looked {i} k q e h = (h, on_less q i (λ m t. inl m) (λ m t. inr (omega (arith, m, e))))

  pub sifted_all : {i f p : ℕ} → i ≡ length l → Sifted l es i f p → First l es f p
  sifted_all {i} {f} {p} e s =
      record {
        most = s.most;
        new = new;
        here = here;
        none = λ z. s.none z ∙ sym (length-append l es);
      }
    where
      new : (k : ℕ) → k < f → length (earlier l es k) ≤ lowest l es k
      new k h =
          let n = long k (omega (arith, h, s.most)) in
          place_none (get_or es k void_entry) (earlier l es k)
          (λ q hq x. let m : q < length l + k = omega (arith, hq, n) in
          (s.new k h).none q m (looked k q e m) (sym (in_front k q m) ∙ x))

      here : f < length es → (p ≡ lowest l es f) × (p < length (earlier l es f))
      here h =
          let w = s.here h in
          let n = long f (omega (arith, h)) in
          let m : p < length (earlier l es f) = omega (arith, w.0.0, n) in
          let low = place_lowest (get_or es f void_entry) (earlier l es f) p m (in_front f p w.0.0 ∙ w.1) in
          on_less (lowest l es f) p
          (λ k t.
          let b : lowest l es f < length l + f = omega (arith, k, w.0.0) in
          let x = place_at (get_or es f void_entry) (earlier l es f) (omega (arith, k, m)) in
          absurd (w.2.none (lowest l es f) k (looked f (lowest l es f) e b) (sym (in_front f (lowest l es f) b) ∙ x)))
          (λ k t. (omega (arith, k, low), m))

-- ---- one line more

module _ (l es : List Entry) {i f p : ℕ} (s : Sifted l es i f p) (h : i < length l) where
  here_line : get_or (l ++ es) i void_entry ≡ get_or l i void_entry
  here_line = get_or-append l es void_entry i h

  new_more : (k b : ℕ) → New l es i k b → (i < b → get_or l i void_entry ≢ get_or es k void_entry) → New l es (i + 1) k b
  new_more k b n other =
      record {
        none = λ q hq w x.
            ⊎_elim
            (λ m.
            let at : (q ≡ i) ⊎ (q < i) = eq-or-lt_of_le (omega (arith, m)) in
            ⊎_elim
            (λ e. other (omega (arith, hq, e)) (sym here_line ∙ ap (λ (j : ℕ). get_or (l ++ es) j void_entry) (sym e) ∙ x))
            (λ m'. n.none q hq (w.0, inl m') x)
            at)
            (λ m. n.none q hq (w.0, inr m) x)
            w.1;
      }

  -- which is none of the orders before the first
  pub sifted_miss : {g q : ℕ} → ((k : ℕ) → k < f → get_or l i void_entry ≢ get_or es k void_entry) → g ≡ f → q ≡ p → Sifted l es (i + 1) g q
  sifted_miss other eg eq =
      rw (eg, eq)
      record {
        most = s.most;
        new = λ k m. new_more k (length l + k) (s.new k m) (λ b. other k m);
        here = here;
        none = s.none;
      }
    where
      -- an order that stands earlier in the bundle is none of the lines if the earlier one is none
      behind : f < length es → length l ≤ p → get_or l i void_entry ≢ get_or es f void_entry
      behind m b x =
          let w = s.here m in
          other (p - length l) (omega (arith, w.0.0, b)) (x ∙ sym w.1 ∙ at_order l es p b)

      here : f < length es → Before l (i + 1) f p × (get_or (l ++ es) p void_entry ≡ get_or es f void_entry) × New l es (i + 1) f p
      here m =
          let w = s.here m in (
            (w.0.0, ⊎_elim (λ b. inl (omega (arith, b))) (λ b. inr b) w.0.1),
            w.1,
            new_more f p w.2 (λ b. ⊎_elim (λ c. absurd (omega (arith, b, c))) (λ c. behind m c) w.0.1),
          )

  -- which is one of them
  pub sifted_hit : {g q : ℕ} → g < f → g ≡ first_place (same_order (get_or l i void_entry)) es → q ≡ i → Sifted l es (i + 1) g q
  sifted_hit {g} {q} m e z =
      record {
        most = omega (arith, m, s.most);
        new = λ k b. new_more k (length l + k) (s.new k (omega (arith, b, m))) (λ c. below k b);
        here = λ b. rw z ((omega (arith, h), inl (omega arith)), here_line ∙ sym there, lower);
        none = λ b. absurd (omega (arith, b, m, s.most));
      }
    where
      there : get_or es g void_entry ≡ get_or l i void_entry
      there =
          ap (λ (j : ℕ). get_or es j void_entry) e ∙ place_at (get_or l i void_entry) es (omega (arith, e, m, s.most))

      below : (k : ℕ) → k < g → get_or l i void_entry ≢ get_or es k void_entry
      below k b = not_among (get_or l i void_entry) es (omega (arith, m, s.most)) e (omega arith) k b

      lower : New l es (i + 1) g i
      lower =
          new_more g i (record { none = λ j hj w y. (s.new g m).none j (omega (arith, hj, h)) w y }) (λ b. absurd (omega (arith, b)))

-- ---- the bundle alone

module _ (es : List Entry) where
  -- the first n orders stand at no earlier place of the bundle
  pub record Apart (n : ℕ) : Type 0 where
    pub new : (k q : ℕ) → k < n → q < k → get_or es q void_entry ≢ get_or es k void_entry

  pub apart_none : Apart 0
  apart_none = record { new = λ k q h m. absurd (omega (arith, h)) }

  apart_more : {i : ℕ} → Apart i → ((q : ℕ) → q < i → get_or es i void_entry ≢ get_or es q void_entry) → Apart (i + 1)
  apart_more {i} a n =
      record {
        new = λ k q h m.
            let at : (k ≡ i) ⊎ (k < i) = eq-or-lt_of_le (omega (arith, h)) in
            ⊎_elim
            (λ e. λ x. n q (omega (arith, m, e)) (sym (x ∙ ap (λ (j : ℕ). get_or es j void_entry) e)))
            (λ b. a.new k q b m)
            at;
      }

  -- order i is none of those before it
  not_before : {i k : ℕ} → i ≤ length es → k ≡ first_place (same_order (get_or es i void_entry)) (take i es) → i ≤ k
      → (q : ℕ) → q < i → get_or es i void_entry ≢ get_or es q void_entry
  not_before {i} m e h q b y =
      not_among (get_or es i void_entry) (take i es) (omega (arith, length-take-le i es m)) e h q b (y ∙ sym (get_or-take i es q void_entry b))

  module _ {i : ℕ} (a : Apart i) (l : List Entry) where
    -- no line is looked at
    new_orders : (k : ℕ) → k < i → New l es 0 k (length l + k)
    new_orders k h =
        record {
          none = λ q hq w x.
              ⊎_elim
              (λ m. absurd (omega (arith, m)))
              (λ m. a.new k (q - length l) h (omega (arith, hq, m)) (sym (at_order l es q m) ∙ x))
              w.1;
        }

    -- order i stands earlier in the bundle
    apart_hit : {p : ℕ} → i < length es → p ≡ first_place (same_order (get_or es i void_entry)) (take i es) → p < i → Sifted l es 0 i (length l + p)
    apart_hit {p} h e b =
        record {
          most = omega (arith, h);
          new = new_orders;
          here = λ m. ((omega (arith, b), inr (omega arith)), get_or-append-add l es p void_entry ∙ there, lower);
          none = λ z. absurd (omega (arith, z, h));
        }
      where
        n : length (take i es) ≡ i
        n = length-take-le i es (omega (arith, h))

        there : get_or es p void_entry ≡ get_or es i void_entry
        there =
            sym (get_or-take i es p void_entry b) ∙ ap (λ (j : ℕ). get_or (take i es) j void_entry) e
            ∙ place_at (get_or es i void_entry) (take i es) (omega (arith, e, b, n))

        lower : New l es 0 i (length l + p)
        lower =
            record {
              none = λ q hq w x.
                  ⊎_elim
                  (λ m. absurd (omega (arith, m)))
                  (λ m.
                  let j = q - length l in
                  let k : j < i = omega (arith, hq, b, m) in
                  let y = get_or-take i es j void_entry k ∙ sym (at_order l es q m) ∙ x in
                  let z = place_lowest (get_or es i void_entry) (take i es) j (omega (arith, k, n)) y in
                  omega (arith, z, e, hq, m))
                  w.1;
            }

    -- none does
    pub apart_all : i ≡ length es → Sifted l es 0 i (length l + i)
    apart_all e =
        record {
          most = omega (arith, e);
          new = new_orders;
          here = λ h. absurd (omega (arith, h, e));
          none = λ z. omega (arith, z);
        }

-- ---- the marks

pub marked_none : (marks os : List ℕ) → length marks ≡ slots → Marked marks os 0
marked_none marks os e = record { all = e; set = λ k h. absurd (omega (arith, h)) }

module _ {marks os : List ℕ} {n : ℕ} (m : Marked marks os n) where
  -- a number whose slot is not marked is none of theirs
  marked_not : (x : ℕ) {s : ℕ} → s ≡ x % slots → get_or marks s 0 ≡ 0 → (j : ℕ) → j < n → x ≢ get_or os j 0
  marked_not x q z j h e = m.set j h (ap (λ (y : ℕ). get_or marks (y % slots) 0) (sym e) ∙ ap (λ (t : ℕ). get_or marks t 0) (sym q) ∙ z)

  -- nor is a line of that number any of the orders
  pub marked_other : (is : List ℕ) → length is ≡ length os → n ≤ length os → (d : Entry) {x s : ℕ} → x ≡ order_of d → s ≡ x % slots
      → get_or marks s 0 ≡ 0
      → (j : ℕ) → j < n → d ≢ get_or (pairs os is) j void_entry
  marked_other is e b d {x} o q z j h y =
      marked_not x q z j h (o ∙ ap order_of (y ∙ line_at os is e j (omega (arith, h, b))))

  pub marked_fewer : {k : ℕ} → k ≤ n → Marked marks os k
  marked_fewer h = record { all = m.all; set = λ j b. m.set j (omega (arith, h, b)) }

  -- one order more
  pub marked_more : (s : ℕ) → s ≡ get_or os n 0 % slots → s < slots → Marked (set marks s 1) os (n + 1)
  marked_more s e h =
      record {
        all = length-set marks s 1 ∙ m.all;
        set = λ k b.
            let at : (k ≡ n) ⊎ (k < n) = eq-or-lt_of_le (omega (arith, b)) in
            ⊎_elim
            (λ q. kept (get_or os k 0 % slots) (λ d. absurd (d (ap (λ (j : ℕ). get_or os j 0 % slots) q ∙ sym e))))
            (λ q. kept (get_or os k 0 % slots) (λ d. m.set k q))
            at;
      }
    where
      kept : (t : ℕ) → (t ≢ s → get_or marks t 0 ≢ 0) → get_or (set marks s 1) t 0 ≢ 0
      kept t other z =
          on_test (eqb t s)
          (λ c.
          let here = get_or-set_same marks s 1 0 (omega (arith, h, m.all)) in
          let one = ap (λ (j : ℕ). get_or (set marks s 1) j 0) (eqb-true t s c) ∙ here in
          omega (arith, one, z))
          (λ c. let d = eqb-false t s c in other d (sym (get_or-set_other marks s t 1 0 d) ∙ z))

-- ---- lines without a mark

-- of n lines from place i on, as a part of the column
pub unmarked_part : (marks os : List ℕ) (i n : ℕ) → {m : ℕ} → m ≡ n → i + n ≤ length os
    → Unmarked marks (take m (drop i os)) 0 (length (take m (drop i os))) → Unmarked marks os i n
unmarked_part marks os i n {m} e h u =
    record {
      none = λ j b.
          let part : List ℕ = take m (drop i os) in
          let inside : j < length part = omega (arith, length-take m (drop i os), length-drop i os, e, b) in
          let here : get_or part j 0 ≡ get_or os (i + j) 0 =
          get_or-take m (drop i os) j 0 (omega (arith, e, b)) ∙ get_or-drop i os j 0 in
          let at : 0 + j ≡ j = omega arith in
          ap (λ (x : ℕ). get_or marks (x % slots) 0) (sym here) ∙ ap (mark_of marks part) (sym at) ∙ u.none j inside;
    }

-- ---- in two columns: an order of the bundle

module _ (os is : List ℕ) (e : length is ≡ length os) {i : ℕ} (a : Apart (pairs os is) i) (h : i < length os) where
  abbrev order_here : Entry
  order_here = entry (get_or os i 0) (get_or is i 0)

  -- it was searched for before its place i
  abbrev Searched : ℕ → Type 0
  Searched k = k ≡ first_place (same_order order_here) (take i (pairs os is))

  searched : {k : ℕ} → Searched k → k ≡ first_place (same_order (get_or (pairs os is) i void_entry)) (take i (pairs os is))
  searched q = q ∙ ap (λ (d : Entry). first_place (same_order d) (take i (pairs os is))) (sym (line_at os is e i h))

  pub order_again : {k : ℕ} → Searched k → k < i → (l : List Entry) → Sifted l (pairs os is) 0 i (length l + k)
  order_again q b l = apart_hit (pairs os is) a l (omega (arith, h, pairs_length os is e)) (searched q) b

  pub order_new : {k : ℕ} → Searched k → i ≤ k → Apart (pairs os is) (i + 1)
  order_new q b = apart_more (pairs os is) a (not_before (pairs os is) (omega (arith, h, pairs_length os is e)) (searched q) b)

  -- or its slot is not marked
  pub order_unmarked : {marks : List ℕ} {s : ℕ} → Marked marks os i → s ≡ get_or os i 0 % slots → get_or marks s 0 ≡ 0 → Apart (pairs os is) (i + 1)
  order_unmarked m q z =
      apart_more (pairs os is) a (marked_other m is e (omega arith) _ (sym (ap order_of (line_at os is e i h))) q z)

-- ---- in two columns: a line

module _ (os is bs js : List ℕ) (eo : length is ≡ length os) (eb : length js ≡ length bs) {i f p : ℕ}
    (s : Sifted (pairs os is) (pairs bs js) i f p) (h : i < length os) where
  inside : i < length (pairs os is)
  inside = omega (arith, h, pairs_length os is eo)

  -- its place in the bundle was searched for
  abbrev Settled : ℕ → Type 0
  Settled k = k ≡ first_place (same_order (entry (get_or os i 0) (get_or is i 0))) (pairs bs js)

  settled : {k : ℕ} → Settled k → k ≡ first_place (same_order (get_or (pairs os is) i void_entry)) (pairs bs js)
  settled q = q ∙ ap (λ (d : Entry). first_place (same_order d) (pairs bs js)) (sym (line_at os is eo i h))

  pub met_line : {k g q : ℕ} → Settled k → k < f → g ≡ k → q ≡ i → Sifted (pairs os is) (pairs bs js) (i + 1) g q
  met_line e b eg eq = sifted_hit (pairs os is) (pairs bs js) s inside (omega (arith, b, eg)) (eg ∙ settled e) eq

  pub other_line : {k g q : ℕ} → Settled k → f ≤ k → g ≡ f → q ≡ p → Sifted (pairs os is) (pairs bs js) (i + 1) g q
  other_line e b eg eq = sifted_miss (pairs os is) (pairs bs js) s inside (not_among _ (pairs bs js) s.most (settled e) b) eg eq

  -- or its slot is not marked
  pub unmarked_line : {marks : List ℕ} {m t g q : ℕ} → Marked marks bs m → f ≤ m → t ≡ get_or os i 0 % slots → get_or marks t 0 ≡ 0 → g ≡ f → q ≡ p
      → Sifted (pairs os is) (pairs bs js) (i + 1) g q
  unmarked_line k b e z eg eq =
      let few : f ≤ length bs = omega (arith, s.most, pairs_length bs js eb) in
      sifted_miss (pairs os is) (pairs bs js) s inside
      (marked_other (marked_fewer k b) js eb few _ (sym (ap order_of (line_at os is eo i h))) e z)
      eg
      eq

-- n lines without a mark are passed over
pub unmarked_lines : (os is bs js : List ℕ) → length is ≡ length os → length js ≡ length bs → {marks : List ℕ} {i f p m : ℕ} (n : ℕ)
    → Sifted (pairs os is) (pairs bs js) i f p → Marked marks bs m → f ≤ m
    → Unmarked marks os i n
    → i + n ≤ length os
    → Sifted (pairs os is) (pairs bs js) (i + n) f p
unmarked_lines os is bs js eo eb {marks} {i} {f} {p} zero s k h u b = subst (λ (j : ℕ). Sifted (pairs os is) (pairs bs js) j f p) (omega arith) s
unmarked_lines os is bs js eo eb {marks} {i} {f} {p} (suc n) s k h u b =
    let before = unmarked_lines os is bs js eo eb n s k h (record { none = λ j c. u.none j (omega (arith, c)) }) (omega (arith, b)) in
    subst (λ (j : ℕ). Sifted (pairs os is) (pairs bs js) j f p) (omega arith)
    (unmarked_line os is bs js eo eb before (omega (arith, b)) k h refl (u.none n (omega arith)) refl refl)
