-- Laws of the place of an order among the lines, and of lines in which no order stands twice.
use mathlib.Core.Path.{◌≡◌, sym, ap, ◌∙◌}
use mathlib.Core.Logic.{◌≢◌, ◌⊎◌, inl, inr}
use mathlib.Core.Bool.{Bool, true}
use mathlib.Core.List.{List, [], ◌∷◌, ◌++◌}
use Prim.Native.Nat.{ℕ, zero, suc, ◌+◌, ◌≤◌, ◌<◌, suc-le-suc}
use native.Mathlib.Nat.{le_of_suc-le-suc, eq-or-lt_of_le}
use native.Mathlib.Omega.{arith}
use lib.ListN.{length, get_or, take, length-append, get_or-append}
use lib.Seq.{length-take-le, take-append-add, get_or-take, get_or-append_seam, get_or-append-add}
use Rattle.walsh.proofs.Cases.{on_test, on_less}
use Rattle.model.specs.Basics.{first_place}
use Rattle.model.specs.Entry.{Entry, void_entry, order_of, same_order, DistinctOrders}
use Rattle.model.proofs.Lists.{length_snoc}
use Rattle.model.proofs.Entries.{same_order_lem, order_same}

-- ---- the first place that passes a test

module _ {A : Type 0} (d : A) (test : A → Bool) where
  passes_at : (l : List A) → first_place test l < length l → test (get_or l (first_place test l) d) ≡ true
  passes_at [] h = absurd (omega arith)
  passes_at (x ∷ l) h =
      on_test (test x)
      (λ t. rw t t)
      (λ t. let k : suc (first_place test l) < suc (length l) = rw t at h in rw t (passes_at l (le_of_suc-le-suc k)))

  lowest_passes : (l : List A) (i : ℕ) → i < length l → test (get_or l i d) ≡ true → first_place test l ≤ i
  lowest_passes [] i h e = absurd (omega arith)
  lowest_passes (x ∷ l) zero h e = rw e (omega arith)
  lowest_passes (x ∷ l) (suc i) h e =
      let k = lowest_passes l i (le_of_suc-le-suc h) e in on_test (test x) (λ t. rw t (omega arith)) (λ t. rw t (suc-le-suc k))

-- ---- the first place of an order

module _ (e : Entry) (l : List Entry) where
  abbrev at : ℕ
  at = first_place (same_order e) l

  pub place_at : at < length l → get_or l at void_entry ≡ e
  place_at h = same_order_lem e (get_or l at void_entry) (passes_at void_entry (same_order e) l h)

  -- it stands at no lower place
  pub place_lowest : (i : ℕ) → i < length l → get_or l i void_entry ≡ e → at ≤ i
  place_lowest i h q = lowest_passes void_entry (same_order e) l i h (order_same e (get_or l i void_entry) q)

  -- it stands at none
  pub place_none : ((i : ℕ) → i < length l → get_or l i void_entry ≢ e) → length l ≤ at
  place_none f = on_less at (length l) (λ h t. absurd (f at h (place_at h))) (λ h t. h)

-- ---- no order twice

pub distinct_none : DistinctOrders []
distinct_none = record { same_place = λ i j hi hj n q. absurd (omega (arith, hi)) }

-- one line more, spoilt or of an order that stands in none
pub distinct_snoc : (l : List Entry) (e : Entry) → DistinctOrders l → (order_of e ≢ 0 → length l ≤ first_place (same_order e) l)
    → DistinctOrders (l ++ (e ∷ []))
distinct_snoc l e u new =
    record { same_place = λ i j hi hj n q. go i j (place i hi) (place j hj) n q }
  where
    place : (i : ℕ) → i < length (l ++ (e ∷ [])) → (i ≡ length l) ⊎ (i < length l)
    place i h = let n = length_snoc l e in eq-or-lt_of_le (omega arith)

    last : (i : ℕ) → i ≡ length l → get_or (l ++ (e ∷ [])) i void_entry ≡ e
    last i q = rw q (get_or-append_seam l e [] void_entry)

    earlier : (i : ℕ) → i < length l → get_or (l ++ (e ∷ [])) i void_entry ≡ get_or l i void_entry
    earlier i h = get_or-append l (e ∷ []) void_entry i h

    go : (i j : ℕ) → (i ≡ length l) ⊎ (i < length l) → (j ≡ length l) ⊎ (j < length l) → order_of (get_or (l ++ (e ∷ [])) i void_entry) ≢ 0
        → get_or (l ++ (e ∷ [])) i void_entry ≡ get_or (l ++ (e ∷ [])) j void_entry → i ≡ j
    go i j (inl a) (inl b) n q = omega arith
    go i j (inl a) (inr b) n q =
        let k = place_lowest e l j b (sym (earlier j b) ∙ sym q ∙ last i a) in
        let m = new (λ z. n (ap order_of (last i a) ∙ z)) in
        absurd (omega arith)
    go i j (inr a) (inl b) n q =
        let s = sym (earlier i a) ∙ q ∙ last j b in
        let k = place_lowest e l i a s in
        let m = new (λ z. n (ap order_of (earlier i a ∙ s) ∙ z)) in
        absurd (omega arith)
    go i j (inr a) (inr b) n q = u.same_place i j a b (λ z. n (ap order_of (earlier i a) ∙ z)) (sym (earlier i a) ∙ q ∙ earlier j b)

-- of lines es behind the lines l, each stands in none before it
pub distinct_at : (l es : List Entry) (k : ℕ) → DistinctOrders (l ++ es) → k < length es → order_of (get_or es k void_entry) ≢ 0
    → length (l ++ take k es) ≤ first_place (same_order (get_or es k void_entry)) (l ++ take k es)
distinct_at l es k u h n =
    place_none (get_or es k void_entry) (l ++ take k es)
    (λ i b q.
    let lower : i < length l + k = omega (arith, b, length-append l (take k es), length-take-le k es (omega arith)) in
    let all = length-append l es in
    let here : get_or (l ++ es) (length l + k) void_entry ≡ get_or es k void_entry = get_or-append-add l es k void_entry in
    let there : get_or (l ++ es) i void_entry ≡ get_or es k void_entry =
    sym (get_or-take (length l + k) (l ++ es) i void_entry lower) ∙ ap (λ m. get_or m i void_entry) (take-append-add l es k) ∙ q in
    let same = u.same_place i (length l + k) (omega arith) (omega arith) (λ z. n (ap order_of (sym there) ∙ z)) (there ∙ sym here) in
    omega (arith, same, lower))
