-- The comparison `before`: what it says of the last part where two lists differ, and that it is a strict total order on lists of one length.
use mathlib.Core.Path.{◌≡◌, refl, sym, ap, ◌∙◌}
use mathlib.Core.Bool.{Bool, true, false}
use mathlib.Core.Logic.{◌⊎◌, inl, inr}
use mathlib.Core.List.{List}
use Prim.Native.Nat.{ℕ, zero, suc, ◌+◌, ◌-◌, ◌<◌}
use native.Mathlib.Nat.{not-suc-le-zero, le_refl, zero-add}
use native.Mathlib.Decide.{ℕ_discrete, dec_lt}
use native.Mathlib.Omega.{arith}
use lib.ListN.{length, get_or}
use lib.Seq.{ext_get_or}
use borrow.Author.Tests.{ltb-true, lt-ltb, eq-eqb, ne_eqb}
use Rattle.walsh.specs.Sums.{sum_to}
use Rattle.walsh.specs.Order.{is_odd}
use Rattle.walsh.specs.Compare.{value_before, before_to, before}
use Rattle.walsh.proofs.Cases.{last_or_less, up_to_lem}
use Rattle.walsh.proofs.Lists.{sum_to_mono}

-- ---- two values

value_apart : (odd : Bool) (v w : ℕ) → value_before odd v w ≡ true → v ≡ w → ⊥
value_apart true v w e q = omega (arith, ltb-true w v e)
value_apart false v w e q = omega (arith, ltb-true v w e)

value_total : (odd : Bool) (v w : ℕ) → (v ≡ w → ⊥) → (value_before odd v w ≡ true) ⊎ (value_before odd w v ≡ true)
value_total odd v w ne = go odd (dec_lt v w)
  where
    go : (odd : Bool) → Dec (v < w) → (value_before odd v w ≡ true) ⊎ (value_before odd w v ≡ true)
    go true (yes l) = inr (lt-ltb v w l)
    go true (no l) = inl (lt-ltb w v (omega arith))
    go false (yes l) = inl (lt-ltb v w l)
    go false (no l) = inr (lt-ltb w v (omega arith))

value_trans : (odd : Bool) (u v w : ℕ) → value_before odd u v ≡ true → value_before odd v w ≡ true → value_before odd u w ≡ true
value_trans true u v w a b = lt-ltb w u (omega (arith, ltb-true v u a, ltb-true w v b))
value_trans false u v w a b = lt-ltb u w (omega (arith, ltb-true u v a, ltb-true v w b))

-- ---- by the last part: equal there, or not

module _ (k t : ℕ) (g h : List ℕ) where
  pub before_equal : get_or g k 0 ≡ get_or h k 0 → before_to (suc k) t g h ≡ before_to k (t + get_or g k 0) g h
  unfolding before_to
  before_equal e = rw (eq-eqb (get_or g k 0) (get_or h k 0) e)

  pub before_differ : (get_or g k 0 ≡ get_or h k 0 → ⊥) → before_to (suc k) t g h ≡ value_before (is_odd t) (get_or g k 0) (get_or h k 0)
  unfolding before_to
  before_differ ne = rw (ne_eqb (get_or g k 0) (get_or h k 0) ne)

-- how part k decides, where the parts to its right sum to s
abbrev decides : List ℕ → List ℕ → ℕ → ℕ → Bool
decides g h k s = value_before (is_odd s) (get_or g k 0) (get_or h k 0)

-- at the last part where g and h differ the smaller comes first if the sum to its right is even, the larger if it is odd
before_last : (n t k : ℕ) (g h : List ℕ) → k < n → ((i : ℕ) → k < i → i < n → get_or g i 0 ≡ get_or h i 0) → (get_or g k 0 ≡ get_or h k 0 → ⊥)
    → before_to n t g h ≡ decides g h k (t + (sum_to g n - sum_to g (suc k)))
before_last zero t k g h l right ne = absurd (not-suc-le-zero l)
before_last (suc n) t k g h l right ne =
    go (λ m. before_last n (t + get_or g n 0) k g h m (λ i a b. right i a (omega arith)) ne) (last_or_less l)
  where
    go : (k < n → before_to n (t + get_or g n 0) g h ≡ decides g h k (t + get_or g n 0 + (sum_to g n - sum_to g (suc k))))
        → (k ≡ n) ⊎ (k < n)
        → before_to (suc n) t g h ≡ decides g h k (t + (sum_to g (suc n) - sum_to g (suc k)))
    go below (inl e) =
        let none : t ≡ t + (sum_to g (suc k) - sum_to g (suc k)) = omega arith in
        rw (← e) (before_differ k t g h ne ∙ ap (decides g h k) none)
    go below (inr m) =
        let moved : t + get_or g n 0 + (sum_to g n - sum_to g (suc k)) ≡ t + (sum_to g (suc n) - sum_to g (suc k)) =
        omega (arith, sum_to_mono g (suc k) n m) in
        before_equal n t g h (right n m (le_refl (suc n))) ∙ below m ∙ ap (decides g h k) moved

pub before_decided : (g h : List ℕ) (k : ℕ) → k < length g
    → ((i : ℕ) → k < i → i < length g → get_or g i 0 ≡ get_or h i 0)
    → (get_or g k 0 ≡ get_or h k 0 → ⊥)
    → before g h ≡ value_before (is_odd (sum_to g (length g) - sum_to g (suc k))) (get_or g k 0) (get_or h k 0)
unfolding before
before_decided g h k l right ne = before_last (length g) 0 k g h l right ne ∙ ap (decides g h k) (zero-add (sum_to g (length g) - sum_to g (suc k)))

-- ---- a strict total order

irreflexive_to : (k t : ℕ) (g : List ℕ) → before_to k t g g ≡ false
irreflexive_to zero t g = unfold before_to in refl
irreflexive_to (suc k) t g = before_equal k t g g refl ∙ irreflexive_to k (t + get_or g k 0) g

-- by their first k parts, g comes first, or they are equal, or h comes first
abbrev Ordered : ℕ → ℕ → List ℕ → List ℕ → Type 0
Ordered k t g h = (before_to k t g h ≡ true) ⊎ (((i : ℕ) → i < k → get_or g i 0 ≡ get_or h i 0) ⊎ (before_to k t h g ≡ true))

total_to : (k t : ℕ) (g h : List ℕ) → Ordered k t g h
total_to zero t g h = inr (inl (λ i l. absurd (not-suc-le-zero l)))
total_to (suc k) t g h = go (total_to k (t + get_or g k 0) g h) (ℕ_discrete (get_or g k 0) (get_or h k 0))
  where
    far : (get_or g k 0 ≡ get_or h k 0 → ⊥) → (decides g h k t ≡ true) ⊎ (decides h g k t ≡ true) → Ordered (suc k) t g h
    far ne (inl b) = inl (before_differ k t g h ne ∙ b)
    far ne (inr b) = inr (inr (before_differ k t h g (λ q. ne (sym q)) ∙ b))

    go : Ordered k (t + get_or g k 0) g h → Dec (get_or g k 0 ≡ get_or h k 0) → Ordered (suc k) t g h
    go below (no ne) = far ne (value_total (is_odd t) (get_or g k 0) (get_or h k 0) ne)
    go (inl b) (yes e) = inl (before_equal k t g h e ∙ b)
    go (inr (inl all)) (yes e) = inr (inl (up_to_lem (λ i. get_or g i 0 ≡ get_or h i 0) e all))
    go (inr (inr b)) (yes e) = inr (inr (before_equal k t h g (sym e) ∙ ap (λ (v : ℕ). before_to k (t + v) h g) (sym e) ∙ b))

trans_to : (k t : ℕ) (f g h : List ℕ) → before_to k t f g ≡ true → before_to k t g h ≡ true → before_to k t f h ≡ true
trans_to zero t f g h a b = unfold before_to in a
trans_to (suc k) t f g h a b =
    go (trans_to k (t + get_or f k 0) f g h) (ℕ_discrete (get_or f k 0) (get_or g k 0)) (ℕ_discrete (get_or g k 0) (get_or h k 0))
  where
    u : ℕ
    u = get_or f k 0

    v : ℕ
    v = get_or g k 0

    w : ℕ
    w = get_or h k 0

    first : (u ≡ v → ⊥) → decides f g k t ≡ true
    first ne = sym (before_differ k t f g ne) ∙ a

    second : (v ≡ w → ⊥) → decides g h k t ≡ true
    second ne = sym (before_differ k t g h ne) ∙ b

    by_value : decides f h k t ≡ true → before_to (suc k) t f h ≡ true
    by_value e = before_differ k t f h (value_apart (is_odd t) u w e) ∙ e

    go : (before_to k (t + u) f g ≡ true → before_to k (t + u) g h ≡ true → before_to k (t + u) f h ≡ true)
        → Dec (u ≡ v)
        → Dec (v ≡ w)
        → before_to (suc k) t f h ≡ true
    go below (yes e) (yes q) =
        before_equal k t f h (e ∙ q)
        ∙ below (sym (before_equal k t f g e) ∙ a) (ap (λ (x : ℕ). before_to k (t + x) g h) e ∙ sym (before_equal k t g h q) ∙ b)
    go below (yes e) (no m) = by_value (rw e (second m))
    go below (no n) (yes q) = by_value (rw (← q) (first n))
    go below (no n) (no m) = by_value (value_trans (is_odd t) u v w (first n) (second m))

pub before_irreflexive : (g : List ℕ) → before g g ≡ false
unfolding before
before_irreflexive g = irreflexive_to (length g) 0 g

pub before_transitive : (f g h : List ℕ) → length f ≡ length g → before f g ≡ true → before g h ≡ true → before f h ≡ true
unfolding before
before_transitive f g h e a b = trans_to (length f) 0 f g h a (ap (λ (n : ℕ). before_to n 0 g h) e ∙ b)

pub before_total : (g h : List ℕ) → length g ≡ length h → (before g h ≡ true) ⊎ ((g ≡ h) ⊎ (before h g ≡ true))
unfolding before
before_total g h e = go (total_to (length g) 0 g h)
  where
    go : Ordered (length g) 0 g h → (before_to (length g) 0 g h ≡ true) ⊎ ((g ≡ h) ⊎ (before_to (length h) 0 h g ≡ true))
    go (inl b) = inl b
    go (inr (inl all)) = inr (inl (ext_get_or 0 g h e all))
    go (inr (inr b)) = inr (inr (ap (λ (n : ℕ). before_to n 0 h g) (sym e) ∙ b))
