-- A permutation and its inversion vector determine each other.
use mathlib.Core.Path.{◌≡◌, refl, sym, ap, ◌∙◌}
use mathlib.Core.Bool.{cond}
use mathlib.Core.List.{List, [], ◌∷◌, map}
use Prim.Native.Nat.{ℕ, zero, suc, ◌-◌, ◌≤◌, ◌<◌}
use native.Mathlib.Nat.{le_refl}
use native.Mathlib.Decide.{dec_le, dec_lt}
use native.Mathlib.Omega.{arith}
use lib.Dec.{ltb}
use lib.ListN.{length, length-map}
use borrow.Author.Tests.{lt-ltb, le-ltb, eq-eqb}
use Rattle.permutation.specs.Permutation.{times, IsPermutation, inversion_vector, lift, permutation_of}
use Rattle.permutation.proofs.Smaller.{inversions_cons, inversions_short}
use Rattle.permutation.proofs.Counts.{below, ltb_same, many_le, many_map, Counted, counted, permutation}

-- ---- lift

pub lift_low : (c x : ℕ) → x ≤ c → lift c x ≡ x
unfolding lift
lift_low c x h = rw (le-ltb c x h)

pub lift_high : (c x : ℕ) → c < x → lift c x ≡ suc x
unfolding lift
lift_high c x h = rw (lt-ltb c x h)

-- it keeps the order
pub lift_order : (c x y : ℕ) → ltb (lift c x) (lift c y) ≡ ltb x y
lift_order c x y = go (dec_lt c x) (dec_lt c y)
  where
    go : Dec (c < x) → Dec (c < y) → ltb (lift c x) (lift c y) ≡ ltb x y
    go (yes a) (yes b) = rw (lift_high c x a, lift_high c y b) (ltb_same (suc x) (suc y) x y (λ l. omega arith) (λ l. omega arith))
    go (yes a) (no b) = rw (lift_high c x a, lift_low c y (omega arith)) (ltb_same (suc x) y x y (λ l. omega arith) (λ l. omega arith))
    go (no a) (yes b) = rw (lift_low c x (omega arith), lift_high c y b) (ltb_same x (suc y) x y (λ l. omega arith) (λ l. omega arith))
    go (no a) (no b) = rw (lift_low c x (omega arith), lift_low c y (omega arith))

-- ---- an inversion vector

-- it depends on the order of the entries alone
pub inversions_lift : (c : ℕ) (l : List ℕ) → inversion_vector (map (lift c) l) ≡ inversion_vector l
inversions_lift c [] = refl
inversions_lift c (v ∷ []) = inversions_short (lift c v ∷ []) (omega arith) ∙ sym (inversions_short (v ∷ []) (omega arith))
inversions_lift c (v ∷ w ∷ l) =
    inversions_cons (lift c v) (lift c w ∷ map (lift c) l) (omega arith)
    ∙ rw (many_map (lift c) (λ x. ltb x (lift c v)) (λ x. ltb x v) (w ∷ l) (λ x. lift_order c x v), inversions_lift c (w ∷ l))
    (sym (inversions_cons v (w ∷ l) (omega arith)))

-- ---- the permutation of a vector

-- the part i of g is at most length g - i: g is within the staircase of its length
abbrev pub Under : List ℕ → Type 0
Under [] = Unit
Under (c ∷ g) = (c ≤ suc (length g)) × Under g

module _ (c : ℕ) (q : List ℕ) where
  -- room for c + 1: as many entries are at most v, and one more from c + 1 on
  pub lift_below : (v : ℕ) → v ≤ c → below (suc v) (suc c ∷ map (lift c) q) ≡ below (suc v) q
  lift_below v h =
      rw (le-ltb (suc c) (suc v) (omega arith), many_map (lift c) (λ x. ltb x (suc v)) (λ x. ltb x (suc v)) q test) (omega arith)
    where
      test : (x : ℕ) → ltb (lift c x) (suc v) ≡ ltb x (suc v)
      test x = go (dec_lt c x)
        where
          go : Dec (c < x) → ltb (lift c x) (suc v) ≡ ltb x (suc v)
          go (yes a) = rw (lift_high c x a) (ltb_same (suc x) (suc v) x (suc v) (λ l. omega arith) (λ l. omega arith))
          go (no a) = rw (lift_low c x (omega arith))

  pub lift_above : (v : ℕ) → c ≤ v → below (suc (suc v)) (suc c ∷ map (lift c) q) ≡ suc (below (suc v) q)
  lift_above v h =
      rw (lt-ltb (suc c) (suc (suc v)) (omega arith), many_map (lift c) (λ x. ltb x (suc (suc v))) (λ x. ltb x (suc v)) q test) (omega arith)
    where
      test : (x : ℕ) → ltb (lift c x) (suc (suc v)) ≡ ltb x (suc v)
      test x = go (dec_lt c x)
        where
          go : Dec (c < x) → ltb (lift c x) (suc (suc v)) ≡ ltb x (suc v)
          go (yes a) = rw (lift_high c x a) (ltb_same (suc x) (suc (suc v)) x (suc v) (λ l. omega arith) (λ l. omega arith))
          go (no a) = rw (lift_low c x (omega arith)) (ltb_same x (suc (suc v)) x (suc v) (λ l. omega arith) (λ l. omega arith))

  -- so it is a permutation exactly if q is
  pub counted_cons : (m : ℕ) → c ≤ m → Counted m q → Counted (suc m) (suc c ∷ map (lift c) q)
  counted_cons m h d =
      record { size = ap suc (length-map q (lift c) ∙ d.size); up_to = λ v l. go v l (dec_le v c) }
    where
      go : (v : ℕ) → v ≤ suc m → Dec (v ≤ c) → below (suc v) (suc c ∷ map (lift c) q) ≡ v
      go v l (yes a) = lift_below v a ∙ d.up_to v (omega arith)
      go zero l (no a) = absurd (a (omega arith))
      go (suc v) l (no a) = lift_above v (omega arith) ∙ ap suc (d.up_to v (omega arith))

  pub counted_tail : (m : ℕ) → Counted (suc m) (suc c ∷ map (lift c) q) → Counted m q
  counted_tail m d = record { size = omega (arith, d.size, length-map q (lift c)); up_to = λ v l. go v l (dec_le v c) }
    where
      go : (v : ℕ) → v ≤ m → Dec (v ≤ c) → below (suc v) q ≡ v
      go v l (yes a) = sym (lift_below v a) ∙ d.up_to v (omega arith)
      go v l (no a) = omega (arith, lift_above v (omega arith), d.up_to (suc v) (omega arith))

pub permutation_length : (g : List ℕ) → length (permutation_of g) ≡ suc (length g)
unfolding permutation_of
permutation_length [] = refl
permutation_length (c ∷ g) = ap suc (length-map (permutation_of g) (lift c) ∙ permutation_length g)

permutation_counted : (g : List ℕ) → Under g → Counted (suc (length g)) (permutation_of g)
unfolding permutation_of
permutation_counted [] u = record { size = refl; up_to = λ v h. go v h }
  where
    go : (v : ℕ) → v ≤ 1 → below (suc v) (1 ∷ []) ≡ v
    go zero h = refl
    go (suc zero) h = refl
    go (suc (suc v)) h = absurd (omega arith)
permutation_counted (c ∷ g) u = counted_cons c (permutation_of g) (suc (length g)) u.0 (permutation_counted g u.1)

pub permutation_is : (g : List ℕ) → Under g → IsPermutation (suc (length g)) (permutation_of g)
permutation_is g u = permutation (permutation_counted g u)

first_inversions : (c : ℕ) (q : List ℕ) (m : ℕ) → c ≤ m → Counted m q → below (suc c) (map (lift c) q) ≡ c
first_inversions c q m h d =
    omega (arith, rw (le-ltb (suc c) (suc c) (le_refl (suc c))) at (lift_below c q c (le_refl c)), d.up_to c h)

pub inversions_permutation : (g : List ℕ) → Under g → inversion_vector (permutation_of g) ≡ g
unfolding permutation_of
inversions_permutation [] u = inversions_short (1 ∷ []) (omega arith)
inversions_permutation (c ∷ g) u =
    inversions_cons (suc c) (map (lift c) (permutation_of g)) (omega (arith, length-map (permutation_of g) (lift c), permutation_length g))
    ∙ rw (
      first_inversions c (permutation_of g) (suc (length g)) u.0 (permutation_counted g u.1),
      inversions_lift c (permutation_of g),
      inversions_permutation g u.1,
    )

-- ---- the vector of a permutation

-- the values over c + 1 are one less
lower : ℕ → ℕ → ℕ
lower c x = cond (ltb c x) (x - 1) x

lift_lower : (c x : ℕ) → (x ≡ suc c → ⊥) → lift c (lower c x) ≡ x
unfolding lower
lift_lower c x other = go (dec_lt c x)
  where
    go : Dec (c < x) → lift c (lower c x) ≡ x
    go (yes h) = rw (lt-ltb c x h) (lift_high c (x - 1) (omega arith) ∙ omega arith)
    go (no h) = rw (le-ltb c x (omega arith)) (lift_low c x (omega arith))

lifted : (c : ℕ) (l : List ℕ) → times (suc c) l ≡ 0 → map (lift c) (map (lower c) l) ≡ l
lifted c [] e = refl
lifted c (x ∷ l) e = rw (lift_lower c x other, lifted c l (omega arith))
  where
    other : x ≡ suc c → ⊥
    other s = omega (arith, rw (eq-eqb x (suc c) s) at e)

-- the first entry of a permutation of 1..k is one of 1..k, and stands nowhere else
module _ {k v : ℕ} {l : List ℕ} (d : Counted k (v ∷ l)) where
  first_low : 1 ≤ v
  first_low = go v (d.up_to 0 (omega arith))
    where
      go : (u : ℕ) → below 1 (u ∷ l) ≡ 0 → 1 ≤ u
      go zero e = absurd (omega arith)
      go (suc u) e = omega arith

  first_high : v ≤ k
  first_high = go (dec_le v k)
    where
      go : Dec (v ≤ k) → v ≤ k
      go (yes h) = h
      go (no h) =
          absurd
          (omega (arith, rw (le-ltb v (suc k) (omega arith)) at (d.up_to k (le_refl k)), many_le (λ x. ltb x (suc k)) l, d.size))

  first_once : times v l ≡ 0
  first_once = omega (arith, rw (eq-eqb v v refl) at ((permutation d).once v first_low first_high))

-- p is the permutation of a vector
pub record Coded (p : List ℕ) : Type 0 where
  pub vector : List ℕ
  pub size : length p ≡ suc (length vector)
  pub under : Under vector
  pub is : permutation_of vector ≡ p

coded_one : (v : ℕ) (l : List ℕ) → Counted 1 (v ∷ l) → Coded (v ∷ l)
unfolding permutation_of
coded_one v [] d =
    let one : 1 ≡ v = omega (arith, first_low d, first_high d) in
    record { vector = []; size = refl; under = tt; is = ap (λ (u : ℕ). u ∷ []) one }
coded_one v (w ∷ l) d = absurd (omega (arith, d.size))

coded_cons : (m c : ℕ) (q : List ℕ) → Counted (suc (suc m)) (suc c ∷ map (lift c) q) → Coded q → Coded (suc c ∷ map (lift c) q)
unfolding permutation_of
coded_cons m c q d r =
    record {
      vector = c ∷ r.vector;
      size = ap suc (length-map q (lift c) ∙ r.size);
      under = (omega (arith, first_high d, d.size, length-map q (lift c), r.size), r.under);
      is = rw r.is;
    }

coded : (m : ℕ) (p : List ℕ) → Counted (suc m) p → Coded p
coded zero [] d = absurd (omega (arith, d.size))
coded zero (v ∷ l) d = coded_one v l d
coded (suc m) [] d = absurd (omega (arith, d.size))
coded (suc m) (zero ∷ l) d = absurd (omega (arith, first_low d))
coded (suc m) (suc c ∷ l) d =
    let back : map (lift c) (map (lower c) l) ≡ l = lifted c l (first_once d) in
    let d' : Counted (suc (suc m)) (suc c ∷ map (lift c) (map (lower c) l)) = rw back d in
    rw back at (coded_cons m c (map (lower c) l) d' (coded m (map (lower c) l) (counted_tail c (map (lower c) l) (suc m) d')))

module _ {m : ℕ} {p : List ℕ} (perm : IsPermutation (suc m) p) where
  code : Coded p
  code = coded m p (counted perm)

  vector_is : inversion_vector p ≡ code.vector
  vector_is = ap inversion_vector (sym code.is) ∙ inversions_permutation code.vector code.under

  pub permutation_inversions : permutation_of (inversion_vector p) ≡ p
  permutation_inversions = rw vector_is code.is

  pub inversions_under : Under (inversion_vector p)
  inversions_under = rw vector_is code.under

  pub inversions_length : length (inversion_vector p) ≡ m
  inversions_length = rw vector_is (omega (arith, code.size, perm.size))
