-- Laws of `sum` and `flat`, of the parity, and of the values of one part.
use mathlib.Core.Path.{◌≡◌, refl, sym, ap, ◌∙◌}
use mathlib.Core.Bool.{Bool, true, false, not, not-not}
use mathlib.Core.Logic.{◌⊎◌, inl, inr}
use mathlib.Core.List.{List, [], ◌∷◌, ◌++◌, append_assoc, append-nil}
use mathlib.Core.List.{reverse, reverse-append, reverse-reverse, head-eq_of_cons-eq, tail-eq_of_cons-eq}
use Prim.Native.Nat.{ℕ, zero, suc, ◌+◌, ◌-◌, ◌≤◌, ◌<◌, ◌%◌}
use native.Mathlib.Nat.{add-zero, add-suc, suc-mod, mod-lt, not-suc-le-zero, zero-lt-suc, le_refl}
use native.Mathlib.Numerals.{add-one}
use native.Mathlib.Decide.{dec_le, dec_lt, le_ind}
use native.Mathlib.Omega.{arith}
use lib.Dec.{eqb}
use lib.ListN.{length, get_or, length-append, get_or-append}
use lib.Seq.{get_or-append-add}
use Rattle.walsh.specs.Sums.{sum, flat, sum_to}
use Rattle.walsh.specs.Order.{is_odd, choices, value_at}
use Rattle.walsh.specs.Rank.{index_of}
use Rattle.walsh.proofs.Cases.{last_or_less}

-- ---- lists

pub snoc_inj : {xs ys : List ℕ} {a b : ℕ} → xs ++ (a ∷ []) ≡ ys ++ (b ∷ []) → (xs ≡ ys) × (a ≡ b)
snoc_inj {xs} {ys} {a} {b} e =
    (sym (reverse-reverse xs) ∙ ap reverse (tail-eq_of_cons-eq turned) ∙ reverse-reverse ys, head-eq_of_cons-eq turned)
  where
    turned : ◌≡◌ {A = List ℕ} (a ∷ reverse xs) (b ∷ reverse ys)
    turned = sym (reverse-append xs (a ∷ [])) ∙ ap reverse e ∙ reverse-append ys (b ∷ [])

-- ---- sums

pub sum_same : (f g : ℕ → ℕ) (n : ℕ) → ((i : ℕ) → i < n → f i ≡ g i) → sum f n ≡ sum g n
sum_same f g zero h = refl
sum_same f g (suc n) h = omega (arith, sum_same f g n (λ i l. h i (omega arith)), h n (le_refl (suc n)))

pub sum_le : (f g : ℕ → ℕ) (n : ℕ) → ((i : ℕ) → i < n → f i ≤ g i) → sum f n ≤ sum g n
sum_le f g zero h = le_refl 0
sum_le f g (suc n) h = omega (arith, sum_le f g n (λ i l. h i (omega arith)), h n (le_refl (suc n)))

pub sum_mono : (f : ℕ → ℕ) (m n : ℕ) → m ≤ n → sum f m ≤ sum f n
sum_mono f m n h = le_ind (λ (k : ℕ). sum f m ≤ sum f k) (le_refl (sum f m)) (λ k l b. omega arith) n h

pub sum_to_mono : (xs : List ℕ) (m n : ℕ) → m ≤ n → sum_to xs m ≤ sum_to xs n
sum_to_mono xs m n h = sum_mono (λ i. get_or xs i 0) m n h

pub sum_to_step : (xs : List ℕ) (n : ℕ) → sum_to xs (n + 1) ≡ sum_to xs n + get_or xs n 0
sum_to_step xs n = rw add-one

pub sum_none : (f : ℕ → ℕ) (n : ℕ) → ((i : ℕ) → i < n → f i ≡ 0) → sum f n ≡ 0
sum_none f zero h = refl
sum_none f (suc n) h = omega (arith, sum_none f n (λ i l. h i (omega arith)), h n (le_refl (suc n)))

pub sum_front : (f : ℕ → ℕ) (n : ℕ) → sum f (suc n) ≡ f 0 + sum (λ i. f (suc i)) n
sum_front f zero = omega arith
sum_front f (suc n) = omega (arith, sum_front f n)

-- the same numbers from the other end
pub sum_mirror : (f g : ℕ → ℕ) (n : ℕ) → ((i j : ℕ) → suc (i + j) ≡ n → f i ≡ g j) → sum f n ≡ sum g n
sum_mirror f g zero h = refl
sum_mirror f g (suc n) h =
    omega (arith, sum_front g n, sum_mirror f (λ i. g (suc i)) n (λ i j e. h i (suc j) (omega arith)), h n 0 (omega arith))

-- numbers that are 0 may be left out at the beginning
sum_skip : (f : ℕ → ℕ) (lo n : ℕ) → ((i : ℕ) → i < lo → f i ≡ 0) → sum f (lo + n) ≡ sum (λ i. f (lo + i)) n
sum_skip f lo zero h = rw add-zero (sum_none f lo h)
sum_skip f lo (suc n) h = rw (add-suc, sum_skip f lo n h)

-- ---- blocks

module _ (f : ℕ → List (List ℕ)) where
  abbrev sizes : ℕ → ℕ
  sizes i = length (f i)

  pub length_flat : (n : ℕ) → length (flat f n) ≡ sum sizes n
  length_flat zero = refl
  length_flat (suc n) = omega (arith, length-append (flat f n) (f n), length_flat n)

  pub flat_lt : (n j s : ℕ) → j < n → s < length (f j) → sum sizes j + s < length (flat f n)
  flat_lt n j s h l = omega (arith, length_flat n, sum_mono sizes (suc j) n h)

  pub flat_at : (n j s : ℕ) → j < n → s < length (f j) → get_or (flat f n) (sum sizes j + s) [] ≡ get_or (f j) s []
  flat_at zero j s h l = absurd (not-suc-le-zero h)
  flat_at (suc n) j s h l = go (flat_at n j s) (last_or_less h)
    where
      go : (j < n → s < length (f j) → get_or (flat f n) (sum sizes j + s) [] ≡ get_or (f j) s [])
          → (j ≡ n) ⊎ (j < n)
          → get_or (flat f n ++ f n) (sum sizes j + s) [] ≡ get_or (f j) s []
      go below (inl e) = rw (e, ← (length_flat n)) (get_or-append-add (flat f n) (f n) s [])
      go below (inr l') = get_or-append (flat f n) (f n) [] (sum sizes j + s) (flat_lt n j s l' l) ∙ below l' l

  -- place p of the flat list is place `at` of block `block`
  pub record Place (n p : ℕ) : Type 0 where
    pub block : ℕ
    pub at : ℕ
    pub block_lt : block < n
    pub at_lt : at < length (f block)
    pub is : p ≡ sum sizes block + at

  pub place : (n p : ℕ) → p < length (flat f n) → Place n p
  place zero p h = absurd (not-suc-le-zero h)
  place (suc n) p h = go (place n p) (dec_lt p (length (flat f n)))
    where
      go : (p < length (flat f n) → Place n p) → Dec (p < length (flat f n)) → Place (suc n) p
      go below (yes l) =
          let b = below l in
          record { block = b.block; at = b.at; block_lt = omega arith; at_lt = b.at_lt; is = b.is }
      go below (no l) =
          record {
            block = n;
            at = p - length (flat f n);
            block_lt = le_refl (suc n);
            at_lt = omega (arith, length-append (flat f n) (f n));
            is = omega (arith, length_flat n);
          }

flat_front : (f : ℕ → List (List ℕ)) (n : ℕ) → flat f (suc n) ≡ f 0 ++ flat (λ i. f (suc i)) n
flat_front f zero = sym (append-nil (f 0))
flat_front f (suc n) = rw (flat_front f n) (append_assoc (f 0) (flat (λ i. f (suc i)) n) (f (suc n)))

-- the reversed blocks from the other end are the list reversed
pub flat_mirror : (f g : ℕ → List (List ℕ)) (n : ℕ) → ((i j : ℕ) → suc (i + j) ≡ n → f i ≡ reverse (g j)) → flat f n ≡ reverse (flat g n)
flat_mirror f g zero h = refl
flat_mirror f g (suc n) h =
    let rest : flat (λ i. f (suc i)) n ≡ reverse (flat g n) = flat_mirror (λ i. f (suc i)) g n (λ i j e. h (suc i) j (omega arith)) in
    flat_front f n ∙ rw (h 0 n (omega arith), rest) (sym (reverse-append (flat g n) (g n)))

-- ---- parity

pub is_odd_suc : (t : ℕ) → is_odd (suc t) ≡ not (is_odd t)
is_odd_suc t = rw (suc-mod t 2) (go (t % 2) (mod-lt t (zero-lt-suc 1)))
  where
    go : (m : ℕ) → m < 2 → eqb (suc m % 2) 1 ≡ not (eqb m 1)
    go zero h = refl
    go (suc zero) h = refl
    go (suc (suc m)) h = absurd (omega arith)

pub is_odd_suc_suc : (t : ℕ) → is_odd (suc (suc t)) ≡ is_odd t
is_odd_suc_suc t = rw (is_odd_suc, is_odd_suc) (not-not (is_odd t))

-- ---- values

module _ (lo hi : ℕ) where
  pub value_low : (odd : Bool) (i : ℕ) → i < choices lo hi → lo ≤ value_at lo hi odd i
  value_low true i h = omega arith
  value_low false i h = omega arith

  pub value_high : (odd : Bool) (i : ℕ) → i < choices lo hi → value_at lo hi odd i ≤ hi
  value_high true i h = omega arith
  value_high false i h = omega arith

  pub index_value : (odd : Bool) (i : ℕ) → i < choices lo hi → index_of lo hi odd (value_at lo hi odd i) ≡ i
  index_value true i h = omega arith
  index_value false i h = omega arith

  pub index_lt : (odd : Bool) (v : ℕ) → lo ≤ v → v ≤ hi → index_of lo hi odd v < choices lo hi
  index_lt true v low high = omega arith
  index_lt false v low high = omega arith

  pub value_index : (odd : Bool) (v : ℕ) → lo ≤ v → v ≤ hi → value_at lo hi odd (index_of lo hi odd v) ≡ v
  value_index true v low high = omega arith
  value_index false v low high = omega arith

  -- the other direction has the same values from the other end
  pub value_mirror : (odd : Bool) (i j : ℕ) → suc (i + j) ≡ choices lo hi → value_at lo hi (not odd) i ≡ value_at lo hi odd j
  value_mirror true i j e = omega arith
  value_mirror false i j e = omega arith

  -- a sum over the values is the sum from 0 to hi, where the numbers below lo add nothing
  sum_rising : (f : ℕ → ℕ) → ((u : ℕ) → u < lo → f u ≡ 0) → sum (λ i. f (lo + i)) (choices lo hi) ≡ sum f (suc hi)
  sum_rising f h = go (dec_le lo (suc hi))
    where
      go : Dec (lo ≤ suc hi) → sum (λ i. f (lo + i)) (choices lo hi) ≡ sum f (suc hi)
      go (yes l) =
          let all : lo + choices lo hi ≡ suc hi = omega arith in
          sym (sum_skip f lo (choices lo hi) h) ∙ ap (sum f) all
      go (no l) =
          let none : choices lo hi ≡ 0 = omega arith in
          rw none (sym (sum_none f (suc hi) (λ u b. h u (omega arith))))

  pub sum_values : (f : ℕ → ℕ) (odd : Bool) → ((u : ℕ) → u < lo → f u ≡ 0)
      → sum (λ i. f (value_at lo hi odd i)) (choices lo hi) ≡ sum f (suc hi)
  sum_values f false h = sum_rising f h
  sum_values f true h =
      sum_mirror (λ i. f (hi - i)) (λ i. f (lo + i)) (choices lo hi) (λ i j e. ap f (value_mirror false i j e)) ∙ sum_rising f h
