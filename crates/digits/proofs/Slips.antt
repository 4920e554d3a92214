-- Which slips the weighted sum finds.
use mathlib.Core.Path.{◌≡◌, sym, ap, ◌∙◌}
use mathlib.Core.Logic.{◌↔◌}
use Prim.Native.Nat.{ℕ, zero, suc, ◌+◌, ◌*◌, ◌/◌, ◌%◌, ◌≤◌, ◌<◌}
use native.Mathlib.Decide.{ℕ_discrete}
use native.Mathlib.Nat.{mul-add-mod_self_left}
use native.Mathlib.Omega.{arith}
use borrow.Author.Tests.{eq-eqb, ne_eqb}
use Rattle.walsh.specs.Sums.{sum}
use Rattle.walsh.proofs.Lists.{sum_same}
use Rattle.digits.specs.Digits.{digit_at, weight_at, places, weighted_sum, Passes}
use Rattle.digits.specs.Slips.{Mistyped, Exchanged, Unnoticed}

-- the weights of a place and of the next
data Weights (k : ℕ) : Type 0 where
  even : weight_at k ≡ 1 → weight_at (suc k) ≡ 3 → Weights k
  odd : weight_at k ≡ 3 → weight_at (suc k) ≡ 1 → Weights k

weights : (k : ℕ) → Weights k
weights k = go (ℕ_discrete (k % 2) 1)
  where
    go : Dec (k % 2 ≡ 1) → Weights k
    go (yes q) = odd (rw (eq-eqb (k % 2) 1 q)) (rw (ne_eqb (suc k % 2) 1 (omega arith)))
    go (no n) = even (rw (ne_eqb (k % 2) 1 n)) (rw (eq-eqb (suc k % 2) 1 (omega arith)))

-- numbers that multiples of c make the same leave the same
same_rest : (c p q a b : ℕ) → c * p + a ≡ c * q + b → a % c ≡ b % c
same_rest c p q a b e = sym (mul-add-mod_self_left c p a) ∙ ap (λ (x : ℕ). x % c) e ∙ mul-add-mod_self_left c q b

-- x and y are multiples of ten: a digit of weight 3, where 7 times 3 is 1 up to tens, and one of weight 1 against one of weight 3
thrice : (x y a b : ℕ) → x % 10 ≡ 0 → y % 10 ≡ 0 → x + 3 * a ≡ y + 3 * b → a % 10 ≡ b % 10
thrice x y a b p q e = same_rest 10 (7 * (x / 10) + 2 * a) (7 * (y / 10) + 2 * b) a b (omega arith)

twice : (x y a b : ℕ) → x % 10 ≡ 0 → y % 10 ≡ 0 → x + 2 * a ≡ y + 2 * b → a % 5 ≡ b % 5
twice x y a b p q e = same_rest 5 (x / 10) (y / 10) a b (omega arith)

twice_back : (x y a b : ℕ) → y % 10 ≡ 0 → x + 2 * a ≡ y + 2 * b → a % 5 ≡ b % 5 → x % 10 ≡ 0
twice_back x y a b q e u = same_rest 10 (a / 5) (y / 10 + b / 5) x 0 (omega arith)

-- sums whose terms are the same from place a on
sum_rest : (f g : ℕ → ℕ) (a b : ℕ) → a ≤ b → ((j : ℕ) → a ≤ j → j < b → f j ≡ g j) → sum f b + sum g a ≡ sum g b + sum f a
sum_rest f g a zero h e = let z : a ≡ 0 = omega arith in rw z
sum_rest f g a (suc b) h e = go (ℕ_discrete a (suc b)) (λ k. sum_rest f g a b k (λ j l i. e j l (omega arith)))
  where
    go : Dec (a ≡ suc b) → (a ≤ b → sum f b + sum g a ≡ sum g b + sum f a) → sum f (suc b) + sum g a ≡ sum g (suc b) + sum f a
    go (yes q) more = rw q (omega arith)
    go (no n) more = omega (arith, more (omega arith), e b (omega arith) (omega arith))

-- ---- two numbers with some digits the same

abbrev term : ℕ → ℕ → ℕ
term n k = weight_at k * digit_at n k

module _ (n m : ℕ) where
  abbrev Same : ℕ → Type 0
  Same j = digit_at m j ≡ digit_at n j

  same_term : (j : ℕ) → Same j → term m j ≡ term n j
  same_term j e = ap (λ (d : ℕ). weight_at j * d) e

  -- those right of place k; those from place k on
  same_right : (k : ℕ) → ((j : ℕ) → j < k → Same j) → sum (term m) k ≡ sum (term n) k
  same_right k e = sum_same (term m) (term n) k (λ j h. same_term j (e j h))

  same_left : (k : ℕ) → k ≤ places → ((j : ℕ) → k ≤ j → j < places → Same j) → weighted_sum m + sum (term n) k ≡ weighted_sum n + sum (term m) k
  unfolding weighted_sum
  same_left k h e = sum_rest (term m) (term n) k places h (λ j a b. same_term j (e j a b))

  -- ---- one digit mistyped

  module _ (k : ℕ) (s : Mistyped n m k) where
    mistyped_sums : weighted_sum m + term n k ≡ weighted_sum n + term m k
    mistyped_sums =
        let right = same_right k (λ j h. s.others j (omega (arith, s.place)) (λ e. omega arith)) in
        let left = same_left (suc k) s.place (λ j a b. s.others j b (λ e. omega arith)) in
        omega (arith, right, left)

    -- both never pass
    pub one_digit : Passes n → ¬ Passes m
    one_digit p q = go (weights k)
      where
        go : Weights k → ⊥
        go (even one three) = s.differs (omega (arith, rw one at mistyped_sums, p, q))
        go (odd three one) = s.differs (omega (arith, thrice (weighted_sum m) (weighted_sum n) (digit_at n k) (digit_at m k) q p (rw three at mistyped_sums)))

  -- ---- two neighbours exchanged

  module _ (k : ℕ) (s : Exchanged n m k) where
    abbrev a : ℕ
    a = digit_at n k

    abbrev b : ℕ
    b = digit_at n (suc k)

    exchanged_sums : weighted_sum m + weight_at k * a + weight_at (suc k) * b ≡ weighted_sum n + weight_at k * b + weight_at (suc k) * a
    exchanged_sums =
        let right = same_right k (λ j h. s.others j (omega (arith, s.place)) (λ e. omega arith) (λ e. omega arith)) in
        let left = same_left (suc (suc k)) s.place (λ j a b. s.others j b (λ e. omega arith) (λ e. omega arith)) in
        let here = ap (λ (d : ℕ). weight_at k * d) s.right in
        let next = ap (λ (d : ℕ). weight_at (suc k) * d) s.left in
        omega (arith, right, left, here, next)

    -- both pass where the two digits are the same or five apart, and nowhere else
    pub exchange : Passes n → Passes m ↔ Unnoticed a b
    exchange p = (only (weights k), there (weights k))
      where
        only : Weights k → Passes m → Unnoticed a b
        only (even one three) q = sym (twice (weighted_sum m) (weighted_sum n) b a q p (omega (arith, rw (one, three) at exchanged_sums)))
        only (odd three one) q = twice (weighted_sum m) (weighted_sum n) a b q p (omega (arith, rw (three, one) at exchanged_sums))

        there : Weights k → Unnoticed a b → Passes m
        there (even one three) u = twice_back (weighted_sum m) (weighted_sum n) b a p (omega (arith, rw (one, three) at exchanged_sums)) (sym u)
        there (odd three one) u = twice_back (weighted_sum m) (weighted_sum n) a b p (omega (arith, rw (three, one) at exchanged_sums)) u
