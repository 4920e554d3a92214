-- The first part that can move: of any bytes, and in the code's numbers.
use mathlib.Core.Path.{◌≡◌, sym, ◌∙◌}
use mathlib.Core.Bool.{Bool, true, false, cond}
use mathlib.Core.Logic.{◌⊎◌, inl, inr}
use mathlib.Core.List.{List}
use Prim.Native.Nat.{ℕ, zero, suc, ◌+◌, ◌-◌, ◌≤◌, ◌<◌, min}
use native.Mathlib.Nat.{eq-or-lt_of_le}
use native.Mathlib.Numerals.{add-one}
use native.Mathlib.Omega.{arith}
use lib.Dec.{ltb}
use lib.ListN.{length, get_or}
use Rattle.walsh.specs.Sums.{sum_to}
use Rattle.walsh.specs.Order.{is_odd}
use borrow.Author.Tests.{lt-ltb, le-ltb}
use Rattle.walsh.proofs.Cases.{on_test, on_less}
use Rattle.step.specs.Advance.{can_move, moving_from, pivot_of}

-- ---- whether a part of value v and bound m can move, where the parts before it sum to `before` and their bounds to `left`

module _ (v m before left : ℕ) where
  pub falls : before < left → ltb 0 v ≡ ltb (before + v - left) v
  falls room =
      on_less 0 v
      (λ l t. t ∙ sym (lt-ltb (before + v - left) v (omega arith)))
      (λ l t. t ∙ sym (le-ltb (before + v - left) v (omega arith)))

  pub falls_not : left ≤ before → false ≡ ltb (before + v - left) v
  falls_not full = sym (le-ltb (before + v - left) v (omega arith))

  pub rises : 0 < before → ltb v m ≡ ltb v (min m (before + v))
  rises some =
      on_less v m
      (λ l t. t ∙ sym (lt-ltb v (min m (before + v)) (omega arith)))
      (λ l t. t ∙ sym (le-ltb v (min m (before + v)) (omega arith)))

  pub rises_not : before ≡ 0 → false ≡ ltb v (min m (before + v))
  rises_not none = sym (le-ltb v (min m (before + v)) (omega arith))

module _ (ms : List ℕ) (w : ℕ) (g : List ℕ) where
  -- ---- the search goes on, or stops

  pub moving_stop : (i : ℕ) → i < length ms → can_move ms w g i ≡ true → i ≡ moving_from ms w g i (length ms - i)
  unfolding moving_from
  moving_stop i l t =
      let n : length ms - i ≡ suc (length ms - (i + 1)) = omega arith in
      rw (n, t)

  pub moving_on : (i : ℕ) → i < length ms → can_move ms w g i ≡ false
      → moving_from ms w g (i + 1) (length ms - (i + 1)) ≡ moving_from ms w g i (length ms - i)
  unfolding moving_from
  moving_on i l t =
      let n : length ms - i ≡ suc (length ms - (i + 1)) = omega arith in
      rw (n, t, ← (add-one i))

  pub moving_end : (i : ℕ) → length ms ≤ i → i ≡ moving_from ms w g i (length ms - i)
  unfolding moving_from
  moving_end i l = let n : length ms - i ≡ 0 = omega arith in rw n

  -- what the calls of a turn of `pivot` answer
  pub can_here : (i left before m v right : ℕ) (falling can : Bool) → left ≡ sum_to ms i → before ≡ sum_to g i → m ≡ get_or ms i 0 → v ≡ get_or g i 0
      → right ≡ w - (before + v) → falling ≡ is_odd right → can ≡ cond falling (ltb (before + v - left) v) (ltb v (min m (before + v)))
      → can ≡ can_move ms w g i
  can_here i left before m v right falling can el eb em ev er ef e = e ∙ rw (ef, er, el, eb, em, ev)

  -- ---- what was found

  -- p is the first of the n parts from i on that can move, or the place behind them
  pub record First (i n p : ℕ) : Type 0 where
    pub low : i ≤ p
    pub high : p ≤ i + n
    pub can : p < i + n → can_move ms w g p ≡ true
    pub passed : (j : ℕ) → i ≤ j → j < p → can_move ms w g j ≡ false

  first_from : (i n : ℕ) → First i n (moving_from ms w g i n)
  unfolding moving_from
  first_from i zero = record { low = omega arith; high = omega arith; can = λ l. absurd (omega arith); passed = λ j a b. absurd (omega arith) }
  first_from i (suc n) =
      on_test (can_move ms w g i)
      (λ t. rw t (record { low = omega arith; high = omega arith; can = λ l. t; passed = λ j a b. absurd (omega arith) }))
      (λ t. rw t (later t (first_from (suc i) n)))
    where
      later : {p : ℕ} → can_move ms w g i ≡ false → First (suc i) n p → First i (suc n) p
      later {p} t f =
          record {
            low = omega (arith, f.low);
            high = omega (arith, f.high);
            can = λ l. f.can (omega arith);
            passed = λ j a b. here t f j b (eq-or-lt_of_le a);
          }
        where
          here : can_move ms w g i ≡ false → First (suc i) n p → (j : ℕ) → j < p → (i ≡ j) ⊎ (i < j) → can_move ms w g j ≡ false
          here t f j b (inl e) = rw (← e) t
          here t f j b (inr l) = f.passed j l b

  pub pivot_first : First 1 (length ms - 1) (pivot_of ms w g)
  pivot_first = first_from 1 (length ms - 1)
