-- A case by a test, with what the test says of the numbers, and the last of some numbers apart from those before it.
use mathlib.Core.Path.{◌≡◌, refl}
use mathlib.Core.Bool.{Bool, true, false}
use mathlib.Core.Logic.{◌⊎◌, inl, inr}
use Prim.Native.Nat.{ℕ, suc, ◌+◌, ◌-◌, ◌≤◌, ◌<◌}
use native.Mathlib.Nat.{le_of_suc-le-suc, eq-or-lt_of_le}
use native.Mathlib.Numerals.{add-one-dec}
use lib.Dec.{ltb}
use borrow.Author.Tests.{ltb-true, ltb-false}

pub on_test : {G : Type 0} (t : Bool) → (t ≡ true → G) → (t ≡ false → G) → G
on_test true f g = f refl
on_test false f g = g refl

pub on_less : {G : Type 0} (a b : ℕ) → (a < b → ltb a b ≡ true → G) → (b ≤ a → ltb a b ≡ false → G) → G
on_less a b f g = on_test (ltb a b) (λ e. f (ltb-true a b e) e) (λ e. g (ltb-false a b e) e)

-- a loop that counts up to n comes closer
pub closer : (t n : ℕ) → t < n → n - (t + 1) < n - t
closer t n l = add-one-dec n t l

pub last_or_less : {i n : ℕ} → i < suc n → (i ≡ n) ⊎ (i < n)
last_or_less l = eq-or-lt_of_le (le_of_suc-le-suc l)

-- what holds of n and of all numbers below n
pub up_to_lem : {n : ℕ} (P : ℕ → Type 0) → P n → ((i : ℕ) → i < n → P i) → (i : ℕ) → i < suc n → P i
up_to_lem {n} P top below i l = go (last_or_less l)
  where
    go : (i ≡ n) ⊎ (i < n) → P i
    go (inl e) = rw e top
    go (inr m) = below i m
