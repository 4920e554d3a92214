-- `count::row::stretches_of` meets its contract.
use mathlib.Core.Path.{◌≡◌, refl}
use Prim.Native.Nat.{ℕ, ◌+◌, ◌-◌, min, max}
use native.Mathlib.Omega.{arith}
use Rattle.count.proofs.row.stretches_of.Goals as goal

first_is : (a b l : ℕ) → l ≡ min a b → a + b - l + 1 ≡ max a b + 1
first_is a b l e = omega arith

second_is : (a b l n o : ℕ) → l ≡ min a b → o ≡ l + 1 - n → n + o ≡ max n (min a b + 1)
second_is a b l n o e q = omega arith

pub returns : goal.returns
returns c =
    let least = c.min-least.ensures in
    record { from = refl; first = first_is _ _ _ least; second = second_is _ _ _ _ _ least c.saturating_sub.ensures; both = refl }
