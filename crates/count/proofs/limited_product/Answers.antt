-- `count::limited_product` meets its contract.
use Prim.Native.Nat.{ℕ, ◌*◌, ◌≤◌, ◌<◌}
use native.Mathlib.Nat.{mul-le-mul}
use native.Mathlib.Omega.{arith}
use Rattle.std.proofs.Common.{refl}
use Rattle.count.proofs.limited_product.Goals as goal

small : (a b : ℕ) → a < 36028797018963968 → b ≤ 256 → a * b ≤ 9223372036854775807
small a b l h =
    let a' : a ≤ 36028797018963967 = omega arith in
    let p = mul-le-mul a' h in
    omega arith

pub returns-then-a-lt-SMALL : goal.returns-then-a-lt-SMALL
returns-then-a-lt-SMALL c = (refl, small _ _ c.if-a-lt-SMALL.true c.requires)

pub overflow_mul-result : goal.overflow_mul-result
overflow_mul-result c = let p = small _ _ c.if-a-lt-SMALL.true c.requires in omega arith
