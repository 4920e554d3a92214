-- `digits::passes` meets its contract.
use mathlib.Core.Path.{◌≡◌, ap, ◌∙◌}
use Prim.Native.Nat.{ℕ, ◌+◌, ◌*◌, ◌/◌, ◌%◌, ◌^◌, ◌≤◌, ◌<◌}
use native.Mathlib.Nat.{le_refl, div-le_self}
use native.Mathlib.Omega.{arith}
use lib.Dec.{eqb}
use mir.Syntax.{w64}
use mir.Val.{Fits}
use Rattle.walsh.specs.Sums.{sum}
use Rattle.digits.specs.Digits.{weight_at, places}
use Rattle.digits.proofs.Places.{quotients}
use Rattle.digits.proofs.passes.Goals as goal

pub returns : goal.returns
returns c =
    let n = c.args.order in
    let once : ℕ = n + n / 100 + n / 10000 + n / 1000000 + n / 100000000 in
    let thrice : ℕ = n / 10 + n / 1000 + n / 100000 + n / 10000000 + n / 1000000000 in
    let e : once + 3 * thrice ≡ sum (λ k. weight_at k * (n / 10 ^ k)) places = omega arith in
    ap (λ (x : ℕ). eqb (x % 10) 0) e ∙ ap (λ (x : ℕ). eqb x 0) (quotients n)

-- no quotient is larger than the number
small : (n a b c d e : ℕ) → a ≤ n → b ≤ n → c ≤ n → d ≤ n → e ≤ n → a + b + c + d + e ≤ 5 * n
small n a b c d e h i j k l = omega arith

room : (n x y : ℕ) → n < 2 ^ 32 → x ≤ 5 * n → y ≤ 5 * n → Fits w64 (x + 3 * y)
room n x y h a b = omega arith

pub overflow_add-result : goal.overflow_add-result
overflow_add-result c =
    let n = c.args.order in
    let most : (k : ℕ) → n / k ≤ n = div-le_self n in
    room n _ _ c.ranges.order.fits
    (small n n (n / 100) (n / 10000) (n / 1000000) (n / 100000000) (le_refl n) (most 100) (most 10000) (most 1000000) (most 100000000))
    (small n (n / 10) (n / 1000) (n / 100000) (n / 10000000) (n / 1000000000) (most 10) (most 1000) (most 100000) (most 10000000) (most 1000000000))
