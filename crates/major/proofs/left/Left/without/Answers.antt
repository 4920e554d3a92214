-- `major::left::Left::without` meets its contract. A word of 64 bits has 59 left behind the cut, so the sum fits whatever stands in it.
use Prim.Native.Nat.{◌*◌}
use native.Mathlib.Omega.{arith}
use Rattle.major.proofs.Digits.{cut_lt}
use Rattle.major.proofs.Words.{holds_low, holds_high}
use Rattle.major.proofs.left.Left.without.Goals as goal

pub overflow_add-result-then-place-lt12 : goal.overflow_add-result-then-place-lt12
overflow_add-result-then-place-lt12 c =
    let a = c.args in
    omega (arith, c.cut.ensures, cut_lt a.self.low (5 * a.place) 5 59 (omega arith) (omega arith))

pub returns-then-place-lt12 : goal.returns-then-place-lt12
returns-then-place-lt12 c =
    let a = c.args in
    holds_low a.self a.place c.if-place-lt12.true _ _ (omega (arith, c.cut.ensures)) (omega arith)

pub returns-else-place-lt12 : goal.returns-else-place-lt12
returns-else-place-lt12 c =
    let a = c.args in
    holds_high a.self a.place c.if-place-lt12.false _ (omega (arith, c.cut-else-place-lt12.ensures))
