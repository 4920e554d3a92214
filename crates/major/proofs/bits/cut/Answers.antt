-- `major::bits::cut` meets its contract. What goes is no more than the word.
use Rattle.std.proofs.Common.{arith, ◌/◌, ◌-◌, ◌*◌, ◌^◌, ◌<◌}
use native.Mathlib.Nat.{mod-eq_of_lt}
use Rattle.major.proofs.Digits.{cut_less}
use Rattle.major.proofs.bits.cut.Goals as goal

pub returns : goal.returns
returns c =
    let a = c.args in
    let rest = a.word / 2 ^ a.from in
    let goes = (rest - rest / 2 ^ a.width) * 2 ^ a.from in
    let less = (cut_less a.word a.from a.width).1 in
    let fits : goes < 2 ^ 64 = omega (arith, less) in
    rw (mod-eq_of_lt fits) (omega (arith, less))
