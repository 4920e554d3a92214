-- `permutation::lifted` meets its contract. By the two cases of the test.
use mathlib.Core.Path.{sym, ◌∙◌}
use native.Mathlib.Numerals.{add-one}
use Rattle.permutation.proofs.Inverse.{lift_low, lift_high}
use Rattle.permutation.proofs.lifted.Goals as goal

pub returns-then-c-x : goal.returns-then-c-x
returns-then-c-x c = add-one _ ∙ sym (lift_high _ _ c.if-c-x.true)

pub returns-else-c-x : goal.returns-else-c-x
returns-else-c-x c = sym (lift_low _ _ c.if-c-x.false)
