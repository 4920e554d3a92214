-- `mahonian::top` meets its contract.
use native.Mathlib.Omega.{arith}
use Rattle.mahonian.proofs.Rows.{row_at}
use Rattle.mahonian.proofs.top.Goals as goal

pub overflow_mul-result : goal.overflow_mul-result
overflow_mul-result c = omega (arith, row_at c.args.k (omega arith))
