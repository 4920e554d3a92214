-- `mahonian::start` meets its contract.
use native.Mathlib.Omega.{arith}
use Rattle.mahonian.proofs.Rows.{row_at}
use Rattle.mahonian.proofs.start.Goals as goal

pub overflow_mul-result : goal.overflow_mul-result
overflow_mul-result c = omega (arith, row_at c.args.k (omega arith))

pub overflow_mul-result-2 : goal.overflow_mul-result-2
overflow_mul-result-2 c = omega (arith, row_at c.args.k (omega arith))

pub overflow_add-result : goal.overflow_add-result
overflow_add-result c = omega (arith, row_at c.args.k (omega arith))
