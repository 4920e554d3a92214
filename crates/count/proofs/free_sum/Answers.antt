-- `count::free_sum` meets its contract.
use native.Mathlib.Omega.{arith}
use Rattle.count.proofs.Cheap.{free_product, free_up_to}
use Rattle.count.proofs.free_sum.Goals as goal

pub returns : goal.returns
returns c ms k l = free_up_to ms c.args.n _ k (omega arith) c.requires l

pub overflow_mul-result : goal.overflow_mul-result
overflow_mul-result c = omega (arith, free_product c.args.n c.requires)

pub overflow_sub-result-2 : goal.overflow_sub-result-2
overflow_sub-result-2 c = omega (arith, free_product c.args.n c.requires)
