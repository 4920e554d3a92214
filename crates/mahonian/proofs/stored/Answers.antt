-- `mahonian::stored` meets its contract: the constant is the list `table`.
use Rattle.std.proofs.Common.{refl}
use Rattle.mahonian.specs.Table.{table}
use Rattle.mahonian.proofs.stored.Goals as goal

pub returns : goal.returns
unfolding table
returns c = refl
