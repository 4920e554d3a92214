-- `major::left::Left::all` meets its contract.
use Rattle.major.proofs.Words.{holds_all}
use Rattle.major.proofs.left.Left.all.Goals as goal

pub returns : goal.returns
returns c = holds_all
