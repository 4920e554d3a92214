-- `listing::put::put_four` meets its contract.
use Rattle.listing.proofs.Laid.{laid_four}
use Rattle.listing.proofs.put.put_four.Goals as goal

pub returns : goal.returns
returns c = let a = c.args in laid_four a.g.now a.out.now a.i
