-- `band::find::in_largest` meets its contract. No band is larger than the last array.
use Rattle.std.proofs.Common.{lit≤}
use Rattle.band.proofs.Finds.{sized_most}
use Rattle.band.proofs.find.in_largest.Goals as goal

pub find_with-requires-in_default : goal.find_with-requires-in_default
find_with-requires-in_default g c = (sized_most c.args.shape.sized, lit≤ tt, c.requires)
