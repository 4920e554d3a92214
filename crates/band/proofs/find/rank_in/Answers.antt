-- `band::find::rank_in` meets its contract.
use Rattle.std.proofs.Common.{◌<◌, arith}
use Rattle.band.specs.Band.{cap}
use Rattle.band.proofs.Parts.{rank_small}
use Rattle.band.proofs.Finds.{place_found}
use Rattle.band.proofs.find.rank_in.Goals as goal

pub overflow_add-result : goal.overflow_add-result
overflow_add-result c =
    let t = c.args.table in
    let small = rank_small _ _ t.last _ t.filled _ c.requires.1.parts in
    let l : c.place-before.result < cap = rw c.place-before.ensures small in
    omega arith

pub returns : goal.returns
returns c = place_found _ _ _ c.args.count c.place-before.result c.requires.0 c.requires.1 c.place-before.ensures
