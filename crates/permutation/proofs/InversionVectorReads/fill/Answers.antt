use Rattle.std.proofs.Common.{arith, ◌+◌, ◌-◌, get_or}
use Rattle.permutation.proofs.Entries.{filled_turn, filled_end, lift_bound, part_le}
use Rattle.permutation.proofs.InversionVectorReads.fill.Goals as goal

pub lift_both-first-requires : goal.lift_both-first-requires
lift_both-first-requires c =
    let g = c.args.g.now in
    let i = c.loop-i.i - 2 in
    let small = part_le g c.requires.parts in
    let lifted = lift_bound (get_or g i 0) c.own-in-loop-i.result in
    (omega arith, omega (arith, small i), omega (arith, small i, small (i + 1), lifted))

pub loop-i-preserved : goal.loop-i-preserved
loop-i-preserved c =
    let g = c.args.g.now in
    let own = c.own-in-loop-i.ensures in
    let both = c.lift_both-first.ensures in
    filled_turn g c.loop-i.invariant _ _ _ (omega arith) (omega arith) both.0 (rw (c.lifted-next.ensures, own) at both.1)

pub returns : goal.returns
returns c = filled_end _ c.loop-i.invariant (omega arith)
