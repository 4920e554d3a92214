use Rattle.std.proofs.Common.{◌∙◌, ◌-◌, arith, get_or}
use Rattle.permutation.proofs.Entries.{lift_bound, lifts_back}
use Rattle.permutation.proofs.lift_both.Goals as goal

pub loop-j-preserved : goal.loop-j-preserved
loop-j-preserved c =
    let l = c.loop-j in
    let inv = l.invariant in
    let g = c.args.g.now in
    let part = get_or g (l.j - 1) 0 in (
      omega arith,
      omega (arith, c.lifted-first.ensures, lift_bound part l.first, inv.1),
      omega (arith, c.lifted-second.ensures, lift_bound part l.second, inv.2),
      rw c.lifted-first.ensures (lifts_back g l.j l.first c.loop-j-test.true ∙ inv.3),
      rw c.lifted-second.ensures (lifts_back g l.j l.second c.loop-j-test.true ∙ inv.4),
    )
