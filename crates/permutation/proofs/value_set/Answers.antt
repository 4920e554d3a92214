use Rattle.std.proofs.Common.{arith, ◌%◌, get_or}
use Rattle.std.proofs.lemmas.Nat.{one_shl}
use native.Mathlib.Nat.{mod-lt}
use Rattle.permutation.proofs.Sets.{collected_none}
use Rattle.permutation.proofs.Turns.{collected_turn}
use Rattle.permutation.proofs.value_set.Goals as goal

pub loop-entry-init : goal.loop-entry-init
loop-entry-init c = collected_none

pub loop-entry-preserved : goal.loop-entry-preserved
loop-entry-preserved c =
    let p = c.args.p.now in
    let l = c.loop-entry in
    rw (c.from-v.ensures, one_shl (get_or p l.entry-index 0 % 32) 32 (mod-lt _ (omega arith)))
    (collected_turn p l.entry-index _ _ c.loop-entry-test.true l.invariant)
