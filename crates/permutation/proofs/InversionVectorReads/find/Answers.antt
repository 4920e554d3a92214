use Rattle.std.proofs.Common.{refl, ◌-◌, get_or}
use Rattle.std.proofs.lemmas.Nat.{one_shl}
use lib.Pow.{pow_pos}
use Rattle.permutation.proofs.Turns.{found_start, found_turn, found_vector, found_sum, entry_small}
use Rattle.permutation.proofs.InversionVectorReads.find.Goals as goal

pub loop-i-init : goal.loop-i-init
loop-i-init c = found_start c.args.p.now c.requires.few c.args.cells.now c.requires.room

pub overflow_shl-here : goal.overflow_shl-here
overflow_shl-here c = entry_small c.args.p.now c.requires.few c.requires.sheets c.loop-i.invariant c.loop-i-test.true _ refl

pub nonzero_rem-smaller : goal.nonzero_rem-smaller
nonzero_rem-smaller c =
    let x = get_or c.args.p.now (c.loop-i.i - 1) 0 in
    let small = entry_small c.args.p.now c.requires.few c.requires.sheets c.loop-i.invariant c.loop-i-test.true _ refl in
    rw (one_shl x 32 small) (pow_pos x)

pub loop-i-preserved : goal.loop-i-preserved
loop-i-preserved c =
    let p = c.args.p.now in
    let small = entry_small p c.requires.few c.requires.sheets c.loop-i.invariant c.loop-i-test.true _ refl in
    rw (one_shl (get_or p (c.loop-i.i - 1) 0) 32 small)
    (found_turn p c.requires.few c.requires.sheets c.loop-i.invariant c.loop-i-test.true _ refl _ refl)

pub returns-clause-parts : goal.returns-clause-parts
returns-clause-parts c = found_vector c.args.p.now c.requires.few c.loop-i.invariant c.loop-i-test.false

pub returns-clause-total : goal.returns-clause-total
returns-clause-total c = found_sum c.args.p.now c.requires.few c.loop-i.invariant c.loop-i-test.false
