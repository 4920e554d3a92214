use Rattle.std.proofs.Common.{refl, arith}
use Rattle.places.proofs.Turns.{within_turn, left_turn, other_over, other_sum, other_end}
use Rattle.places.proofs.is_other.Goals.{then-upper-i-via-then-upper-i, then-upper-i-via-else-upper-i+then-left-v}
use Rattle.places.proofs.is_other.Goals as goal

pub returns-then-upper-i : goal.returns-then-upper-i
returns-then-upper-i c =
    let l = c.loop-i in
    let ms = c.args.upper.now in
    let r = c.args.total in
    let g = c.args.g.now in
    elim c.then-upper-i.branch [
      | then-upper-i-via-then-upper-i w ↦ other_over ms r g l.i (omega arith) refl refl w.if-upper-i.true
      | then-upper-i-via-else-upper-i+then-left-v w ↦ other_sum ms r g l.i c.loop-i-test.true c.from-v.ensures l.left w.if-left-v.true l.invariant.left
    ]

pub loop-i-preserved : goal.loop-i-preserved
loop-i-preserved c = let l = c.loop-i in let a = c.args in record {
  within = within_turn a.upper.now a.total a.g.now l.i refl c.from-v.ensures (omega (arith, c.from-v.ensures)) l.invariant.within;
  left = left_turn a.upper.now a.total a.g.now l.i c.from-v.ensures l.left c.if-left-v.false l.invariant.left;
}

pub returns : goal.returns
returns c = let l = c.loop-i in let a = c.args in
    other_end a.upper.now a.total a.g.now l.i c.requires (omega arith) l.invariant.within l.left l.invariant.left
