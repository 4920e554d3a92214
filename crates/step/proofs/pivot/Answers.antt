use Rattle.std.proofs.Common.{◌≡◌, suc, ◌-◌, ◌<◌, length, sym, ◌∙◌, arith}
use Rattle.walsh.specs.Sums.{sum_to}
use Rattle.walsh.proofs.Lists.{sum_to_step}
use Rattle.step.specs.Advance.{can_move}
use Rattle.step.proofs.Pivots.{moving_stop, moving_on, moving_end, can_here}
use Rattle.step.proofs.pivot.Goals as goal
use Rattle.step.proofs.pivot.Goals.{After-moves}

pub loop-i-init : goal.loop-i-init
loop-i-init c = let b = c.requires.2 in record {
  some = b.some;
  within = b.within;
  left = b.left;
  sum = b.sum;
  small_left = b.small.0;
  small_sum = b.small.1;
  passed = b.passed;
}

-- what the calls of a turn answer is whether the part can move
here : (c : After-moves) → let a = c.args in c.moves.result ≡ can_move a.upper.now a.total a.parts.now c.loop-i.i
here c =
    let a = c.args in
    let l = c.loop-i in
    can_here a.upper.now a.total a.parts.now l.i l.left l.sum c.from-m.result c.from-v.result c.saturating_sub-right.result
    c.is_odd-falling.result c.moves.result l.invariant.left l.invariant.sum c.from-m.ensures c.from-v.ensures
    c.saturating_sub-right.ensures c.is_odd-falling.ensures c.moves.ensures

pub returns-then-moves : goal.returns-then-moves
returns-then-moves c =
    let a = c.args in
    let l = c.loop-i in
    let i = l.invariant in
    let inside : l.i < length a.upper.now = omega (arith, c.requires.1) in
    let right : c.saturating_sub-right.result ≡ a.total - sum_to a.parts.now (suc l.i) =
    c.saturating_sub-right.ensures ∙ omega (arith, c.from-v.ensures, i.sum) in
    record {
      first = moving_stop _ _ _ l.i inside (sym (here (goal.at.returns-then-moves c).After-moves) ∙ c.if-moves.true) ∙ i.passed;
      inside = inside;
      left = i.left;
      small = i.small_left;
      sum = omega (arith, c.from-v.ensures, i.sum);
      right = right;
      way = c.is_odd-falling.ensures ∙ rw right;
    }

pub loop-i-preserved : goal.loop-i-preserved
loop-i-preserved c =
    let ms = c.args.upper.now in
    let g = c.args.parts.now in
    let l = c.loop-i in
    let i = l.invariant in
    let inside : l.i < length ms = omega (arith, c.requires.1) in record {
      some = omega arith;
      within = omega arith;
      left = omega (arith, sum_to_step ms l.i, c.from-m.ensures, i.left);
      sum = omega (arith, sum_to_step g l.i, c.from-v.ensures, i.sum);
      small_left = omega (arith, c.from-m.ensures, i.small_left, c.type_inv.upper l.i);
      small_sum = omega (arith, c.from-v.ensures, i.small_sum, c.type_inv.parts l.i);
      passed = moving_on ms c.args.total g l.i inside (sym (here (goal.at.loop-i-preserved c).After-moves) ∙ c.if-moves.false) ∙ i.passed;
    }

pub returns : goal.returns
returns c =
    let l = c.loop-i in
    let end = moving_end _ _ _ l.i (omega (arith, c.requires.1)) ∙ l.invariant.passed in
    omega (arith, end, c.requires.1)
