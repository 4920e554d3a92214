use Rattle.std.proofs.Common.{◌≡◌, ◌+◌, ◌-◌, ◌≤◌, refl, sym, ◌∙◌, arith}
use Rattle.walsh.specs.Step.{part_first}
use Rattle.step.proofs.Others.{sum_below, sum_one, Small, first_small, first_at, other_here, other_next, other_last}
use Rattle.step.proofs.other_part.Goals as goal
use Rattle.step.proofs.other_part.Goals.{After-first_value-v, After-from-m}

pub loop-i-init : goal.loop-i-init
loop-i-init c = let p = c.requires in record {
  some = p.some;
  within = omega arith;
  under = p.left.0;
  small = p.left.1;
  fits = p.room;
  total = refl;
  other = refl;
}

-- the bound is within the sum of the bounds that are left
bound_at : (c : After-from-m) → c.from-m.result ≤ c.loop-i.under
bound_at c = let l = c.loop-i in omega (arith, sum_below c.args.upper.now l.i l.invariant.some, c.from-m.ensures, l.invariant.under)

-- the first value of the part: what it is, and what it leaves
module _ (c : After-first_value-v) where
  small : Small c.loop-i.under c.from-m.result c.loop-i.rem c.first_value-v.result
  small =
      first_small c.loop-i.under c.from-m.result c.loop-i.rem c.saturating_sub.result c.min.result c.first_value-v.result c.is_odd.result
      (bound_at (goal.at.After-first_value-v c).After-from-m) c.loop-i.invariant.fits
      c.saturating_sub.ensures c.min.ensures c.first_value-v.ensures

  value : c.first_value-v.result ≡ part_first c.args.upper.now (c.loop-i.i - 1) c.loop-i.rem c.loop-i.t
  value =
      first_at c.args.upper.now c.args.parts.now c.loop-i.i c.loop-i.under c.from-m.result c.loop-i.rem c.loop-i.t
      c.saturating_sub.result c.min.result c.first_value-v.result c.is_odd.result
      c.loop-i.invariant.some c.loop-i.invariant.under c.from-m.ensures c.saturating_sub.ensures c.min.ensures c.is_odd.ensures c.first_value-v.ensures

pub returns-then-v-from : goal.returns-then-v-from
returns-then-v-from c =
    let l = c.loop-i in
    let i = l.invariant in
    let a = c.args in
    let f = (goal.at.returns-then-v-from c).After-first_value-v in
    let part : l.i - 1 + 1 ≡ l.i = omega arith in
    record {
      is =
          rw part
          (other_here a.upper.now a.parts.now l.i l.rem l.t c.first_value-v.result (omega arith) (value f)
          (λ e. c.if-v-from.true (e ∙ sym c.from.ensures)))
          ∙ i.other;
      part = (omega arith, omega (arith, i.within));
      value = omega (arith, small f, c.from-m.ensures, c.type_inv.upper (l.i - 1));
    }

pub loop-i-preserved : goal.loop-i-preserved
loop-i-preserved c =
    let l = c.loop-i in
    let i = l.invariant in
    let a = c.args in
    let f = (goal.at.loop-i-preserved c).After-first_value-v in
    let below = sum_below a.upper.now l.i i.some in record {
      some = omega arith;
      within = omega (arith, i.within);
      under = omega (arith, below, c.from-m.ensures, i.under);
      small = omega (arith, i.small);
      fits = (small f).fits;
      total = omega (arith, small f, i.total);
      other = other_next a.upper.now a.parts.now l.i l.rem l.t c.first_value-v.result (omega arith) (value f) (c.if-v-from.false ∙ c.from.ensures) ∙ i.other;
    }

pub returns : goal.returns
returns c =
    let l = c.loop-i in
    let i = l.invariant in
    let a = c.args in
    let one : l.i ≡ 1 = omega (arith, i.some) in
    record {
      is = other_last a.upper.now a.parts.now l.i l.rem l.t one ∙ i.other;
      part = (omega arith, c.requires.some);
      value = omega (arith, sum_one a.upper.now l.i one, i.under, i.fits, c.type_inv.upper 0);
    }
