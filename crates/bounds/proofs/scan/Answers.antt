use Rattle.std.proofs.Common.{◌≡◌, ◌+◌, sym, ◌∙◌, arith}
use borrow.Author.Tests.{lt-ltb, le-ltb}
use Rattle.walsh.proofs.Lists.{sum_to_step}
use Rattle.bounds.specs.Refusal.{first_refusal}
use Rattle.bounds.specs.Edition.{first_outside}
use Rattle.bounds.proofs.Editions.{first_here, first_next, first_none}
use Rattle.bounds.proofs.scan.Goals as goal

pub returns-then-bound-gt-MOST_BOUND-clause-refusal :
    goal.returns-then-bound-gt-MOST_BOUND-clause-refusal
unfolding first_refusal
returns-then-bound-gt-MOST_BOUND-clause-refusal c =
    let l = c.loop-i in
    let ms = c.args.upper.now in
    let here : first_outside ms 0 ≡ l.i + 1 =
    sym l.invariant.passed ∙ first_here ms l.i c.loop-i-test.true (lt-ltb _ _ c.if-bound-gt-MOST_BOUND.true) in
    simp (here, lt-ltb 0 (l.i + 1) (omega arith))

pub loop-i-preserved : goal.loop-i-preserved
loop-i-preserved c =
    let l = c.loop-i in
    let ms = c.args.upper.now in record {
      passed = sym (first_next ms l.i c.loop-i-test.true (le-ltb _ _ c.if-bound-gt-MOST_BOUND.false)) ∙ l.invariant.passed;
      sum = omega (arith, sum_to_step ms l.i, c.from-m.ensures);
      small = omega (arith, c.from-m.ensures);
    }

pub returns-clause-refusal : goal.returns-clause-refusal
unfolding first_refusal
returns-clause-refusal c =
    let l = c.loop-i in
    let ms = c.args.upper.now in
    let none : first_outside ms 0 ≡ 0 = sym l.invariant.passed ∙ first_none ms l.i c.loop-i-test.false in
    simp none
