use Rattle.std.proofs.Common.{◌≡◌, ◌∙◌, arith}
use Rattle.walsh.specs.Sums.{sum_to}
use Rattle.walsh.proofs.Lists.{sum_to_step}
use Rattle.step.proofs.batch.next_left.Goals as goal

pub returns-then-upper-j-gt0 : goal.returns-then-upper-j-gt0
returns-then-upper-j-gt0 c =
    let l = c.loop-j in
    record { from = l.auto.j; passed = l.invariant.passed; left = λ h. c.if-upper-j-gt0.true; end = λ h. omega arith }

pub loop-j-preserved : goal.loop-j-preserved
loop-j-preserved c =
    let l = c.loop-j in
    let ms = c.args.upper.now in
    record {
      passed = sum_to_step ms l.j ∙ omega (arith, l.invariant.passed, c.if-upper-j-gt0.false);
      end = omega arith;
    }

pub returns : goal.returns
returns c =
    let l = c.loop-j in
    let ms = c.args.upper.now in
    let j : l.j ≡ c.max.result = omega (arith, c.max.ensures, l.auto.j, l.invariant.end) in
    let passed : sum_to ms c.max.result ≡ sum_to ms c.args.i = rw j at l.invariant.passed in
    record {
      from = omega (arith, c.max.ensures);
      passed = passed;
      left = λ h. absurd (omega (arith, c.max.ensures, h));
      end = λ h. omega (arith, c.max.ensures);
    }
