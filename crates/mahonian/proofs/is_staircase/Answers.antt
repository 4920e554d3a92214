use Rattle.std.proofs.Common.{sym, ◌∙◌}
use Rattle.mahonian.proofs.Staircase.{staircase_next, staircase_not, staircase_end}
use Rattle.mahonian.proofs.is_staircase.Goals as goal

pub returns-then-from-upper : goal.returns-then-from-upper
returns-then-from-upper c =
    let l = c.loop-i in
    let ms = c.args.upper.now in
    sym (sym l.invariant ∙ staircase_not ms l.i c.loop-i-test.true (λ e. c.if-from-upper.true (c.from.ensures ∙ e)))

pub loop-i-preserved : goal.loop-i-preserved
loop-i-preserved c =
    let l = c.loop-i in
    let ms = c.args.upper.now in
    sym (staircase_next ms l.i c.loop-i-test.true (sym c.from.ensures ∙ c.if-from-upper.false)) ∙ l.invariant

pub returns : goal.returns
returns c =
    let l = c.loop-i in
    sym (sym l.invariant ∙ staircase_end c.args.upper.now l.i c.loop-i-test.false)
