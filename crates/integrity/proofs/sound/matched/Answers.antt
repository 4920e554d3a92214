use mir.Val.{bool_byte}
use mathlib.Core.Bool.{beq}
use Rattle.std.proofs.Common.{ℕ, eqb, not, get_or, ap, ◌∙◌, arith}
use Rattle.model.specs.Entry.{void_entry, is_unmatched}
use Rattle.integrity.specs.Lines.{lines_in}
use Rattle.integrity.proofs.Pairs.{pairs_length}
use Rattle.integrity.proofs.Places.{many_more, many_all, byte_most}
use Rattle.integrity.proofs.Ranges.{unmatched_line}
use Rattle.integrity.proofs.sound.matched.Goals as goal

pub loop-k-preserved : goal.loop-k-preserved
loop-k-preserved c =
    let at = c.loop-k in
    let a = c.args.lines in
    let n = pairs_length a.orders.now a.items.now a.paired in
    let test = unmatched_line a.orders.now a.items.now a.paired at.k c.loop-k-test.true in (
      many_more is_unmatched (lines_in a) at.k void_entry (omega (arith, n, c.loop-k-test.true)) at.invariant.0 (c.from-others.ensures ∙ ap bool_byte test),
      omega (arith, at.invariant.1, c.from-others.ensures, byte_most (not (beq (eqb (get_or a.orders.now at.k 0) 0) (eqb (get_or a.items.now at.k 0) 0)))),
    )

pub returns : goal.returns
returns c =
    let a = c.args.lines in
    let n = pairs_length a.orders.now a.items.now a.paired in
    ap (λ (k : ℕ). eqb k 0) (many_all is_unmatched (lines_in a) c.loop-k.k _ (omega (arith, n, c.loop-k-test.false)) c.loop-k.invariant.0)
