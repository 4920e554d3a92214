use Rattle.std.proofs.Common.{refl, sym, ◌∙◌, arith}
use Rattle.request.proofs.Reading.{reading_none, read_out, read_empty, read_bad, read_grow, read_next, read_last}
use Rattle.request.proofs.read_line.Goals as goal
use Rattle.request.proofs.read_line.Goals.{then-is_end+in_ok-last+else-b-eq10, else-is_end+in_ok-grown}

pub loop-at-init : goal.loop-at-init
loop-at-init c = reading_none _ _ _ refl

pub returns-in_err-last : goal.returns-in_err-last
returns-in_err-last c =
    c.from_residual.ensures
    ∙ read_empty c.loop-at.invariant (omega arith) _ refl (sym c.is_end.ensures ∙ c.if-is_end.true) c.in_err-last.was

pub returns-then-b-eq10 : goal.returns-then-b-eq10
returns-then-b-eq10 c =
    read_last c.loop-at.invariant (omega arith) _ c.min.result c.in_ok-last.was c.min.ensures (omega arith) _ refl c.if-b-eq10.true

pub returns-in_err-grown : goal.returns-in_err-grown
returns-in_err-grown c =
    c.from_residual-in_err-grown.ensures
    ∙ read_bad c.loop-at.invariant (omega arith) _ refl (sym c.is_end.ensures ∙ c.if-is_end.false) (sym c.in_err-grown.ensures)

pub loop-at-preserved : goal.loop-at-preserved
loop-at-preserved c =
    let l = c.loop-at in
    elim c.if-is_end.branch [
      | then-is_end+in_ok-last+else-b-eq10 w ↦
          rw (w.upper-is, w.parts-is, w.number-is)
          (read_next l.invariant (omega arith) _ w.min.result w.in_ok-last.was w.min.ensures (omega arith) _ refl
          (sym c.is_end.ensures ∙ w.if-is_end.true) w.if-b-eq10.false)
      | else-is_end+in_ok-grown w ↦
          rw (w.upper-is, w.parts-is, w.number-is)
          (read_grow l.invariant (omega arith) _ _ refl (sym c.is_end.ensures ∙ w.if-is_end.false) (sym w.in_ok-grown.ensures))
    ]

pub returns : goal.returns
returns c = read_out c.loop-at.invariant (omega arith)
