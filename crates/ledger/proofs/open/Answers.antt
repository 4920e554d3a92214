-- `ledger::open` meets its contract.
use Rattle.std.proofs.Common.{ap, ◌∙◌, arith}
use Rattle.bounds.proofs.Reasons.{passed_as}
use Rattle.model.specs.Results.{opened_of}
use Rattle.ledger.proofs.Openings.{opening_edition, opening_many, opening_short, opening_good}
use Rattle.ledger.proofs.open.Goals as goal

pub returns-in_err-first : goal.returns-in_err-first
returns-in_err-first c =
    ap opened_of (passed_as _ _ c.from_residual.ensures.1) ∙ opening_edition _ _ c.in_err-first.field-0.0 c.in_err-first.ensures.refusal

pub returns-then-first-gt-MOST_ENTRIES : goal.returns-then-first-gt-MOST_ENTRIES
returns-then-first-gt-MOST_ENTRIES c =
    let e = c.in_ok-first.ensures in
    opening_many _ _ e.refusal e.located c.if-first-gt-MOST_ENTRIES.true

pub returns-then-min-first : goal.returns-then-min-first
returns-then-min-first c =
    let e = c.in_ok-first.ensures in
    opening_short _ _ e.refusal e.located c.if-first-gt-MOST_ENTRIES.false (omega (arith, c.min.ensures, c.if-min-first.true))

pub returns : goal.returns
returns c =
    let e = c.in_ok-first.ensures in
    opening_good _ _ e.refusal e.located c.if-first-gt-MOST_ENTRIES.false _ (omega (arith, c.min.ensures, c.if-min-first.false)) c.«record».ensures
