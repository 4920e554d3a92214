-- `reply::void` meets its contract.
use Rattle.std.proofs.Common.{sym, ap, ◌∙◌}
use Rattle.bounds.specs.Reason.{coded}
use Rattle.bounds.specs.declared.Reason.{Reason}
use Rattle.model.specs.Model.{refused_with}
use Rattle.model.proofs.Records.{answered_16, answered_by}
use Rattle.integrity.proofs.Checks.{seen_some, seen_none}
use Rattle.reply.proofs.Exits.{nothing_for, passed_answer}
use Rattle.reply.proofs.void.Goals as goal

pub returns-in_err-count : goal.returns-in_err-count
returns-in_err-count c =
    let n = nothing_for c.in_err-count.ensures.value in
    passed_answer _ _ c.from_residual.ensures.1
    ∙ ap (λ (e : Reason). refused_with (coded e).number (coded e).detail) n.1
    ∙ sym (answered_16 _ _ _ (seen_none _ (n.0 ∙ c.examine.ensures)))

pub place-requires : goal.place-requires
place-requires c = seen_some _ (sym c.in_ok-count.ensures.ok_part ∙ c.examine.ensures)

pub returns : goal.returns
returns c = c.place.ensures ∙ sym (answered_by _ _ _ (seen_some _ (sym c.in_ok-count.ensures.ok_part ∙ c.examine.ensures)).0)
