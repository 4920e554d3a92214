-- `reply::check_order` meets its contract.
use mathlib.Core.Path.{refl, sym, ◌∙◌}
use mathlib.Core.Logic.{inl, inr}
use borrow.Author.Tests.{eqb-true, eqb-false}
use Rattle.digits.specs.Digits.{Passes}
use Rattle.bounds.proofs.Refusals.{refusal_none}
use Rattle.model.proofs.Answers.{order_none, order_mistyped, order_bad, order_good}
use Rattle.model.specs.Entry.{entry}
use Rattle.model.specs.Model.{order_checks}
use Rattle.reply.proofs.check_order.Goals as goal
use Rattle.reply.proofs.check_order.Goals.{Else-not-passes, then-item-eq0-via-then-item-eq0, then-item-eq0-via-else-item-eq0+then-item-gt-MOST_ITEM}

-- what is known behind the checks of 17 and 26
sound : (c : Else-not-passes) → Passes c.args.order
sound c = eqb-true _ 0 (sym c.passes.ensures ∙ c.if-not-passes.false)

pub returns-then-order-eq0 : goal.returns-then-order-eq0
returns-then-order-eq0 c = sym (order_none (entry c.args.order c.args.item) c.if-order-eq0.true)

pub returns-then-not-passes : goal.returns-then-not-passes
returns-then-not-passes c =
    sym (order_mistyped (entry c.args.order c.args.item) c.if-order-eq0.false (eqb-false _ 0 (sym c.passes.ensures ∙ c.if-not-passes.true)))

pub returns-then-item-eq0 : goal.returns-then-item-eq0
returns-then-item-eq0 c =
    let bad = order_bad (entry c.args.order c.args.item) c.if-order-eq0.false (sound (goal.at.returns-then-item-eq0 c).Else-not-passes) in
    elim c.then-item-eq0.branch [
      | then-item-eq0-via-then-item-eq0 w ↦ sym (bad (inl w.if-item-eq0.true))
      | then-item-eq0-via-else-item-eq0+then-item-gt-MOST_ITEM w ↦ sym (bad (inr w.if-item-gt-MOST_ITEM.true))
    ]

pub returns : goal.returns
returns c =
    let e = entry c.args.order c.args.item in
    sym (refusal_none (order_checks e) refl
    (order_good e (c.if-order-eq0.false, sound (goal.at.returns c).Else-not-passes, c.if-item-eq0.false, c.if-item-gt-MOST_ITEM.false)))
