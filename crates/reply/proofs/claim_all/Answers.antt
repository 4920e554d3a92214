-- `reply::claim_all` meets its contract.
use Rattle.std.proofs.Common.{◌≡◌, ℕ, Some, true, cond, sym, ap, ◌∙◌, arith}
use mathlib.Core.Logic.{inl, inr}
use borrow.Author.Tests.{eqb-true, eqb-false}
use Rattle.walsh.proofs.Cases.{on_test}
use Rattle.bounds.specs.Reason.{coded}
use Rattle.bounds.specs.Refusal.{refused}
use Rattle.bounds.specs.declared.Reason.{Reason}
use Rattle.bounds.specs.declared.Refusal.{Refusal}
use Rattle.model.specs.declared.Ledger.{Ledger}
use Rattle.model.specs.Entry.{Lent, columns}
use Rattle.model.specs.Model.{Call, bad_bundle, refused_with}
use Rattle.model.specs.Record.{consistent, answered}
use Rattle.model.proofs.Records.{answered_16, answered_by}
use Rattle.model.proofs.Calls.{size_good, size_uneven, size_wrong}
use Rattle.model.proofs.Bundles.{size_bad}
use Rattle.integrity.specs.Examine.{met_by}
use Rattle.integrity.proofs.Checks.{met_some, met_none}
use Rattle.reply.proofs.Exits.{nothing_for, passed_answer}
use Rattle.reply.proofs.claim_all.Goals as goal
use Rattle.reply.proofs.claim_all.Goals.{In_ok-met}
use Rattle.reply.proofs.claim_all.Goals.{then-itemlines-bundle-via-then-itemlines-bundle, then-itemlines-bundle-via-else-itemlines-bundle+then-is_empty, then-itemlines-bundle-via-else-itemlines-bundle+else-is_empty+then-bundle-gt-MOST_ORDERS}

-- a bundle of none or of too many, or with another number of item lines
badly_sized : (r : Ledger) (col : Lent) (s : ℕ) (b : Lent) (v : Refusal) → (bad_bundle b).holds ≡ true
    → v ≡ cond (consistent r col) (refused 24 0) (refused 16 0)
    → refused_with v.number v.detail ≡ answered r col (Call.claim_all s b)
badly_sized r col s b v bad e =
    on_test (consistent r col)
    (λ t. ap (λ (w : Refusal). refused_with w.number w.detail) (rw t at e) ∙ sym (answered_by r col (Call.claim_all s b) t ∙ size_bad _ _ s b bad))
    (λ f. ap (λ (w : Refusal). refused_with w.number w.detail) (rw f at e) ∙ sym (answered_16 r col (Call.claim_all s b) f))

pub returns-then-itemlines-bundle : goal.returns-then-itemlines-bundle
returns-then-itemlines-bundle c =
    let b = columns c.args.bundle.now c.args.itemlines.now in
    let bad : (bad_bundle b).holds ≡ true = elim c.then-itemlines-bundle.branch [
      | then-itemlines-bundle-via-then-itemlines-bundle w ↦ size_uneven b w.if-itemlines-bundle.true
      | then-itemlines-bundle-via-else-itemlines-bundle+then-is_empty w ↦
          size_wrong b (inl (omega (arith, eqb-true _ 0 (sym w.is_empty.ensures ∙ w.if-is_empty.true))))
      | then-itemlines-bundle-via-else-itemlines-bundle+else-is_empty+then-bundle-gt-MOST_ORDERS w ↦
          size_wrong b (inr (omega (arith, w.if-bundle-gt-MOST_ORDERS.true, w.if-itemlines-bundle.false)))
    ] in
    badly_sized c.args.ledger _ c.args.serial b _ bad c.missized.ensures

-- where the record and the columns belong together
met : (c : In_ok-met) → let r = c.args.ledger in
    let col = columns c.args.orders.now c.args.items.now in
    Some c.in_ok-met.met ≡ met_by (consistent r col) r col (columns c.args.bundle.now c.args.itemlines.now)
met c = sym c.in_ok-met.ensures.ok_part ∙ c.examine_all.ensures

fits : (c : In_ok-met) → consistent c.args.ledger (columns c.args.orders.now c.args.items.now) ≡ true
fits c = (met_some _ _ _ (met c)).0

pub returns-in_err-met : goal.returns-in_err-met
returns-in_err-met c =
    let n = nothing_for c.in_err-met.ensures.value in
    let apart = met_none _ _ (columns c.args.bundle.now c.args.itemlines.now) (n.0 ∙ c.examine_all.ensures) in
    passed_answer _ _ c.from_residual.ensures.1
    ∙ ap (λ (e : Reason). refused_with (coded e).number (coded e).detail) n.1
    ∙ sym (answered_16 _ _ _ apart)

pub takes-requires : goal.takes-requires
takes-requires c =
    let b = columns c.args.bundle.now c.args.itemlines.now in
    let even = c.if-itemlines-bundle.false in
    let m = (goal.at.takes-requires c).In_ok-met in
    let some = eqb-false _ 0 (sym c.is_empty.ensures ∙ c.if-is_empty.false) in
    (fits m, size_good b even (λ z. some (omega (arith, z, even))) (omega (arith, c.if-bundle-gt-MOST_ORDERS.false, even)), rw (fits m) at (met m))

pub returns : goal.returns
returns c = c.takes.ensures ∙ sym (answered_by _ _ _ (fits (goal.at.returns c).In_ok-met))
