-- `reply::claim` meets its contract.
use Rattle.std.proofs.Common.{◌≡◌, ℕ, ◌+◌, true, sym, ap, ◌∙◌, arith}
use Rattle.bounds.specs.Reason.{coded}
use Rattle.bounds.specs.declared.Reason.{Reason}
use Rattle.bounds.proofs.Reasons.{accepted}
use Rattle.bounds.proofs.Chains.{Accepts}
use Rattle.model.specs.declared.Answer.{Answer}
use Rattle.model.specs.Entry.{entry, columns}
use Rattle.model.specs.Model.{order_checks, refused_with}
use Rattle.model.specs.Printing.{size}
use Rattle.model.specs.Record.{printing_of, consistent, written}
use Rattle.model.proofs.Records.{parts, answered_16, answered_by}
use Rattle.model.proofs.Answers.{claim_none, claim_refused, claim_again, claim_good}
use Rattle.integrity.specs.Lines.{stands_at}
use Rattle.integrity.proofs.Checks.{found_some, found_none}
use Rattle.integrity.proofs.Passes.{at_some, at_none}
use Rattle.reply.proofs.Exits.{nothing_for, passed_answer, some_number}
use Rattle.reply.proofs.claim.Goals as goal
use Rattle.reply.proofs.claim.Goals.{In_ok-found, In_ok-check_order}

-- N, and where the order stands
found : (c : In_ok-found) → let r = c.args.ledger in
    let col = columns c.args.orders.now c.args.items.now in
    (consistent r col ≡ true) × (c.in_ok-found.found.count ≡ size (printing_of r))
    × (c.in_ok-found.found.place ≡ stands_at (entry c.args.order c.args.item) (written r col))
found c =
    found_some c.args.ledger (columns c.args.orders.now c.args.items.now) (entry c.args.order c.args.item)
    (sym c.in_ok-found.ensures.ok_part ∙ c.examine_for.ensures)

pub returns-in_err-found : goal.returns-in_err-found
returns-in_err-found c =
    let n = nothing_for c.in_err-found.ensures.value in
    let apart = found_none _ _ (entry c.args.order c.args.item) (n.0 ∙ c.examine_for.ensures) in
    passed_answer _ _ c.from_residual.ensures.1
    ∙ ap (λ (e : Reason). refused_with (coded e).number (coded e).detail) n.1
    ∙ sym (answered_16 _ _ _ apart)

pub returns-in_err-check_order : goal.returns-in_err-check_order
returns-in_err-check_order c =
    let e = c.in_err-check_order.field-0.0 in
    passed_answer _ _ c.from_residual-in_err-check_order.ensures.1
    ∙ sym (answered_by _ _ _ (found (goal.at.returns-in_err-check_order c).In_ok-found).0
    ∙ claim_none _ _ _ _ _ _ (some_number e) (sym c.in_err-check_order.ensures))

pub place-requires : goal.place-requires
place-requires c = let f = found (goal.at.place-requires c).In_ok-found in (f.0, f.1)

-- the order's own checks accept it
ordered : (c : In_ok-check_order) → Accepts (order_checks (entry c.args.order c.args.item))
ordered c = accepted _ c.in_ok-check_order.ensures

pub returns-in_err-line : goal.returns-in_err-line
returns-in_err-line c =
    let e = c.in_err-line.field-0.0 in
    let p = c.in_err-line.ensures in
    passed_answer _ _ c.from_residual-in_err-line.ensures.1 ∙ p
    ∙ sym (answered_by _ _ _ (found (goal.at.returns-in_err-line c).In_ok-found).0
    ∙ claim_refused _ _ _ _ (ordered (goal.at.returns-in_err-line c).In_ok-check_order) (λ z. some_number e (ap (λ (x : Answer). x.number) p ∙ z)))

pub returns-in-Some : goal.returns-in-Some
returns-in-Some c =
    let f = found (goal.at.returns-in-Some c).In_ok-found in
    let at = at_some (entry c.args.order c.args.item) _ (sym c.in-Some.is ∙ f.2) in
    ap (λ (k : ℕ). refused_with 20 (k + 1)) (sym at.0)
    ∙ sym (answered_by _ _ _ f.0
    ∙ claim_again _ _ _ _ (ordered (goal.at.returns-in-Some c).In_ok-check_order) (ap (λ (x : Answer). x.number) (sym c.in_ok-line.ensures))
    (omega (arith, at.0, at.1)))

pub overflow_add-result : goal.overflow_add-result
overflow_add-result c =
    let f = found (goal.at.overflow_add-result c).In_ok-found in
    let at = at_some (entry c.args.order c.args.item) _ (sym c.in-Some.is ∙ f.2) in
    let q = parts _ _ f.0 in
    omega (arith, at.1, q.length_written, q.entries, q.small)

pub returns-in-None : goal.returns-in-None
returns-in-None c =
    let f = found (goal.at.returns-in-None c).In_ok-found in
    let none = at_none (entry c.args.order c.args.item) _ (sym c.in-None.is ∙ f.2) in
    c.in_ok-line.ensures
    ∙ sym (answered_by _ _ _ f.0
    ∙ claim_good _ _ _ _ (ordered (goal.at.returns-in-None c).In_ok-check_order) (ap (λ (x : Answer). x.number) (sym c.in_ok-line.ensures))
    (omega (arith, none)))
