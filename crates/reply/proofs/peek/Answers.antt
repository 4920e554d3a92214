-- `reply::peek` meets its contract.
use Rattle.std.proofs.Common.{◌≡◌, ◌≤◌, ◌<◌, true, length, rules, sym, ap, ◌∙◌, arith}
use lib.Seq.{length-take-le}
use Rattle.bounds.specs.declared.Reason.{Reason}
use Rattle.model.specs.Entry.{columns}
use Rattle.model.specs.Printing.{size}
use Rattle.model.specs.Record.{printing_of, consistent}
use Rattle.model.specs.Results.{peeked_of}
use Rattle.model.proofs.Records.{parts, answered_16}
use Rattle.model.proofs.Replies.{peek_full}
use Rattle.model.proofs.Pairs.{peeking_refused, peeking_next, own_composition}
use Rattle.integrity.proofs.Checks.{seen_some, seen_none}
use Rattle.reply.proofs.Exits.{nothing_for, passed_peek}
use Rattle.std.specs.Prelude.{Err}
use Rattle.reply.proofs.peek.Goals as goal
use Rattle.reply.proofs.peek.Goals.{In_ok-count, Else-count-ledger, Start}

seen : (c : In_ok-count) → (consistent c.args.ledger (columns c.args.orders.now c.args.items.now) ≡ true) × (c.in_ok-count.count ≡ size (printing_of c.args.ledger))
seen c = seen_some _ (sym c.in_ok-count.ensures.ok_part ∙ c.examine.ensures)

left : (c : Else-count-ledger) → c.args.ledger.entries < size (printing_of c.args.ledger)
left c = omega (arith, c.if-count-ledger.false, (seen (goal.at.Else-count-ledger c).In_ok-count).1)

pub returns-in_err-count : goal.returns-in_err-count
returns-in_err-count c =
    let n = nothing_for c.in_err-count.ensures.value in
    passed_peek _ _ c.from_residual.ensures.1
    ∙ ap (λ (e : Reason). peeked_of (Err e)) n.1
    ∙ sym (peeking_refused _ _ 16 0 (answered_16 _ _ _ (seen_none _ (n.0 ∙ c.examine.ensures))))

pub returns-then-count-ledger : goal.returns-then-count-ledger
returns-then-count-ledger c =
    let s = seen (goal.at.returns-then-count-ledger c).In_ok-count in
    sym (peeking_refused _ _ 21 0 (peek_full _ _ s.0 (omega (arith, c.if-count-ledger.true, s.1))))

-- the record's two arrays have 24 cells, and no more are its parts
long : (s : Start) → length s.args.ledger.bounds.upper ≡ 24
long s = search rules

long_next : (s : Start) → length s.args.ledger.next ≡ 24
long_next s = search rules

few : (c : Else-count-ledger) → c.args.ledger.bounds.parts ≤ 24
few c = (parts _ _ (seen (goal.at.Else-count-ledger c).In_ok-count).0).few

few_upper : (c : Else-count-ledger) → let b = c.args.ledger.bounds in b.parts ≤ length b.upper
few_upper c = omega (arith, few c, long (goal.at.Else-count-ledger c).Start)

few_next : (c : Else-count-ledger) → let l = c.args.ledger in l.bounds.parts ≤ length l.next
few_next c = omega (arith, few c, long_next (goal.at.Else-count-ledger c).Start)

pub next_line-line-requires : goal.next_line-line-requires
next_line-line-requires c =
    omega (arith, left (goal.at.next_line-line-requires c).Else-count-ledger, (parts _ _ (seen (goal.at.next_line-line-requires c).In_ok-count).0).small)

pub returns : goal.returns
returns c =
    let a = (goal.at.returns c).Else-count-ledger in
    let t = (seen (goal.at.returns c).In_ok-count).0 in
    let n = length-take-le _ _ (few_upper a) in
    let pair = c.retreat-pair.ensures.pair (omega (arith, few a, n)) (own_composition _ _ t (left a) n) in
    rw c.next_line-line.ensures (sym (peeking_next _ _ t (left a) n _ pair))

pub slice_bounds-upper-end : goal.slice_bounds-upper-end
slice_bounds-upper-end c = few_upper (goal.at.slice_bounds-upper-end c).Else-count-ledger

pub slice_bounds-retreat-end : goal.slice_bounds-retreat-end
slice_bounds-retreat-end c = sym (length-take-le _ _ (few_upper (goal.at.slice_bounds-retreat-end c).Else-count-ledger))

pub slice_bounds-before-end : goal.slice_bounds-before-end
slice_bounds-before-end c = few_next (goal.at.slice_bounds-before-end c).Else-count-ledger

pub slice_bounds-retreat-end-2 : goal.slice_bounds-retreat-end-2
slice_bounds-retreat-end-2 c = sym (length-take-le _ _ (few_next (goal.at.slice_bounds-retreat-end-2 c).Else-count-ledger))
