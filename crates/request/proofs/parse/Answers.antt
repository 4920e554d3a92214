-- `request::parse` meets its contract.
use Rattle.std.proofs.Common.{◌≡◌, true, false, arith}
use Rattle.std.proofs.lemmas.Bool.Decides.{Decides-eqb}
use Rattle.std.proofs.lemmas.Slice.Eq.{starts_is}
use Rattle.request.specs.Request.{title}
use Rattle.request.proofs.Requests.{refused_long, refused_title, refused_bounds, refused_no_total, refused_total, refused_behind, taken}
use Rattle.request.proofs.parse.Goals as goal
use Rattle.request.proofs.parse.Goals.{then-text-gt-MOST-via-then-text-gt-MOST, then-text-gt-MOST-via-else-text-gt-MOST+then-not-starts_with}
use Rattle.request.proofs.parse.Goals.{then-total-ne1-via-then-total-ne1, then-total-ne1-via-else-total-ne1+then-total-text}

pub returns-then-text-gt-MOST : goal.returns-then-text-gt-MOST
returns-then-text-gt-MOST c =
    let s = c.args.text.now in
    elim c.then-text-gt-MOST.branch [
      | then-text-gt-MOST-via-then-text-gt-MOST w ↦ refused_long s (omega arith)
      | then-text-gt-MOST-via-else-text-gt-MOST+then-not-starts_with w ↦
          refused_title s (λ rest e.
          let t : w.starts_with.result ≡ true = (starts_is Decides-eqb s title _ w.starts_with.ensures.value).1 rest e in
          let f : w.starts_with.result ≡ false = w.if-not-starts_with.true in
          cc)
    ]

pub returns-in_err-bounds : goal.returns-in_err-bounds
returns-in_err-bounds c = rw c.from_residual.ensures (refused_bounds _ c.in_err-bounds.ensures)

pub returns-in_err-total : goal.returns-in_err-total
returns-in_err-total c =
    rw c.from_residual-in_err-total.ensures (refused_no_total _ _ c.in_ok-bounds.ensures c.in_err-total.ensures)

pub returns-then-total-ne1 : goal.returns-then-total-ne1
returns-then-total-ne1 c =
    elim c.then-total-ne1.branch [
      | then-total-ne1-via-then-total-ne1 w ↦ refused_total _ _ c.in_ok-bounds.ensures _ c.in_ok-total.ensures w.if-total-ne1.true
      | then-total-ne1-via-else-total-ne1+then-total-text w ↦ refused_behind _ _ c.in_ok-bounds.ensures _ c.in_ok-total.ensures (omega arith)
    ]

pub returns : goal.returns
returns c =
    let title_is = (starts_is Decides-eqb c.args.text.now title _ c.starts_with.ensures.value).0 c.if-not-starts_with.false in
    taken _ (omega arith) title_is _ c.in_ok-bounds.ensures _ c.in_ok-total.ensures c.if-total-ne1.false (omega arith)
