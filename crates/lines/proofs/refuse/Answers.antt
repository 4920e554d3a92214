-- `lines::refuse` meets its contract.
use Rattle.std.proofs.Common.{arith}
use Rattle.lines.proofs.Appends.{one, text}
use Rattle.lines.proofs.Refuses.{word, refuse_other, refuse_none, refuse_put}
use Rattle.lines.proofs.refuse.Goals as goal

pub returns : goal.returns
returns c =
    let put = text word _ _ (omega (arith, c.digits.ensures.0)) c.copy.ensures in
    let size = rw (c.from-n.ensures, c.number.ensures) at c.digits.ensures.0 in
    let number = rw (c.from-n.ensures, c.number.ensures) at c.put_decimal-end.ensures in
    refuse_put _ _ c.if-at-ne1.false put number (one _ _ 10 (omega (arith, number.ends, number.size, put.size, size))) (omega (arith, size))

pub returns-then-at-ne1 : goal.returns-then-at-ne1
returns-then-at-ne1 c = refuse_other _ _ _ _ c.no_page.ensures c.if-at-ne1.true

pub returns-then-out-digits : goal.returns-then-out-digits
returns-then-out-digits c = refuse_none _ _ c.if-at-ne1.false _ (omega (arith, rw (c.from-n.ensures, c.number.ensures) at c.digits.ensures.0))
