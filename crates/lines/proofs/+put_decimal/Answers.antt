use Rattle.std.proofs.Common.{sym, ◌+◌, ◌%◌, arith}
use Rattle.request.proofs.Decimals.{decimal_small, decimal_more}
use Rattle.lines.proofs.Appends.{one, joined, retold}
use Rattle.lines.proofs.Lengths.{length_small, length_more}
use Rattle.lines.proofs.+put_decimal.Goals as goal

pub bounds-out-at : goal.bounds-out-at
bounds-out-at t c = omega (arith, length_small c.args.n (omega arith), c.requires)

pub returns-then-n-lt10 : goal.returns-then-n-lt10
returns-then-n-lt10 t c =
    let x = c.args in
    let small = length_small x.n (omega arith) in
    retold (sym (decimal_small x.n (omega arith))) (one _ x.at (48 + x.n) (omega (arith, small, c.requires)))

pub put_decimal-end-requires : goal.put_decimal-end-requires
put_decimal-end-requires t c = (omega (arith, c.decreases), omega (arith, c.requires, length_more c.args.n (omega arith)))

-- the last digit has room
pub bounds-out-end : goal.bounds-out-end
bounds-out-end t c =
    let p = c.put_decimal-end.ensures in
    omega (arith, p.ends, p.size, length_more c.args.n (omega arith), c.requires)

pub returns : goal.returns
returns t c =
    let n = c.args.n in
    let p = c.put_decimal-end.ensures in
    retold (sym (decimal_more n (omega arith)))
    (joined p (one _ _ (48 + n % 10) (omega (arith, p.ends, p.size, length_more n (omega arith), c.requires))))
