-- `lines::put_number` meets its contract.
use mathlib.Core.Path.{sym}
use Prim.Native.Nat.{◌+◌}
use native.Mathlib.Omega.{arith}
use Rattle.request.proofs.Decimals.{decimal_small}
use Rattle.lines.proofs.Appends.{one, retold}
use Rattle.lines.proofs.Lengths.{decimal_two, length_small, length_two}
use Rattle.lines.proofs.put_number.Goals as goal

pub returns-then-n-lt10 : goal.returns-then-n-lt10
returns-then-n-lt10 c =
    let x = c.args in
    let small = length_small x.n (omega arith) in
    retold (sym (decimal_small x.n (omega arith))) (one _ x.at (48 + x.n) (omega (arith, small, c.requires)))

pub bounds-out-at : goal.bounds-out-at
bounds-out-at c = omega (arith, length_small c.args.n (omega arith), c.requires)

pub put_two-requires : goal.put_two-requires
put_two-requires c =
    (omega arith, omega (arith, length_two c.args.n (omega arith) (omega arith), c.requires))

pub returns-then-n-lt100 : goal.returns-then-n-lt100
returns-then-n-lt100 c =
    retold (sym (decimal_two c.args.n (omega arith) (omega arith))) c.put_two.ensures
