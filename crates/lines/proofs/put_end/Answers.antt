-- `lines::put_end` meets its contract.
use Prim.Native.Nat.{◌<◌}
use native.Mathlib.Omega.{arith}
use lib.ListN.{length}
use Rattle.lines.proofs.Appends.{one}
use Rattle.lines.proofs.Lined.{length_pair_end, pair_put}
use Rattle.lines.proofs.put_end.Goals as goal
use Rattle.lines.proofs.put_end.Goals.{After-put_signed-end}

-- the line feed has room
room : (c : After-put_signed-end) → c.put_signed-end.result < length c.put_signed-end.new.out
room c =
    let p = c.put_signed-gained.ensures in
    let q = c.put_signed-end.ensures in
    omega (arith, p.ends, p.size, q.ends, q.size, length_pair_end c.args.pair, c.requires)

pub returns : goal.returns
returns c =
    pair_put c.args.pair c.put_signed-gained.ensures c.put_signed-end.ensures (one _ _ 10 (room (goal.at.returns c).After-put_signed-end))

pub put_signed-gained-requires : goal.put_signed-gained-requires
put_signed-gained-requires c = let start = c in omega (arith, length_pair_end start.args.pair, start.requires)

pub put_signed-end-requires : goal.put_signed-end-requires
put_signed-end-requires c =
    let p = c.put_signed-gained.ensures in
    omega (arith, p.ends, p.size, length_pair_end c.args.pair, c.requires)

pub bounds-out-end : goal.bounds-out-end
bounds-out-end c = room (goal.at.bounds-out-end c).After-put_signed-end
