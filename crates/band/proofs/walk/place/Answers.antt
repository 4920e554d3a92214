use Rattle.std.proofs.Common.{◌-◌, ◌<◌, arith}
use Rattle.band.proofs.Numbers.{suc_pred}
use Rattle.band.proofs.Parts.{turn_here, turn_next, Part, part, rank_done, rank_small}
use Rattle.band.proofs.walk.place.Goals as goal
use Rattle.band.proofs.walk.place.Goals.{After-earlier-s, After-from-v, In-loop-k}

some_at : (c : In-loop-k) → 0 < c.loop-k.k
some_at c = omega arith

part_at : (c : After-from-v)
    → let l = c.loop-k in
    let a = c.args in
    Part a.table.upper.now a.g.now (l.k - 1) l.k l.rem l.t c.from-v.result
part_at c =
    let l = c.loop-k in
    part _ _ (l.k - 1) l.k l.rem l.t _ (suc_pred (some_at (goal.at.After-from-v c).In-loop-k)) l.invariant.parts c.from-v.ensures

pub earlier-s-requires : goal.earlier-s-requires
earlier-s-requires c =
    let s = c in
    let l = c.loop-k in
    let p = part_at (goal.at.earlier-s-requires c).After-from-v in (
      turn_here _ _ s.args.table.last _ s.args.table.filled l.k l.rem l.t l.row l.invariant.walks (some_at (goal.at.earlier-s-requires c).In-loop-k)
          c.down-row.result c.down-row.ensures,
      p.low,
      p.high,
    )

pub overflow_add-s : goal.overflow_add-s
overflow_add-s c =
    let s = c in
    omega (
      arith,
      (part_at (goal.at.overflow_add-s c).After-from-v).rank,
      c.loop-k.invariant.rank,
      rank_small _ _ s.args.table.last _ s.args.table.filled _
          s.requires.1,
      c.earlier-s.ensures,
    )

pub loop-k-preserved : goal.loop-k-preserved
loop-k-preserved c =
    let s = c in
    let l = c.loop-k in
    let p = part_at (goal.at.loop-k-preserved c).After-from-v in
    record {
      walks =
          turn_next _ _ s.args.table.last _ s.args.table.filled l.k l.rem l.t l.row l.invariant.walks (some_at (goal.at.loop-k-preserved c).In-loop-k)
          c.down-row.result c.down-row.ensures c.from-v.result p.low p.high;
      parts = p.down;
      rank = omega (arith, l.invariant.rank, p.rank, c.earlier-s.ensures);
    }

pub returns : goal.returns
returns c =
    let l = c.loop-k in
    let a = c.args in
    omega (arith, rank_done a.table.upper.now a.g.now l.k l.rem l.t (omega arith), l.invariant.rank)
