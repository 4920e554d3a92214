use Rattle.std.proofs.Common.{ℕ, ◌+◌, ◌-◌, ◌<◌, ◌≤◌, [], length, get_or, sym, ap, ◌∙◌, append-nil, arith}
use lib.Seq.{drop-length}
use Rattle.walsh.specs.Order.{listing, order}
use Rattle.band.proofs.Numbers.{suc_pred}
use Rattle.band.proofs.Picks.{picked_le, picked_store, listing_done}
use Rattle.band.proofs.Parts.{walk_starts, turn_down, turn_here, turn_next}
use Rattle.band.proofs.walk.write.Goals as goal
use Rattle.band.proofs.walk.write.Goals.{After-pick_value-p, In-loop-k}

pub loop-k-init : goal.loop-k-init
unfolding order
loop-k-init c =
    let s = c in
    let a = s.args in
    let e = s.requires.0 in
    record {
      walks = walk_starts a.table.upper.now a.table.total a.table.last a.table.cells.now s.args.table.filled _ e;
      inside = rw e s.requires.1;
      entry = rw (drop-length, append-nil) (ap (λ (n : ℕ). get_or (listing a.table.upper.now n a.table.total 0) a.rank []) e);
    }

some_at : (c : In-loop-k) → 0 < c.loop-k.k
some_at c = omega arith

-- the value is at most what is left, and that is small
value_at : (c : After-pick_value-p)
    → (c.pick_value-p.result.value ≤ c.loop-k.rem)
    × (c.loop-k.t + c.loop-k.rem ≤ 255)
    × (c.loop-k.k - 1 < length c.loop-k.out)
value_at c =
    let s = c in
    let l = c.loop-k in
    let d = turn_down _ _ s.args.table.last _ s.args.table.filled l.k l.rem l.t l.row l.invariant.walks (some_at (goal.at.After-pick_value-p c).In-loop-k) in
    (picked_le _ _ _ _ _ _ _ c.pick_value-p.ensures, rw l.invariant.walks.sum s.args.table.filled.small, rw (l.auto.out, s.requires.0) d.2)

pub loop-k-preserved : goal.loop-k-preserved
loop-k-preserved c =
    let s = c in
    let l = c.loop-k in
    let p = c.pick_value-p in
    let some = some_at (goal.at.loop-k-preserved c).In-loop-k in
    record {
      walks =
          turn_next _ _ s.args.table.last _ s.args.table.filled l.k l.rem l.t l.row l.invariant.walks some c.down-row.result
          c.down-row.ensures p.result.value p.ensures.low p.ensures.high;
      inside = p.ensures.inside;
      entry = picked_store _ _ _ _ _ _ _ p.ensures l.k l.out (suc_pred some) (value_at (goal.at.loop-k-preserved c).After-pick_value-p).2 ∙ l.invariant.entry;
    }

pub returns : goal.returns
returns c =
    let l = c.loop-k in
    sym (listing_done _ l.k l.rem l.t l.s l.out (omega arith) l.invariant.inside) ∙ l.invariant.entry

pub pick_value-p-requires : goal.pick_value-p-requires
pick_value-p-requires c =
    let s = c in
    let l = c.loop-k in
    let some = some_at (goal.at.pick_value-p-requires c).In-loop-k in (
      turn_here _ _ s.args.table.last _ s.args.table.filled l.k l.rem l.t l.row l.invariant.walks some c.down-row.result c.down-row.ensures,
      rw (← suc_pred some) l.invariant.inside,
    )
