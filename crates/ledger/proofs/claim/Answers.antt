-- `ledger::claim` meets its contract.
use mathlib.Core.Path.{refl, sym}
use Rattle.reply.proofs.Exits.{some_number}
use Prim.Native.Nat.{◌<◌}
use native.Mathlib.Omega.{arith}
use lib.ListN.{length}
use Rattle.model.specs.Entry.{entry, columns}
use Rattle.model.specs.Model.{Call}
use Rattle.model.proofs.Records.{parts, calling_refused, calling_accepted}
use Rattle.model.proofs.Replies.{Writing, writing, entered_next}
use Rattle.ledger.proofs.Counts.{counts_claim}
use Rattle.ledger.proofs.claim.Goals as goal
use Rattle.ledger.proofs.claim.Goals.{In-Ok}

pub returns-in-Err : goal.returns-in-Err
returns-in-Err c = rw c.turned_away.ensures (calling_refused _ _ _ _ c.in-Err.ensures (some_number c.in-Err.reason))

wrote : (c : In-Ok)
    → let a = c.args in
    Writing a.ledger (columns a.orders.now a.items.now) (Call.claim a.serial (entry a.order a.item))
wrote c = writing _ _ _ _ c.in-Ok.ensures refl

-- the next entry is one of both columns
inside : (c : In-Ok)
    → let a = c.args in (a.ledger.entries < length a.orders.now) × (a.ledger.entries < length a.items.now)
inside c = let w = wrote c in let f = (parts _ _ w.belongs).fits in (omega (arith, w.inside, f), omega (arith, w.inside, f))

pub following-next-requires : goal.following-next-requires
following-next-requires c =
    let w = wrote (goal.at.following-next-requires c).In-Ok in let p = parts _ _ w.belongs in (p.few, p.next, omega (arith, w.inside))

pub counted-requires : goal.counted-requires
counted-requires c =
    let w = wrote (goal.at.counted-requires c).In-Ok in
    (omega (arith, w.inside, (parts _ _ w.belongs).small), c.following-next.ensures)

pub returns : goal.returns
returns c =
    let e = c in
    rw c.counted.ensures
    (calling_accepted _ _ _ _ e.in-Ok.ensures _ _ refl
    (counts_claim _ _ _ _ _ e.in-Ok.ensures refl (wrote (goal.at.returns e).In-Ok)) (sym (entered_next _ _ _ (wrote (goal.at.returns e).In-Ok))))

pub offset_bounds-orders-at : goal.offset_bounds-orders-at
offset_bounds-orders-at c = omega (arith, (inside (goal.at.offset_bounds-orders-at c).In-Ok).0)

pub bounds-orders-at : goal.bounds-orders-at
bounds-orders-at c = (inside (goal.at.bounds-orders-at c).In-Ok).0

pub bounds-items-at : goal.bounds-items-at
bounds-items-at c = (inside (goal.at.bounds-items-at c).In-Ok).1

pub overflow_add-ledger : goal.overflow_add-ledger
overflow_add-ledger c = omega (arith, (parts _ _ (wrote (goal.at.overflow_add-ledger c).In-Ok).belongs).few_sold)
