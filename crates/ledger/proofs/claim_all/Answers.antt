-- `ledger::claim_all` meets its contract.
use mathlib.Core.Path.{◌≡◌, refl, sym, ap, ◌∙◌}
use mathlib.Core.List.{List, ◌++◌, append_assoc}
use Prim.Native.Nat.{ℕ, ◌+◌, ◌-◌, ◌≤◌}
use native.Mathlib.Omega.{arith}
use lib.ListN.{length, take, drop, length-drop}
use lib.Seq.{length-take-le, drop-drop, sets, sets-eq}
use Rattle.model.specs.Entry.{Lent, columns, entries_in, put}
use Rattle.model.specs.Model.{Call}
use Rattle.model.proofs.Entries.{room_entries, orders_back, items_back}
use Rattle.model.proofs.Records.{parts, calling_accepted}
use Rattle.model.proofs.Replies.{Writing, writing, entered_next}
use Rattle.ledger.specs.Counting.{counting}
use Rattle.ledger.proofs.Counts.{paired, counts_all}
use Rattle.ledger.proofs.claim_all.Goals as goal
use Rattle.ledger.proofs.claim_all.Goals.{In-Ok}

wrote : (c : In-Ok)
    → let a = c.args in
    Writing a.ledger (columns a.orders.now a.items.now) (Call.claim_all a.serial (columns a.bundle.now a.itemlines.now))
wrote c = writing _ _ _ _ c.in-Ok.ensures refl

-- an accepted bundle has an item line for each order
module _ (c : In-Ok) where
  abbrev bundle : Lent
  bundle = columns c.args.bundle.now c.args.itemlines.now

  pub even : length bundle.items ≡ length bundle.orders
  even = paired _ _ _ _ _ c.in-Ok.ensures refl

  pub long : length (entries_in bundle) ≡ length bundle.orders
  long = omega (arith, room_entries bundle, even)

-- the entries to be written are of a column of a length, and few
record Inside (entries lines orders items : ℕ) : Type 0 where
  pub fits : entries + lines ≤ orders
  pub fits_items : entries + lines ≤ items
  pub few : entries + lines ≤ 1000000

inside : (c : In-Ok)
    → let a = c.args in
    Inside a.ledger.entries (length a.bundle.now) (length a.orders.now) (length a.items.now)
inside c =
    let w = wrote c in
    let p = parts _ _ w.belongs in
    let n = long c in
    record {
      fits = omega (arith, w.all_inside, p.fits, n);
      fits_items = omega (arith, w.all_inside, p.fits, n);
      few = omega (arith, w.all_inside, p.small, n);
    }

pub following-next-requires : goal.following-next-requires
following-next-requires c =
    let w = wrote (goal.at.following-next-requires c).In-Ok in let p = parts _ _ w.belongs in (p.few, p.next, omega (arith, w.inside))

pub counted-requires : goal.counted-requires
counted-requires c = let f = c in ((inside (goal.at.counted-requires f).In-Ok).few, f.following-next.ensures)

-- a part of a column, and the column with that part written over
part_size : (col : List ℕ) (at n : ℕ) → at + n ≤ length col → length (take (at + n - at) (drop at col)) ≡ n
part_size col at n h = length-take-le (at + n - at) (drop at col) (omega (arith, length-drop at col)) ∙ omega arith

laid : (col es new : List ℕ) (at n : ℕ) → n ≡ length es → at + n ≤ length col → new ≡ es
    → take at col ++ (new ++ drop (at + n - at) (drop at col)) ≡ sets col at es
laid col es new at n e fits is =
    let wide : at + n - at ≡ length es = omega arith in
    rw (is, wide, drop-drop (length es) at col) (sym (append_assoc (take at col) es (drop (at + length es) col)) ∙ sym (sets-eq es col at (omega arith)))

-- both columns, with the lines of the bundle
both_laid : (os is os' is' : List ℕ) (at : ℕ) (b : Lent) → length b.items ≡ length b.orders
    → os' ≡ sets os at b.orders → is' ≡ sets is at b.items
    → columns os' is' ≡ put (columns os is) at (entries_in b)
both_laid os is os' is' at b e p q =
    let o = orders_back b e in
    let i = items_back b e in
    λ k. columns ((p ∙ ap (sets os at) (sym o)) k) ((q ∙ ap (sets is at) (sym i)) k)

pub returns : goal.returns
returns c =
    let e = c in
    let a = e.args in
    let i = inside (goal.at.returns e).In-Ok in
    let os = laid a.orders.now a.bundle.now _ a.ledger.entries _ refl i.fits c.lay.ensures.0 in
    let is = laid a.items.now a.itemlines.now _ a.ledger.entries _ (sym (even (goal.at.returns e).In-Ok)) i.fits_items c.lay.ensures.1 in
    let more = ap (λ (n : ℕ). counting a.ledger n (a.ledger.sold + n) a.ledger.voided) (sym (long (goal.at.returns e).In-Ok)) in
    rw c.counted.ensures
    (calling_accepted _ _ _ _ e.in-Ok.ensures _ _ refl
    (more ∙ counts_all _ _ _ _ _ e.in-Ok.ensures refl (wrote (goal.at.returns e).In-Ok))
    (both_laid _ _ _ _ _ (bundle (goal.at.returns e).In-Ok) (even (goal.at.returns e).In-Ok) os is ∙ sym (entered_next _ _ _ (wrote (goal.at.returns e).In-Ok))))

pub overflow_add-end : goal.overflow_add-end
overflow_add-end c = omega (arith, (inside (goal.at.overflow_add-end c).In-Ok).few)

pub offset_bounds-orders-at : goal.offset_bounds-orders-at
offset_bounds-orders-at c = omega (arith, (inside (goal.at.offset_bounds-orders-at c).In-Ok).fits)

pub overflow_add-ledger : goal.overflow_add-ledger
overflow_add-ledger c =
    let e = c in omega (arith, (inside (goal.at.overflow_add-ledger e).In-Ok).few, (parts _ _ (wrote (goal.at.overflow_add-ledger e).In-Ok).belongs).few_sold)

pub slice_bounds-lay-end : goal.slice_bounds-lay-end
slice_bounds-lay-end c = (inside (goal.at.slice_bounds-lay-end c).In-Ok).fits

pub slice_bounds-lay-end-2 : goal.slice_bounds-lay-end-2
slice_bounds-lay-end-2 c = (inside (goal.at.slice_bounds-lay-end-2 c).In-Ok).fits_items

pub lay-requires-clause-even : goal.lay-requires-clause-even
lay-requires-clause-even c = even (goal.at.lay-requires-clause-even c).In-Ok

pub lay-requires-clause-room : goal.lay-requires-clause-room
lay-requires-clause-room c =
    let a = (goal.at.lay-requires-clause-room c).In-Ok in
    let n = length c.args.bundle.now in (
      part_size c.args.orders.now c.args.ledger.entries n (inside a).fits,
      part_size c.args.items.now c.args.ledger.entries n (inside a).fits_items,
    )
