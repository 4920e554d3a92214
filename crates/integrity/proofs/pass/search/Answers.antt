use Rattle.std.proofs.Common.{◌<◌, length, arith}
use Rattle.model.specs.Entry.{entry, void_entry, same_order, pairs}
use Rattle.integrity.proofs.Pairs.{pairs_length, line_hit, other_number, other_item}
use Rattle.integrity.proofs.Passes.{some_at, none_at}
use Rattle.integrity.proofs.Places.{clear_none, clear_here, clear_more, clear_all}
use Rattle.integrity.proofs.pass.search.Goals as goal
use Rattle.integrity.proofs.pass.search.Goals.{In-loop-k, else-lines-k-via-then-lines-k+else-lines-k-2, else-lines-k-via-else-lines-k}

pub loop-k-init : goal.loop-k-init
loop-k-init c = clear_none (same_order (entry c.args.order c.args.item)) (pairs c.args.lines.orders.now c.args.lines.items.now)

-- line k is one of them
inside : (c : In-loop-k) → let a = c.args.lines in c.loop-k.k < length (pairs a.orders.now a.items.now)
inside c = let a = c.args.lines in omega (arith, pairs_length a.orders.now a.items.now a.paired, c.loop-k-test.true)

pub returns-then-lines-k-2 : goal.returns-then-lines-k-2
returns-then-lines-k-2 c =
    let a = c.args.lines in
    let l = pairs a.orders.now a.items.now in
    let e = entry c.args.order c.args.item in
    let h = inside (goal.at.returns-then-lines-k-2 c).In-loop-k in
    let hit = line_hit a.orders.now a.items.now a.paired c.loop-k.k c.loop-k-test.true c.args.order c.args.item c.if-lines-k.true c.if-lines-k-2.true in
    some_at e l h (clear_here (same_order e) l c.loop-k.invariant void_entry h hit)

pub loop-k-preserved : goal.loop-k-preserved
loop-k-preserved c =
    let a = c.args.lines in
    let l = pairs a.orders.now a.items.now in
    let e = entry c.args.order c.args.item in
    let more = clear_more (same_order e) l c.loop-k.invariant void_entry (inside (goal.at.loop-k-preserved c).In-loop-k) in
    elim c.else-lines-k.branch [
      | else-lines-k-via-then-lines-k+else-lines-k-2 w ↦ more
          (other_item a.orders.now a.items.now a.paired c.loop-k.k c.loop-k-test.true c.args.order c.args.item w.if-lines-k-2.false)
      | else-lines-k-via-else-lines-k w ↦ more
          (other_number a.orders.now a.items.now a.paired c.loop-k.k c.loop-k-test.true c.args.order c.args.item w.if-lines-k.false)
    ]

pub returns : goal.returns
returns c =
    let a = c.args.lines in
    let l = pairs a.orders.now a.items.now in
    let e = entry c.args.order c.args.item in
    let n = pairs_length a.orders.now a.items.now a.paired in
    let s = c.loop-k.invariant in
    let all = clear_all (same_order e) l s (omega (arith, n, c.loop-k-test.false)) in
    none_at e l (omega (arith, all, n, s.inside, c.loop-k-test.false))
