use mathlib.Core.Path.{refl, ap}
use Prim.Native.Nat.{ℕ, ◌+◌, ◌*◌, ◌-◌, ◌≤◌}
use native.Mathlib.Omega.{arith}
use lib.ListN.{length, take, drop}
use Rattle.model.specs.Entry.{Lent, columns}
use Rattle.replay.specs.Rows.{orders_column, items_column, named_in, row_width}
use Rattle.replay.specs.Replay.{Script, scripted, Buffers, buffers}
use Rattle.replay.proofs.Rows.{uses_at}
use Rattle.replay.proofs.Steps.{Fit, fit_of, enough, onward, finished}
use Rattle.replay.proofs.run.Goals as goal
use Rattle.replay.proofs.run.Goals.{In-loop-i, Start, At-loop-i}

abbrev pool : Start → Lent
pool s = columns s.args.orders.now s.args.itemlines.now

abbrev asked : Start → Script
asked s = scripted s.args.script.now (pool s)

abbrev lent : Start → Buffers
lent s = buffers (columns s.args.column.now s.args.items.now) s.args.answers.now

fit : (s : Start) → Fit (asked s) (lent s)
fit s = fit_of (asked s) (lent s) s.requires

-- the buffers in a turn of the loop
abbrev now_lent : At-loop-i → Buffers
now_lent c = buffers (columns c.loop-i.column c.loop-i.items) c.loop-i.answers

-- there is room for the row of the next answer
room : (c : In-loop-i) → c.loop-i.i * row_width + row_width ≤ length c.loop-i.answers
room c = omega (arith, c.loop-i-test.true, c.loop-i.invariant.for_answers, (fit (goal.at.In-loop-i c).Start).room)

-- what is left of either pool has what the next call names
at_hand : (c : In-loop-i)
    → let rows = c.args.script.now in
    c.loop-i.next + uses_at rows c.loop-i.i orders_column ≤ named_in orders_column rows
at_hand c =
    let at = c.loop-i in
    enough orders_column c.args.script.now at.next at.i at.invariant.left c.loop-i-test.true

items_at_hand : (c : In-loop-i)
    → let rows = c.args.script.now in
    c.loop-i.next_item + uses_at rows c.loop-i.i items_column ≤ named_in items_column rows
items_at_hand c =
    let at = c.loop-i in
    enough items_column c.args.script.now at.next_item at.i at.invariant.left_items c.loop-i-test.true

pub overflow_add-end : goal.overflow_add-end
overflow_add-end c = omega (arith, at_hand (goal.at.overflow_add-end c).In-loop-i, (fit (goal.at.overflow_add-end c).Start).orders, rw c.from-opcode.ensures at c.uses.ensures)

pub overflow_add-end_item : goal.overflow_add-end_item
overflow_add-end_item c = omega (arith, items_at_hand (goal.at.overflow_add-end_item c).In-loop-i, (fit (goal.at.overflow_add-end_item c).Start).items, rw c.from-opcode.ensures at c.uses-in-loop-i.ensures)

pub offset_bounds-answers-at : goal.offset_bounds-answers-at
offset_bounds-answers-at c = omega (arith, room (goal.at.offset_bounds-answers-at c).In-loop-i, c.loop-i.invariant.for_answers)

pub loop-i-preserved : goal.loop-i-preserved
loop-i-preserved c =
    let at = c.loop-i in
    let s = (goal.at.loop-i-preserved c).Start in
    let opcode = c.from-opcode.ensures in
    let uses = c.uses in
    let uses_items = c.uses-in-loop-i in
    let end = at.next + uses.result in
    let end_item = at.next_item + uses_items.result in
    let call = c.call-done in
    let put = c.put in
    let named = columns (take (end - at.next) (drop at.next s.args.orders.now)) (take (end_item - at.next_item) (drop at.next_item s.args.itemlines.now)) in
    onward s.args.ledger (asked s) (lent s) (now_lent (goal.at.loop-i-preserved c).At-loop-i) (buffers (columns call.new.column call.new.items) _) at.l at.next
    at.next_item at.i call.result.claimed call.result.pair named end end_item _ (fit s) at.invariant c.loop-i-test.true
    (ap (λ (n : ℕ). at.next + n) (rw opcode at uses.ensures)) (ap (λ (n : ℕ). at.next_item + n) (rw opcode at uses_items.ensures)) (rw opcode at call.ensures.0)
    (rw opcode at call.ensures.1) refl
    put.ensures put.auto.row refl call.auto.column call.auto.items

pub returns : goal.returns
returns c =
    let s = (goal.at.returns c).Start in
    let at = c.loop-i in
    finished s.args.ledger (asked s) (lent s) (now_lent (goal.at.returns c).At-loop-i) at.l at.next at.next_item at.i (fit s) at.invariant
    (omega (arith, c.loop-i-test.false))

pub slice_bounds-put-end : goal.slice_bounds-put-end
slice_bounds-put-end c = room (goal.at.slice_bounds-put-end c).In-loop-i
