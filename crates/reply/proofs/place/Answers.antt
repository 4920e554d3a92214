-- `reply::place` meets its contract: each way out is a law of the model's proofs/Replies.antt.
use Rattle.std.proofs.Common.{◌≤◌, length, sym, ap, ◌∙◌, arith}
use Rattle.model.specs.Entry.{columns}
use Rattle.model.specs.Model.{refused_with}
use Rattle.model.proofs.Records.{Consistent, parts}
use Rattle.model.proofs.Replies.{serial_low, serial_over, serial_below, serial_above, serial_next}
use Rattle.reply.proofs.place.Goals as goal
use Rattle.reply.proofs.place.Goals.{Start, Then-serial-next, then-serial-eq0-via-then-serial-eq0, then-serial-eq0-via-else-serial-eq0+then-count-serial}

full : (c : Start) → Consistent c.args.ledger (columns c.args.orders.now c.args.items.now)
full c = parts _ _ c.requires.0

pub returns-then-serial-eq0 : goal.returns-then-serial-eq0
returns-then-serial-eq0 c =
    elim c.then-serial-eq0.branch [
      | then-serial-eq0-via-then-serial-eq0 w ↦ sym (serial_low _ _ c.requires.0 _ (omega (arith, w.if-serial-eq0.true)))
      | then-serial-eq0-via-else-serial-eq0+then-count-serial w ↦
          sym (serial_over _ _ c.requires.0 _ (omega (arith, w.if-count-serial.true, c.requires.1)))
    ]

pub overflow_add-next : goal.overflow_add-next
overflow_add-next c =
    let q = full (goal.at.overflow_add-next c).Start in
    omega (arith, q.entries, q.small)

within : (c : Then-serial-next) → c.args.serial ≤ length c.args.orders.now
within c =
    let q = full (goal.at.Then-serial-next c).Start in
    omega (arith, c.if-serial-next.true, q.entries, q.fits)

pub returns-then-serial-next : goal.returns-then-serial-next
returns-then-serial-next c =
    ap (refused_with 18) c.from.ensures
    ∙ sym (serial_below _ _ c.requires.0 _ (omega (arith, c.if-serial-eq0.false)) (omega (arith, c.if-count-serial.false, c.requires.1))
    (omega (arith, c.if-serial-next.true)))

pub returns-then-next-serial : goal.returns-then-next-serial
returns-then-next-serial c =
    let above = c.if-next-serial.true in
    sym (serial_above _ _ c.requires.0 _ (omega (arith, above)) (omega (arith, c.requires.1, c.if-count-serial.false)) above)

pub next_line-requires : goal.next_line-requires
next_line-requires c =
    let q = full (goal.at.next_line-requires c).Start in
    omega (arith, q.small, c.requires.1, c.if-count-serial.false, c.if-serial-next.false)

pub returns : goal.returns
returns c =
    rw c.next_line.ensures
    (sym (serial_next _ _ c.requires.0 _ (omega (arith, c.if-serial-next.false)) (omega (arith, c.requires.1, c.if-count-serial.false))
    (omega (arith, c.if-serial-next.false, c.if-next-serial.false))))

pub offset_bounds-orders-at : goal.offset_bounds-orders-at
offset_bounds-orders-at c =
    let q = full (goal.at.offset_bounds-orders-at c).Start in
    omega (arith, c.if-serial-next.true, q.entries, q.small)

pub bounds-orders-at : goal.bounds-orders-at
bounds-orders-at c = omega (arith, within (goal.at.bounds-orders-at c).Then-serial-next, c.if-serial-eq0.false)
