-- `integrity::examine_for` meets its contract.
use Rattle.std.proofs.Common.{◌≡◌, ℕ, List, sym, ap, ◌∙◌, arith}
use Rattle.model.specs.Entry.{Entry, entry, columns, room, voided_in}
use Rattle.model.specs.Record.{written}
use Rattle.integrity.specs.Examine.{framed, seen_by}
use Rattle.integrity.specs.Lines.{if_sound, stands_at}
use Rattle.integrity.specs.declared.pass.Passed.{Passed}
use Rattle.integrity.proofs.Checks.{seen_some, seen_none, found_not, found_tested, frame_room, not_framed, not_sound, few_zeros, by_counts}
use Rattle.integrity.proofs.Checks.{lent_room, part_written, part_few}
use Rattle.integrity.proofs.Passes.{sound_some, sound_none}
use Rattle.integrity.proofs.examine_for.Goals as goal
use Rattle.integrity.proofs.examine_for.Goals.{After-frame, After-seek}

-- the room of the columns
as_room : (c : After-frame) → c.len.result ≡ room (columns c.args.orders.now c.args.items.now)
as_room c = c.len.ensures ∙ lent_room c.args.orders.now c.args.items.now c.of-lent.result c.of-lent.ensures

framed_for : (c : After-frame) → c.frame.result ≡ seen_by (framed c.args.ledger (room (columns c.args.orders.now c.args.items.now))) c.args.ledger
framed_for c = c.frame.ensures ∙ ap (λ (n : ℕ). seen_by (framed c.args.ledger n) c.args.ledger) (as_room c)

-- what the pass finds among the lines l
abbrev found : (c : After-seek) → List Entry → Passed
found c l = record { zeros = voided_in l; place = stands_at (entry c.args.order c.args.item) l }

-- what it answers
passed : (c : After-seek) → let w = written c.args.ledger (columns c.args.orders.now c.args.items.now) in c.seek.result ≡ if_sound w (found c w)
passed c =
    let lines = part_written c.args.orders.now c.args.items.now c.of-lent.result c.of-lent.ensures c.args.ledger c.part-written.result c.part-written.ensures.lines in
    c.seek.ensures ∙ ap (λ (l : List Entry). if_sound l (found c l)) lines

pub returns-in_err-count : goal.returns-in_err-count
returns-in_err-count c =
    let r = c.args.ledger in
    let col = columns c.args.orders.now c.args.items.now in
    let o = entry c.args.order c.args.item in
    let no = seen_none r (sym c.in_err-count.was ∙ framed_for (goal.at.returns-in_err-count c).After-frame) in
    c.from_residual.ensures ∙ found_not r col o (not_framed r col no)

pub part-written-requires : goal.part-written-requires
part-written-requires c =
    let f = (goal.at.part-written-requires c).After-frame in
    let t = seen_some c.args.ledger (sym c.in_ok-count.was ∙ framed_for f) in
    (omega arith, omega (arith, (frame_room c.args.ledger _ t.0).0, as_room f, c.len.ensures))

pub seek-requires : goal.seek-requires
seek-requires c =
    let t = seen_some c.args.ledger (sym c.in_ok-count.was ∙ framed_for (goal.at.seek-requires c).After-frame) in
    part_few c.args.orders.now c.args.items.now c.of-lent.result c.of-lent.ensures c.args.ledger c.part-written.result t.0 c.part-written.ensures.orders

pub returns-in_err-passed : goal.returns-in_err-passed
returns-in_err-passed c =
    let r = c.args.ledger in
    let col = columns c.args.orders.now c.args.items.now in
    let o = entry c.args.order c.args.item in
    let no = sound_none (written r col) _ (sym c.in_err-passed.was ∙ passed (goal.at.returns-in_err-passed c).After-seek) in
    c.from_residual-in_err-passed.ensures ∙ found_not r col o (not_sound r col no)

pub counted-requires : goal.counted-requires
counted-requires c =
    let r = c.args.ledger in
    let col = columns c.args.orders.now c.args.items.now in
    let t = seen_some r (sym c.in_ok-count.was ∙ framed_for (goal.at.counted-requires c).After-frame) in
    let s = sound_some (written r col) (sym c.in_ok-passed.was ∙ passed (goal.at.counted-requires c).After-seek) in
    few_zeros r col t.0 (ap (λ (p : Passed). p.zeros) s.1)

pub returns : goal.returns
returns c =
    let r = c.args.ledger in
    let col = columns c.args.orders.now c.args.items.now in
    let o = entry c.args.order c.args.item in
    let t = seen_some r (sym c.in_ok-count.was ∙ framed_for (goal.at.returns c).After-frame) in
    let s = sound_some (written r col) (sym c.in_ok-passed.was ∙ passed (goal.at.returns c).After-seek) in
    let tested = c.counted.ensures ∙ sym (by_counts r col t.0 (ap (λ (p : Passed). p.zeros) s.1) s.0) in
    c.then_some.ensures ∙ found_tested r col o tested t.1 (ap (λ (p : Passed). p.place) s.1)
