-- `integrity::examine_all` meets its contract.
use Rattle.std.proofs.Common.{◌≡◌, ℕ, List, sym, ap, ◌∙◌, arith}
use Rattle.model.specs.Entry.{Entry, columns, room, voided_in, pairs}
use Rattle.model.specs.Record.{written}
use Rattle.integrity.specs.Examine.{framed, seen_by}
use Rattle.integrity.specs.Lines.{lines_in, if_sound}
use Rattle.integrity.specs.Again.{first_again, place_again}
use Rattle.integrity.specs.declared.meet.Swept.{Swept}
use Rattle.integrity.proofs.Checks.{seen_some, seen_none, met_not, met_tested, frame_room, not_framed, not_sound, few_zeros, by_counts}
use Rattle.integrity.proofs.Checks.{lent_room, part_written, part_few}
use Rattle.integrity.proofs.Passes.{sound_some, sound_none}
use Rattle.integrity.proofs.examine_all.Goals as goal
use Rattle.integrity.proofs.examine_all.Goals.{After-frame, After-meet}

-- the room of the columns
as_room : (c : After-frame) → c.len.result ≡ room (columns c.args.orders.now c.args.items.now)
as_room c = c.len.ensures ∙ lent_room c.args.orders.now c.args.items.now c.of-lent.result c.of-lent.ensures

framed_for : (c : After-frame) → c.frame.result ≡ seen_by (framed c.args.ledger (room (columns c.args.orders.now c.args.items.now))) c.args.ledger
framed_for c = c.frame.ensures ∙ ap (λ (n : ℕ). seen_by (framed c.args.ledger n) c.args.ledger) (as_room c)

-- what the pass finds among the lines l
abbrev found : (c : After-meet) → List Entry → Swept
found c l = record { zeros = voided_in l; first = first_again l (pairs c.args.bundle.now c.args.itemlines.now); place = place_again l (pairs c.args.bundle.now c.args.itemlines.now) }

-- what it answers
passed : (c : After-meet) → let w = written c.args.ledger (columns c.args.orders.now c.args.items.now) in c.meet.result ≡ if_sound w (found c w)
passed c =
    let lines = part_written c.args.orders.now c.args.items.now c.of-lent.result c.of-lent.ensures c.args.ledger c.part-lines.result c.part-lines.ensures.lines in
    let es = c.of.ensures in
    c.meet.ensures
    ∙ ap (λ (m : List Entry). if_sound (lines_in c.part-lines.result) (record {
      zeros = voided_in (lines_in c.part-lines.result);
      first = first_again (lines_in c.part-lines.result) m;
      place = place_again (lines_in c.part-lines.result) m;
    })) es
    ∙ ap (λ (l : List Entry). if_sound l (found c l)) lines

pub returns-in_err-count : goal.returns-in_err-count
returns-in_err-count c =
    let r = c.args.ledger in
    let col = columns c.args.orders.now c.args.items.now in
    let es = columns c.args.bundle.now c.args.itemlines.now in
    let no = seen_none r (sym c.in_err-count.was ∙ framed_for (goal.at.returns-in_err-count c).After-frame) in
    c.from_residual.ensures ∙ met_not r col es (not_framed r col no)

pub part-lines-requires : goal.part-lines-requires
part-lines-requires c =
    let f = (goal.at.part-lines-requires c).After-frame in
    let t = seen_some c.args.ledger (sym c.in_ok-count.was ∙ framed_for f) in
    (omega arith, omega (arith, (frame_room c.args.ledger _ t.0).0, as_room f, c.len.ensures))

pub meet-requires : goal.meet-requires
meet-requires c =
    let t = seen_some c.args.ledger (sym c.in_ok-count.was ∙ framed_for (goal.at.meet-requires c).After-frame) in
    part_few c.args.orders.now c.args.items.now c.of-lent.result c.of-lent.ensures c.args.ledger c.part-lines.result t.0 c.part-lines.ensures.orders

pub returns-in_err-swept : goal.returns-in_err-swept
returns-in_err-swept c =
    let r = c.args.ledger in
    let col = columns c.args.orders.now c.args.items.now in
    let es = columns c.args.bundle.now c.args.itemlines.now in
    let no = sound_none (written r col) _ (sym c.in_err-swept.was ∙ passed (goal.at.returns-in_err-swept c).After-meet) in
    c.from_residual-in_err-swept.ensures ∙ met_not r col es (not_sound r col no)

pub counted-requires : goal.counted-requires
counted-requires c =
    let r = c.args.ledger in
    let col = columns c.args.orders.now c.args.items.now in
    let t = seen_some r (sym c.in_ok-count.was ∙ framed_for (goal.at.counted-requires c).After-frame) in
    let s = sound_some (written r col) (sym c.in_ok-swept.was ∙ passed (goal.at.counted-requires c).After-meet) in
    few_zeros r col t.0 (ap (λ (p : Swept). p.zeros) s.1)

pub returns : goal.returns
returns c =
    let r = c.args.ledger in
    let col = columns c.args.orders.now c.args.items.now in
    let es = columns c.args.bundle.now c.args.itemlines.now in
    let t = seen_some r (sym c.in_ok-count.was ∙ framed_for (goal.at.returns c).After-frame) in
    let s = sound_some (written r col) (sym c.in_ok-swept.was ∙ passed (goal.at.returns c).After-meet) in
    let tested = c.counted.ensures ∙ sym (by_counts r col t.0 (ap (λ (p : Swept). p.zeros) s.1) s.0) in
    c.then_some.ensures ∙ met_tested r col es tested t.1 (ap (λ (p : Swept). p.first) s.1) (ap (λ (p : Swept). p.place) s.1)
