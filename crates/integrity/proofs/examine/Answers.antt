-- `integrity::examine` meets its contract.
use Rattle.std.proofs.Common.{◌≡◌, ℕ, List, sym, ap, ◌∙◌, arith}
use Rattle.model.specs.Entry.{Entry, columns, room, voided_in}
use Rattle.model.specs.Record.{written}
use Rattle.integrity.specs.Examine.{framed, seen_by}
use Rattle.integrity.specs.Lines.{if_sound}
use Rattle.integrity.proofs.Checks.{seen_some, seen_none, seen_not, seen_tested, frame_room, not_framed, not_sound, few_zeros, by_counts}
use Rattle.integrity.proofs.Checks.{lent_room, part_written, part_few}
use Rattle.integrity.proofs.Passes.{sound_some, sound_none}
use Rattle.integrity.proofs.examine.Goals as goal
use Rattle.integrity.proofs.examine.Goals.{After-frame, After-scan}

-- the room of the columns
as_room : (c : After-frame) → c.len.result ≡ room (columns c.args.orders.now c.args.items.now)
as_room c = c.len.ensures ∙ lent_room c.args.orders.now c.args.items.now c.of-lent.result c.of-lent.ensures

framed_for : (c : After-frame) → c.frame.result ≡ seen_by (framed c.args.ledger (room (columns c.args.orders.now c.args.items.now))) c.args.ledger
framed_for c = c.frame.ensures ∙ ap (λ (n : ℕ). seen_by (framed c.args.ledger n) c.args.ledger) (as_room c)

-- what the pass finds among the lines l
abbrev found : (c : After-scan) → List Entry → ℕ
found c l = voided_in l

-- what it answers
passed : (c : After-scan) → let w = written c.args.ledger (columns c.args.orders.now c.args.items.now) in c.scan.result ≡ if_sound w (found c w)
passed c =
    let lines = part_written c.args.orders.now c.args.items.now c.of-lent.result c.of-lent.ensures c.args.ledger c.part.result c.part.ensures.lines in
    c.scan.ensures ∙ ap (λ (l : List Entry). if_sound l (found c l)) lines

pub returns-in_err-count : goal.returns-in_err-count
returns-in_err-count c =
    let r = c.args.ledger in
    let col = columns c.args.orders.now c.args.items.now in
    let no = seen_none r (sym c.in_err-count.was ∙ framed_for (goal.at.returns-in_err-count c).After-frame) in
    c.from_residual.ensures ∙ seen_not r (not_framed r col no)

pub part-requires : goal.part-requires
part-requires c =
    let f = (goal.at.part-requires c).After-frame in
    let t = seen_some c.args.ledger (sym c.in_ok-count.was ∙ framed_for f) in
    (omega arith, omega (arith, (frame_room c.args.ledger _ t.0).0, as_room f, c.len.ensures))

pub scan-requires : goal.scan-requires
scan-requires c =
    let t = seen_some c.args.ledger (sym c.in_ok-count.was ∙ framed_for (goal.at.scan-requires c).After-frame) in
    part_few c.args.orders.now c.args.items.now c.of-lent.result c.of-lent.ensures c.args.ledger c.part.result t.0 c.part.ensures.orders

pub returns-in_err-zeros : goal.returns-in_err-zeros
returns-in_err-zeros c =
    let r = c.args.ledger in
    let col = columns c.args.orders.now c.args.items.now in
    let no = sound_none (written r col) _ (sym c.in_err-zeros.was ∙ passed (goal.at.returns-in_err-zeros c).After-scan) in
    c.from_residual-in_err-zeros.ensures ∙ seen_not r (not_sound r col no)

pub counted-requires : goal.counted-requires
counted-requires c =
    let r = c.args.ledger in
    let col = columns c.args.orders.now c.args.items.now in
    let t = seen_some r (sym c.in_ok-count.was ∙ framed_for (goal.at.counted-requires c).After-frame) in
    let s = sound_some (written r col) (sym c.in_ok-zeros.was ∙ passed (goal.at.counted-requires c).After-scan) in
    few_zeros r col t.0 s.1

pub returns : goal.returns
returns c =
    let r = c.args.ledger in
    let col = columns c.args.orders.now c.args.items.now in
    let t = seen_some r (sym c.in_ok-count.was ∙ framed_for (goal.at.returns c).After-frame) in
    let s = sound_some (written r col) (sym c.in_ok-zeros.was ∙ passed (goal.at.returns c).After-scan) in
    let tested = c.counted.ensures ∙ sym (by_counts r col t.0 s.1 s.0) in
    c.then_some.ensures ∙ seen_tested r tested t.1
