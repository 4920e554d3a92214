-- `integrity::frame` meets its contract: each way out is a law of proofs/Checks.antt.
use Rattle.std.proofs.Common.{sym, ◌∙◌}
use borrow.Author.Tests.{not-true, not-false}
use Rattle.integrity.proofs.Cells.{same_pointwise}
use Rattle.integrity.proofs.Checks.{Asked, asked, too_full, no_edition, too_many, no_room, past_end, other_next, no_spare, frame_passes}
use Rattle.integrity.proofs.frame.Goals as goal
use Rattle.integrity.proofs.frame.Goals.{In-Ok}
use Rattle.integrity.proofs.frame.Goals.{then-count-gt-MOST_ENTRIES-via-then-count-gt-MOST_ENTRIES, then-count-gt-MOST_ENTRIES-via-else-count-gt-MOST_ENTRIES+then-room-count, then-count-gt-MOST_ENTRIES-via-else-count-gt-MOST_ENTRIES+else-room-count+then-count-entries}
use Rattle.integrity.proofs.frame.Goals.{then-ne-via-then-ne, then-ne-via-else-ne+then-not-packed}

pub returns-then-entries-gt-MOST_ENTRIES : goal.returns-then-entries-gt-MOST_ENTRIES
returns-then-entries-gt-MOST_ENTRIES c = too_full _ _ c.if-entries-gt-MOST_ENTRIES.true

pub returns-in_default : goal.returns-in_default
returns-in_default c = no_edition _ _ c.in_default.field-0 c.in_default.ensures.refusal

-- the edition is accepted
known : (c : In-Ok) → Asked c.args.ledger c.in-Ok.at
known c = asked _ _ c.in-Ok.ensures.refusal c.in-Ok.ensures.located

pub returns-then-count-gt-MOST_ENTRIES : goal.returns-then-count-gt-MOST_ENTRIES
returns-then-count-gt-MOST_ENTRIES c =
    let asked = known (goal.at.returns-then-count-gt-MOST_ENTRIES c).In-Ok in
    elim c.then-count-gt-MOST_ENTRIES.branch [
      | then-count-gt-MOST_ENTRIES-via-then-count-gt-MOST_ENTRIES w ↦ too_many _ _ asked w.if-count-gt-MOST_ENTRIES.true
      | then-count-gt-MOST_ENTRIES-via-else-count-gt-MOST_ENTRIES+then-room-count w ↦ no_room _ _ asked w.if-room-count.true
      | then-count-gt-MOST_ENTRIES-via-else-count-gt-MOST_ENTRIES+else-room-count+then-count-entries w ↦ past_end _ _ asked w.if-count-entries.true
    ]

pub returns-then-ne : goal.returns-then-ne
returns-then-ne c =
    let asked = known (goal.at.returns-then-ne c).In-Ok in
    elim c.then-ne.branch [
      | then-ne-via-then-ne w ↦ other_next _ _ asked
          (sym (same_pointwise _ _) ∙ not-true _ (sym c.ne.ensures ∙ w.if-ne.true))
      | then-ne-via-else-ne+then-not-packed w ↦ no_spare _ _ (sym w.packed.ensures ∙ w.if-not-packed.true)
    ]

pub returns : goal.returns
returns c =
    let same = sym (same_pointwise _ _) ∙ not-false _ (sym c.ne.ensures ∙ c.if-ne.false) in
    frame_passes _ _ (known (goal.at.returns c).In-Ok) c.if-count-gt-MOST_ENTRIES.false c.if-room-count.false c.if-count-entries.false same
    (sym c.packed.ensures ∙ c.if-not-packed.false)

pub packed-requires : goal.packed-requires
packed-requires c = (known (goal.at.packed-requires c).In-Ok).few
