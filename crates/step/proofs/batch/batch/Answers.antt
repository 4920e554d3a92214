-- `step::batch::batch` meets its contract.
use Rattle.std.proofs.Common.{◌≡◌, refl, ◌∙◌, length, take}
use Rattle.walsh.specs.Order.{count_of}
use Rattle.walsh.specs.Serial.{composition_of}
use Rattle.walsh.proofs.Serials.{composition_is, serial_composition}
use Rattle.bounds.specs.Edition.{edition_checks}
use Rattle.bounds.proofs.Chains.{Accepts}
use Rattle.bounds.proofs.Editions.{edition_shapely}
use Rattle.bounds.proofs.Reasons.{passed_as, accepted}
use Rattle.rank.proofs.Calls.{nearest_bytes}
use Rattle.step.proofs.Batches.{Ranged, ranged, batch_edition, batch_range, batch_done}
use Rattle.step.proofs.batch.batch.Goals as goal
use Rattle.step.proofs.batch.batch.Goals.{In_ok-check_room, In_ok-count}

pub returns-in_err-count : goal.returns-in_err-count
returns-in_err-count c =
    let e = c.in_err-count.field-0.0 in
    rw (passed_as e _ c.from_residual.ensures.1) (batch_edition _ _ _ _ _ e c.in_err-count.ensures.refusal)

-- an accepted edition
edition_at : (c : In_ok-count) → Accepts (edition_checks c.args.upper.now c.args.total)
edition_at c = accepted _ c.in_ok-count.ensures.refusal

pub returns-in_err-check_room : goal.returns-in_err-check_room
returns-in_err-check_room c =
    let e = c.in_err-check_room.field-0.0 in
    rw
    (passed_as e _ c.from_residual-in_err-check_room.ensures.1)
    (batch_range _ _ _ _ _ (edition_at (goal.at.returns-in_err-check_room c).In_ok-count) c.in_ok-count.ensures.located.count e c.in_err-check_room.ensures)

-- an accepted range
range_at : (c : In_ok-check_room) →
    let a = c.args in
    Ranged (count_of a.upper.now a.total) (length a.upper.now) a.serial a.copies (length a.out.now)
range_at c =
    let a = c.args in
    rw c.in_ok-count.ensures.located.count at
    (ranged _ (length a.upper.now) a.serial a.copies (length a.out.now) c.in_ok-check_room.ensures refl)

-- the composition that the copies begin with
first_at : (c : In_ok-check_room) →
    let a = c.args in
    take (length a.upper.now) c.in_ok-count.field-0.composition ≡ composition_of a.upper.now a.total a.serial
first_at c =
    let a = c.args in
    let p = range_at c in
    nearest_bytes a.upper.now a.total a.serial p.some p.within _ _ refl c.in_ok-count.ensures.located.cells

pub write-requires : goal.write-requires
write-requires c =
    let a = c.args in
    let i = (goal.at.write-requires c).In_ok-check_room in
    let p = range_at i in
    let s = edition_shapely _ _ (edition_at (goal.at.write-requires c).In_ok-count) in
    let valid = composition_is a.upper.now a.total a.serial p.some p.within in
    let number = serial_composition a.upper.now a.total a.serial p.some p.within in
    record {
      some = s.some;
      few = s.few;
      small = s.small;
      valid = rw (first_at i) valid;
      within = rw (first_at i, number) p.few;
      room = p.room;
    }

pub returns : goal.returns
returns c =
    let a = c.args in
    let i = (goal.at.returns c).In_ok-check_room in
    let p = range_at i in
    batch_done _ _ _ _ _ (edition_at (goal.at.returns c).In_ok-count) c.in_ok-count.ensures.located.count c.in_ok-check_room.ensures refl
    (c.write.ensures ∙ rw (first_at i, serial_composition a.upper.now a.total a.serial p.some p.within))
