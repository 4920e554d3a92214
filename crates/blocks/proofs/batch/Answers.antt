-- `blocks::batch` meets its contract: the laws of step's proofs/Batches at each return.
use Rattle.std.proofs.Common.{◌≡◌, refl, sym, arith, length, take}
use Rattle.walsh.specs.Order.{count_of}
use Rattle.walsh.specs.Serial.{composition_of}
use Rattle.walsh.proofs.Serials.{composition_is, serial_composition}
use Rattle.bounds.specs.Edition.{edition_checks}
use Rattle.bounds.proofs.Chains.{Accepts}
use Rattle.bounds.proofs.Editions.{edition_shapely}
use Rattle.bounds.proofs.Reasons.{accepted, passed_on}
use Rattle.rank.proofs.Calls.{nearest_bytes}
use Rattle.step.proofs.Batches.{Ranged, ranged, batch_edition, batch_range, batch_done}
use Rattle.blocks.proofs.batch.Goals as goal
use Rattle.blocks.proofs.batch.Goals.{In_ok-count, In_ok-check_room}

pub returns-in_err-count : goal.returns-in_err-count
returns-in_err-count c =
    rw (passed_on _ _ c.from_residual.ensures.1) (batch_edition _ _ _ _ _ _ c.in_err-count.ensures.refusal)

-- an accepted edition
accepts : (c : In_ok-count) → let a = c.args in Accepts (edition_checks a.upper.now a.total)
accepts c = accepted _ c.in_ok-count.ensures.refusal

pub returns-in_err-check_room : goal.returns-in_err-check_room
returns-in_err-check_room c =
    rw (passed_on _ _ c.from_residual-in_err-check_room.ensures.1)
    (batch_range _ _ _ _ _ (accepts (goal.at.returns-in_err-check_room c).In_ok-count) c.in_ok-count.ensures.located.count _ c.in_err-check_room.ensures)

-- an accepted range
range_at : (c : In_ok-check_room) →
    let a = c.args in
    Ranged (count_of a.upper.now a.total) (length a.upper.now) a.serial a.copies (length a.out.now)
range_at c =
    let a = c.args in
    rw c.in_ok-count.ensures.located.count at
    (ranged _ (length a.upper.now) a.serial a.copies (length a.out.now) c.in_ok-check_room.ensures refl)

-- the composition that the copies begin with
first_at : (c : In_ok-check_room) →
    let a = c.args in
    take (length a.upper.now) c.in_ok-count.field-0.composition ≡ composition_of a.upper.now a.total a.serial
first_at c =
    let a = c.args in
    let p = range_at c in
    nearest_bytes a.upper.now a.total a.serial p.some p.within _ _ refl c.in_ok-count.ensures.located.cells

pub invariant_of-job : goal.invariant_of-job
invariant_of-job c =
    let a = c.args in
    let at = goal.at.invariant_of-job c in
    let p = range_at at.In_ok-check_room in
    let first = first_at at.In_ok-check_room in
    let s = edition_shapely _ _ (accepts at.In_ok-count) in
    let number = serial_composition a.upper.now a.total a.serial p.some p.within in
    record {
      asked = record {
        some = s.some;
        few = s.few;
        small = s.small;
        valid = rw first (composition_is a.upper.now a.total a.serial p.some p.within);
        within = rw (first, number) p.few;
        room = refl;
      };
      many = omega (arith, c.if-copies-lt-LONG.false);
    }

pub write-requires : goal.write-requires
write-requires c =
    let a = c.args in
    let at = goal.at.write-requires c in
    let p = range_at at.In_ok-check_room in (
      accepts at.In_ok-count,
      p.room,
      rw (first_at at.In_ok-check_room) (sym (serial_composition a.upper.now a.total a.serial p.some p.within)),
    )

pub returns : goal.returns
returns c =
    let at = (goal.at.returns c).In_ok-count in
    rw c.write.ensures.accepted
    (batch_done _ _ _ _ _ (accepts at) c.in_ok-count.ensures.located.count c.in_ok-check_room.ensures refl c.write.ensures.written)
