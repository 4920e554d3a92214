-- `blocks::lists::place_of` meets its contract.
use Rattle.std.proofs.Common.{◌≡◌, ◌<◌, sym, ap, ◌∙◌, arith}
use Rattle.walsh.specs.Serial.{serial_of}
use Rattle.walsh.proofs.Serials.{serial_pos}
use Rattle.rank.specs.Rank.{Answer}
use Rattle.rank.proofs.RoundTrips.{rank_accepted}
use Rattle.blocks.proofs.Listed.{was_ok}
use Rattle.blocks.proofs.lists.place_of.Goals as goal
use Rattle.blocks.proofs.lists.place_of.Goals.{In_ok-serial}

found : (c : In_ok-serial) →
    let a = c.args in
    (0 < c.in_ok-serial.serial) × (c.in_ok-serial.serial ≡ serial_of a.upper.now a.sum a.parts.now)
found c =
    let a = c.args in
    let is = rw (was_ok c.rank.result _ _ c.ok.ensures.value c.in_ok-serial.was) at c.rank.ensures in
    let known = rank_accepted a.upper.now a.sum a.parts.now (sym (ap (λ (y : Answer). y.number) is)) in
    let serial = ap (λ (y : Answer). y.serial) is ∙ known.2 in
    (omega (arith, serial, serial_pos a.upper.now a.sum a.parts.now known.1), serial)

pub overflow_sub-result : goal.overflow_sub-result
overflow_sub-result c = (found (goal.at.overflow_sub-result c).In_ok-serial).0

pub returns : goal.returns
returns c = omega (arith, found (goal.at.returns c).In_ok-serial)
