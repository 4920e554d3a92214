-- `places::is_room` meets its contract.
use native.Mathlib.Nat.{mul-zero}
use native.Mathlib.Omega.{arith}
use Rattle.places.proofs.Rooms.{room_rest, room_parts}
use Rattle.places.proofs.is_room.Goals as goal

pub returns-then-n-eq0 : goal.returns-then-n-eq0
returns-then-n-eq0 c = let a = c.args in rw (c.if-n-eq0.true, mul-zero a.copies)

pub returns-then-have-n-ne0 : goal.returns-then-have-n-ne0
returns-then-have-n-ne0 c = room_rest _ _ _ (omega arith) c.if-have-n-ne0.true

pub returns : goal.returns
returns c = room_parts _ _ _ (omega arith) c.if-have-n-ne0.false
