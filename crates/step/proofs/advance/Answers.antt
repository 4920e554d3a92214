-- `step::advance` meets its contract.
use mathlib.Core.Path.{◌≡◌, sym, ◌∙◌}
use mathlib.Core.Bool.{true}
use native.Mathlib.Omega.{arith}
use Rattle.walsh.proofs.Transitions.{transition_same}
use Rattle.step.specs.Advance.{sized}
use Rattle.step.proofs.Ways.{sized_is, any_other, any_turn, advances}
use Rattle.step.proofs.advance.Goals as goal
use Rattle.step.proofs.advance.Goals.{Else-not-is_sized}

pub returns-then-not-is_sized : goal.returns-then-not-is_sized
returns-then-not-is_sized c =
    let size = c in
    let other = sym size.is_sized.ensures ∙ c.if-not-is_sized.true in
    advances _ _ _ (any_other _ _ _ other) (c.still.ensures ∙ sym (transition_same _))

sized_at : (c : Else-not-is_sized) →
    let a = c.args in
    sized a.upper.now a.parts.now ≡ true
sized_at c = sym c.is_sized.ensures ∙ c.if-not-is_sized.false

pub turn-requires : goal.turn-requires
turn-requires c =
    let a = c.args in
    let (some, few, size) = sized_is a.upper.now a.parts.now (sized_at (goal.at.turn-requires c).Else-not-is_sized) in
    (some, few, size, omega arith)

pub returns : goal.returns
returns c =
    let t = c in
    let size = sized_at (goal.at.returns t).Else-not-is_sized in
    advances _ _ _ (t.turn.ensures.0 ∙ any_turn _ _ _ size) t.turn.ensures.1
