-- `step::turn_from` meets its contract: the laws of proofs/Turns at each return.
use Rattle.std.proofs.Common.{◌≡◌, ◌≤◌, sym, ◌∙◌, get_or, length-set, arith}
use Rattle.std.proofs.Math.ListN.{set}
use Rattle.walsh.specs.Step.{next_value}
use Rattle.walsh.proofs.Transitions.{transition_same}
use Rattle.step.proofs.Turns.{found_some, found_small, found_above, found_way, turn_still, turn_over, turn_on}
use Rattle.step.specs.Turn.{Leaves, PivotAt}
use Rattle.step.proofs.Notes.{traded}
use Rattle.step.proofs.turn_from.Goals as goal
use Rattle.step.proofs.turn_from.Goals.{After-next_value-u, Else-found-u, In-Some}

-- no part can move
pub returns-in_default : goal.returns-in_default
returns-in_default c = (turn_still _ _ _ c.in_default.ensures, c.still.ensures ∙ sym (transition_same _))

found_at : (c : In-Some) → PivotAt c.args.upper.now c.args.total c.args.parts.now c.in-Some.found
found_at c = c.in-Some.ensures

-- its next value
value : (c : After-next_value-u) → let f = c.in-Some.found in c.next_value-u.result ≡ next_value f.falling (get_or c.args.parts.now f.at 0)
value c = c.next_value-u.ensures ∙ rw c.from.ensures

small : (c : After-next_value-u) →
    let f = c.in-Some.found in
    let u = c.next_value-u.result in
    (u ≤ 255) × (u ≤ f.sum) × (f.right ≤ c.args.total)
small c =
    let i = (goal.at.After-next_value-u c).In-Some in
    let at = c.in-Some.found.at in
    found_small _ _ _ _ (found_at i) _ (value c) (omega (arith, c.type_inv.upper at)) (omega (arith, c.type_inv.parts at))

pub next_value-u-requires : goal.next_value-u-requires
next_value-u-requires c =
    let f = found_at (goal.at.next_value-u-requires c).In-Some in
    (omega (arith, c.from.ensures, c.type_inv.parts c.in-Some.found.at), λ t. rw c.from.ensures (found_above _ _ _ _ f t))

pub overflow_sub-found : goal.overflow_sub-found
overflow_sub-found c = (small (goal.at.overflow_sub-found c).After-next_value-u).1

-- the rest has no room
pub returns-then-found-u : goal.returns-then-found-u
returns-then-found-u c =
    let n = (goal.at.returns-then-found-u c).After-next_value-u in
    (turn_over _ _ _ _ (found_at (goal.at.returns-then-found-u c).In-Some) _ (value n) c.if-found-u.true, c.still-then-found-u.ensures ∙ sym (transition_same _))

pub overflow_cast-parts : goal.overflow_cast-parts
overflow_cast-parts c = omega (arith, (small (goal.at.overflow_cast-parts c).After-next_value-u).0)

-- what the part that moves leaves to those before it
leaves : (c : Else-found-u) →
    let f = c.in-Some.found in
    let u = c.next_value-u.result in
    Leaves c.args.upper.now (set c.args.parts.now f.at u) f u
leaves c =
    let found = found_at (goal.at.Else-found-u c).In-Some in
    let bytes = small (goal.at.Else-found-u c).After-next_value-u in
    let size = length-set c.args.parts.now c.in-Some.found.at c.next_value-u.result in
    record {
      some = found_some _ _ _ _ found;
      inside = (omega (arith, found.inside, size, c.requires.1), omega (arith, found.inside));
      left = (found.left, omega (arith, found.inside, found.small, c.requires.0));
      value = (bytes.0, bytes.1);
      room = c.if-found-u.false;
      right = omega (arith, bytes, c.requires.2);
    }

pub other_part-other-requires : goal.other_part-other-requires
other_part-other-requires c = leaves (goal.at.other_part-other-requires c).Else-found-u

pub returns : goal.returns
returns c =
    let found = found_at (goal.at.returns c).In-Some in
    let v = value (goal.at.returns c).After-next_value-u in
    let f = c.in-Some.found in
    let other = c.other_part-other in
    let done = c.change.ensures in
    let u = c.next_value-u.result in
    let way = found_way _ _ _ _ found u v in (
      done.0 ∙ turn_on _ _ _ _ found u v (leaves (goal.at.returns c).Else-found-u).room other.result other.ensures,
      rw (done.0, done.1, c.moved.ensures)
          (traded c.args.parts.now f.at u other.result.part other.result.value f.falling (omega (arith, found.inside, c.requires.1)) other.ensures.part way),
    )
