-- `step::batch::write` meets its contract.
use mathlib.Core.Path.{◌≡◌, ◌∙◌}
use Prim.Native.Nat.{ℕ, suc, ◌≤◌, ◌<◌}
use native.Mathlib.Omega.{arith}
use lib.ListN.{length}
use lib.Dec.{ltb}
use borrow.Author.Rules.{rules}
use borrow.Author.Tests.{ltb-true, ltb-false}
use Rattle.walsh.specs.Sums.{sum_to}
use Rattle.walsh.proofs.Cases.{on_test}
use Rattle.walsh.proofs.Lists.{sum_to_mono, sum_to_step}
use Rattle.bounds.proofs.Cells.{copied_over}
use Rattle.step.proofs.Fronts.{found_front}
use Rattle.step.proofs.Runs.{single_room, single_copies, single_few}
use Rattle.step.proofs.batch.write.Goals as goal
use Rattle.step.proofs.batch.write.Goals.{After-next_left-high, Start}

whole_at : (c : Start) → length c.args.first ≡ 24
whole_at c = search rules

pub returns-then-copies-lt2 : goal.returns-then-copies-lt2
returns-then-copies-lt2 c =
    let copied = c in
    let test = copied in
    let s = test in
    let few : s.args.copies ≤ 1 = omega (arith, test.if-copies-lt2.true) in
    let room = single_room _ _ _ _ _ s.requires few in
    copied.copy.ensures ∙ copied_over _ _ (omega (arith, room, whole_at (goal.at.returns-then-copies-lt2 s).Start)) ∙ single_copies _ _ _ _ _ s.requires few

-- two copies: the second part that is left is one of the parts, or there were one composition
two_left : (c : After-next_left-high) → c.next_left-high.result < length c.args.upper.now
two_left c =
    let else = c in
    let s = else in
    let ms = s.args.upper.now in
    let low : ℕ = c.next_left-low.result in
    let high : ℕ = c.next_left-high.result in
    on_test (ltb high (length ms)) (λ t. ltb-true high (length ms) t) (λ t.
    let alone : sum_to ms (length ms) ≤ sum_to ms (suc low) =
    omega (
      arith,
      sum_to_mono ms (length ms) high (ltb-false high (length ms) t),
      c.next_left-high.ensures.passed,
      sum_to_step ms low,
    ) in
    absurd (omega (arith, else.if-copies-lt2.false, single_few _ _ _ _ _ s.requires low c.next_left-low.ensures.passed alone)))

pub overflow_add-low : goal.overflow_add-low
overflow_add-low c = let s = c in omega (arith, c.next_left-low.ensures.end (omega arith), s.requires.few)

pub invariant_of-shape : goal.invariant_of-shape
invariant_of-shape c =
    record {
      few = c.requires.few;
      in_front = found_front _ _ _ c.next_left-low.ensures c.next_left-high.ensures (two_left (goal.at.invariant_of-shape c).After-next_left-high);
    }

pub returns : goal.returns
returns c = c.write_runs.ensures
