-- `step::batch::leap` meets its contract.
use mathlib.Core.Path.{◌≡◌, ◌∙◌}
use Prim.Native.Nat.{◌≤◌}
use native.Mathlib.Omega.{arith}
use lib.ListN.{get_or, length-set}
use Rattle.step.specs.Stride.{CanSlide}
use Rattle.step.proofs.Runs.{shown_length}
use Rattle.step.proofs.Strides.{first_two, can_slide, slid_turns, slid_begins, slid_turned, one_turned}
use Rattle.step.proofs.batch.leap.Goals as goal
use Rattle.step.proofs.batch.leap.Goals.{After-min-steps, Else-steps-most, Else-upper-run}

pub invariant_of-shape : goal.invariant_of-shape
invariant_of-shape c = record { few = c.requires.1; in_front = first_two _ c.requires.0 }

pub turn-requires : goal.turn-requires
turn-requires c =
    let p = c.requires in
    (omega (arith, p.0), p.1, p.2, p.3)

pub returns-then-upper-run : goal.returns-then-upper-run
returns-then-upper-run c =
    let p = c.requires in
    record { some = omega arith; few = omega (arith, p.4); is = c.turn.ensures.0 ∙ one_turned _ _ _ p.0 p.1 p.2 }

-- the steps of the run
few_steps : (c : After-min-steps) → c.min-steps.result ≤ c.run_of-run.result.more
few_steps c = omega (arith, c.min-steps.ensures)

low : (c : Else-upper-run) → c.run_of-run.result.first ≤ get_or c.args.upper.now 0 0
low c = omega (arith, c.if-upper-run.false)

slides : (c : After-min-steps) → CanSlide c.run_of-run.result c.min-steps.result
slides c = can_slide _ _ _ _ _ c.run_of-run.ensures.2 (few_steps c)

pub returns-then-steps-most : goal.returns-then-steps-most
returns-then-steps-most c =
    let l = c in
    let e = l in
    let run = e.run_of-run.ensures in
    let p = e.requires in
    record {
      some = omega (arith, c.if-steps-most.true, p.4);
      few = omega (arith, c.if-steps-most.true);
      is = slid_turns _ _ _ p.0 p.1 p.2 _ (run.0, run.1) run.2 (low (goal.at.returns-then-steps-most e).Else-upper-run) _ (few_steps (goal.at.returns-then-steps-most l).After-min-steps) c.slid-to.ensures;
    }

-- the run has ended
ended : (c : Else-steps-most) → c.min-steps.result ≡ c.run_of-run.result.more
ended c = omega (arith, c.if-steps-most.false, c.min-steps.ensures)

pub turn_from-requires : goal.turn_from-requires
turn_from-requires c =
    let o = c in
    let l = o in
    let e = l in
    let run = e.run_of-run.ensures in
    let s = e in
    let p = s.requires in (
      p.1,
      shown_length _ o.slid-to.result s.args.parts.now ∙ p.2,
      p.3,
      slid_begins _ _ s.args.parts.now p.0 p.1 p.2 _ (run.0, run.1) run.2 (low (goal.at.turn_from-requires e).Else-upper-run) _ (ended (goal.at.turn_from-requires o).Else-steps-most) o.slid-to.ensures _ c.behind.ensures,
    )

pub returns : goal.returns
returns c =
    let t = c in
    let o = t in
    let l = o in
    let e = l in
    let run = e.run_of-run.ensures in
    let p = e.requires in
    record {
      some = omega arith;
      few = omega (arith, o.if-steps-most.false, l.min-steps.ensures);
      is =
          t.turn_from.ensures.0
          ∙ slid_turned _ _ _ p.0 p.1 p.2 _ (run.0, run.1) run.2 (low (goal.at.returns e).Else-upper-run) _ (few_steps (goal.at.returns l).After-min-steps) o.slid-to.ensures;
    }

pub shape_of-parts : goal.shape_of-parts
shape_of-parts c =
    let o = c in
    let s = o in
    c.turn_from.auto.parts ∙ shown_length (record { low = 0; high = 1 }) o.slid-to.result s.args.parts.now

pub slid-to-requires : goal.slid-to-requires
slid-to-requires c = slides (goal.at.slid-to-requires c).After-min-steps

pub bounds-parts-0 : goal.bounds-parts-0
bounds-parts-0 c = let p = c.requires in omega (arith, p.0, p.2)

pub bounds-parts-1 : goal.bounds-parts-1
bounds-parts-1 c = let p = c.requires in simp length-set (omega (arith, p.0, p.2))
