-- `step::batch::onward` meets its contract.
use mathlib.Core.Path.{◌≡◌, ◌∙◌}
use mathlib.Core.List.{List}
use Prim.Native.Nat.{ℕ}
use native.Mathlib.Omega.{arith}
use lib.ListN.{length}
use Rattle.step.specs.Run.{shown}
use Rattle.step.proofs.Copies.{turn_next}
use Rattle.step.proofs.Strides.{slid_one, slides_one}
use Rattle.step.proofs.Runs.{moves_to, shown_length, shown_own, run_behind, run_turns}
use Rattle.step.proofs.batch.onward.Goals as goal
use Rattle.step.proofs.batch.onward.Goals.{After-turn_from, Else-run-gt0}

pub returns-then-run-gt0 : goal.returns-then-run-gt0
returns-then-run-gt0 c =
    let start = c in
    let a = start.args in
    let p = start.requires in
    let more = c.if-run-gt0.true in
    rw (c.slid.ensures, slid_one a.run)
    (record {
      running = (moves_to a.shape.upper.now a.shape.total a.shape.front a.run p.2 more).running;
      next = λ k some l is.
          turn_next a.shape.upper.now a.shape.total k some l is
          (run_turns a.shape.upper.now a.shape.total a.shape.front a.shape.in_front a.run a.parts.now p.2 p.3.size (λ i l. p.3.parts.fits i (omega (arith, l, a.shape.in_front.inside))) more);
    })

-- the parts that are lent to the turn: as many as before, and they show the composition of the run
size_at : (c : Else-run-gt0) →
    let a = c.args in
    length (shown a.shape.front a.run a.parts.now) ≡ length a.shape.upper.now
size_at c =
    let start = c in
    let a = start.args in
    shown_length a.shape.front a.run a.parts.now ∙ start.requires.1

pub turn_from-requires : goal.turn_from-requires
turn_from-requires c =
    let ended = c in
    let start = ended in
    let a = start.args in
    let p = start.requires in (
      a.shape.few,
      size_at (goal.at.turn_from-requires ended).Else-run-gt0,
      omega (arith, p.0),
      run_behind a.shape.upper.now a.shape.total a.shape.front a.shape.in_front a.run a.parts.now p.2 p.3.size (λ i l. p.3.parts.fits i (omega (arith, l, a.shape.in_front.inside))) (omega (arith, ended.if-run-gt0.false)) _
          c.behind.ensures,
    )

left_at : (c : After-turn_from) →
    length c.turn_from.new.parts ≡ length c.args.shape.upper.now
left_at c = c.turn_from.auto.parts ∙ size_at (goal.at.After-turn_from c).Else-run-gt0

pub returns : goal.returns
returns c =
    let t = c in
    let start = t in
    let a = start.args in
    let h : List ℕ = t.turn_from.new.parts in
    let new = c.run_of.ensures in
    record {
      running = new.2;
      next = λ k some l is.
          shown_own a.shape.front c.run_of.result h new.0 new.1
          ∙ turn_next a.shape.upper.now a.shape.total k some l is t.turn_from.ensures.0;
    }

pub slid-requires : goal.slid-requires
slid-requires c =
    let a = c.args in
    slides_one a.run (moves_to a.shape.upper.now a.shape.total a.shape.front a.run c.requires.2 c.if-run-gt0.true).can
