use Rattle.std.proofs.Common.{◌≡◌, ℕ, ◌<◌, length, refl, sym, subst, arith}
use Rattle.model.specs.Entry.{pairs}
use Rattle.integrity.specs.Lines.{lines_in}
use Rattle.integrity.specs.Sift.{Sifted}
use Rattle.integrity.proofs.Passes.{at_some, at_none}
use Rattle.integrity.proofs.Sifting.{met_line, other_line, unmarked_line}
use Rattle.integrity.proofs.meet.look.Goals as goal
use Rattle.integrity.proofs.meet.look.Goals.{then-marks-slot-ne0+in-Some+then-k-hit, then-marks-slot-ne0+in-Some+else-k-hit, then-marks-slot-ne0+in_default, else-marks-slot-ne0}

pub loop-i-preserved : goal.loop-i-preserved
loop-i-preserved c =
    let s = c.loop-i.invariant.0 in
    let os = c.args.lines.orders.now in
    let is = c.args.lines.items.now in
    let bs = c.args.bundle.orders.now in
    let js = c.args.bundle.items.now in
    let es = pairs bs js in
    let eo = c.args.lines.paired in
    let eb = c.args.bundle.paired in
    let h : c.loop-i.i < length os = omega (arith, c.loop-i-test.true, c.requires.range.1) in
    elim c.if-marks-slot-ne0.branch [
      | then-marks-slot-ne0+in-Some+then-k-hit w ↦
          let at = at_some _ es w.in-Some.ensures in
          rw w.hit-is (met_line os is bs js eo eb s h (sym at.0) w.if-k-hit.true refl refl, omega (arith, w.if-k-hit.true, c.loop-i.invariant.1))
      | then-marks-slot-ne0+in-Some+else-k-hit w ↦
          let at = at_some _ es w.in-Some.ensures in
          rw w.hit-is (other_line os is bs js eo eb s h (sym at.0) w.if-k-hit.false refl refl, c.loop-i.invariant.1)
      | then-marks-slot-ne0+in_default w ↦
          let at = at_none _ es w.in_default.ensures in
          rw w.hit-is (other_line os is bs js eo eb s h (sym at) s.most refl refl, c.loop-i.invariant.1)
      | else-marks-slot-ne0 w ↦
          rw w.hit-is (
            unmarked_line os is bs js eo eb s h c.requires.marked c.loop-i.invariant.1 c.slot.ensures.0 w.if-marks-slot-ne0.false refl refl,
            c.loop-i.invariant.1,
          )
    ]

pub returns-clause-sifted : goal.returns-clause-sifted
returns-clause-sifted c =
    let e : c.loop-i.i ≡ c.args.to = omega (arith, c.loop-i-test.false, c.loop-i.auto.i-end, c.requires.range.0) in
    subst (λ (i : ℕ). Sifted (lines_in c.args.lines) (lines_in c.args.bundle) i c.loop-i.hit.first c.loop-i.hit.place) e c.loop-i.invariant.0
