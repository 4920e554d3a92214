use Rattle.std.proofs.Common.{◌≡◌, ℕ, ◌+◌, ◌*◌, ◌-◌, ◌/◌, ◌≤◌, length, subst, arith}
use Rattle.integrity.specs.Lines.{lines_in}
use Rattle.integrity.specs.Sift.{Sifted}
use Rattle.integrity.proofs.Sifting.{unmarked_part, unmarked_lines}
use Rattle.integrity.proofs.meet.sift.Goals as goal
use Rattle.integrity.proofs.meet.sift.Goals.{then-marked, else-marked}

pub loop-j-init : goal.loop-j-init
loop-j-init c =
    let e : c.args.from ≡ c.args.from + 0 = omega arith in
    (subst (λ (i : ℕ). Sifted (lines_in c.args.lines) (lines_in c.args.bundle) i c.args.start.first c.args.start.place) e c.requires.sifted, omega arith)

pub loop-j-preserved : goal.loop-j-preserved
loop-j-preserved c =
    let a = c.args in
    let s = c.loop-j.invariant in
    let at = a.from + 8 * c.loop-j.j in
    let next : at + 8 ≡ a.from + 8 * (c.loop-j.j + 1) = omega arith in
    let inside : at + 8 ≤ length a.lines.orders.now = omega (arith, c.loop-j-test.true, c.requires.range.0, c.requires.range.1) in
    elim c.if-marked.branch [
      | then-marked w ↦ rw w.hit-is (
        subst (λ (i : ℕ). Sifted (lines_in a.lines) (lines_in a.bundle) i w.look-hit.result.first w.look-hit.result.place) next w.look-hit.ensures.sifted,
        omega (arith, w.look-hit.ensures.fewer, s.1),
      )
      | else-marked w ↦
          let none = unmarked_part a.marks.now a.lines.orders.now at 8 (omega arith) inside (c.marked.ensures w.if-marked.false) in
          let over = unmarked_lines a.lines.orders.now a.lines.items.now a.bundle.orders.now a.bundle.items.now a.lines.paired a.bundle.paired 8 s.0
          c.requires.marked s.1 none inside in
          rw w.hit-is
          (subst (λ (i : ℕ). Sifted (lines_in a.lines) (lines_in a.bundle) i c.loop-j.hit.first c.loop-j.hit.place) next over, s.1)
    ]

pub look-requires-clause-sifted : goal.look-requires-clause-sifted
look-requires-clause-sifted c =
    let a = c.args in
    let all : a.from + 8 * c.loop-j.j ≡ a.from + 8 * ((a.to - a.from) / 8) = omega (arith, c.loop-j-test.false, c.loop-j.auto.j-end) in
    subst (λ (i : ℕ). Sifted (lines_in a.lines) (lines_in a.bundle) i c.loop-j.hit.first c.loop-j.hit.place) all c.loop-j.invariant.0
