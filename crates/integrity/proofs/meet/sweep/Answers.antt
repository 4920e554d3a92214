use Rattle.std.proofs.Common.{◌≡◌, ◌≤◌, ℕ, ◌+◌, ◌*◌, min, List, length, refl, sym, ap, subst, ◌∙◌, arith}
use Rattle.model.specs.Entry.{Entry, voided_in}
use Rattle.integrity.specs.Lines.{lines_in, if_sound}
use Rattle.integrity.specs.Sift.{Sifted}
use Rattle.integrity.proofs.Again.{again_only}
use Rattle.integrity.proofs.Pairs.{pairs_length}
use Rattle.integrity.proofs.Passes.{block_of, sound_made, sound_not, counted_none, counted_few, counted_all, counted_more, counted_fails}
use Rattle.integrity.proofs.Sifting.{sifted_all}
use Rattle.integrity.proofs.meet.sweep.Goals as goal
use Rattle.integrity.proofs.meet.sweep.Goals.{After-voids}

module _ (c : After-voids) where
  abbrev lines : List Entry
  lines = lines_in c.args.lines

  abbrev from : ℕ
  from = c.loop-k.k * 1024

  abbrev to : ℕ
  to = c.min-to.result

  long : length lines ≡ length c.args.lines.orders.now
  long = pairs_length c.args.lines.orders.now c.args.lines.items.now c.args.lines.paired

  ends : to ≡ min (length lines) (from + 1024)
  ends = omega (arith, c.min-to.ensures, c.len.ensures, long)

  inside : from ≤ length lines
  inside = omega (arith, c.blocks-k-end.ensures.some c.loop-k.k (omega arith), long)

  -- what is answered for the block
  found : c.voids.result ≡ if_sound (block_of lines from to) (voided_in (block_of lines from to))
  found = c.voids.ensures ∙ ap (λ (l : List Entry). if_sound l (voided_in l)) c.part.ensures.lines

pub loop-k-init : goal.loop-k-init
loop-k-init c =
    let e : 0 ≡ min (length c.args.lines.orders.now) (0 * 1024) = omega arith in
    (counted_none _, subst (λ (i : ℕ). Sifted (lines_in c.args.lines) (lines_in c.args.bundle) i c.args.start.first c.args.start.place) e c.requires.sifted, omega arith)

pub loop-k-preserved : goal.loop-k-preserved
loop-k-preserved c =
    let a = (goal.at.loop-k-preserved c).After-voids in
    let e : to a ≡ min (length c.args.lines.orders.now) ((c.loop-k.k + 1) * 1024) = omega (arith, ends a, long a) in (
      counted_more (lines a) c.loop-k.invariant.0 refl (ends a) (inside a) (sym c.in_ok-zeros.was ∙ found a),
      subst (λ (i : ℕ). Sifted (lines a) (lines_in c.args.bundle) i c.sift-hit.result.first c.sift-hit.result.place) e c.sift-hit.ensures.sifted,
      omega (arith, c.sift-hit.ensures.fewer, c.loop-k.invariant.2),
    )

pub overflow_add-zeros : goal.overflow_add-zeros
overflow_add-zeros c =
    let a = (goal.at.overflow_add-zeros c).After-voids in
    let more = counted_more (lines a) c.loop-k.invariant.0 refl (ends a) (inside a) (sym c.in_ok-zeros.was ∙ found a) in
    omega (arith, counted_few (lines a) more, long a, c.requires.few)

pub sift-hit-requires-clause-sifted : goal.sift-hit-requires-clause-sifted
sift-hit-requires-clause-sifted c =
    let a = (goal.at.sift-hit-requires-clause-sifted c).After-voids in
    let e : min (length c.args.lines.orders.now) (from a) ≡ from a = omega (arith, inside a, long a) in
    subst (λ (i : ℕ). Sifted (lines a) (lines_in c.args.bundle) i c.loop-k.hit.first c.loop-k.hit.place) e c.loop-k.invariant.1

pub returns-in_err-zeros : goal.returns-in_err-zeros
returns-in_err-zeros c =
    let a = (goal.at.returns-in_err-zeros c).After-voids in
    let fails = counted_fails (lines a) c.loop-k.invariant.0 refl (ends a) (inside a) (sym c.in_err-zeros.was ∙ found a) in
    c.from_residual.ensures ∙ sound_not (lines a) _ fails

pub returns : goal.returns
returns c =
    let l = lines_in c.args.lines in
    let es = lines_in c.args.bundle in
    let n = pairs_length c.args.lines.orders.now c.args.lines.items.now c.args.lines.paired in
    let h : length l ≤ c.loop-k.k * 1024 = omega (arith, c.blocks-k-end.ensures.all, n, c.loop-k-test.false) in
    let all = counted_all l c.loop-k.invariant.0 h in
    let again = again_only l es (sifted_all l es (omega (arith, n, h)) c.loop-k.invariant.1) in
    sound_made l all.0 (rw (all.1, again.0, again.1))
