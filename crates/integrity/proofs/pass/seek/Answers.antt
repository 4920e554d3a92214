use Rattle.std.proofs.Common.{◌≡◌, ◌≤◌, ℕ, ◌+◌, ◌*◌, not, min, Some, None, List, [], ◌++◌, length, take, length-take, refl, sym, ap, ◌∙◌, subst, arith}
use mathlib.Core.Logic.{◌≢◌}
use Rattle.std.proofs.lemmas.List.{take_all}
use Rattle.walsh.specs.Tests.{times}
use Rattle.model.specs.Entry.{Entry, entry, same_order, voided_in, unsound_in}
use Rattle.integrity.specs.Lines.{lines_in, if_sound, stands_at}
use Rattle.integrity.specs.declared.pass.Counts.{Counts}
use Rattle.integrity.proofs.Pairs.{pairs_length, none_same}
use Rattle.integrity.proofs.Places.{none_passes}
use Rattle.integrity.proofs.Passes.{block_of, sound_made, sound_some, sound_none, sound_not, counted_none, counted_few, counted_all, counted_more, counted_fails}
use Rattle.integrity.proofs.Passes.{next_block, block_within, at_some, none_at, stands_before, stands_behind, stands_nowhere}
use Rattle.integrity.proofs.pass.seek.Goals as goal
use Rattle.integrity.proofs.pass.seek.Goals.{After-part-block, In_ok-counts, then-is_none+then-counts-ne0+in-Some, then-is_none+then-counts-ne0+in_default, else-is_none}
use Rattle.integrity.proofs.pass.seek.Goals.{else-is_none-via-then-is_none+else-counts-ne0, else-is_none-via-else-is_none}

module _ (c : After-part-block) where
  abbrev lines : List Entry
  lines = lines_in c.args.lines

  abbrev from : ℕ
  from = c.loop-k.k * 1024

  abbrev to : ℕ
  to = c.min.result

  long : length lines ≡ length c.args.lines.orders.now
  long = pairs_length c.args.lines.orders.now c.args.lines.items.now c.args.lines.paired

  ends : to ≡ min (length lines) (from + 1024)
  ends = omega (arith, c.min.ensures, c.len.ensures, long)

  inside : from ≤ length lines
  inside = omega (arith, c.blocks-k-end.ensures.some c.loop-k.k (omega arith), long)

  abbrev block : List Entry
  block = block_of lines from to

  -- its lines are those of the part
  here : lines_in c.part-block.result ≡ block
  here = c.part-block.ensures.lines

module _ (c : In_ok-counts) where
  abbrev part : List Entry
  part = lines_in c.part-block.result

  known : (unsound_in part ≡ 0) × (c.in_ok-counts.counts ≡ record { zeros = voided_in part; hits = times c.args.order c.part-block.result.orders.now })
  known = sound_some part (sym c.in_ok-counts.was ∙ c.block_counts.ensures)

  -- so many of the block are spoilt
  voided : (b : List Entry) → part ≡ b → Some c.in_ok-counts.counts.zeros ≡ if_sound b (voided_in b)
  voided b e =
      subst (λ (m : List Entry). Some c.in_ok-counts.counts.zeros ≡ if_sound m (voided_in m)) e
      (sound_made part known.0 (ap (λ (n : Counts). n.zeros) known.1))

  -- none has the number, and so none is of the order
  absent : c.in_ok-counts.counts.hits ≡ 0 → None ≡ stands_at (entry c.args.order c.args.item) part
  absent z =
      let e = entry c.args.order c.args.item in
      let b = c.part-block.result in
      let none = none_same c.args.order c.args.item b.orders.now b.items.now (sym (ap (λ (n : Counts). n.hits) known.1) ∙ z) in
      none_at e part (none_passes (same_order e) part none)

pub loop-k-init : goal.loop-k-init
loop-k-init c = (counted_none _, none_at (entry c.args.order c.args.item) [] refl)

pub loop-k-preserved : goal.loop-k-preserved
loop-k-preserved c =
    let a = (goal.at.loop-k-preserved c).After-part-block in
    let ok = (goal.at.loop-k-preserved c).In_ok-counts in
    let e = entry c.args.order c.args.item in
    let l = take (from a) (lines a) in
    let m = block a in
    let was = c.loop-k.invariant.1 in
    let tested = c.is_none.ensures in
    let there = ap (stands_at e) (here a) in
    let long : length l ≡ from a = omega (arith, length-take (from a) (lines a), inside a) in
    let place : c.if-is_none.place ≡ stands_at e (l ++ m) = elim c.if-is_none.branch [
      | then-is_none+then-counts-ne0+in-Some w ↦
          w.place-is ∙ stands_behind e l m was (tested ∙ ap not w.if-is_none.true) (sym w.in-Some.is ∙ w.search.ensures ∙ there) (omega (arith, long))
      | then-is_none+then-counts-ne0+in_default w ↦
          w.place-is ∙ stands_nowhere e l m was (tested ∙ ap not w.if-is_none.true) (w.in_default.ensures ∙ there)
      | else-is_none w ↦ w.place-is ∙ elim w.else-is_none.branch [
        | else-is_none-via-then-is_none+else-counts-ne0 v ↦
            stands_nowhere e l m was (tested ∙ ap not v.if-is_none.true) (absent ok v.if-counts-ne0.false ∙ there)
        | else-is_none-via-else-is_none v ↦ stands_before e l m was (tested ∙ ap not v.if-is_none.false)
      ]
    ] in (
      counted_more (lines a) c.loop-k.invariant.0 refl (ends a) (inside a) (voided ok (block a) (here a)),
      place ∙ ap (stands_at e) (sym (next_block (lines a) c.loop-k.k refl (ends a) (inside a))),
    )

pub overflow_add-zeros : goal.overflow_add-zeros
overflow_add-zeros c =
    let a = (goal.at.overflow_add-zeros c).After-part-block in
    let ok = (goal.at.overflow_add-zeros c).In_ok-counts in
    let more = counted_more (lines a) c.loop-k.invariant.0 refl (ends a) (inside a) (voided ok (block a) (here a)) in
    omega (arith, counted_few (lines a) more, long a, c.requires)

pub overflow_add-place : goal.overflow_add-place
overflow_add-place c =
    let a = (goal.at.overflow_add-place c).After-part-block in
    let e = entry c.args.order c.args.item in
    let at = at_some e (block a) (sym c.in-Some.is ∙ c.search.ensures ∙ ap (stands_at e) (here a)) in
    omega (arith, at.1, block_within (lines a) c.loop-k.k refl (ends a) (inside a), inside a, long a, c.requires)

pub returns-in_err-counts : goal.returns-in_err-counts
returns-in_err-counts c =
    let a = (goal.at.returns-in_err-counts c).After-part-block in
    let none = sound_none (lines_in c.part-block.result) _ (sym c.in_err-counts.was ∙ c.block_counts.ensures) in
    let m = subst (λ (b : List Entry). unsound_in b ≢ 0) (here a) none in
    let fails = counted_fails (lines a) c.loop-k.invariant.0 refl (ends a) (inside a) (sound_not (block a) _ m) in
    c.from_residual.ensures ∙ sound_not (lines a) _ fails

pub returns : goal.returns
returns c =
    let l = lines_in c.args.lines in
    let e = entry c.args.order c.args.item in
    let n = pairs_length c.args.lines.orders.now c.args.lines.items.now c.args.lines.paired in
    let h : length l ≤ c.loop-k.k * 1024 = omega (arith, c.blocks-k-end.ensures.all, n, c.loop-k-test.false) in
    let all = counted_all l c.loop-k.invariant.0 h in
    let place = c.loop-k.invariant.1 ∙ ap (stands_at e) (take_all (c.loop-k.k * 1024) l h) in
    sound_made l all.0 (rw (all.1, place))
