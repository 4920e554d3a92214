use Rattle.std.proofs.Common.{◌≡◌, ◌≤◌, ℕ, ◌+◌, ◌*◌, min, List, ◌++◌, length, refl, sym, ◌∙◌, arith}
use Rattle.model.specs.Entry.{Entry, voided_in}
use Rattle.integrity.specs.Lines.{lines_in, if_sound}
use Rattle.integrity.proofs.Pairs.{pairs_length}
use Rattle.integrity.proofs.Passes.{block_of, sound_made, sound_not}
use Rattle.integrity.proofs.Halves.{twins_none, twins_few, twins_all, twins_more, twins_fail}
use Rattle.integrity.proofs.pass.halves.Goals as goal
use Rattle.integrity.proofs.pass.halves.Goals.{After-twins}

module _ (c : After-twins) where
  abbrev low : List Entry
  low = lines_in c.args.low

  abbrev high : List Entry
  high = lines_in c.args.high

  abbrev from : ℕ
  from = c.loop-k.k * 1024

  abbrev to : ℕ
  to = c.min-to.result

  long : length low ≡ length c.args.low.orders.now
  long = pairs_length c.args.low.orders.now c.args.low.items.now c.args.low.paired

  even : length high ≡ length low
  even = omega (arith, pairs_length c.args.high.orders.now c.args.high.items.now c.args.high.paired, long, c.requires.even)

  ends : to ≡ min (length low) (from + 1024)
  ends = omega (arith, c.min-to.ensures, c.len.ensures, long)

  inside : from ≤ length low
  inside = omega (arith, c.blocks-k-end.ensures.some c.loop-k.k (omega arith), long)

  abbrev both : List Entry
  both = block_of low from to ++ block_of high from to

  -- what is answered for the two blocks
  found : c.twins.result ≡ if_sound both (voided_in both)
  found =
      c.twins.ensures ∙ (λ i. if_sound (c.part-first.ensures.lines i ++ c.part-second.ensures.lines i) (voided_in (c.part-first.ensures.lines i ++ c.part-second.ensures.lines i)))

pub loop-k-init : goal.loop-k-init
loop-k-init c = twins_none _ _

pub loop-k-preserved : goal.loop-k-preserved
loop-k-preserved c =
    let a = (goal.at.loop-k-preserved c).After-twins in
    twins_more (low a) (high a) c.loop-k.invariant refl (ends a) (omega (arith, ends a, even a)) (inside a) (omega (arith, inside a, even a))
    (sym c.in_ok-zeros.was ∙ found a)

pub overflow_add-zeros : goal.overflow_add-zeros
overflow_add-zeros c =
    let a = (goal.at.overflow_add-zeros c).After-twins in
    let more = twins_more (low a) (high a) c.loop-k.invariant refl (ends a) (omega (arith, ends a, even a)) (inside a) (omega (arith, inside a, even a))
    (sym c.in_ok-zeros.was ∙ found a) in
    omega (arith, twins_few (low a) (high a) more, long a, even a, c.requires.few)

pub returns-in_err-zeros : goal.returns-in_err-zeros
returns-in_err-zeros c =
    let a = (goal.at.returns-in_err-zeros c).After-twins in
    let fails = twins_fail (low a) (high a) c.loop-k.invariant refl (ends a) (omega (arith, ends a, even a)) (inside a) (omega (arith, inside a, even a))
    (sym c.in_err-zeros.was ∙ found a) in
    c.from_residual.ensures ∙ sound_not (low a ++ high a) _ fails

pub returns : goal.returns
returns c =
    let l = lines_in c.args.low in
    let m = lines_in c.args.high in
    let n = pairs_length c.args.low.orders.now c.args.low.items.now c.args.low.paired in
    let n' = pairs_length c.args.high.orders.now c.args.high.items.now c.args.high.paired in
    let h : length l ≤ c.loop-k.k * 1024 = omega (arith, c.blocks-k-end.ensures.all, n, c.loop-k-test.false) in
    let all = twins_all l m c.loop-k.invariant h (omega (arith, h, n, n', c.requires.even)) in
    sound_made (l ++ m) all.0 all.1
