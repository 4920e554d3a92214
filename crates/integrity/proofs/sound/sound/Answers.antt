-- `integrity::sound::sound` meets its contract.
use Rattle.std.proofs.Common.{ℕ, ◌∙◌, sym, ap, eqb, eq-eqb, ne_eqb, arith}
use Rattle.integrity.proofs.Ranges.{over_unsound, few_unsound, all_matched}
use Rattle.integrity.proofs.sound.sound.Goals as goal

pub returns-then-range-gt-MOST_ITEM : goal.returns-then-range-gt-MOST_ITEM
returns-then-range-gt-MOST_ITEM c =
    let a = c.args.lines in
    sym (ne_eqb _ 0 (over_unsound a.orders.now a.items.now a.paired
    (omega (arith, c.range_of-range.ensures.1, c.if-range-gt-MOST_ITEM.true))))

pub returns-then-range-gt0 : goal.returns-then-range-gt0
returns-then-range-gt0 c =
    let a = c.args.lines in
    let range = c.range_of-range.ensures in
    let none = all_matched a.orders.now a.items.now (omega (arith, c.requires.zeros, c.if-range-gt0.true))
    (λ z. omega (arith, z, range.0, c.if-range-gt0.true)) in
    let few = few_unsound a.orders.now a.items.now (omega (arith, range.1, c.if-range-gt-MOST_ITEM.false)) in
    sym (eq-eqb _ 0 (few ∙ none))

pub returns : goal.returns
returns c =
    let a = c.args.lines in
    let few = few_unsound a.orders.now a.items.now (omega (arith, c.range_of-range.ensures.1, c.if-range-gt-MOST_ITEM.false)) in
    c.matched.ensures ∙ ap (λ (n : ℕ). eqb n 0) (sym few)
