-- `integrity::pass::twins` meets its contract.
use Rattle.std.proofs.Common.{sym, ◌∙◌, arith}
use borrow.Author.Tests.{eqb-true, eqb-false}
use Rattle.integrity.specs.Lines.{lines_in}
use Rattle.integrity.proofs.Pairs.{voided_zeros}
use Rattle.integrity.proofs.Halves.{joined_sound, joined_unsound}
use Rattle.integrity.proofs.pass.twins.Goals as goal
use Rattle.integrity.proofs.pass.twins.Goals.{then-sound, else-sound}

pub returns : goal.returns
returns c =
    let low = c.args.low in
    let high = c.args.high in
    let l = lines_in low in
    let m = lines_in high in
    let first = c.twin_zeros-first.ensures.0 ∙ sym (voided_zeros low.orders.now low.items.now low.paired) in
    let second = c.twin_zeros-first.ensures.1 ∙ sym (voided_zeros high.orders.now high.items.now high.paired) in
    c.then_some.ensures ∙ elim c.if-sound.branch [
      | then-sound w ↦
          let z = eqb-true _ 0 (sym c.sound-sound.ensures ∙ w.if-sound.true) in
          joined_sound l m z (w.then_some-is ∙ w.sound.ensures) (omega (arith, first, second))
      | else-sound w ↦
          let n = eqb-false _ 0 (sym c.sound-sound.ensures ∙ w.if-sound.false) in
          rw (w.then_some-is, w.if-sound.false) (joined_unsound l m n)
    ]
