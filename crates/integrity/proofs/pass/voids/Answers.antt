-- `integrity::pass::voids` meets its contract.
use Rattle.std.proofs.Common.{sym, ◌∙◌}
use Rattle.model.specs.Entry.{pairs}
use Rattle.integrity.proofs.Pairs.{voided_zeros}
use Rattle.integrity.proofs.Passes.{sound_tested}
use Rattle.integrity.proofs.pass.voids.Goals as goal

pub returns : goal.returns
returns c =
    let a = c.args.block in
    let zeros = c.count-zeros.ensures ∙ sym (voided_zeros a.orders.now a.items.now a.paired) in
    c.then_some.ensures ∙ sound_tested (pairs a.orders.now a.items.now) c.sound.ensures zeros
