-- `integrity::pass::block_counts` meets its contract.
use Rattle.std.proofs.Common.{sym, ◌∙◌}
use Rattle.model.specs.Entry.{pairs}
use Rattle.integrity.proofs.Pairs.{voided_zeros}
use Rattle.integrity.proofs.Passes.{sound_tested}
use Rattle.integrity.proofs.pass.block_counts.Goals as goal

pub returns : goal.returns
returns c =
    let a = c.args.block in
    let counts = c.count_both-counts.ensures in
    let zeros = counts.0 ∙ sym (voided_zeros a.orders.now a.items.now a.paired) in
    c.then_some.ensures ∙ sound_tested (pairs a.orders.now a.items.now) c.sound.ensures (rw (sym zeros, sym counts.1))
