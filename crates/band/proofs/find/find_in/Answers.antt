-- `band::find::find_in` meets its contract.
use Rattle.std.proofs.Common.{refl, ◌∙◌}
use Rattle.band.proofs.Finds.{some_cell, filled_by}
use Rattle.band.proofs.find.find_in.Goals as goal

pub overflow_sub-last : goal.overflow_sub-last
overflow_sub-last g c = some_cell c.args.shape c.fill.new.cells (c.fill.auto.cells ∙ c.requires.0)

pub invariant_of-table : goal.invariant_of-table
invariant_of-table g c =
    record { filled = filled_by c.args.shape c.fill.new.cells (c.fill.auto.cells ∙ c.requires.0) c.in_ok-count.ensures.filled.1 }

pub returns-clause-found : goal.returns-clause-found
returns-clause-found g c = (_, (_, refl, refl, c.in_ok-count.ensures.filled.0, c.walk.ensures))
