-- `bounds::pack` meets its contract.
use mathlib.Core.Path.{◌∙◌}
use Rattle.bounds.proofs.Cells.{copied_cells}
use Rattle.bounds.proofs.pack.Goals as goal

pub returns : goal.returns
returns c = c.copy.ensures ∙ copied_cells _
