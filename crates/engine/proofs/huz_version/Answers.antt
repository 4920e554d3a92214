-- `engine::huz_version` meets its contract.
use mathlib.Core.Path.{refl}
use Rattle.engine.proofs.huz_version.Goals as goal

pub returns : goal.returns
returns c = refl
