-- What is read of the commands.
use Rattle.std.specs.Prelude.{◌≤◌, length}
use Rattle.vectors.specs.declared.read.Commands.{Commands}

-- nothing is read twice: no more is left than before
abbrev pub IsOnward : Commands → Commands → Type 0
IsOnward before after = length after.rest.now ≤ length before.rest.now
