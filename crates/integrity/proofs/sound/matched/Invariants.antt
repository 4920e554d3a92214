-- `integrity::sound::matched` meets its contract: of the first k lines, so many do not match.
use Rattle.std.proofs.Common.{◌≡◌, ◌≤◌, take}
use Rattle.model.specs.Basics.{how_many}
use Rattle.model.specs.Entry.{is_unmatched}
use Rattle.integrity.specs.Lines.{lines_in}
use Rattle.integrity.proofs.sound.matched.Given as goal

abbrev pub invariant-loop-k : goal.invariant-loop-k
invariant-loop-k l = (l.others ≡ how_many is_unmatched (take l.k (lines_in l.lines))) × (l.others ≤ l.k)
