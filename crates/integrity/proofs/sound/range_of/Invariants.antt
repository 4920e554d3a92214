-- `integrity::sound::range_of` meets its contract: the item lines so far are looked at.
use Rattle.std.proofs.Common.{◌≡◌, take}
use Rattle.integrity.specs.Range.{least_in, most_in}
use Rattle.integrity.proofs.sound.range_of.Given as goal

abbrev pub invariant-loop-x : goal.invariant-loop-x
invariant-loop-x l = (l.least ≡ least_in (take l.x-index l.items)) × (l.most ≡ most_in (take l.x-index l.items))
