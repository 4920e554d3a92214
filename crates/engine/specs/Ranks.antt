-- The answer of `rank`, an enum, as the structure that C gets.
use Rattle.rank.specs.Rank.{Answer}
use Rattle.engine.specs.declared.Ranked.{Ranked}

abbrev pub ranked_of : Answer → Ranked
ranked_of a = record { number = a.number; detail = a.detail; serial = a.serial }
