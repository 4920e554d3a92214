-- `blocks::copies::write_block` meets its contract. The part of `out` up to `at` holds the first j copies.
use Rattle.std.proofs.Common.{◌≡◌, ◌*◌, take}
use Rattle.blocks.specs.Lists.{joined}
use Rattle.blocks.specs.Blocks.{laid}
use Rattle.blocks.proofs.copies.write_block.Given as goal

abbrev pub invariant-loop-j : goal.invariant-loop-j
invariant-loop-j l =
    (l.at ≡ l.j * l.n) × (take l.at l.out ≡ joined (laid l.fronts l.block l.cells) l.j)
