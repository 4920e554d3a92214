-- The proof of the cycle of calls {falling, rising}. The measure of each is the number of parts before it, and a call has one part fewer. A loop
-- has done the first of its part's values (`Turns`), and each turn asks for a walk over the shorter edition (`walk_shorter`): the laws are in
-- proofs/Turns. The two proofs differ in the value of a turn alone: `rising_turn`, `falling_turn`.
use Rattle.std.proofs.Common.{◌≡◌, true, false}
use Rattle.walsh.specs.Order.{is_odd}
use Rattle.listing.proofs.Turns.{Turns, Part}
use Rattle.listing.proofs.+falling_rising.Given as goal

abbrev pub decreases-falling : goal.decreases-falling
decreases-falling l = l.parts

abbrev pub decreases-rising : goal.decreases-rising
decreases-rising l = l.parts

-- the loops: the first j values are done
abbrev pub invariant-falling-loop-j : goal.invariant-falling-loop-j
invariant-falling-loop-j l =
    Part l.upper l.parts l.rest l.t l.fn.g l.fn.out l.k l.bound l.left l.least l.most
    × (is_odd l.t ≡ true)
    × Turns l.upper l.k l.rest l.t l.fn.g l.fn.out l.j l.g l.out l.at

abbrev pub invariant-rising-loop-j : goal.invariant-rising-loop-j
invariant-rising-loop-j l =
    Part l.upper l.parts l.rest l.t l.fn.g l.fn.out l.k l.bound l.left l.least l.most
    × (is_odd l.t ≡ false)
    × Turns l.upper l.k l.rest l.t l.fn.g l.fn.out l.j l.g l.out l.at
