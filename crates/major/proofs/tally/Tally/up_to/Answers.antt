-- `major::tally::Tally::up_to` meets its contract. The bits are those of v.
use native.Mathlib.Omega.{arith}
use Rattle.major.proofs.Tallied.{tally_low, tally_high}
use Rattle.major.proofs.tally.Tally.up_to.Goals as goal

pub returns-then-v-lt16 : goal.returns-then-v-lt16
returns-then-v-lt16 c = λ f is. omega (arith, c.read.ensures, tally_low is c.args.v c.if-v-lt16.true)

pub returns-else-v-lt16 : goal.returns-else-v-lt16
returns-else-v-lt16 c =
    λ f is. let start = c in
    omega (arith, c.read-else-v-lt16.ensures, tally_high is start.args.v c.if-v-lt16.false start.requires)
