-- `major::tally::Tally::without` meets its contract. There is a sheet up to each v from x on, so nothing is borrowed.
use native.Mathlib.Omega.{arith}
use Rattle.major.proofs.Tallied.{low_within, without_low_lem, high_within, without_high_lem}
use Rattle.major.proofs.tally.Tally.without.Goals as goal

pub overflow_sub-result : goal.overflow_sub-result
overflow_sub-result c =
    let made = c in
    let start = made in
    (low_within start.args.x start.requires.1.1 made.if-x-lt16.true _ made.upward.ensures).0

pub overflow_sub-result-else-x-lt16 : goal.overflow_sub-result-else-x-lt16
overflow_sub-result-else-x-lt16 c =
    let made = c in
    let start = made in
    high_within start.args.x start.requires.1.1 made.if-x-lt16.false start.requires.0 _ made.upward-else-x-lt16.ensures

pub returns-then-x-lt16 : goal.returns-then-x-lt16
returns-then-x-lt16 c =
    λ f among. let made = c in
    let start = made in
    without_low_lem start.args.x among made.if-x-lt16.true _ made.upward.ensures _ _ (omega arith) (omega arith)

pub returns-else-x-lt16 : goal.returns-else-x-lt16
returns-else-x-lt16 c =
    λ f among. let made = c in
    let start = made in
    without_high_lem start.args.x among made.if-x-lt16.false start.requires.0 _ made.upward-else-x-lt16.ensures _ (omega arith)
