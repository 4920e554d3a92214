-- The second reading of a puzzle mix. The two calls, their refusals and what is promised of any reading are crate `permutation`'s.
use Rattle.permutation.specs.Reading.{Reading}
use Rattle.major.specs.Major.{major_index, major_permutation, major_code}

-- "23, the given order's major index isn't the total, in the place of 12 for these conversions"
abbrev pub by_major : Reading
by_major = record { statistic = major_index; number = 23; permutation = major_permutation; composition = major_code }
