-- Document 01: "Where an answer is an enum, a definition gives, for each of its cases, this paper's number and values."
use Rattle.std.specs.Prelude.{Result, Ok, Err}
use Rattle.bounds.specs.Refusal.{refused}
use Rattle.bounds.specs.declared.Refusal.{Refusal}
use Rattle.bounds.specs.declared.Reason.{Reason}
use Rattle.bounds.specs.declared.Reason.TheVariants.{Parts, Bound, Total, Sum, Limit, Serial, Length, Composition, NoStep, Staircase, Permutation, Inversions, Room}
use Rattle.bounds.specs.declared.Reason.TheVariants.{Entries, Columns, Ledger, Order, Written, Ahead, Repeated, Full, Request, MajorIndex, Bundle, Item, CheckDigit}

-- the number and the detail of a reason
abbrev pub coded : Reason → Refusal
coded Parts = refused 1 0
coded (Bound part) = refused 2 part
coded Total = refused 3 0
coded Sum = refused 4 0
coded Limit = refused 5 0
coded Serial = refused 6 0
coded Length = refused 7 0
coded Composition = refused 8 0
coded NoStep = refused 9 0
coded Staircase = refused 10 0
coded Permutation = refused 11 0
coded Inversions = refused 12 0
coded Room = refused 13 0
coded Entries = refused 14 0
coded Columns = refused 15 0
coded Ledger = refused 16 0
coded Order = refused 17 0
coded (Written order) = refused 18 order
coded (Ahead next) = refused 19 next
coded (Repeated serial) = refused 20 serial
coded Full = refused 21 0
coded Request = refused 22 0
coded MajorIndex = refused 23 0
coded Bundle = refused 24 0
coded Item = refused 25 0
coded CheckDigit = refused 26 0

-- what an answer tells: 0 and 0 where nothing is refused
abbrev pub told : {A : Type 0} → Result A Reason → Refusal
told (Ok _) = refused 0 0
told (Err reason) = coded reason
