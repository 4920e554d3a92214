-- Document 01, "Editions and their number": an accepted edition's record and N.
use Rattle.std.specs.Prelude.{List, ℕ, Result, Ok, Err, take}
use Rattle.walsh.specs.Order.{count_of}
use Rattle.bounds.specs.Refusal.{first_refusal, decided}
use Rattle.bounds.specs.Edition.{edition_checks, bounds_of, blank_bounds, record_checks}
use Rattle.bounds.specs.declared.Refusal.{Refusal}
use Rattle.bounds.specs.declared.Bounds.{Bounds}
use Rattle.bounds.specs.declared.Reason.{Reason}
use Rattle.bounds.specs.Reason.{coded}
use Rattle.count.specs.declared.Accepted.{Accepted}
use Rattle.count.specs.declared.Checked.{Checked}

-- an answer as C gets it: this paper's number and detail, and the record with N
abbrev pub checked_of : Result Accepted Reason → Checked
checked_of (Ok edition) = record { number = 0; detail = 0; bounds = edition.bounds; count = edition.count }
checked_of (Err reason) = record { number = (coded reason).number; detail = (coded reason).detail; bounds = blank_bounds; count = 0 }

-- the record and N, and all zeros with the number and detail of a refusal
abbrev pub checked_by : Refusal → List ℕ → ℕ → Checked
checked_by v ms r =
    decided v
    (record { number = 0; detail = 0; bounds = bounds_of ms r; count = count_of ms r })
    (record { number = v.number; detail = v.detail; bounds = blank_bounds; count = 0 })

unfoldable pub check_of : List ℕ → ℕ → Checked
check_of ms r = checked_by (first_refusal (edition_checks ms r)) ms r

-- the same of a record that nobody has checked
unfoldable pub record_of : Bounds → Checked
record_of b = checked_by (first_refusal (record_checks b)) (take b.parts b.upper) b.total
