-- Document 01, "Counting table": what is read from the table. "N of a puzzle edition of 2 to 16 sheets is read from it, and is the N that
-- counting gives."
use Rattle.std.specs.Prelude.{cond, List, ℕ, suc, Option, Some, None, length}
use Rattle.walsh.specs.Tests.{both}
use Rattle.walsh.specs.Order.{count_of}
use Rattle.mahonian.specs.Mahonian.{mahonian, in_table}
use Rattle.mahonian.specs.Staircase.{is_staircase}

-- M(k, r)
unfoldable pub read_of : ℕ → ℕ → Option ℕ
read_of k r = cond (in_table k r) (Some (mahonian k r)) None

-- N of a puzzle edition
unfoldable pub staircase_count_of : List ℕ → ℕ → Option ℕ
staircase_count_of ms r = cond (both (is_staircase ms) (in_table (suc (length ms)) r)) (Some (count_of ms r)) None
