-- What an accepted call makes of the record.
use Rattle.std.specs.Prelude.{ℕ, ◌+◌}
use Rattle.model.specs.Printing.{next_composition}
use Rattle.model.specs.Record.{printing_of}
use Rattle.model.specs.declared.Ledger.{Ledger}

-- the record with n lines more, and these counts
abbrev pub counting : Ledger → ℕ → ℕ → ℕ → Ledger
counting r n sold voided =
    record {
      bounds = r.bounds;
      entries = r.entries + n;
      sold = sold;
      voided = voided;
      next = next_composition (printing_of r) (r.entries + n);
    }
