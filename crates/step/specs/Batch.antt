-- Document 01, "Trays": "From a serial s and a number c of copies: copy j of the batch, j from 0, is written from byte j × n of the tray. 6 if s is
-- outside 1..N or c exceeds N − s + 1; then 13 unless the tray has c × n bytes. c = 0 writes nothing."
use Rattle.std.specs.Prelude.{Bool, List, [], ◌∷◌, ◌++◌, ℕ, zero, suc, ◌+◌, ◌-◌, ◌*◌, ltb, length}
use Rattle.walsh.specs.Tests.{either}
use Rattle.walsh.specs.Order.{count_of}
use Rattle.walsh.specs.Serial.{composition_of}
use Rattle.bounds.specs.Refusal.{Check, check}
use Rattle.bounds.specs.Edition.{edition_checks}
use Rattle.bounds.specs.Places.{is_no_serial, lent_checks, filling}
use Rattle.bounds.specs.declared.Refusal.{Refusal}

-- "s is outside 1..N or c exceeds N − s + 1", where N is n
abbrev pub beyond : ℕ → ℕ → ℕ → Bool
beyond n s c = either (is_no_serial n s) (ltb (n - s + 1) c)

-- the place 'serial given' in trays
abbrev pub range_checks : ℕ → ℕ → ℕ → List Check
range_checks n s c = check 6 (beyond n s c) 0 ∷ []

abbrev pub batch_checks : List ℕ → ℕ → ℕ → ℕ → List Check
batch_checks ms r s c = range_checks (count_of ms r) s c

-- the compositions of the serials s, s + 1, .. , s + c - 1, one behind the other. Each has n bytes, so that of s + j starts at byte j × n (law
-- `copy_at`).
unfoldable pub copies_of : List ℕ → ℕ → ℕ → ℕ → List ℕ
copies_of ms r s zero = []
copies_of ms r s (suc c) = copies_of ms r s c ++ composition_of ms r (s + c)

-- the answer, and the bytes that the lent part `out` then has
unfoldable pub batch_of : List ℕ → ℕ → ℕ → ℕ → List ℕ → Refusal × List ℕ
batch_of ms r s c out =
    filling (edition_checks ms r ++ (batch_checks ms r s c ++ lent_checks (c * length ms) (length out))) (copies_of ms r s c) out
