-- Document 01, "Serial and mix": "Serial to mix works from the last kind down and fills a lent part of exactly n bytes."
use Rattle.std.specs.Prelude.{List, ◌++◌, ℕ, length}
use Rattle.walsh.specs.Serial.{composition_of}
use Rattle.bounds.specs.Refusal.{Check}
use Rattle.bounds.specs.Edition.{edition_checks}
use Rattle.bounds.specs.Places.{serial_checks, lent_checks, filling}
use Rattle.bounds.specs.declared.Refusal.{Refusal}

-- the places 'edition', 'serial given' and 'lent part'
abbrev pub unrank_checks : List ℕ → ℕ → ℕ → ℕ → List Check
unrank_checks ms r s have = edition_checks ms r ++ (serial_checks ms r s ++ lent_checks (length ms) have)

-- the answer for the serial s, and the bytes that the lent part `out` then has
unfoldable pub unrank_call : List ℕ → ℕ → ℕ → List ℕ → Refusal × List ℕ
unrank_call ms r s out = filling (unrank_checks ms r s (length out)) (composition_of ms r s) out
