-- Document 01, "Serial and mix": "Mix to serial answers the serial, or the refusal with its detail."
use Rattle.std.specs.Prelude.{List, ◌++◌, ℕ, Result, Ok, Err}
use Rattle.walsh.specs.Serial.{serial_of}
use Rattle.bounds.specs.Refusal.{Check, first_refusal, decided}
use Rattle.bounds.specs.Edition.{edition_checks}
use Rattle.bounds.specs.Places.{composition_checks}
use Rattle.bounds.specs.declared.Refusal.{Refusal}
use Rattle.bounds.specs.declared.Reason.{Reason}
use Rattle.bounds.specs.Reason.{coded}

-- the places 'edition' and 'mix given'
abbrev pub rank_checks : List ℕ → ℕ → List ℕ → List Check
rank_checks ms r g = edition_checks ms r ++ composition_checks ms r g

-- "Where an answer is an enum, a definition gives, for each of its cases, this paper's number and values."
pub record Answer : Type 0 where
  pub number : ℕ
  pub detail : ℕ
  pub serial : ℕ

abbrev pub answer_of : Result ℕ Reason → Answer
answer_of (Ok s) = record { number = 0; detail = 0; serial = s }
answer_of (Err reason) = record { number = (coded reason).number; detail = (coded reason).detail; serial = 0 }

abbrev pub ranked_by : Refusal → ℕ → Answer
ranked_by v s =
    decided v
    (record { number = 0; detail = 0; serial = s })
    (record { number = v.number; detail = v.detail; serial = 0 })

-- the answer for the composition g
unfoldable pub rank_answer : List ℕ → ℕ → List ℕ → Answer
rank_answer ms r g = ranked_by (first_refusal (rank_checks ms r g)) (serial_of ms r g)
