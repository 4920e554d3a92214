-- What a call answers as a value or the reason why it is refused, and what C gets of it. Document 01: "Where an answer is an enum, a definition gives,
-- for each of its cases, this paper's number and values."
use Rattle.std.specs.Prelude.{Result, Ok, Err}
use Rattle.walsh.specs.Transition.{none}
use Rattle.bounds.specs.Reason.{coded}
use Rattle.bounds.specs.declared.Reason.{Reason}
use Rattle.model.specs.declared.Answer.{Answer}
use Rattle.model.specs.declared.Ledger.{Ledger}
use Rattle.model.specs.declared.Line.{Line}
use Rattle.model.specs.declared.Opened.{Opened}
use Rattle.model.specs.declared.Peek.{Peek}
use Rattle.model.specs.declared.Peeked.{Peeked}
use Rattle.model.specs.Model.{refused_with}
use Rattle.model.specs.Record.{blank_ledger, peeked_by}

-- an accepted call answers a serial "and its mix", a refused one "such a mix all zeros, and serial 0"
abbrev pub answer_of : Result Line Reason → Answer
answer_of (Ok line) = record { number = 0; detail = 0; serial = line.serial; composition = line.composition }
answer_of (Err reason) = refused_with (coded reason).number (coded reason).detail

-- a refused peek has no pair
abbrev pub peeked_of : Result Peek Reason → Peeked
peeked_of (Ok peek) = peeked_by (answer_of (Ok peek.line)) peek.pair
peeked_of (Err reason) = peeked_by (answer_of (Err reason)) none

-- "a refused opening, a record all zeros"
abbrev pub opened_of : Result Ledger Reason → Opened
opened_of (Ok ledger) = record { number = 0; detail = 0; ledger = ledger }
opened_of (Err reason) = record { number = (coded reason).number; detail = (coded reason).detail; ledger = blank_ledger }
