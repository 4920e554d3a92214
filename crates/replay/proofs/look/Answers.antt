-- `replay::look` meets its contract.
use Rattle.std.proofs.Common.{◌≡◌, Ok, Err, ap}
use Rattle.walsh.specs.Transition.{none}
use Rattle.model.specs.declared.Answer.{Answer}
use Rattle.model.specs.Results.{answer_of}
use Rattle.model.proofs.Pairs.{peeking_answer, peeking_pair}
use Rattle.replay.proofs.look.Goals as goal

pub returns-in-Ok : goal.returns-in-Ok
returns-in-Ok c =
    let l = c.args.ledger in
    let seen = c.in-Ok.seen in
    let answer : c.from-answer.result ≡ answer_of (Ok seen.line) = c.from-answer.ensures in
    rw answer
    (ap (λ (a : Answer). record { answer = a; ledger = l }) (peeking_answer _ _ _ seen.pair c.in-Ok.ensures), peeking_pair _ _ _ _ c.in-Ok.ensures)

pub returns-in-Err : goal.returns-in-Err
returns-in-Err c =
    let l = c.args.ledger in
    let answer : c.from-answer-in-Err.result ≡ answer_of (Err c.in-Err.reason) = c.from-answer-in-Err.ensures in
    rw (c.unpaired.ensures.0, c.unpaired.ensures.1, answer)
    (ap (λ (a : Answer). record { answer = a; ledger = l }) (peeking_answer _ _ _ none c.in-Err.ensures), peeking_pair _ _ _ _ c.in-Err.ensures)
