-- What is answered where a `?` leaves a call.
use Rattle.std.proofs.Common.{◌≡◌, ◌≢◌, Option, Some, None, Result, Err, refl, ap, arith}
use Rattle.std.specs.Prelude.{ok_or}
use Rattle.std.specs.Result.{IsErrAnd}
use Rattle.bounds.specs.Reason.{coded}
use Rattle.bounds.specs.declared.Reason.{Reason}
use Rattle.bounds.proofs.Reasons.{coded-number, passed_as}
use Rattle.model.specs.declared.Line.{Line}
use Rattle.model.specs.declared.Peek.{Peek}
use Rattle.model.specs.Model.{refused_with}
use Rattle.model.specs.Results.{answer_of, peeked_of}

pub nothing_for : {A : Type 0} {o : Option A} {d e : Reason} → Err e ≡ ok_or o d → (None ≡ o) × (e ≡ d)
nothing_for {o = Some x} q = cc
nothing_for {o = None} q = (refl, cc)

pub passed_answer : (e : Reason) (r : Result Line Reason) → IsErrAnd r (λ y. y ≡ e) → answer_of r ≡ refused_with (coded e).number (coded e).detail
passed_answer e r h = ap answer_of (passed_as e r h)

pub passed_peek : (e : Reason) (r : Result Peek Reason) → IsErrAnd r (λ y. y ≡ e) → peeked_of r ≡ peeked_of (Err e)
passed_peek e r h = ap peeked_of (passed_as e r h)

pub some_number : (e : Reason) → (coded e).number ≢ 0
some_number e z = omega (arith, coded-number e, z)
