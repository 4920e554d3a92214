-- What a reason tells, and what follows for a call whose checks begin with those of another.
use Rattle.std.proofs.Common.{◌≡◌, ◌<◌, true, List, ◌++◌, Result, Err, sym, ◌∙◌, ap, arith}
use Rattle.bounds.specs.Refusal.{Check, refused, first_refusal}
use Rattle.std.specs.Result.{IsErrAnd}
use Rattle.std.proofs.lemmas.Result.{err_from_is_err_and}
use Rattle.bounds.specs.Reason.{coded, told}
use Rattle.bounds.specs.declared.Refusal.{Refusal}
use Rattle.bounds.specs.declared.Reason.{Reason}
use Rattle.bounds.specs.declared.Reason.TheVariants.{Parts, Bound, Total, Sum, Limit, Serial, Length, Composition, NoStep, Staircase, Permutation, Inversions, Room}
use Rattle.bounds.specs.declared.Reason.TheVariants.{Entries, Columns, Ledger, Order, Written, Ahead, Repeated, Full, Request, MajorIndex, Bundle, Item, CheckDigit}
use Rattle.bounds.proofs.Refusals.{numbered, refusal_first, refusal_later}

-- no reason has the number 0
pub coded-number : (e : Reason) → 0 < (coded e).number
coded-number Parts = omega arith
coded-number (Bound _) = omega arith
coded-number Total = omega arith
coded-number Sum = omega arith
coded-number Limit = omega arith
coded-number Serial = omega arith
coded-number Length = omega arith
coded-number Composition = omega arith
coded-number NoStep = omega arith
coded-number Staircase = omega arith
coded-number Permutation = omega arith
coded-number Inversions = omega arith
coded-number Room = omega arith
coded-number Entries = omega arith
coded-number Columns = omega arith
coded-number Ledger = omega arith
coded-number Order = omega arith
coded-number (Written _) = omega arith
coded-number (Ahead _) = omega arith
coded-number (Repeated _) = omega arith
coded-number Full = omega arith
coded-number Request = omega arith
coded-number MajorIndex = omega arith
coded-number Bundle = omega arith
coded-number Item = omega arith
coded-number CheckDigit = omega arith

-- checks that refuse nothing
pub accepted : (v : Refusal) → refused 0 0 ≡ v → v.number ≡ 0
accepted v e = ap (λ (w : Refusal). w.number) (sym e)

-- a refusal's number is not 0
pub coded-refuses : (e : Reason) (v : Refusal) → coded e ≡ v → 0 < v.number
coded-refuses e v p = rw p at (coded-number e)

-- a call that begins with the checks xs is refused as they are
pub coded-first : (e : Reason) (xs ys : List Check) → coded e ≡ first_refusal xs → coded e ≡ first_refusal (xs ++ ys)
coded-first e xs ys p =
    p ∙ sym (refusal_first xs ys (λ z. let q : 0 < (first_refusal xs).number = coded-refuses e _ p in omega arith))

-- where they refuse nothing, the checks behind them decide (`numbered xs ≡ true` is `refl` for a table that is written out)
pub told-later : (v : Refusal) (xs ys : List Check) → numbered xs ≡ true → refused 0 0 ≡ first_refusal xs → v ≡ first_refusal ys
    → v ≡ first_refusal (xs ++ ys)
told-later v xs ys n p q = q ∙ sym (refusal_later xs ys n (accepted _ p))

-- the exit of a `?`: the reason is passed on
pub passed_as : {T : Type 0} (e : Reason) (r : Result T Reason) → IsErrAnd r (λ y. y ≡ e) → r ≡ Err e
passed_as e r h = let p = err_from_is_err_and r h in rw (p.1, p.2)

pub passed_on : {T : Type 0} (e : Reason) (r : Result T Reason) → IsErrAnd r (λ y. y ≡ e) → told r ≡ coded e
passed_on e r h = rw (passed_as e r h)
