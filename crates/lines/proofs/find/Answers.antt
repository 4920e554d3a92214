-- `lines::find` meets its contract.
use Rattle.std.proofs.Common.{◌≡◌, Result, Err, take, ◌∙◌, arith}
use Rattle.std.specs.Result.{IfErr, IsErrAnd}
use Rattle.std.proofs.lemmas.Result.{err_from_is_err_and}
use Rattle.bounds.specs.declared.Reason.{Reason}
use Rattle.bounds.specs.declared.Reason.TheVariants.{Request}
use Rattle.bounds.proofs.Reasons.{accepted}
use Rattle.lines.proofs.Printed.{output_other, output_asked}
use Rattle.lines.proofs.Listed.{listed_edition, listed_many, listed_accepted, listed_copies}
use Rattle.lines.proofs.find.Goals as goal

-- a `?` hands the reason on
passed : {T : Type 0} (P : Reason → Type 0) (e : Reason) (r : Result T Reason) → IsErrAnd r (λ y. y ≡ e) → P e → IfErr r P
passed P e r h p = let q = err_from_is_err_and r h in rw (q.1, q.2) p

same_reason : {T : Type 0} {d e : Reason} → ◌≡◌ {A = Result T Reason} (Err d) (Err e) → d ≡ e
same_reason e = cc

pub returns-in_err-asked-clause-refused : goal.returns-in_err-asked-clause-refused
returns-in_err-asked-clause-refused c =
    let none = c.in_err-asked.ensures.ok_part in
    let reason : c.in_err-asked.field-0.0 ≡ Request = same_reason (rw none at c.in_err-asked.ensures.value) in
    passed _ _ _ c.from_residual.ensures.1 (rw reason (output_other c.parse.ensures none))

pub returns-in_err-found-clause-refused : goal.returns-in_err-found-clause-refused
returns-in_err-found-clause-refused c =
    let asked = output_asked c.parse.ensures c.in_ok-asked.ensures.ok_part in
    let edition = rw c.bounds.ensures at c.in_err-found.ensures.refusal in
    passed _ _ _ c.from_residual-in_err-found.ensures.1 (asked ∙ listed_edition _ _ _ edition)

pub returns-then-found-gt-MOST_ENTRIES-clause-refused : goal.returns-then-found-gt-MOST_ENTRIES-clause-refused
returns-then-found-gt-MOST_ENTRIES-clause-refused c =
    let asked = output_asked c.parse.ensures c.in_ok-asked.ensures.ok_part in
    let edition = rw c.bounds.ensures at c.in_ok-found.ensures.refusal in
    let located = rw c.bounds.ensures at c.in_ok-found.ensures.located in
    asked ∙ listed_many _ _ (accepted _ edition) (omega (arith, located.count))

pub returns-clause-found : goal.returns-clause-found
returns-clause-found c =
    let asked = output_asked c.parse.ensures c.in_ok-asked.ensures.ok_part in
    let edition = rw c.bounds.ensures at c.in_ok-found.ensures.refusal in
    let located = rw c.bounds.ensures at c.in_ok-found.ensures.located in
    let x = c.in_ok-asked.asked in
    let first = listed_accepted (take x.parts x.upper) x.total (accepted _ edition) (omega (arith, located.count)) in
    record { output = asked ∙ listed_copies _ _ first; listed = record { accepted = first; located = located } }
