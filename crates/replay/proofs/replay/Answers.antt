-- `replay::replay` meets its contract, which is the guarantee about the whole list of calls.
use mathlib.Core.Path.{◌≡◌, sym, ap, ◌∙◌}
use mathlib.Core.Bool.{true}
use Prim.Native.Nat.{ℕ}
use lib.ListN.{length}
use Rattle.std.proofs.Common.{Ok, Err, refl, arith}
use Rattle.std.proofs.lemmas.Result.{err_from_is_err_and}
use Rattle.bounds.specs.declared.Reason.{Reason}
use Rattle.bounds.proofs.Reasons.{coded-number}
use Rattle.model.specs.Results.{opened_of}
use Rattle.model.specs.Basics.{all}
use Rattle.model.specs.Entry.{columns}
use Rattle.replay.specs.Replay.{Script, scripted, Buffers, buffers, sizes_of, sizes}
use Rattle.replay.proofs.Rows.{calls_count}
use Rattle.replay.proofs.Promise.{replay_unopened, replay_unfit, replay_done}
use Rattle.replay.proofs.replay.Goals as goal
use Rattle.replay.proofs.replay.Goals.{After-fits, Else-not-fits, Start}

abbrev asked : Start → Script
asked s = scripted s.args.script.now (columns s.args.orders.now s.args.itemlines.now)

abbrev lent : Start → Buffers
lent s = buffers (columns s.args.column.now s.args.items.now) s.args.answers.now

-- what `fits` answers
fitting : (c : After-fits) → let s = (goal.at.After-fits c).Start in all (sizes (asked s) (lent s)) ≡ c.fits.result
fitting c =
    let s = (goal.at.After-fits c).Start in
    let rows = s.args.script.now in
    let pool = (asked s).pool in
    ap (λ (n : ℕ). all (sizes_of rows n (length s.args.answers.now) (length pool.orders) (length pool.items)))
    (calls_count rows pool)
    ∙ sym c.fits.ensures

fits : (c : Else-not-fits) → let s = (goal.at.Else-not-fits c).Start in all (sizes (asked s) (lent s)) ≡ true
fits c = fitting (goal.at.Else-not-fits c).After-fits ∙ c.if-not-fits.false

pub returns-in_err-opened : goal.returns-in_err-opened
returns-in_err-opened c =
    let s = (goal.at.returns-in_err-opened c).Start in
    let reason = c.in_err-opened.field-0.0 in
    let e = err_from_is_err_and c.from_residual.result c.from_residual.ensures.1 in
    let is : c.from_residual.result ≡ Err reason = e.1 ∙ ap (λ (r : Reason). Err r) e.2 in
    rw is (replay_unopened _ (asked s) (lent s) (opened_of (Err reason)) c.in_err-opened.ensures (λ z. omega (arith, coded-number reason, z)))

pub returns-then-not-fits : goal.returns-then-not-fits
returns-then-not-fits c =
    let s = (goal.at.returns-then-not-fits c).Start in
    replay_unfit _ (asked s) (lent s) (opened_of (Ok c.in_ok-opened.opened)) c.in_ok-opened.ensures refl
    (fitting (goal.at.returns-then-not-fits c).After-fits ∙ c.if-not-fits.true) _ refl

pub returns : goal.returns
returns c =
    let s = (goal.at.returns c).Start in
    replay_done _ (asked s) (lent s) (opened_of (Ok c.in_ok-opened.opened)) c.in_ok-opened.ensures refl _ _ (fits (goal.at.returns c).Else-not-fits) c.run.ensures

pub run-requires : goal.run-requires
run-requires c = fits (goal.at.run-requires c).Else-not-fits
