use mathlib.Core.Path.{◌≡◌, sym}
use Prim.Native.Nat.{ℕ, ◌+◌, ◌*◌}
use native.Mathlib.Omega.{arith}
use lib.Dec.{eqb}
use lib.ListN.{drop, length-drop}
use borrow.Author.Tests.{eq-eqb, ne_eqb, eqb-true, eqb-false}
use Rattle.walsh.proofs.Cases.{on_test}
use Rattle.replay.specs.Rows.{call_width, named_in}
use Rattle.replay.proofs.Rows.{named_none, named_next}
use Rattle.replay.proofs.pool_fits.Goals as goal

pub returns-then-left-used : goal.returns-then-left-used
returns-then-left-used c =
    let a = c.args in
    let next = named_next a.rows.now c.loop-k.k (omega (arith, c.loop-k-test.true)) a.counts in
    let used = rw c.from.ensures at c.uses-used.ensures in
    sym (ne_eqb a.pool (named_in a.counts a.rows.now) (λ e. absurd (omega (arith, e, next, used))))

pub loop-k-preserved : goal.loop-k-preserved
loop-k-preserved c =
    let a = c.args in
    let next = named_next a.rows.now c.loop-k.k (omega (arith, c.loop-k-test.true)) a.counts in
    omega (arith, next, rw c.from.ensures at c.uses-used.ensures)

-- nothing is left just where the pool has what is named
none_left : (left pool named : ℕ) → pool ≡ left + named → eqb left 0 ≡ eqb pool named
none_left left pool named e =
    on_test (eqb left 0) (λ t. let h = eqb-true left 0 t in rw (t, eq-eqb pool named (omega (arith, e, h))))
    (λ t. let h = eqb-false left 0 t in rw (t, ne_eqb pool named (λ p. h (omega (arith, e, p)))))

pub returns : goal.returns
returns c =
    let at = c.loop-k in
    let a = c.args in
    let rows = a.rows.now in
    let over = length-drop (at.k * call_width) rows in
    let none = named_none a.counts (drop (at.k * call_width) rows) (omega (arith, over, c.loop-k-test.false)) in
    none_left at.left a.pool (named_in a.counts rows) (omega (arith, at.invariant, none))
