use mathlib.Core.Path.{refl, sym, ◌∙◌}
use Prim.Native.Nat.{◌-◌, ◌≤◌}
use native.Mathlib.Omega.{arith}
use lib.ListN.{length}
use borrow.Author.Tests.{leb-true, leb-false}
use Rattle.lines.specs.Lines.{copy_line}
use Rattle.lines.proofs.Pieces.{filling_none, filling_valid, filling_kinds, filling_full, filling_next, filling_all}
use Rattle.lines.proofs.put_lines.Goals as goal
use Rattle.lines.proofs.put_lines.Goals.{Else-not-fits, In-loop-s}

-- there are at most 24 parts
few : (c : In-loop-s) → length c.loop-s.parts ≤ 24
few c =
    let p = c.requires in
    omega (arith, (filling_valid p c.loop-s.invariant.1 (omega arith)).size, p.few)

-- and the kinds have at most two digits
kinds : (c : In-loop-s) → (c.loop-s.pair.gain ≤ 24) × (c.loop-s.pair.loss ≤ 24)
kinds c = filling_kinds c.requires c.loop-s.invariant.1 (omega arith)

-- there is room for the line
room : (c : Else-not-fits) →
    let l = c.loop-s in
    length (copy_line l.s l.parts l.pair) ≤ length l.out - l.end
room c = leb-true _ _ (sym c.fits.ensures ∙ c.if-not-fits.false)

pub returns-then-not-fits : goal.returns-then-not-fits
returns-then-not-fits c =
    filling_full c.requires c.loop-s.invariant.1 (omega arith)
    (leb-false _ _ (sym c.fits.ensures ∙ c.if-not-fits.true))

pub loop-s-preserved : goal.loop-s-preserved
loop-s-preserved c =
    let p = c.requires in
    let l = c.loop-s in
    let on = c.advance-pair in (
      on.auto.parts ∙ l.invariant.0,
      filling_next p l.invariant.1 (omega arith) (room (goal.at.loop-s-preserved c).Else-not-fits) c.put-end.ensures on.ensures,
    )

pub loop-s-init : goal.loop-s-init
loop-s-init c = (refl, filling_none c.requires)

pub returns-else-not-fits : goal.returns-else-not-fits
returns-else-not-fits c =
    filling_all c.requires
    (filling_next c.requires c.loop-s.invariant.1 (omega arith) (room (goal.at.returns-else-not-fits c).Else-not-fits) c.put-end.ensures
    c.advance-pair.ensures)
    (omega arith)

-- a part has a byte, as its bound has
pub invariant_of-line : goal.invariant_of-line
invariant_of-line c =
    let at = (goal.at.invariant_of-line c).In-loop-s in
    let k = kinds at in
    let v = filling_valid c.requires c.loop-s.invariant.1 (omega arith) in
    record {
      short = (
        omega arith,
        few at,
        k.0,
        k.1,
        λ i l. omega (arith, v.parts.fits i (omega (arith, v.size, l)), c.type_inv.upper i),
      );
    }
