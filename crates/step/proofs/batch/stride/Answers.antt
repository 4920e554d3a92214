use mathlib.Core.Path.{◌≡◌, refl, sym, ap, ◌∙◌}
use mathlib.Core.Bool.{true}
use mathlib.Core.List.{List}
use Prim.Native.Nat.{ℕ}
use native.Mathlib.Omega.{arith}
use Rattle.step.specs.Advance.{sized}
use Rattle.step.specs.Stride.{turns_of}
use Rattle.step.proofs.Ways.{sized_is, any_other, any_few}
use Rattle.step.proofs.Strides.{turns_none, turns_add, turns_still, strides}
use Rattle.step.proofs.batch.stride.Goals as goal
use Rattle.step.proofs.batch.stride.Goals.{Else-not-is_sized, then-not-is_sized-via-then-not-is_sized, then-not-is_sized-via-else-not-is_sized+then-upper-lt2}

pub returns-then-not-is_sized : goal.returns-then-not-is_sized
returns-then-not-is_sized c =
    elim c.then-not-is_sized.branch [
      | then-not-is_sized-via-then-not-is_sized w ↦
          strides _ _ _ (turns_still _ _ _ (sym (any_other _ _ _ (sym c.is_sized.ensures ∙ w.if-not-is_sized.true))) _)
      | then-not-is_sized-via-else-not-is_sized+then-upper-lt2 w ↦ strides _ _ _ (turns_still _ _ _ (any_few _ _ _ (omega (arith, w.if-upper-lt2.true))) _)
    ]

sized_at : (c : Else-not-is_sized) →
    let a = c.args in
    sized a.upper.now a.parts.now ≡ true
sized_at c = sym c.is_sized.ensures ∙ c.if-not-is_sized.false

pub leap-made-requires : goal.leap-made-requires
leap-made-requires c =
    let at = c in
    let e = at in
    let a = e.args in
    let (some, few, size) = sized_is a.upper.now a.parts.now (sized_at (goal.at.leap-made-requires e).Else-not-is_sized) in
    (omega (arith, e.if-upper-lt2.false), few, at.loop-made.invariant.1 ∙ size, omega arith, omega (arith, c.loop-made-test.true))

pub loop-made-preserved : goal.loop-made-preserved
loop-made-preserved c =
    let l = c in
    let at = l in
    let a = at.args in
    let leap = l.leap-made.ensures in (
      omega (arith, leap.few, at.loop-made.invariant.0),
      l.leap-made.auto.parts ∙ at.loop-made.invariant.1,
      leap.is
          ∙ ap (λ (g : List ℕ). turns_of a.upper.now a.total g l.leap-made.result) at.loop-made.invariant.2
          ∙ turns_add a.upper.now a.total a.parts.now at.loop-made.made l.leap-made.result,
    )

pub returns : goal.returns
returns c =
    let at = c.loop-made in
    let a = c.args in
    let all : at.made ≡ a.steps = omega (arith, at.invariant.0, c.loop-made-test.false) in
    strides _ _ _ (at.invariant.2 ∙ ap (turns_of a.upper.now a.total a.parts.now) all)

pub loop-made-init : goal.loop-made-init
loop-made-init c = (omega arith, refl, sym (turns_none _ _ _))

pub overflow_add-made : goal.overflow_add-made
overflow_add-made c = omega (arith, c.leap-made.ensures.few)

pub loop-made-smaller : goal.loop-made-smaller
loop-made-smaller c = omega (arith, c.leap-made.ensures.few, c.leap-made.ensures.some)
