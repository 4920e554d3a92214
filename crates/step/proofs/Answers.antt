-- The answers of a step, from those of the places that are checked before.
use mathlib.Core.Path.{◌≡◌, refl, sym}
use mathlib.Core.Logic.{◌⊎◌, inl, inr}
use mathlib.Core.Bool.{Bool, false, cond}
use mathlib.Core.List.{List, [], ◌++◌}
use Prim.Native.Nat.{ℕ, ◌+◌}
use native.Mathlib.Omega.{arith}
use lib.Dec.{eqb}
use borrow.Author.Tests.{ne_eqb}
use Rattle.walsh.specs.Order.{Composition, count_of}
use Rattle.walsh.specs.Serial.{serial_of, composition_of}
use Rattle.walsh.specs.Transition.{gain_from}
use Rattle.walsh.proofs.Serials.{composition_serial, serial_pos, serial_le}
use Rattle.walsh.proofs.Transitions.{gain_same}
use Rattle.bounds.specs.Refusal.{Check, refused, first_refusal}
use Rattle.bounds.specs.Edition.{edition_checks}
use Rattle.bounds.specs.Places.{composition_checks}
use Rattle.bounds.specs.declared.Refusal.{Refusal}
use Rattle.bounds.proofs.Refusals.{refusal_here, refusal_next}
use Rattle.bounds.proofs.Reasons.{accepted, coded-number, coded-first, told-later}
use Rattle.bounds.specs.Reason.{coded}
use Rattle.bounds.specs.declared.Reason.{Reason}
use Rattle.bounds.specs.declared.Reason.TheVariants.{NoStep}
use Rattle.std.proofs.Common.{Err}
use Rattle.bounds.proofs.Compositions.{composition_passed}
use Rattle.step.specs.Steps.{end_checks, next_serial, stepped_by, stepped_of, step_of}
use Rattle.step.specs.Advance.{turn_of}
use Rattle.step.specs.Turn.{shifted_by}
use Rattle.step.proofs.Turns.{AtPivot, AtEnd, turned}
use Rattle.step.proofs.Ways.{way_reached, moving, way_on, way_off, to_carries}

module _ (back : Bool) (ms : List ℕ) (r : ℕ) (g : List ℕ) where
  abbrev given : List Check
  given = composition_checks ms r g

  abbrev ends : List Check
  ends = end_checks back ms r g

  -- by the whole table
  refused_by : (e : Reason) → coded e ≡ first_refusal (edition_checks ms r ++ (given ++ ends)) → stepped_of (Err e) ≡ step_of back ms r g
  unfolding step_of
  refused_by e v = rw (← v, ne_eqb (coded e).number 0 (λ z. omega (arith, coded-number e)))

  -- refused as an edition
  pub step_edition : (e : Reason) → coded e ≡ first_refusal (edition_checks ms r) → stepped_of (Err e) ≡ step_of back ms r g
  step_edition e v = refused_by e (coded-first e (edition_checks ms r) (given ++ ends) v)

  module _ (edition : refused 0 0 ≡ first_refusal (edition_checks ms r)) where
    -- what was given is refused
    pub step_given : (e : Reason) → coded e ≡ first_refusal (composition_checks ms r g) → stepped_of (Err e) ≡ step_of back ms r g
    step_given e v = refused_by e (told-later _ (edition_checks ms r) (given ++ ends) refl edition (coded-first e given ends v))

    module _ (passes : refused 0 0 ≡ first_refusal (composition_checks ms r g)) where
      pub valid : Composition ms r g
      valid = composition_passed ms r g (accepted _ passes)

      table : {w : Refusal} → w ≡ first_refusal (end_checks back ms r g) → w ≡ first_refusal (edition_checks ms r ++ (given ++ ends))
      table e = told-later _ (edition_checks ms r) (given ++ ends) refl edition (told-later _ given ends refl passes e)

      -- not at the end
      pub step_goes : eqb (serial_of ms r g) (cond back 1 (count_of ms r)) ≡ false
          → stepped_by (refused 0 0) g (composition_of ms r (next_serial back (serial_of ms r g))) ≡ step_of back ms r g
      unfolding step_of first_refusal
      step_goes on =
          let none : refused 0 0 ≡ first_refusal (edition_checks ms r ++ (given ++ ends)) = table (sym (refusal_next _ [] on)) in
          rw (← none)

      -- a part gains where there is a step
      gains : eqb (serial_of ms r g) (cond back 1 (count_of ms r)) ≡ false
          → eqb (gain_from 1 g (composition_of ms r (next_serial back (serial_of ms r g)))) 0 ≡ false
      gains on =
          let c = to_carries ms r (serial_of ms r g) (serial_pos ms r g valid) (serial_le ms r g valid) back on in
          let some = rw (composition_serial ms r g valid) at c.gain.0 in
          ne_eqb (gain_from 1 g (composition_of ms r (next_serial back (serial_of ms r g)))) 0 (λ e. omega arith)

      gone : {h : List ℕ} → AtPivot ms (cond back (r + 1) r) g h ⊎ AtEnd ms (cond back (r + 1) r) g h → shifted_by g h ≡ step_of back ms r g
      gone {h} (inl t) = let on = way_on ms r g valid back h t in rw (on.1, gains on.0) (step_goes on.0)
      gone {h} (inr t) =
          rw (t.1, gain_same 1 g)
          (refused_by NoStep (table (sym (refusal_here _ [] (way_off ms r g valid back h t)))))

      -- the step itself
      pub step_shifted : (w : ℕ) → w ≡ cond back (r + 1) r → shifted_by g (turn_of ms w g) ≡ step_of back ms r g
      step_shifted w e = rw e (gone (turned ms (cond back (r + 1) r) g (moving ms r g valid _ (way_reached back r _ refl))))
