-- From the step at a part to the step in serials, forward and backward, and the step in place.
use mathlib.Core.Path.{◌≡◌, sym, ap, ◌∙◌}
use mathlib.Core.Logic.{◌⊎◌, inl, inr}
use mathlib.Core.Bool.{Bool, true, false, cond, not}
use mathlib.Core.List.{List}
use Prim.Native.Nat.{ℕ, ◌+◌, ◌-◌, ◌≤◌, ◌<◌}
use native.Mathlib.Nat.{le_refl}
use native.Mathlib.Numerals.{add-one}
use native.Mathlib.Omega.{arith}
use lib.Dec.{eqb, ltb, leb}
use lib.ListN.{length}
use borrow.Author.Tests.{eqb-true, eqb-false, ltb-true, leb-true, eq-eqb, ne_eqb, le-ltb, le-leb}
use Rattle.walsh.specs.Tests.{both}
use Rattle.walsh.specs.Order.{Composition, count_of}
use Rattle.walsh.specs.Serial.{serial_of, composition_of}
use Rattle.walsh.specs.Neighbours.{Adjacent}
use Rattle.walsh.specs.Transition.{transition, transition_at, Carries}
use Rattle.walsh.specs.declared.Transition.{Transition}
use Rattle.walsh.proofs.Cases.{on_test, on_less}
use Rattle.walsh.proofs.Tests.{both_left, both_right}
use Rattle.walsh.proofs.Serials.{composition_is, serial_composition, composition_serial, serial_pos}
use Rattle.walsh.proofs.Successors.{successor_at, successor_none, predecessor_at, predecessor_none}
use Rattle.walsh.proofs.Gray.{neighbours_sym}
use Rattle.walsh.proofs.Transitions.{transition_same, transition_carries, transition_none, transition_some, near_serial}
use Rattle.step.specs.Advance.{advance_of, pivot_of, turn_at, turn_of, sized, turn_any, Advances, Retreats}
use Rattle.step.specs.Steps.{next_serial}
use Rattle.step.proofs.Pivots.{pivot_first}
use Rattle.step.proofs.Turns.{Moving, AtPivot, AtEnd, turned}

pub way_reached : (back : Bool) (r w : ℕ) → w ≡ cond back (r + 1) r → r ≤ w
way_reached true r w e = omega arith
way_reached false r w e = omega arith

module _ (ms : List ℕ) (r : ℕ) (g : List ℕ) (valid : Composition ms r g) where
  abbrev s : ℕ
  s = serial_of ms r g

  -- forward with r, backward with r + 1
  pub moving : (w : ℕ) → r ≤ w → Moving ms w g
  moving w l = record { size = valid.size; fits = valid.parts.fits; reached = omega (arith, valid.parts.sums) }

  pub way_on : (back : Bool) (h : List ℕ) → AtPivot ms (cond back (r + 1) r) g h
      → (eqb (serial_of ms r g) (cond back 1 (count_of ms r)) ≡ false) × (h ≡ composition_of ms r (next_serial back (serial_of ms r g)))
  way_on true h t =
      let (i, inside, pivot, is) = rw add-one at t in
      let next = predecessor_at ms r g valid i inside pivot in
      (ne_eqb s 1 (λ e. omega (arith, next.0)), rw (is, next.1))
  way_on false h (i, inside, pivot, is) =
      let next = successor_at ms r g valid i inside pivot in
      (ne_eqb s (count_of ms r) (λ e. omega (arith, next.0)), rw (is, next.1))

  pub way_off : (back : Bool) (h : List ℕ) → AtEnd ms (cond back (r + 1) r) g h → eqb (serial_of ms r g) (cond back 1 (count_of ms r)) ≡ true
  way_off true h t = eq-eqb s 1 ((predecessor_none ms r g valid).0 (rw add-one at t).0)
  way_off false h t = eq-eqb s (count_of ms r) ((successor_none ms r g valid).0 t.0)

  -- the turn of a composition is the step to the next
  pub turn_forward : turn_of ms r g ≡ advance_of ms r g
  unfolding advance_of
  turn_forward = go (turned ms r g (moving r (le_refl r)))
    where
      go : {h : List ℕ} → AtPivot ms r g h ⊎ AtEnd ms r g h → h ≡ advance_of ms r g
      go {h} (inl t) = let on = way_on false h t in rw on.0 on.1
      go {h} (inr t) = rw (way_off false h t) t.1

  -- and backward it leads to the one before, so that the way from there is the pair of its serial
  pub turn_before : transition (turn_of ms (r + 1) g) g ≡ transition_at ms r (serial_of ms r g)
  turn_before = go (turned ms (r + 1) g (moving (r + 1) (omega arith)))
    where
      go : {h : List ℕ} → AtPivot ms (r + 1) g h ⊎ AtEnd ms (r + 1) g h → transition h g ≡ transition_at ms r (serial_of ms r g)
      go {h} (inl t) =
          let on = way_on true h t in
          let ne = eqb-false s 1 on.0 in
          sym (transition_some ms r s (omega (arith, serial_pos ms r g valid)) ∙ rw (← on.1, composition_serial ms r g valid))
      go {h} (inr t) =
          let one = eqb-true s 1 (way_off true h t) in
          rw t.1 (transition_same g ∙ sym (transition_none ms r s (omega arith)))

-- ---- the serial that a step goes to is one of 1..n, the way back from it does not end there and leads to s, and the two are next to each other

module _ (ms : List ℕ) (r s : ℕ) (some : 0 < s) (most : s ≤ count_of ms r) where
  pub to_inside : (back : Bool) → eqb s (cond back 1 (count_of ms r)) ≡ false → (0 < next_serial back s) × (next_serial back s ≤ count_of ms r)
  to_inside true e = let ne = eqb-false s 1 e in (omega arith, omega arith)
  to_inside false e = let ne = eqb-false s (count_of ms r) e in (omega arith, omega arith)

  pub to_on : (back : Bool) → eqb (next_serial back s) (cond (not back) 1 (count_of ms r)) ≡ false
  to_on true = ne_eqb (s - 1) (count_of ms r) (λ e. omega arith)
  to_on false = ne_eqb (s + 1) 1 (λ e. omega arith)

  pub to_back : (back : Bool) → next_serial (not back) (next_serial back s) ≡ s
  to_back true = omega arith
  to_back false = omega arith

  to_near : (back : Bool) → eqb s (cond back 1 (count_of ms r)) ≡ false
      → Adjacent (length ms) (composition_of ms r s) (composition_of ms r (next_serial back s))
  to_near true e =
      let ne = eqb-false s 1 e in
      let at : s - 1 + 1 ≡ s = omega arith in
      let (gain, loss, g, l, n) = rw at at (near_serial ms r (s - 1) (omega arith) (omega arith)) in
      (loss, gain, l, g, neighbours_sym n)
  to_near false e = let ne = eqb-false s (count_of ms r) e in near_serial ms r s some (omega arith)

  pub to_carries : (back : Bool) → eqb s (cond back 1 (count_of ms r)) ≡ false
      → Carries (length ms) (composition_of ms r s) (composition_of ms r (next_serial back s))
      (transition (composition_of ms r s) (composition_of ms r (next_serial back s)))
  to_carries back e =
      let inside = to_inside back e in
      transition_carries (composition_is ms r s some most).size
      (composition_is ms r (next_serial back s) inside.0 inside.1).size
      (to_near back e)

-- ---- the step in place

module _ (ms g : List ℕ) where
  pub sized_is : sized ms g ≡ true → (0 < length ms) × (length ms ≤ 24) × (length g ≡ length ms)
  sized_is e =
      let rest = both_right (ltb 0 (length ms)) (both (leb (length ms) 24) (eqb (length g) (length ms))) e in (
        ltb-true 0 (length ms) (both_left (ltb 0 (length ms)) (both (leb (length ms) 24) (eqb (length g) (length ms))) e),
        leb-true (length ms) 24 (both_left (leb (length ms) 24) (eqb (length g) (length ms)) rest),
        eqb-true (length g) (length ms) (both_right (leb (length ms) 24) (eqb (length g) (length ms)) rest),
      )

module _ (ms : List ℕ) (w : ℕ) (g : List ℕ) where
  pub any_other : sized ms g ≡ false → g ≡ turn_any ms w g
  unfolding turn_any
  any_other e = rw e

  pub any_turn : sized ms g ≡ true → turn_of ms w g ≡ turn_any ms w g
  unfolding turn_any
  any_turn e = rw e

  -- where there is one part at most, none can move
  turn_nil : length ms ≤ 1 → turn_of ms w g ≡ g
  unfolding turn_at
  turn_nil e = rw (le-ltb (pivot_of ms w g) (length ms) (omega (arith, (pivot_first ms w g).low)))

  pub any_sized : length ms ≤ 24 → length g ≡ length ms → turn_any ms w g ≡ turn_of ms w g
  any_sized few size =
      on_less 0 (length ms)
      (λ l t. sym (any_turn (rw (t, le-leb (length ms) 24 few, eq-eqb (length g) (length ms) size))))
      (λ l t. sym (turn_nil (omega arith) ∙ any_other (rw t)))

  pub any_few : length ms ≤ 1 → turn_any ms w g ≡ g
  any_few l = on_test (sized ms g) (λ t. sym (any_turn t) ∙ turn_nil l) (λ t. sym (any_other t))

module _ (ms : List ℕ) (r : ℕ) (g : List ℕ) where
  -- the equation for all bytes says of a composition that the next one is left
  pub advances : {x : Transition} {h : List ℕ} → h ≡ turn_any ms r g → x ≡ transition g h → Advances ms r g x h
  advances e p =
      record {
        always = e;
        next = λ few valid. e ∙ any_sized ms r g few valid.size ∙ turn_forward ms r g valid;
        pair = p;
      }

  -- and of the pair that leads to it, that it is the one of its serial
  pub retreats : {x : Transition} {h : List ℕ} → h ≡ turn_any ms (r + 1) g → x ≡ transition h g → Retreats ms r g x h
  retreats {x} {h} e p =
      record {
        always = e;
        back = p;
        pair =
            λ few valid. p
            ∙ ap (λ (q : List ℕ). transition q g) (e ∙ any_sized ms (r + 1) g few valid.size)
            ∙ turn_before ms r g valid;
      }

-- from the composition of a serial below N
pub advance_serial : (ms : List ℕ) (r s : ℕ) → 0 < s → s < count_of ms r
    → advance_of ms r (composition_of ms r s) ≡ composition_of ms r (s + 1)
unfolding advance_of
advance_serial ms r s some l =
    let is = serial_composition ms r s some (omega arith) in
    rw (is, ne_eqb s (count_of ms r) (λ e. omega arith))
