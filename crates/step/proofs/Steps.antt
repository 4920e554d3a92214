-- What follows for the answers of `successor` and `predecessor`: each undoes the other, with the pair exchanged, a step takes one unit from one part
-- to another, which its pair names, and no two compositions have the same successor. So "a step that always hands out the same mix" (document 01, "Serial and mix") has not these answers.
use mathlib.Core.Path.{◌≡◌, refl, sym, ap, ◌∙◌}
use mathlib.Core.Bool.{Bool, true, false, cond, not}
use mathlib.Core.List.{List, ◌++◌}
use Prim.Native.Nat.{ℕ, ◌≤◌, ◌<◌}
use lib.Dec.{eqb}
use lib.ListN.{length, take}
use lib.Seq.{take_at}
use Rattle.walsh.specs.Order.{Composition, count_of}
use Rattle.walsh.specs.Serial.{serial_of, composition_of}
use Rattle.walsh.specs.Transition.{transition, Carries}
use Rattle.walsh.specs.Withdrawn.{BothLeft}
use Rattle.walsh.proofs.Serials.{composition_is, serial_composition, composition_serial, serial_pos, serial_le}
use Rattle.walsh.proofs.OwnKinds.{carries_left}
use Rattle.bounds.specs.Refusal.{refused}
use Rattle.bounds.specs.Edition.{edition_checks, cells_of}
use Rattle.bounds.specs.Places.{composition_checks}
use Rattle.bounds.proofs.Refusals.{is_accepted, passed, refusal_none}
use Rattle.bounds.proofs.Chains.{Accepts, accepts_split}
use Rattle.bounds.proofs.Compositions.{composition_passed, composition_passes}
use Rattle.step.specs.Steps.{end_checks, next_serial, stepped_by, step_of, successor_of, predecessor_of, pair_of, back_from}
use Rattle.step.specs.declared.Stepped.{Stepped}
use Rattle.step.proofs.Answers.{step_goes}
use Rattle.step.proofs.Ways.{to_inside, to_on, to_back, to_carries}
use Rattle.step.proofs.Cells.{cells_front}

-- ---- an accepted step, either way

module _ (back : Bool) (ms : List ℕ) (r : ℕ) (g : List ℕ) where
  abbrev s : ℕ
  s = serial_of ms r g

  abbrev to : ℕ
  to = next_serial back s

  -- the parts of the answer
  abbrev answer : List ℕ
  answer = take (length ms) (step_of back ms r g).composition

  -- what an accepted step knows
  record Step : Type 0 where
    edition : Accepts (edition_checks ms r)
    valid : Composition ms r g
    on : eqb (serial_of ms r g) (cond back 1 (count_of ms r)) ≡ false
    is : step_of back ms r g ≡ stepped_by (refused 0 0) g (composition_of ms r (next_serial back (serial_of ms r g)))

  step : (step_of back ms r g).number ≡ 0 → Step
  unfolding step_of
  step ok =
      let a = is_accepted _ _ _ (λ (x : Stepped). x.number) (λ (x : Stepped). x.detail) refl refl refl (step_of back ms r g) refl ok in
      let p = accepts_split (edition_checks ms r) (composition_checks ms r g ++ end_checks back ms r g) refl a.0 in
      let q = accepts_split (composition_checks ms r g) (end_checks back ms r g) refl p.1 in
      record { edition = p.0; valid = composition_passed ms r g q.0; on = (passed _ _ refl q.1).0; is = a.1 }

module _ (back : Bool) (ms : List ℕ) (r : ℕ) (g : List ℕ) (ok : (step_of back ms r g).number ≡ 0) where
  at : Step back ms r g
  at = step back ms r g ok

  inside : (0 < to back ms r g) × (to back ms r g ≤ count_of ms r)
  inside = to_inside ms r (s back ms r g) (serial_pos ms r g at.valid) (serial_le ms r g at.valid) back at.on

  answer_is : answer back ms r g ≡ composition_of ms r (to back ms r g)
  answer_is = cells_front ms r (to back ms r g) _ inside.0 inside.1 (ap (λ (x : Stepped). x.composition) at.is)

  -- where an accepted step leads
  pub step_to : Accepts (edition_checks ms r) × (0 < to back ms r g) × (to back ms r g ≤ count_of ms r)
      × (answer back ms r g ≡ composition_of ms r (to back ms r g))
  step_to = (at.edition, inside.0, inside.1, answer_is)

  -- the pair is that from g to the answer
  pair_is : pair_of (step_of back ms r g) ≡ transition g (answer back ms r g)
  pair_is = rw (answer_is, at.is)

  -- the step the other way leads back, and its pair is exchanged
  returned : step_of (not back) ms r (answer back ms r g) ≡ back_from (step_of back ms r g) g
  returned =
      let h = composition_of ms r (to back ms r g) in
      let serial : serial_of ms r h ≡ to back ms r g = serial_composition ms r (to back ms r g) inside.0 inside.1 in
      let valid : Composition ms r h = composition_is ms r (to back ms r g) inside.0 inside.1 in
      let pos = serial_pos ms r g at.valid in
      let le = serial_le ms r g at.valid in
      rw answer_is
      (sym (step_goes (not back) ms r h (sym (refusal_none (edition_checks ms r) refl at.edition))
      (sym (composition_passes ms r h valid)) (rw serial (to_on ms r (s back ms r g) pos le back)))
      ∙ rw (serial, to_back ms r (s back ms r g) pos le back, composition_serial ms r g at.valid, at.is))

  -- and it names the two kinds that the step changes
  carries : Carries (length ms) g (answer back ms r g) (pair_of (step_of back ms r g))
  carries =
      let c = to_carries ms r (s back ms r g) (serial_pos ms r g at.valid) (serial_le ms r g at.valid) back at.on in
      rw (pair_is, answer_is) (rw (composition_serial ms r g at.valid) at c)

  -- none of the two is withdrawn
  left : BothLeft ms (pair_of (step_of back ms r g))
  left = carries_left ms r at.valid (rw answer_is (composition_is ms r (to back ms r g) inside.0 inside.1)) carries

-- ---- the theorems

module _ (ms : List ℕ) (r : ℕ) (g : List ℕ) where
  -- the parts of the answers
  abbrev pub after : List ℕ
  after = take (length ms) (successor_of ms r g).composition

  abbrev pub before : List ℕ
  before = take (length ms) (predecessor_of ms r g).composition

  pub forward_backward : (successor_of ms r g).number ≡ 0 → predecessor_of ms r after ≡ back_from (successor_of ms r g) g
  forward_backward ok = returned false ms r g ok

  pub backward_forward : (predecessor_of ms r g).number ≡ 0 → successor_of ms r before ≡ back_from (predecessor_of ms r g) g
  backward_forward ok = returned true ms r g ok

  -- the answer has one tile more of the gaining kind, one fewer of the losing kind, and as many of each other
  pub forward_pair : (successor_of ms r g).number ≡ 0 → Carries (length ms) g after (pair_of (successor_of ms r g))
  forward_pair ok = carries false ms r g ok

  pub backward_pair : (predecessor_of ms r g).number ≡ 0 → Carries (length ms) g before (pair_of (predecessor_of ms r g))
  backward_pair ok = carries true ms r g ok

  -- document 02, (ii): a pair names no withdrawn kind
  pub forward_left : (successor_of ms r g).number ≡ 0 → BothLeft ms (pair_of (successor_of ms r g))
  forward_left ok = left false ms r g ok

  pub backward_left : (predecessor_of ms r g).number ≡ 0 → BothLeft ms (pair_of (predecessor_of ms r g))
  backward_left ok = left true ms r g ok

-- two compositions with the same successor are the same
pub forward_once : (ms : List ℕ) (r : ℕ) (g h : List ℕ) → (successor_of ms r g).number ≡ 0 → (successor_of ms r h).number ≡ 0
    → successor_of ms r g ≡ successor_of ms r h → g ≡ h
unfolding cells_of
forward_once ms r g h okg okh e =
    let n = length ms in
    let vg = (at false ms r g okg).valid in
    let vh = (at false ms r h okh).valid in
    let same : predecessor_of ms r (after ms r g) ≡ predecessor_of ms r (after ms r h) =
    ap (λ (x : Stepped). predecessor_of ms r (take n x.composition)) e in
    let cells : cells_of g ≡ cells_of h =
    ap (λ (x : Stepped). x.composition) (sym (forward_backward ms r g okg) ∙ same ∙ forward_backward ms r h okh) in
    sym (take_at g _ n vg.size) ∙ ap (take n) cells ∙ take_at h _ n vh.size
