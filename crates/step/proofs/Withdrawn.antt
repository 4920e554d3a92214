-- Document 02, (ii): the step where kinds are withdrawn is the step of the edition without them, with the zeros put back. All kinds withdrawn leave no
-- edition: their one composition is the first and the last.
use mathlib.Core.Path.{◌≡◌, refl, sym, ap, ◌∙◌}
use mathlib.Core.Bool.{Bool, true, false, cond}
use mathlib.Core.List.{List, [], ◌∷◌, ◌++◌}
use Prim.Native.Nat.{ℕ, ◌+◌, ◌-◌, ◌*◌, ◌≤◌, ◌<◌}
use native.Mathlib.Omega.{arith}
use lib.Dec.{eqb}
use lib.ListN.{length, take, drop, replicate, length-replicate, replicate-append-replicate}
use borrow.Author.Tests.{eqb-false}
use Rattle.walsh.specs.Order.{Composition, count_of}
use Rattle.walsh.specs.Serial.{serial_of, composition_of}
use Rattle.walsh.specs.Transition.{transition}
use Rattle.walsh.specs.Withdrawn.{without, kept, spread, own_pair}
use Rattle.walsh.specs.declared.Transition.{Transition}
use Rattle.walsh.proofs.Cases.{on_test}
use Rattle.walsh.proofs.Serials.{composition_is, serial_le, serial_pos}
use Rattle.walsh.proofs.Withdrawn.{count_kept, composition_spread, without_composition, spread_without, serial_without, next_spread, previous_spread}
use Rattle.walsh.proofs.Withdrawn.{spread_more, spread_zeros, count_zeros, composition_zeros}
use Rattle.walsh.proofs.OwnKinds.{transition_spread}
use Rattle.bounds.specs.Refusal.{check, first_refusal}
use Rattle.bounds.specs.Edition.{edition_checks, cells_of, blank}
use Rattle.bounds.specs.Places.{composition_checks}
use Rattle.bounds.proofs.Refusals.{refusal_later, same_number}
use Rattle.bounds.proofs.Chains.{Accepts}
use Rattle.bounds.proofs.Compositions.{composition_passes}
use Rattle.bounds.proofs.Editions.{edition_shapely}
use Rattle.bounds.proofs.Withdrawn.{accepted_kept, accepted_zeros}
use Rattle.step.specs.Steps.{end_checks, stepped_by, next_serial, step_of, spread_step}
use Rattle.step.specs.Batch.{copies_of}
use Rattle.step.proofs.Ways.{to_inside}
use Rattle.step.proofs.Copies.{copy_at_lem}

-- where edition and composition are accepted, a step is refused by its own place alone
step_tail : (back : Bool) (ms : List ℕ) (r : ℕ) (g : List ℕ) → Accepts (edition_checks ms r) → Composition ms r g
    → step_of back ms r g ≡ stepped_by (first_refusal (end_checks back ms r g)) g (composition_of ms r (next_serial back (serial_of ms r g)))
unfolding step_of
step_tail back ms r g accepted comp =
    rw (
      refusal_later (edition_checks ms r) (composition_checks ms r g ++ end_checks back ms r g) refl accepted,
      refusal_later (composition_checks ms r g) (end_checks back ms r g) refl (same_number (composition_passes ms r g comp)),
    )

-- ---- the step of an edition with one composition: 9 both ways

pub step_single : (ms : List ℕ) (r : ℕ) (g : List ℕ) → Accepts (edition_checks ms r) → Composition ms r g → count_of ms r ≡ 1 → (back : Bool)
    → step_of back ms r g ≡ record { number = 9; detail = 0; composition = blank; gain = 0; loss = 0 }
unfolding first_refusal
step_single ms r g accepted comp one back =
    let s : serial_of ms r g ≡ 1 = omega (arith, serial_pos ms r g comp, serial_le ms r g comp) in
    step_tail back ms r g accepted comp ∙ rw (s, one) (end back)
  where
    end : (back : Bool)
        → stepped_by (first_refusal (check 9 (eqb 1 (cond back 1 1)) 0 ∷ [])) g (composition_of ms r (next_serial back 1))
        ≡ record { number = 9; detail = 0; composition = blank; gain = 0; loss = 0 }
    end true = refl
    end false = refl

-- "Ceilings all 0 with total 0 have one mix."
pub step_zeros : (n : ℕ) → 0 < n → n ≤ 24 → (back : Bool)
    → step_of back (replicate n 0) 0 (replicate n 0) ≡ record { number = 9; detail = 0; composition = blank; gain = 0; loss = 0 }
step_zeros n some few = step_single (replicate n 0) 0 (replicate n 0) (accepted_zeros n some few) (composition_zeros n) (count_zeros n)

-- ---- 24 cells

spread_cells : (ms h : List ℕ) → length h ≡ length (kept ms) → spread ms (cells_of h) ≡ spread ms h
unfolding cells_of
spread_cells ms h e = spread_more ms h (replicate (24 - length h) 0) e

spread_blank : (ms : List ℕ) → length ms ≤ 24 → blank ≡ cells_of (spread ms blank)
unfolding cells_of
spread_blank ms few =
    let all : length ms + (24 - length ms) ≡ 24 = omega arith in
    rw (spread_zeros ms 24, length-replicate {A = ℕ} (length ms) 0, replicate-append-replicate {A = ℕ} (length ms) (24 - length ms) 0, all)

module _ (ms : List ℕ) (r : ℕ) (accepted : Accepts (edition_checks ms r)) (some : 0 < length (kept ms)) (g : List ℕ) (comp : Composition ms r g) where
  few : length ms ≤ 24
  few = (edition_shapely ms r accepted).few

  shorter : Accepts (edition_checks (kept ms) r)
  shorter = (accepted_kept ms r some few).0 accepted

  -- g, and the serials of both
  abbrev short : List ℕ
  short = without ms g

  serials : serial_of ms r g ≡ serial_of (kept ms) r short
  serials = serial_without ms r g comp

  -- g is at the end
  abbrev last : Bool → Bool
  last back = eqb (serial_of ms r g) (cond back 1 (count_of ms r))

  -- the shorter composition that the step leads to
  abbrev next : Bool → List ℕ
  next back = composition_of (kept ms) r (next_serial back (serial_of (kept ms) r short))

  next_is : (back : Bool) → last back ≡ false → composition_of ms r (next_serial back (serial_of ms r g)) ≡ spread ms (next back)
  next_is false t = next_spread ms r g comp (omega (arith, serial_le ms r g comp, eqb-false (serial_of ms r g) (count_of ms r) t))
  next_is true t = previous_spread ms r g comp (omega (arith, serial_pos ms r g comp, eqb-false (serial_of ms r g) 1 t))

  size : (back : Bool) → last back ≡ false → length (next back) ≡ length (kept ms)
  size back t =
      let (low, high) = to_inside ms r (serial_of ms r g) (serial_pos ms r g comp) (serial_le ms r g comp) back t in
      (composition_is (kept ms) r (next_serial back (serial_of (kept ms) r short)) (rw serials at low) (rw (serials, count_kept ms r) at high)).size

  pair : (back : Bool) → last back ≡ false → transition g (spread ms (next back)) ≡ own_pair ms (transition short (next back))
  pair back t =
      ap (λ (l : List ℕ). transition l (spread ms (next back))) (sym (spread_without ms r g comp))
      ∙ transition_spread ms short (next back) (without_composition ms r g comp).size (size back t)

  both : (back : Bool)
      → stepped_by (first_refusal (end_checks back ms r g)) g (composition_of ms r (next_serial back (serial_of ms r g)))
      ≡ spread_step ms (stepped_by (first_refusal (end_checks back ms r g)) short (next back))
  unfolding first_refusal
  both back =
      on_test (last back)
      (λ t. rw t (ap (λ (l : List ℕ). record { number = 9; detail = 0; composition = l; gain = 0; loss = 0 }) (spread_blank ms few)))
      (λ t. rw (
        t,
        next_is back t,
        spread_cells ms (next back) (size back t),
        ap (λ (x : Transition). x.gain) (pair back t),
        ap (λ (x : Transition). x.loss) (pair back t),
      ))

  there : (back : Bool) → stepped_by (first_refusal (end_checks back ms r g)) short (next back) ≡ step_of back (kept ms) r short
  there back =
      let same : end_checks back ms r g ≡ end_checks back (kept ms) r short = rw (serials, count_kept ms r) in
      rw same (sym (step_tail back (kept ms) r short shorter (without_composition ms r g comp)))

  -- "Serials, neighbours and sales hold for these editions too": a step either way, 9 at the ends included
  pub step_withdrawn : (back : Bool) → step_of back ms r g ≡ spread_step ms (step_of back (kept ms) r (without ms g))
  step_withdrawn back = step_tail back ms r g accepted comp ∙ both back ∙ ap (spread_step ms) (there back)

-- ---- trays: copy j is that of the shorter edition, with the zeros put back

module _ (ms : List ℕ) (r : ℕ) where
  -- of n bytes each, copy number j
  abbrev copy_at : List ℕ → List ℕ → ℕ → List ℕ
  copy_at tray ns j = take (length ns) (drop (j * length ns) tray)

  pub copies_withdrawn : (s c j : ℕ) → 0 < s → s + c ≤ count_of ms r + 1 → j < c
      → copy_at (copies_of ms r s c) ms j ≡ spread ms (copy_at (copies_of (kept ms) r s c) (kept ms) j)
  copies_withdrawn s c j some within l =
      copy_at_lem ms r s some c j within l
      ∙ composition_spread ms r (s + j) (omega arith) (omega arith)
      ∙ ap (spread ms) (sym (copy_at_lem (kept ms) r s some c j (omega (arith, count_kept ms r)) l))
