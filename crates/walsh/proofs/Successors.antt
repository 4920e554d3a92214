-- The steps in serials: from the composition of a serial to that of the next, and to that of the one before.
use mathlib.Core.Path.{◌≡◌, sym, ap, ◌∙◌}
use mathlib.Core.Logic.{◌↔◌}
use mathlib.Core.List.{List, []}
use Prim.Native.Nat.{ℕ, suc, ◌+◌, ◌-◌, ◌≤◌, ◌<◌}
use native.Mathlib.Omega.{arith}
use lib.ListN.{length, get_or}
use Rattle.walsh.specs.Sums.{sum_to}
use Rattle.walsh.specs.Order.{Composition, order, count_of}
use Rattle.walsh.specs.Serial.{serial_of, composition_of}
use Rattle.walsh.specs.Rank.{rank_of}
use Rattle.walsh.specs.Step.{first_of, AtLast, Pivot, step_at}
use Rattle.walsh.proofs.Serials.{count_length, serial_rank}
use Rattle.walsh.proofs.Ends.{first_at, first_lt, last_at}
use Rattle.walsh.proofs.Steps.{no_pivot, succ_at, succ_last, pred_at, pred_first}

-- ---- the ends

module _ (ms : List ℕ) (r : ℕ) (fits : r ≤ sum_to ms (length ms)) where
  -- a total that the bounds can hold has a composition
  pub count_pos : 0 < count_of ms r
  unfolding order
  count_pos = omega (arith, count_length ms r, first_lt ms (length ms) r 0 fits)

  pub first_composition : composition_of ms r 1 ≡ first_of ms (length ms) r 0
  unfolding composition_of order
  first_composition = first_at ms (length ms) r 0 fits

  pub last_composition : composition_of ms r (count_of ms r) ≡ first_of ms (length ms) r 1
  unfolding composition_of order
  last_composition = last_at ms (length ms) r 0 (count_of ms r - 1) fits (omega (arith, count_length ms r, count_pos))

-- ---- one serial on, and one back

module _ (ms : List ℕ) (r : ℕ) (g : List ℕ) (valid : Composition ms r g) where
  abbrev rank : ℕ
  rank = rank_of ms (length ms) r 0 g

  -- the entry at a rank, by its serial
  entry : (p s : ℕ) → s ≡ suc p → get_or (order ms r) p [] ≡ composition_of ms r s
  unfolding composition_of
  entry p s e =
      let at : p ≡ s - 1 = omega arith in
      ap (λ (q : ℕ). get_or (order ms r) q []) at

  pub successor_at : (i : ℕ) → i < length ms → Pivot ms r g i
      → (serial_of ms r g < count_of ms r) × (step_at ms r g i ≡ composition_of ms r (serial_of ms r g + 1))
  successor_at i h pivot =
      let next = succ_at ms r g valid i h pivot in
      let serial = serial_rank ms r g valid in (
        omega (arith, next.0, count_length ms r),
        sym next.1 ∙ entry (suc rank) (serial_of ms r g + 1) (omega arith),
      )

  pub predecessor_at : (i : ℕ) → i < length ms → Pivot ms (suc r) g i
      → (1 < serial_of ms r g) × (step_at ms (suc r) g i ≡ composition_of ms r (serial_of ms r g - 1))
  predecessor_at i h pivot =
      let back = pred_at ms r g valid i h pivot in
      let serial = serial_rank ms r g valid in (
        omega (arith, back.0),
        sym back.1 ∙ entry (rank - 1) (serial_of ms r g - 1) (omega (arith, back.0)),
      )

  -- there is no next exactly at the last serial: where every part is at its last value
  pub successor_none : ((j : ℕ) → j < length ms → AtLast ms r g j) ↔ (serial_of ms r g ≡ count_of ms r)
  successor_none = (
    λ done. omega (arith, succ_last ms r g valid done, serial_rank ms r g valid, count_length ms r),
    λ e. no_pivot ms r g (length ms) (λ i h pivot. omega (arith, (successor_at i h pivot).0)),
  )

  -- and none before exactly at serial 1
  pub predecessor_none : ((j : ℕ) → j < length ms → AtLast ms (suc r) g j) ↔ (serial_of ms r g ≡ 1)
  predecessor_none = (
    λ done. omega (arith, pred_first ms r g valid done, serial_rank ms r g valid),
    λ e. no_pivot ms (suc r) g (length ms) (λ i h pivot. omega (arith, (predecessor_at i h pivot).0)),
  )
