-- What follows from the contracts alone, of calls of the code: each hypothesis is what the contract of a call says of its answer and of the bytes
-- that it left.
use mathlib.Core.Path.{◌≡◌, refl, sym, ap, ◌∙◌}
use mathlib.Core.List.{List, []}
use Prim.Native.Nat.{ℕ, ◌+◌, ◌-◌, ◌*◌, ◌<◌}
use native.Mathlib.Nat.{le_refl}
use native.Mathlib.Omega.{arith}
use lib.ListN.{length, get_or, take, drop}
use Rattle.walsh.specs.Order.{order, count_of}
use Rattle.walsh.specs.Serial.{composition_of}
use Rattle.bounds.specs.Refusal.{first_refusal}
use Rattle.bounds.specs.Edition.{edition_checks, bounds_of, blank_bounds}
use Rattle.bounds.specs.Places.{filling}
use Rattle.bounds.specs.declared.Refusal.{Refusal}
use Rattle.bounds.proofs.Refusals.{is_accepted}
use Rattle.count.specs.Checked.{check_of}
use Rattle.count.specs.declared.Checked.{Checked}
use Rattle.step.specs.Batch.{copies_of, batch_of}
use Rattle.step.proofs.Copies.{copies_length, copy_at_lem}
use Rattle.listing.specs.Listing.{listing_of}
use Rattle.listing.proofs.Whole.{listing_batch}

-- an accepted edition's N, as `check` answers it
checked_count : (ms : List ℕ) (r : ℕ) (x : Checked) → x ≡ check_of ms r → x.number ≡ 0 → x.count ≡ count_of ms r
unfolding check_of
checked_count ms r x e ok =
    let v : Refusal = first_refusal (edition_checks ms r) in
    let here : Checked = record { number = 0; detail = 0; bounds = bounds_of ms r; count = count_of ms r } in
    let none : Checked = record { number = v.number; detail = v.detail; bounds = blank_bounds; count = 0 } in
    ap (λ (y : Checked). y.count) (is_accepted v here none (λ (y : Checked). y.number) (λ (y : Checked). y.detail) refl refl refl x e ok).1

-- a call of `list`, which found the bytes `out` and left the bytes `left`
module _ (ms : List ℕ) (r : ℕ) (out left : List ℕ) (v : Refusal) (e : (v, left) ≡ listing_of ms r out) where
  -- "its tray equals the tray made from serial 1 with N copies": a call of `check` answered N, and a call of `batch` from serial 1 with N copies,
  -- over the same bytes, left the bytes `other`. The refusals are the same too.
  pub listing_then_batch : (x : Checked) (w : Refusal) (other : List ℕ)
      → x ≡ check_of ms r → x.number ≡ 0
      → (w, other) ≡ batch_of ms r 1 x.count out
      → ◌≡◌ {A = Refusal × List ℕ} (v, left) (w, other)
  listing_then_batch x w other a ok f =
      e ∙ listing_batch ms r out ∙ ap (λ (c : ℕ). batch_of ms r 1 c out) (sym (checked_count ms r x a ok)) ∙ sym f

  -- an accepted call
  module _ (ok : v.number ≡ 0) where
    -- the whole tray is written
    pub listing_whole : (left ≡ copies_of ms r 1 (count_of ms r)) × (length left ≡ count_of ms r * length ms)
    unfolding listing_of filling
    listing_whole =
        let done = ap (λ (p : Refusal × List ℕ). p.0.number) (sym e) ∙ ok in
        let bytes : left ≡ copies_of ms r 1 (count_of ms r) = ap (λ (p : Refusal × List ℕ). p.1) e ∙ rw done in
        (bytes, ap length bytes ∙ copies_length ms r 1 (le_refl 1) (count_of ms r) (omega arith))

    -- and is the order, entry by entry
    pub listing_entry : (j : ℕ) → j < count_of ms r → take (length ms) (drop (j * length ms) left) ≡ get_or (order ms r) j []
    unfolding composition_of
    listing_entry j l =
        let place : 1 + j - 1 ≡ j = omega arith in
        ap (λ (b : List ℕ). take (length ms) (drop (j * length ms) b)) listing_whole.0
        ∙ copy_at_lem ms r 1 (le_refl 1) (count_of ms r) j (omega arith) l
        ∙ ap (λ (p : ℕ). get_or (order ms r) p []) place
