-- The answers of a batch, from those of the places that are checked.
use mathlib.Core.Path.{◌≡◌, refl, sym, ap, ◌∙◌}
use mathlib.Core.Bool.{true, false}
use mathlib.Core.List.{List, [], ◌∷◌, ◌++◌}
use Prim.Native.Nat.{ℕ, ◌+◌, ◌-◌, ◌*◌, ◌≤◌, ◌<◌}
use native.Mathlib.Omega.{arith}
use lib.Dec.{ltb}
use lib.ListN.{length}
use borrow.Author.Tests.{eqb-true, eq-eqb, ltb-false, le-ltb, not-false}
use Rattle.walsh.specs.Order.{count_of}
use Rattle.walsh.proofs.Cases.{on_test}
use Rattle.bounds.specs.Refusal.{Check, refused, first_refusal}
use Rattle.bounds.specs.Edition.{edition_checks}
use Rattle.bounds.specs.Places.{is_no_serial, no_serial, lent_checks}
use Rattle.bounds.specs.declared.Refusal.{Refusal}
use Rattle.bounds.proofs.Refusals.{same_number, refusal_next, passed}
use Rattle.bounds.proofs.Editions.{neither}
use Rattle.bounds.proofs.Chains.{Accepts, accepts_join, answer_later}
use Rattle.bounds.proofs.Filling.{filling_refused, filling_done, filling_accepted}
use Rattle.bounds.specs.Reason.{coded}
use Rattle.bounds.specs.declared.Reason.{Reason}
use Rattle.bounds.proofs.Reasons.{coded-number, coded-first}
use Rattle.step.specs.Batch.{range_checks, batch_checks, copies_of, batch_of}

-- a serial that is refused is none of 1..all, and one that is not is one of them
module _ (all s : ℕ) {v : Refusal} (e : v ≡ first_refusal (no_serial all s ∷ [])) where
  pub serial_none : (v.number ≡ 0 → ⊥) → is_no_serial all s ≡ true
  unfolding first_refusal
  serial_none h = on_test (is_no_serial all s) (λ t. t) (λ t. absurd (h (same_number (e ∙ refusal_next (no_serial all s) [] t))))

  pub serial_some : v.number ≡ 0 → (is_no_serial all s ≡ false) × (0 < s) × (s ≤ all)
  serial_some z =
      let none = (passed (no_serial all s) [] refl (same_number (sym e) ∙ z)).0 in
      let inside = neither (ltb s 1) (ltb all s) none in
      let least = ltb-false s 1 inside.0 in
      (none, omega arith, ltb-false all s inside.1)

-- what an accepted range of serials, and an accepted lent part of `have` bytes, are
pub record Ranged (all n s c have : ℕ) : Type 0 where
  pub some : 0 < s
  pub within : s ≤ all
  pub few : s + c ≤ all + 1
  pub room : have ≡ c * n

pub ranged : (all n s c have : ℕ) {v : Refusal} → v ≡ first_refusal (range_checks all s c ++ lent_checks (c * n) have) → v.number ≡ 0
    → Ranged all n s c have
ranged all n s c have e z =
    let p6 = passed _ _ refl (ap (λ (w : Refusal). w.number) (sym e) ∙ z) in
    let p13 = passed _ _ refl p6.2 in
    let far = neither (is_no_serial all s) (ltb (all - s + 1) c) p6.0 in
    let inside = neither (ltb s 1) (ltb all s) far.0 in
    let least = ltb-false s 1 inside.0 in
    let most = ltb-false all s inside.1 in
    let last = ltb-false (all - s + 1) c far.1 in
    record { some = omega arith; within = most; few = omega arith; room = eqb-true have (c * n) (not-false _ p13.0) }

module _ (ms : List ℕ) (r s c : ℕ) (out : List ℕ) where
  abbrev range : List Check
  range = batch_checks ms r s c ++ lent_checks (c * length ms) (length out)

  pub batch_edition : (e : Reason) → coded e ≡ first_refusal (edition_checks ms r)
      → ◌≡◌ {A = Refusal × List ℕ} (coded e, out) (batch_of ms r s c out)
  unfolding batch_of
  batch_edition e v =
      filling_refused (edition_checks ms r ++ range) (copies_of ms r s c) out
      (coded-first e (edition_checks ms r) range v) (λ z. omega (arith, coded-number e, z))

  -- past the edition: `all` is N
  module _ (accepted : (first_refusal (edition_checks ms r)).number ≡ 0) {all : ℕ} (count : all ≡ count_of ms r) {v : Refusal}
      (e : v ≡ first_refusal (range_checks all s c ++ lent_checks (c * length ms) (length out))) where
    table : v ≡ first_refusal (edition_checks ms r ++ range)
    table = answer_later (edition_checks ms r) range {v = first_refusal (edition_checks ms r)} refl refl accepted (rw (← count) e)

    pub batch_done : v.number ≡ 0 → {bytes : List ℕ} → bytes ≡ copies_of ms r s c → ◌≡◌ {A = Refusal × List ℕ} (v, bytes) (batch_of ms r s c out)
    unfolding batch_of
    batch_done none is = filling_done (edition_checks ms r ++ range) (copies_of ms r s c) out table none is

  pub batch_range : (first_refusal (edition_checks ms r)).number ≡ 0 → {all : ℕ} → all ≡ count_of ms r → (e : Reason)
      → coded e ≡ first_refusal (range_checks all s c ++ lent_checks (c * length ms) (length out))
      → ◌≡◌ {A = Refusal × List ℕ} (coded e, out) (batch_of ms r s c out)
  unfolding batch_of
  batch_range accepted count e v =
      filling_refused (edition_checks ms r ++ range) (copies_of ms r s c) out (table accepted count v) (λ z. omega (arith, coded-number e, z))

  -- a batch that is accepted
  pub batch_accepts : Accepts (edition_checks ms r) → 0 < s → s ≤ count_of ms r → s + c ≤ count_of ms r + 1 → length out ≡ c * length ms
      → batch_of ms r s c out ≡ (refused 0 0, copies_of ms r s c)
  unfolding batch_of first_refusal
  batch_accepts accepted low high few room =
      filling_accepted (edition_checks ms r ++ range) (copies_of ms r s c) out refl
      (accepts_join (edition_checks ms r) range refl accepted
      (rw (le-ltb s 1 (omega arith), le-ltb (count_of ms r) s high, le-ltb (count_of ms r - s + 1) c (omega arith), eq-eqb (length out) (c * length ms) room)))
