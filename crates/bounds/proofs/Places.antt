-- Laws of the places 'serial given' and 'lent part' (specs/Places.antt): what an accepted call knows, and which call is accepted.
use mathlib.Core.Path.{◌≡◌, refl}
use mathlib.Core.List.{List}
use Prim.Native.Nat.{ℕ, ◌≤◌, ◌<◌}
use native.Mathlib.Omega.{arith}
use lib.Dec.{ltb}
use borrow.Author.Tests.{eqb-true, eq-eqb, ltb-false, le-ltb, not-false}
use Rattle.walsh.specs.Order.{count_of}
use Rattle.bounds.specs.Refusal.{refused, first_refusal}
use Rattle.bounds.specs.Places.{serial_checks, lent_checks}
use Rattle.bounds.proofs.Refusals.{passed}
use Rattle.bounds.proofs.Editions.{neither}

module _ (ms : List ℕ) (r s : ℕ) where
  pub serial_passed : (first_refusal (serial_checks ms r s)).number ≡ 0 → (0 < s) × (s ≤ count_of ms r)
  serial_passed e =
      let n = neither (ltb s 1) (ltb (count_of ms r) s) (passed _ _ refl e).0 in
      (omega (arith, ltb-false s 1 n.0), ltb-false (count_of ms r) s n.1)

  pub serial_passes : 0 < s → s ≤ count_of ms r → first_refusal (serial_checks ms r s) ≡ refused 0 0
  unfolding first_refusal
  serial_passes l h = rw (le-ltb s 1 (omega arith), le-ltb (count_of ms r) s h)

module _ (want have : ℕ) where
  pub lent_passed : (first_refusal (lent_checks want have)).number ≡ 0 → have ≡ want
  lent_passed e = eqb-true have want (not-false _ (passed _ _ refl e).0)

  pub lent_passes : have ≡ want → first_refusal (lent_checks want have) ≡ refused 0 0
  unfolding first_refusal
  lent_passes e = rw (eq-eqb have want e)
