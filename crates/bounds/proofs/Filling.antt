-- Laws of `filling`: what a call that fills a lent part leaves, from its refusal.
use mathlib.Core.Path.{◌≡◌}
use mathlib.Core.Bool.{true}
use mathlib.Core.List.{List}
use Prim.Native.Nat.{ℕ}
use borrow.Author.Tests.{eq-eqb, ne_eqb}
use Rattle.bounds.specs.Refusal.{Check, refused, first_refusal}
use Rattle.bounds.specs.Places.{filling}
use Rattle.bounds.specs.declared.Refusal.{Refusal}
use Rattle.bounds.proofs.Refusals.{numbered, refusal_none}

module _ (checks : List Check) (bytes out : List ℕ) where
  -- a call that answers v leaves the part as it was, or filled
  module _ {v : Refusal} (e : v ≡ first_refusal checks) where
    pub filling_refused : (v.number ≡ 0 → ⊥) → ◌≡◌ {A = Refusal × List ℕ} (v, out) (filling checks bytes out)
    unfolding filling
    filling_refused some = rw (← e, ne_eqb v.number 0 some)

    pub filling_done : {l : List ℕ} → v.number ≡ 0 → l ≡ bytes → ◌≡◌ {A = Refusal × List ℕ} (v, l) (filling checks bytes out)
    unfolding filling
    filling_done none is = rw (← e, eq-eqb v.number 0 none, is)

  -- an accepted call
  pub filling_accepted : numbered checks ≡ true → (first_refusal checks).number ≡ 0 → filling checks bytes out ≡ (refused 0 0, bytes)
  unfolding filling
  filling_accepted n e = rw (refusal_none checks n e)
