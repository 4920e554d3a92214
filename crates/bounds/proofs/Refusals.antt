-- Laws of `first_refusal`, for every table of checks.
use mathlib.Core.Path.{◌≡◌, refl, sym, ap}
use mathlib.Core.Logic.{◌≢◌}
use mathlib.Core.Bool.{Bool, true, false, not, cond}
use mathlib.Core.List.{List, [], ◌∷◌, ◌++◌}
use Prim.Native.Nat.{ℕ, ◌<◌}
use native.Mathlib.Omega.{arith}
use lib.Dec.{ltb, eqb}
use borrow.Author.Tests.{ltb-true, eqb-true, eqb-false, eq-eqb, ne_eqb, not-true}
use Rattle.walsh.specs.Tests.{both}
use Rattle.walsh.proofs.Tests.{both_left, both_right}
use Rattle.walsh.proofs.Cases.{on_test}
use Rattle.bounds.specs.Refusal.{Check, refused, first_refusal, decided}
use Rattle.bounds.specs.declared.Refusal.{Refusal}

pub same_number : {v w : Refusal} → v ≡ w → v.number ≡ w.number
same_number e = ap (λ (v : Refusal). v.number) e

-- no check has number 0: `refl` for a table that is written out
abbrev pub numbered : List Check → Bool
numbered [] = true
numbered (c ∷ cs) = both (ltb 0 c.number) (numbered cs)

-- ---- the first check of a table

module _ (c : Check) (cs : List Check) where
  pub refusal_here : c.holds ≡ true → first_refusal (c ∷ cs) ≡ refused c.number c.detail
  unfolding first_refusal
  refusal_here e = rw e

  pub refusal_next : c.holds ≡ false → first_refusal (c ∷ cs) ≡ first_refusal cs
  unfolding first_refusal
  refusal_next e = rw e

  -- nothing is refused: the check does not hold, and the later ones refuse nothing
  pub passed : numbered (c ∷ cs) ≡ true → (first_refusal (c ∷ cs)).number ≡ 0
      → (c.holds ≡ false) × (numbered cs ≡ true) × ((first_refusal cs).number ≡ 0)
  unfolding first_refusal
  passed n e = go c.holds refl e
    where
      go : (b : Bool) → c.holds ≡ b → (cond b (refused c.number c.detail) (first_refusal cs)).number ≡ 0
          → (b ≡ false) × (numbered cs ≡ true) × ((first_refusal cs).number ≡ 0)
      go true h z = absurd (omega (arith, ltb-true 0 c.number (both_left (ltb 0 c.number) (numbered cs) n)))
      go false h z = (refl, both_right (ltb 0 c.number) (numbered cs) n, z)

-- ---- two tables one behind the other

pub refusal_first : (xs ys : List Check) → ((first_refusal xs).number ≡ 0 → ⊥) → first_refusal (xs ++ ys) ≡ first_refusal xs
unfolding first_refusal
refusal_first [] ys h = absurd (h refl)
refusal_first (c ∷ cs) ys h = on_test c.holds (λ t. rw t) (λ t. rw t (refusal_first cs ys (rw t at h)))

pub refusal_later : (xs ys : List Check) → numbered xs ≡ true → (first_refusal xs).number ≡ 0 → first_refusal (xs ++ ys) ≡ first_refusal ys
unfolding first_refusal
refusal_later [] ys n e = refl
refusal_later (c ∷ cs) ys n e = let p = passed c cs n e in rw p.0 (refusal_later cs ys p.1 p.2)

-- a table that refuses nothing gives no detail either
pub refusal_none : (xs : List Check) → numbered xs ≡ true → (first_refusal xs).number ≡ 0 → first_refusal xs ≡ refused 0 0
unfolding first_refusal
refusal_none [] n e = refl
refusal_none (c ∷ cs) n e = let p = passed c cs n e in rw p.0 (refusal_none cs p.1 p.2)

-- ---- which numbers a table can give

-- no check has number k: `refl` for a table that is written out
abbrev pub lacks : ℕ → List Check → Bool
lacks k [] = true
lacks k (c ∷ cs) = both (not (eqb c.number k)) (lacks k cs)

pub refusal_lacks : (k : ℕ) (cs : List Check) → k ≢ 0 → lacks k cs ≡ true → (first_refusal cs).number ≢ k
unfolding first_refusal
refusal_lacks k [] z n = λ e. z (sym e)
refusal_lacks k (c ∷ cs) z n =
    on_test c.holds
    (λ t. rw t (eqb-false c.number k (not-true _ (both_left (not (eqb c.number k)) (lacks k cs) n))))
    (λ t. rw t (refusal_lacks k cs z (both_right (not (eqb c.number k)) (lacks k cs) n)))

-- ---- answers that are decided by a refusal: a, or b, which has its number and its detail

module _ {A : Type 0} (v : Refusal) (a b : A) where
  pub by_refusal : (n d : ℕ) → v ≡ refused n d → 0 < n → decided v a b ≡ b
  by_refusal n d e l = rw (e, ne_eqb n 0 (λ z. omega arith))

  pub by_acceptance : v.number ≡ 0 → decided v a b ≡ a
  by_acceptance e = rw (eq-eqb v.number 0 e)

  -- what such an answer x says of v; the three equations before it are `refl`
  module _ (number detail : A → ℕ) (za : number a ≡ 0) (nb : number b ≡ v.number) (db : detail b ≡ v.detail) (x : A)
      (e : x ≡ decided v a b) where
    pub is_refused : 0 < number x → v ≡ refused (number x) (detail x)
    is_refused l =
        on_test (eqb v.number 0)
        (λ t. let z : number x ≡ 0 = rw (e, t) za in absurd (omega arith))
        (λ t. rw (e, t, nb, db))

    pub is_accepted : number x ≡ 0 → (v.number ≡ 0) × (x ≡ a)
    is_accepted z =
        on_test (eqb v.number 0)
        (λ t. (eqb-true v.number 0 t, rw t at e))
        (λ t. let n : number x ≡ v.number = rw (e, t) nb in absurd (eqb-false v.number 0 t (omega arith)))
