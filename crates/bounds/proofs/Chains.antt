-- Two tables one behind the other: they refuse nothing exactly if neither does, and a call that checks one after the other answers theirs.
use mathlib.Core.Path.{◌≡◌, sym, ◌∙◌}
use mathlib.Core.Bool.{true}
use mathlib.Core.List.{List, ◌++◌}
use native.Mathlib.Decide.{ℕ_discrete}
use Rattle.bounds.specs.Refusal.{Check, first_refusal}
use Rattle.bounds.specs.declared.Refusal.{Refusal}
use Rattle.bounds.proofs.Refusals.{numbered, refusal_first, refusal_later, same_number}

-- the table refuses nothing
abbrev pub Accepts : List Check → Type 0
Accepts checks = (first_refusal checks).number ≡ 0

module _ (xs ys : List Check) (n : numbered xs ≡ true) where
  pub accepts_split : Accepts (xs ++ ys) → Accepts xs × Accepts ys
  accepts_split e = go (ℕ_discrete (first_refusal xs).number 0)
    where
      go : Dec ((first_refusal xs).number ≡ 0) → Accepts xs × Accepts ys
      go (yes z) = (z, same_number (sym (refusal_later xs ys n z)) ∙ e)
      go (no z) = absurd (z (same_number (sym (refusal_first xs ys z)) ∙ e))

  pub accepts_join : Accepts xs → Accepts ys → Accepts (xs ++ ys)
  accepts_join x y = same_number (refusal_later xs ys n x) ∙ y

-- a call that has the answer of the first table returns it, or goes on to the second
module _ (xs ys : List Check) {v : Refusal} (e : v ≡ first_refusal xs) where
  number_is : (first_refusal xs).number ≡ v.number
  number_is = same_number (sym e)

  pub answer_first : (v.number ≡ 0 → ⊥) → v ≡ first_refusal (xs ++ ys)
  answer_first some = e ∙ sym (refusal_first xs ys (λ z. some (sym number_is ∙ z)))

  pub answer_later : numbered xs ≡ true → v.number ≡ 0 → {w : Refusal} → w ≡ first_refusal ys → w ≡ first_refusal (xs ++ ys)
  answer_later n none later = later ∙ sym (refusal_later xs ys n (number_is ∙ none))
