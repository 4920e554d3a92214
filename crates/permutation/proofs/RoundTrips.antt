-- What an accepted call gives, the other call takes back, for any faithful reading.
use mathlib.Core.Path.{◌≡◌, refl, ap, ◌∙◌}
use mathlib.Core.List.{List}
use Prim.Native.Nat.{ℕ, ◌+◌}
use lib.ListN.{length}
use Rattle.bounds.specs.Refusal.{refused}
use Rattle.bounds.specs.Places.{filling}
use Rattle.bounds.specs.declared.Refusal.{Refusal}
use Rattle.bounds.proofs.Filling.{filling_accepted}
use Rattle.permutation.specs.Reading.{Reading, PermutationWith, Faithful}
use Rattle.permutation.specs.Conversions.{to_permutation, to_composition, to_permutation_checks, to_composition_checks}
use Rattle.permutation.proofs.Tables.{to_permutation_passed, to_permutation_passes}
use Rattle.permutation.proofs.Tables.{to_composition_numbered, to_composition_passed, to_composition_passes}

module _ {reading : Reading} (faithful : Faithful reading) (ms : List ℕ) (r : ℕ) where
  -- mix to order and back
  pub there_and_back : (g out out' : List ℕ) → (to_permutation reading ms r g out).0.number ≡ 0 → length out' ≡ length ms
      → to_composition reading ms r (to_permutation reading ms r g out).1 out' ≡ (refused 0 0, g)
  unfolding to_permutation to_composition
  there_and_back g out out' e room =
      let known = to_permutation_passed ms r g (length out) (unfold filling in e) in
      let p : List ℕ = reading.permutation g in
      let perm : PermutationWith reading (length ms + 1) r p = faithful.permutation_is ms r g known.0.stairs known.1 in
      ap
      (λ (x : Refusal × List ℕ). to_composition reading ms r x.1 out')
      (filling_accepted (to_permutation_checks ms r g (length out)) p out refl (unfold filling in e))
      ∙ filling_accepted
      (to_composition_checks reading ms r p (length out'))
      (reading.composition p)
      out'
      (to_composition_numbered reading faithful.refuses ms r p (length out'))
      (to_composition_passes reading faithful.refuses ms r p (length out') known.0 perm room)
      ∙ ap (λ (l : List ℕ). (refused 0 0, l)) (faithful.composition_back ms r g known.0.stairs known.1)

  -- order to mix and back
  pub back_and_there : (p out out' : List ℕ) → (to_composition reading ms r p out).0.number ≡ 0 → length out' ≡ length ms + 1
      → to_permutation reading ms r (to_composition reading ms r p out).1 out' ≡ (refused 0 0, p)
  unfolding to_permutation to_composition
  back_and_there p out out' e room =
      let known = to_composition_passed reading faithful.refuses ms r p (length out) (unfold filling in e) in
      let g : List ℕ = reading.composition p in
      ap
      (λ (x : Refusal × List ℕ). to_permutation reading ms r x.1 out')
      (filling_accepted
      (to_composition_checks reading ms r p (length out))
      g
      out
      (to_composition_numbered reading faithful.refuses ms r p (length out))
      (unfold filling in e))
      ∙ filling_accepted
      (to_permutation_checks ms r g (length out'))
      (reading.permutation g)
      out'
      refl
      (to_permutation_passes ms r g (length out') known.0 (faithful.composition_is ms r p known.0.stairs known.1) room)
      ∙ ap (λ (l : List ℕ). (refused 0 0, l)) (faithful.permutation_back ms r p known.0.stairs known.1)
