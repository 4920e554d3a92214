-- What follows from the contracts alone, of two calls of the code, for any faithful reading: each hypothesis is what the contract of a call
-- says of it, its answer and the bytes that it left.
use mathlib.Core.Path.{◌≡◌, sym, ap, ◌∙◌}
use mathlib.Core.List.{List}
use Prim.Native.Nat.{ℕ, ◌+◌}
use lib.ListN.{length}
use Rattle.bounds.specs.Refusal.{refused}
use Rattle.bounds.specs.declared.Refusal.{Refusal}
use Rattle.permutation.specs.Reading.{Reading, by_inversions, Faithful}
use Rattle.permutation.specs.Conversions.{to_permutation, to_composition}
use Rattle.permutation.proofs.ByInversions.{by_inversions_lem}
use Rattle.permutation.proofs.RoundTrips.{there_and_back, back_and_there}

abbrev Call : Type 0
Call = Refusal × List ℕ

-- the two halves of a call that is known whole
halves : {v : Refusal} {l g : List ℕ} → ◌≡◌ {A = Call} (v, l) (refused 0 0, g) → (v ≡ refused 0 0) × (l ≡ g)
halves e = (ap (λ (x : Call). x.0) e, ap (λ (x : Call). x.1) e)

module _ {reading : Reading} (faithful : Faithful reading) (ms : List ℕ) (r : ℕ) where
  -- mix to order and back: the first call accepts g and leaves p, then the other is called on p with a part of n bytes, answers w and leaves h
  pub back_to_composition : (g out p out' h : List ℕ) (v w : Refusal)
      → (v, p) ≡ to_permutation reading ms r g out → v.number ≡ 0
      → length out' ≡ length ms → (w, h) ≡ to_composition reading ms r p out'
      → (w ≡ refused 0 0) × (h ≡ g)
  back_to_composition g out p out' h v w e ok n f =
      halves
      (f
      ∙ ap (λ (x : Call). to_composition reading ms r x.1 out') e
      ∙ there_and_back faithful ms r g out out' (ap (λ (x : Call). x.0.number) (sym e) ∙ ok) n)

  -- order to mix and back: the first call accepts p and leaves g, then the other is called on g with a part of k bytes, answers w and leaves q
  pub back_to_permutation : (p out g out' q : List ℕ) (v w : Refusal)
      → (v, g) ≡ to_composition reading ms r p out → v.number ≡ 0
      → length out' ≡ length ms + 1 → (w, q) ≡ to_permutation reading ms r g out'
      → (w ≡ refused 0 0) × (q ≡ p)
  back_to_permutation p out g out' q v w e ok n f =
      halves
      (f
      ∙ ap (λ (x : Call). to_permutation reading ms r x.1 out') e
      ∙ back_and_there faithful ms r p out out' (ap (λ (x : Call). x.0.number) (sym e) ∙ ok) n)

module _ (ms : List ℕ) (r : ℕ) where
  -- `permutation`, then `inversions`
  pub permutation_then_inversions : (g out p out' h : List ℕ) (v w : Refusal)
      → (v, p) ≡ to_permutation by_inversions ms r g out → v.number ≡ 0
      → length out' ≡ length ms → (w, h) ≡ to_composition by_inversions ms r p out'
      → (w ≡ refused 0 0) × (h ≡ g)
  permutation_then_inversions = back_to_composition by_inversions_lem ms r

  -- `inversions`, then `permutation`
  pub inversions_then_permutation : (p out g out' q : List ℕ) (v w : Refusal)
      → (v, g) ≡ to_composition by_inversions ms r p out → v.number ≡ 0
      → length out' ≡ length ms + 1 → (w, q) ≡ to_permutation by_inversions ms r g out'
      → (w ≡ refused 0 0) × (q ≡ p)
  inversions_then_permutation = back_to_permutation by_inversions_lem ms r
