-- What follows from the contracts alone, of two calls of the code: each hypothesis is what the contract of `permutation` or of `code` says of a call,
-- its answer and the bytes that it left.
use mathlib.Core.Path.{◌≡◌}
use mathlib.Core.List.{List}
use Prim.Native.Nat.{ℕ, ◌+◌}
use lib.ListN.{length}
use Rattle.bounds.specs.Refusal.{refused}
use Rattle.bounds.specs.declared.Refusal.{Refusal}
use Rattle.permutation.specs.Conversions.{to_permutation, to_composition}
use Rattle.permutation.proofs.Consequences.{back_to_composition, back_to_permutation}
use Rattle.major.specs.Reading.{by_major}
use Rattle.major.proofs.ByMajor.{by_major_lem}

module _ (ms : List ℕ) (r : ℕ) where
  -- mix to order and back: `permutation`, then `code` with a part of n bytes
  pub permutation_then_code : (g out p out' h : List ℕ) (v w : Refusal)
      → (v, p) ≡ to_permutation by_major ms r g out → v.number ≡ 0
      → length out' ≡ length ms → (w, h) ≡ to_composition by_major ms r p out'
      → (w ≡ refused 0 0) × (h ≡ g)
  permutation_then_code = back_to_composition by_major_lem ms r

  -- order to mix and back: `code`, then `permutation` with a part of k bytes
  pub code_then_permutation : (p out g out' q : List ℕ) (v w : Refusal)
      → (v, g) ≡ to_composition by_major ms r p out → v.number ≡ 0
      → length out' ≡ length ms + 1 → (w, q) ≡ to_permutation by_major ms r g out'
      → (w ≡ refused 0 0) × (q ≡ p)
  code_then_permutation = back_to_permutation by_major_lem ms r
