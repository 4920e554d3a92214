-- Two compositions of which one has one unit more at one part and one fewer at another.
use Rattle.std.specs.Prelude.{◌≡◌, List, ℕ, suc, ◌<◌, get_or}

-- h is g with one more at the part `gain` and one fewer at the part `loss`
pub record Neighbours (g h : List ℕ) (gain loss : ℕ) : Type 0 where
  pub apart : gain ≡ loss → ⊥
  pub gained : get_or h gain 0 ≡ suc (get_or g gain 0)
  pub lost : get_or g loss 0 ≡ suc (get_or h loss 0)
  pub others : (i : ℕ) → (i ≡ gain → ⊥) → (i ≡ loss → ⊥) → get_or h i 0 ≡ get_or g i 0

-- one unit goes from one of the first n parts of g to another of them, and h is what comes of it
abbrev pub Adjacent : ℕ → List ℕ → List ℕ → Type 0
Adjacent n g h = (gain : ℕ) × (loss : ℕ) × (gain < n) × (loss < n) × Neighbours g h gain loss
