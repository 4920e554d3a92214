-- "As many as" without counting: two readings side by side.
use Rattle.std.specs.Prelude.{◌≡◌, List, ℕ}
use Rattle.permutation.specs.Reading.{Reading, PermutationWith}

-- the permutation that the other reading has for the same composition
abbrev pub partner : Reading → Reading → List ℕ → List ℕ
partner one other p = other.permutation (one.composition p)

-- a permutation of 1..k with the total r by the one has a partner with the total r by the other, and it is the partner of its partner
pub record Matched (one other : Reading) (k r : ℕ) : Type 0 where
  pub there : (p : List ℕ) → PermutationWith one k r p → PermutationWith other k r (partner one other p)
  pub back : (p : List ℕ) → PermutationWith one k r p → partner other one (partner one other p) ≡ p
