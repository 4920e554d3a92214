-- Document 01, "Sheet orders": "An edition with k−1 kinds and ceilings k−1, .., 2, 1 is a puzzle edition of k sheets."
use Rattle.std.specs.Prelude.{Bool, List, [], ◌∷◌, ℕ, zero, suc, length}
use Rattle.walsh.specs.Serial.{same}

-- k - 1, .. , 2, 1
unfoldable pub staircase : ℕ → List ℕ
staircase zero = []
staircase (suc zero) = []
staircase (suc (suc n)) = suc n ∷ staircase (suc n)

-- the bounds of a puzzle edition of k sheets, where k is one more than their number; so no bounds are those of one sheet
unfoldable pub is_staircase : List ℕ → Bool
is_staircase ms = same ms (staircase (suc (length ms)))
