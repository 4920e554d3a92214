-- The least and the highest of some item lines, which stand in bytes.
use Rattle.std.specs.Prelude.{◌≡◌, refl, List, [], ◌∷◌, ℕ, min, max}

abbrev pub least_in : List ℕ → ℕ
least_in [] = 255
least_in (x ∷ l) = min x (least_in l)

abbrev pub most_in : List ℕ → ℕ
most_in [] = 0
most_in (x ∷ l) = max x (most_in l)

-- for example, of three
of_three : (least_in (3 ∷ 1 ∷ 2 ∷ []) ≡ 1) × (most_in (3 ∷ 1 ∷ 2 ∷ []) ≡ 3)
of_three = (refl, refl)
