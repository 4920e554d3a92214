-- Bytes at the beginning of a tray.
use Rattle.std.specs.Prelude.{◌≡◌, refl, List, [], ◌∷◌, ◌++◌, ℕ, zero, suc, length, get_or, drop, set}

-- a tray that begins with these bytes, and is otherwise `out`
abbrev pub begun : List ℕ → List ℕ → List ℕ
begun bytes out = bytes ++ drop (length bytes) out

-- a tray whose n cells from cell i on are those of g, and that is otherwise `out`
unfoldable pub laid : List ℕ → ℕ → ℕ → List ℕ → List ℕ
laid g i zero out = out
laid g i (suc n) out = set (laid g (suc i) n out) i (get_or g i 0)

two_laid : laid (5 ∷ 6 ∷ 7 ∷ []) 1 2 (0 ∷ 0 ∷ 0 ∷ 0 ∷ []) ≡ 0 ∷ 6 ∷ 7 ∷ 0 ∷ []
unfolding laid
two_laid = refl
