-- Laws of cells laid over a tray.
use mathlib.Core.Path.{◌≡◌, refl, ap, ◌∙◌}
use mathlib.Core.List.{List, [], ◌∷◌}
use Prim.Native.Nat.{ℕ, zero, suc, ◌+◌, ◌≤◌}
use native.Mathlib.Nat.{le_of_suc-le-suc, not-suc-le-zero}
use native.Mathlib.Numerals.{add-one, add-two, add-three}
use native.Mathlib.Omega.{arith}
use lib.ListN.{length, get_or, set}
use Rattle.listing.specs.Bytes.{begun, laid}

-- four cells, written from the last to the first
pub laid_four : (g out : List ℕ) (i : ℕ)
    → set (set (set (set out (i + 3) (get_or g (i + 3) 0)) (i + 2) (get_or g (i + 2) 0)) (i + 1) (get_or g (i + 1) 0)) i (get_or g i 0) ≡ laid g i 4 out
unfolding laid
laid_four g out i = rw (add-three, add-two, add-one)

-- m cells in front of n that are laid
pub laid_join : (g out : List ℕ) (i j m n k : ℕ) → j ≡ i + m → k ≡ m + n → laid g i m (laid g j n out) ≡ laid g i k out
unfolding laid
laid_join g out i j zero n k e f =
    let at : j ≡ i = omega arith in
    let all : k ≡ n = omega arith in
    rw (at, all)
laid_join g out i j (suc m) n k e f =
    let all : k ≡ suc (m + n) = omega arith in
    rw all (ap (λ (l : List ℕ). set l i (get_or g i 0)) (laid_join g out (suc i) j m n (m + n) (omega arith) refl))

-- the cells behind the first
laid_behind : (x y : ℕ) (g out : List ℕ) (i n : ℕ) → laid (x ∷ g) (suc i) n (y ∷ out) ≡ y ∷ laid g i n out
unfolding laid
laid_behind x y g out i zero = refl
laid_behind x y g out i (suc n) = ap (λ (l : List ℕ). set l (suc i) (get_or g i 0)) (laid_behind x y g out (suc i) n)

-- all cells
pub laid_begun : (g out : List ℕ) → length g ≤ length out → laid g 0 (length g) out ≡ begun g out
unfolding laid
laid_begun [] out h = refl
laid_begun (x ∷ g) [] h = absurd (not-suc-le-zero h)
laid_begun (x ∷ g) (y ∷ out) h =
    ap (λ (l : List ℕ). set l 0 x) (laid_behind x y g out 0 (length g))
    ∙ ap (λ (l : List ℕ). x ∷ l) (laid_begun g out (le_of_suc-le-suc h))
