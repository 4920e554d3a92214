-- Compositions without bounds: as many as there are of these, at most, there are under any bounds.
use mathlib.Core.Path.{◌≡◌, refl, ap, ◌∙◌}
use mathlib.Core.List.{List, [], ◌∷◌}
use Prim.Native.Nat.{ℕ, zero, suc, ◌+◌, ◌≤◌, ◌<◌}
use native.Mathlib.Nat.{le_refl, le_trans, not-suc-le-zero, le_of_suc-le-suc, zero-add}
use native.Mathlib.Decide.{le_ind}
use native.Mathlib.Omega.{arith}
use lib.ListN.{length, get_or, replicate, length-replicate, get_or-replicate}
use Rattle.walsh.specs.Sums.{sum}
use Rattle.walsh.specs.Order.{count}
use Rattle.walsh.proofs.Lists.{sum_le, sum_same, sum_mono, sum_front}
use Rattle.walsh.proofs.Window.{sum_at, count_window}

-- how many lists of k numbers sum to t
unfoldable pub free : ℕ → ℕ → ℕ
free zero zero = 1
free zero (suc t) = 0
free (suc k) t = sum (free k) (suc t)

pub count_free : (ms : List ℕ) (k t : ℕ) → count ms k t ≤ free k t
unfolding free count
count_free ms zero zero = le_refl 1
count_free ms zero (suc t) = le_refl 0
count_free ms (suc k) t =
    let e = sum_at (count ms k) (t + 1) (suc t) (omega arith) in
    omega (arith, count_window ms k t, sum_le (count ms k) (free k) (suc t) (λ i l. count_free ms k i))

-- more of both are more
free_parts : (k n t : ℕ) → k ≤ n → free k t ≤ free n t
unfolding free
free_parts k n t l = le_ind (λ (m : ℕ). free k t ≤ free m t) (le_refl (free k t)) (λ m _ b. omega arith) n l

pub free_mono : (k n t q : ℕ) → k ≤ suc n → t ≤ q → free k t ≤ free (suc n) q
free_mono k n t q l h = le_trans (free_parts k (suc n) t l) (unfold free in sum_mono (free n) (suc t) (suc q) (omega arith))

-- ---- computed row by row

-- the sums of the first numbers of a list, added to a
unfoldable pub running : ℕ → List ℕ → List ℕ
running a [] = []
running a (x ∷ xs) = (a + x) ∷ running (a + x) xs

-- the numbers for k parts and the totals up to q
unfoldable pub free_row : ℕ → ℕ → List ℕ
free_row zero q = 1 ∷ replicate q 0
free_row (suc k) q = running 0 (free_row k q)

running_length : (a : ℕ) (xs : List ℕ) → length (running a xs) ≡ length xs
unfolding running
running_length a [] = refl
running_length a (x ∷ xs) = ap suc (running_length (a + x) xs)

running_at : (a : ℕ) (xs : List ℕ) (t : ℕ) → t < length xs → get_or (running a xs) t 0 ≡ a + sum (λ i. get_or xs i 0) (suc t)
unfolding running
running_at a [] t l = absurd (not-suc-le-zero l)
running_at a (x ∷ xs) zero l = omega arith
running_at a (x ∷ xs) (suc t) l =
    omega (arith, running_at (a + x) xs t (le_of_suc-le-suc l), sum_front (λ i. get_or (x ∷ xs) i 0) (suc t))

row_length : (k q : ℕ) → length (free_row k q) ≡ suc q
unfolding free_row
row_length zero q = ap suc (length-replicate q 0)
row_length (suc k) q = running_length 0 (free_row k q) ∙ row_length k q

pub free_row_lem : (k q t : ℕ) → t ≤ q → get_or (free_row k q) t 0 ≡ free k t
unfolding free_row free
free_row_lem zero q zero l = refl
free_row_lem zero q (suc t) l = get_or-replicate q t 0 0 (omega arith)
free_row_lem (suc k) q t l =
    running_at 0 (free_row k q) t (rw row_length (omega arith))
    ∙ zero-add _
    ∙ sum_same (λ i. get_or (free_row k q) i 0) (free k) (suc t) (λ i b. free_row_lem k q i (omega arith))
