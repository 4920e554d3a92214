-- A list without one of its entries; lists that rise.
use mathlib.Core.Path.{◌≡◌, refl, ap}
use mathlib.Core.Bool.{Bool, cond}
use mathlib.Core.List.{List, [], ◌∷◌}
use Prim.Native.Nat.{ℕ, zero, suc, ◌+◌, ◌≤◌, ◌<◌}
use native.Mathlib.Nat.{le_refl}
use native.Mathlib.Decide.{dec_lt}
use native.Mathlib.Omega.{arith}
use lib.ListN.{length, get_or, take, drop}
use borrow.Author.Tests.{lt-ltb, le-ltb}
use Rattle.permutation.specs.Permutation.{how_many}
use Rattle.permutation.proofs.Counts.{below}
use Rattle.major.specs.Circle.{erase}

-- ---- entries

pub erase_length : (r : ℕ) (l : List ℕ) → r < length l → suc (length (erase r l)) ≡ length l
erase_length r [] h = absurd (omega arith)
erase_length zero (x ∷ l) h = refl
erase_length (suc r) (x ∷ l) h = ap suc (erase_length r l (omega arith))

pub erase_before : (r j : ℕ) (l : List ℕ) → j < r → get_or (erase r l) j 0 ≡ get_or l j 0
erase_before r j [] h = refl
erase_before zero j (x ∷ l) h = absurd (omega arith)
erase_before (suc r) zero (x ∷ l) h = refl
erase_before (suc r) (suc j) (x ∷ l) h = erase_before r j l (omega arith)

pub erase_behind : (r j : ℕ) (l : List ℕ) → r ≤ j → get_or (erase r l) j 0 ≡ get_or l (suc j) 0
erase_behind r j [] h = refl
erase_behind zero j (x ∷ l) h = refl
erase_behind (suc r) zero (x ∷ l) h = absurd (omega arith)
erase_behind (suc r) (suc j) (x ∷ l) h = erase_behind r j l (omega arith)

pub erase_take : (r : ℕ) (l : List ℕ) → take r (erase r l) ≡ take r l
erase_take zero l = refl
erase_take (suc r) [] = refl
erase_take (suc r) (x ∷ l) = ap (λ (m : List ℕ). x ∷ m) (erase_take r l)

pub erase_drop : (r : ℕ) (l : List ℕ) → drop r (erase r l) ≡ drop (suc r) l
erase_drop zero [] = refl
erase_drop zero (x ∷ l) = refl
erase_drop (suc r) [] = refl
erase_drop (suc r) (x ∷ l) = erase_drop r l

pub erase_many : (test : ℕ → Bool) (r : ℕ) (l : List ℕ) → r < length l
    → how_many test (erase r l) + cond (test (get_or l r 0)) 1 0 ≡ how_many test l
erase_many test r [] h = absurd (omega arith)
erase_many test zero (x ∷ l) h = omega arith
erase_many test (suc r) (x ∷ l) h = omega (arith, erase_many test r l (omega arith))

-- ---- rising lists

-- each entry is smaller than every later one
abbrev pub Rising : List ℕ → Type 0
Rising l = (i j : ℕ) → i < j → j < length l → get_or l i 0 < get_or l j 0

pub erase_rising : (r : ℕ) (l : List ℕ) → r < length l → Rising l → Rising (erase r l)
erase_rising r l h rising i j a b = go (dec_lt i r) (dec_lt j r)
  where
    size : suc (length (erase r l)) ≡ length l
    size = erase_length r l h

    go : Dec (i < r) → Dec (j < r) → get_or (erase r l) i 0 < get_or (erase r l) j 0
    go (yes u) (yes v) = rw (erase_before r i l u, erase_before r j l v) (rising i j a (omega (arith, size)))
    go (yes u) (no v) = rw (erase_before r i l u, erase_behind r j l (omega arith)) (rising i (suc j) (omega arith) (omega (arith, size)))
    go (no u) (yes v) = absurd (omega arith)
    go (no u) (no v) =
        rw (erase_behind r i l (omega arith), erase_behind r j l (omega arith)) (rising (suc i) (suc j) (omega arith) (omega (arith, size)))

-- how many are below v, where those before place r are and the others are not
pub below_cut : (v r : ℕ) (l : List ℕ) → r ≤ length l → ((i : ℕ) → i < r → get_or l i 0 < v) → ((i : ℕ) → r ≤ i → i < length l → v ≤ get_or l i 0)
    → below v l ≡ r
below_cut v zero [] h low high = refl
below_cut v (suc r) [] h low high = absurd (omega arith)
below_cut v zero (x ∷ l) h low high =
    rw (le-ltb x v (high 0 (omega arith) (omega arith)))
    (omega (arith, below_cut v 0 l (omega arith) (λ i a. absurd (omega arith)) (λ i a b. high (suc i) (omega arith) (omega arith))))
below_cut v (suc r) (x ∷ l) h low high =
    rw (lt-ltb x v (low 0 (omega arith)))
    (omega (arith, below_cut v r l (omega arith) (λ i a. low (suc i) (omega arith)) (λ i a b. high (suc i) (omega arith) (omega arith))))

-- the entry at place r has r smaller ones
module _ (r : ℕ) (l : List ℕ) (h : r < length l) (rising : Rising l) where
  at_least : (i : ℕ) → r ≤ i → i < length l → get_or l r 0 ≤ get_or l i 0
  at_least i a b = go (dec_lt r i)
    where
      go : Dec (r < i) → get_or l r 0 ≤ get_or l i 0
      go (yes c) = omega (arith, rising r i c b)
      go (no c) = let same : r ≡ i = omega arith in
          rw same (le_refl (get_or l i 0))

  pub rising_below : below (get_or l r 0) l ≡ r
  rising_below = below_cut (get_or l r 0) r l (omega arith) (λ i a. rising i r a h) at_least

  pub rising_upto : below (suc (get_or l r 0)) l ≡ suc r
  rising_upto = below_cut (suc (get_or l r 0)) (suc r) l h (λ i a. before i a (dec_lt i r)) (λ i a b. omega (arith, rising r i a b))
    where
      before : (i : ℕ) → i < suc r → Dec (i < r) → get_or l i 0 < suc (get_or l r 0)
      before i a (yes c) = omega (arith, rising i r c h)
      before i a (no c) = let same : i ≡ r = omega arith in
          rw same (le_refl (suc (get_or l r 0)))
