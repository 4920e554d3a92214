-- Laws of arrays of which a call lends the first cells, of a composition in 24 cells, and of copying.
use mathlib.Core.Path.{◌≡◌, refl, sym, ap, ◌∙◌}
use mathlib.Core.List.{List, [], ◌∷◌, ◌++◌, append-nil}
use Prim.Native.Nat.{ℕ, zero, suc, ◌+◌, ◌-◌, ◌≤◌, ◌<◌, min}
use native.Mathlib.Nat.{sub-zero, zero-sub, suc-sub-suc, le_refl, le_of_suc-le-suc, not-suc-le-zero}
use native.Mathlib.Omega.{arith}
use lib.ListN.{length, get_or, take, drop, drop_of_length-le, set, replicate, length-append, length-replicate, length-take}
use lib.Seq.{take-append_seam, take_all, take-length, take-take, length-take-le, drop_at}
use Rattle.bounds.specs.Edition.{cells_of}
use Rattle.bounds.specs.Places.{copied}

-- ---- a new array of m cells

abbrev fresh : ℕ → List ℕ
fresh m = replicate {A = ℕ} m 0

-- its first cells
pub prefix_length : (size m : ℕ) → size ≤ m → length (take size (fresh m)) ≡ size
prefix_length size m l = length-take-le size (fresh m) (room l (length-replicate {A = ℕ} m 0))
  where
    room : {x y z : ℕ} → x ≤ y → z ≡ y → x ≤ z
    room p q = omega arith

drop_fresh : (m n : ℕ) → drop n (fresh m) ≡ fresh (m - n)
drop_fresh m zero = ap fresh (sym (sub-zero m))
drop_fresh zero (suc n) = ap fresh (sym (zero-sub (suc n)))
drop_fresh (suc m) (suc n) = drop_fresh m n ∙ ap fresh (sym (suc-sub-suc m n))

-- ---- 24 cells

-- the first n written, and the others as they were
pub in_cells : (l : List ℕ) (n : ℕ) → length l ≡ n → l ++ drop n (fresh 24) ≡ cells_of l
unfolding cells_of
in_cells l n e = ap (λ (r : List ℕ). l ++ r) (drop_fresh 24 n ∙ ap (λ (k : ℕ). fresh (24 - k)) (sym e))

-- the cells of a list begin with it
pub cells_back : (l : List ℕ) → take (length l) (cells_of l) ≡ l
unfolding cells_of
cells_back l = take-append_seam l _

pub cells_length : (l : List ℕ) → length l ≤ 24 → length (cells_of l) ≡ 24
unfolding cells_of
cells_length l few = length-append l _ ∙ ap (λ (n : ℕ). length l + n) (length-replicate {A = ℕ} (24 - length l) 0) ∙ omega arith

-- parts in place of those that stand in front of the cells
pub cells_replaced : (g h : List ℕ) (n : ℕ) → length g ≡ n → length h ≡ n → h ++ drop n (cells_of g) ≡ cells_of h
unfolding cells_of
cells_replaced g h n eg eh = rw (drop_at g _ n eg, eg, eh)

zero_at : (n i : ℕ) → get_or (fresh n) i 0 ≡ 0
zero_at zero i = refl
zero_at (suc n) zero = refl
zero_at (suc n) (suc i) = zero_at n i

padded_at : (l : List ℕ) (n i : ℕ) → get_or (l ++ fresh n) i 0 ≡ get_or l i 0
padded_at [] n i = zero_at n i
padded_at (x ∷ l) n zero = refl
padded_at (x ∷ l) n (suc i) = padded_at l n i

-- the cells past a list are 0, as what is read past its end
pub cells_at : (l : List ℕ) (i : ℕ) → get_or (cells_of l) i 0 ≡ get_or l i 0
unfolding cells_of
cells_at l i = padded_at l (24 - length l) i

-- ---- copying

-- one byte more
pub copied_suc : (from out : List ℕ) (i : ℕ) → i < length from → i < length out
    → set (take i from ++ drop i out) i (get_or from i 0) ≡ take (suc i) from ++ drop (suc i) out
copied_suc [] out i h k = absurd (not-suc-le-zero h)
copied_suc (x ∷ from) [] i h k = absurd (not-suc-le-zero k)
copied_suc (x ∷ from) (y ∷ out) zero h k = refl
copied_suc (x ∷ from) (y ∷ out) (suc i) h k = ap (λ (l : List ℕ). x ∷ l) (copied_suc from out i (le_of_suc-le-suc h) (le_of_suc-le-suc k))

-- all of `out` is written
pub copied_over : (from out : List ℕ) → length out ≤ length from → copied from out ≡ take (length out) from
unfolding copied
copied_over from out l =
    let n : min (length from) (length out) ≡ length out = omega arith in
    rw (n, drop_of_length-le out (le_refl (length out)), append-nil)

-- lists of the same length
pub copied_same : (from out : List ℕ) → length out ≡ length from → copied from out ≡ from
copied_same from out e = copied_over from out (omega arith) ∙ take_all (length out) from (omega arith)

-- all of `from` is
pub copied_front : (from out : List ℕ) → length from ≤ length out → copied from out ≡ from ++ drop (length from) out
unfolding copied
copied_front from out l =
    let n : min (length from) (length out) ≡ length from = omega arith in
    rw (n, take-length)

-- a list put into 24 new cells
pub copied_cells : (l : List ℕ) → copied l (fresh 24) ≡ cells_of (take 24 l)
unfolding copied
copied_cells l =
    let k = length (take 24 l) in
    let few : k ≡ min 24 (length l) = length-take 24 l in
    let n : min (length l) (length (fresh 24)) ≡ k = omega (arith, length-replicate {A = ℕ} 24 0) in
    ap (λ (j : ℕ). take j l ++ drop j (fresh 24)) n
    ∙ ap (λ (p : List ℕ). p ++ drop k (fresh 24)) (sym (take-take k 24 l (omega arith)) ∙ take-length (take 24 l))
    ∙ in_cells (take 24 l) k refl
