-- Inversion vectors and numbers of inversions, entry by entry of a permutation.
use mathlib.Core.Path.{◌≡◌, refl, ap, ◌∙◌}
use mathlib.Core.Bool.{cond}
use mathlib.Core.List.{List, [], ◌∷◌, ◌++◌}
use Prim.Native.Nat.{ℕ, zero, suc, ◌+◌, ◌-◌, ◌≤◌, ◌<◌}
use native.Mathlib.Nat.{zero-add, le_refl}
use native.Mathlib.Omega.{arith}
use lib.Dec.{ltb, leb-suc-suc}
use lib.ListN.{length, get_or, take, drop, length-append, get_or-append}
use lib.Seq.{take-suc, get_or_at}
use borrow.Author.Tests.{lt-ltb, le-ltb}
use Rattle.walsh.specs.Sums.{sum, sum_to}
use Rattle.walsh.proofs.Cases.{up_to_lem}
use Rattle.walsh.proofs.Lists.{sum_same, sum_front}
use Rattle.permutation.specs.Permutation.{inverted, smaller_after, tabulate, inversion_vector, inversions}
use Rattle.permutation.proofs.Counts.{below}

-- ---- a list by its places

pub tabulate_same : (f f' : ℕ → ℕ) (n : ℕ) → ((i : ℕ) → f i ≡ f' i) → tabulate f n ≡ tabulate f' n
tabulate_same f f' zero same = refl
tabulate_same f f' (suc n) same = rw (tabulate_same f f' n same, same n)

pub tabulate_front : (f : ℕ → ℕ) (n : ℕ) → tabulate f (suc n) ≡ f 0 ∷ tabulate (λ i. f (suc i)) n
tabulate_front f zero = refl
tabulate_front f (suc n) = ap (λ (l : List ℕ). l ++ (f (suc n) ∷ [])) (tabulate_front f n)

pub tabulate_take : (f : ℕ → ℕ) (l : List ℕ) (n : ℕ) → n ≤ length l → ((j : ℕ) → j < n → get_or l j 0 ≡ f j) → take n l ≡ tabulate f n
tabulate_take f l zero h each = refl
tabulate_take f l (suc n) h each =
    take-suc l n 0 h ∙ rw (tabulate_take f l n (omega arith) (λ j b. each j (omega arith)), each n (le_refl (suc n)))

pub tabulate_length : (f : ℕ → ℕ) (n : ℕ) → length (tabulate f n) ≡ n
tabulate_length f zero = refl
tabulate_length f (suc n) = length-append (tabulate f n) (f n ∷ []) ∙ omega (arith, tabulate_length f n)

pub tabulate_at : (f : ℕ → ℕ) (n j : ℕ) → j < n → get_or (tabulate f n) j 0 ≡ f j
tabulate_at f zero j h = absurd (omega arith)
tabulate_at f (suc n) j h =
    up_to_lem (λ i. get_or (tabulate f (suc n)) i 0 ≡ f i) (get_or_at (tabulate f n) (f n) [] 0 n (tabulate_length f n))
    (λ i b. get_or-append (tabulate f n) (f n ∷ []) 0 i (omega (arith, tabulate_length f n)) ∙ tabulate_at f n i b) j h

-- ---- how many later entries are smaller

below_sum : (v : ℕ) (l : List ℕ) → sum (λ j. cond (ltb (get_or l j 0) v) 1 0) (length l) ≡ below v l
below_sum v [] = refl
below_sum v (x ∷ l) = sum_front (λ j. cond (ltb (get_or (x ∷ l) j 0) v) 1 0) (length l) ∙ ap (λ (n : ℕ). cond (ltb x v) 1 0 + n) (below_sum v l)

-- than the first entry
smaller_first : (v : ℕ) (l : List ℕ) → smaller_after (v ∷ l) 0 ≡ below v l
smaller_first v l =
    sum_front (inverted (v ∷ l) 0) (length l)
    ∙ zero-add (sum (λ j. inverted (v ∷ l) 0 (suc j)) (length l))
    ∙ sum_same (λ j. inverted (v ∷ l) 0 (suc j)) (λ j. cond (ltb (get_or l j 0) v) 1 0) (length l) (λ j h. rw (lt-ltb 0 (suc j) (omega arith)))
    ∙ below_sum v l

-- than a later one: the first entry does not count
smaller_later : (v : ℕ) (l : List ℕ) (i : ℕ) → smaller_after (v ∷ l) (suc i) ≡ smaller_after l i
smaller_later v l i =
    sum_front (inverted (v ∷ l) (suc i)) (length l)
    ∙ rw (le-ltb (suc i) 0 (omega arith)) (zero-add (sum (λ j. inverted (v ∷ l) (suc i) (suc j)) (length l)))
    ∙ sum_same (λ j. inverted (v ∷ l) (suc i) (suc j)) (inverted l i) (length l) (λ j h. rw (leb-suc-suc (suc i) j))

pub smaller_is : (p : List ℕ) (i : ℕ) → i < length p → smaller_after p i ≡ below (get_or p i 0) (drop (suc i) p)
smaller_is [] i h = absurd (omega arith)
smaller_is (v ∷ l) zero h = smaller_first v l
smaller_is (v ∷ l) (suc i) h = smaller_later v l i ∙ smaller_is l i (omega arith)

-- ---- one entry more in front

pub inversions_cons : (v : ℕ) (l : List ℕ) → 0 < length l → inversion_vector (v ∷ l) ≡ below v l ∷ inversion_vector l
unfolding inversion_vector
inversions_cons v l h =
    let n : length (v ∷ l) - 1 ≡ suc (length l - 1) = omega arith in
    ap (tabulate (smaller_after (v ∷ l))) n
    ∙ tabulate_front (smaller_after (v ∷ l)) (length l - 1)
    ∙ rw (smaller_first v l, tabulate_same (λ i. smaller_after (v ∷ l) (suc i)) (smaller_after l) (length l - 1) (smaller_later v l))

-- at most one entry has no later ones
pub inversions_short : (l : List ℕ) → length l ≤ 1 → inversion_vector l ≡ []
unfolding inversion_vector
inversions_short l h =
    let none : length l - 1 ≡ 0 = omega arith in
    ap (tabulate (smaller_after l)) none

pub inversions_more : (v : ℕ) (l : List ℕ) → inversions (v ∷ l) ≡ below v l + inversions l
unfolding inversions
inversions_more v l =
    sum_front (smaller_after (v ∷ l)) (length l)
    ∙ omega (arith, smaller_first v l, sum_same (λ i. smaller_after (v ∷ l) (suc i)) (smaller_after l) (length l) (λ i h. smaller_later v l i))

-- ---- the parts of the vector sum to the number

pub inversions_sum : (p : List ℕ) → sum_to (inversion_vector p) (length (inversion_vector p)) ≡ inversions p
inversions_sum [] = unfold inversions inversion_vector in refl
inversions_sum (v ∷ []) = unfold inversions inversion_vector in refl
inversions_sum (v ∷ w ∷ l) =
    rw (inversions_cons v (w ∷ l) (omega arith))
    (sum_front (λ i. get_or (below v (w ∷ l) ∷ inversion_vector (w ∷ l)) i 0) (length (inversion_vector (w ∷ l)))
    ∙ omega (arith, inversions_sum (w ∷ l), inversions_more v (w ∷ l)))
