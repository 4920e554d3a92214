-- Counting the entries of a list, and what it says of a permutation.
use mathlib.Core.Path.{◌≡◌, refl, sym, ◌∙◌}
use mathlib.Core.Bool.{Bool, true, false, cond, false≢true}
use mathlib.Core.Logic.{◌↔◌}
use mathlib.Core.List.{List, [], ◌∷◌, map}
use Prim.Native.Nat.{ℕ, zero, suc, ◌+◌, ◌≤◌, ◌<◌}
use native.Mathlib.Nat.{le_refl}
use native.Mathlib.Decide.{dec_lt}
use native.Mathlib.Omega.{arith}
use lib.Dec.{eqb, ltb}
use lib.ListN.{length, get_or, drop}
use borrow.Author.Tests.{eqb-true, ltb-true, lt-ltb, le-ltb, eq-eqb, ne_eqb}
use Rattle.walsh.specs.Tests.{every}
use Rattle.walsh.proofs.Tests.{both_left, both_right, every_at, every_all}
use Rattle.walsh.proofs.Cases.{on_test}
use Rattle.permutation.specs.Permutation.{how_many, times, IsPermutation, is_permutation}

-- ---- tests

pub ltb_same : (a b c d : ℕ) → (a < b → c < d) → (c < d → a < b) → ltb a b ≡ ltb c d
ltb_same a b c d to from = go (dec_lt c d)
  where
    go : Dec (c < d) → ltb a b ≡ ltb c d
    go (yes h) = lt-ltb a b (from h) ∙ sym (lt-ltb c d h)
    go (no h) = go' (dec_lt a b)
      where
        go' : Dec (a < b) → ltb a b ≡ ltb c d
        go' (yes l) = absurd (h (to l))
        go' (no l) = le-ltb a b (omega arith) ∙ sym (le-ltb c d (omega arith))

-- ---- how_many

-- how many entries are smaller than v
abbrev pub below : ℕ → List ℕ → ℕ
below v l = how_many (λ x. ltb x v) l

bit_le : (b : Bool) → cond b 1 0 ≤ 1
bit_le true = omega arith
bit_le false = omega arith

pub many_le : (test : ℕ → Bool) (l : List ℕ) → how_many test l ≤ length l
many_le test [] = le_refl 0
many_le test (x ∷ l) = omega (arith, bit_le (test x), many_le test l)

bit_true : (b : Bool) → 1 ≤ cond b 1 0 → b ≡ true
bit_true true h = refl
bit_true false h = absurd (omega arith)

-- where as many entries pass as there are, each does
pub many_all : (test : ℕ → Bool) (l : List ℕ) → how_many test l ≡ length l → (i : ℕ) → i < length l → test (get_or l i 0) ≡ true
many_all test [] e i h = absurd (omega arith)
many_all test (x ∷ l) e zero h = bit_true (test x) (omega (arith, many_le test l))
many_all test (x ∷ l) e (suc i) h = many_all test l (omega (arith, bit_le (test x), many_le test l)) i (omega arith)

pub many_drop : (test : ℕ → Bool) (i : ℕ) (l : List ℕ) → how_many test (drop i l) ≤ how_many test l
many_drop test zero l = le_refl (how_many test l)
many_drop test (suc i) [] = le_refl 0
many_drop test (suc i) (x ∷ l) = omega (arith, many_drop test i l)

-- a test of the mapped list is a test of the list
pub many_map : (f : ℕ → ℕ) (test test' : ℕ → Bool) (l : List ℕ) → ((x : ℕ) → test (f x) ≡ test' x) → how_many test (map f l) ≡ how_many test' l
many_map f test test' [] same = refl
many_map f test test' (x ∷ l) same = rw (same x, many_map f test test' l same)

-- what is smaller than v + 1 is smaller than v, or v
bit_suc : (x v : ℕ) → cond (ltb x (suc v)) 1 0 ≡ cond (ltb x v) 1 0 + cond (eqb x v) 1 0
bit_suc x v = go (dec_lt x v) (dec_lt v x)
  where
    go : Dec (x < v) → Dec (v < x) → cond (ltb x (suc v)) 1 0 ≡ cond (ltb x v) 1 0 + cond (eqb x v) 1 0
    go (yes l) m = rw (lt-ltb x (suc v) (omega arith), lt-ltb x v l, ne_eqb x v (λ e. omega arith))
    go (no l) (yes m) = rw (le-ltb x (suc v) (omega arith), le-ltb x v (omega arith), ne_eqb x v (λ e. omega arith))
    go (no l) (no m) = rw (lt-ltb x (suc v) (omega arith), le-ltb x v (omega arith), eq-eqb x v (omega arith))

pub below_suc : (v : ℕ) (l : List ℕ) → below (suc v) l ≡ below v l + times v l
below_suc v [] = refl
below_suc v (x ∷ l) = omega (arith, bit_suc x v, below_suc v l)

pub below_zero : (l : List ℕ) → below 0 l ≡ 0
below_zero [] = refl
below_zero (x ∷ l) = rw (le-ltb x 0 (omega arith)) (omega (arith, below_zero l))

-- ---- permutations, by how many entries are at most v

-- p has k entries, and v of them are at most v, for each v up to k
pub record Counted (k : ℕ) (p : List ℕ) : Type 0 where
  pub size : length p ≡ k
  pub up_to : (v : ℕ) → v ≤ k → below (suc v) p ≡ v

pub counted : {k : ℕ} {p : List ℕ} → IsPermutation k p → Counted k p
counted {k} {p} perm = record { size = perm.size; up_to = λ v h. omega (arith, from v h, none) }
  where
    from : (v : ℕ) → v ≤ k → below (suc v) p ≡ times 0 p + v
    from zero h = omega (arith, below_suc 0 p, below_zero p)
    from (suc v) h = omega (arith, below_suc (suc v) p, from v (omega arith), perm.once (suc v) (omega arith) h)

    none : times 0 p ≡ 0
    none = omega (arith, from k (le_refl k), many_le (λ x. ltb x (suc k)) p, perm.size)

pub permutation : {k : ℕ} {p : List ℕ} → Counted k p → IsPermutation k p
permutation {k} {p} c = record { size = c.size; once = once }
  where
    once : (v : ℕ) → 1 ≤ v → v ≤ k → times v p ≡ 1
    once zero l h = absurd (omega arith)
    once (suc v) l h = omega (arith, below_suc (suc v) p, c.up_to (suc v) h, c.up_to v (omega arith))

module _ {k : ℕ} {p : List ℕ} (perm : IsPermutation k p) where
  -- an entry is at most k
  pub entry_le : (i : ℕ) → i < k → get_or p i 0 ≤ k
  entry_le i h =
      let all : below (suc k) p ≡ length p = (counted perm).up_to k (le_refl k) ∙ sym perm.size in
      omega (arith, ltb-true (get_or p i 0) (suc k) (many_all (λ x. ltb x (suc k)) p all i (rw perm.size h)))

  -- a value up to k stands at most once
  pub times_le : (v : ℕ) → v ≤ k → times v p ≤ 1
  times_le zero h = omega (arith, below_suc 0 p, (counted perm).up_to 0 h)
  times_le (suc v) h = omega (arith, perm.once (suc v) (omega arith) h)

-- ---- the test

-- the test says what it means
pub is_permutation_lem : (k : ℕ) (p : List ℕ) → (is_permutation k p ≡ true) ↔ IsPermutation k p
unfolding is_permutation
is_permutation_lem k p = (
  λ e.
      record {
        size = eqb-true (length p) k (both_left (eqb (length p) k) (every each k) e);
        once = once (both_right (eqb (length p) k) (every each k) e);
      },
  λ perm. rw (eq-eqb (length p) k perm.size) (every_all each k (λ v l. eq-eqb (times (suc v) p) 1 (perm.once (suc v) (omega arith) l))),
)
  where
    each : ℕ → Bool
    each v = eqb (times (suc v) p) 1

    once : every each k ≡ true → (v : ℕ) → 1 ≤ v → v ≤ k → times v p ≡ 1
    once e zero l h = absurd (omega arith)
    once e (suc v) l h = eqb-true (times (suc v) p) 1 (every_at each k e v h)

-- number 11: "length isn't k, or not a permutation of 1..k"
pub not_permutation : (k : ℕ) (p : List ℕ) → (is_permutation k p ≡ false) ↔ (IsPermutation k p → ⊥)
not_permutation k p = (
  λ e perm. false≢true (sym e ∙ (is_permutation_lem k p).1 perm),
  λ other. on_test (is_permutation k p) (λ e. absurd (other ((is_permutation_lem k p).0 e))) (λ e. e),
)
