-- The sheets that are left as a circle: the next row's sheet, and the sheets that it leaves.
use mathlib.Core.Path.{◌≡◌, refl, ◌∙◌}
use mathlib.Core.Bool.{Bool, cond}
use mathlib.Core.List.{List, [], ◌∷◌}
use Prim.Native.Nat.{ℕ, suc, ◌+◌, ◌-◌, ◌≤◌, ◌<◌}
use native.Mathlib.Nat.{le_refl}
use native.Mathlib.Decide.{dec_lt}
use native.Mathlib.Omega.{arith}
use lib.Dec.{ltb}
use lib.ListN.{length, get_or, length-append}
use borrow.Author.Tests.{lt-ltb, le-ltb}
use Rattle.walsh.proofs.Tests.{many_append}
use Rattle.permutation.specs.Permutation.{how_many}
use Rattle.permutation.proofs.Counts.{below, many_le}
use Rattle.permutation.proofs.Inverse.{Under}
use Rattle.major.specs.Circle.{erase, steps_down, places_from, drawn}
use Rattle.major.proofs.Erased.{erase_length, erase_many, Rising, erase_rising, rising_below, rising_upto}

-- ---- steps down

module _ (k s t : ℕ) where
  pub steps_low : t < s → steps_down k s t ≡ s - suc t
  steps_low h = rw (lt-ltb t s h)

  pub steps_high : s ≤ t → steps_down k s t ≡ s + k - suc t
  steps_high h = rw (le-ltb t s h)

  pub steps_lt : s ≤ k → t < k → steps_down k s t < k
  steps_lt hs ht = go (dec_lt t s)
    where
      go : Dec (t < s) → steps_down k s t < k
      go (yes h) = omega (arith, steps_low h)
      go (no h) = omega (arith, steps_high (omega arith))

-- as many steps lead back
pub steps_back : (k s r : ℕ) → s ≤ k → r < k → steps_down k s (steps_down k s r) ≡ r
steps_back k s r hs hr = go (dec_lt r s)
  where
    go : Dec (r < s) → steps_down k s (steps_down k s r) ≡ r
    go (yes h) = rw (steps_low k s r h) (steps_low k s (s - suc r) (omega arith) ∙ omega arith)
    go (no h) = rw (steps_high k s r (omega arith)) (steps_high k s (s + k - suc r) (omega arith) ∙ omega arith)

-- ---- a sheet behind a rising list

pub below_mono : (v w : ℕ) (l : List ℕ) → v ≤ w → below v l ≤ below w l
below_mono v w [] h = le_refl 0
below_mono v w (x ∷ l) h = go (dec_lt x v) (below_mono v w l h)
  where
    go : Dec (x < v) → below v l ≤ below w l → below v (x ∷ l) ≤ below w (x ∷ l)
    go (yes a) rest = rw (lt-ltb x v a, lt-ltb x w (omega arith)) (omega arith)
    go (no a) rest = rw (le-ltb x v (omega arith)) (omega arith)

-- l rises, and x is none of its entries and would stand at place s
pub record Behind (x s : ℕ) (l : List ℕ) : Type 0 where
  pub rising : Rising l
  pub place : below x l ≡ s
  pub other : below (suc x) l ≡ s

-- the entry at place r, taken out of l, stands behind the others
pub behind_next : (r : ℕ) (l : List ℕ) → r < length l → Rising l → Behind (get_or l r 0) r (erase r l)
behind_next r l h rising =
    let y : ℕ = get_or l r 0 in
    record {
      rising = erase_rising r l h rising;
      place = omega (arith, rw (le-ltb y y (le_refl y)) at (erase_many (λ z. ltb z y) r l h), rising_below r l h rising);
      other = omega (arith, rw (lt-ltb y (suc y) (le_refl (suc y))) at (erase_many (λ z. ltb z (suc y)) r l h), rising_upto r l h rising);
    }

module _ {x s : ℕ} {l : List ℕ} (behind : Behind x s l) where
  pub behind_le : s ≤ length l
  behind_le = omega (arith, behind.place, many_le (λ z. ltb z x) l)

  -- on which side of x the entry at place r is
  module _ (r : ℕ) (h : r < length l) where
    pub entry_less : r < s → get_or l r 0 < x
    entry_less a = go (dec_lt (get_or l r 0) x)
      where
        go : Dec (get_or l r 0 < x) → get_or l r 0 < x
        go (yes b) = b
        go (no b) =
            absurd (omega (arith, below_mono x (get_or l r 0) l (omega arith), behind.place, rising_below r l h behind.rising))

    pub entry_greater : s ≤ r → x < get_or l r 0
    entry_greater a = go (dec_lt x (get_or l r 0))
      where
        go : Dec (x < get_or l r 0) → x < get_or l r 0
        go (yes b) = b
        go (no b) =
            absurd (omega (arith, below_mono (suc (get_or l r 0)) (suc x) l (omega arith), behind.other, rising_upto r l h behind.rising))

-- ---- row by row

-- the rows of g are to be drawn from l, and the sheet behind is x, which would stand at place s
pub record Ready (x s : ℕ) (l g : List ℕ) : Type 0 where
  pub behind : Behind x s l
  pub size : length l ≡ suc (length g)
  pub under : Under g

module _ {x s t : ℕ} {l g : List ℕ} (ready : Ready x s l (t ∷ g)) where
  abbrev r : ℕ
  r = steps_down (suc (suc (length g))) s t

  within : s ≤ suc (suc (length g))
  within = omega (arith, behind_le ready.behind, ready.size)

  -- the sheet of the row stands at place r
  pub row_lt : r < length l
  row_lt = omega (arith, steps_lt (suc (suc (length g))) s t within (omega (arith, ready.under.0)), ready.size)

  -- t + 1 steps down lead from s to r, once round if the sheet is greater than the one behind
  pub row_steps : suc t + r ≡ s + cond (ltb x (get_or l r 0)) (length l) 0
  row_steps = go (dec_lt t s)
    where
      go : Dec (t < s) → suc t + r ≡ s + cond (ltb x (get_or l r 0)) (length l) 0
      go (yes h) =
          let e = steps_low (suc (suc (length g))) s t h in
          rw (le-ltb x (get_or l r 0) (omega (arith, entry_less ready.behind r row_lt (omega arith)))) (omega (arith, e))
      go (no h) =
          let e = steps_high (suc (suc (length g))) s t (omega arith) in
          let more : s ≤ r = omega (arith, ready.under.0) in
          rw (lt-ltb x (get_or l r 0) (entry_greater ready.behind r row_lt more)) (omega (arith, e, ready.size, ready.under.0))

  pub row_next : Ready (get_or l r 0) r (erase r l) g
  row_next =
      record {
        behind = behind_next r l row_lt ready.behind.rising;
        size = omega (arith, erase_length r l row_lt, ready.size);
        under = ready.under.1;
      }

-- what is drawn are the entries of l
pub drawn_many : (test : ℕ → Bool) {x s : ℕ} (l g : List ℕ) → Ready x s l g → how_many test (drawn l (places_from s g)) ≡ how_many test l
drawn_many test l [] ready = refl
drawn_many test {x = x} {s = s} l (t ∷ g) ready =
    let r : ℕ = steps_down (suc (suc (length g))) s t in
    omega (
      arith,
      many_append test (drawn (erase r l) (places_from r g)) (get_or l r 0 ∷ []),
      drawn_many test {x = get_or l r 0} {s = r} (erase r l) g (row_next ready),
      erase_many test r l (row_lt ready),
    )

pub drawn_length : {x s : ℕ} (l g : List ℕ) → Ready x s l g → length (drawn l (places_from s g)) ≡ length l
drawn_length l [] ready = refl
drawn_length {x = x} {s = s} l (t ∷ g) ready =
    let r : ℕ = steps_down (suc (suc (length g))) s t in
    omega (
      arith,
      length-append (drawn (erase r l) (places_from r g)) (get_or l r 0 ∷ []),
      drawn_length {x = get_or l r 0} {s = r} (erase r l) g (row_next ready),
      erase_length r l (row_lt ready),
    )
