-- The part that changes against the one that moves, and the sums on the way to it.
use mathlib.Core.Path.{◌≡◌, sym, ap, ◌∙◌}
use mathlib.Core.Bool.{Bool, true, false}
use mathlib.Core.List.{List, [], ◌∷◌, ◌++◌}
use Prim.Native.Nat.{ℕ, zero, suc, ◌+◌, ◌-◌, ◌≤◌, ◌<◌, min}
use native.Mathlib.Omega.{arith}
use lib.ListN.{length, get_or, set, drop, length-set}
use lib.Seq.{drop-cons, get_or-set_same, drop-set-lt}
use borrow.Author.Tests.{eq-eqb, ne_eqb}
use Rattle.walsh.specs.Sums.{sum_to}
use Rattle.walsh.specs.Order.{is_odd}
use Rattle.walsh.specs.Step.{first_value, part_first, first_of}
use Rattle.step.specs.Advance.{other_of}

pub sum_below : (xs : List ℕ) (i : ℕ) → 0 < i → sum_to xs i ≡ sum_to xs (i - 1) + get_or xs (i - 1) 0
sum_below xs i h =
    let e : i ≡ suc (i - 1) = omega arith in
    ap (sum_to xs) e

pub sum_one : (xs : List ℕ) (i : ℕ) → i ≡ 1 → sum_to xs i ≡ get_or xs 0 0
sum_one xs i e = rw e (omega arith)

-- what a store at i leaves from i on
pub drop_set : (g : List ℕ) (i v : ℕ) → i < length g → drop i (set g i v) ≡ v ∷ drop (suc i) g
drop_set g i v h =
    let h' : i < length (set g i v) = rw length-set h in
    drop-cons (set g i v) i 0 h' ∙ rw (get_or-set_same g i v 0 h, drop-set-lt (suc i) g i v (omega arith))

-- what a turn knows of the value v that it stores
pub record Small (under m rem v : ℕ) : Type 0 where
  pub part : v ≤ m
  pub whole : v ≤ rem
  pub fits : rem - v ≤ under - m

pub first_small : (under m rem lo hi v : ℕ) (falling : Bool) → m ≤ under → rem ≤ under → lo ≡ rem - (under - m)
    → hi ≡ min m rem → v ≡ first_value lo hi falling
    → Small under m rem v
first_small under m rem lo hi v falling inside fits elo ehi ev = rw ev (go falling)
  where
    go : (b : Bool) → Small under m rem (first_value lo hi b)
    go true = omega arith
    go false = omega arith

-- ---- the search for the part that changes, in the code's numbers

module _ (ms g : List ℕ) where
  -- a turn finds the first value of part i - 1
  pub first_at : (i under m rem t lo hi v : ℕ) (falling : Bool) → 0 < i → under ≡ sum_to ms i → m ≡ get_or ms (i - 1) 0
      → lo ≡ rem - (under - m) → hi ≡ min m rem → falling ≡ is_odd t → v ≡ first_value lo hi falling
      → v ≡ part_first ms (i - 1) rem t
  first_at i under m rem t lo hi v falling h el em elo ehi ed ev =
      let left : under - m ≡ sum_to ms (i - 1) = omega (arith, sum_below ms i h) in
      ev ∙ rw (elo, ehi, ed, left, em)

  found_other : (k rem t v : ℕ) → 0 < k → v ≡ part_first ms k rem t → (v ≡ get_or g k 0 → ⊥)
      → record { part = suc k; value = v } ≡ other_of ms g k rem t
  unfolding other_of
  found_other zero rem t v some is ne = absurd (omega arith)
  found_other (suc k) rem t v some is ne =
      rw (is, ne_eqb (part_first ms (suc k) rem t) (get_or g (suc k) 0) (λ e. ne (is ∙ e)))

  passed_other : (k rem t v : ℕ) → 0 < k → v ≡ part_first ms k rem t → v ≡ get_or g k 0
      → other_of ms g (k - 1) (rem - v) (t + v) ≡ other_of ms g k rem t
  unfolding other_of
  passed_other zero rem t v some is e = absurd (omega arith)
  passed_other (suc k) rem t v some is e =
      let back : suc k - 1 ≡ k = omega arith in
      rw (back, is, eq-eqb (part_first ms (suc k) rem t) (get_or g (suc k) 0) (sym is ∙ e))

  module _ (i rem t v : ℕ) (more : 1 < i) (is : v ≡ part_first ms (i - 1) rem t) where
    pub other_here : (v ≡ get_or g (i - 1) 0 → ⊥) → record { part = i; value = v } ≡ other_of ms g (i - 1) rem t
    other_here ne =
        let part : i ≡ suc (i - 1) = omega arith in
        ap (λ (k : ℕ). record { part = k; value = v }) part ∙ found_other (i - 1) rem t v (omega arith) is ne

    pub other_next : v ≡ get_or g (i - 1) 0 → other_of ms g (i - 1 - 1) (rem - v) (t + v) ≡ other_of ms g (i - 1) rem t
    other_next e = passed_other (i - 1) rem t v (omega arith) is e

  pub other_last : (i rem t : ℕ) → i ≡ 1 → record { part = 1; value = rem } ≡ other_of ms g (i - 1) rem t
  unfolding other_of
  other_last i rem t e = rw e

-- "g1 is then r minus the rest"
pub leftover_part : (ms g : List ℕ) (i rem t : ℕ) → i ≡ 1 → 0 < length g → rem ≤ sum_to ms i → set g 0 rem ≡ first_of ms i rem t ++ drop i g
unfolding first_of
leftover_part ms (x ∷ g) i rem t e some fits = rw e (ap (λ (v : ℕ). v ∷ g) (go (is_odd t)))
  where
    go : (b : Bool) → rem ≡ first_value (rem - 0) (min (get_or ms 0 0) rem) b
    go true = omega (arith, rw e at fits)
    go false = omega arith
leftover_part ms [] i rem t e some fits = absurd (omega arith)
