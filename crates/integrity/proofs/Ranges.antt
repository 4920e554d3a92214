-- Laws of the least and the highest of some item lines, and of an item line beside its order.
use mathlib.Core.Path.{◌≡◌, refl, sym, ap, ◌∙◌}
use mathlib.Core.Logic.{◌≢◌}
use mathlib.Core.Bool.{Bool, true, false, not, beq}
use mathlib.Core.List.{List, [], ◌∷◌, ◌++◌}
use Prim.Native.Nat.{ℕ, ◌+◌, ◌≤◌, ◌<◌, min, max}
use native.Mathlib.Numerals.{add-one}
use native.Mathlib.Omega.{arith}
use lib.Dec.{eqb}
use lib.ListN.{length, get_or, take}
use lib.Seq.{take-suc}
use borrow.Author.Tests.{ne_eqb, le-ltb}
use Rattle.walsh.specs.Tests.{times, both, either}
use Rattle.walsh.proofs.Cases.{on_test, on_less}
use Rattle.model.specs.Basics.{how_many}
use Rattle.model.specs.Entry.{void_entry, is_unmatched, unsound_in, pairs}
use Rattle.integrity.specs.Range.{least_in, most_in}
use Rattle.integrity.proofs.Pairs.{line_at}

-- ---- one more

module _ (x : ℕ) where
  least_snoc : (l : List ℕ) → x ≤ 255 → least_in (l ++ (x ∷ [])) ≡ min (least_in l) x
  least_snoc [] h = omega arith
  least_snoc (y ∷ l) h = omega (arith, least_snoc l h)

  most_snoc : (l : List ℕ) → most_in (l ++ (x ∷ [])) ≡ max (most_in l) x
  most_snoc [] = omega arith
  most_snoc (y ∷ l) = omega (arith, most_snoc l)

module _ (l : List ℕ) (i : ℕ) (h : i < length l) where
  pub least_more : (a : ℕ) → get_or l i 0 ≤ 255 → a ≡ least_in (take i l) → min a (get_or l i 0) ≡ least_in (take (i + 1) l)
  least_more a b e = rw (add-one i, take-suc l i 0 h, least_snoc (get_or l i 0) (take i l) b, e)

  pub most_more : (a : ℕ) → a ≡ most_in (take i l) → max a (get_or l i 0) ≡ most_in (take (i + 1) l)
  most_more a e = rw (add-one i, take-suc l i 0 h, most_snoc (get_or l i 0) (take i l), e)

-- ---- the lines of two columns

-- an item line over 99 makes its line unsound
pub over_unsound : (os is : List ℕ) → length is ≡ length os → 99 < most_in is → unsound_in (pairs os is) ≢ 0
over_unsound [] [] e h = absurd (omega arith)
over_unsound [] (i ∷ is) e h = absurd (omega arith)
over_unsound (o ∷ os) [] e h = absurd (omega arith)
over_unsound (o ∷ os) (i ∷ is) e h =
    on_less 99 i
    (λ b t. rw t (λ z. omega (arith, z)))
    (λ b t z.
    let rest = over_unsound os is (omega arith) (omega arith) in
    rest (omega (arith, z)))

-- with none over 99 only the unmatched lines are unsound
pub few_unsound : (os is : List ℕ) → most_in is ≤ 99 → unsound_in (pairs os is) ≡ how_many is_unmatched (pairs os is)
few_unsound [] is h = refl
few_unsound (o ∷ os) [] h = refl
few_unsound (o ∷ os) (i ∷ is) h =
    rw (le-ltb 99 i (omega arith), few_unsound os is (omega arith))

-- where no order and no item line is 0, all match
pub all_matched : (os is : List ℕ) → times 0 os ≡ 0 → least_in is ≢ 0 → how_many is_unmatched (pairs os is) ≡ 0
all_matched [] is z n = refl
all_matched (o ∷ os) [] z n = refl
all_matched (o ∷ os) (i ∷ is) z n =
    on_test (eqb o 0)
    (λ t. let one : 1 + times 0 os ≡ 0 = rw t at z in absurd (omega arith))
    (λ f.
    let rest : 0 + times 0 os ≡ 0 = rw f at z in
    let k = all_matched os is (omega arith) (λ q. n (omega (arith, q))) in
    rw (f, ne_eqb i 0 (λ q. n (omega (arith, q))), k))

-- ---- an item line beside an order

-- one of two tests holds, and not both
one_alone : (a b : Bool) → not (beq a b) ≡ either (both b (not a)) (both (not b) a)
one_alone true true = refl
one_alone true false = refl
one_alone false true = refl
one_alone false false = refl

-- of line k, as the code tests it
pub unmatched_line : (os is : List ℕ) → length is ≡ length os → (k : ℕ) → k < length os
    → not (beq (eqb (get_or os k 0) 0) (eqb (get_or is k 0) 0)) ≡ is_unmatched (get_or (pairs os is) k void_entry)
unmatched_line os is e k h = one_alone (eqb (get_or os k 0) 0) (eqb (get_or is k 0) 0) ∙ ap is_unmatched (sym (line_at os is e k h))
