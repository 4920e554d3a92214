-- Laws of two columns of the same length, read as lines.
use mathlib.Core.Path.{◌≡◌, refl, sym, ap, ◌∙◌}
use mathlib.Core.Logic.{◌≢◌}
use mathlib.Core.Bool.{Bool, true, false, cond}
use mathlib.Core.List.{List, [], ◌∷◌}
use Prim.Native.Nat.{ℕ, zero, suc, ◌+◌, ◌<◌, min}
use native.Mathlib.Omega.{arith}
use lib.Dec.{eqb}
use lib.ListN.{length, get_or, take, drop}
use lib.Seq.{take_all}
use borrow.Author.Tests.{eq-eqb, ne_eqb}
use Rattle.walsh.specs.Tests.{times, both}
use Rattle.walsh.proofs.Cases.{on_test}
use Rattle.model.specs.Basics.{how_many}
use Rattle.model.specs.Entry.{entry, void_entry, voided_in, same_order, columns, pairs}
use Rattle.model.proofs.Entries.{room_entries, take_pairs, pairs_at}

pub both_false : (t : Bool) → both t false ≡ false
both_false true = refl
both_false false = refl

pub drop_pairs : (n : ℕ) (os is : List ℕ) → drop n (pairs os is) ≡ pairs (drop n os) (drop n is)
drop_pairs zero os is = refl
drop_pairs (suc n) [] is = refl
drop_pairs (suc n) (o ∷ os) [] = none (drop n os)
  where
    none : (l : List ℕ) → [] ≡ pairs l []
    none [] = refl
    none (x ∷ l) = refl
drop_pairs (suc n) (o ∷ os) (i ∷ is) = drop_pairs n os is

-- the beginnings of two columns, as many as both have, have the same lines
pub pairs_cut : (os is : List ℕ) → pairs (take (min (length os) (length is)) os) (take (min (length os) (length is)) is) ≡ pairs os is
pairs_cut os is =
    let n = min (length os) (length is) in
    sym (take_pairs n os is) ∙ take_all n (pairs os is) (omega (arith, room_entries (columns os is)))

module _ (os is : List ℕ) (e : length is ≡ length os) where
  pub pairs_length : length (pairs os is) ≡ length os
  pairs_length = omega (arith, room_entries (columns os is), e)

  pub line_at : (i : ℕ) → i < length os → get_or (pairs os is) i void_entry ≡ entry (get_or os i 0) (get_or is i 0)
  line_at i h = pairs_at os is i h (omega (arith, e, h))

-- a part of both, n lines from place i on
module _ (n i : ℕ) (os is : List ℕ) where
  pub part_lines : take n (drop i (pairs os is)) ≡ pairs (take n (drop i os)) (take n (drop i is))
  part_lines = ap (take n) (drop_pairs i os is) ∙ take_pairs n (drop i os) (drop i is)

-- the line at place i
module _ (os is : List ℕ) (e : length is ≡ length os) (i : ℕ) (h : i < length os) (o x : ℕ) where
  pub line_hit : get_or os i 0 ≡ o → get_or is i 0 ≡ x → same_order (entry o x) (get_or (pairs os is) i void_entry) ≡ true
  line_hit p q = rw (line_at os is e i h, eq-eqb (get_or os i 0) o p, eq-eqb (get_or is i 0) x q)

  pub other_number : get_or os i 0 ≢ o → same_order (entry o x) (get_or (pairs os is) i void_entry) ≡ false
  other_number p = rw (line_at os is e i h, ne_eqb (get_or os i 0) o p)

  pub other_item : get_or is i 0 ≢ x → same_order (entry o x) (get_or (pairs os is) i void_entry) ≡ false
  other_item q = rw (line_at os is e i h, ne_eqb (get_or is i 0) x q) (both_false (eqb (get_or os i 0) o))

-- the spoilt lines are the zeros of the order column
pub voided_zeros : (os is : List ℕ) → length is ≡ length os → voided_in (pairs os is) ≡ times 0 os
voided_zeros [] is e = refl
voided_zeros (o ∷ os) [] e = absurd (omega arith)
voided_zeros (o ∷ os) (i ∷ is) e = ap (λ (k : ℕ). cond (eqb o 0) 1 0 + k) (voided_zeros os is (omega arith))

-- where no order has the number, no line is of the order
pub none_same : (o i : ℕ) (os is : List ℕ) → times o os ≡ 0 → how_many (same_order (entry o i)) (pairs os is) ≡ 0
none_same o i [] is z = refl
none_same o i (x ∷ os) [] z = refl
none_same o i (x ∷ os) (y ∷ is) z =
    on_test (eqb x o)
    (λ t. let one : 1 + times o os ≡ 0 = rw t at z in absurd (omega arith))
    (λ f.
    let rest : 0 + times o os ≡ 0 = rw f at z in
    let h = none_same o i os is (omega arith) in
    rw f (omega arith))
