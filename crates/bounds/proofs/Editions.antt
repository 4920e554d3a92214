-- Laws of the definitions in specs/Edition.antt.
use mathlib.Core.Path.{◌≡◌, refl, sym}
use mathlib.Core.Bool.{Bool, true, false, false≢true}
use mathlib.Core.List.{List}
use Prim.Native.Nat.{ℕ, ◌+◌, ◌≤◌, ◌<◌}
use native.Mathlib.Omega.{arith}
use native.Mathlib.Numerals.{add-one}
use lib.Dec.{eqb, ltb}
use lib.ListN.{length, get_or, drop, drop_of_length-le}
use lib.Seq.{drop-cons}
use borrow.Author.Tests.{eqb-false, ltb-false}
use Rattle.walsh.specs.Tests.{either}
use Rattle.bounds.specs.Refusal.{first_refusal}
use Rattle.bounds.specs.Edition.{whole, outside, first_outside, shape_checks, limit_checks, edition_checks}
use Rattle.bounds.proofs.Refusals.{passed}
use Rattle.bounds.proofs.Chains.{accepts_split}

-- ---- the search for a bound over 60

module _ (ms : List ℕ) (i : ℕ) where
  pub first_here : i < length ms → outside (get_or ms i 0) ≡ true → first_outside (drop i ms) i ≡ i + 1
  unfolding first_outside
  first_here h e = rw (drop-cons ms i 0 h, e)

  pub first_next : i < length ms → outside (get_or ms i 0) ≡ false → first_outside (drop i ms) i ≡ first_outside (drop (i + 1) ms) (i + 1)
  unfolding first_outside
  first_next h e = rw (drop-cons ms i 0 h, e, add-one)

  pub first_none : length ms ≤ i → first_outside (drop i ms) i ≡ 0
  unfolding first_outside
  first_none h = rw (drop_of_length-le ms h)

-- ---- the checks 1 to 4

-- what the bounds and the total meet where the checks 1 to 4 refuse nothing
pub record Shapely (ms : List ℕ) (r : ℕ) : Type 0 where
  pub some : 0 < length ms
  pub few : length ms ≤ 24
  pub inside : first_outside ms 0 ≡ 0
  pub small : r ≤ 255
  pub reached : r ≤ whole ms

pub neither : (a b : Bool) → either a b ≡ false → (a ≡ false) × (b ≡ false)
neither true b e = absurd (false≢true (sym e))
neither false b e = (refl, e)

pub shapely : (ms : List ℕ) (r : ℕ) → (first_refusal (shape_checks ms r)).number ≡ 0 → Shapely ms r
shapely ms r e =
    let p1 = passed _ _ refl e in
    let p2 = passed _ _ refl p1.2 in
    let p3 = passed _ _ refl p2.2 in
    let p4 = passed _ _ refl p3.2 in
    let n = neither (eqb (length ms) 0) (ltb 24 (length ms)) p1.0 in
    record {
      some = omega (arith, eqb-false (length ms) 0 n.0);
      few = ltb-false _ _ n.1;
      inside = omega (arith, ltb-false 0 (first_outside ms 0) p2.0);
      small = ltb-false _ _ p3.0;
      reached = ltb-false _ _ p4.0;
    }

-- an edition that is accepted
pub edition_shapely : (ms : List ℕ) (r : ℕ) → (first_refusal (edition_checks ms r)).number ≡ 0 → Shapely ms r
edition_shapely ms r e = shapely ms r (accepts_split (shape_checks ms r) (limit_checks ms r) refl e).0
