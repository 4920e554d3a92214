-- The stretches of a row, from its highest sum down: cells only enter the window, then enter and leave or neither, then only leave.
use mathlib.Core.Path.{◌≡◌, refl}
use mathlib.Core.Bool.{true, false}
use mathlib.Core.List.{List}
use Prim.Native.Nat.{ℕ, ◌+◌, ◌-◌, ◌≤◌, ◌<◌, min}
use native.Mathlib.Omega.{arith}
use native.Mathlib.Nat.{le_refl, le_trans, le_of_eq}
use lib.ListN.{length}
use borrow.Author.Tests.{ltb-true, ltb-false}
use Rattle.walsh.specs.Sums.{sum_to}
use Rattle.bounds.specs.Edition.{whole}
use Rattle.band.specs.Band.{cap}
use Rattle.band.specs.Window.{Slid}
use Rattle.band.proofs.Numbers.{no, no', below_256}
use Rattle.band.proofs.Bands.{low_next}
use Rattle.band.proofs.Stretches.{up_to_lem, between, beyond}
use Rattle.count.specs.Row.{RowCounts, Passed, Stretch, IsStretches}
use Rattle.count.specs.declared.row.Part.{Part}
use Rattle.count.specs.declared.row.Stretches.{Stretches}
use Rattle.count.proofs.Rows.{next_rises}

module _ (part : Part) (s : Stretches) (i : IsStretches part.row part.next part.m s) where
  abbrev high : ℕ
  high = part.row.high

  abbrev full : ℕ
  full = part.row.low + part.m

  abbrev least : ℕ
  least = min high full

  past_both : (t : ℕ) → s.first ≤ t → (high < t) × (full < t)
  past_both t h = beyond high full least t refl (omega (arith, i.first))

  low_full : part.next.low ≤ full
  low_full = rw (part.passing.to.low, part.passing.from.low, part.passing.bound) (low_next part.upper.now part.total part.k part.passing.given)

  low_first : part.next.low ≤ s.first
  low_first = omega (arith, i.first, low_full)

  pub grows : Stretch part.row part.next part.m s.from s.first true false
  grows =
      record {
        low = low_first;
        high = le_of_eq i.from;
        entering = λ t a b. record { entering = λ _. (past_both t a).1; staying = no };
        leaving = λ t a b. record { leaving = no'; passed = λ _. (past_both t a).0 };
      }

  module _ (from : ℕ) (e : from ≡ min s.from s.first) where
    from_le : from ≤ part.next.high + 1
    from_le = omega (arith, e, i.from)

    two : (t : ℕ) → s.second ≤ t → t < from → (full < high → (t ≤ high) × (full < t)) × (high ≤ full → (high < t) × (t ≤ full))
    two t a b = between high full least t refl (omega (arith, i.second, a)) (omega (arith, i.first, e, b))

    pub slides : Stretch part.row part.next part.m from s.second s.both s.both
    slides =
        rw i.both
        (record {
          low = omega (arith, i.second);
          high = from_le;
          entering = λ t a b.
              record { entering = λ h. ((two t a b).0 (ltb-true full high h)).1; staying = λ h. ((two t a b).1 (ltb-false full high h)).1 };
          leaving = λ t a b.
              record { leaving = λ h. ((two t a b).0 (ltb-true full high h)).0; passed = λ h. ((two t a b).1 (ltb-false full high h)).0 };
        })

    module _ (last : ℕ) (q : last ≡ min from s.second) where
      up_to_both : (t : ℕ) → part.next.low ≤ t → t < last → (t ≤ high) × (t ≤ full)
      up_to_both t a b = up_to_lem high full least t refl (omega (arith, i.second, q, a, b))

      pub shrinks : Stretch part.row part.next part.m last part.next.low false true
      shrinks =
          record {
            low = le_refl _;
            high = le_trans (omega (arith, q)) from_le;
            entering = λ t a b. record { entering = no'; staying = λ _. (up_to_both t a b).1 };
            leaving = λ t a b. record { leaving = λ _. (up_to_both t a b).0; passed = no };
          }

      -- they end at the row's lowest sum
      pub ends : (t : ℕ) → t ≡ min last part.next.low → t ≡ part.next.low
      ends t et = omega (arith, et, q, e, i.from, i.second, low_first, next_rises part)

-- before the row is written, and when it is
module _ (part : Part) (w : ℕ) (cells : List ℕ) where
  pub unwritten : length cells ≡ 256 → RowCounts part.upper.now part.total cells part.k 0 256 → Slid part.upper.now part.total part.k (part.next.high + 1) w → w < cap
      → Passed part.upper.now part.total part.k (part.next.high + 1) w cells
  unwritten long old s small =
      record {
        long = long;
        below = λ u i a b. old u i a (below_256 (le_trans i.high part.passing.small));
        above = λ u i a b. absurd (omega (arith, i.high, i.inside, part.passing.to.high, a));
        window = s;
        small = small;
      }

  pub written : (t : ℕ) → t ≡ part.next.low → Passed part.upper.now part.total part.k t w cells → RowCounts part.upper.now part.total cells (part.k + 1) 0 256
  written t e s u i a b = s.above u i (le i.low) b
    where
      le : part.total ≤ u + (whole part.upper.now - sum_to part.upper.now (part.k + 1)) → t ≤ u
      le h = omega (arith, e, part.passing.to.low)
