-- Laws of the window that moves down a row of the band.
use mathlib.Core.Path.{◌≡◌}
use mathlib.Core.List.{List}
use Prim.Native.Nat.{ℕ, ◌+◌, ◌-◌, ◌≤◌, ◌<◌, max}
use native.Mathlib.Omega.{arith}
use lib.ListN.{length, get_or}
use Rattle.walsh.specs.Sums.{sum}
use Rattle.walsh.specs.Order.{count}
use Rattle.walsh.proofs.Lists.{sum_mono}
use Rattle.walsh.proofs.Window.{sum_at, sum_step}
use Rattle.bounds.specs.Edition.{whole}
use Rattle.band.specs.Band.{InBand, lowest, highest}
use Rattle.band.specs.Window.{Slid}
use Rattle.band.proofs.Bands.{band_ends, low_next}
use Rattle.band.proofs.Slides.{slid_done}

module _ (ms : List ℕ) (r k : ℕ) where
  abbrev f : ℕ → ℕ
  f = count ms k

  abbrev lo : ℕ
  lo = lowest ms r k

  -- x leaves the window at the sum t, and y enters it where it is not at the end of the row
  module _ (t m w x y : ℕ) (s : Slid ms r k (t + 1) w) (em : m ≡ get_or ms k 0) where
    slid_m : w + sum f (max lo (t + 1 - (m + 1))) ≡ sum f (t + 1)
    slid_m = rw em s

    pub fall_leaves : lo ≤ t → x ≡ f t → x ≤ w
    fall_leaves l ex = omega (arith, slid_m, ex, sum_step f t, sum_mono f (max lo (t + 1 - (m + 1))) t (omega arith))

    pub fall_over : lo + m < t → x ≡ f t → y ≡ f (t - (m + 1)) → Slid ms r k t (w - x + y)
    fall_over l ex ey =
        rw (← em)
        (let e = sum_at f (max lo (t + 1 - (m + 1))) (t - (m + 1) + 1) (omega arith) in
        let e2 = sum_at f (max lo (t - (m + 1))) (t - (m + 1)) (omega arith) in
        omega (arith, slid_m, ex, ey, fall_leaves (omega arith) ex, sum_step f (t - (m + 1)), sum_step f t))

    pub fall_under : lo ≤ t → t ≤ lo + m → x ≡ f t → Slid ms r k t (w - x)
    fall_under a l ex =
        rw (← em)
        (let e = sum_at f (max lo (t + 1 - (m + 1))) lo (omega arith) in
        let e2 = sum_at f (max lo (t - (m + 1))) lo (omega arith) in
        omega (arith, slid_m, ex, fall_leaves a ex, sum_step f t))

  -- a window that a cell has entered is a number of the row after
  pub fall_count : (t w : ℕ) → k < length ms → r ≤ whole ms → Slid ms r k t w → lo + get_or ms k 0 < t → t ≤ highest ms r (k + 1)
      → InBand ms r (k + 1) (t - 1) × (w ≡ count ms (k + 1) (t - 1))
  fall_count t w l reach s h b =
      let low = low_next ms r k l in
      let e : t ≡ t - 1 + 1 = omega arith in
      let s' : Slid ms r k (t - 1 + 1) w = rw (← e) s in
      (band_ends ms r (k + 1) (t - 1) (omega arith) (omega arith), slid_done ms r k (t - 1) w l reach s' (omega arith))
