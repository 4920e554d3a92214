-- Laws of the window that slides along a row of the band.
use Rattle.std.proofs.Common.{◌≡◌, ℕ, suc, ◌+◌, ◌-◌, ◌%◌, ◌<◌, ◌≤◌, max, List, length, get_or, le_trans, add-one, arith}
use Rattle.walsh.specs.Sums.{sum, sum_to}
use Rattle.walsh.specs.Order.{count}
use Rattle.walsh.proofs.Lists.{sum_mono, sum_to_mono, sum_to_step}
use Rattle.walsh.proofs.Listing.{count_none}
use Rattle.walsh.proofs.Peel.{sum_stop}
use Rattle.walsh.proofs.Window.{sum_at, sum_step, count_window}
use Rattle.bounds.specs.Edition.{whole}
use Rattle.band.specs.Band.{InBand, lowest, highest, cap}
use Rattle.band.specs.Window.{Slid}
use Rattle.band.proofs.Bands.{band_most, band_ends}

-- a window moved modulo 2^64, of numbers within the limit
pub moved_within : {r w x y : ℕ} → (r + x) % 18446744073709551616 ≡ (w + y) % 18446744073709551616 → r < 18446744073709551616 → x ≤ w → w < cap
    → y < cap → r ≡ w - x + y
moved_within e f l h k = omega arith

module _ (ms : List ℕ) (r : ℕ) where
  -- the sum that leaves the window is in the band
  pub behind_in : (k t m : ℕ) → m ≡ get_or ms k 0 → t ≤ highest ms r (k + 1) → lowest ms r k + m < t → InBand ms r k (t - (m + 1))
  behind_in k t m em h l =
      let e = sum_to_step ms k in
      record { low = omega (arith, l); high = omega (arith, h); inside = omega (arith, h, e, em) }

  low_before : (a m t : ℕ) → a + m ≤ whole ms → r - (whole ms - (a + m)) ≤ t → r - (whole ms - a) ≤ t - m
  low_before a m t l h = omega arith

  low_near : (a m : ℕ) → a + m ≤ whole ms → r - (whole ms - (a + m)) ≤ r - (whole ms - a) + m
  low_near a m l = omega arith

  latest : (x t m : ℕ) → x ≤ t - m → max x (t + 1 - (m + 1)) ≡ t - m
  latest x t m l = omega arith

  later : (x y t m : ℕ) → y ≤ x + m → max t y - m ≤ max x (t + 1 - (m + 1))
  later x y t m l = omega arith

  -- y enters the window, and x leaves it where it is full
  module _ (k t m w x y : ℕ) (s : Slid ms r k t w) (em : m ≡ get_or ms k 0) where
    abbrev f : ℕ → ℕ
    f = count ms k

    abbrev lo : ℕ
    lo = lowest ms r k

    slid_m : w + sum f (max lo (t - (m + 1))) ≡ sum f t
    slid_m = rw em s

    pub slid_leaves : lo + m < t → x ≡ f (t - (m + 1)) → x ≤ w
    slid_leaves l ex =
        let e = sum_at f (max lo (t - (m + 1))) (t - (m + 1)) (omega arith) in
        omega (arith, slid_m, ex, sum_step f (t - (m + 1)), sum_mono f (t - (m + 1) + 1) t (omega arith))

    pub slid_over : lo + m < t → x ≡ f (t - (m + 1)) → y ≡ f t → Slid ms r k (t + 1) (w - x + y)
    slid_over l ex ey =
        rw (← em)
        (let e = sum_at f (max lo (t - (m + 1))) (t - (m + 1)) (omega arith) in
        let e2 = sum_at f (max lo (t + 1 - (m + 1))) (t - (m + 1) + 1) (omega arith) in
        omega (arith, slid_m, ex, ey, slid_leaves l ex, sum_step f (t - (m + 1)), sum_step f t))

    pub slid_under : t ≤ lo + m → y ≡ f t → Slid ms r k (t + 1) (w + y)
    slid_under l ey =
        rw (← em)
        (let e = sum_at f (max lo (t - (m + 1))) lo (omega arith) in
        let e2 = sum_at f (max lo (t + 1 - (m + 1))) lo (omega arith) in
        omega (arith, slid_m, ey, sum_step f t))

  module _ (k t w : ℕ) (k_lt : k < length ms) (reach : r ≤ whole ms) (s : Slid ms r k (t + 1) w) where
    mono : sum_to ms (suc k) ≤ whole ms
    mono = sum_to_mono ms (suc k) (length ms) k_lt

    -- where the window is whole it is the number of compositions
    slid_is : lowest ms r (suc k) ≤ t → w ≡ count ms (suc k) t
    slid_is l =
        let e = sum_at (count ms k) (max (lowest ms r k) (t + 1 - (get_or ms k 0 + 1))) (t - get_or ms k 0)
        (latest (lowest ms r k) t (get_or ms k 0) (low_before (sum_to ms k) (get_or ms k 0) t mono l)) in
        let c = count_window ms k t in
        cancel e c
      where
        cancel : {b c : ℕ} → sum (count ms k) (max (lowest ms r k) (t + 1 - (get_or ms k 0 + 1))) ≡ b → c + b ≡ sum (count ms k) (t + 1) → w ≡ c
        cancel e c = omega arith

    -- and before that, less than one
    pub slid_most : t ≤ highest ms r (k + 1) → w ≤ count ms (length ms) r
    slid_most h' =
        let h : t ≤ highest ms r (suc k) = rw add-one at h' in
        let low = lowest ms r (suc k) in
        let u = max t low in
        let fits : low ≤ highest ms r (suc k) = omega (arith, mono) in
        join (count_window ms k u) (sum_mono (count ms k) (t + 1) (u + 1) (omega arith))
        (sum_mono (count ms k) (u - get_or ms k 0) (max (lowest ms r k) (t + 1 - (get_or ms k 0 + 1)))
        (later (lowest ms r k) low t (get_or ms k 0) (low_near (sum_to ms k) (get_or ms k 0) mono)))
        (band_most ms r (suc k) u k_lt (band_ends ms r (suc k) u (omega arith) (omega arith)))
      where
        join : {c a b n : ℕ} → c + a ≡ b → sum (count ms k) (t + 1) ≤ b → a ≤ sum (count ms k) (max (lowest ms r k) (t + 1 - (get_or ms k 0 + 1)))
            → c ≤ n → w ≤ n
        join p q x y = omega arith

  -- sums that the first k parts do not reach add nothing
  pub slid_jump : (k t u w : ℕ) → Slid ms r k t w → t ≤ u → u ≤ lowest ms r k + get_or ms k 0 + 1 → sum_to ms k < t → Slid ms r k u w
  slid_jump k t u w s l h over =
      let m = get_or ms k 0 in
      let f = count ms k in
      let none = sum_stop f t u l (λ i a b. count_none ms k i (omega arith)) in
      let e = sum_at f (max (lowest ms r k) (t - (m + 1))) (lowest ms r k) (lowest_max _ _ _ (le_trans l h)) in
      let e' = sum_at f (max (lowest ms r k) (u - (m + 1))) (lowest ms r k) (lowest_max _ _ _ h) in
      join s none e e'
    where
      lowest_max : (lo u m : ℕ) → u ≤ lo + m + 1 → max lo (u - (m + 1)) ≡ lo
      lowest_max lo u m l = omega arith

      join : {a a' b c d : ℕ} → w + a ≡ c → d ≡ c → a ≡ b → a' ≡ b → w + a' ≡ d
      join p q e e' = omega arith

pub slid_done : (ms : List ℕ) (r k t w : ℕ) → k < length ms → r ≤ whole ms → Slid ms r k (t + 1) w → lowest ms r (k + 1) ≤ t → w ≡ count ms (k + 1) t
slid_done ms r k t w l reach s h =
    let h' : lowest ms r (suc k) ≤ t = rw add-one at h in
    rw add-one (slid_is ms r k t w l reach s h')
