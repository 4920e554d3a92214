-- Bounds on the numbers of the band that cost nothing.
use mathlib.Core.Path.{◌≡◌, refl}
use mathlib.Core.Bool.{true}
use mathlib.Core.List.{List}
use Prim.Native.Nat.{ℕ, suc, ◌+◌, ◌-◌, ◌*◌, ◌/◌, ◌≤◌, ◌<◌, min}
use native.Mathlib.Nat.{le_refl}
use native.Mathlib.Omega.{arith}
use borrow.Author.Tests.{ltb-true}
use lib.Dec.{ltb}
use lib.ListN.{length, get_or}
use Rattle.walsh.specs.Tests.{every}
use Rattle.walsh.specs.Sums.{sum_to}
use Rattle.walsh.specs.Order.{count_of}
use Rattle.walsh.proofs.Tests.{every_at}
use Rattle.walsh.proofs.Cases.{on_less}
use Rattle.walsh.proofs.Lists.{sum_to_mono}
use Rattle.walsh.proofs.Complement.{count_complement}
use Rattle.walsh.proofs.Free.{free_row, running, free_row_lem, free_mono, count_free}
use Rattle.bounds.specs.Edition.{whole}
use Rattle.band.specs.Band.{cap}
use Rattle.band.proofs.Bands.{whole_band}
use Rattle.count.specs.Row.{UpTo, Within}

-- 51 for 24 parts, and 3, 4, 5, .. more for each part fewer
abbrev pub free_sum : ℕ → ℕ
free_sum n = 399 - n * (53 - n) / 2

below : (f : ℕ → ℕ) (b : ℕ) → every (λ n. ltb (f n) b) 25 ≡ true → (n : ℕ) → n ≤ 24 → f n < b
below f b e n h = ltb-true (f n) b (every_at (λ i. ltb (f i) b) 25 e n (omega arith))

pub free_product : (n : ℕ) → n ≤ 24 → n * (53 - n) < 697
free_product = below (λ n. n * (53 - n)) 697 refl

-- all compositions of the sum for n parts into n parts (of that for none, into one): 25 numbers that antt computes
free_within : (n : ℕ) → n ≤ 24 → get_or (free_row (suc (n - 1)) (free_sum n)) (free_sum n) 0 < cap
unfolding free_row running
free_within = below (λ n. get_or (free_row (suc (n - 1)) (free_sum n)) (free_sum n) 0) cap refl

-- so few parts and so small a sum have fewer
pub free_up_to : (ms : List ℕ) (n q k : ℕ) → q ≤ free_sum n → n ≤ 24 → k ≤ n → UpTo ms q k
free_up_to ms n q k l h b t c =
    let row = free_row_lem (suc (n - 1)) (free_sum n) (free_sum n) (le_refl (free_sum n)) in
    omega (arith, free_within n h, row, free_mono k (n - 1) t (free_sum n) (omega arith) (omega arith), count_free ms k t)

-- a sum t of the band is at most the total, and the bounds leave at most as much of it as they leave of the total
module _ (ms : List ℕ) (r q : ℕ) (reach : r ≤ whole ms) (e : q ≡ min r (whole ms - r)) where
  pub within_up_to : (k : ℕ) → k ≤ length ms → UpTo ms q k → Within ms r k
  within_up_to k l up t b =
      on_less q t
      (λ h _. rw (count_complement ms k t b.inside)
      (up (sum_to ms k - t) (other (sum_to ms k) (whole ms) (sum_to_mono ms k (length ms) l) b.low b.high e reach h)))
      (λ h _. up t h)
    where
      other : (s n : ℕ) → s ≤ n → r ≤ t + (n - s) → t ≤ r → q ≡ min r (n - r) → r ≤ n → q < t → s - t ≤ q
      other s n a c d f g h = omega arith

-- then N is within the limit
pub most : (ms : List ℕ) (r n : ℕ) → r ≤ whole ms → n ≡ length ms → ((k : ℕ) → k ≤ n → Within ms r k) → count_of ms r ≤ 9223372036854775807
unfolding count_of
most ms r n reach e h = le_of (h (length ms) (le_of_eq e) r (whole_band ms r reach))
  where
    le_of : {x : ℕ} → x < cap → x ≤ 9223372036854775807
    le_of l = omega arith

    le_of_eq : {a b : ℕ} → a ≡ b → b ≤ a
    le_of_eq q = omega arith
