-- 1..k: the sheets that are left before the first row.
use mathlib.Core.Path.{◌≡◌}
use mathlib.Core.List.{List}
use Prim.Native.Nat.{ℕ, suc, ◌<◌}
use native.Mathlib.Omega.{arith}
use lib.ListN.{length, get_or}
use Rattle.permutation.proofs.Counts.{below_zero, Counted}
use Rattle.permutation.proofs.Smaller.{tabulate_length, tabulate_at}
use Rattle.permutation.proofs.Inverse.{Under}
use Rattle.major.specs.Major.{up_to}
use Rattle.major.proofs.Erased.{Rising, below_cut}
use Rattle.major.proofs.Circle.{Behind, Ready}

pub length_up_to : (k : ℕ) → length (up_to k) ≡ k
length_up_to = tabulate_length suc

pub up_to_at : (k i : ℕ) → i < length (up_to k) → get_or (up_to k) i 0 ≡ suc i
up_to_at k i h = tabulate_at suc k i (omega (arith, length_up_to k))

up_to_rising : (k : ℕ) → Rising (up_to k)
up_to_rising k i j a b = rw (up_to_at k i (omega arith), up_to_at k j b) (omega arith)

-- v of them are at most v
pub up_to_counted : (k : ℕ) → Counted k (up_to k)
up_to_counted k =
    record {
      size = length_up_to k;
      up_to =
          λ v h.
          below_cut (suc v) v (up_to k) (omega (arith, length_up_to k))
          (λ i a. rw (up_to_at k i (omega (arith, length_up_to k))) (omega arith))
          (λ i a b. rw (up_to_at k i b) (omega arith));
    }

-- behind them stands a 0
pub up_to_behind : (k : ℕ) → Behind 0 0 (up_to k)
up_to_behind k =
    record {
      rising = up_to_rising k;
      place = below_zero (up_to k);
      other = (up_to_counted k).up_to 0 (omega arith);
    }

pub up_to_ready : (g : List ℕ) → Under g → Ready 0 0 (up_to (suc (length g))) g
up_to_ready g u = record { behind = up_to_behind (suc (length g)); size = length_up_to (suc (length g)); under = u }
