-- Document 01, "Walsh's order": "Mixes with the same ending stand together", and what the parts before the ending run through there.
use Rattle.std.specs.Prelude.{◌≡◌, List, [], ◌++◌, ℕ, ◌+◌, ◌-◌, ◌≤◌, ◌<◌, length, get_or, drop}
use Rattle.walsh.specs.Sums.{sum_to}
use Rattle.walsh.specs.Order.{listing, order, count}

-- The entries that end as g does from part k on stand at the places from `start`, `count ms k (sum_to g k)` of them and nowhere else. The parts
-- to the right sum to t = r - sum_to g k, and there the first k parts run through `listing ms k (r - t) t`.
pub record Together (ms : List ℕ) (r : ℕ) (g : List ℕ) (k : ℕ) : Type 0 where
  pub start : ℕ
  pub inside : (s : ℕ) → s < count ms k (sum_to g k)
      → (start + s < length (order ms r)) × (get_or (order ms r) (start + s) [] ≡ get_or (listing ms k (sum_to g k) (r - sum_to g k)) s [] ++ drop k g)
  pub only : (p : ℕ) → p < length (order ms r) → drop k (get_or (order ms r) p []) ≡ drop k g → (start ≤ p) × (p < start + count ms k (sum_to g k))
