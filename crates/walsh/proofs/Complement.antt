-- Each part taken from its bound: a composition of the total becomes one of what the total leaves of the bounds' sum, so there are as many of both.
use mathlib.Core.Path.{◌≡◌, sym, ap, ◌∙◌}
use mathlib.Core.List.{List}
use Prim.Native.Nat.{ℕ, zero, suc, ◌+◌, ◌-◌, ◌≤◌, ◌<◌}
use native.Mathlib.Omega.{arith}
use lib.ListN.{get_or}
use Rattle.walsh.specs.Sums.{sum_to}
use Rattle.walsh.specs.Order.{count}
use Rattle.walsh.proofs.Cases.{on_less}
use Rattle.walsh.proofs.Lists.{sum_mirror}
use Rattle.walsh.proofs.Listing.{count_none}
use Rattle.walsh.proofs.Peel.{after, after_le, after_lt, count_last}

-- the values i and j of part k, together its bound m, leave as much; s is the sum of the bounds to its left
module _ (ms : List ℕ) (k t m i j : ℕ) (e : i + j ≡ m) (high : t ≤ sum_to ms k + m) where
  abbrev s : ℕ
  s = sum_to ms k

  abbrev f : ℕ → ℕ
  f = count ms k

  -- the value i leaves more than the parts to the left can hold, or takes more than there is
  too_little : s < t - i → i ≤ t → after f t i ≡ after f (s + m - t) j
  too_little l h = after_le f t i h ∙ count_none ms k (t - i) l ∙ sym (after_lt f (s + m - t) j (omega arith))

  too_much : t < i → after f t i ≡ after f (s + m - t) j
  too_much l = after_lt f t i l ∙ sym (after_le f (s + m - t) j (omega arith) ∙ count_none ms k (s + m - t - j) (omega arith))

  between : t - i ≤ s → i ≤ t → f (t - i) ≡ f (s - (t - i)) → after f t i ≡ after f (s + m - t) j
  between l h same =
      let q : s - (t - i) ≡ s + m - t - j = omega arith in
      after_le f t i h ∙ same ∙ ap f q ∙ sym (after_le f (s + m - t) j (omega arith))

  mirrored : ((u : ℕ) → u ≤ s → f u ≡ f (s - u)) → after f t i ≡ after f (s + m - t) j
  mirrored below =
      on_less t i
      (λ l _. too_much l)
      (λ h _. on_less s (t - i) (λ l _. too_little l h) (λ l _. between l h (below (t - i) l)))

pub count_complement : (ms : List ℕ) (k t : ℕ) → t ≤ sum_to ms k → count ms k t ≡ count ms k (sum_to ms k - t)
count_complement ms zero t l = let z : t ≡ 0 = omega arith in rw z
count_complement ms (suc k) t l =
    let m = get_or ms k 0 in
    let u = sum_to ms k + m - t in
    count_last ms k t
    ∙ sum_mirror (after (count ms k) t) (after (count ms k) u) (suc m)
    (λ i j e. mirrored ms k t m i j (omega arith) l (count_complement ms k))
    ∙ sym (count_last ms k u)
