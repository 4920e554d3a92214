-- Laws of the walk from a rank to its composition: the block in which the rank falls, and the part that is stored.
use Rattle.std.proofs.Common.{◌≡◌, ℕ, suc, ◌+◌, ◌-◌, ◌<◌, ◌≤◌, List, [], ◌∷◌, ◌++◌, length, get_or, drop, set, sym, ap, ◌∙◌, append_assoc, arith, drop-cons, get_or-set_same, drop-set-lt, lt-length-set}
use Rattle.walsh.specs.Sums.{sum}
use Rattle.walsh.specs.Order.{listing, count, least, most, is_odd, part_value, part_choices}
use Rattle.walsh.specs.Rank.{block_size}
use Rattle.walsh.proofs.Cases.{on_less}
use Rattle.walsh.proofs.Lists.{value_low, value_high, index_value}
use Rattle.walsh.proofs.Listing.{length_listing, listing_zero, Spot, spot_item}
use Rattle.walsh.proofs.Window.{sum_at, sum_step}
use Rattle.band.specs.Walk.{Picked}

-- the scan for the block in which p falls
module _ (f : ℕ → ℕ) (n p : ℕ) (l : p < sum f n) where
  pub scan_first : 0 < n
  scan_first = on_less 0 n (λ b t. b) (λ b t. let e = sum_at f n 0 (omega arith) in omega arith)

  pub scan_next : (i s : ℕ) → i < n → p ≡ sum f i + s → f i ≤ s → i + 1 < n
  scan_next i s b e g =
      on_less (i + 1) n (λ b' t. b') (λ b' t. let e' = sum_at f n (i + 1) (omega arith) in omega (arith, sum_step f i))

pub picked : (ms : List ℕ) (k rem t p i v s : ℕ) → i < part_choices ms k rem → v ≡ part_value ms k rem t i
    → p ≡ sum (block_size ms k rem t) i + s → s < block_size ms k rem t i → Picked ms k rem t p v s
picked ms k rem t p i v s l ev e b =
    let lo = least ms k rem in
    let hi = most ms k rem in
    rw ev
    (record {
      low = value_low lo hi (is_odd t) i l;
      high = value_high lo hi (is_odd t) i l;
      inside = b;
      is = e ∙ ap (λ (j : ℕ). sum (block_size ms k rem t) j + s) (sym (index_value lo hi (is_odd t) i l));
    })

stored : (out : List ℕ) (k v : ℕ) → k < length out → drop k (set out k v) ≡ v ∷ drop (suc k) out
stored out k v l = rw (drop-cons (set out k v) k 0 (lt-length-set out k v l), get_or-set_same out k v 0 l, drop-set-lt (suc k) out k v (omega arith))

-- the composition at rank p ends in the value v, and before it stands the one at place s of what v leaves
module _ (ms : List ℕ) (k rem t p v s : ℕ) (h : Picked ms k rem t p v s) where
  here : Spot ms k rem t p
  here = record { v = v; s = s; low = h.low; high = h.high; s_lt = rw length_listing h.inside; is = h.is }

  item : get_or (listing ms (suc k) rem t) p [] ≡ get_or (listing ms k (rem - v) (t + v)) s [] ++ (v ∷ [])
  unfolding here
  item = spot_item ms k rem t p here

  pub picked_store : (k' : ℕ) (out : List ℕ) → k' ≡ suc k → k < length out
      → get_or (listing ms k (rem - v) (t + v)) s [] ++ drop k (set out k v) ≡ get_or (listing ms k' rem t) p [] ++ drop k' out
  picked_store k' out e l =
      rw (e, item, append_assoc) (ap (λ (r : List ℕ). get_or (listing ms k (rem - v) (t + v)) s [] ++ r) (stored out k v l))

  pub picked_le : v ≤ rem
  picked_le = omega (arith, h.high)

pub listing_done : (ms : List ℕ) (k rem t s : ℕ) (out : List ℕ) → k ≡ 0 → s < count ms k rem → get_or (listing ms k rem t) s [] ++ drop k out ≡ out
listing_done ms k rem t s out e l =
    let l' : s < count ms 0 rem = rw e at l in
    rw (e, (listing_zero ms rem t s (rw length_listing l')).2)
