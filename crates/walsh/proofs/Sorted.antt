-- The compositions stand in the order sorted by the comparison `before`, in which no bound occurs.
use mathlib.Core.Path.{◌≡◌, sym, ap, ◌∙◌}
use mathlib.Core.Bool.{Bool, true, false, false≢true}
use mathlib.Core.Logic.{◌↔◌, ◌⊎◌, inl, inr}
use mathlib.Core.List.{List, []}
use Prim.Native.Nat.{ℕ, zero, suc, ◌+◌, ◌-◌, ◌≤◌, ◌<◌}
use native.Mathlib.Decide.{ℕ_discrete}
use native.Mathlib.Omega.{arith}
use lib.ListN.{length, get_or}
use borrow.Author.Tests.{ltb-true}
use Rattle.walsh.specs.Sums.{sum}
use Rattle.walsh.specs.Order.{CompositionTo, Composition, is_odd, least, most, order}
use Rattle.walsh.specs.Serial.{serial_of}
use Rattle.walsh.specs.Compare.{value_before, before_to, before}
use Rattle.walsh.specs.Rank.{index_of, part_index, block_size, rank_of}
use Rattle.walsh.proofs.Lists.{sum_mono, value_index}
use Rattle.walsh.proofs.Listing.{length_listing, earlier, inner}
use Rattle.walsh.proofs.Complete.{composition_low, composition_high, composition_prefix, rank_lt, entry_composition, entry_rank}
use Rattle.walsh.proofs.Serials.{serial_rank}
use Rattle.walsh.proofs.Compare.{before_equal, before_differ, before_total}

-- the value that comes first has the smaller number
index_before : (lo hi : ℕ) (odd : Bool) (v w : ℕ) → lo ≤ v → v ≤ hi → lo ≤ w → w ≤ hi
    → value_before odd v w ≡ true → index_of lo hi odd v < index_of lo hi odd w
index_before lo hi true v w lv hv lw hw e = omega (arith, ltb-true w v e)
index_before lo hi false v w lv hv lw hw e = omega (arith, ltb-true v w e)

module _ (ms : List ℕ) (k rem t : ℕ) (g h : List ℕ) where
  -- in the same block, by the parts before it
  same_block : get_or g k 0 ≡ get_or h k 0
      → rank_of ms k (rem - get_or g k 0) (t + get_or g k 0) g < rank_of ms k (rem - get_or g k 0) (t + get_or g k 0) h
      → rank_of ms (suc k) rem t g < rank_of ms (suc k) rem t h
  unfolding rank_of
  same_block e below = rw (← e) (omega arith)

  -- an earlier block is passed whole
  earlier_block : CompositionTo ms (suc k) rem g → CompositionTo ms (suc k) rem h → value_before (is_odd t) (get_or g k 0) (get_or h k 0) ≡ true
      → rank_of ms (suc k) rem t g < rank_of ms (suc k) rem t h
  unfolding rank_of
  earlier_block cg ch b =
      let v : ℕ = get_or g k 0 in
      let w : ℕ = get_or h k 0 in
      let lo : ℕ = least ms k rem in
      let hi : ℕ = most ms k rem in
      let less : part_index ms k rem t v < part_index ms k rem t w =
      index_before lo hi (is_odd t) v w (composition_low cg) (composition_high cg) (composition_low ch) (composition_high ch) b in
      let size : block_size ms k rem t (part_index ms k rem t v) ≡ length (inner ms k rem t v) =
      rw (value_index lo hi (is_odd t) v (composition_low cg) (composition_high cg)) (sym (length_listing ms k (rem - v) (t + v))) in
      let inside : rank_of ms k (rem - v) (t + v) g < length (inner ms k rem t v) = rank_lt ms k (rem - v) (t + v) g (composition_prefix cg) in
      let whole : sum (block_size ms k rem t) (suc (part_index ms k rem t v)) ≤ earlier ms k rem t w =
      sum_mono (block_size ms k rem t) (suc (part_index ms k rem t v)) (part_index ms k rem t w) less in
      omega arith

rank_before : (ms : List ℕ) (k rem t : ℕ) (g h : List ℕ) → CompositionTo ms k rem g → CompositionTo ms k rem h → before_to k t g h ≡ true
    → rank_of ms k rem t g < rank_of ms k rem t h
unfolding before_to
rank_before ms zero rem t g h cg ch b = absurd (false≢true b)
rank_before ms (suc k) rem t g h cg ch b = go (rank_before ms k (rem - v) (t + v) g h (composition_prefix cg)) (ℕ_discrete v (get_or h k 0))
  where
    v : ℕ
    v = get_or g k 0

    go : (CompositionTo ms k (rem - v) h → before_to k (t + v) g h ≡ true → rank_of ms k (rem - v) (t + v) g < rank_of ms k (rem - v) (t + v) h)
        → Dec (v ≡ get_or h k 0)
        → rank_of ms (suc k) rem t g < rank_of ms (suc k) rem t h
    go below (yes e) = same_block ms k rem t g h e (below (rw e (composition_prefix ch)) (sym (before_equal k t g h e) ∙ b))
    go below (no ne) = earlier_block ms k rem t g h cg ch (sym (before_differ k t g h ne) ∙ b)

module _ (ms : List ℕ) (r : ℕ) where
  before_less : (g h : List ℕ) → Composition ms r g → Composition ms r h → before g h ≡ true → serial_of ms r g < serial_of ms r h
  unfolding before
  before_less g h cg ch b =
      let by_parts : before_to (length ms) 0 g h ≡ true = rw cg.size at b in
      omega (arith, serial_rank ms r g cg, serial_rank ms r h ch, rank_before ms (length ms) r 0 g h cg.parts ch.parts by_parts)

  -- the comparison and the serials say the same
  pub before_serial : (g h : List ℕ) → Composition ms r g → Composition ms r h → (before g h ≡ true) ↔ (serial_of ms r g < serial_of ms r h)
  before_serial g h cg ch = (before_less g h cg ch, λ l. go l (before_total g h (cg.size ∙ sym ch.size)))
    where
      go : serial_of ms r g < serial_of ms r h → (before g h ≡ true) ⊎ ((g ≡ h) ⊎ (before h g ≡ true)) → before g h ≡ true
      go l (inl b) = b
      go l (inr (inl e)) = absurd (omega (arith, ap (serial_of ms r) e))
      go l (inr (inr b)) = absurd (omega (arith, before_less h g ch cg b))

  -- the list is sorted
  pub order_sorted : (s s' : ℕ) → s < s' → s' < length (order ms r) → before (get_or (order ms r) s []) (get_or (order ms r) s' []) ≡ true
  order_sorted s s' l h' =
      let g : List ℕ = get_or (order ms r) s [] in
      let g' : List ℕ = get_or (order ms r) s' [] in
      let h : s < length (order ms r) = omega arith in
      let c : Composition ms r g = entry_composition ms r s h in
      let c' : Composition ms r g' = entry_composition ms r s' h' in
      (before_serial g g' c c').1 (omega (arith, serial_rank ms r g c, serial_rank ms r g' c', entry_rank ms r s h, entry_rank ms r s' h'))
