-- The listing: its length, its reversal, and its places. Place p of `listing ms (suc k) rem t` is place s of the block of a value v of part k.
use mathlib.Core.Path.{◌≡◌, refl, sym, ap, ◌∙◌}
use mathlib.Core.Bool.{Bool, true, false}
use mathlib.Core.List.{List, [], ◌∷◌, ◌++◌, map, map-append, reverse, reverse-cons}
use Prim.Native.Nat.{ℕ, zero, suc, ◌+◌, ◌-◌, ◌≤◌, ◌<◌}
use native.Mathlib.Nat.{suc-add, sub_self, not-suc-le-zero, le_of_suc-le-suc}
use native.Mathlib.Omega.{arith}
use lib.ListN.{length, get_or, length-map}
use Rattle.walsh.specs.Sums.{sum, flat, sum_to}
use Rattle.walsh.specs.Order.{is_odd, least, most, value_at, part_value, part_choices, behind, listing, count}
use Rattle.walsh.specs.Rank.{part_index, block_size}
use Rattle.walsh.proofs.Lists.{sum_same, sum_none, length_flat, flat_lt, flat_at, Place, place, flat_mirror, is_odd_suc}
use Rattle.walsh.proofs.Lists.{value_low, value_high, index_value, index_lt, value_index, value_mirror, sum_values}

-- ---- the number of compositions

pub count_none : (ms : List ℕ) (k rem : ℕ) → sum_to ms k < rem → count ms k rem ≡ 0
unfolding count
count_none ms zero zero h = absurd (not-suc-le-zero h)
count_none ms zero (suc rem) h = refl
count_none ms (suc k) rem h = sum_none (λ v. count ms k (rem - v)) (suc (most ms k rem)) (λ v l. count_none ms k (rem - v) (omega arith))

-- the blocks of the values of a part are all
pub count_blocks : (ms : List ℕ) (k rem t : ℕ) → sum (block_size ms k rem t) (part_choices ms k rem) ≡ count ms (suc k) rem
unfolding count
count_blocks ms k rem t =
    sum_values (least ms k rem) (most ms k rem) (λ v. count ms k (rem - v)) (is_odd t) (λ v l. count_none ms k (rem - v) (omega arith))

length_behind : (v : ℕ) (gs : List (List ℕ)) → length (behind v gs) ≡ length gs
length_behind v gs = length-map gs (λ (g : List ℕ). g ++ (v ∷ []))

-- the compositions of what the value v of part k leaves
abbrev pub inner : List ℕ → ℕ → ℕ → ℕ → ℕ → List (List ℕ)
inner ms k rem t v = listing ms k (rem - v) (t + v)

-- the block of value number i
abbrev pub block : List ℕ → ℕ → ℕ → ℕ → ℕ → List (List ℕ)
block ms k rem t i = behind (part_value ms k rem t i) (inner ms k rem t (part_value ms k rem t i))

pub length_listing : (ms : List ℕ) (k rem t : ℕ) → length (listing ms k rem t) ≡ count ms k rem
unfolding listing
length_listing ms zero zero t = unfold count in refl
length_listing ms zero (suc rem) t = unfold count in refl
length_listing ms (suc k) rem t =
    let v : ℕ → ℕ = part_value ms k rem t in
    let sizes : (i : ℕ) → length (block ms k rem t i) ≡ block_size ms k rem t i =
    λ i. length_behind (v i) (inner ms k rem t (v i)) ∙ length_listing ms k (rem - v i) (t + v i) in
    length_flat (block ms k rem t) (part_choices ms k rem)
    ∙ sum_same (λ i. length (block ms k rem t i)) (block_size ms k rem t) (part_choices ms k rem) (λ i l. sizes i)
    ∙ count_blocks ms k rem t

-- ---- reversal

map_reverse : (f : List ℕ → List ℕ) (xs : List (List ℕ)) → map f (reverse xs) ≡ reverse (map f xs)
map_reverse f [] = refl
map_reverse f (x ∷ xs) =
    ap (map f) (reverse-cons x xs) ∙ map-append f (reverse xs) (x ∷ []) ∙ rw (map_reverse f xs) (sym (reverse-cons (f x) (map f xs)))

-- where the parts to the right sum to one more, the listing is reversed
pub listing_reverse : (ms : List ℕ) (k rem t : ℕ) → listing ms k rem (suc t) ≡ reverse (listing ms k rem t)
unfolding listing
listing_reverse ms zero zero t = refl
listing_reverse ms zero (suc rem) t = refl
listing_reverse ms (suc k) rem t =
    flat_mirror (block ms k rem (suc t)) (block ms k rem t) (part_choices ms k rem) (turned (λ v. listing_reverse ms k (rem - v) (t + v)))
  where
    turned : ((v : ℕ) → listing ms k (rem - v) (suc (t + v)) ≡ reverse (inner ms k rem t v))
        → (i j : ℕ) → suc (i + j) ≡ part_choices ms k rem → block ms k rem (suc t) i ≡ reverse (block ms k rem t j)
    turned below i j e =
        let v : ℕ = part_value ms k rem t j in
        let same : part_value ms k rem (suc t) i ≡ v = rw is_odd_suc (value_mirror (least ms k rem) (most ms k rem) (is_odd t) i j e) in
        rw (same, suc-add t v, below v) (map_reverse (λ (g : List ℕ). g ++ (v ∷ [])) (inner ms k rem t v))

-- ---- places

-- no part: the listing of 0 has one entry, the empty list, and that of any other total has none
pub listing_zero : (ms : List ℕ) (rem t p : ℕ) → p < length (listing ms zero rem t)
    → (p ≡ 0) × (rem ≡ 0) × (get_or (listing ms zero rem t) p [] ≡ [])
unfolding listing
listing_zero ms zero t zero h = (refl, refl, refl)
listing_zero ms zero t (suc p) h = absurd (not-suc-le-zero (le_of_suc-le-suc h))
listing_zero ms (suc rem) t p h = absurd (not-suc-le-zero h)

pub listing_zero_length : (ms : List ℕ) (rem t : ℕ) → 0 ≡ rem → length (listing ms zero rem t) ≡ 1
unfolding listing
listing_zero_length ms zero t e = refl
listing_zero_length ms (suc rem) t e = absurd (omega arith)

get_d_behind : (v : ℕ) (gs : List (List ℕ)) (s : ℕ) → s < length gs → get_or (behind v gs) s [] ≡ get_or gs s [] ++ (v ∷ [])
get_d_behind v [] s h = absurd (not-suc-le-zero h)
get_d_behind v (g ∷ gs) zero h = refl
get_d_behind v (g ∷ gs) (suc s) h = get_d_behind v gs s (le_of_suc-le-suc h)

module _ (ms : List ℕ) (k rem t : ℕ) where
  abbrev lo : ℕ
  lo = least ms k rem

  abbrev hi : ℕ
  hi = most ms k rem

  -- how many stand before the block of v
  abbrev pub earlier : ℕ → ℕ
  earlier v = sum (block_size ms k rem t) (part_index ms k rem t v)

  sizes_same : (n : ℕ) → sum (λ i. length (block ms k rem t i)) n ≡ sum (block_size ms k rem t) n
  sizes_same n =
      let v : ℕ → ℕ = part_value ms k rem t in
      sum_same (λ i. length (block ms k rem t i)) (block_size ms k rem t) n
      (λ i l. length_behind (v i) (inner ms k rem t (v i)) ∙ length_listing ms k (rem - v i) (t + v i))

  -- place p is place s of the block of v
  pub record Spot (p : ℕ) : Type 0 where
    pub v : ℕ
    pub s : ℕ
    pub low : least ms k rem ≤ v
    pub high : v ≤ most ms k rem
    pub s_lt : s < length (inner ms k rem t v)
    pub is : p ≡ earlier v + s

  module _ (v s : ℕ) (low : least ms k rem ≤ v) (high : v ≤ most ms k rem) (s_lt : s < length (inner ms k rem t v)) where
    abbrev i : ℕ
    i = part_index ms k rem t v

    value : part_value ms k rem t i ≡ v
    value = value_index lo hi (is_odd t) v low high

    i_lt : i < part_choices ms k rem
    i_lt = index_lt lo hi (is_odd t) v low high

    s_lt' : s < length (block ms k rem t i)
    s_lt' = rw (value, length_behind v (inner ms k rem t v)) s_lt

    pub spot_lt : earlier v + s < length (listing ms (suc k) rem t)
    unfolding listing
    spot_lt = rw (sizes_same i) at (flat_lt (block ms k rem t) (part_choices ms k rem) i s i_lt s_lt')

    pub spot_at : get_or (listing ms (suc k) rem t) (earlier v + s) [] ≡ get_or (inner ms k rem t v) s [] ++ (v ∷ [])
    unfolding listing
    spot_at =
        ap (λ (p : ℕ). get_or (flat (block ms k rem t) (part_choices ms k rem)) (p + s) []) (sym (sizes_same i))
        ∙ flat_at (block ms k rem t) (part_choices ms k rem) i s i_lt s_lt'
        ∙ ap (λ (u : ℕ). get_or (behind u (inner ms k rem t u)) s []) value
        ∙ get_d_behind v (inner ms k rem t v) s s_lt

  pub spot : (p : ℕ) → p < length (listing ms (suc k) rem t) → Spot p
  unfolding listing
  spot p h =
      let here : Place (block ms k rem t) (part_choices ms k rem) p = place (block ms k rem t) (part_choices ms k rem) p h in
      let u : ℕ = part_value ms k rem t here.block in
      let back : part_index ms k rem t u ≡ here.block = index_value lo hi (is_odd t) here.block here.block_lt in
      record {
        v = u;
        s = here.at;
        low = value_low lo hi (is_odd t) here.block here.block_lt;
        high = value_high lo hi (is_odd t) here.block here.block_lt;
        s_lt = rw (length_behind u (inner ms k rem t u)) at here.at_lt;
        is = here.is ∙ ap (λ (n : ℕ). n + here.at) (sizes_same here.block ∙ ap (sum (block_size ms k rem t)) (sym back));
      }

  pub spot_item : (p : ℕ) (here : Spot p) → get_or (listing ms (suc k) rem t) p [] ≡ get_or (inner ms k rem t here.v) here.s [] ++ (here.v ∷ [])
  spot_item p here =
      ap (λ (q : ℕ). get_or (listing ms (suc k) rem t) q []) here.is ∙ spot_at here.v here.s here.low here.high here.s_lt

-- ---- the first part

-- "g1 is then r minus the rest": where the first part is the only one left, it takes all that is left
pub listing_one : (ms : List ℕ) (rem t : ℕ) → rem ≤ get_or ms 0 0 → listing ms 1 rem t ≡ (rem ∷ []) ∷ []
unfolding listing
listing_one ms rem t h = ap (flat (block ms 0 rem t)) single ∙ ap (λ (v : ℕ). behind v (inner ms 0 rem t v)) (value (is_odd t)) ∙ rw (sub_self rem)
  where
    single : part_choices ms 0 rem ≡ 1
    single = omega arith

    value : (odd : Bool) → value_at (least ms 0 rem) (most ms 0 rem) odd 0 ≡ rem
    value true = omega arith
    value false = omega arith
