-- The first and the last composition of a listing, and what follows the last of a block.
use mathlib.Core.Path.{◌≡◌, refl, sym, ap, ◌∙◌}
use mathlib.Core.Bool.{Bool, true, false}
use mathlib.Core.List.{List, [], ◌∷◌, ◌++◌, reverse, reverse-cons}
use Prim.Native.Nat.{ℕ, zero, suc, ◌+◌, ◌-◌, ◌≤◌, ◌<◌}
use native.Mathlib.Nat.{suc-add, sub_self, le_refl}
use native.Mathlib.Omega.{arith}
use lib.ListN.{length, get_or, length-append, length-reverse, get_or-append}
use lib.Seq.{get_or_at}
use Rattle.walsh.specs.Sums.{sum, sum_to}
use Rattle.walsh.specs.Order.{is_odd, least, most, choices, part_choices, listing}
use Rattle.walsh.specs.Rank.{index_of, part_index, block_size}
use Rattle.walsh.specs.Step.{first_value, last_value, next_value, part_first, part_last, first_of}
use Rattle.walsh.proofs.Lists.{is_odd_suc_suc, value_index}
use Rattle.walsh.proofs.Listing.{length_listing, count_blocks, listing_reverse, listing_zero, listing_zero_length}
use Rattle.walsh.proofs.Listing.{spot_lt, spot_at, earlier, inner}

-- ---- first, last and next value

module _ (lo hi : ℕ) where
  first_low : (odd : Bool) → lo ≤ hi → lo ≤ first_value lo hi odd
  first_low true h = h
  first_low false h = le_refl lo

  first_high : (odd : Bool) → lo ≤ hi → first_value lo hi odd ≤ hi
  first_high true h = le_refl hi
  first_high false h = h

  first_index : (odd : Bool) → index_of lo hi odd (first_value lo hi odd) ≡ 0
  first_index true = sub_self hi
  first_index false = sub_self lo

  last_index : (odd : Bool) → lo ≤ hi → suc (index_of lo hi odd (last_value lo hi odd)) ≡ choices lo hi
  last_index true h = omega arith
  last_index false h = omega arith

  pub next_low : (odd : Bool) (v : ℕ) → lo ≤ v → (v ≡ last_value lo hi odd → ⊥) → lo ≤ next_value odd v
  next_low true v low ne = omega arith
  next_low false v low ne = omega arith

  pub next_high : (odd : Bool) (v : ℕ) → v ≤ hi → (v ≡ last_value lo hi odd → ⊥) → next_value odd v ≤ hi
  next_high true v high ne = omega arith
  next_high false v high ne = omega arith

  next_index : (odd : Bool) (v : ℕ) → lo ≤ v → v ≤ hi → (v ≡ last_value lo hi odd → ⊥)
      → index_of lo hi odd (next_value odd v) ≡ suc (index_of lo hi odd v)
  next_index true v low high ne = omega arith
  next_index false v low high ne = omega arith

-- ---- the first

module _ (ms : List ℕ) (k rem : ℕ) where
  -- there is a value for part k
  some_value : rem ≤ sum_to ms (suc k) → least ms k rem ≤ most ms k rem
  some_value h = omega arith

  -- what a value leaves fits into the parts before
  pub rest_fits : (v : ℕ) → least ms k rem ≤ v → rem - v ≤ sum_to ms k
  rest_fits v h = omega arith

first_entry : (ms : List ℕ) (k rem t : ℕ) → rem ≤ sum_to ms k
    → (0 < length (listing ms k rem t)) × (get_or (listing ms k rem t) 0 [] ≡ first_of ms k rem t)
unfolding first_of
first_entry ms zero rem t h =
    let some : 0 < length (listing ms zero rem t) = omega (arith, listing_zero_length ms rem t (omega arith)) in
    (some, (listing_zero ms rem t 0 some).2)
first_entry ms (suc k) rem t h =
    let lo = least ms k rem in
    let hi = most ms k rem in
    let v = part_first ms k rem t in
    let some : lo ≤ hi = some_value ms k rem h in
    let low : lo ≤ v = first_low lo hi (is_odd t) some in
    let high : v ≤ hi = first_high lo hi (is_odd t) some in
    let none : earlier ms k rem t v + 0 ≡ 0 = rw (first_index lo hi (is_odd t)) in
    let below = first_entry ms k (rem - v) (t + v) (rest_fits ms k rem v low) in (
      rw none at (spot_lt ms k rem t v 0 low high below.0),
      (rw none at (spot_at ms k rem t v 0 low high below.0)) ∙ rw below.1,
    )

module _ (ms : List ℕ) (k rem t : ℕ) (h : rem ≤ sum_to ms k) where
  pub first_lt : 0 < length (listing ms k rem t)
  first_lt = (first_entry ms k rem t h).0

  pub first_at : get_or (listing ms k rem t) 0 [] ≡ first_of ms k rem t
  first_at = (first_entry ms k rem t h).1

pub length_first : (ms : List ℕ) (k rem t : ℕ) → length (first_of ms k rem t) ≡ k
unfolding first_of
length_first ms zero rem t = refl
length_first ms (suc k) rem t =
    let v = part_first ms k rem t in
    length-append (first_of ms k (rem - v) (t + v)) (v ∷ []) ∙ omega (arith, length_first ms k (rem - v) (t + v))

-- only the parity of t counts
pub first_period : (ms : List ℕ) (k rem t : ℕ) → first_of ms k rem (suc (suc t)) ≡ first_of ms k rem t
unfolding first_of
first_period ms zero rem t = refl
first_period ms (suc k) rem t =
    let v = part_first ms k rem t in
    rw (is_odd_suc_suc, suc-add, suc-add, first_period ms k (rem - v) (t + v))

-- ---- the last: the first of the listing where t is one more

pub get_d_reverse : (l : List (List ℕ)) (i j : ℕ) → suc (i + j) ≡ length l → get_or (reverse l) i [] ≡ get_or l j []
get_d_reverse [] i j e = absurd (omega arith)
get_d_reverse (x ∷ xs) i zero e = rw (reverse-cons x xs) (get_or_at (reverse xs) x [] [] i (omega (arith, length-reverse xs)))
get_d_reverse (x ∷ xs) i (suc j) e =
    rw (reverse-cons x xs)
    (get_or-append (reverse xs) (x ∷ []) [] i (omega (arith, length-reverse xs)) ∙ get_d_reverse xs i j (omega arith))

pub last_at : (ms : List ℕ) (k rem t s : ℕ) → rem ≤ sum_to ms k → suc s ≡ length (listing ms k rem t)
    → get_or (listing ms k rem t) s [] ≡ first_of ms k rem (suc t)
last_at ms k rem t s h e =
    sym (get_d_reverse (listing ms k rem t) 0 s (omega arith))
    ∙ ap (λ (l : List (List ℕ)). get_or l 0 []) (sym (listing_reverse ms k rem t))
    ∙ first_at ms k rem (suc t) h

-- ---- from one block to the next

module _ (ms : List ℕ) (k rem t v s : ℕ) (low : least ms k rem ≤ v) (high : v ≤ most ms k rem) (full : suc s ≡ length (inner ms k rem t v)) where
  abbrev lo : ℕ
  lo = least ms k rem

  abbrev hi : ℕ
  hi = most ms k rem

  -- how many stand before the end of the block of v
  through : sum (block_size ms k rem t) (suc (part_index ms k rem t v)) ≡ suc (earlier ms k rem t v + s)
  through =
      let size : block_size ms k rem t (part_index ms k rem t v) ≡ suc s =
      rw (value_index lo hi (is_odd t) v low high) (sym (full ∙ length_listing ms k (rem - v) (t + v))) in
      omega arith

  -- the last of the last block is the last
  pub block_last : v ≡ part_last ms k rem t → suc (earlier ms k rem t v + s) ≡ length (listing ms (suc k) rem t)
  block_last e =
      let all : suc (part_index ms k rem t v) ≡ part_choices ms k rem = rw e (last_index lo hi (is_odd t) (omega arith)) in
      sym through ∙ ap (sum (block_size ms k rem t)) all ∙ count_blocks ms k rem t ∙ sym (length_listing ms (suc k) rem t)

  -- after the last of a block comes the first of the next
  module _ (ne : v ≡ part_last ms k rem t → ⊥) where
    abbrev u : ℕ
    u = next_value (is_odd t) v

    u_low : lo ≤ u
    u_low = next_low lo hi (is_odd t) v low ne

    u_high : u ≤ hi
    u_high = next_high lo hi (is_odd t) v high ne

    nonempty : 0 < length (inner ms k rem t u)
    nonempty = first_lt ms k (rem - u) (t + u) (rest_fits ms k rem u u_low)

    starts : suc (earlier ms k rem t v + s) ≡ earlier ms k rem t u + 0
    starts =
        let more : earlier ms k rem t u ≡ sum (block_size ms k rem t) (suc (part_index ms k rem t v)) =
        ap (sum (block_size ms k rem t)) (next_index lo hi (is_odd t) v low high ne) in
        omega (arith, through)

    pub block_next_lt : suc (earlier ms k rem t v + s) < length (listing ms (suc k) rem t)
    block_next_lt = rw starts (spot_lt ms k rem t u 0 u_low u_high nonempty)

    pub block_next : get_or (listing ms (suc k) rem t) (suc (earlier ms k rem t v + s)) [] ≡ first_of ms k (rem - u) (t + u) ++ (u ∷ [])
    block_next =
        ap (λ (p : ℕ). get_or (listing ms (suc k) rem t) p []) starts
        ∙ spot_at ms k rem t u 0 u_low u_high nonempty
        ∙ rw (first_at ms k (rem - u) (t + u) (rest_fits ms k rem u u_low))
