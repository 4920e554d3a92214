-- The step to the next composition: the first part that is not at its last value moves, and the parts to the left of it start again.
use mathlib.Core.Path.{◌≡◌, sym, ap, ◌∙◌, subst}
use mathlib.Core.Logic.{◌⊎◌, inl, inr}
use mathlib.Core.List.{List, [], ◌∷◌, ◌++◌, reverse}
use Prim.Native.Nat.{ℕ, zero, suc, ◌+◌, ◌-◌, ◌≤◌, ◌<◌}
use native.Mathlib.Nat.{not-suc-le-zero, le_refl}
use native.Mathlib.Decide.{ℕ_discrete}
use native.Mathlib.Omega.{arith}
use lib.ListN.{length, get_or, take, drop, length-append, length-drop}
use lib.Seq.{take-suc, take_at, take-length, get_or-append-add, get_or-drop, append_snoc}
use Rattle.walsh.specs.Sums.{sum_to}
use Rattle.walsh.specs.Order.{CompositionTo, Composition, is_odd, listing, order}
use Rattle.walsh.specs.Rank.{rank_of}
use Rattle.walsh.specs.Step.{next_value, part_last, first_of, AtLast, Pivot, step_at}
use Rattle.walsh.proofs.Cases.{last_or_less, up_to_lem}
use Rattle.walsh.proofs.Listing.{length_listing, listing_reverse, listing_zero_length, spot_lt, spot_at, earlier, inner}
use Rattle.walsh.proofs.Complete.{composition_low, composition_high, composition_prefix, rank_lt, rank_at, rank_of_lem}
use Rattle.walsh.proofs.Ends.{length_first, get_d_reverse, block_last, block_next_lt, block_next}

-- ---- the list after a step

module _ (ms : List ℕ) (r : ℕ) (g : List ℕ) (i : ℕ) where
  abbrev up_to : ℕ
  up_to = sum_to g (suc i)

  abbrev moved : ℕ
  moved = next_value (is_odd (r - up_to)) (get_or g i 0)

  abbrev front : List ℕ
  front = first_of ms i (up_to - moved) (r - up_to + moved) ++ (moved ∷ [])

  step_split : step_at ms r g i ≡ front ++ drop (suc i) g
  unfolding step_at
  step_split = sym (append_snoc (first_of ms i (up_to - moved) (r - up_to + moved)) moved (drop (suc i) g))

  length_front : length front ≡ suc i
  length_front =
      let left : List ℕ = first_of ms i (up_to - moved) (r - up_to + moved) in
      length-append left (moved ∷ []) ∙ omega (arith, length_first ms i (up_to - moved) (r - up_to + moved))

  step_front : take (suc i) (step_at ms r g i) ≡ front
  step_front = rw step_split (take_at front (drop (suc i) g) (suc i) length_front)

  step_length : i < length g → length (step_at ms r g i) ≡ length g
  step_length h = rw (step_split, length-append, length-drop) (omega (arith, length_front))

  step_right : (j : ℕ) → i < j → get_or (step_at ms r g i) j 0 ≡ get_or g j 0
  step_right j h =
      let at : j ≡ length front + (j - suc i) = omega (arith, length_front) in
      let at' : suc i + (j - suc i) ≡ j = omega arith in
      ap (λ (l : List ℕ). get_or l j 0) step_split
      ∙ ap (λ (n : ℕ). get_or (front ++ drop (suc i) g) n 0) at
      ∙ get_or-append-add front (drop (suc i) g) (j - suc i) 0
      ∙ get_or-drop (suc i) g (j - suc i) 0
      ∙ ap (λ (n : ℕ). get_or g n 0) at'

-- ---- in a listing

-- part k's last value, said of g and of the listing
last_same : (ms : List ℕ) (k rem t r : ℕ) (g : List ℕ) → r ≡ t + rem → sum_to g (suc k) ≡ rem
    → part_last ms k (sum_to g (suc k)) (r - sum_to g (suc k)) ≡ part_last ms k rem t
last_same ms k rem t r g er e =
    let et : r - rem ≡ t = omega arith in
    rw (e, et)

-- with every part at its last value, g is the last
pub step_last : (ms : List ℕ) (k rem t r : ℕ) (g : List ℕ) → r ≡ t + rem → CompositionTo ms k rem g
    → ((j : ℕ) → j < k → AtLast ms r g j)
    → suc (rank_of ms k rem t g) ≡ length (listing ms k rem t)
unfolding rank_of
step_last ms zero rem t r g er c done = sym (listing_zero_length ms rem t c.sums)
step_last ms (suc k) rem t r g er c done =
    let v : ℕ = get_or g k 0 in
    let below : suc (rank_of ms k (rem - v) (t + v) g) ≡ length (inner ms k rem t v) =
    step_last ms k (rem - v) (t + v) r g (omega (arith, c.sums)) (composition_prefix c) (λ j l. done j (omega arith)) in
    block_last ms k rem t v (rank_of ms k (rem - v) (t + v) g) (composition_low c) (composition_high c) below
    (done k (le_refl (suc k)) ∙ last_same ms k rem t r g er c.sums)

-- with part i the pivot, the next is the step at i
step_next : (ms : List ℕ) (k rem t r : ℕ) (g : List ℕ) → r ≡ t + rem → CompositionTo ms k rem g → k ≤ length g
    → (i : ℕ) → i < k → Pivot ms r g i
    → (suc (rank_of ms k rem t g) < length (listing ms k rem t))
    × (get_or (listing ms k rem t) (suc (rank_of ms k rem t g)) [] ≡ take k (step_at ms r g i))
unfolding rank_of
step_next ms zero rem t r g er c l i h pivot = absurd (not-suc-le-zero h)
step_next ms (suc k) rem t r g er c l i h pivot =
    go (step_next ms k (rem - v) (t + v) r g er' (composition_prefix c) (omega arith) i) (last_or_less h)
  where
    v : ℕ
    v = get_or g k 0

    s : ℕ
    s = rank_of ms k (rem - v) (t + v) g

    er' : r ≡ t + v + (rem - v)
    er' = omega (arith, er, c.sums)

    go : (i < k → Pivot ms r g i → (suc s < length (inner ms k rem t v)) × (get_or (inner ms k rem t v) (suc s) [] ≡ take k (step_at ms r g i)))
        → (i ≡ k) ⊎ (i < k)
        → (suc (earlier ms k rem t v + s) < length (listing ms (suc k) rem t))
        × (get_or (listing ms (suc k) rem t) (suc (earlier ms k rem t v + s)) [] ≡ take (suc k) (step_at ms r g i))
    go below (inl e) =
        let here : Pivot ms r g k = subst (Pivot ms r g) e pivot in
        let full : suc s ≡ length (inner ms k rem t v) = step_last ms k (rem - v) (t + v) r g er' (composition_prefix c) here.done in
        let ne : v ≡ part_last ms k rem t → ⊥ = λ q. here.moves (q ∙ sym (last_same ms k rem t r g er c.sums)) in
        let et : r - rem ≡ t = omega arith in
        let u : ℕ = next_value (is_odd t) v in
        let same : first_of ms k (rem - u) (t + u) ++ (u ∷ []) ≡ front ms r g k = rw (c.sums, et) in (
          block_next_lt ms k rem t v s (composition_low c) (composition_high c) full ne,
          block_next ms k rem t v s (composition_low c) (composition_high c) full ne
              ∙ same
              ∙ sym (step_front ms r g k)
              ∙ ap (λ (j : ℕ). take (suc k) (step_at ms r g j)) (sym e),
        )
    go below (inr l') =
        let b = below l' pivot in
        let on : suc (earlier ms k rem t v + s) ≡ earlier ms k rem t v + suc s = omega arith in
        let after : List ℕ = step_at ms r g i in
        let wide : i < length g = omega arith in
        let long : k < length after = rw (step_length ms r g i wide) l in (
          rw on (spot_lt ms k rem t v (suc s) (composition_low c) (composition_high c) b.0),
          ap (λ (p : ℕ). get_or (listing ms (suc k) rem t) p []) on
              ∙ spot_at ms k rem t v (suc s) (composition_low c) (composition_high c) b.0
              ∙ ap (λ (q : List ℕ). q ++ (v ∷ [])) b.1
              ∙ ap (λ (n : ℕ). take k after ++ (n ∷ [])) (sym (step_right ms r g i k l'))
              ∙ sym (take-suc after k 0 long),
        )

-- ---- in the order

-- among the first k parts of g every one is at its last value, or one is the pivot
abbrev pub LastOrPivot : List ℕ → ℕ → List ℕ → ℕ → Type 0
LastOrPivot ms r g k = ((j : ℕ) → j < k → AtLast ms r g j) ⊎ ((i : ℕ) × (i < k) × Pivot ms r g i)

pub find_pivot : (ms : List ℕ) (r : ℕ) (g : List ℕ) (k : ℕ) → LastOrPivot ms r g k
find_pivot ms r g zero = inl (λ j l. absurd (not-suc-le-zero l))
find_pivot ms r g (suc k) = go (find_pivot ms r g k) (ℕ_discrete (get_or g k 0) (part_last ms k (sum_to g (suc k)) (r - sum_to g (suc k))))
  where
    go : LastOrPivot ms r g k → Dec (AtLast ms r g k) → LastOrPivot ms r g (suc k)
    go (inr (i, l, p)) d = inr (i, omega arith, p)
    go (inl done) (yes e) = inl (up_to_lem (AtLast ms r g) e done)
    go (inl done) (no ne) = inr (k, le_refl (suc k), record { done = done; moves = ne })

-- where none is the pivot every one is at its last value
pub no_pivot : (ms : List ℕ) (r : ℕ) (g : List ℕ) (k : ℕ) → ((i : ℕ) → i < k → Pivot ms r g i → ⊥) → (j : ℕ) → j < k → AtLast ms r g j
no_pivot ms r g k none = go (find_pivot ms r g k)
  where
    go : LastOrPivot ms r g k → (j : ℕ) → j < k → AtLast ms r g j
    go (inl done) = done
    go (inr (i, h, pivot)) = absurd (none i h pivot)

module _ (ms : List ℕ) (r : ℕ) (g : List ℕ) (valid : Composition ms r g) where
  abbrev n : ℕ
  n = length ms

  -- g's place, and its place from the end
  abbrev there : ℕ
  there = rank_of ms n r 0 g

  abbrev back : ℕ
  back = rank_of ms n r 1 g

  whole : (w i : ℕ) → i < n → take n (step_at ms w g i) ≡ step_at ms w g i
  whole w i h =
      let wide : i < length g = omega (arith, valid.size) in
      ap (λ (m : ℕ). take m (step_at ms w g i)) (sym (step_length ms w g i wide ∙ valid.size)) ∙ take-length (step_at ms w g i)

  -- the last composition
  pub succ_last : ((j : ℕ) → j < length ms → AtLast ms r g j) → suc (rank_of ms (length ms) r 0 g) ≡ length (order ms r)
  unfolding order
  succ_last done = step_last ms n r 0 r g (omega arith) valid.parts done

  -- the next composition
  pub succ_at : (i : ℕ) → i < length ms → Pivot ms r g i
      → (suc (rank_of ms (length ms) r 0 g) < length (order ms r)) × (get_or (order ms r) (suc (rank_of ms (length ms) r 0 g)) [] ≡ step_at ms r g i)
  unfolding order
  succ_at i h pivot =
      let next = step_next ms n r 0 r g (omega arith) valid.parts (omega (arith, valid.size)) i h pivot in
      (next.0, next.1 ∙ whole r i h)

  -- ---- backwards: the listing where the parts to the right of the last sum to 1 is the order reversed

  turned : listing ms n r 1 ≡ reverse (listing ms n r 0)
  turned = listing_reverse ms n r 0

  same_length : length (listing ms n r 1) ≡ length (listing ms n r 0)
  same_length = length_listing ms n r 1 ∙ sym (length_listing ms n r 0)

  rank_back : suc (back + there) ≡ length (listing ms n r 0)
  rank_back =
      let h : back < length (listing ms n r 1) = rank_lt ms n r 1 g valid.parts in
      let j : ℕ = length (listing ms n r 0) - suc back in
      let here : get_or (listing ms n r 0) j [] ≡ take n g =
      sym (get_d_reverse (listing ms n r 0) back j (omega (arith, same_length)))
      ∙ ap (λ (l : List (List ℕ)). get_or l back []) (sym turned)
      ∙ rank_at ms n r 1 g valid.parts (omega (arith, valid.size)) in
      let at : there ≡ j = rank_of_lem ms n r 0 j (omega (arith, same_length)) g (omega (arith, valid.size)) here in
      omega (arith, same_length)

  -- the first composition
  pub pred_first : ((j : ℕ) → j < length ms → AtLast ms (suc r) g j) → rank_of ms (length ms) r 0 g ≡ 0
  pred_first done = omega (arith, rank_back, same_length, step_last ms n r 1 (suc r) g (omega arith) valid.parts done)

  -- the composition before
  pub pred_at : (i : ℕ) → i < length ms → Pivot ms (suc r) g i
      → (0 < rank_of ms (length ms) r 0 g) × (get_or (order ms r) (rank_of ms (length ms) r 0 g - 1) [] ≡ step_at ms (suc r) g i)
  unfolding order
  pred_at i h pivot =
      let next = step_next ms n r 1 (suc r) g (omega arith) valid.parts (omega (arith, valid.size)) i h pivot in
      let some : 0 < there = omega (arith, rank_back, same_length, next.0) in (
        some,
        sym (get_d_reverse (listing ms n r 0) (suc back) (there - 1) (omega (arith, rank_back)))
            ∙ ap (λ (l : List (List ℕ)). get_or l (suc back) []) (sym turned)
            ∙ next.1
            ∙ whole (suc r) i h,
      )
