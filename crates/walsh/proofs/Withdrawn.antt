-- Bounds of 0: the order is that of the other bounds with the zeros put back, and so are count, serials and neighbours. For every list of
-- bounds and every total.
use mathlib.Core.Path.{◌≡◌, refl, sym, ap, ◌∙◌, subst}
use mathlib.Core.List.{List, [], ◌∷◌, ◌++◌, map, map-append}
use Prim.Native.Nat.{ℕ, zero, suc, ◌+◌, ◌-◌, ◌≤◌, ◌<◌}
use native.Mathlib.Nat.{add-zero, sub-zero, le_refl, zero-lt-suc, not-suc-le-zero, le_of_suc-le-suc}
use native.Mathlib.Decide.{dec_le}
use native.Mathlib.Omega.{arith}
use lib.ListN.{length, get_or, take, replicate, length-map, length-replicate}
use lib.Seq.{take-suc, take-length}
use Rattle.walsh.specs.Sums.{flat, sum_to}
use Rattle.walsh.specs.Order.{Composition, is_odd, least, most, part_value, part_choices, behind, listing, order, count_of}
use Rattle.walsh.specs.Serial.{serial_of, composition_of}
use Rattle.walsh.specs.Withdrawn.{without, kept, spread}
use Rattle.walsh.proofs.Lists.{value_high}
use Rattle.walsh.proofs.Listing.{count_none, length_listing, inner, block}
use Rattle.walsh.proofs.Complete.{sound}
use Rattle.walsh.proofs.Serials.{count_length, composition_is, serial_le, serial_pos, composition_serial, serial_composition}

-- ---- lists

flat_same : (f g : ℕ → List (List ℕ)) (n : ℕ) → ((i : ℕ) → i < n → f i ≡ g i) → flat f n ≡ flat g n
flat_same f g zero h = refl
flat_same f g (suc n) h = rw (flat_same f g n (λ i l. h i (omega arith)), h n (le_refl (suc n)))

map_flat : (f : List ℕ → List ℕ) (b : ℕ → List (List ℕ)) (n : ℕ) → map f (flat b n) ≡ flat (λ i. map f (b i)) n
map_flat f b zero = refl
map_flat f b (suc n) = map-append f (flat b n) (b n) ∙ rw (map_flat f b n)

-- the same map on each of a list's entries
map_each : (f h : List ℕ → List ℕ) (gs : List (List ℕ)) → ((s : ℕ) → s < length gs → f (get_or gs s []) ≡ h (get_or gs s [])) → map f gs ≡ map h gs
map_each f h [] e = refl
map_each f h (g ∷ gs) e = rw (e 0 (zero-lt-suc (length gs)), map_each f h gs (λ s l. e (suc s) (omega arith)))

map_twice : (f h : List ℕ → List ℕ) (gs : List (List ℕ)) → map f (map h gs) ≡ map (λ (g : List ℕ). f (h g)) gs
map_twice f h [] = refl
map_twice f h (g ∷ gs) = ap (λ (r : List (List ℕ)). f (h g) ∷ r) (map_twice f h gs)

get_d_map : (f : List ℕ → List ℕ) (gs : List (List ℕ)) (s : ℕ) → s < length gs → get_or (map f gs) s [] ≡ f (get_or gs s [])
get_d_map f [] s h = absurd (not-suc-le-zero h)
get_d_map f (g ∷ gs) zero h = refl
get_d_map f (g ∷ gs) (suc s) h = get_d_map f gs s (le_of_suc-le-suc h)

-- ---- one bound more

kept_zero : (ms : List ℕ) → kept (ms ++ (0 ∷ [])) ≡ kept ms
kept_zero [] = refl
kept_zero (zero ∷ ms) = kept_zero ms
kept_zero (suc m ∷ ms) = ap (λ (r : List ℕ). suc m ∷ r) (kept_zero ms)

kept_suc : (ms : List ℕ) (m : ℕ) → length (kept (ms ++ (suc m ∷ []))) ≡ suc (length (kept ms))
kept_suc [] m = refl
kept_suc (zero ∷ ms) m = kept_suc ms m
kept_suc (suc n ∷ ms) m = ap suc (kept_suc ms m)

spread_zero : (ms g : List ℕ) → spread (ms ++ (0 ∷ [])) g ≡ spread ms g ++ (0 ∷ [])
spread_zero [] g = refl
spread_zero (zero ∷ ms) g = ap (λ (r : List ℕ). 0 ∷ r) (spread_zero ms g)
spread_zero (suc m ∷ ms) [] = ap (λ (r : List ℕ). 0 ∷ r) (spread_zero ms [])
spread_zero (suc m ∷ ms) (v ∷ g) = ap (λ (r : List ℕ). v ∷ r) (spread_zero ms g)

spread_suc : (ms g : List ℕ) (m v : ℕ) → length g ≡ length (kept ms) → spread (ms ++ (suc m ∷ [])) (g ++ (v ∷ [])) ≡ spread ms g ++ (v ∷ [])
spread_suc [] [] m v e = refl
spread_suc [] (x ∷ g) m v e = absurd (omega arith)
spread_suc (zero ∷ ms) g m v e = ap (λ (r : List ℕ). 0 ∷ r) (spread_suc ms g m v e)
spread_suc (suc n ∷ ms) [] m v e = absurd (omega arith)
spread_suc (suc n ∷ ms) (x ∷ g) m v e = ap (λ (r : List ℕ). x ∷ r) (spread_suc ms g m v (omega arith))

-- ---- the first k bounds: how many of them are left, and what stands there

abbrev left : List ℕ → ℕ → ℕ
left ms k = length (kept (take k ms))

left_zero : (ms : List ℕ) (k : ℕ) → k < length ms → get_or ms k 0 ≡ 0 → left ms (suc k) ≡ left ms k
left_zero ms k h e = rw (take-suc ms k 0 h, e, kept_zero (take k ms))

left_suc : (ms : List ℕ) (k m : ℕ) → k < length ms → get_or ms k 0 ≡ suc m → left ms (suc k) ≡ suc (left ms k)
left_suc ms k m h e = rw (take-suc ms k 0 h, e) (kept_suc (take k ms) m)

-- a bound that is left is the next of those left
left_bound : (ms : List ℕ) (k m : ℕ) → get_or ms k 0 ≡ suc m → get_or (kept ms) (left ms k) 0 ≡ suc m
left_bound [] k m e = absurd (omega arith)
left_bound (zero ∷ ms) zero m e = absurd (omega arith)
left_bound (zero ∷ ms) (suc k) m e = left_bound ms k m e
left_bound (suc n ∷ ms) zero m e = e
left_bound (suc n ∷ ms) (suc k) m e = left_bound ms k m e

left_sum : (ms : List ℕ) (k : ℕ) → k ≤ length ms → sum_to (kept ms) (left ms k) ≡ sum_to ms k
left_sum ms zero h = refl
left_sum ms (suc k) h = go (get_or ms k 0) refl (left_sum ms k (omega arith))
  where
    go : (m : ℕ) → get_or ms k 0 ≡ m → sum_to (kept ms) (left ms k) ≡ sum_to ms k → sum_to (kept ms) (left ms (suc k)) ≡ sum_to ms k + get_or ms k 0
    go zero e below = rw (left_zero ms k h e, e, add-zero) below
    go (suc m) e below = rw (left_suc ms k m h e, left_bound ms k m e, below, e)

-- all the bounds left
pub sum_kept : (ms : List ℕ) → sum_to (kept ms) (length (kept ms)) ≡ sum_to ms (length ms)
sum_kept ms = rw (take-length ms) at (left_sum ms (length ms) (le_refl (length ms)))

pub kept_few : (ms : List ℕ) → length (kept ms) ≤ length ms
kept_few [] = le_refl 0
kept_few (zero ∷ ms) = omega (arith, kept_few ms)
kept_few (suc m ∷ ms) = omega (arith, kept_few ms)

-- ---- the listing

-- a part with the bound 0 has the value 0
listing_withdrawn : (ms : List ℕ) (k rem t : ℕ) → get_or ms k 0 ≡ 0 → listing ms (suc k) rem t ≡ behind 0 (listing ms k rem t)
unfolding listing
listing_withdrawn ms k rem t e = go (dec_le rem (sum_to ms k))
  where
    none : (l : List (List ℕ)) → length l ≡ 0 → behind 0 l ≡ []
    none [] z = refl
    none (x ∷ xs) z = absurd (omega arith)

    value : rem ≤ sum_to ms k → part_value ms k rem t 0 ≡ 0
    value l = omega (arith, e, value_high (least ms k rem) (most ms k rem) (is_odd t) 0 (omega (arith, e)))

    go : Dec (rem ≤ sum_to ms k) → flat (block ms k rem t) (part_choices ms k rem) ≡ behind 0 (listing ms k rem t)
    go (yes l) =
        let one : part_choices ms k rem ≡ 1 = omega (arith, e) in
        rw (one, value l, sub-zero, add-zero)
    go (no l) =
        let nought : part_choices ms k rem ≡ 0 = omega (arith, e) in
        rw nought (sym (none (listing ms k rem t) (length_listing ms k rem t ∙ count_none ms k rem (omega arith))))

-- the compositions into the parts that are left of the first k, with the zeros put back
abbrev spread_listing : List ℕ → ℕ → ℕ → ℕ → List (List ℕ)
spread_listing ms k rem t = map (spread (take k ms)) (listing (kept ms) (left ms k) rem t)

spread_withdrawn : (ms : List ℕ) (k rem t : ℕ) → k < length ms → get_or ms k 0 ≡ 0
    → spread_listing ms (suc k) rem t ≡ behind 0 (spread_listing ms k rem t)
spread_withdrawn ms k rem t h e =
    let gs : List (List ℕ) = listing (kept ms) (left ms k) rem t in
    ap (λ (n : ℕ). map (spread (take (suc k) ms)) (listing (kept ms) n rem t)) (left_zero ms k h e)
    ∙ map_each (spread (take (suc k) ms)) (λ (g : List ℕ). spread (take k ms) g ++ (0 ∷ [])) gs
    (λ s l. rw (take-suc ms k 0 h, e) (spread_zero (take k ms) (get_or gs s [])))
    ∙ sym (map_twice (λ (g : List ℕ). g ++ (0 ∷ [])) (spread (take k ms)) gs)

-- the block of a value, with the zeros put back
spread_block : (ms : List ℕ) (k m rem t v : ℕ) → k < length ms → get_or ms k 0 ≡ suc m
    → map (spread (take (suc k) ms)) (behind v (inner (kept ms) (left ms k) rem t v)) ≡ behind v (spread_listing ms k (rem - v) (t + v))
spread_block ms k m rem t v h e =
    let gs : List (List ℕ) = inner (kept ms) (left ms k) rem t v in
    map_twice (spread (take (suc k) ms)) (λ (g : List ℕ). g ++ (v ∷ [])) gs
    ∙ map_each (λ (g : List ℕ). spread (take (suc k) ms) (g ++ (v ∷ []))) (λ (g : List ℕ). spread (take k ms) g ++ (v ∷ [])) gs
    (λ s l. rw (take-suc ms k 0 h, e) (spread_suc (take k ms) (get_or gs s []) m v (sound (kept ms) (left ms k) (rem - v) (t + v) s l).0))
    ∙ sym (map_twice (λ (g : List ℕ). g ++ (v ∷ [])) (spread (take k ms)) gs)

listing_spread : (ms : List ℕ) (k rem t : ℕ) → k ≤ length ms → listing ms k rem t ≡ spread_listing ms k rem t
unfolding listing
listing_spread ms zero zero t h = refl
listing_spread ms zero (suc rem) t h = refl
listing_spread ms (suc k) rem t h = go (get_or ms k 0) refl (λ rem t. listing_spread ms k rem t (omega arith))
  where
    go : (m : ℕ) → get_or ms k 0 ≡ m → ((rem t : ℕ) → listing ms k rem t ≡ spread_listing ms k rem t)
        → listing ms (suc k) rem t ≡ spread_listing ms (suc k) rem t
    go zero e below = listing_withdrawn ms k rem t e ∙ ap (behind 0) (below rem t) ∙ sym (spread_withdrawn ms k rem t h e)
    go (suc m) e below =
        flat_same (block ms k rem t) (λ i. map put (block (kept ms) (left ms k) rem t i)) (part_choices ms k rem) (λ i l. each i)
        ∙ rw (← choices) (sym (map_flat put (block (kept ms) (left ms k) rem t) (part_choices (kept ms) (left ms k) rem)))
        ∙ ap (λ (n : ℕ). map put (listing (kept ms) n rem t)) (sym (left_suc ms k m h e))
      where
        put : List ℕ → List ℕ
        put = spread (take (suc k) ms)

        sums : sum_to (kept ms) (left ms k) ≡ sum_to ms k
        sums = left_sum ms k (omega arith)

        choices : part_choices (kept ms) (left ms k) rem ≡ part_choices ms k rem
        choices = rw (sums, left_bound ms k m e, e)

        value : (i : ℕ) → part_value (kept ms) (left ms k) rem t i ≡ part_value ms k rem t i
        value i = rw (sums, left_bound ms k m e, e)

        each : (i : ℕ) → block ms k rem t i ≡ map put (block (kept ms) (left ms k) rem t i)
        each i =
            let v : ℕ = part_value ms k rem t i in
            ap (behind v) (below (rem - v) (t + v))
            ∙ sym (spread_block ms k m rem t v h e)
            ∙ ap (λ (u : ℕ). map put (behind u (inner (kept ms) (left ms k) rem t u))) (sym (value i))

-- ---- the order

-- "The order is that of the edition without the withdrawn kinds, with zeros put back."
pub order_spread : (ms : List ℕ) (r : ℕ) → order ms r ≡ map (spread ms) (order (kept ms) r)
unfolding order
order_spread ms r = listing_spread ms (length ms) r 0 (le_refl (length ms)) ∙ rw (take-length ms)

-- N is the same
pub count_kept : (ms : List ℕ) (r : ℕ) → count_of ms r ≡ count_of (kept ms) r
count_kept ms r =
    sym (count_length ms r) ∙ ap length (order_spread ms r) ∙ length-map (order (kept ms) r) (spread ms) ∙ count_length (kept ms) r

-- ---- compositions, shorter and with the zeros put back

without_spread : (ms g : List ℕ) → length g ≡ length (kept ms) → without ms (spread ms g) ≡ g
without_spread [] [] e = refl
without_spread [] (x ∷ g) e = absurd (omega arith)
without_spread (zero ∷ ms) g e = without_spread ms g e
without_spread (suc m ∷ ms) [] e = absurd (omega arith)
without_spread (suc m ∷ ms) (x ∷ g) e = ap (λ (r : List ℕ). x ∷ r) (without_spread ms g (omega arith))

-- what stands behind a shorter list is not read
pub spread_more : (ms g rest : List ℕ) → length g ≡ length (kept ms) → spread ms (g ++ rest) ≡ spread ms g
spread_more [] g rest e = refl
spread_more (zero ∷ ms) g rest e = ap (λ (r : List ℕ). 0 ∷ r) (spread_more ms g rest e)
spread_more (suc m ∷ ms) [] rest e = absurd (omega arith)
spread_more (suc m ∷ ms) (x ∷ g) rest e = ap (λ (r : List ℕ). x ∷ r) (spread_more ms g rest (omega arith))

-- zeros alone
pub spread_zeros : (ms : List ℕ) (n : ℕ) → spread ms (replicate n 0) ≡ replicate (length ms) 0
spread_zeros [] n = refl
spread_zeros (zero ∷ ms) n = ap (λ (r : List ℕ). 0 ∷ r) (spread_zeros ms n)
spread_zeros (suc m ∷ ms) zero = ap (λ (r : List ℕ). 0 ∷ r) (spread_zeros ms 0)
spread_zeros (suc m ∷ ms) (suc n) = ap (λ (r : List ℕ). 0 ∷ r) (spread_zeros ms n)

module _ (ms : List ℕ) (r : ℕ) where
  -- the composition of a serial is the shorter one's, with the zeros put back
  pub composition_spread : (s : ℕ) → 0 < s → s ≤ count_of ms r → composition_of ms r s ≡ spread ms (composition_of (kept ms) r s)
  unfolding composition_of
  composition_spread s h l =
      ap (λ (gs : List (List ℕ)). get_or gs (s - 1) []) (order_spread ms r)
      ∙ get_d_map (spread ms) (order (kept ms) r) (s - 1) (omega (arith, count_kept ms r, count_length (kept ms) r))

  -- the zeros put back make a composition, and it keeps its serial
  module _ (g : List ℕ) (valid : Composition (kept ms) r g) where
    abbrev s : ℕ
    s = serial_of (kept ms) r g

    within : s ≤ count_of ms r
    within = omega (arith, serial_le (kept ms) r g valid, count_kept ms r)

    entry : composition_of ms r s ≡ spread ms g
    entry = composition_spread s (serial_pos (kept ms) r g valid) within ∙ ap (spread ms) (composition_serial (kept ms) r g valid)

    pub spread_composition : Composition ms r (spread ms g)
    spread_composition = subst (Composition ms r) entry (composition_is ms r s (serial_pos (kept ms) r g valid) within)

    pub serial_spread : serial_of ms r (spread ms g) ≡ serial_of (kept ms) r g
    serial_spread = ap (serial_of ms r) (sym entry) ∙ serial_composition ms r s (serial_pos (kept ms) r g valid) within

  -- every composition is a shorter one with the zeros put back, of the same serial
  module _ (g : List ℕ) (valid : Composition ms r g) where
    abbrev n : ℕ
    n = serial_of ms r g

    abbrev shorter : List ℕ
    shorter = composition_of (kept ms) r n

    n_within : n ≤ count_of (kept ms) r
    n_within = omega (arith, serial_le ms r g valid, count_kept ms r)

    shorter_is : Composition (kept ms) r shorter
    shorter_is = composition_is (kept ms) r n (serial_pos ms r g valid) n_within

    g_is : g ≡ spread ms shorter
    g_is = sym (composition_serial ms r g valid) ∙ composition_spread n (serial_pos ms r g valid) (serial_le ms r g valid)

    without_is : without ms g ≡ shorter
    without_is = ap (without ms) g_is ∙ without_spread ms shorter shorter_is.size

    pub without_composition : Composition (kept ms) r (without ms g)
    without_composition = rw without_is shorter_is

    pub spread_without : spread ms (without ms g) ≡ g
    spread_without = rw without_is (sym g_is)

    -- the serial is that of the shorter composition
    pub serial_without : serial_of ms r g ≡ serial_of (kept ms) r (without ms g)
    serial_without = sym (ap (serial_of (kept ms) r) without_is ∙ serial_composition (kept ms) r n (serial_pos ms r g valid) n_within)

    -- the next composition is that of the shorter one, with the zeros put back, and so is the one before
    pub next_spread : serial_of ms r g < count_of ms r
        → composition_of ms r (serial_of ms r g + 1) ≡ spread ms (composition_of (kept ms) r (serial_of (kept ms) r (without ms g) + 1))
    next_spread l = rw (← serial_without) (composition_spread (n + 1) (omega arith) (omega arith))

    pub previous_spread : 1 < serial_of ms r g
        → composition_of ms r (serial_of ms r g - 1) ≡ spread ms (composition_of (kept ms) r (serial_of (kept ms) r (without ms g) - 1))
    previous_spread l = rw (← serial_without) (composition_spread (n - 1) (omega arith) (omega (arith, serial_le ms r g valid)))

-- ---- "Ceilings all 0 with total 0 have one mix."

kept_none : (n : ℕ) → kept (replicate n 0) ≡ []
kept_none zero = refl
kept_none (suc n) = kept_none n

order_no_parts : order [] 0 ≡ [] ∷ []
unfolding order listing
order_no_parts = refl

pub order_none : (n : ℕ) → order (replicate n 0) 0 ≡ replicate n 0 ∷ []
order_none n = order_spread (replicate n 0) 0 ∙ rw (kept_none n, order_no_parts, spread_zeros (replicate n 0) 0, length-replicate {A = ℕ} n 0)

pub count_zeros : (n : ℕ) → count_of (replicate n 0) 0 ≡ 1
count_zeros n = sym (count_length (replicate n 0) 0) ∙ ap length (order_none n)

pub composition_zeros : (n : ℕ) → Composition (replicate n 0) 0 (replicate n 0)
unfolding composition_of
composition_zeros n =
    let e : composition_of (replicate n 0) 0 1 ≡ replicate n 0 = ap (λ (gs : List (List ℕ)). get_or gs 0 []) (order_none n) in
    subst (Composition (replicate n 0) 0) e (composition_is (replicate n 0) 0 1 (omega arith) (omega (arith, count_zeros n)))
