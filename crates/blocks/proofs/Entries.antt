-- Laws of blocks: what stands behind an entry of a block, where the next block begins, and where the entries stand in the lists.
use mathlib.Core.Path.{◌≡◌, refl, sym, ap, ◌∙◌, subst}
use mathlib.Core.List.{List, [], ◌++◌}
use Prim.Native.Nat.{ℕ, zero, suc, ◌+◌, ◌-◌, ◌*◌, ◌≤◌, ◌<◌}
use native.Mathlib.Omega.{arith}
use lib.ListN.{length, get_or, take, drop, take-append-drop}
use lib.Seq.{length-take-le, get_or-take, drop_at}
use Rattle.walsh.specs.Sums.{flat, sum_to}
use Rattle.walsh.specs.Order.{Composition, is_odd, part_value, part_choices, behind, listing, order, count, count_of}
use Rattle.walsh.specs.Serial.{serial_of, composition_of}
use Rattle.walsh.specs.Rank.{rank_of}
use Rattle.walsh.specs.Ending.{Together}
use Rattle.walsh.proofs.Cases.{on_test}
use Rattle.walsh.proofs.Lists.{sum_same, is_odd_suc}
use Rattle.walsh.proofs.Listing.{length_listing, listing_reverse}
use Rattle.walsh.proofs.Ends.{get_d_reverse}
use Rattle.walsh.proofs.Complete.{sound, rank_lt, rank_at, composition_to, once}
use Rattle.walsh.proofs.Endings.{together}
use Rattle.walsh.proofs.Serials.{count_length, composition_is, serial_pos, serial_le, composition_serial}
use Rattle.blocks.specs.Lists.{number_to, Lists}
use Rattle.blocks.specs.Blocks.{Entered, listed_at}
use Rattle.blocks.proofs.Listed.{entry_at_lem, entry_room}

-- ---- within a block, and from one to the next

module _ (ms : List ℕ) (r w : ℕ) (l : w ≤ length ms) where
  module _ (g : List ℕ) (valid : Composition ms r g) (i : ℕ) (at : Entered ms r w g i) (p : ℕ) (some : 0 < p) (high : p ≤ count_of ms r)
      (is : g ≡ composition_of ms r p) where
    block : Together ms r g w
    block = together ms r g valid w l

    -- the entry of which g has the number
    place : p ≡ suc (block.start + i)
    unfolding composition_of
    place =
        let here = block.inside i at.inside in
        let same : get_or (order ms r) (p - 1) [] ≡ get_or (order ms r) (block.start + i) [] =
        sym is ∙ sym (here.1 ∙ ap (λ (x : List ℕ). x ++ drop w g) at.is ∙ take-append-drop w g) in
        let e = once ms r (p - 1) (block.start + i) (omega (arith, count_length ms r)) here.0 same in
        omega arith

    -- the entries behind it, with the same ending
    pub same_block : (j : ℕ) → i + j < count ms w (sum_to g w)
        → (p + j ≤ count_of ms r) × (composition_of ms r (p + j) ≡ get_or (listing ms w (sum_to g w) (r - sum_to g w)) (i + j) [] ++ drop w g)
    unfolding composition_of
    same_block j b =
        let here = block.inside (i + j) b in
        let e : p + j - 1 ≡ block.start + (i + j) = omega (arith, place) in
        (omega (arith, here.0, count_length ms r, place), ap (λ (q : ℕ). get_or (order ms r) q []) e ∙ here.1)

    -- the first of the next block is the first entry there
    pub next_block : (k : ℕ) → 0 < k → i + k ≡ count ms w (sum_to g w) → p + k ≤ count_of ms r → Entered ms r w (composition_of ms r (p + k)) 0
    unfolding composition_of
    next_block k more full within = subst (λ (q : ℕ). Entered ms r w h q) (first (rank_of ms w (sum_to h w) (r - sum_to h w) h) refl) entered
      where
        q : ℕ
        q = p + k - 1

        h : List ℕ
        h = get_or (order ms r) q []

        inside_q : q < length (order ms r)
        inside_q = omega (arith, count_length ms r)

        valid_h : Composition ms r h
        valid_h = composition_is ms r (p + k) (omega arith) within

        entered : Entered ms r w h (rank_of ms w (sum_to h w) (r - sum_to h w) h)
        entered =
            let c = composition_to valid_h w l in
            record {
              inside = rw length_listing at (rank_lt ms w (sum_to h w) (r - sum_to h w) h c);
              is = rank_at ms w (sum_to h w) (r - sum_to h w) h c (omega (arith, valid_h.size));
            }

        after : Together ms r h w
        after = together ms r h valid_h w l

        -- were it not, the one before would have both endings, and the block of g were longer
        first : (x : ℕ) → x ≡ rank_of ms w (sum_to h w) (r - sum_to h w) h → x ≡ 0
        first zero e = refl
        first (suc x) e =
            let inside-x : suc x < count ms w (sum_to h w) = subst (λ (y : ℕ). y < count ms w (sum_to h w)) (sym e) entered.inside in
            let here = after.inside (suc x) inside-x in
            let is-h : get_or (listing ms w (sum_to h w) (r - sum_to h w)) (suc x) [] ≡ take w h =
            ap (λ (y : ℕ). get_or (listing ms w (sum_to h w) (r - sum_to h w)) y []) e ∙ entered.is in
            let at-h : q ≡ after.start + suc x =
            once ms r q (after.start + suc x) inside_q here.0
            (sym (here.1 ∙ ap (λ (y : List ℕ). y ++ drop w h) is-h ∙ take-append-drop w h)) in
            let before = after.inside x (omega arith) in
            let long = (sound ms w (sum_to h w) (r - sum_to h w) x (rw length_listing (omega arith))).0 in
            let ends : drop w (get_or (order ms r) (after.start + x) []) ≡ drop w h = ap (drop w) before.1 ∙ drop_at (get_or (listing ms w (sum_to h w) (r - sum_to h w)) x []) (drop w h) w long in
            let last = block.inside (i + k - 1) (omega arith) in
            let long' = (sound ms w (sum_to g w) (r - sum_to g w) (i + k - 1) (rw length_listing (omega arith))).0 in
            let ends' : drop w (get_or (order ms r) (block.start + (i + k - 1)) []) ≡ drop w g = ap (drop w) last.1 ∙ drop_at (get_or (listing ms w (sum_to g w) (r - sum_to g w)) (i + k - 1) []) (drop w g) w long' in
            let same : after.start + x ≡ block.start + (i + k - 1) = omega (arith, place, at-h) in
            let ending : drop w h ≡ drop w g = sym ends ∙ ap (λ (y : ℕ). drop w (get_or (order ms r) y [])) same ∙ ends' in
            let only = block.only q inside_q ending in
            absurd (omega (arith, only.1, place))

-- ---- the entries in the lists

add_sub : (n : ℕ) → 1 + n - 1 ≡ n
add_sub n = omega arith

flat_same : (f g : ℕ → List (List ℕ)) (n : ℕ) → ((i : ℕ) → i < n → f i ≡ g i) → flat f n ≡ flat g n
flat_same f g zero same = refl
flat_same f g (suc n) same = rw (flat_same f g n (λ i l. same i (omega arith)), same n (omega arith))

-- the order of the first parts asks for no other bounds
listing_front : (ms : List ℕ) (w k rem t : ℕ) → k ≤ w → listing (take w ms) k rem t ≡ listing ms k rem t
unfolding listing
listing_front ms w zero zero t l = refl
listing_front ms w zero (suc rem) t l = refl
listing_front ms w (suc k) rem t l =
    let m : get_or (take w ms) k 0 ≡ get_or ms k 0 = get_or-take w ms k 0 l in
    let under : sum_to (take w ms) k ≡ sum_to ms k =
    sum_same (λ i. get_or (take w ms) i 0) (λ i. get_or ms i 0) k (λ i b. get_or-take w ms i 0 (omega arith)) in
    rw (m, under)
    (flat_same
    (λ i. behind (part_value ms k rem t i) (listing (take w ms) k (rem - part_value ms k rem t i) (t + part_value ms k rem t i)))
    (λ i. behind (part_value ms k rem t i) (listing ms k (rem - part_value ms k rem t i) (t + part_value ms k rem t i)))
    (part_choices ms k rem)
    (λ i b. ap (behind (part_value ms k rem t i)) (listing_front ms w k (rem - part_value ms k rem t i) (t + part_value ms k rem t i) (omega arith))))

module _ (ms : List ℕ) (w : ℕ) (l : w ≤ length ms) where
  abbrev front : List ℕ
  front = take w ms

  front_size : length front ≡ w
  front_size = length-take-le w ms l

  pub count_front : (s : ℕ) → count_of front s ≡ count ms w s
  unfolding count_of
  count_front s =
      ap (λ (k : ℕ). count front k s) front_size
      ∙ sym (length_listing front w s 0)
      ∙ ap length (listing_front ms w w s 0 (omega arith))
      ∙ length_listing ms w s 0

  -- forwards where t is even, backwards where it is odd
  listing_way : (s t i : ℕ) → i < count ms w s
      → get_or (listing ms w s t) i [] ≡ get_or (listing ms w s 0) (listed_at (is_odd t) (count ms w s) i) []
  listing_way s zero i b = refl
  listing_way s (suc t) i b =
      let c : ℕ = count ms w s in
      let back : get_or (listing ms w s (suc t)) i [] ≡ get_or (listing ms w s t) (c - 1 - i) [] =
      ap (λ (x : List (List ℕ)). get_or x i []) (listing_reverse ms w s t)
      ∙ get_d_reverse (listing ms w s t) i (c - 1 - i) (omega (arith, length_listing ms w s t)) in
      back
      ∙ listing_way s t (c - 1 - i) (omega arith)
      ∙ ap (λ (k : ℕ). get_or (listing ms w s 0) k [])
      (on_test (is_odd t)
      (λ odd. rw (is_odd_suc t, odd) (omega arith))
      (λ even. rw (is_odd_suc t, even)))

  -- entry number i of the sum s, where the ending sums to t
  module _ (most : ℕ) (entries starts : List ℕ) (lists : Lists front most entries starts) (s t i : ℕ) (h : s ≤ most) (b : i < count ms w s) where
    abbrev way : ℕ
    way = listed_at (is_odd t) (count ms w s) i

    listed_lt : way < count_of front s
    listed_lt = on_test (is_odd t) (λ odd. rw odd (omega (arith, count_front s))) (λ even. rw even (omega (arith, count_front s)))

    pub entry_is : take w (drop ((number_to front s + way) * w) entries) ≡ get_or (listing ms w s t) i []
    unfolding composition_of order
    entry_is =
        subst (λ (k : ℕ). take k (drop ((number_to front s + way) * k) entries) ≡ get_or (listing front k s 0) way []) front_size
        (entry_at_lem front most entries starts lists s way h listed_lt ∙ ap (λ (q : ℕ). get_or (listing front (length front) s 0) q []) (add_sub way))
        ∙ ap (λ (x : List (List ℕ)). get_or x way []) (listing_front ms w w s 0 (omega arith))
        ∙ sym (listing_way s t i b)

    pub entry_fits : (number_to front s + way) * w + 16 ≤ length entries
    entry_fits =
        subst (λ (k : ℕ). (number_to front s + way) * k + 16 ≤ length entries) front_size (entry_room front most entries starts lists s way h listed_lt)

  -- ---- the place of a composition's first parts in their list, and in their block

  pub front_sum : (l : List ℕ) → w ≤ length l → sum_to (take w l) (length (take w l)) ≡ sum_to l w
  front_sum g h =
      ap (sum_to (take w g)) (length-take-le w g h) ∙ sum_same (λ i. get_or (take w g) i 0) (λ i. get_or g i 0) w (λ i b. get_or-take w g i 0 b)

  module _ (r : ℕ) (g : List ℕ) (valid : Composition ms r g) where
    composition_front : Composition front (sum_to g w) (take w g)
    composition_front =
        let long : w ≤ length g = omega (arith, valid.size) in
        record {
          size = length-take-le w g long ∙ sym front_size;
          parts =
              record {
                fits = λ i b.
                    let inside : i < w = omega (arith, front_size) in
                    rw (get_or-take w g i 0 inside, get_or-take w ms i 0 inside) (valid.parts.fits i (omega arith));
                sums = ap (sum_to (take w g)) (front_size ∙ sym (length-take-le w g long)) ∙ front_sum g long;
              };
        }

    module _ (x : ℕ) (is : x ≡ serial_of front (sum_to g w) (take w g)) where
      pub place_within : (0 < x) × (x ≤ count ms w (sum_to g w))
      place_within = (
        omega (arith, serial_pos front (sum_to g w) (take w g) composition_front),
        omega (arith, serial_le front (sum_to g w) (take w g) composition_front, count_front (sum_to g w)),
      )

      pub entered_at : Entered ms r w g (listed_at (is_odd (r - sum_to g w)) (count ms w (sum_to g w)) (x - 1))
      unfolding composition_of order
      entered_at =
          let s : ℕ = sum_to g w in
          let c : ℕ = count ms w s in
          let odd = is_odd (r - s) in
          let i : ℕ = listed_at odd c (x - 1) in
          let (low, high) = place_within in
          let inside : i < c = on_test odd (λ t. rw t (omega arith)) (λ t. rw t (omega arith)) in
          let twice : listed_at odd c i ≡ x - 1 = on_test odd (λ t. rw t (omega arith)) (λ t. rw t) in
          let listed : get_or (listing front (length front) s 0) (x - 1) [] ≡ take w g =
          ap (λ (y : ℕ). get_or (listing front (length front) s 0) (y - 1) []) is ∙ composition_serial front s (take w g) composition_front in
          record {
            inside = inside;
            is =
                listing_way s (r - s) i inside
                ∙ ap (λ (k : ℕ). get_or (listing ms w s 0) k []) twice
                ∙ ap (λ (y : List (List ℕ)). get_or y (x - 1) []) (sym (listing_front ms w w s 0 (omega arith)))
                ∙ ap (λ (k : ℕ). get_or (listing front k s 0) (x - 1) []) (sym front_size)
                ∙ listed;
          }
