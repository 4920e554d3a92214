-- Compositions with the same ending stand together.
use mathlib.Core.Path.{◌≡◌, refl, sym, ap, ◌∙◌, subst}
use mathlib.Core.List.{List, [], ◌∷◌, ◌++◌, append-nil}
use Prim.Native.Nat.{ℕ, zero, suc, ◌+◌, ◌-◌, ◌≤◌, ◌<◌}
use native.Mathlib.Nat.{add-zero, add-suc, add_assoc, zero-add, sub_self}
use native.Mathlib.Omega.{arith}
use lib.ListN.{length, get_or, take, drop, take-append-drop}
use lib.Seq.{get_or-drop, drop-cons, drop_at, drop-length, append_snoc}
use Rattle.walsh.specs.Sums.{sum_to}
use Rattle.walsh.specs.Order.{CompositionTo, Composition, listing, order, count}
use Rattle.walsh.specs.Ending.{Together}
use Rattle.walsh.specs.Rank.{rank_of}
use Rattle.walsh.proofs.Listing.{length_listing, spot_lt, spot_at, earlier, inner}
use Rattle.walsh.proofs.Complete.{composition_low, composition_high, composition_to, composition_within}
use Rattle.walsh.proofs.Complete.{sound, rank_lt, rank_at, entry_composition, once}

-- the sum of the first k + j parts, by the ending from k on
sum_to_drop : (g : List ℕ) (k j : ℕ) → sum_to g (k + j) ≡ sum_to g k + sum_to (drop k g) j
sum_to_drop g k zero = rw (add-zero k) (sym (add-zero (sum_to g k)))
sum_to_drop g k (suc j) = rw add-suc (omega (arith, sum_to_drop g k j, get_or-drop k g j 0))

module _ (ms : List ℕ) (r : ℕ) where
  module _ (g : List ℕ) (valid : Composition ms r g) where
    record Inside (k : ℕ) : Type 0 where
      start : ℕ
      at : (s : ℕ) → s < count ms k (sum_to g k)
          → (start + s < length (order ms r)) × (get_or (order ms r) (start + s) [] ≡ get_or (listing ms k (sum_to g k) (r - sum_to g k)) s [] ++ drop k g)

    -- no ending: the whole order
    inside_all : Inside (length ms)
    unfolding order
    inside_all =
        record {
          start = 0;
          at = λ s l. (
            omega (arith, length_listing ms (length ms) r 0, ap (count ms (length ms)) valid.parts.sums),
            rw (valid.parts.sums, sub_self r, ended, append-nil, zero-add s),
          );
        }
      where
        ended : drop (length ms) g ≡ []
        ended = rw (← valid.size) (drop-length g)

    -- one part more in the ending: the block of its value
    inside_next : (k : ℕ) → k < length ms → Inside (suc k) → Inside k
    inside_next k h below =
        let rem : ℕ = sum_to g (suc k) in
        let t : ℕ = r - rem in
        let v : ℕ = get_or g k 0 in
        let c : CompositionTo ms (suc k) rem g = composition_to valid (suc k) h in
        let left : rem - v ≡ sum_to g k = omega arith in
        let right : t + v ≡ r - sum_to g k = omega (arith, composition_within valid (suc k) h) in
        let ends : drop k g ≡ v ∷ drop (suc k) g = drop-cons g k 0 (omega (arith, valid.size)) in
        record {
          start = below.start + earlier ms k rem t v;
          at = λ s l.
              let l' : s < length (inner ms k rem t v) = rw (length_listing, left) l in
              let p : ℕ = earlier ms k rem t v + s in
              let p-lt : p < count ms (suc k) rem = rw length_listing at (spot_lt ms k rem t v s (composition_low c) (composition_high c) l') in
              let x : List ℕ = get_or (inner ms k rem t v) s [] in
              let whole : get_or (listing ms (suc k) rem t) p [] ++ drop (suc k) g ≡ x ++ drop k g =
              rw (spot_at ms k rem t v s (composition_low c) (composition_high c) l', ends) (append_snoc x v (drop (suc k) g)) in
              let found = below.at p p-lt in
              rw (add_assoc below.start (earlier ms k rem t v) s) (found.0, found.1 ∙ whole ∙ rw (left, right));
        }

    inside : (j k : ℕ) → k + j ≡ length ms → Inside k
    inside zero k e = subst Inside (sym (sym (add-zero k) ∙ e)) inside_all
    inside (suc j) k e = inside_next k (omega arith) (inside j (suc k) (omega arith))

    -- an entry h that ends as g does stands at the place of its first k parts in the interval
    module _ (k : ℕ) (l : k ≤ length ms) (here : Inside k) where
      only : (p : ℕ) → p < length (order ms r) → drop k (get_or (order ms r) p []) ≡ drop k g
          → (here.start ≤ p) × (p < here.start + count ms k (sum_to g k))
      only p inside-p e =
          let h : List ℕ = get_or (order ms r) p [] in
          let ch : Composition ms r h = entry_composition ms r p inside-p in
          let rem : ℕ = sum_to g k in
          let t : ℕ = r - rem in
          let j : ℕ = length ms - k in
          let all : k + j ≡ length ms = omega arith in
          let sum-g : sum_to g k + sum_to (drop k g) j ≡ r = sym (sum_to_drop g k j) ∙ ap (sum_to g) all ∙ valid.parts.sums in
          let sum-h : sum_to h k + sum_to (drop k g) j ≡ r =
          ap (λ (d : List ℕ). sum_to h k + sum_to d j) (sym e) ∙ sym (sum_to_drop h k j) ∙ ap (sum_to h) all ∙ ch.parts.sums in
          let c : CompositionTo ms k rem h = record { fits = λ i b. ch.parts.fits i (omega arith); sums = omega (arith, sum-g, sum-h) } in
          let s : ℕ = rank_of ms k rem t h in
          let s_lt : s < count ms k rem = rw length_listing at (rank_lt ms k rem t h c) in
          let found = here.at s s_lt in
          let same : get_or (order ms r) (here.start + s) [] ≡ h =
          found.1
          ∙ ap (λ (y : List ℕ). y ++ drop k g) (rank_at ms k rem t h c (omega (arith, ch.size)))
          ∙ ap (λ (d : List ℕ). take k h ++ d) (sym e)
          ∙ take-append-drop k h in
          let place : p ≡ here.start + s = once ms r p (here.start + s) inside-p found.0 (sym same) in
          omega arith

    pub together : (k : ℕ) → k ≤ length ms → Together ms r g k
    together k l =
        let here : Inside k = inside (length ms - k) k (omega arith) in
        record { start = here.start; inside = here.at; only = only k l here }

  -- what stands between two entries with the same ending has it too
  pub between : (k p q s : ℕ) → k ≤ length ms → p ≤ s → s ≤ q → q < length (order ms r)
      → drop k (get_or (order ms r) p []) ≡ drop k (get_or (order ms r) q [])
      → drop k (get_or (order ms r) s []) ≡ drop k (get_or (order ms r) p [])
  between k p q s l ps sq inside_q e =
      let g : List ℕ = get_or (order ms r) p [] in
      let valid : Composition ms r g = entry_composition ms r p (omega arith) in
      let here : Together ms r g k = together g valid k l in
      let from = here.only p (omega arith) refl in
      let to = here.only q inside_q (sym e) in
      let i : ℕ = s - here.start in
      let i_lt : i < count ms k (sum_to g k) = omega (arith, from, to) in
      let at : here.start + i ≡ s = omega (arith, from) in
      let front : List ℕ = get_or (listing ms k (sum_to g k) (r - sum_to g k)) i [] in
      let long : length front ≡ k = (sound ms k (sum_to g k) (r - sum_to g k) i (rw length_listing i_lt)).0 in
      ap (λ (n : ℕ). drop k (get_or (order ms r) n [])) (sym at)
      ∙ ap (drop k) (here.inside i i_lt).1
      ∙ drop_at front (drop k g) k long
