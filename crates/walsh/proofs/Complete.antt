-- The order holds every composition, each once: `rank_of` is the place at which a composition stands.
use mathlib.Core.Path.{◌≡◌, refl, sym, ap, ◌∙◌, subst}
use mathlib.Core.Logic.{◌↔◌}
use mathlib.Core.List.{List, [], ◌∷◌, ◌++◌}
use Prim.Native.Nat.{ℕ, zero, suc, ◌+◌, ◌-◌, ◌≤◌, ◌<◌}
use native.Mathlib.Nat.{not-suc-le-zero, le_refl}
use native.Mathlib.Omega.{arith}
use lib.ListN.{length, get_or, take, length-append, get_or-append}
use lib.Seq.{get_or_at, take-suc, take-length}
use Rattle.walsh.specs.Sums.{sum_to}
use Rattle.walsh.specs.Order.{CompositionTo, Composition, least, most, listing, order, count}
use Rattle.walsh.specs.Rank.{rank_of}
use Rattle.walsh.proofs.Cases.{up_to_lem}
use Rattle.walsh.proofs.Lists.{snoc_inj, sum_same, sum_le, sum_to_mono}
use Rattle.walsh.proofs.Listing.{length_listing, listing_zero, listing_zero_length, Spot, spot, spot_lt, spot_at, spot_item, inner}

-- ---- compositions, by the last part and the parts before it

module _ {ms : List ℕ} {k rem : ℕ} {g : List ℕ} where
  pub composition_low : CompositionTo ms (suc k) rem g → least ms k rem ≤ get_or g k 0
  composition_low c =
      omega (arith, c.sums, sum_le (λ i. get_or g i 0) (λ i. get_or ms i 0) k (λ i l. c.fits i (omega arith)))

  pub composition_high : CompositionTo ms (suc k) rem g → get_or g k 0 ≤ most ms k rem
  composition_high c = omega (arith, c.sums, c.fits k (le_refl (suc k)))

  pub composition_prefix : CompositionTo ms (suc k) rem g → CompositionTo ms k (rem - get_or g k 0) g
  composition_prefix c = record { fits = λ i l. c.fits i (omega arith); sums = omega (arith, c.sums) }

  composition_snoc : (v : ℕ) → v ≤ most ms k rem → length g ≡ k → CompositionTo ms k (rem - v) g
      → CompositionTo ms (suc k) rem (g ++ (v ∷ []))
  composition_snoc v high size c =
      record {
        fits = up_to_lem (λ i. get_or (g ++ (v ∷ [])) i 0 ≤ get_or ms i 0) (rw top (omega arith)) (λ i l. rw (← (below i l)) (c.fits i l));
        sums = omega (arith, c.sums, sum_same (λ i. get_or g i 0) (λ i. get_or (g ++ (v ∷ [])) i 0) k below, top);
      }
    where
      top : get_or (g ++ (v ∷ [])) k 0 ≡ v
      top = get_or_at g v [] 0 k size

      below : (i : ℕ) → i < k → get_or g i 0 ≡ get_or (g ++ (v ∷ [])) i 0
      below i l = sym (get_or-append g (v ∷ []) 0 i (rw size l))

-- the first k parts of a composition
module _ {ms : List ℕ} {r : ℕ} {g : List ℕ} (valid : Composition ms r g) (k : ℕ) (h : k ≤ length ms) where
  pub composition_to : CompositionTo ms k (sum_to g k) g
  composition_to = record { fits = λ i l. valid.parts.fits i (omega arith); sums = refl }

  pub composition_within : sum_to g k ≤ r
  composition_within = rw valid.parts.sums at (sum_to_mono g k (length ms) h)

-- ---- what stands at a place is a composition

pub sound : (ms : List ℕ) (k rem t p : ℕ) → p < length (listing ms k rem t)
    → (length (get_or (listing ms k rem t) p []) ≡ k) × CompositionTo ms k rem (get_or (listing ms k rem t) p [])
sound ms zero rem t p h =
    let only = listing_zero ms rem t p h in
    rw only.2 (refl, record { fits = λ i l. absurd (not-suc-le-zero l); sums = sym only.1 })
sound ms (suc k) rem t p h =
    let here : Spot ms k rem t p = spot ms k rem t p h in
    let g : List ℕ = get_or (inner ms k rem t here.v) here.s [] in
    let below = sound ms k (rem - here.v) (t + here.v) here.s here.s_lt in
    rw (spot_item ms k rem t p here) (
      length-append g (here.v ∷ []) ∙ omega (arith, below.0),
      composition_snoc here.v here.high below.0 below.1,
    )

-- ---- a composition stands at its rank

pub rank_lt : (ms : List ℕ) (k rem t : ℕ) (g : List ℕ) → CompositionTo ms k rem g → rank_of ms k rem t g < length (listing ms k rem t)
unfolding rank_of
rank_lt ms zero rem t g c = omega (arith, listing_zero_length ms rem t c.sums)
rank_lt ms (suc k) rem t g c =
    let v : ℕ = get_or g k 0 in
    let inside = rank_lt ms k (rem - v) (t + v) g (composition_prefix c) in
    spot_lt ms k rem t v (rank_of ms k (rem - v) (t + v) g) (composition_low c) (composition_high c) inside

pub rank_at : (ms : List ℕ) (k rem t : ℕ) (g : List ℕ) → CompositionTo ms k rem g → k ≤ length g
    → get_or (listing ms k rem t) (rank_of ms k rem t g) [] ≡ take k g
unfolding rank_of
rank_at ms zero rem t g c l = (listing_zero ms rem t 0 (omega (arith, listing_zero_length ms rem t c.sums))).2
rank_at ms (suc k) rem t g c l =
    let v : ℕ = get_or g k 0 in
    let inside = rank_lt ms k (rem - v) (t + v) g (composition_prefix c) in
    spot_at ms k rem t v (rank_of ms k (rem - v) (t + v) g) (composition_low c) (composition_high c) inside
    ∙ rw (rank_at ms k (rem - v) (t + v) g (composition_prefix c) (omega arith)) (sym (take-suc g k 0 l))

-- the rank of what stands at p is p
pub rank_of_lem : (ms : List ℕ) (k rem t p : ℕ) → p < length (listing ms k rem t)
    → (g : List ℕ) → k ≤ length g → get_or (listing ms k rem t) p [] ≡ take k g → rank_of ms k rem t g ≡ p
unfolding rank_of
rank_of_lem ms zero rem t p h g l e = sym (listing_zero ms rem t p h).0
rank_of_lem ms (suc k) rem t p h g l e =
    let here : Spot ms k rem t p = spot ms k rem t p h in
    let same : (get_or (inner ms k rem t here.v) here.s [] ≡ take k g) × (here.v ≡ get_or g k 0) =
    snoc_inj (sym (spot_item ms k rem t p here) ∙ e ∙ take-suc g k 0 l) in
    rw (here.is, ← same.1, rank_of_lem ms k (rem - here.v) (t + here.v) here.s here.s_lt g (omega arith) same.0)

-- ---- the whole order

pub order_length : (ms : List ℕ) (r : ℕ) → length (order ms r) ≡ count ms (length ms) r
unfolding order
order_length ms r = length_listing ms (length ms) r 0

-- a composition stands at its rank
module _ (ms : List ℕ) (r : ℕ) (g : List ℕ) (valid : Composition ms r g) where
  pub rank_inside : rank_of ms (length ms) r 0 g < length (order ms r)
  unfolding order
  rank_inside = rank_lt ms (length ms) r 0 g valid.parts

  pub rank_entry : get_or (order ms r) (rank_of ms (length ms) r 0 g) [] ≡ g
  unfolding order
  rank_entry = rank_at ms (length ms) r 0 g valid.parts (omega (arith, valid.size)) ∙ rw (← valid.size) (take-length g)

  -- and nowhere else
  pub rank_composition : (s : ℕ) → s < length (order ms r) → get_or (order ms r) s [] ≡ g → rank_of ms (length ms) r 0 g ≡ s
  unfolding order
  rank_composition s h e = rank_of_lem ms (length ms) r 0 s h g (omega (arith, valid.size)) (e ∙ sym (take-length g) ∙ rw valid.size)

-- an entry of the order is a composition, and its rank is its place
module _ (ms : List ℕ) (r s : ℕ) (h : s < length (order ms r)) where
  pub entry_composition : Composition ms r (get_or (order ms r) s [])
  unfolding order
  entry_composition =
      let here = sound ms (length ms) r 0 s h in
      record { size = here.0; parts = here.1 }

  pub entry_rank : rank_of ms (length ms) r 0 (get_or (order ms r) s []) ≡ s
  entry_rank = rank_composition ms r (get_or (order ms r) s []) entry_composition s h refl

-- the compositions are what stands in the order
pub complete : (ms : List ℕ) (r : ℕ) (g : List ℕ) → Composition ms r g ↔ ((s : ℕ) × (s < length (order ms r)) × (get_or (order ms r) s [] ≡ g))
complete ms r g = (
  λ valid. (rank_of ms (length ms) r 0 g, rank_inside ms r g valid, rank_entry ms r g valid),
  λ m. subst (Composition ms r) m.2 (entry_composition ms r m.0 m.1),
)

pub once : (ms : List ℕ) (r s s' : ℕ) → s < length (order ms r) → s' < length (order ms r)
    → get_or (order ms r) s [] ≡ get_or (order ms r) s' [] → s ≡ s'
once ms r s s' h h' e = sym (entry_rank ms r s h) ∙ ap (rank_of ms (length ms) r 0) e ∙ entry_rank ms r s' h'
