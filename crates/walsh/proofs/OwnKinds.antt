-- The pair of kinds that gain and lose where kinds are withdrawn: it is that of the shorter edition, by the edition's own numbers, and names no
-- withdrawn kind.
use mathlib.Core.Path.{◌≡◌, refl, sym, ap, ◌∙◌}
use mathlib.Core.Logic.{◌⊎◌, inl, inr}
use mathlib.Core.List.{List, [], ◌∷◌}
use Prim.Native.Nat.{ℕ, zero, suc, ◌+◌, ◌-◌, ◌≤◌, ◌<◌}
use native.Mathlib.Nat.{le_refl}
use native.Mathlib.Omega.{arith}
use lib.Dec.{eqb}
use lib.ListN.{length, get_or}
use Rattle.walsh.specs.Order.{Composition, count_of}
use Rattle.walsh.specs.Serial.{composition_of}
use Rattle.walsh.specs.Transition.{gain_from, transition, transition_at, Carries}
use Rattle.walsh.specs.Withdrawn.{kept, spread, kinds_from, own_kind, own_pair, BothLeft}
use Rattle.walsh.specs.declared.Transition.{Transition}
use Rattle.walsh.proofs.Cases.{on_test, on_less}
use Rattle.walsh.proofs.Serials.{composition_is}
use Rattle.walsh.proofs.Transitions.{transition_none, transition_some, serial_carries}
use Rattle.walsh.proofs.Withdrawn.{count_kept, composition_spread}

-- ---- the kinds that are left

-- i is one of the kinds k, .. , and x its bound
abbrev Bounded : ℕ → List ℕ → ℕ → ℕ → Type 0
Bounded k ms i x = (k ≤ i) × (i < k + length ms) × (get_or ms (i - k) 0 ≡ x)

-- one bound more in front
bounded_later : (k m : ℕ) (ms : List ℕ) {i x : ℕ} → Bounded (k + 1) ms i x → Bounded k (m ∷ ms) i x
bounded_later k m ms {i} (l, u, e) = let at : i - k ≡ suc (i - (k + 1)) = omega arith in (omega arith, omega arith, rw at e)

-- kind j of those left, counted from 0, is one of the edition's, and keeps its bound
kind_left : (k : ℕ) (ms : List ℕ) (j : ℕ) → j < length (kept ms) → Bounded k ms (get_or (kinds_from k ms) j 0) (get_or (kept ms) j 0)
kind_left k [] j h = absurd (omega arith)
kind_left k (zero ∷ ms) j h = bounded_later k 0 ms (kind_left (k + 1) ms j h)
kind_left k (suc m ∷ ms) zero h = let at : k - k ≡ 0 = omega arith in (omega arith, omega arith, rw at)
kind_left k (suc m ∷ ms) (suc j) h = bounded_later k (suc m) ms (kind_left (k + 1) ms j (omega arith))

-- "the kinds may not be renumbered": kind j of those left is one of the edition's, and keeps its bound
pub own_kind_lem : (ms : List ℕ) (j : ℕ) → 0 < j → j ≤ length (kept ms)
    → (1 ≤ own_kind ms j) × (own_kind ms j ≤ length ms) × (get_or ms (own_kind ms j - 1) 0 ≡ get_or (kept ms) (j - 1) 0)
own_kind_lem ms zero some h = absurd (omega arith)
own_kind_lem ms (suc j) some h =
    let (l, u, e) = kind_left 1 ms j h in
    let at : suc j - 1 ≡ j = omega arith in
    (l, omega arith, rw at e)

-- ---- the pair

gain_high : (j : ℕ) (g h : List ℕ) → (gain_from j g h ≡ 0) ⊎ (j ≤ gain_from j g h)
unfolding gain_from
gain_high j [] h = inl refl
gain_high j (x ∷ g) [] = inl refl
gain_high j (x ∷ g) (y ∷ h) = on_test (eqb y (x + 1)) (λ t. rw t (inr (le_refl j))) (λ t. rw t (up (gain_high (j + 1) g h)))
  where
    up : {i : ℕ} → (i ≡ 0) ⊎ (j + 1 ≤ i) → (i ≡ 0) ⊎ (j ≤ i)
    up (inl e) = inl e
    up (inr l) = inr (omega arith)

-- one more kind in front
shifted : (ks : List ℕ) (k j i : ℕ) → 0 < j → (i ≡ 0) ⊎ (j + 1 ≤ i) → get_or (0 ∷ ks) (i + 1 - (j + 1)) 0 ≡ get_or (0 ∷ k ∷ ks) (i + 1 - j) 0
shifted ks k j i some (inl e) =
    let a : i + 1 - (j + 1) ≡ 0 = omega arith in
    let b : i + 1 - j ≡ 0 = omega arith in
    rw (a, b)
shifted ks k j i some (inr l) =
    let a : i + 1 - (j + 1) ≡ suc (i - (j + 1)) = omega arith in
    let b : i + 1 - j ≡ suc (suc (i - (j + 1))) = omega arith in
    rw (a, b)

gain_spread : (k j : ℕ) (ms g h : List ℕ) → 0 < j → length g ≡ length (kept ms) → length h ≡ length (kept ms)
    → gain_from k (spread ms g) (spread ms h) ≡ get_or (0 ∷ kinds_from k ms) (gain_from j g h + 1 - j) 0
unfolding gain_from
gain_spread k j [] [] [] some lg lh = let at : 1 - j ≡ 0 = omega arith in rw at
gain_spread k j [] [] (y ∷ h) some lg lh = absurd (omega arith)
gain_spread k j [] (x ∷ g) h some lg lh = absurd (omega arith)
gain_spread k j (zero ∷ ms) g h some lg lh = gain_spread (k + 1) j ms g h some lg lh
gain_spread k j (suc m ∷ ms) [] h some lg lh = absurd (omega arith)
gain_spread k j (suc m ∷ ms) (x ∷ g) [] some lg lh = absurd (omega arith)
gain_spread k j (suc m ∷ ms) (x ∷ g) (y ∷ h) some lg lh =
    on_test (eqb y (x + 1))
    (λ t. let at : j + 1 - j ≡ 1 = omega arith in rw (t, at))
    (λ t. rw t (gain_spread (k + 1) (j + 1) ms g h (omega arith) (omega arith) (omega arith)
    ∙ shifted (kinds_from (k + 1) ms) k j (gain_from (j + 1) g h) some (gain_high (j + 1) g h)))

-- of two shorter lists
pub transition_spread : (ms g h : List ℕ) → length g ≡ length (kept ms) → length h ≡ length (kept ms)
    → transition (spread ms g) (spread ms h) ≡ own_pair ms (transition g h)
transition_spread ms g h lg lh =
    let one : (i : ℕ) → i + 1 - 1 ≡ i = λ i. omega arith in
    rw (gain_spread 1 1 ms g h (omega arith) lg lh, gain_spread 1 1 ms h g (omega arith) lh lg, one (gain_from 1 g h), one (gain_from 1 h g))

-- of two compositions: no withdrawn kind gains or loses
pub carries_left : (ms : List ℕ) (r : ℕ) {g h : List ℕ} {x : Transition} → Composition ms r g → Composition ms r h → Carries (length ms) g h x
    → BothLeft ms x
carries_left ms r {x = x} vg vh c =
    let gain = c.gain in
    let loss = c.loss in
    let more = vh.parts.fits (x.gain - 1) (omega arith) in
    let fewer = vg.parts.fits (x.loss - 1) (omega arith) in
    (omega (arith, c.near.gained), omega (arith, c.near.lost))

module _ (ms : List ℕ) (r s : ℕ) where
  -- of a serial
  pub pair_spread : 0 < s → s ≤ count_of ms r → transition_at ms r s ≡ own_pair ms (transition_at (kept ms) r s)
  pair_spread some l =
      on_less s 2
      (λ a t. rw (transition_none ms r s a, transition_none (kept ms) r s a))
      (λ a t. transition_some ms r s a
      ∙ rw (composition_spread ms r (s - 1) (omega arith) (omega arith), composition_spread ms r s some l)
      (transition_spread ms (composition_of (kept ms) r (s - 1)) (composition_of (kept ms) r s)
      (size (s - 1) (omega arith) (omega arith)) (size s some l))
      ∙ ap (own_pair ms) (sym (transition_some (kept ms) r s a)))
    where
      size : (k : ℕ) → 0 < k → k ≤ count_of ms r → length (composition_of (kept ms) r k) ≡ length (kept ms)
      size k a b = (composition_is (kept ms) r k a (omega (arith, count_kept ms r))).size

  -- of a serial from 2 to N
  pub pair_left : 2 ≤ s → s ≤ count_of ms r → BothLeft ms (transition_at ms r s)
  pair_left low high =
      carries_left ms r (composition_is ms r (s - 1) (omega arith) (omega arith)) (composition_is ms r s (omega arith) high)
      (serial_carries ms r s low high)
