-- Laws of the kinds that gain and lose.
use mathlib.Core.Path.{◌≡◌, refl, ◌∙◌}
use mathlib.Core.Bool.{cond}
use mathlib.Core.List.{List, [], ◌∷◌}
use Prim.Native.Nat.{ℕ, zero, suc, ◌+◌, ◌-◌, ◌≤◌, ◌<◌}
use native.Mathlib.Numerals.{add-one}
use native.Mathlib.Omega.{arith}
use lib.Dec.{eqb}
use lib.ListN.{length, get_or, drop}
use lib.Seq.{drop-cons}
use borrow.Author.Tests.{eq-eqb, ne_eqb, lt-ltb, le-ltb}
use Rattle.walsh.specs.Order.{count_of}
use Rattle.walsh.specs.Serial.{composition_of}
use Rattle.walsh.specs.Neighbours.{Neighbours, Adjacent}
use Rattle.walsh.specs.Transition.{gain_from, transition, none, transition_at, Carries}
use Rattle.walsh.proofs.Serials.{count_length, composition_is}
use Rattle.walsh.proofs.Gray.{gray, gain_is, neighbours_sym}

-- ---- of any two lists

-- nothing changed
pub gain_same : (k : ℕ) (g : List ℕ) → gain_from k g g ≡ 0
unfolding gain_from
gain_same k [] = refl
gain_same k (x ∷ g) = rw (ne_eqb x (x + 1) (λ e. omega arith)) (gain_same (k + 1) g)

pub transition_same : (g : List ℕ) → transition g g ≡ none
transition_same g = rw (gain_same 1 g)

-- from part i on
pub gain_next : (g h : List ℕ) (i : ℕ) → i < length g → i < length h
    → gain_from (i + 1) (drop i g) (drop i h)
    ≡ cond (eqb (get_or h i 0) (get_or g i 0 + 1)) (i + 1) (gain_from (i + 1 + 1) (drop (i + 1) g) (drop (i + 1) h))
unfolding gain_from
gain_next g h i a b = rw (drop-cons g i 0 a, drop-cons h i 0 b, add-one i)

-- the one place at which h has one more
gain_at : (k : ℕ) (g h : List ℕ) (a : ℕ) → a < length g → a < length h → get_or h a 0 ≡ suc (get_or g a 0)
    → ((i : ℕ) → get_or h i 0 ≡ suc (get_or g i 0) → i ≡ a)
    → gain_from k g h ≡ k + a
unfolding gain_from
gain_at k [] h a lg lh e only = absurd (omega arith)
gain_at k (x ∷ g) [] a lg lh e only = absurd (omega arith)
gain_at k (x ∷ g) (y ∷ h) zero lg lh e only = rw (eq-eqb y (x + 1) (omega arith)) (omega arith)
gain_at k (x ∷ g) (y ∷ h) (suc a) lg lh e only =
    rw (ne_eqb y (x + 1) (λ q. omega (arith, only 0 (omega arith))))
    (gain_at (k + 1) g h a (omega arith) (omega arith) e (λ i q. omega (arith, only (suc i) q)) ∙ omega arith)

one_off : (a : ℕ) → suc a - 1 ≡ a
one_off a = omega arith

-- ---- of two lists of n parts, one unit apart

gain_one : {g h : List ℕ} {a b : ℕ} → Neighbours g h a b → a < length g → a < length h → gain_from 1 g h ≡ suc a
gain_one {g} {h} {a} {b} near lg lh = gain_at 1 g h a lg lh near.gained (λ i q. gain_is near i (omega arith)) ∙ omega arith

module _ {g h : List ℕ} {n : ℕ} (lg : length g ≡ n) (lh : length h ≡ n) where
  -- the pair names the two parts
  pub transition_is : {a b : ℕ} → Neighbours g h a b → a < n → b < n → transition g h ≡ record { gain = suc a; loss = suc b }
  transition_is near la lb =
      rw (gain_one near (omega arith) (omega arith), gain_one (neighbours_sym near) (omega arith) (omega arith))

  pub transition_carries : Adjacent n g h → Carries n g h (transition g h)
  transition_carries (a, b, la, lb, near) =
      rw (transition_is near la lb)
      (record { gain = (omega arith, omega arith); loss = (omega arith, omega arith); near = rw (one_off a, one_off b) near })

-- ---- by serials

module _ (ms : List ℕ) (r s : ℕ) where
  pub transition_none : s < 2 → transition_at ms r s ≡ none
  unfolding transition_at
  transition_none h = rw (lt-ltb s 2 h)

  pub transition_some : 2 ≤ s → transition_at ms r s ≡ transition (composition_of ms r (s - 1)) (composition_of ms r s)
  unfolding transition_at
  transition_some h = rw (le-ltb s 2 h)

  -- serials next to each other
  pub near_serial : 0 < s → s < count_of ms r → Adjacent (length ms) (composition_of ms r s) (composition_of ms r (s + 1))
  unfolding composition_of
  near_serial some l =
      let at : s + 1 - 1 ≡ suc (s - 1) = omega arith in
      rw at (gray ms r (s - 1) (omega (arith, count_length ms r)))

-- what the pair of a serial from 2 to N says
pub serial_carries : (ms : List ℕ) (r s : ℕ) → 2 ≤ s → s ≤ count_of ms r
    → Carries (length ms) (composition_of ms r (s - 1)) (composition_of ms r s) (transition_at ms r s)
serial_carries ms r s low high =
    let next : s - 1 + 1 ≡ s = omega arith in
    let near = rw next at (near_serial ms r (s - 1) (omega arith) (omega arith)) in
    let size : (k : ℕ) → 0 < k → k ≤ count_of ms r → length (composition_of ms r k) ≡ length ms =
    λ k a b. (composition_is ms r k a b).size in
    rw (transition_some ms r s low)
    (transition_carries (size (s - 1) (omega arith) (omega arith)) (size s (omega arith) high) near)
