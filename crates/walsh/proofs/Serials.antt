-- Serials: "1 plus the number of mixes before" is 1 plus the rank, and serial and composition undo each other.
use mathlib.Core.Path.{◌≡◌, refl, ap, ◌∙◌}
use mathlib.Core.Bool.{Bool, true, false, cond, false≢true}
use mathlib.Core.List.{List, [], ◌∷◌}
use Prim.Native.Nat.{ℕ, zero, suc, ◌-◌, ◌≤◌, ◌<◌}
use native.Mathlib.Nat.{not-suc-le-zero, le_of_suc-le-suc, zero-lt-suc}
use native.Mathlib.Omega.{arith}
use lib.Dec.{eqb}
use lib.ListN.{length, get_or}
use borrow.Author.Tests.{eq-eqb, eqb-true}
use Rattle.walsh.specs.Order.{Composition, order, count_of}
use Rattle.walsh.specs.Serial.{same, place_of, serial_of, composition_of}
use Rattle.walsh.specs.Rank.{rank_of}
use Rattle.walsh.proofs.Tests.{both_left, both_right}
use Rattle.walsh.proofs.Complete.{order_length, rank_inside, rank_entry, rank_composition, entry_composition, entry_rank}

-- ---- the place of a list in a list of lists

pub same_refl : (g : List ℕ) → same g g ≡ true
unfolding same
same_refl [] = refl
same_refl (x ∷ g) = rw (eq-eqb x x refl) (same_refl g)

pub same_eq : (g h : List ℕ) → same g h ≡ true → g ≡ h
unfolding same
same_eq [] [] e = refl
same_eq [] (y ∷ h) e = absurd (false≢true e)
same_eq (x ∷ g) [] e = absurd (false≢true e)
same_eq (x ∷ g) (y ∷ h) e =
    rw (eqb-true x y (both_left (eqb x y) (same g h) e), same_eq g h (both_right (eqb x y) (same g h) e))

-- a list's place is the first at which it stands
place_first : (g : List ℕ) (l : List (List ℕ)) (p : ℕ) → p < length l → get_or l p [] ≡ g → ((q : ℕ) → q < p → get_or l q [] ≡ g → ⊥)
    → place_of g l ≡ p
unfolding place_of
place_first g [] p h e none = absurd (not-suc-le-zero h)
place_first g (x ∷ l) zero h e none = rw (e, same_refl g)
place_first g (x ∷ l) (suc p) h e none =
    go (same x g) refl (place_first g l p (le_of_suc-le-suc h) e (λ q b at. none (suc q) (omega arith) at))
  where
    go : (b : Bool) → same x g ≡ b → place_of g l ≡ p → cond b 0 (suc (place_of g l)) ≡ suc p
    go true at below = absurd (none 0 (zero-lt-suc p) (same_eq x g at))
    go false at below = ap suc below

-- ---- serials of one order

module _ (ms : List ℕ) (r : ℕ) where
  pub count_length : length (order ms r) ≡ count_of ms r
  unfolding count_of
  count_length = order_length ms r

  -- a serial's place
  place_lt : (s : ℕ) → 0 < s → s ≤ count_of ms r → s - 1 < length (order ms r)
  place_lt s h l = omega (arith, count_length)

  -- serial to composition
  pub composition_is : (s : ℕ) → 0 < s → s ≤ count_of ms r → Composition ms r (composition_of ms r s)
  unfolding composition_of
  composition_is s h l = entry_composition ms r (s - 1) (place_lt s h l)

  -- composition to serial
  module _ (g : List ℕ) (valid : Composition ms r g) where
    abbrev rank : ℕ
    rank = rank_of ms (length ms) r 0 g

    -- the number of entries before g, by the counts
    pub serial_rank : serial_of ms r g ≡ suc (rank_of ms (length ms) r 0 g)
    unfolding serial_of
    serial_rank =
        let inside : rank < length (order ms r) = rank_inside ms r g valid in
        let not_before : (q : ℕ) → q < rank → get_or (order ms r) q [] ≡ g → ⊥ =
        λ q b at. omega (arith, rank_composition ms r g valid q (omega arith) at) in
        ap suc (place_first g (order ms r) rank inside (rank_entry ms r g valid) not_before)

    pub serial_le : serial_of ms r g ≤ count_of ms r
    serial_le = omega (arith, serial_rank, rank_inside ms r g valid, count_length)

    pub serial_pos : 0 < serial_of ms r g
    serial_pos = omega (arith, serial_rank)

    pub composition_serial : composition_of ms r (serial_of ms r g) ≡ g
    unfolding composition_of
    composition_serial =
        let at : serial_of ms r g - 1 ≡ rank = omega (arith, serial_rank) in
        ap (λ (p : ℕ). get_or (order ms r) p []) at ∙ rank_entry ms r g valid

  pub serial_composition : (s : ℕ) → 0 < s → s ≤ count_of ms r → serial_of ms r (composition_of ms r s) ≡ s
  unfolding composition_of
  serial_composition s h l =
      let inside : s - 1 < length (order ms r) = place_lt s h l in
      omega (arith, serial_rank (get_or (order ms r) (s - 1) []) (entry_composition ms r (s - 1) inside), entry_rank ms r (s - 1) inside)
