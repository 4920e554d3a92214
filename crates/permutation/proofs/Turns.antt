-- What one turn of each loop over a permutation does.
use mathlib.Core.Path.{◌≡◌, refl, sym, ◌∙◌}
use mathlib.Core.List.{List, [], ◌∷◌}
use Prim.Native.Nat.{ℕ, zero, suc, ◌+◌, ◌-◌, ◌*◌, ◌%◌, ◌^◌, ◌≤◌, ◌<◌}
use native.Mathlib.Nat.{le_refl}
use native.Mathlib.Omega.{arith}
use native.Mathlib.Decide.{ℕ_discrete}
use lib.ListN.{length, get_or, take, drop, set, length-drop, length-set}
use lib.Seq.{drop-cons, drop-length, take-suc, get_or-set_same, get_or-set_other}
use native.Mathlib.Numerals.{add-one}
use lib.Bits.{bit_or}
use lib.Count.{ones}
use lib.Dec.{eqb, ltb}
use Rattle.permutation.specs.Permutation.{IsPermutation, smaller_after, inversions, inversion_vector}
use Rattle.permutation.specs.Values.{HasValues, Collected}
use Rattle.permutation.proofs.Counts.{below, many_le, many_drop, entry_le, times_le}
use Rattle.permutation.proofs.Sets.{values_none, values_more, values_below, collected_last}
use Rattle.permutation.proofs.Smaller.{tabulate_take, smaller_is, inversions_more}

-- ---- from the last place to the first

drop_back : (p : List ℕ) (i : ℕ) → 0 < i → i ≤ length p → drop (i - 1) p ≡ get_or p (i - 1) 0 ∷ drop i p
drop_back p zero h l = absurd (omega arith)
drop_back p (suc i) h l =
    let back : suc i - 1 ≡ i = omega arith in
    rw back (drop-cons p i 0 l)

set_turn : (p : List ℕ) (i n x : ℕ) → 0 < i → i ≤ length p → x ≡ get_or p (i - 1) 0 → HasValues n (drop i p)
    → HasValues (bit_or n (2 ^ x)) (drop (i - 1) p)
set_turn p i n x h l ex has = rw (drop_back p i h l, ← ex) (values_more x has)

pub collected_turn : (p : List ℕ) (i n o : ℕ) → i < length p → Collected n o (take i p)
    → let x = get_or p i 0 in
    Collected (bit_or n (2 ^ (x % 32))) (bit_or o x) (take (i + 1) p)
collected_turn p i n o h met = rw (add-one i, take-suc p i 0 h) (collected_last (take i p) (get_or p i 0) met)

-- ---- the inversion vector

-- what is found from place i on: the set of the values there, the inversions among them (`few`: the sum does not overflow), and their parts
-- of the vector
pub record FoundFrom (p : List ℕ) (i : ℕ) (vector : List ℕ) (sum behind : ℕ) : Type 0 where
  pub place : i ≤ length p
  pub cells : length vector ≡ 32
  pub values : HasValues behind (drop i p)
  pub total : sum ≡ inversions (drop i p)
  pub few : sum + i * 25 ≤ 625
  pub parts : (j : ℕ) → i ≤ j → j < length p → get_or vector j 0 ≡ smaller_after p j

module _ (p : List ℕ) (short : length p ≤ 25) where
  pub found_start : (vector : List ℕ) → length vector ≡ 32 → FoundFrom p (length p) vector 0 0
  found_start vector size =
      let none : drop (length p) p ≡ [] = drop-length p in
      record {
        place = le_refl (length p);
        cells = size;
        values = rw none values_none;
        total = rw none (unfold inversions in refl);
        few = omega arith;
        parts = λ j l h. absurd (omega arith);
      }

  module _ (perm : IsPermutation (length p) p) {i sum behind : ℕ} {vector : List ℕ} (found : FoundFrom p i vector sum behind) where
    module _ (first : 0 < i) (x : ℕ) (here : x ≡ get_or p (i - 1) 0) where
      entry_within : x ≤ length p
      entry_within = omega (arith, entry_le perm (i - 1) (omega (arith, found.place)))

      pub entry_small : x < 32
      entry_small = omega (arith, entry_within)

      -- the values behind that are smaller
      behind_below : ones (behind % 2 ^ x) ≡ below x (drop i p)
      behind_below =
          values_below found.values x (omega (arith, entry_small))
          (λ u h. omega (arith, many_drop (λ y. eqb y u) i p, times_le perm u (omega (arith, entry_within))))

      pub behind_few : ones (behind % 2 ^ x) ≤ 25
      behind_few = omega (arith, behind_below, many_le (λ y. ltb y x) (drop i p), length-drop i p)

      behind_smaller : ones (behind % 2 ^ x) ≡ smaller_after p (i - 1)
      behind_smaller =
          let next : suc (i - 1) ≡ i = omega arith in
          behind_below ∙ sym (smaller_is p (i - 1) (omega (arith, found.place)) ∙ rw (← here, next))

      pub found_turn : (n : ℕ) → n ≡ ones (behind % 2 ^ x) → FoundFrom p (i - 1) (set vector (i - 1) n) (sum + n) (bit_or behind (2 ^ x))
      found_turn n en =
          record {
            place = omega (arith, found.place);
            cells = length-set vector (i - 1) n ∙ found.cells;
            values = set_turn p i behind x first found.place here found.values;
            total =
                rw (drop_back p i first found.place, ← here)
                (omega (arith, en, behind_below, found.total, inversions_more x (drop i p)));
            few = omega (arith, en, behind_few, found.few);
            parts = parts;
          }
        where
          parts : (j : ℕ) → i - 1 ≤ j → j < length p → get_or (set vector (i - 1) n) j 0 ≡ smaller_after p j
          parts j l h = go (ℕ_discrete j (i - 1))
            where
              go : Dec (j ≡ i - 1) → get_or (set vector (i - 1) n) j 0 ≡ smaller_after p j
              go (yes e) = rw e (get_or-set_same vector (i - 1) n 0 (omega (arith, found.cells, found.place)) ∙ en ∙ behind_smaller)
              go (no e) = get_or-set_other vector (i - 1) j n 0 e ∙ found.parts j (omega arith) h

  pub found_vector : {i sum behind : ℕ} {vector : List ℕ} → FoundFrom p i vector sum behind → i ≤ 0 → take (length p - 1) vector ≡ inversion_vector p
  unfolding inversion_vector
  found_vector {i} {sum} {behind} {vector} found none =
      tabulate_take (smaller_after p) vector (length p - 1) (omega (arith, found.cells)) (λ j h. found.parts j (omega arith) (omega arith))

  pub found_sum : {i sum behind : ℕ} {vector : List ℕ} → FoundFrom p i vector sum behind → i ≤ 0 → sum ≡ inversions p
  found_sum {i} found none =
      let all : i ≡ 0 = omega arith in
      rw all at found.total
