-- A permutation entry by entry: what each is, and what a turn of the loop that fills two places does.
use mathlib.Core.Path.{◌≡◌, refl, sym, ap, ◌∙◌}
use mathlib.Core.List.{List, [], ◌∷◌, map}
use Prim.Native.Nat.{ℕ, zero, suc, ◌+◌, ◌-◌, ◌≤◌, ◌<◌}
use native.Mathlib.Numerals.{add-one}
use native.Mathlib.Omega.{arith}
use native.Mathlib.Decide.{dec_lt, ℕ_discrete}
use lib.ListN.{length, get_or, set, length-set}
use lib.Seq.{ext_get_or, get_or-set_same, get_or-set_other}
use Rattle.permutation.specs.Permutation.{lift, permutation_of}
use Rattle.permutation.specs.Entries.{lifts, entry_at}
use Rattle.permutation.proofs.Inverse.{Under, lift_low, lift_high, permutation_length}
use Rattle.permutation.proofs.Vectors.{at_under}

-- ---- what the entries are

pub lift_bound : (c x : ℕ) → lift c x ≤ suc x
lift_bound c x = go (dec_lt c x)
  where
    go : Dec (c < x) → lift c x ≤ suc x
    go (yes h) = rw (lift_high c x h) (omega arith)
    go (no h) = rw (lift_low c x (omega arith)) (omega arith)

-- a turn of `lift_both`
pub lifts_back : (g : List ℕ) (j x : ℕ) → 0 < j → lifts g (j - 1) (lift (get_or g (j - 1) 0) x) ≡ lifts g j x
lifts_back g zero x h = absurd (omega arith)
lifts_back g (suc j) x h =
    let back : suc j - 1 ≡ j = omega arith in
    rw back

lifts_front : (c : ℕ) (g : List ℕ) (j x : ℕ) → lifts (c ∷ g) (suc j) x ≡ lift c (lifts g j x)
lifts_front c g zero x = refl
lifts_front c g (suc j) x = lifts_front c g j (lift (get_or g j 0) x)

lift_at : (c : ℕ) (l : List ℕ) (j : ℕ) → get_or (map (lift c) l) j 0 ≡ lift c (get_or l j 0)
lift_at c [] j = sym (lift_low c 0 (omega arith))
lift_at c (x ∷ l) zero = refl
lift_at c (x ∷ l) (suc j) = lift_at c l j

entry_at_lem : (g : List ℕ) (j : ℕ) → j ≤ length g → get_or (permutation_of g) j 0 ≡ entry_at g j
unfolding permutation_of
entry_at_lem [] zero h = refl
entry_at_lem [] (suc j) h = absurd (omega arith)
entry_at_lem (c ∷ g) zero h = refl
entry_at_lem (c ∷ g) (suc j) h =
    lift_at c (permutation_of g) j ∙ ap (lift c) (entry_at_lem g j (omega arith)) ∙ sym (lifts_front c g j (suc (get_or g j 0)))

-- ---- the parts are small

under_le : (g : List ℕ) → Under g → (i : ℕ) → get_or g i 0 ≤ length g
under_le [] u i = omega arith
under_le (c ∷ g) u zero = u.0
under_le (c ∷ g) u (suc i) = omega (arith, under_le g u.1 i)

pub part_le : (g : List ℕ) → ((i : ℕ) → i < length g → get_or g i 0 ≤ length g - i) → (i : ℕ) → get_or g i 0 ≤ length g
part_le g fits = under_le g (at_under g fits)

-- ---- two places at a time

-- place 0 and those from i on are filled
pub record FilledFrom (g : List ℕ) (i : ℕ) (out : List ℕ) : Type 0 where
  pub size : length out ≡ length g + 1
  pub place : i ≤ length out
  pub start : get_or out 0 0 ≡ entry_at g 0
  pub entries : (j : ℕ) → i ≤ j → j < length out → get_or out j 0 ≡ entry_at g j

module _ (g : List ℕ) where
  module _ {i : ℕ} {out : List ℕ} (filled : FilledFrom g i out) where
    -- places i and i + 1, where i is two less than it was
    pub filled_turn : (k a b : ℕ) → 1 < i → k ≡ i - 2 → a ≡ lifts g k (get_or g k 0 + 1) → b ≡ lifts g k (lift (get_or g k 0) (get_or g (k + 1) 0 + 1))
        → FilledFrom g k (set (set out k a) (k + 1) b)
    filled_turn k a b more ek ea eb =
        record {
          size = long ∙ filled.size;
          place = omega (arith, long, filled.place);
          start = at 0 (λ apart next. filled.start);
          entries = λ j l h. at j (λ apart next. filled.entries j (omega arith) (omega (arith, long)));
        }
      where
        long : length (set (set out k a) (k + 1) b) ≡ length out
        long = length-set (set out k a) (k + 1) b ∙ length-set out k a

        first : a ≡ entry_at g k
        first = ea ∙ ap (lifts g k) (add-one (get_or g k 0))

        second : b ≡ entry_at g (k + 1)
        second =
            let eb' = rw (add-one k, add-one (get_or g (suc k) 0)) at eb in
            eb' ∙ ap (entry_at g) (sym (add-one k))

        at : (j : ℕ) → ((j ≡ k → ⊥) → (j ≡ k + 1 → ⊥) → get_or out j 0 ≡ entry_at g j) → get_or (set (set out k a) (k + 1) b) j 0 ≡ entry_at g j
        at j other = go (ℕ_discrete j k) (ℕ_discrete j (k + 1))
          where
            go : Dec (j ≡ k) → Dec (j ≡ k + 1) → get_or (set (set out k a) (k + 1) b) j 0 ≡ entry_at g j
            go s (yes e) = rw e (get_or-set_same (set out k a) (k + 1) b 0 (omega (arith, length-set out k a, filled.place)) ∙ second)
            go (yes e) (no n) =
                get_or-set_other (set out k a) (k + 1) j b 0 n ∙ rw e (get_or-set_same out k a 0 (omega (arith, filled.place)) ∙ first)
            go (no m) (no n) = get_or-set_other (set out k a) (k + 1) j b 0 n ∙ get_or-set_other out k j a 0 m ∙ other m n

  pub filled_end : {i : ℕ} {out : List ℕ} → FilledFrom g i out → i ≤ 1 → out ≡ permutation_of g
  filled_end {i} {out} filled few =
      ext_get_or 0 out (permutation_of g) (filled.size ∙ add-one (length g) ∙ sym (permutation_length g))
      (λ j h. each j h ∙ sym (entry_at_lem g j (omega (arith, filled.size))))
    where
      each : (j : ℕ) → j < length out → get_or out j 0 ≡ entry_at g j
      each zero h = filled.start
      each (suc j) h = filled.entries (suc j) (omega arith) h
