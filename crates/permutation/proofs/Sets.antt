-- Sets of values as the digits of a number: one value more, how many there are below a value, and the test of a permutation by its set.
use mathlib.Core.Path.{◌≡◌, refl, sym, ap, ◌∙◌}
use mathlib.Core.Bool.{false, cond}
use mathlib.Core.List.{List, [], ◌∷◌, ◌++◌}
use Prim.Native.Nat.{ℕ, zero, suc, ◌+◌, ◌-◌, ◌*◌, ◌/◌, ◌%◌, ◌^◌, ◌≤◌, ◌<◌, min, max}
use native.Mathlib.Nat.{le_refl, mod-lt, mod-one, div_self, div-eq_of_lt, mul-div_cancel, pow-suc}
use native.Mathlib.Decide.{dec_lt, ℕ_discrete}
use native.Mathlib.Omega.{arith}
use lib.Dec.{eqb, ltb}
use lib.Bits.{bit_or, or_step, or_shr, or_lt, or_add_and, and_le_l, and_le_r}
use lib.Count.{ones, ones_cat}
use lib.Pow.{pow_pos, pow-lt, pow-add, mod-pow-add, shr-shr}
use lib.ListN.{length, length-append, get_or-append}
use lib.Seq.{get_or_at}
use borrow.Author.Tests.{eq-eqb, ne_eqb}
use Rattle.walsh.proofs.Cases.{on_test}
use Rattle.walsh.proofs.Tests.{many_append}
use Rattle.permutation.specs.Permutation.{times, IsPermutation, is_permutation}
use Rattle.permutation.specs.Values.{digit, Small, HasValues, Collected}
use Rattle.permutation.proofs.Counts.{below, below_suc, below_zero, many_le, permutation, entry_le, is_permutation_lem, not_permutation}

-- ---- digits

digit_or : (v a b : ℕ) → digit v (bit_or a b) ≡ max (digit v a) (digit v b)
digit_or v a b = ap (λ (n : ℕ). n % 2) (or_shr a b v) ∙ omega (arith, or_step (a / 2 ^ v) (b / 2 ^ v))

digit_power : (v x : ℕ) → digit v (2 ^ x) ≡ cond (eqb x v) 1 0
digit_power v x = go (dec_lt v x) (dec_lt x v)
  where
    go : Dec (v < x) → Dec (x < v) → digit v (2 ^ x) ≡ cond (eqb x v) 1 0
    go (yes l) m =
        let d : ℕ = x - suc v in
        let split : 2 ^ x ≡ 2 ^ suc d * 2 ^ v = ap (λ (n : ℕ). 2 ^ n) (omega arith) ∙ pow-add 2 (suc d) v in
        rw (ne_eqb x v (λ e. omega arith), split, mul-div_cancel (2 ^ suc d) (pow_pos v)) (omega (arith, pow-suc 2 d))
    go (no l) (yes m) = rw (ne_eqb x v (λ e. omega arith), div-eq_of_lt (pow-lt m))
    go (no l) (no m) =
        let same : x ≡ v = omega arith in
        rw (same, eq-eqb v v refl, div_self (pow_pos v))

ones_digit : (d : ℕ) → d < 2 → ones d ≡ d
unfolding ones
ones_digit zero h = refl
ones_digit (suc zero) h = refl
ones_digit (suc (suc d)) h = absurd (omega arith)

-- the digits below v + 1 are those below v and digit v
digits_suc : (n v : ℕ) → n % 2 ^ suc v ≡ digit v n * 2 ^ v + n % 2 ^ v
digits_suc n v = ap (λ (m : ℕ). n % 2 ^ m) (omega arith) ∙ mod-pow-add n 1 v

ones_suc : (n v : ℕ) → ones (n % 2 ^ suc v) ≡ digit v n + ones (n % 2 ^ v)
ones_suc n v =
    ap ones (digits_suc n v)
    ∙ ones_cat v (digit v n) (n % 2 ^ v) (mod-lt n (pow_pos v))
    ∙ ap (λ (m : ℕ). m + ones (n % 2 ^ v)) (ones_digit (digit v n) (mod-lt (n / 2 ^ v) (omega arith)))

ones_none : (n : ℕ) → ones (n % 2 ^ 0) ≡ 0
unfolding ones
ones_none n = rw (mod-one n)

-- ---- one value more

pub values_none : HasValues 0 []
values_none = record { digits = λ v h. rw (div-eq_of_lt (pow_pos v)) }

pub values_more : {n : ℕ} {l : List ℕ} (x : ℕ) → HasValues n l → HasValues (bit_or n (2 ^ x)) (x ∷ l)
values_more {n} {l} x has =
    record { digits = λ v h. digit_or v n (2 ^ x) ∙ rw (digit_power v x, has.digits v h) (go v (ℕ_discrete x v)) }
  where
    go : (v : ℕ) → Dec (x ≡ v) → max (min (times v l) 1) (cond (eqb x v) 1 0) ≡ min (times v (x ∷ l)) 1
    go v (yes e) = rw (eq-eqb x v e) (omega arith)
    go v (no e) = rw (ne_eqb x v e) (omega arith)

-- ---- what is collected

pub collected_none : Collected 0 0 []
collected_none = record { values = λ h. values_none; small = λ h. omega arith }

pub collected_more : {n o : ℕ} {l : List ℕ} (x : ℕ) → Collected n o l → Collected (bit_or n (2 ^ (x % 32))) (bit_or o x) (x ∷ l)
collected_more {n} {o} {l} x met =
    record {
      values = values;
      small = λ h. or_lt 5 o x (met.small (λ j b. h (suc j) (omega arith))) (h 0 (omega arith));
    }
  where
    values : bit_or o x < 32 → HasValues (bit_or n (2 ^ (x % 32))) (x ∷ l)
    values h =
        let same : x % 32 ≡ x = omega (arith, or_add_and o x, and_le_l o x) in
        rw same (values_more x (met.values (omega (arith, or_add_and o x, and_le_r o x))))

-- the entry x behind the list, and not in front of it
values_last : {n : ℕ} (x : ℕ) (l : List ℕ) → HasValues n (x ∷ l) → HasValues n (l ++ (x ∷ []))
values_last x l has = record { digits = λ v h. has.digits v h ∙ ap (λ (m : ℕ). min m 1) (last v) }
  where
    last : (v : ℕ) → times v (x ∷ l) ≡ times v (l ++ (x ∷ []))
    last v = omega (arith, many_append (λ y. eqb y v) l (x ∷ []))

small_last : (x : ℕ) (l : List ℕ) → Small (l ++ (x ∷ [])) → Small (x ∷ l)
small_last x l each zero h =
    rw (get_or_at l x [] 0 (length l) refl) at (each (length l) (omega (arith, length-append l (x ∷ []))))
small_last x l each (suc j) h =
    rw (get_or-append l (x ∷ []) 0 j (omega arith)) at (each j (omega (arith, length-append l (x ∷ []))))

pub collected_last : {n o : ℕ} (l : List ℕ) (x : ℕ) → Collected n o l
    → Collected (bit_or n (2 ^ (x % 32))) (bit_or o x) (l ++ (x ∷ []))
collected_last l x met =
    let more = collected_more x met in
    record { values = λ h. values_last x l (more.values h); small = λ each. more.small (small_last x l each) }

-- ---- how many values are below v

-- of a list in which each value below v stands at most once, the smaller entries
pub values_below : {n : ℕ} {l : List ℕ} → HasValues n l → (v : ℕ) → v ≤ 32 → ((u : ℕ) → u < v → times u l ≤ 1) → ones (n % 2 ^ v) ≡ below v l
values_below {n} {l} has zero h few = ones_none n ∙ sym (below_zero l)
values_below {n} {l} has (suc v) h few =
    let earlier = values_below has v (omega arith) (λ u b. few u (omega arith)) in
    omega (arith, ones_suc n v, earlier, has.digits v (omega arith), few v (le_refl (suc v)), below_suc v l)

-- ---- the test of a permutation

-- all k digits of m are set exactly if they are the largest number of k digits
all_set : (m k : ℕ) → ((v : ℕ) → v < k → digit v m ≡ 1) → m % 2 ^ k ≡ 2 ^ k - 1
all_set m zero each = mod-one m
all_set m (suc k) each =
    let here : m % 2 ^ suc k ≡ 1 * 2 ^ k + m % 2 ^ k = rw (each k (le_refl (suc k))) at (digits_suc m k) in
    omega (arith, here, all_set m k (λ v l. each v (omega arith)), pow-suc 2 k, pow_pos k)

set_all : (m k : ℕ) → m % 2 ^ k ≡ 2 ^ k - 1 → (v : ℕ) → v < k → digit v m ≡ 1
set_all m zero e v h = absurd (omega arith)
set_all m (suc k) e v h =
    let (here, rest) = last (digit k m) (mod-lt (m / 2 ^ k) (omega arith)) (digits_suc m k) in
    go here (set_all m k rest v) (ℕ_discrete v k)
  where
    small : m % 2 ^ k < 2 ^ k
    small = mod-lt m (pow_pos k)

    last : (d : ℕ) → d < 2 → m % 2 ^ suc k ≡ d * 2 ^ k + m % 2 ^ k → (d ≡ 1) × (m % 2 ^ k ≡ 2 ^ k - 1)
    last zero b s = absurd (omega (arith, e, small, pow-suc 2 k))
    last (suc zero) b s = (refl, omega (arith, e, small, pow-suc 2 k))
    last (suc (suc d)) b s = absurd (omega arith)

    go : digit k m ≡ 1 → (v < k → digit v m ≡ 1) → Dec (v ≡ k) → digit v m ≡ 1
    go here rest (yes same) = rw same here
    go here rest (no other) = rest (omega arith)

digit_half : (n v : ℕ) → digit v (n / 2) ≡ digit (suc v) n
digit_half n v = ap (λ (m : ℕ). m % 2) (shr-shr n 1 v ∙ ap (λ (m : ℕ). n / 2 ^ m) (omega arith))

-- k entries with all of 1..k among them are a permutation
module _ (k : ℕ) (p : List ℕ) (size : length p ≡ k) (each : (v : ℕ) → 1 ≤ v → v ≤ k → 1 ≤ times v p) where
  at_least : (v : ℕ) → v ≤ k → v ≤ below (suc v) p
  at_least zero h = omega arith
  at_least (suc v) h = omega (arith, below_suc (suc v) p, at_least v (omega arith), each (suc v) (omega arith) h)

  at_most : (d v : ℕ) → v + d ≡ k → below (suc v) p ≤ v
  at_most zero v h = omega (arith, many_le (λ x. ltb x (suc v)) p, size)
  at_most (suc d) v h = omega (arith, below_suc (suc v) p, at_most d (suc v) (omega arith), each (suc v) (omega arith) (omega arith))

  all_are : IsPermutation k p
  all_are = permutation (record { size = size; up_to = λ v h. omega (arith, at_least v h, at_most (k - v) v (omega arith)) })

module _ {n : ℕ} {p : List ℕ} (has : HasValues n p) (k : ℕ) (short : k ≤ 25) where
  pub set_permutation : length p ≡ k → n / 2 % 2 ^ k ≡ 2 ^ k - 1 → IsPermutation k p
  set_permutation size e = all_are k p size each
    where
      each : (v : ℕ) → 1 ≤ v → v ≤ k → 1 ≤ times v p
      each zero l h = absurd (omega arith)
      each (suc v) l h = omega (arith, sym (digit_half n v) ∙ set_all (n / 2) k e v h, has.digits (suc v) (omega arith))

  pub permutation_set : IsPermutation k p → n / 2 % 2 ^ k ≡ 2 ^ k - 1
  permutation_set perm =
      all_set (n / 2) k (λ v h. digit_half n v ∙ has.digits (suc v) (omega arith) ∙ omega (arith, perm.once (suc v) (omega arith) h))

module _ (k : ℕ) (p : List ℕ) where
  pub other_size : (length p ≡ k → ⊥) → is_permutation k p ≡ false
  unfolding is_permutation
  other_size differs = rw (ne_eqb (length p) k differs)

  pub one_over : (Small p → ⊥) → k ≤ 25 → is_permutation k p ≡ false
  one_over over short =
      (not_permutation k p).1 (λ perm. over (λ j h. omega (arith, entry_le perm j (omega (arith, perm.size)))))

  pub set_test : {n : ℕ} → HasValues n p → k ≤ 25 → length p ≡ k → eqb (n / 2 % 2 ^ k) (2 ^ k - 1) ≡ is_permutation k p
  set_test {n} has short size =
      on_test (is_permutation k p)
      (λ t. eq-eqb (n / 2 % 2 ^ k) (2 ^ k - 1) (permutation_set has k short ((is_permutation_lem k p).0 t)) ∙ sym t)
      (λ t. ne_eqb (n / 2 % 2 ^ k) (2 ^ k - 1) (λ e. (not_permutation k p).0 t (set_permutation has k short size e)) ∙ sym t)
