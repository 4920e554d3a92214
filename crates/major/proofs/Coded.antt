-- Every permutation is that of a composition.
use mathlib.Core.Path.{◌≡◌, refl, sym, ap, subst, ◌∙◌}
use mathlib.Core.List.{List, [], ◌∷◌, ◌++◌}
use Prim.Native.Nat.{ℕ, zero, suc, ◌-◌, ◌≤◌, ◌<◌, min}
use native.Mathlib.Nat.{le_refl}
use native.Mathlib.Decide.{dec_le, ℕ_discrete}
use native.Mathlib.Omega.{arith}
use lib.Dec.{eqb, ltb}
use lib.ListN.{length, get_or, take, length-append}
use lib.Seq.{take-suc, take_all, length-take-le}
use borrow.Author.Tests.{eq-eqb, ne_eqb}
use Rattle.walsh.specs.Sums.{sum_to}
use Rattle.walsh.proofs.Tests.{many_append}
use Rattle.permutation.specs.Permutation.{times, IsPermutation}
use Rattle.permutation.proofs.Counts.{below, many_le, below_suc, below_zero, Counted, counted}
use Rattle.permutation.proofs.Inverse.{Under}
use Rattle.major.specs.Major.{up_to, major_index, major_permutation, major_code}
use Rattle.major.specs.Circle.{erase, steps_down, places_from, drawn}
use Rattle.major.proofs.Erased.{erase_length, erase_many}
use Rattle.major.proofs.Circle.{below_mono, steps_lt, steps_back, Behind, behind_le, behind_next, drawn_many, drawn_length}
use Rattle.major.proofs.Start.{up_to_counted, up_to_behind, up_to_ready, length_up_to}
use Rattle.major.proofs.Turning.{major_drawn}
use Rattle.major.proofs.Index.{major_sum}
use Rattle.major.proofs.Codes.{code_major}

-- ---- the permutation of a composition is one

pub major_counted : (g : List ℕ) → Under g → Counted (suc (length g)) (major_permutation g)
major_counted g u =
    let k : ℕ = suc (length g) in
    let ready = up_to_ready g u in
    rw (major_drawn g u)
    (record {
      size = drawn_length (up_to k) g ready ∙ length_up_to k;
      up_to = λ v h. drawn_many (λ x. ltb x (suc v)) (up_to k) g ready ∙ (up_to_counted k).up_to v h;
    })

-- ---- two permutations have the same entries

counted_below : {k : ℕ} {p : List ℕ} → Counted k p → (w : ℕ) → below w p ≡ min (w - 1) k
counted_below {k} {p} d zero = omega (arith, below_zero p)
counted_below {k} {p} d (suc v) = go (dec_le v k)
  where
    go : Dec (v ≤ k) → below (suc v) p ≡ min (suc v - 1) k
    go (yes h) = omega (arith, d.up_to v h)
    go (no h) = omega (arith, below_mono (suc k) (suc v) p (omega arith), d.up_to k (le_refl k), many_le (λ x. ltb x (suc v)) p, d.size)

same_times : {k : ℕ} {p q : List ℕ} → Counted k p → Counted k q → (v : ℕ) → times v p ≡ times v q
same_times {k} {p} {q} d e v =
    let here : below v p ≡ below v q = counted_below d v ∙ sym (counted_below e v) in
    let next : below (suc v) p ≡ below (suc v) q = counted_below d (suc v) ∙ sym (counted_below e (suc v)) in
    omega (arith, below_suc v p, below_suc v q, here, next)

-- ---- from the last entry to the first

-- where v stands
stands : (v : ℕ) (l : List ℕ) → 1 ≤ times v l → (r : ℕ) × (r < length l) × (get_or l r 0 ≡ v)
stands v [] h = absurd (omega arith)
stands v (x ∷ l) h = go (ℕ_discrete x v) (stands v l)
  where
    go : Dec (x ≡ v) → (1 ≤ times v l → (r : ℕ) × (r < length l) × (get_or l r 0 ≡ v)) → (r : ℕ) × (r < length (x ∷ l)) × (get_or (x ∷ l) r 0 ≡ v)
    go (yes e) later = (0, omega arith, e)
    go (no e) later = let found = later (omega (arith, rw (ne_eqb x v e) at h)) in
        (suc found.0, omega (arith, found.1), found.2)

-- p is drawn from l by the places of g
pub record Coded (s : ℕ) (l p : List ℕ) : Type 0 where
  pub code : List ℕ
  pub size : length p ≡ suc (length code)
  pub under : Under code
  pub is : drawn l (places_from s code) ≡ p

coded_one : (s : ℕ) (l p : List ℕ) → length l ≡ 1 → length p ≡ 1 → ((v : ℕ) → times v p ≡ times v l) → Coded s l p
coded_one s [] p hl hp same = absurd (omega arith)
coded_one s (w ∷ x ∷ l) p hl hp same = absurd (omega arith)
coded_one s (w ∷ []) [] hl hp same = absurd (omega arith)
coded_one s (w ∷ []) (v ∷ x ∷ p) hl hp same = absurd (omega arith)
coded_one s (w ∷ []) (v ∷ []) hl hp same =
    let found = stands v (w ∷ []) (omega (arith, rw (eq-eqb v v refl) at (same v))) in
    let first : found.0 ≡ 0 = omega (arith, found.1) in
    record { code = []; size = refl; under = tt; is = ap (λ (u : ℕ). u ∷ []) (rw first at found.2) }

-- the last entry v of p stands at place r of l
module _ {x s m r v : ℕ} {l : List ℕ} (q : List ℕ) (behind : Behind x s l) (hl : length l ≡ suc (suc m)) (hr : r < length l) (at : get_or l r 0 ≡ v) where
  others_same : ((u : ℕ) → times u (q ++ (v ∷ [])) ≡ times u l) → (u : ℕ) → times u q ≡ times u (erase r l)
  others_same same u =
      omega (arith, same u, many_append (λ y. eqb y u) q (v ∷ []), rw at at (erase_many (λ y. eqb y u) r l hr))

  coded_snoc : length q ≡ suc m → Coded r (erase r l) q → Coded s l (q ++ (v ∷ []))
  coded_snoc hq c =
      let k : ℕ = suc (suc m) in
      let within : s ≤ k = omega (arith, behind_le behind) in
      let t : ℕ = steps_down k s r in
      let short : length c.code ≡ m = omega (arith, c.size) in
      record {
        code = t ∷ c.code;
        size = omega (arith, length-append q (v ∷ []), c.size);
        under = (omega (arith, steps_lt k s r within (omega arith), short), c.under);
        is = rw (short, steps_back k s r within (omega arith), c.is, at);
      }

coded : (m : ℕ) {x s : ℕ} (l p : List ℕ) → Behind x s l → length l ≡ suc m → length p ≡ suc m → ((v : ℕ) → times v p ≡ times v l) → Coded s l p
coded zero {x} {s} l p behind hl hp same = coded_one s l p hl hp same
coded (suc m) {x} {s} l p behind hl hp same =
    let v : ℕ = get_or p (suc m) 0 in
    let q : List ℕ = take (suc m) p in
    let hq : length q ≡ suc m = length-take-le (suc m) p (omega arith) in
    let split : p ≡ q ++ (v ∷ []) = sym (take_all (suc (suc m)) p (omega arith)) ∙ take-suc p (suc m) 0 (omega arith) in
    let same' : (u : ℕ) → times u (q ++ (v ∷ [])) ≡ times u l = λ u. ap (times u) (sym split) ∙ same u in
    let found = stands v l (omega (arith, same' v, rw (eq-eqb v v refl) at (many_append (λ y. eqb y v) q (v ∷ [])))) in
    let r : ℕ = found.0 in
    let next : Behind v r (erase r l) = rw found.2 at (behind_next r l found.1 behind.rising) in
    subst (Coded s l) (sym split)
    (coded_snoc q behind hl found.1 found.2 hq
    (coded m (erase r l) q next (omega (arith, erase_length r l found.1)) hq (others_same q behind hl found.1 found.2 same')))

module _ {m : ℕ} {p : List ℕ} (perm : IsPermutation (suc m) p) where
  code : Coded 0 (up_to (suc m)) p
  code =
      coded m (up_to (suc m)) p (up_to_behind (suc m)) (length_up_to (suc m)) perm.size
      (same_times (counted perm) (up_to_counted (suc m)))

  short : length code.code ≡ m
  short = omega (arith, code.size, perm.size)

  permutation_of_lem : major_permutation code.code ≡ p
  permutation_of_lem = major_drawn code.code code.under ∙ rw short code.is

  code_is : major_code p ≡ code.code
  code_is = ap major_code (sym permutation_of_lem) ∙ code_major code.code code.under

  pub major_code_lem : major_permutation (major_code p) ≡ p
  major_code_lem = rw code_is permutation_of_lem

  pub code_under : Under (major_code p)
  code_under = rw code_is code.under

  pub code_length : length (major_code p) ≡ m
  code_length = rw code_is short

  -- its sum is the major index
  pub code_sum : sum_to (major_code p) (length (major_code p)) ≡ major_index p
  code_sum = sym (major_sum (major_code p) code_under) ∙ ap major_index major_code_lem
