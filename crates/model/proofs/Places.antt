-- Laws of the places of a list's entries, and of numbers in turn.
use mathlib.Core.Path.{◌≡◌, sym, ◌∙◌}
use mathlib.Core.Logic.{◌⊎◌, inl, inr}
use mathlib.Core.List.Memᴰ
use mathlib.Core.List.{List, Memᴰ}
use Prim.Native.Nat.{ℕ, zero, suc, ◌+◌, ◌≤◌, ◌<◌}
use native.Mathlib.Nat.{eq-or-lt_of_le}
use native.Mathlib.Omega.{arith}
use lib.ListN.{length, get_or, take, length-take}
use lib.Seq.{get_or-take}
use Rattle.model.specs.Basics.{Distinct, Once}
use Rattle.model.specs.Trace.{count_from}

module _ {A : Type 0} (d : A) where
  -- an entry of a list without repeats
  pub once_at : (l : List A) → Distinct d l → (x : A) (i : ℕ) → i < length l → get_or l i d ≡ x → Once d x l
  once_at l u x i h e = record { place = i; inside = h; there = e; alone = λ j k q. u.same_place j i k h (q ∙ sym e) }

  pub distinct_take : (n : ℕ) (l : List A) → Distinct d l → Distinct d (take n l)
  distinct_take n l u =
      record {
        same_place = λ i j hi hj e.
            let p = length-take n l in
            u.same_place i j (omega arith) (omega arith)
            (sym (get_or-take n l i d (omega arith)) ∙ e ∙ get_or-take n l j d (omega arith));
      }

  -- of the first k of a list without repeats, the entry at place k is none
  pub not_among : (k : ℕ) (l : List A) → Distinct d l → k < length l → Once d (get_or l k d) (take k l) → ⊥
  not_among k l u h q =
      let n = length-take k l in
      let small : q.place < k = omega (arith, q.inside) in
      let same = u.same_place q.place k (omega arith) h (sym (get_or-take k l q.place d small) ∙ q.there) in
      omega arith

pub mem_count : (s k : ℕ) {x : ℕ} → Memᴰ x (count_from s k) → (s ≤ x) × (x < s + k)
mem_count s zero m = absurd (Memᴰ.not-nil m)
mem_count s (suc k) {x} m = go (Memᴰ.cases_cons m) (λ m'. mem_count (suc s) k m')
  where
    go : (x ≡ s) ⊎ Memᴰ x (count_from (suc s) k) → (Memᴰ x (count_from (suc s) k) → (suc s ≤ x) × (x < suc s + k)) → (s ≤ x) × (x < s + suc k)
    go (inl e) below = (omega arith, omega arith)
    go (inr m') below = let b = below m' in (omega (arith, b.0), omega (arith, b.1))

pub count_mem : (s k : ℕ) {x : ℕ} → s ≤ x → x < s + k → Memᴰ x (count_from s k)
count_mem s zero {x} h h' = absurd (omega arith)
count_mem s (suc k) {x} h h' = go (eq-or-lt_of_le h) (λ p. count_mem (suc s) k p (omega arith))
  where
    go : (s ≡ x) ⊎ (s < x) → (suc s ≤ x → Memᴰ x (count_from (suc s) k)) → Memᴰ x (count_from s (suc k))
    go (inl e) f = Memᴰ.head (sym e)
    go (inr p) f = Memᴰ.tail (f p)
