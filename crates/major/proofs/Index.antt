-- The major index of the permutation of a composition is the composition's sum.
use mathlib.Core.Path.{◌≡◌, refl, ap, ◌∙◌}
use mathlib.Core.Bool.{cond}
use mathlib.Core.List.{List, [], ◌∷◌, ◌++◌}
use Prim.Native.Nat.{ℕ, suc, ◌+◌, ◌-◌, ◌<◌}
use native.Mathlib.Decide.{dec_lt}
use native.Mathlib.Omega.{arith}
use lib.Dec.{ltb}
use lib.ListN.{length, get_or, length-append, get_or-append}
use lib.Seq.{get_or_at}
use borrow.Author.Tests.{lt-ltb, le-ltb}
use Rattle.walsh.specs.Sums.{sum_to}
use Rattle.walsh.proofs.Lists.{sum_same, sum_front}
use Rattle.permutation.proofs.Inverse.{Under}
use Rattle.major.specs.Major.{descent, major_index, up_to, major_permutation}
use Rattle.major.specs.Circle.{erase, steps_down, places_from, drawn}
use Rattle.major.proofs.Erased.{erase_length}
use Rattle.major.proofs.Circle.{Behind, behind_le, entry_less, entry_greater, Ready, row_lt, row_steps, row_next, drawn_length}
use Rattle.major.proofs.Turning.{major_drawn}
use Rattle.major.proofs.Start.{up_to_ready, up_to_at}

-- ---- one sheet more behind

pub index_snoc : (q : List ℕ) (y x : ℕ)
    → major_index ((q ++ (y ∷ [])) ++ (x ∷ [])) ≡ major_index (q ++ (y ∷ [])) + cond (ltb x y) (suc (length q)) 0
unfolding major_index
index_snoc q y x =
    let p : List ℕ = q ++ (y ∷ []) in
    let size : length p ≡ suc (length q) = omega (arith, length-append q (y ∷ [])) in
    let long : length (p ++ (x ∷ [])) - 1 ≡ suc (length q) = omega (arith, size, length-append p (x ∷ [])) in
    let short : length p - 1 ≡ length q = omega (arith, size) in
    rw (
      long,
      short,
      get_or_at p x [] 0 (suc (length q)) size,
      get_or-append p (x ∷ []) 0 (length q) (omega (arith, size)),
      get_or_at q y [] 0 (length q) refl,
      sum_same (descent (p ++ (x ∷ []))) (descent p) (length q) (λ i h. rw (
        get_or-append p (x ∷ []) 0 (suc i) (omega (arith, size)),
        get_or-append p (x ∷ []) 0 i (omega (arith, size)),
      )),
    )

-- ---- row by row

index_one : (x s y : ℕ) → Behind x s (y ∷ []) → major_index (y ∷ x ∷ []) + s ≡ 1
unfolding major_index
index_one x s y behind = go (dec_lt 0 s)
  where
    go : Dec (0 < s) → major_index (y ∷ x ∷ []) + s ≡ 1
    go (yes h) = rw (le-ltb x y (omega (arith, entry_less behind 0 (omega arith) h))) (omega (arith, behind_le behind))
    go (no h) = rw (lt-ltb x y (entry_greater behind 0 (omega arith) (omega arith))) (omega arith)

-- with the sheet x behind
index_drawn : {x s : ℕ} (l g : List ℕ) → Ready x s l g → major_index (drawn l (places_from s g) ++ (x ∷ [])) + s ≡ sum_to g (length g) + length l
index_drawn [] [] ready = absurd (omega (arith, ready.size))
index_drawn {x = x} {s = s} (y ∷ []) [] ready = index_one x s y ready.behind
index_drawn (y ∷ z ∷ l) [] ready = absurd (omega (arith, ready.size))
index_drawn {x = x} {s = s} l (t ∷ g) ready =
    let r : ℕ = steps_down (suc (suc (length g))) s t in
    let q : List ℕ = drawn (erase r l) (places_from r g) in
    let size : suc (length q) ≡ length l =
    ap suc (drawn_length (erase r l) g (row_next ready)) ∙ erase_length r l (row_lt ready) in
    omega (
      arith,
      rw size at (index_snoc q (get_or l r 0) x),
      index_drawn {x = get_or l r 0} {s = r} (erase r l) g (row_next ready),
      erase_length r l (row_lt ready),
      row_steps ready,
      sum_front (λ i. get_or (t ∷ g) i 0) (length g),
    )

-- the last sheet is greater than the 0 behind it
last_index : {s : ℕ} (l g : List ℕ) → ((i : ℕ) → i < length l → 0 < get_or l i 0) → Ready 0 s l g
    → major_index (drawn l (places_from s g) ++ (0 ∷ [])) ≡ major_index (drawn l (places_from s g)) + length l
last_index [] [] some ready = absurd (omega (arith, ready.size))
last_index (y ∷ []) [] some ready = unfold major_index in rw (lt-ltb 0 y (some 0 (omega arith)))
last_index (y ∷ z ∷ l) [] some ready = absurd (omega (arith, ready.size))
last_index {s} l (t ∷ g) some ready =
    let r : ℕ = steps_down (suc (suc (length g))) s t in
    let q : List ℕ = drawn (erase r l) (places_from r g) in
    let size : suc (length q) ≡ length l =
    ap suc (drawn_length (erase r l) g (row_next ready)) ∙ erase_length r l (row_lt ready) in
    rw (size, lt-ltb 0 (get_or l r 0) (some r (row_lt ready))) at (index_snoc q (get_or l r 0) 0)

pub major_sum : (g : List ℕ) → Under g → major_index (major_permutation g) ≡ sum_to g (length g)
major_sum g u =
    let l : List ℕ = up_to (suc (length g)) in
    let ready = up_to_ready g u in
    rw (major_drawn g u)
    (omega (arith, index_drawn l g ready, last_index l g (λ i h. rw (up_to_at (suc (length g)) i h) (omega arith)) ready))
