-- The code of the permutation of a composition is the composition.
use mathlib.Core.Path.{◌≡◌, refl, sym, ap, ◌∙◌}
use mathlib.Core.Bool.{cond}
use mathlib.Core.List.{List, [], ◌∷◌, ◌++◌}
use Prim.Native.Nat.{ℕ, zero, suc, ◌+◌, ◌-◌, ◌≤◌, ◌<◌}
use native.Mathlib.Decide.{dec_lt}
use native.Mathlib.Omega.{arith}
use lib.Dec.{ltb}
use lib.ListN.{length, get_or, length-append, get_or-append}
use lib.Seq.{get_or_at, take_at, take-append-le}
use borrow.Author.Tests.{lt-ltb, le-ltb}
use Rattle.permutation.specs.Permutation.{how_many, tabulate}
use Rattle.permutation.proofs.Counts.{below}
use Rattle.permutation.proofs.Smaller.{tabulate_same, tabulate_front}
use Rattle.permutation.proofs.Inverse.{Under}
use Rattle.major.specs.Major.{up_to, between, row_at, major_permutation, major_code}
use Rattle.major.specs.Circle.{erase, steps_down, places_from, drawn}
use Rattle.major.proofs.Erased.{erase_length, erase_many}
use Rattle.major.proofs.Circle.{entry_less, entry_greater, Ready, row_lt, row_steps, row_next, drawn_many, drawn_length}
use Rattle.major.proofs.Start.{up_to_ready}
use Rattle.major.proofs.Turning.{major_drawn}

-- ---- how many are met on the way up from a to b

between_up : (a b x : ℕ) → a < b → cond (between a b x) 1 0 + cond (ltb x (suc a)) 1 0 ≡ cond (ltb x b) 1 0
between_up a b x h = go (dec_lt a x)
  where
    go : Dec (a < x) → cond (between a b x) 1 0 + cond (ltb x (suc a)) 1 0 ≡ cond (ltb x b) 1 0
    go (yes l) = rw (lt-ltb a b h, lt-ltb a x l, le-ltb x (suc a) (omega arith)) (omega arith)
    go (no l) = rw (lt-ltb a b h, le-ltb a x (omega arith), lt-ltb x (suc a) (omega arith), lt-ltb x b (omega arith))

between_round : (a b x : ℕ) → b ≤ a → cond (between a b x) 1 0 + cond (ltb x (suc a)) 1 0 ≡ cond (ltb x b) 1 0 + 1
between_round a b x h = go (dec_lt a x)
  where
    go : Dec (a < x) → cond (between a b x) 1 0 + cond (ltb x (suc a)) 1 0 ≡ cond (ltb x b) 1 0 + 1
    go (yes l) = rw (le-ltb a b h, lt-ltb a x l, le-ltb x (suc a) (omega arith), le-ltb x b (omega arith))
    go (no l) = rw (le-ltb a b h, le-ltb a x (omega arith), lt-ltb x (suc a) (omega arith)) (omega arith)

pub many_up : (a b : ℕ) (l : List ℕ) → a < b → how_many (between a b) l + below (suc a) l ≡ below b l
many_up a b [] h = refl
many_up a b (x ∷ l) h = omega (arith, between_up a b x h, many_up a b l h)

pub many_round : (a b : ℕ) (l : List ℕ) → b ≤ a → how_many (between a b) l + below (suc a) l ≡ below b l + length l
many_round a b [] h = refl
many_round a b (x ∷ l) h = omega (arith, between_round a b x h, many_round a b l h)

-- ---- the rows of a list with more behind

rows_append : (p m : List ℕ) (i : ℕ) → suc i < length p → row_at (p ++ m) i ≡ row_at p i
rows_append p m i h =
    rw (get_or-append p m 0 i (omega arith), get_or-append p m 0 (suc i) h, take-append-le i p m (omega arith))

zero_behind : (p : List ℕ) (i : ℕ) → get_or (p ++ (0 ∷ [])) i 0 ≡ get_or p i 0
zero_behind [] zero = refl
zero_behind [] (suc i) = refl
zero_behind (x ∷ p) zero = refl
zero_behind (x ∷ p) (suc i) = zero_behind p i

rows_zero : (p : List ℕ) (i : ℕ) → i ≤ length p → row_at (p ++ (0 ∷ [])) i ≡ row_at p i
rows_zero p i h = rw (zero_behind p i, zero_behind p (suc i), take-append-le i p (0 ∷ []) h)

-- ---- row by row

module _ {x s t : ℕ} {l g : List ℕ} (ready : Ready x s l (t ∷ g)) where
  abbrev r : ℕ
  r = steps_down (suc (suc (length g))) s t

  abbrev y : ℕ
  y = get_or l r 0

  -- what is met on the way up from the sheet of the row to the one behind
  row_met : how_many (between y x) (erase r l) ≡ t
  row_met = go (dec_lt r s)
    where
      go : Dec (r < s) → how_many (between y x) (erase r l) ≡ t
      go (yes h) =
          let less : y < x = entry_less ready.behind r (row_lt ready) h in
          omega (
            arith,
            many_up y x (erase r l) less,
            (row_next ready).behind.other,
            rw (lt-ltb y x less) at (erase_many (λ z. ltb z x) r l (row_lt ready)),
            ready.behind.place,
            rw (le-ltb x y (omega arith)) at (row_steps ready),
          )
      go (no h) =
          let more : x < y = entry_greater ready.behind r (row_lt ready) (omega arith) in
          omega (
            arith,
            many_round y x (erase r l) (omega arith),
            (row_next ready).behind.other,
            rw (le-ltb y x (omega arith)) at (erase_many (λ z. ltb z x) r l (row_lt ready)),
            ready.behind.place,
            erase_length r l (row_lt ready),
            rw (lt-ltb x y more) at (row_steps ready),
          )

  abbrev q : List ℕ
  q = drawn (erase r l) (places_from r g)

  first_row_lem : row_at ((q ++ (y ∷ [])) ++ (x ∷ [])) (length q) ≡ t
  first_row_lem =
      let size : length (q ++ (y ∷ [])) ≡ suc (length q) = omega (arith, length-append q (y ∷ [])) in
      rw (
        get_or-append (q ++ (y ∷ [])) (x ∷ []) 0 (length q) (omega (arith, size)),
        get_or_at q y [] 0 (length q) refl,
        get_or_at (q ++ (y ∷ [])) x [] 0 (suc (length q)) size,
        take-append-le (length q) (q ++ (y ∷ [])) (x ∷ []) (omega (arith, size)),
        take_at q (y ∷ []) (length q) refl,
      )
      (drawn_many (between y x) (erase r l) g (row_next ready) ∙ row_met)

-- the rows of p from the last but one up, with x behind
abbrev rows_behind : ℕ → List ℕ → List ℕ
rows_behind x p = tabulate (λ j. row_at (p ++ (x ∷ [])) (length p - suc j)) (length p - 1)

rows_snoc : (x y : ℕ) (q : List ℕ) → 0 < length q → rows_behind x (q ++ (y ∷ [])) ≡ row_at ((q ++ (y ∷ [])) ++ (x ∷ [])) (length q) ∷ rows_behind y q
rows_snoc x y q some =
    let size : length (q ++ (y ∷ [])) ≡ suc (length q) = omega (arith, length-append q (y ∷ [])) in
    let more : suc (length q) - 1 ≡ suc (length q - 1) = omega arith in
    let last : suc (length q) - 1 ≡ length q = omega arith in
    rw (size, more)
    (tabulate_front (λ j. row_at ((q ++ (y ∷ [])) ++ (x ∷ [])) (suc (length q) - suc j)) (length q - 1)
    ∙ rw last
    (ap (λ (m : List ℕ). row_at ((q ++ (y ∷ [])) ++ (x ∷ [])) (length q) ∷ m) (tabulate_same
    (λ j. row_at ((q ++ (y ∷ [])) ++ (x ∷ [])) (suc (length q) - suc (suc j)))
    (λ j. row_at (q ++ (y ∷ [])) (length q - suc j))
    (length q - 1)
    (λ j. let down : suc (length q) - suc (suc j) ≡ length q - suc j = omega arith in
    rw down (rows_append (q ++ (y ∷ [])) (x ∷ []) (length q - suc j) (omega (arith, size)))))))

rows_drawn : {x s : ℕ} (l g : List ℕ) → Ready x s l g → rows_behind x (drawn l (places_from s g)) ≡ g
rows_drawn l [] ready = let none : length l - 1 ≡ 0 = omega (arith, ready.size) in
    rw none
rows_drawn {x = x} {s = s} l (t ∷ g) ready =
    let r : ℕ = steps_down (suc (suc (length g))) s t in
    let q : List ℕ = drawn (erase r l) (places_from r g) in
    let next = row_next ready in
    rows_snoc x (get_or l r 0) q (omega (arith, drawn_length (erase r l) g next, next.size))
    ∙ rw (first_row_lem ready, rows_drawn {x = get_or l r 0} {s = r} (erase r l) g next)

pub code_major : (g : List ℕ) → Under g → major_code (major_permutation g) ≡ g
unfolding major_code
code_major g u =
    let l : List ℕ = up_to (suc (length g)) in
    let p : List ℕ = drawn l (places_from 0 g) in
    rw (major_drawn g u)
    (tabulate_same (λ j. row_at p (length p - suc j)) (λ j. row_at (p ++ (0 ∷ [])) (length p - suc j)) (length p - 1)
    (λ j. sym (rows_zero p (length p - suc j) (omega arith)))
    ∙ rows_drawn l g (up_to_ready g u))
