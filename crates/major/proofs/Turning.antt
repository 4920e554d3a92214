-- The permutation of a composition without turning: the first sheets are always a rising list, turned, so that row by row the sheet that stays
-- behind is drawn from the sheets that are left.
use mathlib.Core.Path.{◌≡◌, refl, sym, ap, ◌∙◌}
use mathlib.Core.List.{List, [], ◌∷◌, ◌++◌, append-nil, append_assoc}
use Prim.Native.Nat.{ℕ, zero, suc, ◌+◌, ◌-◌, ◌≤◌, ◌<◌}
use native.Mathlib.Nat.{le_refl, sub_self}
use native.Mathlib.Decide.{dec_lt}
use native.Mathlib.Omega.{arith}
use lib.ListN.{length, get_or, take, drop, length-append, length-drop, drop_of_length-le, take-append-drop}
use lib.Seq.{take_all, take-suc, take-add, take-append-le, drop-append-le, take-append-add, drop-append-add}
use lib.Seq.{take-take, drop-drop, length-take-le}
use Rattle.permutation.proofs.Inverse.{Under}
use Rattle.major.specs.Major.{up_to, turn_right, turn_rows, row_of, major_permutation}
use Rattle.major.specs.Circle.{erase, steps_down, places_from, drawn}
use Rattle.major.proofs.Erased.{erase_length, erase_take, erase_drop}
use Rattle.major.proofs.Circle.{steps_low, steps_high, steps_lt}
use Rattle.major.proofs.Start.{length_up_to}

-- ---- the rows by the list of their turns, row 1 left out

turns : List ℕ → List ℕ → List ℕ
turns [] l = l
turns (t ∷ g) l = turns g (turn_right (suc (length (t ∷ g))) t l)

rows_same : (t t' : ℕ → ℕ) (n : ℕ) (l : List ℕ) → ((i : ℕ) → i ≤ n → t i ≡ t' i) → turn_rows t n l ≡ turn_rows t' n l
unfolding turn_rows
rows_same t t' zero l same = refl
rows_same t t' (suc n) l same =
    rw (same (suc n) (le_refl (suc n))) (rows_same t t' n (turn_right (suc n) (t' (suc n)) l) (λ i h. same i (omega arith)))

row_one : (l : List ℕ) → turn_right 1 0 l ≡ l
row_one [] = refl
row_one (x ∷ l) = refl

turns_rows : (g l : List ℕ) → turn_rows (row_of g) (suc (length g)) l ≡ turns g l
unfolding turn_rows turns
turns_rows [] l = row_one l
turns_rows (t ∷ g) l =
    let first : row_of (t ∷ g) (suc (suc (length g))) ≡ t = ap (λ (j : ℕ). get_or (t ∷ g) j 0) (sub_self (suc (suc (length g)))) in
    ap (λ (c : ℕ). turn_rows (row_of (t ∷ g)) (suc (length g)) (turn_right (suc (suc (length g))) c l)) first
    ∙ rows_same (row_of (t ∷ g)) (row_of g) (suc (length g)) (turn_right (suc (suc (length g))) t l) later
    ∙ turns_rows g (turn_right (suc (suc (length g))) t l)
  where
    later : (i : ℕ) → i ≤ suc (length g) → row_of (t ∷ g) i ≡ row_of g i
    later i h =
        let next : suc (suc (length g)) - i ≡ suc (suc (length g) - i) = omega arith in
        ap (λ (j : ℕ). get_or (t ∷ g) j 0) next

-- ---- turns leave what stands behind

turn_behind : (i t : ℕ) (l m : List ℕ) → i ≤ length l → turn_right i t (l ++ m) ≡ turn_right i t l ++ m
turn_behind i t l m h =
    rw (take-append-le i l m h, take-append-le (i - t) l m (omega arith), drop-append-le i l m h)
    (sym (append_assoc (drop (i - t) (take i l) ++ take (i - t) l) (drop i l) m))

turn_length : (i t : ℕ) (l : List ℕ) → i ≤ length l → length (turn_right i t l) ≡ length l
turn_length i t l h =
    omega (
      arith,
      length-append (drop (i - t) (take i l) ++ take (i - t) l) (drop i l),
      length-append (drop (i - t) (take i l)) (take (i - t) l),
      length-drop (i - t) (take i l),
      length-take-le i l h,
      length-take-le (i - t) l (omega arith),
      length-drop i l,
    )

turns_behind : (g l m : List ℕ) → suc (length g) ≤ length l → turns g (l ++ m) ≡ turns g l ++ m
unfolding turns
turns_behind [] l m h = refl
turns_behind (t ∷ g) l m h =
    ap (turns g) (turn_behind (suc (suc (length g))) t l m h)
    ∙ turns_behind g (turn_right (suc (suc (length g))) t l) m (omega (arith, turn_length (suc (suc (length g))) t l h))

-- ---- a list turned

-- l turned so that its entry at place s comes first
abbrev turned : ℕ → List ℕ → List ℕ
turned s l = drop s l ++ take s l

turned_length : (s : ℕ) (l : List ℕ) → s ≤ length l → length (turned s l) ≡ length l
turned_length s l h = omega (arith, length-append (drop s l) (take s l), length-drop s l, length-take-le s l h)

-- all of a list turned right is a list turned
turn_all : (l : List ℕ) (t : ℕ) → turn_right (length l) t l ≡ turned (length l - t) l
turn_all l t =
    rw (take_all (length l) l (le_refl (length l)), drop_of_length-le l {i = length l} (le_refl (length l)))
    (append-nil (drop (length l - t) l ++ take (length l - t) l))

-- turned twice: by less than what is behind the seam, or by more
turned_less : (s t : ℕ) (l : List ℕ) → t ≤ s → s ≤ length l → turned (length l - t) (turned s l) ≡ turned (s - t) l
turned_less s t l h hs =
    let size : length (drop s l) ≡ length l - s = length-drop s l in
    let split : length l - t ≡ length (drop s l) + (s - t) = omega (arith, size) in
    let whole : drop (s - t) (take s l) ++ drop s l ≡ drop (s - t) l =
    sym (drop-append-le (s - t) (take s l) (drop s l) (omega (arith, length-take-le s l hs))) ∙ ap (drop (s - t)) (take-append-drop s l) in
    rw (
      split,
      drop-append-add (drop s l) (take s l) (s - t),
      take-append-add (drop s l) (take s l) (s - t),
      take-take (s - t) s l (omega arith),
    )
    (sym (append_assoc (drop (s - t) (take s l)) (drop s l) (take (s - t) l)) ∙ ap (λ (m : List ℕ). m ++ take (s - t) l) whole)

turned_more : (s t : ℕ) (l : List ℕ) → s ≤ t → t ≤ length l → turned (length l - t) (turned s l) ≡ turned (s + (length l - t)) l
turned_more s t l h ht =
    let size : length (drop s l) ≡ length l - s = length-drop s l in
    let few : length l - t ≤ length (drop s l) = omega (arith, size) in
    rw (
      drop-append-le (length l - t) (drop s l) (take s l) few,
      take-append-le (length l - t) (drop s l) (take s l) few,
      drop-drop (length l - t) s l,
      take-add s (length l - t) l,
    )
    (append_assoc (drop (s + (length l - t)) l) (take s l) (take (length l - t) (drop s l)))

-- the entry at place r comes last, behind the others turned
seam : (r : ℕ) (l : List ℕ) → r < length l → turned (suc r) l ≡ turned r (erase r l) ++ (get_or l r 0 ∷ [])
seam r l h =
    rw (take-suc l r 0 h, erase_drop r l, erase_take r l) (sym (append_assoc (drop (suc r) l) (take r l) (get_or l r 0 ∷ [])))

module _ (s t : ℕ) (l : List ℕ) (hs : s ≤ length l) (ht : t < length l) where
  abbrev r : ℕ
  r = steps_down (length l) s t

  turned_again : turned (length l - t) (turned s l) ≡ turned (suc r) l
  turned_again = go (dec_lt t s)
    where
      go : Dec (t < s) → turned (length l - t) (turned s l) ≡ turned (suc r) l
      go (yes h) =
          let next : s - t ≡ suc r = omega (arith, steps_low (length l) s t h) in
          turned_less s t l (omega arith) hs ∙ ap (λ (j : ℕ). turned j l) next
      go (no h) =
          let next : s + (length l - t) ≡ suc r = omega (arith, steps_high (length l) s t (omega arith)) in
          turned_more s t l (omega arith) (omega arith) ∙ ap (λ (j : ℕ). turned j l) next

  turn_draws : turn_right (length l) t (turned s l) ≡ turned r (erase r l) ++ (get_or l r 0 ∷ [])
  turn_draws =
      (rw (turned_length s l hs) at (turn_all (turned s l) t)) ∙ turned_again ∙ seam r l (steps_lt (length l) s t hs ht)

-- ---- row by row

turned_one : (s : ℕ) (l : List ℕ) → s ≤ length l → length l ≡ 1 → turned s l ≡ l
turned_one s [] h e = absurd (omega arith)
turned_one zero (x ∷ []) h e = refl
turned_one (suc zero) (x ∷ []) h e = refl
turned_one (suc (suc s)) (x ∷ []) h e = absurd (omega arith)
turned_one s (x ∷ y ∷ l) h e = absurd (omega arith)

turns_drawn : (s : ℕ) (l g : List ℕ) → s ≤ length l → length l ≡ suc (length g) → Under g → turns g (turned s l) ≡ drawn l (places_from s g)
unfolding turns
turns_drawn s l [] hs size u = turned_one s l hs size
turns_drawn s l (t ∷ g) hs size u =
    let r : ℕ = steps_down (suc (suc (length g))) s t in
    let lt : r < length l = omega (arith, steps_lt (suc (suc (length g))) s t (omega arith) (omega (arith, u.0))) in
    let less : length (erase r l) ≡ suc (length g) = omega (arith, erase_length r l lt) in
    ap (turns g) (rw size at (turn_draws s t l hs (omega (arith, u.0))))
    ∙ turns_behind g (turned r (erase r l)) (get_or l r 0 ∷ []) (omega (arith, turned_length r (erase r l) (omega arith)))
    ∙ ap (λ (m : List ℕ). m ++ (get_or l r 0 ∷ [])) (turns_drawn r (erase r l) g (omega arith) less u.1)

-- the permutation of a composition is drawn from 1..k, where behind the last sheet stands a 0
pub major_drawn : (g : List ℕ) → Under g → major_permutation g ≡ drawn (up_to (suc (length g))) (places_from 0 g)
unfolding major_permutation
major_drawn g u =
    let k : ℕ = suc (length g) in
    turns_rows g (up_to k)
    ∙ ap (turns g) (sym (append-nil (up_to k)))
    ∙ turns_drawn 0 (up_to k) g (omega arith) (length_up_to k) u
