-- What a turn of the loop does that finds the code of a permutation, from row k down.
use mathlib.Core.Path.{◌≡◌, refl, sym, ap, ◌∙◌}
use mathlib.Core.Bool.{cond}
use mathlib.Core.List.{List, [], ◌∷◌}
use Prim.Native.Nat.{ℕ, suc, ◌+◌, ◌-◌, ◌*◌, ◌≤◌, ◌<◌}
use native.Mathlib.Nat.{le_refl}
use native.Mathlib.Decide.{dec_lt, ℕ_discrete}
use native.Mathlib.Omega.{arith}
use lib.Dec.{ltb, eqb}
use lib.ListN.{length, get_or, take, drop, set, length-set, get_or-eq_default}
use lib.Seq.{take-suc, take-length, split_at, length-take-le, get_or-set_same, get_or-set_other, get_or-take}
use borrow.Author.Tests.{lt-ltb, le-ltb, eq-eqb}
use Rattle.walsh.specs.Sums.{sum_to}
use Rattle.walsh.proofs.Lists.{sum_same}
use Rattle.walsh.proofs.Tests.{many_append}
use Rattle.permutation.specs.Permutation.{times, IsPermutation}
use Rattle.permutation.proofs.Counts.{below, many_le, below_suc, below_zero, counted, entry_le, times_le}
use Rattle.permutation.proofs.Smaller.{tabulate_take}
use Rattle.major.specs.declared.tally.Tally.{Tally}
use Rattle.major.specs.Major.{row_at, major_index, major_code}
use Rattle.major.specs.Circle.{steps_down}
use Rattle.major.specs.Tally.{from_on, fewer, Tallies, Among}
use Rattle.major.proofs.Circle.{below_mono, steps_low, steps_high}
use Rattle.major.proofs.Tallied.{tallies_same}
use Rattle.major.proofs.Codes.{many_up, many_round}
use Rattle.major.proofs.Coded.{code_length, code_sum}

-- ---- how many sheets in front of place i are at most v

-- sheets over the last, k, count as if they stood there
abbrev pub front_up_to : List ℕ → ℕ → ℕ → ℕ
front_up_to p i v = below (suc v) (take i p) + (v - length p)

-- of all
front_all : {p : List ℕ} → IsPermutation (length p) p → (v : ℕ) → v ≡ front_up_to p (length p) v
front_all {p} perm v = rw (take-length p) (go (dec_lt (length p) v))
  where
    up_to : (v : ℕ) → v ≤ length p → below (suc v) p ≡ v
    up_to = (counted perm).up_to

    go : Dec (length p < v) → v ≡ below (suc v) p + (v - length p)
    go (yes h) =
        omega (arith, up_to (length p) (le_refl (length p)), below_mono (suc (length p)) (suc v) p (omega arith), many_le (λ y. ltb y (suc v)) p)
    go (no h) = omega (arith, up_to v (omega arith))

-- and with the sheet at place i
front_suc : (p : List ℕ) (i v : ℕ) → i < length p → front_up_to p (suc i) v ≡ front_up_to p i v + from_on (get_or p i 0) v
front_suc p i v h =
    let x : ℕ = get_or p i 0 in
    let more = ap (below (suc v)) (take-suc p i 0 h) ∙ many_append (λ y. ltb y (suc v)) (take i p) (x ∷ []) in
    omega (arith, more, go x (dec_lt v x))
  where
    go : (x : ℕ) → Dec (v < x) → cond (ltb x (suc v)) 1 0 ≡ from_on x v
    go x (yes l) = rw (lt-ltb v x l, le-ltb x (suc v) l)
    go x (no l) = rw (le-ltb v x (omega arith), lt-ltb x (suc v) (omega arith))

-- ---- a row by the places of two sheets

-- how many sheets in front of place i are smaller than the one there; behind the last stands a 0
abbrev pub place_at : List ℕ → ℕ → ℕ
place_at p i = below (get_or p i 0) (take i p)

place_le : (p : List ℕ) (i : ℕ) → i ≤ length p → place_at p i ≤ i
place_le p i h = omega (arith, many_le (λ y. ltb y (get_or p i 0)) (take i p), length-take-le i p h)

module _ {p : List ℕ} (perm : IsPermutation (length p) p) (i : ℕ) (h : i < length p) where
  abbrev x : ℕ
  x = get_or p i 0

  -- it does not stand in front
  not_before : x ≤ length p → below (suc x) (take i p) ≡ place_at p i
  not_before within =
      let here : times x p ≡ times x (take i p) + (cond (eqb x x) 1 0 + times x (drop (suc i) p)) =
      ap (times x) (split_at p i 0 h) ∙ many_append (λ y. eqb y x) (take i p) (x ∷ drop (suc i) p) in
      omega (arith, times_le perm x within, rw (eq-eqb x x refl) at here, below_suc x (take i p))

  abbrev b : ℕ
  b = get_or p (suc i) 0

  next_place : place_at p (suc i) ≡ below b (take i p) + cond (ltb x b) 1 0
  next_place = ap (below b) (take-suc p i 0 h) ∙ omega (arith, many_append (λ y. ltb y b) (take i p) (x ∷ []))

  -- the steps from the place of the next sheet to its own
  row_is : x ≤ length p → steps_down (suc i) (place_at p (suc i)) (place_at p i) ≡ row_at p i
  row_is within = go (dec_lt x b)
    where
      go : Dec (x < b) → steps_down (suc i) (place_at p (suc i)) (place_at p i) ≡ row_at p i
      go (yes l) =
          let next : place_at p (suc i) ≡ below b (take i p) + 1 = rw (lt-ltb x b l) at next_place in
          let met = many_up x b (take i p) l in
          steps_low (suc i) (place_at p (suc i)) (place_at p i) (omega (arith, next, met, not_before within))
          ∙ omega (arith, next, met, not_before within)
      go (no l) =
          let next : place_at p (suc i) ≡ below b (take i p) + 0 = rw (le-ltb x b (omega arith)) at next_place in
          steps_high (suc i) (place_at p (suc i)) (place_at p i) (omega (arith, next, below_mono b x (take i p) (omega arith)))
          ∙ omega (arith, next, many_round x b (take i p) (omega arith), not_before within, length-take-le i p (omega arith))

-- ---- the loop

-- The rows over i are found: `front` tallies the sheets in front of place i, and the sheet there would stand at place `next` of them. The sum does not
-- overflow (`few`).
pub record CodeFrom (p : List ℕ) (i : ℕ) (code : List ℕ) (sum : ℕ) (front : Tally) (next : ℕ) : Type 0 where
  pub some : 1 ≤ i
  pub row : i ≤ length p
  pub cells : length code ≡ 32
  pub tallies : Tallies front (front_up_to p i)
  pub place : next ≡ place_at p i
  pub rows : (j : ℕ) → j < length p - i → get_or code j 0 ≡ row_at p (length p - suc j)
  pub total : sum ≡ sum_to code (length p - i)
  pub few : sum + i * 25 ≤ 625

module _ (p : List ℕ) (short : length p ≤ 25) (perm : IsPermutation (length p) p) where
  pub code_start : (code : List ℕ) (front : Tally) → 1 ≤ length p → length code ≡ 32 → Tallies front (λ v. v) → CodeFrom p (length p) code 0 front 0
  code_start code front some size all =
      let none : length p - length p ≡ 0 = omega arith in
      record {
        some = some;
        row = le_refl (length p);
        cells = size;
        tallies = tallies_same (λ v h. front_all perm v) all;
        place = sym (rw (get_or-eq_default p 0 {n = length p} (le_refl (length p))) (below_zero (take (length p) p)));
        rows = λ j h. absurd (omega arith);
        total = rw none;
        few = omega arith;
      }

  module _ {i sum next : ℕ} {front : Tally} {code : List ℕ} (found : CodeFrom p i code sum front next) where
    pub next_le : next ≤ i
    next_le = omega (arith, found.place, place_le p i found.row)

    module _ (more : 1 < i) (x : ℕ) (here : x ≡ get_or p (i - 1) 0) where
      one_less : suc (i - 1) ≡ i
      one_less = omega arith

      pub within : x ≤ length p
      within = omega (arith, entry_le perm (i - 1) (omega (arith, found.row)))

      fewer_by : (v : ℕ) → front_up_to p i v ≡ front_up_to p (i - 1) v + from_on x v
      fewer_by v = rw (one_less, ← here) at (front_suc p (i - 1) v (omega (arith, found.row)))

      -- the sheet x stands in front of place i
      pub among : Among front x (front_up_to p i)
      among = record { tallies = found.tallies; some = λ v. omega (arith, fewer_by v) }

      pub tallies_turn : {rest : Tally} → Tallies rest (fewer x (front_up_to p i)) → Tallies rest (front_up_to p (i - 1))
      tallies_turn is = tallies_same (λ v h. omega (arith, fewer_by v)) is

      pub place_is : front_up_to p (i - 1) x ≡ place_at p (i - 1)
      place_is = rw here (omega (arith, not_before perm (i - 1) (omega (arith, found.row)) (rw here at within), within))

      pub place_lt : place_at p (i - 1) < i
      place_lt = omega (arith, place_le p (i - 1) (omega (arith, found.row)))

      row_found : steps_down i next (place_at p (i - 1)) ≡ row_at p (i - 1)
      row_found =
          ap (λ (n : ℕ). steps_down i n (place_at p (i - 1))) found.place
          ∙ ap (λ (j : ℕ). steps_down j (place_at p j) (place_at p (i - 1))) (sym one_less)
          ∙ row_is perm (i - 1) (omega (arith, found.row)) (rw here at within)

      pub code_turn : (rest : Tally) (t n more-sum : ℕ) → Tallies rest (front_up_to p (i - 1)) → n ≡ place_at p (i - 1) → t ≡ steps_down i next n → t < i
          → more-sum ≡ sum + t
          → CodeFrom p (i - 1) (set code (length p - i) t) more-sum rest n
      code_turn rest t n more-sum tallies en et small es =
          record {
            some = omega arith;
            row = omega (arith, found.row);
            cells = length-set code (length p - i) t ∙ found.cells;
            tallies = tallies;
            place = en;
            rows = rows;
            total = es ∙ total;
            few = omega (arith, found.few, found.row);
          }
        where
          row_here : t ≡ row_at p (i - 1)
          row_here = et ∙ ap (steps_down i next) en ∙ row_found

          longer : length p - (i - 1) ≡ suc (length p - i)
          longer = omega (arith, found.row)

          inside : length p - i < length code
          inside = omega (arith, found.cells)

          rows : (j : ℕ) → j < length p - (i - 1) → get_or (set code (length p - i) t) j 0 ≡ row_at p (length p - suc j)
          rows j h = go (ℕ_discrete j (length p - i))
            where
              go : Dec (j ≡ length p - i) → get_or (set code (length p - i) t) j 0 ≡ row_at p (length p - suc j)
              go (yes e) =
                  let back : i - 1 ≡ length p - suc (length p - i) = omega (arith, found.row) in
                  rw e (get_or-set_same code (length p - i) t 0 inside ∙ row_here ∙ ap (row_at p) back)
              go (no e) = get_or-set_other code (length p - i) j t 0 e ∙ found.rows j (omega arith)

          total : sum + t ≡ sum_to (set code (length p - i) t) (length p - (i - 1))
          total =
              rw (longer, get_or-set_same code (length p - i) t 0 inside)
              (ap (λ (n : ℕ). n + t) (found.total
              ∙ sum_same (λ j. get_or code j 0) (λ j. get_or (set code (length p - i) t) j 0) (length p - i)
              (λ j h. sym (get_or-set_other code (length p - i) j t 0 (λ e. omega arith)))))

    module _ (last : i ≤ 1) where
      pub code_found : take (length p - 1) code ≡ major_code p
      unfolding major_code
      code_found =
          tabulate_take (λ j. row_at p (length p - suc j)) code (length p - 1) (omega (arith, found.cells))
          (λ j h. found.rows j (omega arith))

      pub index_found : sum ≡ major_index p
      index_found =
          let n : ℕ = length p - 1 in
          let one : length p - i ≡ n = omega (arith, found.some) in
          let m : suc n ≡ length p = omega (arith, found.some, found.row) in
          let perm' : IsPermutation (suc n) p = rw m perm in
          let size : length (major_code p) ≡ n = code_length perm' in
          found.total
          ∙ ap (sum_to code) one
          ∙ sum_same (λ j. get_or code j 0) (λ j. get_or (major_code p) j 0) n
          (λ j h. sym (get_or-take n code j 0 h) ∙ ap (λ (l : List ℕ). get_or l j 0) code_found)
          ∙ ap (sum_to (major_code p)) (sym size)
          ∙ code_sum perm'
