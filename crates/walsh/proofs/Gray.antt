-- The Gray property: a step moves one unit from one part to another.
use mathlib.Core.Path.{◌≡◌, refl, sym, ap, ◌∙◌, subst}
use mathlib.Core.Bool.{Bool, true, false, cond}
use mathlib.Core.Logic.{◌⊎◌, inl, inr}
use mathlib.Core.List.{List, [], ◌∷◌, ◌++◌}
use Prim.Native.Nat.{ℕ, zero, suc, ◌+◌, ◌-◌, ◌≤◌, ◌<◌, max}
use native.Mathlib.Nat.{not-suc-le-zero, zero-lt-suc, add-suc, le_refl, le_trans, min-le_right, suc-sub-suc}
use native.Mathlib.Numerals.{add-one, sub-one}
use native.Mathlib.Omega.{arith}
use native.Mathlib.Decide.{dec_le, ℕ_discrete}
use lib.ListN.{length, get_or, take, drop, get_or-append}
use lib.Seq.{get_or_at, split_at}
use borrow.Author.Tests.{eq-eqb, ne_eqb}
use Rattle.walsh.specs.Sums.{sum_to}
use Rattle.walsh.specs.Order.{CompositionTo, Composition, is_odd, least, most, order}
use Rattle.walsh.specs.Neighbours.{Neighbours, Adjacent}
use Rattle.walsh.specs.Rank.{rank_of}
use Rattle.walsh.specs.Step.{first_value, last_value, next_value, part_first, first_of}
use Rattle.walsh.specs.Step.{Pivot, step_at, raised_part, other_part, gain_part, loss_part}
use Rattle.walsh.proofs.Listing.{inner}
use Rattle.walsh.proofs.Complete.{composition_low, composition_high, composition_prefix, composition_to, composition_within}
use Rattle.walsh.proofs.Complete.{rank_at, entry_composition, entry_rank}
use Rattle.walsh.proofs.Ends.{length_first, last_at, first_period, next_low, next_high, rest_fits}
use Rattle.walsh.proofs.Steps.{step_last, LastOrPivot, find_pivot, succ_last, succ_at}

-- ---- two lists with a number in the middle, g ++ x ∷ d and h ++ y ∷ d, cell by cell

left_cell : (g d : List ℕ) (i j : ℕ) → length g ≡ i → j < i → get_or (g ++ d) j 0 ≡ get_or g j 0
left_cell g d i j e l = get_or-append g d 0 j (rw e l)

-- they agree at j if the fronts agree there and, where j is the middle, the two numbers do
same_cell : (g h d : List ℕ) (x y j : ℕ) → length g ≡ length h → (j < length g → get_or g j 0 ≡ get_or h j 0) → (j ≡ length g → x ≡ y)
    → get_or (g ++ (x ∷ d)) j 0 ≡ get_or (h ++ (y ∷ d)) j 0
same_cell [] [] d x y zero e front middle = middle refl
same_cell [] [] d x y (suc j) e front middle = refl
same_cell [] (b ∷ h) d x y j e front middle = absurd (omega arith)
same_cell (a ∷ g) [] d x y j e front middle = absurd (omega arith)
same_cell (a ∷ g) (b ∷ h) d x y zero e front middle = front (zero-lt-suc (length g))
same_cell (a ∷ g) (b ∷ h) d x y (suc j) e front middle =
    same_cell g h d x y j (omega arith) (λ l. front (omega arith)) (λ q. middle (omega arith))

-- ---- h is g with one more at part i

record Raised (g h : List ℕ) (i : ℕ) : Type 0 where
  at : get_or h i 0 ≡ suc (get_or g i 0)
  others : (j : ℕ) → (j ≡ i → ⊥) → get_or h j 0 ≡ get_or g j 0

raised_front : (g h : List ℕ) (k v i : ℕ) → length g ≡ k → length h ≡ k → i < k → Raised g h i → Raised (g ++ (v ∷ [])) (h ++ (v ∷ [])) i
raised_front g h k v i eg eh l up =
    record {
      at = rw (left_cell g (v ∷ []) k i eg l, left_cell h (v ∷ []) k i eh l) up.at;
      others = λ j ne. same_cell h g [] v v j (eh ∙ sym eg) (λ b. up.others j ne) (λ q. refl);
    }

raised_last : (g : List ℕ) (k v : ℕ) → length g ≡ k → Raised (g ++ (v ∷ [])) (g ++ (suc v ∷ [])) k
raised_last g k v e =
    record {
      at = rw (get_or_at g v [] 0 k e, get_or_at g (suc v) [] 0 k e);
      others = λ j ne. same_cell g g [] (suc v) v j refl (λ b. refl) (λ q. absurd (ne (q ∙ e)));
    }

-- ---- a total of one more raises one part of the first composition by one

-- totals at which the first composition does not depend on the parity: 0, and all that the parts hold
value_zero : (ms : List ℕ) (k : ℕ) (odd : Bool) → first_value (least ms k 0) (most ms k 0) odd ≡ 0
value_zero ms k true = omega arith
value_zero ms k false = omega arith

value_full : (ms : List ℕ) (k : ℕ) (odd : Bool) → first_value (least ms k (sum_to ms (suc k))) (most ms k (sum_to ms (suc k))) odd ≡ get_or ms k 0
value_full ms k true = omega arith
value_full ms k false = omega arith

first_zero : (ms : List ℕ) (k t t' : ℕ) → first_of ms k 0 t ≡ first_of ms k 0 t'
unfolding first_of
first_zero ms zero t t' = refl
first_zero ms (suc k) t t' =
    rw (value_zero ms k (is_odd t), value_zero ms k (is_odd t')) (ap (λ (g : List ℕ). g ++ (0 ∷ [])) (first_zero ms k (t + 0) (t' + 0)))

first_full : (ms : List ℕ) (k t t' : ℕ) → first_of ms k (sum_to ms k) t ≡ first_of ms k (sum_to ms k) t'
unfolding first_of
first_full ms zero t t' = refl
first_full ms (suc k) t t' =
    let m : ℕ = get_or ms k 0 in
    let rest : sum_to ms k + m - m ≡ sum_to ms k = omega arith in
    rw (value_full ms k (is_odd t), value_full ms k (is_odd t'), rest) (ap (λ (g : List ℕ). g ++ (m ∷ [])) (first_full ms k (t + m) (t' + m)))

-- the first value v at rem and w at rem + 1: the same, or one more with the rest 0 or full
abbrev ValueStep : List ℕ → ℕ → ℕ → ℕ → ℕ → Type 0
ValueStep ms k rem v w =
    ((w ≡ v) × (v ≤ rem) × (suc (rem - v) ≤ sum_to ms k)) ⊎ ((w ≡ suc v) × ((rem - v ≡ 0) ⊎ (rem - v ≡ sum_to ms k)))

value_step : (ms : List ℕ) (k rem : ℕ) (odd : Bool) → suc rem ≤ sum_to ms (suc k)
    → ValueStep ms k rem (first_value (least ms k rem) (most ms k rem) odd) (first_value (least ms k (suc rem)) (most ms k (suc rem)) odd)
value_step ms k rem true h = go (dec_le (get_or ms k 0) rem)
  where
    go : Dec (get_or ms k 0 ≤ rem) → ValueStep ms k rem (most ms k rem) (most ms k (suc rem))
    go (yes l) = inl (omega arith)
    go (no l) = inr (omega arith, inl (omega arith))
value_step ms k rem false h = go (dec_le (sum_to ms k) rem)
  where
    go : Dec (sum_to ms k ≤ rem) → ValueStep ms k rem (least ms k rem) (least ms k (suc rem))
    go (yes l) = inr (omega arith, inr (omega arith))
    go (no l) = inl (omega arith)

module _ (ms : List ℕ) (k rem t : ℕ) where
  abbrev now : ℕ
  now = part_first ms k rem t

  abbrev then : ℕ
  then = part_first ms k (suc rem) t

  first_now : first_of ms (suc k) rem t ≡ first_of ms k (rem - now) (t + now) ++ (now ∷ [])
  unfolding first_of
  first_now = refl

  first_same : then ≡ now → now ≤ rem → first_of ms (suc k) (suc rem) t ≡ first_of ms k (suc (rem - now)) (t + now) ++ (now ∷ [])
  unfolding first_of
  first_same e l =
      let less : suc rem - now ≡ suc (rem - now) = omega arith in
      rw (e, less)

  first_more : then ≡ suc now → (rem - now ≡ 0) ⊎ (rem - now ≡ sum_to ms k)
      → first_of ms (suc k) (suc rem) t ≡ first_of ms k (rem - now) (t + now) ++ (suc now ∷ [])
  unfolding first_of
  first_more e rest = rw (e, suc-sub-suc) (ap (λ (g : List ℕ). g ++ (suc now ∷ [])) (go rest))
    where
      go : (rem - now ≡ 0) ⊎ (rem - now ≡ sum_to ms k) → first_of ms k (rem - now) (t + suc now) ≡ first_of ms k (rem - now) (t + now)
      go (inl z) = rw z (first_zero ms k (t + suc now) (t + now))
      go (inr f) = rw f (first_full ms k (t + suc now) (t + now))

  part_same : then ≡ now → raised_part ms (suc k) rem t ≡ raised_part ms k (rem - now) (t + now)
  unfolding raised_part
  part_same e = rw (eq-eqb now then (sym e), raised_part)

  part_more : then ≡ suc now → raised_part ms (suc k) rem t ≡ k
  unfolding raised_part
  part_more e = rw (ne_eqb now then (λ q. omega arith), raised_part)

-- the first composition of rem + 1 is that of rem with one more at `raised_part`
abbrev Raises : List ℕ → ℕ → ℕ → ℕ → Type 0
Raises ms k rem t = (raised_part ms k rem t < k) × Raised (first_of ms k rem t) (first_of ms k (suc rem) t) (raised_part ms k rem t)

raise : (ms : List ℕ) (k rem t : ℕ) → suc rem ≤ sum_to ms k → Raises ms k rem t
raise ms zero rem t h = absurd (not-suc-le-zero h)
raise ms (suc k) rem t h = go (λ ρ τ l. raise ms k ρ τ l) (value_step ms k rem (is_odd t) h)
  where
    go : ((ρ τ : ℕ) → suc ρ ≤ sum_to ms k → Raises ms k ρ τ) → ValueStep ms k rem (now ms k rem t) (then ms k rem t) → Raises ms (suc k) rem t
    go below (inl (e, l, f)) =
        let v : ℕ = now ms k rem t in
        let ρ : ℕ = rem - v in
        let τ : ℕ = t + v in
        let b = below ρ τ f in
        let size = length_first ms k ρ τ in
        let size' = length_first ms k (suc ρ) τ in
        rw (part_same ms k rem t e, first_now ms k rem t, first_same ms k rem t e l)
        (omega (arith, b.0), raised_front (first_of ms k ρ τ) (first_of ms k (suc ρ) τ) k v (raised_part ms k ρ τ) size size' b.0 b.1)
    go below (inr (e, rest)) =
        let v : ℕ = now ms k rem t in
        rw (part_more ms k rem t e, first_now ms k rem t, first_more ms k rem t e rest)
        (le_refl (suc k), raised_last (first_of ms k (rem - v) (t + v)) k v (length_first ms k (rem - v) (t + v)))

-- ---- one unit from one part to another

pub neighbours_sym : {g h : List ℕ} {a b : ℕ} → Neighbours g h a b → Neighbours h g b a
neighbours_sym n =
    record {
      apart = λ e. n.apart (sym e);
      gained = n.lost;
      lost = n.gained;
      others = λ i nb na. sym (n.others i na nb);
    }

-- from v to v + 1 at part i, the parts to its left being the first composition of ρ + 1 and then that of ρ: one of them has one fewer
trade : (ms : List ℕ) (i ρ τ v : ℕ) (d : List ℕ) → suc ρ ≤ sum_to ms i
    → (raised_part ms i ρ τ < i) × Neighbours (first_of ms i (suc ρ) τ ++ (v ∷ d)) (first_of ms i ρ τ ++ (suc v ∷ d)) i (raised_part ms i ρ τ)
trade ms i ρ τ v d fits =
    let g : List ℕ = first_of ms i (suc ρ) τ in
    let h : List ℕ = first_of ms i ρ τ in
    let eg : length g ≡ i = length_first ms i (suc ρ) τ in
    let eh : length h ≡ i = length_first ms i ρ τ in
    let q : ℕ = raised_part ms i ρ τ in
    let up : Raises ms i ρ τ = raise ms i ρ τ fits in (
      up.0,
      record {
        apart = λ e. omega (arith, up.0);
        gained = rw (get_or_at g v d 0 i eg, get_or_at h (suc v) d 0 i eh);
        lost = rw (left_cell g (v ∷ d) i q eg up.0, left_cell h (suc v ∷ d) i q eh up.0) up.1.at;
        others = λ j ni nq. same_cell h g d (suc v) v j (eh ∙ sym eg) (λ l. sym (up.1.others j nq)) (λ e. absurd (ni (e ∙ eh)));
      },
    )

-- of numbers alone: beside the bounds `omega` has too many cases
room : (held rem v : ℕ) → rem - held ≤ v → v < rem → suc (rem - suc v) ≤ held
room held rem v low l = omega arith

one_less : (rem v : ℕ) → v < rem → rem - v ≡ suc (rem - suc v)
one_less rem v l = omega arith

max_more : (v : ℕ) → max (v + 1) v ≡ suc v
max_more v = omega arith

max_less : (v : ℕ) → max (suc v - 1) (suc v) ≡ suc v
max_less v = omega arith

-- the last composition with part i at v, and the first with part i at u: one unit goes from part q to part i, or back where the values fall
abbrev Moved : List ℕ → ℕ → ℕ → ℕ → ℕ → List ℕ → Bool → ℕ → ℕ → Type 0
Moved ms i rem t v d odd u q =
    (q < i)
    × Neighbours (first_of ms i (rem - v) (suc (t + v)) ++ (v ∷ d)) (first_of ms i (rem - u) (t + u) ++ (u ∷ d)) (cond odd q i) (cond odd i q)

moved : (ms : List ℕ) (i rem t v : ℕ) (d : List ℕ) (odd : Bool) → least ms i rem ≤ v → v ≤ most ms i rem
    → (v ≡ last_value (least ms i rem) (most ms i rem) odd → ⊥)
    → Moved ms i rem t v d odd (next_value odd v) (raised_part ms i (rem - max (next_value odd v) v) (t + next_value odd v))
moved ms i rem t v d false low high ne =
    let next : suc v ≤ most ms i rem = rw add-one at (next_high (least ms i rem) (most ms i rem) false v high ne) in
    let above : v < rem = le_trans next (min-le_right (get_or ms i 0) rem) in
    rw (max_more, add-one, ← (add-suc t v), one_less rem v above) (trade ms i (rem - suc v) (t + suc v) v d (room (sum_to ms i) rem v low above))
moved ms i rem t zero d true low high ne = absurd (ne (omega (arith, low)))
moved ms i rem t (suc u) d true low high ne =
    let above : u < rem = le_trans high (min-le_right (get_or ms i 0) rem) in
    let low' : least ms i rem ≤ u = rw sub-one at (next_low (least ms i rem) (most ms i rem) true (suc u) low ne) in
    let back = trade ms i (rem - suc u) (t + u) u d (room (sum_to ms i) rem u low' above) in
    rw (max_less, sub-one, add-suc t u, first_period ms i (rem - suc u) (t + u), one_less rem u above) (back.0, neighbours_sym back.1)

-- a step takes one unit from one part to another
pub step_neighbours : (ms : List ℕ) (r : ℕ) (g : List ℕ) (i : ℕ) → i < length g
    → CompositionTo ms (suc i) (sum_to g (suc i)) g → sum_to g (suc i) ≤ r → Pivot ms r g i
    → (other_part ms r g i < i) × Neighbours g (step_at ms r g i) (gain_part ms r g i) (loss_part ms r g i)
unfolding step_at other_part gain_part loss_part
step_neighbours ms r g i h c le pivot =
    let rem : ℕ = sum_to g (suc i) in
    let t : ℕ = r - rem in
    let v : ℕ = get_or g i 0 in
    let low : least ms i rem ≤ v = composition_low c in
    let s : ℕ = rank_of ms i (rem - v) (t + v) g in
    let full : suc s ≡ length (inner ms i rem t v) = step_last ms i (rem - v) (t + v) r g (omega arith) (composition_prefix c) pivot.done in
    let prefix : take i g ≡ first_of ms i (rem - v) (suc (t + v)) =
    sym (rank_at ms i (rem - v) (t + v) g (composition_prefix c) (omega arith))
    ∙ last_at ms i (rem - v) (t + v) s (rest_fits ms i rem v low) full in
    let whole : g ≡ first_of ms i (rem - v) (suc (t + v)) ++ (v ∷ drop (suc i) g) =
    split_at g i 0 h ∙ ap (λ (q : List ℕ). q ++ (v ∷ drop (suc i) g)) prefix in
    let both = moved ms i rem t v (drop (suc i) g) (is_odd t) low (composition_high c) pivot.moves in
    (both.0, subst (λ (x : List ℕ). Neighbours x (step_at ms r g i) (gain_part ms r g i) (loss_part ms r g i)) (sym whole) both.1)

-- the part that has more is the one that gains, and the part that has fewer the one that loses
pub gain_is : {g h : List ℕ} {a b : ℕ} → Neighbours g h a b → (i : ℕ) → get_or g i 0 < get_or h i 0 → i ≡ a
gain_is {g} {h} {a} {b} n i more = go (ℕ_discrete i a) (ℕ_discrete i b)
  where
    go : Dec (i ≡ a) → Dec (i ≡ b) → i ≡ a
    go (yes e) d = e
    go (no na) (yes e) =
        let fewer : get_or g i 0 ≡ suc (get_or h i 0) = rw e n.lost in
        absurd (omega arith)
    go (no na) (no nb) =
        let same : get_or h i 0 ≡ get_or g i 0 = n.others i na nb in
        absurd (omega arith)

pub loss_is : {g h : List ℕ} {a b : ℕ} → Neighbours g h a b → (i : ℕ) → get_or h i 0 < get_or g i 0 → i ≡ b
loss_is n i fewer = gain_is (neighbours_sym n) i fewer

cond_lt : (b : Bool) (x y n : ℕ) → x < n → y < n → cond b x y < n
cond_lt true x y n hx hy = hx
cond_lt false x y n hx hy = hy

-- a composition with a pivot, and the composition that a step makes of it
pub composition_neighbours : (ms : List ℕ) (r : ℕ) (g : List ℕ) → Composition ms r g → (i : ℕ) → i < length ms → Pivot ms r g i
    → (gain_part ms r g i < length ms) × (loss_part ms r g i < length ms) × Neighbours g (step_at ms r g i) (gain_part ms r g i) (loss_part ms r g i)
unfolding gain_part loss_part
composition_neighbours ms r g valid i h pivot =
    let step = step_neighbours ms r g i (omega (arith, valid.size)) (composition_to valid (suc i) h) (composition_within valid (suc i) h) pivot in
    let near : other_part ms r g i < length ms = omega (arith, step.0) in
    let odd : Bool = is_odd (r - sum_to g (suc i)) in
    (cond_lt odd (other_part ms r g i) i (length ms) near h, cond_lt odd i (other_part ms r g i) (length ms) h near, step.1)

-- neighbours in the order
pub gray : (ms : List ℕ) (r s : ℕ) → suc s < length (order ms r) → Adjacent (length ms) (get_or (order ms r) s []) (get_or (order ms r) (suc s) [])
gray ms r s h = go (find_pivot ms r g (length ms))
  where
    g : List ℕ
    g = get_or (order ms r) s []

    valid : Composition ms r g
    valid = entry_composition ms r s (omega arith)

    at : rank_of ms (length ms) r 0 g ≡ s
    at = entry_rank ms r s (omega arith)

    go : LastOrPivot ms r g (length ms) → Adjacent (length ms) g (get_or (order ms r) (suc s) [])
    go (inl done) = absurd (omega (arith, succ_last ms r g valid done, at))
    go (inr (i, l, pivot)) =
        let m = composition_neighbours ms r g valid i l pivot in
        let e : get_or (order ms r) (suc s) [] ≡ step_at ms r g i =
        ap (λ (p : ℕ). get_or (order ms r) (suc p) []) (sym at) ∙ (succ_at ms r g valid i l pivot).1 in
        subst (Adjacent (length ms) g) (sym e) (gain_part ms r g i, loss_part ms r g i, m.0, m.1, m.2)
