-- What changes from part i on, noted from the last part to the first.
use mathlib.Core.Path.{◌≡◌, refl, sym, ◌∙◌}
use mathlib.Core.Bool.{Bool, true, false}
use mathlib.Core.List.{List}
use Prim.Native.Nat.{ℕ, zero, suc, ◌+◌, ◌-◌, ◌≤◌, ◌<◌}
use native.Mathlib.Nat.{add-zero}
use native.Mathlib.Omega.{arith}
use lib.ListN.{length, get_or, set, drop, length-set}
use lib.Seq.{get_or-set_same, get_or-set_other, drop-set-lt}
use borrow.Author.Tests.{eq-eqb, ne_eqb}
use Rattle.walsh.specs.Transition.{gain_from, transition, none}
use Rattle.walsh.specs.declared.Transition.{Transition}
use Rattle.walsh.proofs.Transitions.{gain_same, gain_next}
use Rattle.bounds.specs.Edition.{cells_of, blank}
use Rattle.step.specs.Turn.{noting, moved_by, shifted_by}

-- what changes from part i on, between g and h
abbrev transition_from : ℕ → List ℕ → List ℕ → Transition
transition_from i g h = record { gain = gain_from (i + 1) (drop i g) (drop i h); loss = gain_from (i + 1) (drop i h) (drop i g) }

-- h differs from g from part i on alone, and x is what changes there
pub record Noted (g h : List ℕ) (i : ℕ) (x : Transition) : Type 0 where
  pub size : length h ≡ length g
  pub front : (j : ℕ) → j < i → get_or h j 0 ≡ get_or g j 0
  pub is : x ≡ transition_from i g h

-- nothing has changed
noted_none : (g : List ℕ) (i : ℕ) → Noted g g i none
noted_none g i =
    record { size = refl; front = λ j l. refl; is = rw (gain_same (i + 1) (drop i g)) }

-- part i gets the value v
noted_next : {g h : List ℕ} {x : Transition} (i v : ℕ) → i < length h → Noted g h (i + 1) x
    → Noted g (set h i v) i (noting x (i + 1) (get_or h i 0) v)
noted_next {g} {h} {x} i v l n =
    let inside : i < length g = omega (arith, n.size) in
    let stored : i < length (set h i v) = rw (length-set h i v) l in
    let rest : drop (i + 1) (set h i v) ≡ drop (i + 1) h = drop-set-lt (i + 1) h i v (omega arith) in
    record {
      size = length-set h i v ∙ n.size;
      front = λ j b. get_or-set_other h i j v 0 (λ e. omega arith) ∙ n.front j (omega arith);
      is =
          sym (rw (gain_next g (set h i v) i inside stored, gain_next (set h i v) g i stored inside, get_or-set_same h i v 0 l, rest, ← (n.front i (omega arith)))
          (rw n.is));
    }

-- part i stays
noted_skip : {g h : List ℕ} {x : Transition} (i : ℕ) → i < length h → Noted g h (i + 1) x → Noted g h i x
noted_skip {g} {h} {x} i l n =
    let inside : i < length g = omega (arith, n.size) in
    let stays : get_or h i 0 ≡ get_or g i 0 = n.front i (omega arith) in
    record {
      size = n.size;
      front = λ j b. n.front j (omega arith);
      is =
          n.is
          ∙ sym (rw (gain_next g h i inside l, gain_next h g i l inside, stays, ne_eqb (get_or g i 0) (get_or g i 0 + 1) (λ e. omega arith)));
    }

-- so do d parts from part j on
noted_down : {g h : List ℕ} {x : Transition} (j d : ℕ) → j + d ≤ length h → Noted g h (j + d) x → Noted g h j x
noted_down {g} {h} {x} j zero l n = rw (add-zero j) at n
noted_down {g} {h} {x} j (suc d) l n =
    let next : j + suc d ≡ j + d + 1 = omega arith in
    noted_down j d (omega arith) (noted_skip (j + d) (omega arith) (rw next at n))

noted_to : {g h : List ℕ} {x : Transition} (i j : ℕ) → j ≤ i → i ≤ length h → Noted g h i x → Noted g h j x
noted_to i j b l n =
    let whole : j + (i - j) ≡ i = omega arith in
    noted_down j (i - j) (omega arith) (rw whole n)

-- part i moves to u, and then a part before it, counted from 1, gets the value v
module _ (g : List ℕ) (i u part v : ℕ) (falling : Bool) (inside : i < length g) (before : (0 < part) × (part ≤ i))
    (way : (falling ≡ true → get_or g i 0 ≡ u + 1) × (falling ≡ false → u ≡ get_or g i 0 + 1)) where
  first : moved_by falling i ≡ noting none (i + 1) (get_or g i 0) u
  first = go falling way
    where
      go : (b : Bool) → (b ≡ true → get_or g i 0 ≡ u + 1) × (b ≡ false → u ≡ get_or g i 0 + 1)
          → moved_by b i ≡ noting none (i + 1) (get_or g i 0) u
      go true w =
          let down = w.0 refl in
          rw (eq-eqb (get_or g i 0) (u + 1) down, ne_eqb u (get_or g i 0 + 1) (λ e. omega arith))
      go false w =
          let up = w.1 refl in
          rw (eq-eqb u (get_or g i 0 + 1) up, ne_eqb (get_or g i 0) (u + 1) (λ e. omega arith))

  pub traded : noting (moved_by falling i) part (get_or (set g i u) (part - 1) 0) v ≡ transition g (set (set g i u) (part - 1) v)
  traded =
      let size = length-set g i u in
      let back : part - 1 + 1 ≡ part = omega arith in
      let moved : Noted g (set g i u) i (moved_by falling i) = rw first (noted_next i u inside (noted_none g (i + 1))) in
      let there : Noted g (set g i u) (part - 1 + 1) (moved_by falling i) = rw back (noted_to i part before.1 (omega (arith, size)) moved) in
      let both = rw back at (noted_next (part - 1) v (omega (arith, size)) there) in
      (noted_to (part - 1) 0 (omega arith) (omega (arith, size, length-set (set g i u) (part - 1) v)) both).is

-- ---- the answer of a step over a copy

module _ (g h : List ℕ) where
  pub shifted_still : {x : Transition} → x ≡ transition g h → x.gain ≡ 0
      → record { number = 9; detail = 0; composition = blank; gain = 0; loss = 0 } ≡ shifted_by g h
  shifted_still e z = rw (eq-eqb (gain_from 1 g h) 0 (rw e at z))

  pub shifted_moved : {x : Transition} → x ≡ transition g h → (x.gain ≡ 0 → ⊥)
      → record { number = 0; detail = 0; composition = cells_of h; gain = x.gain; loss = x.loss } ≡ shifted_by g h
  shifted_moved e some = rw (e, ne_eqb (gain_from 1 g h) 0 (rw e at some))
