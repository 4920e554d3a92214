-- What a turn of the loop does that fills a permutation: one sheet is drawn, from row k down.
use mathlib.Core.Path.{◌≡◌, sym, ap, ◌∙◌}
use mathlib.Core.List.{List, [], ◌∷◌, ◌++◌, append-nil}
use Prim.Native.Nat.{ℕ, suc, ◌+◌, ◌-◌, ◌≤◌, ◌<◌}
use native.Mathlib.Nat.{le_refl}
use native.Mathlib.Omega.{arith}
use lib.ListN.{length, get_or, drop, set, length-set, length-drop}
use lib.Seq.{drop-cons, drop-length, drop-set-lt, get_or-set_same, append_snoc, set_split}
use Rattle.permutation.proofs.Vectors.{at_under}
use Rattle.major.specs.declared.left.Left.{Left}
use Rattle.major.specs.Major.{up_to, major_permutation}
use Rattle.major.specs.Circle.{erase, steps_down, places_from, drawn}
use Rattle.major.specs.Left.{Holds}
use Rattle.major.proofs.Circle.{behind_le, Ready, row_lt, row_next}
use Rattle.major.proofs.Start.{up_to_ready}
use Rattle.major.proofs.Turning.{major_drawn}

-- The places from i on are filled, and the sheets l are left for the rows from i down; the sheet behind them is x, which would stand at `place`.
pub record Drawing (g : List ℕ) (left : Left) (place i : ℕ) (out : List ℕ) : Type 0 where
  pub l : List ℕ
  pub x : ℕ
  pub some : 1 ≤ i
  pub row : i ≤ length out
  pub size : length out ≡ length g + 1
  pub holds : Holds left l
  pub ready : Ready x place l (drop (length out - i) g)
  pub is : major_permutation g ≡ drawn l (places_from place (drop (length out - i) g)) ++ drop i out

module _ (g : List ℕ) where
  pub drawing_start : (left : Left) (out : List ℕ) → length out ≡ length g + 1 → ((i : ℕ) → i < length g → get_or g i 0 ≤ length g - i)
      → Holds left (up_to (length out))
      → Drawing g left 0 (length out) out
  drawing_start left out size fits holds =
      let u = at_under g fits in
      let none : length out - length out ≡ 0 = omega arith in
      let k : length out ≡ suc (length g) = omega arith in
      record {
        l = up_to (length out);
        x = 0;
        some = omega arith;
        row = le_refl (length out);
        size = size;
        holds = holds;
        ready = rw (none, k) (up_to_ready g u);
        is = rw (none, drop-length out) (major_drawn g u ∙ rw k (sym (append-nil (drawn (up_to (suc (length g))) (places_from 0 g)))));
      }

  module _ {left : Left} {place i : ℕ} {out : List ℕ} (d : Drawing g left place i out) where
    pub drawing_within : place ≤ i
    drawing_within = omega (arith, behind_le d.ready.behind, d.ready.size, length-drop (length out - i) g, d.size, d.row, d.some)

    -- one place is left
    pub drawing_end : i ≤ 1 → (y : ℕ) → ((l : List ℕ) → Holds left l → 0 < length l → y ≡ get_or l 0 0) → set out 0 y ≡ major_permutation g
    drawing_end few y at =
        let one : i ≡ 1 = omega (arith, d.some) in
        let all : length out - i ≡ length g = omega (arith, d.size) in
        let none : drop (length out - i) g ≡ [] = ap (λ (j : ℕ). drop j g) all ∙ drop-length g in
        go d.l (d.ready.size ∙ ap (λ (m : List ℕ). suc (length m)) none) (at d.l d.holds) (rw (none, one) at d.is)
      where
        go : (l : List ℕ) → length l ≡ 1 → (0 < length l → y ≡ get_or l 0 0) → major_permutation g ≡ l ++ drop 1 out → set out 0 y ≡ major_permutation g
        go [] h is e = absurd (omega arith)
        go (z ∷ w ∷ l) h is e = absurd (omega arith)
        go (z ∷ []) h is e =
            set_split out 0 y (omega (arith, d.size)) ∙ ap (λ (v : ℕ). v ∷ drop 1 out) (is (omega arith)) ∙ sym e

    -- more than one
    module _ (more : 1 < i) (t : ℕ) (et : t ≡ get_or g (length out - i) 0) where
      abbrev j : ℕ
      j = length out - i

      abbrev behind : List ℕ
      behind = drop (suc j) g

      front : drop j g ≡ t ∷ behind
      front = drop-cons g j 0 (omega (arith, d.size, d.row)) ∙ rw (← et)

      row_is : suc (suc (length behind)) ≡ i
      row_is = omega (arith, length-drop (suc j) g, d.size, d.row)

      now_ready : Ready d.x place d.l (t ∷ behind)
      now_ready = rw front at d.ready

      pub drawing_turn_lt : t < i
      drawing_turn_lt = omega (arith, now_ready.under.0, row_is)

      module _ (r : ℕ) (er : r ≡ steps_down i place t) where
        here : steps_down (suc (suc (length behind))) place t ≡ r
        here = rw row_is (sym er)

        pub drawing_inside : r < length d.l
        drawing_inside = rw here at (row_lt now_ready)

        pub drawing_turn : (new : Left) (y : ℕ) → ((l : List ℕ) → Holds left l → r < length l → y ≡ get_or l r 0)
            → ((l : List ℕ) → Holds left l → r < length l → Holds new (erase r l))
            → Drawing g new r (i - 1) (set out (i - 1) y)
        drawing_turn new y at without =
            let long : length (set out (i - 1) y) ≡ length out = length-set out (i - 1) y in
            let next : length (set out (i - 1) y) - (i - 1) ≡ suc j = omega (arith, d.row) in
            let place_lt : i - 1 < length (set out (i - 1) y) = omega (arith, d.row) in
            let again : suc (i - 1) ≡ i = omega arith in
            let last : drop (i - 1) (set out (i - 1) y) ≡ y ∷ drop i out =
            drop-cons (set out (i - 1) y) (i - 1) 0 place_lt
            ∙ rw (get_or-set_same out (i - 1) y 0 (omega (arith, d.row)), drop-set-lt (suc (i - 1)) out (i - 1) y (omega arith), again) in
            record {
              l = erase r d.l;
              x = get_or d.l r 0;
              some = omega arith;
              row = omega (arith, d.row);
              size = long ∙ d.size;
              holds = without d.l d.holds drawing_inside;
              ready = rw next (rw here at (row_next now_ready));
              is =
                  rw (next, last)
                  ((rw (front, here) at d.is)
                  ∙ append_snoc (drawn (erase r d.l) (places_from r behind)) (get_or d.l r 0) (drop i out)
                  ∙ ap (λ (v : ℕ). drawn (erase r d.l) (places_from r behind) ++ (v ∷ drop i out)) (sym (at d.l d.holds drawing_inside)));
            }
