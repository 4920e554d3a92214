-- Of a composition, the change of two parts is the step to the next: of the parts before the one that moves all but one have their first values.
use mathlib.Core.Path.{◌≡◌, refl, sym, ap, ◌∙◌}
use mathlib.Core.Bool.{Bool, true, false, cond}
use mathlib.Core.List.{List, ◌∷◌, ◌++◌}
use Prim.Native.Nat.{ℕ, zero, suc, ◌+◌, ◌-◌, ◌≤◌, ◌<◌}
use native.Mathlib.Decide.{ℕ_discrete}
use native.Mathlib.Omega.{arith}
use lib.Dec.{eqb}
use lib.ListN.{length, get_or, set, drop, length-set, length-append, length-drop}
use lib.Seq.{drop-cons, append_snoc, get_or_at, get_or-set_same, get_or-set_other, ext_get_or}
use borrow.Author.Tests.{eqb-true, eqb-false}
use Rattle.walsh.specs.Sums.{sum_to}
use Rattle.walsh.specs.Order.{CompositionTo, is_odd, least, most}
use Rattle.walsh.specs.Neighbours.{Neighbours}
use Rattle.walsh.specs.Step.{part_first, first_of, Pivot, step_at, other_part, gain_part, loss_part}
use Rattle.walsh.proofs.Cases.{on_test}
use Rattle.walsh.proofs.Ends.{length_first}
use Rattle.walsh.proofs.Gray.{step_neighbours}
use Rattle.step.specs.Advance.{next_at, rest_at, other_of, trade_at}
use Rattle.step.proofs.Others.{drop_set, first_small, leftover_part}

-- two lists that differ at part k at most
set_one : (g h : List ℕ) (k : ℕ) → k < length g → length g ≡ length h → ((i : ℕ) → (i ≡ k → ⊥) → get_or h i 0 ≡ get_or g i 0)
    → set g k (get_or h k 0) ≡ h
set_one g h k l size same = ext_get_or 0 (set g k (get_or h k 0)) h (length-set g k (get_or h k 0) ∙ size) (λ i b. at i (ℕ_discrete i k))
  where
    at : (i : ℕ) → Dec (i ≡ k) → get_or (set g k (get_or h k 0)) i 0 ≡ get_or h i 0
    at i (yes e) = rw e (get_or-set_same g k (get_or h k 0) 0 l)
    at i (no ne) = get_or-set_other g k i (get_or h k 0) 0 ne ∙ sym (same i ne)

module _ (ms : List ℕ) where
  -- g and the first composition of the parts up to k, with d behind it, differ at one part j at most
  settles : (k rem t : ℕ) (g d : List ℕ) (j : ℕ) → k < length g → drop (suc k) g ≡ d → rem ≤ sum_to ms (suc k)
      → ((i : ℕ) → (i ≡ j → ⊥) → get_or (first_of ms (suc k) rem t ++ d) i 0 ≡ get_or g i 0)
      → set g ((other_of ms g k rem t).part - 1) (other_of ms g k rem t).value ≡ first_of ms (suc k) rem t ++ d
  unfolding other_of first_of
  settles zero rem t g d j l e fits same = leftover_part ms g 1 rem t refl l fits ∙ rw e
  settles (suc k) rem t g d j l e fits same =
      on_test (eqb v (get_or g (suc k) 0))
      (λ q. rw q (settles k (rem - v) (t + v) g (v ∷ d) j (omega arith) (behind (eqb-true v (get_or g (suc k) 0) q)) left (λ i n. rw (← split) (same i n)) ∙ sym split))
      (λ q. rw q (here (eqb-false v (get_or g (suc k) 0) q)))
    where
      v : ℕ
      v = part_first ms (suc k) rem t

      h : List ℕ
      h = first_of ms (suc (suc k)) rem t ++ d

      split : h ≡ first_of ms (suc k) (rem - v) (t + v) ++ (v ∷ d)
      split = append_snoc (first_of ms (suc k) (rem - v) (t + v)) v d

      value : get_or h (suc k) 0 ≡ v
      value = rw split (get_or_at (first_of ms (suc k) (rem - v) (t + v)) v d 0 (suc k) (length_first ms (suc k) (rem - v) (t + v)))

      size : length g ≡ length h
      size =
          omega (
            arith,
            length-append (first_of ms (suc (suc k)) rem t) d,
            length_first ms (suc (suc k)) rem t,
            ap length (sym e),
            length-drop (suc (suc k)) g,
          )

      left : rem - v ≤ sum_to ms (suc k)
      left =
          let under : ℕ = sum_to ms (suc (suc k)) in
          let m : ℕ = get_or ms (suc k) 0 in
          let lo : ℕ = least ms (suc k) rem in
          omega (arith, (first_small under m rem lo (most ms (suc k) rem) v (is_odd t) (omega arith) fits (omega arith) refl refl).fits)

      behind : v ≡ get_or g (suc k) 0 → drop (suc k) g ≡ v ∷ d
      behind q = drop-cons g (suc k) 0 l ∙ rw (← q, e)

      here : (v ≡ get_or g (suc k) 0 → ⊥) → set g (suc (suc k) - 1) v ≡ h
      here ne =
          let at : suc (suc k) - 1 ≡ suc k = omega arith in
          rw at (rw value at (set_one g h (suc k) l size (λ i n. same i (λ q. n (q ∙ only (ℕ_discrete (suc k) j))))))
        where
          only : Dec (suc k ≡ j) → j ≡ suc k
          only (yes q) = sym q
          only (no q) = absurd (ne (sym value ∙ same (suc k) q))

-- neither of two parts is either of them in the other order
neither : (b : Bool) (x i j : ℕ) → (x ≡ i → ⊥) → (x ≡ j → ⊥) → (x ≡ cond b j i → ⊥) × (x ≡ cond b i j → ⊥)
neither true x i j ni nj = (nj, ni)
neither false x i j ni nj = (ni, nj)

-- forward with the total, backward with one more
module _ (ms : List ℕ) (w : ℕ) (g : List ℕ) (k : ℕ) (l : suc k < length g) (c : CompositionTo ms (suc (suc k)) (sum_to g (suc (suc k))) g)
    (reached : sum_to g (suc (suc k)) ≤ w) (pivot : Pivot ms w g (suc k)) where
  abbrev i : ℕ
  i = suc k

  abbrev u : ℕ
  u = next_at w g i

  -- the step changes part i and one other
  same : (x : ℕ) → (x ≡ other_part ms w g i → ⊥) → get_or (step_at ms w g i) x 0 ≡ get_or (set g i u) x 0
  unfolding step_at gain_part loss_part
  same x nj = go (ℕ_discrete x i)
    where
      near : Neighbours g (step_at ms w g i) (gain_part ms w g i) (loss_part ms w g i)
      near = (step_neighbours ms w g i l c reached pivot).1

      go : Dec (x ≡ i) → get_or (step_at ms w g i) x 0 ≡ get_or (set g i u) x 0
      go (yes e) =
          let front : List ℕ = first_of ms i (rest_at w g i) (w - sum_to g (suc i) + u) in
          rw e
          (get_or_at front u (drop (suc i) g) 0 i (length_first ms i (rest_at w g i) (w - sum_to g (suc i) + u))
          ∙ sym (get_or-set_same g i u 0 l))
      go (no ni) =
          let (a, b) = neither (is_odd (w - sum_to g (suc i))) x i (other_part ms w g i) ni nj in
          near.others x a b ∙ sym (get_or-set_other g i x u 0 ni)

  trade_step : rest_at w g (suc k) ≤ sum_to ms (suc k) → trade_at ms w g (suc k) ≡ step_at ms w g (suc k)
  unfolding step_at
  trade_step fits =
      let back : suc k - 1 ≡ k = omega arith in
      let inside : k < length (set g i u) = rw (length-set g i u) (omega arith) in
      rw back
      (settles ms k (rest_at w g i) (w - sum_to g (suc i) + u) (set g i u) (u ∷ drop (suc i) g) (other_part ms w g i) inside
      (drop_set g i u l) fits same)

pub trade_is : (ms : List ℕ) (w : ℕ) (g : List ℕ) (i : ℕ) → 0 < i → i < length g → CompositionTo ms (suc i) (sum_to g (suc i)) g → sum_to g (suc i) ≤ w
    → Pivot ms w g i → rest_at w g i ≤ sum_to ms i
    → trade_at ms w g i ≡ step_at ms w g i
trade_is ms w g zero some l c reached pivot fits = absurd (omega arith)
trade_is ms w g (suc k) some l c reached pivot fits = trade_step ms w g k l c reached pivot fits
