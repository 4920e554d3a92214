-- The first two parts that are left. Before them and between them every bound is 0, and so is every part: nothing there can move, and what the
-- second of the two gains or loses is the first's.
use mathlib.Core.Path.{◌≡◌, refl, sym, ap, ◌∙◌}
use mathlib.Core.Logic.{◌⊎◌, inl, inr}
use mathlib.Core.Bool.{Bool, true, false, cond}
use mathlib.Core.List.{List}
use Prim.Native.Nat.{ℕ, zero, suc, ◌+◌, ◌-◌, ◌≤◌, ◌<◌}
use native.Mathlib.Nat.{eq-or-lt_of_le, add-zero, sub-zero}
use native.Mathlib.Decide.{ℕ_discrete}
use native.Mathlib.Numerals.{add-one}
use native.Mathlib.Omega.{arith}
use lib.Dec.{ltb}
use lib.ListN.{length, get_or}
use borrow.Author.Tests.{le-ltb, eq-eqb, ne_eqb}
use Rattle.walsh.specs.Sums.{sum_to}
use Rattle.walsh.specs.Order.{is_odd, least, most}
use Rattle.walsh.specs.Step.{first_value, part_first}
use Rattle.walsh.proofs.Cases.{on_less}
use Rattle.walsh.proofs.Lists.{sum_to_mono}
use Rattle.step.specs.Advance.{can_move, moving_from, pivot_of, other_of}
use Rattle.step.specs.Run.{NextLeft, InFront}
use Rattle.step.proofs.Pivots.{moving_on, moving_stop}

-- the two, found one after the other
pub found_front : (ms : List ℕ) (i j : ℕ) → NextLeft ms 0 i → NextLeft ms (i + 1) j → j < length ms → InFront ms (record { low = i; high = j })
found_front ms i j a b l =
    record {
      apart = omega (arith, b.from);
      inside = l;
      before = a.passed;
      between = b.passed ∙ rw (add-one i) (omega (arith, a.passed));
    }

-- a value that is neither above lo nor below hi
unmoved : (falling : Bool) (lo hi v : ℕ) → v ≤ lo → hi ≤ v → cond falling (ltb lo v) (ltb v hi) ≡ false
unmoved true lo hi v l h = le-ltb lo v l
unmoved false lo hi v l h = le-ltb v hi h

-- ---- the first k parts, of which only part `low` may have a bound other than 0

module _ (ms : List ℕ) (low k : ℕ) (before : sum_to ms low ≡ 0) (between : sum_to ms k ≤ sum_to ms (suc low)) where
  bound_none : (i : ℕ) → i < k → (i ≡ low → ⊥) → get_or ms i 0 ≡ 0
  bound_none i l ne =
      on_less i low
      (λ a _. omega (arith, sum_to_mono ms (suc i) low a, before))
      (λ a _. omega (arith, sum_to_mono ms (suc low) i (omega arith), sum_to_mono ms (suc i) k l, between))

  module _ (g : List ℕ) (fits : (i : ℕ) → i < k → get_or g i 0 ≤ get_or ms i 0) where
    pub part_none : (i : ℕ) → i < k → (i ≡ low → ⊥) → get_or g i 0 ≡ 0
    part_none i l ne = omega (arith, fits i l, bound_none i l ne)

    sum_before : (i : ℕ) → i ≤ low → i ≤ k → sum_to g i ≡ 0
    sum_before zero l h = refl
    sum_before (suc i) l h = omega (arith, sum_before i (omega arith) (omega arith), part_none i h (λ e. omega arith))

    pub sum_after : (i : ℕ) → low < i → i ≤ k → sum_to g i ≡ get_or g low 0
    sum_after zero l h = absurd (omega arith)
    sum_after (suc i) l h = go (ℕ_discrete i low) (λ a. sum_after i a (omega arith))
      where
        go : Dec (i ≡ low) → (low < i → sum_to g i ≡ get_or g low 0) → sum_to g (suc i) ≡ get_or g low 0
        go (yes e) below = rw e (omega (arith, sum_before low (omega arith) (omega arith)))
        go (no ne) below = omega (arith, below (omega arith), part_none i h ne)

    -- none of them can move
    pub front_stays : (w i : ℕ) → i < k → can_move ms w g i ≡ false
    front_stays w i l = go (ℕ_discrete i low)
      where
        rem : ℕ
        rem = sum_to g (suc i)

        go : Dec (i ≡ low) → can_move ms w g i ≡ false
        go (yes e) =
            let none : sum_to ms i ≡ 0 = rw e before in
            unmoved (is_odd (w - rem)) (least ms i rem) (most ms i rem) (get_or g i 0) (omega arith)
            (omega (arith, sum_before i (omega arith) (omega arith)))
        go (no ne) =
            unmoved (is_odd (w - rem)) (least ms i rem) (most ms i rem) (get_or g i 0)
            (omega (arith, part_none i l ne)) (omega (arith, bound_none i l ne))

-- ---- the search for the part that moves passes the parts that cannot

module _ (ms : List ℕ) (w : ℕ) (g : List ℕ) where
  pub passed_to : (k : ℕ) → k < length ms → ((i : ℕ) → i < suc k → can_move ms w g i ≡ false)
      → moving_from ms w g (k + 1) (length ms - (k + 1)) ≡ pivot_of ms w g
  passed_to zero l stays = refl
  passed_to (suc k) l stays =
      moving_on ms w g (suc k) l (stays (suc k) (omega arith))
      ∙ rw (add-one k) at (passed_to k (omega arith) (λ i h. stays i (omega arith)))

  -- and ends at the first that can
  pub stops_at : (k : ℕ) → 0 < k → k < length ms → ((i : ℕ) → i < k → can_move ms w g i ≡ false) → can_move ms w g k ≡ true → pivot_of ms w g ≡ k
  stops_at zero some l stays can = absurd (omega arith)
  stops_at (suc k) some l stays can =
      let there = rw (add-one k) at (passed_to k (omega arith) (λ i h. stays i (omega arith))) in
      sym there ∙ sym (moving_stop ms w g (suc k) l can)

-- ---- the search for the part that changes against it ends at part `low`

module _ (ms g : List ℕ) (low : ℕ) (before : sum_to ms low ≡ 0) where
  pub other_left : (k rem t : ℕ) → low ≤ k → sum_to ms (suc k) ≤ sum_to ms (suc low) → rem ≤ get_or ms low 0 → (rem ≡ get_or g low 0 → ⊥)
      → ((i : ℕ) → low < i → i ≤ k → get_or g i 0 ≡ 0)
      → other_of ms g k rem t ≡ record { part = suc low; value = rem }
  unfolding other_of
  other_left zero rem t l between fits ne none = let e : 1 ≡ suc low = omega arith in ap (λ (k : ℕ). record { part = k; value = rem }) e
  other_left (suc k) rem t l between fits ne none =
      go (eq-or-lt_of_le l) (λ a b. other_left k rem t a b fits ne (λ i c h. none i c (omega arith)))
    where
      value : (b : Bool) (lo hi v : ℕ) → lo ≡ v → hi ≡ v → first_value lo hi b ≡ v
      value true lo hi v el eh = eh
      value false lo hi v el eh = el

      go : (low ≡ suc k) ⊎ (low < suc k)
          → (low ≤ k → sum_to ms (suc k) ≤ sum_to ms (suc low) → other_of ms g k rem t ≡ record { part = suc low; value = rem })
          → other_of ms g (suc k) rem t ≡ record { part = suc low; value = rem }
      go (inl e) below =
          let m : get_or ms (suc k) 0 ≡ get_or ms low 0 = ap (λ (i : ℕ). get_or ms i 0) (sym e) in
          let under : sum_to ms (suc k) ≡ 0 = ap (sum_to ms) (sym e) ∙ before in
          let v : part_first ms (suc k) rem t ≡ rem = value (is_odd t) (least ms (suc k) rem) (most ms (suc k) rem) rem (omega arith) (omega arith) in
          rw (v, ne_eqb rem (get_or g (suc k) 0) (λ q. ne (q ∙ ap (λ (i : ℕ). get_or g i 0) (sym e)))) (ap (λ (i : ℕ). record { part = suc i; value = rem }) (sym e))
      go (inr a) below =
          let more = sum_to_mono ms (suc low) (suc k) a in
          let v : part_first ms (suc k) rem t ≡ 0 =
          value (is_odd t) (least ms (suc k) rem) (most ms (suc k) rem) 0 (omega (arith, before)) (omega arith) in
          rw (v, eq-eqb 0 (get_or g (suc k) 0) (sym (none (suc k) a (omega arith))), sub-zero, add-zero)
          (below (omega arith) (omega arith))
