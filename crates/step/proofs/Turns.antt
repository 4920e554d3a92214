-- Moving a part: the turn of any bytes in the code's numbers, and what it is for a composition.
use mathlib.Core.Path.{◌≡◌, refl, sym, ◌∙◌}
use mathlib.Core.Logic.{◌⊎◌, inl, inr}
use mathlib.Core.Bool.{Bool, true, false, cond, true≢false, false≢true}
use mathlib.Core.List.{List}
use Prim.Native.Nat.{ℕ, zero, suc, ◌+◌, ◌-◌, ◌≤◌, ◌<◌}
use native.Mathlib.Omega.{arith}
use lib.Dec.{ltb}
use lib.ListN.{length, get_or, set}
use borrow.Author.Tests.{ltb-true, ltb-false, lt-ltb, le-ltb, le-leb, lt-leb}
use Rattle.walsh.specs.Sums.{sum_to}
use Rattle.walsh.specs.Order.{CompositionTo, is_odd, least, most}
use Rattle.walsh.specs.Step.{last_value, next_value, AtLast, Pivot, step_at}
use Rattle.walsh.proofs.Cases.{on_less}
use Rattle.walsh.proofs.Lists.{sum_to_mono}
use Rattle.walsh.proofs.Complete.{composition_low, composition_high}
use Rattle.walsh.proofs.Ends.{next_low, rest_fits}
use Rattle.step.specs.Advance.{can_move, pivot_of, rest_at, trade_at, turn_at, turn_of}
use Rattle.step.specs.Turn.{Still, PivotAt, OtherAt}
use Rattle.step.specs.declared.Other.{Other}
use Rattle.step.specs.declared.PivotSums.{PivotSums}
use Rattle.step.proofs.Pivots.{pivot_first}
use Rattle.step.proofs.Trades.{trade_is}

-- ---- a value v among lo..hi

module _ (lo hi v : ℕ) where
  value_stays : (falling : Bool) → lo ≤ v → v ≤ hi → cond falling (ltb lo v) (ltb v hi) ≡ false → v ≡ last_value lo hi falling
  value_stays true low high e = omega (arith, ltb-false lo v e)
  value_stays false low high e = omega (arith, ltb-false v hi e)

  value_moves : (falling : Bool) → cond falling (ltb lo v) (ltb v hi) ≡ true → v ≡ last_value lo hi falling → ⊥
  value_moves true e q = omega (arith, ltb-true lo v e)
  value_moves false e q = omega (arith, ltb-true v hi e)

  -- the next value is within what v and hi are within
  pub value_within : (falling : Bool) (s : ℕ) → cond falling (ltb lo v) (ltb v hi) ≡ true → v ≤ s → hi ≤ s → next_value falling v ≤ s
  value_within true s e l h = omega arith
  value_within false s e l h = omega (arith, ltb-true v hi e)

  -- a value that falls is above 0
  value_above : (falling : Bool) → cond falling (ltb lo v) (ltb v hi) ≡ true → falling ≡ true → 0 < v
  value_above true e t = omega (arith, ltb-true lo v e)
  value_above false e t = absurd (false≢true t)

  -- and the next one is one off
  value_way : (falling : Bool) → cond falling (ltb lo v) (ltb v hi) ≡ true
      → (falling ≡ true → v ≡ next_value falling v + 1) × (falling ≡ false → next_value falling v ≡ v + 1)
  value_way true e = (λ _. omega (arith, ltb-true lo v e), λ q. absurd (true≢false q))
  value_way false e = (λ q. absurd (false≢true q), λ _. refl)

-- ---- the turn of any bytes: u is the next value of the part that was found

-- where no part can move, the step changes nothing
pub turn_still : (ms : List ℕ) (w : ℕ) (g : List ℕ) → Still ms w g → g ≡ turn_of ms w g
unfolding turn_at
turn_still ms w g e = rw (le-ltb (pivot_of ms w g) (length ms) e)

module _ (ms : List ℕ) (w : ℕ) (g : List ℕ) (f : PivotSums) (found : PivotAt ms w g f) where
  pub found_some : 0 < f.at
  found_some = omega (arith, found.first, (pivot_first ms w g).low)

  can : can_move ms w g f.at ≡ true
  can = rw found.first ((pivot_first ms w g).can (omega (arith, found.first, found.inside)))

  pub found_above : f.falling ≡ true → 0 < get_or g f.at 0
  found_above t =
      let rem : ℕ = sum_to g (suc f.at) in
      value_above (least ms f.at rem) (most ms f.at rem) (get_or g f.at 0) (is_odd (w - rem)) can (sym found.way ∙ t)

  module _ (u : ℕ) (eu : u ≡ next_value f.falling (get_or g f.at 0)) where
    value : u ≡ next_value (is_odd (w - sum_to g (suc f.at))) (get_or g f.at 0)
    value = eu ∙ rw found.way

    rest_is : f.sum - u ≡ rest_at w g f.at
    rest_is = rw (found.sum, value)

    within : (s : ℕ) → get_or g f.at 0 ≤ s → most ms f.at (sum_to g (suc f.at)) ≤ s → u ≤ s
    within s l h =
        let rem : ℕ = sum_to g (suc f.at) in
        rw value (value_within (least ms f.at rem) (most ms f.at rem) (get_or g f.at 0) (is_odd (w - rem)) s can l h)

    -- it is a byte, and no more than the parts up to it
    pub found_small : get_or ms f.at 0 ≤ 255 → get_or g f.at 0 ≤ 255 → (u ≤ 255) × (u ≤ f.sum) × (f.right ≤ w)
    found_small bytes byte =
        (within 255 byte (omega arith), rw found.sum (within _ (omega arith) (omega arith)), rw found.right (omega arith))

    pub found_way : (f.falling ≡ true → get_or g f.at 0 ≡ u + 1) × (f.falling ≡ false → u ≡ get_or g f.at 0 + 1)
    found_way =
        let rem : ℕ = sum_to g (suc f.at) in
        rw (value, found.way)
        (value_way (least ms f.at rem) (most ms f.at rem) (get_or g f.at 0) (is_odd (w - rem)) can)

    pub turn_over : f.left < f.sum - u → g ≡ turn_of ms w g
    unfolding turn_at
    turn_over l =
        rw (← found.first, lt-ltb f.at (length ms) found.inside, ← rest_is, ← found.left, lt-leb (f.sum - u) f.left l)

    -- the part against it is changed too
    trade_on : (o : Other) → OtherAt ms (set g f.at u) f u o → set (set g f.at u) (o.part - 1) o.value ≡ trade_at ms w g f.at
    trade_on o other = rw (other.is, found.sum, found.right, value)

    pub turn_on : f.sum - u ≤ f.left → (o : Other) → OtherAt ms (set g f.at u) f u o
        → set (set g f.at u) (o.part - 1) o.value ≡ turn_of ms w g
    unfolding turn_at
    turn_on l o other =
        let fits : rest_at w g f.at ≤ sum_to ms f.at = omega (arith, sym rest_is, found.left) in
        trade_on o other
        ∙ rw (← found.first, lt-ltb f.at (length ms) found.inside, le-leb (rest_at w g f.at) (sum_to ms f.at) fits)

-- ---- parts that are within their bounds and sum to at most w, as those of a composition do

pub record Moving (ms : List ℕ) (w : ℕ) (g : List ℕ) : Type 0 where
  pub size : length g ≡ length ms
  pub fits : (i : ℕ) → i < length ms → get_or g i 0 ≤ get_or ms i 0
  pub reached : sum_to g (length ms) ≤ w

-- the step from g leaves h: by a move at its pivot, or unmoved, where every part is at its last value
abbrev pub AtPivot : List ℕ → ℕ → List ℕ → List ℕ → Type 0
AtPivot ms w g h = (i : ℕ) × (i < length ms) × Pivot ms w g i × (h ≡ step_at ms w g i)

abbrev pub AtEnd : List ℕ → ℕ → List ℕ → List ℕ → Type 0
AtEnd ms w g h = ((j : ℕ) → j < length ms → AtLast ms w g j) × (h ≡ g)

module _ (ms : List ℕ) (w : ℕ) (g : List ℕ) where
  -- the parts up to i
  pub up_to : Moving ms w g → (i : ℕ) → i < length ms → CompositionTo ms (suc i) (sum_to g (suc i)) g
  up_to m i l = record { fits = λ j b. m.fits j (omega arith); sums = refl }

  pub part_stays : (i : ℕ) → i < length ms → can_move ms w g i ≡ false → Moving ms w g → AtLast ms w g i
  part_stays i l e m =
      let rem : ℕ = sum_to g (suc i) in
      value_stays (least ms i rem) (most ms i rem) (get_or g i 0) (is_odd (w - rem)) (composition_low (up_to m i l)) (composition_high (up_to m i l)) e

  part_moves : (i : ℕ) → can_move ms w g i ≡ true → AtLast ms w g i → ⊥
  part_moves i e q =
      let rem : ℕ = sum_to g (suc i) in
      value_moves (least ms i rem) (most ms i rem) (get_or g i 0) (is_odd (w - rem)) e q

  -- part 0 is what the others leave
  first_stays : 0 < length ms → Moving ms w g → (j : ℕ) → j < 1 → AtLast ms w g j
  first_stays some m zero l = go (is_odd (w - sum_to g 1)) (m.fits 0 some)
    where
      go : (b : Bool) → get_or g 0 0 ≤ get_or ms 0 0 → get_or g 0 0 ≡ last_value (least ms 0 (sum_to g 1)) (most ms 0 (sum_to g 1)) b
      go true h = omega arith
      go false h = omega arith
  first_stays some m (suc j) l = absurd (omega arith)

  module _ (m : Moving ms w g) where
    abbrev at : ℕ
    at = pivot_of ms w g

    passed_last : (j : ℕ) → j < length ms → j < at → AtLast ms w g j
    passed_last j l b =
        on_less j 1
        (λ a _. first_stays (omega arith) m j a)
        (λ a _. part_stays j l ((pivot_first ms w g).passed j a b) m)

    pivot_at : at < length ms → Pivot ms w g at
    pivot_at l =
        record { done = λ j b. passed_last j (omega arith) b; moves = part_moves at ((pivot_first ms w g).can (omega arith)) }

    at_on : at < length ms → turn_of ms w g ≡ step_at ms w g at
    unfolding turn_at
    at_on l =
        let rem : ℕ = sum_to g (suc at) in
        let low = next_low (least ms at rem) (most ms at rem) (is_odd (w - rem)) (get_or g at 0) (composition_low (up_to m at l)) (pivot_at l).moves in
        let fits : rest_at w g at ≤ sum_to ms at = rest_fits ms at rem _ low in
        rw (lt-ltb at (length ms) l, le-leb (rest_at w g at) (sum_to ms at) fits)
        (trade_is ms w g at (pivot_first ms w g).low (omega (arith, m.size)) (up_to m at l)
        (omega (arith, sum_to_mono g (suc at) (length ms) l, m.reached)) (pivot_at l) fits)

    at_off : length ms ≤ at → turn_of ms w g ≡ g
    unfolding turn_at
    at_off l = rw (le-ltb at (length ms) l)

    pub turned : AtPivot ms w g (turn_of ms w g) ⊎ AtEnd ms w g (turn_of ms w g)
    turned =
        on_less at (length ms)
        (λ l _. inl (at, l, pivot_at l, at_on l))
        (λ l _. inr (λ j b. passed_last j b (omega arith), at_off l))
