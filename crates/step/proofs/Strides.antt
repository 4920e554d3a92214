-- Several moves of the first two parts at once are as many steps, and several steps lead as many serials on.
use mathlib.Core.Path.{◌≡◌, refl, sym, ap, ◌∙◌, subst}
use mathlib.Core.Bool.{Bool, true, false}
use mathlib.Core.List.{List}
use Prim.Native.Nat.{ℕ, zero, suc, ◌+◌, ◌-◌, ◌≤◌, ◌<◌, min}
use native.Mathlib.Nat.{add-zero, sub-zero}
use native.Mathlib.Numerals.{add-one}
use native.Mathlib.Omega.{arith}
use lib.ListN.{length, get_or}
use borrow.Author.Tests.{eq-eqb}
use Rattle.walsh.specs.Order.{Composition, count_of}
use Rattle.walsh.specs.Serial.{serial_of, composition_of}
use Rattle.walsh.proofs.Cases.{on_test, on_less}
use Rattle.walsh.proofs.Serials.{composition_is, serial_composition, composition_serial, serial_le, serial_pos}
use Rattle.walsh.specs.declared.Transition.{Transition}
use Rattle.step.specs.Advance.{advance_of, turn_of, turn_any, Advances}
use Rattle.step.specs.Run.{InFront, Running, BehindRun, CanMove, sum_of, moved_of, shown}
use Rattle.step.specs.Stride.{turns_of, Strides, slid_of, CanSlide}
use Rattle.step.specs.Turn.{Begins}
use Rattle.step.specs.declared.PivotSums.{PivotSums}
use Rattle.step.specs.declared.batch.Front.{Front}
use Rattle.step.specs.declared.batch.Run.{Run}
use Rattle.step.proofs.Ways.{turn_forward, advance_serial, any_sized}
use Rattle.step.proofs.Runs.{moves_to, shown_length, shown_low, shown_own, run_turns, run_behind}

-- ---- steps one after another

module _ (ms : List ℕ) (r : ℕ) (g : List ℕ) where
  pub turns_none : turns_of ms r g 0 ≡ g
  unfolding turns_of
  turns_none = refl

  pub turns_next : (k : ℕ) → turns_of ms r g (k + 1) ≡ turn_any ms r (turns_of ms r g k)
  unfolding turns_of
  turns_next k = rw add-one

  pub turns_add : (k j : ℕ) → turns_of ms r (turns_of ms r g k) j ≡ turns_of ms r g (k + j)
  unfolding turns_of
  turns_add k zero = ap (turns_of ms r g) (sym (add-zero k))
  turns_add k (suc j) =
      let e : suc (k + j) ≡ k + suc j = omega arith in
      ap (turn_any ms r) (turns_add k j) ∙ ap (turns_of ms r g) e

  -- where none is made
  pub turns_still : turn_any ms r g ≡ g → (k : ℕ) → g ≡ turns_of ms r g k
  unfolding turns_of
  turns_still e zero = refl
  turns_still e (suc k) = sym (ap (turn_any ms r) (sym (turns_still e k)) ∙ e)

  -- of a composition
  module _ (few : length ms ≤ 24) (valid : Composition ms r g) where
    abbrev s : ℕ
    s = serial_of ms r g

    abbrev to : ℕ → ℕ
    to k = min (s + k) (count_of ms r)

    one_on : (k : ℕ) → turn_any ms r (composition_of ms r (to k)) ≡ composition_of ms r (to (suc k))
    unfolding advance_of
    one_on k =
        let some : 0 < to k = omega (arith, serial_pos ms r g valid, serial_le ms r g valid) in
        let is = composition_is ms r (to k) some (omega arith) in
        let serial = serial_composition ms r (to k) some (omega arith) in
        any_sized ms r (composition_of ms r (to k)) few is.size
        ∙ turn_forward ms r (composition_of ms r (to k)) is
        ∙ on_less (s + k) (count_of ms r)
        (λ l t.
        let next : to k + 1 ≡ to (suc k) = omega arith in
        advance_serial ms r (to k) some (omega arith) ∙ ap (composition_of ms r) next)
        (λ l t.
        let same : to k ≡ to (suc k) = omega arith in
        rw (serial, eq-eqb (to k) (count_of ms r) (omega arith)) (ap (composition_of ms r) same))

    turns_serial : (k : ℕ) → turns_of ms r g k ≡ composition_of ms r (to k)
    unfolding turns_of
    turns_serial zero =
        let here : s ≡ to 0 = omega (arith, serial_le ms r g valid) in
        sym (composition_serial ms r g valid) ∙ ap (composition_of ms r) here
    turns_serial (suc k) = ap (turn_any ms r) (turns_serial k) ∙ one_on k

  pub strides : {k : ℕ} {h : List ℕ} → h ≡ turns_of ms r g k → Strides ms r g k h
  strides {k} e = record { always = e; next = λ few valid. e ∙ turns_serial few valid k }

  -- a single step is one of them
  pub one_stride : {x : Transition} {h : List ℕ} → Advances ms r g x h → Strides ms r g 1 h
  unfolding turns_of
  one_stride a = strides {k = 1} a.always

-- ---- a run

slid_none : (x : Run) → slid_of x 0 ≡ x
slid_none x = go x.falling refl
  where
    go : (b : Bool) → x.falling ≡ b → slid_of x 0 ≡ x
    go true e = rw (e, add-zero, sub-zero x.second, sub-zero x.more, ← e)
    go false e = rw (e, add-zero, sub-zero x.first, sub-zero x.more, ← e)

slid_next : (x : Run) (k : ℕ) → moved_of (slid_of x k) ≡ slid_of x (suc k)
slid_next x k = go x.falling refl
  where
    left : x.more - suc k ≡ x.more - k - 1
    left = omega arith

    go : (b : Bool) → x.falling ≡ b → moved_of (slid_of x k) ≡ slid_of x (suc k)
    go true e =
        let up : x.first + suc k ≡ x.first + k + 1 = omega arith in
        let down : x.second - suc k ≡ x.second - k - 1 = omega arith in
        rw (e, up, down, left)
    go false e =
        let up : x.second + suc k ≡ x.second + k + 1 = omega arith in
        let down : x.first - suc k ≡ x.first - k - 1 = omega arith in
        rw (e, up, down, left)

-- the moves stay within bytes
pub can_slide : (ms : List ℕ) (r : ℕ) (p : Front) (x : Run) (k : ℕ) → Running ms r p x → k ≤ x.more → CanSlide x k
can_slide ms r p x k run l =
    let bytes = run.bytes in
    let down : x.falling ≡ true → x.more ≡ x.second - (sum_of x - get_or ms p.low 0) = λ t. rw t at run.left in
    let up : x.falling ≡ false → x.more ≡ min (get_or ms p.high 0) (sum_of x) - x.second = λ t. rw t at run.left in
    record {
      few = l;
      small = on_test x.falling (λ t. omega (arith, down t, bytes.0)) (λ t. omega (arith, up t, bytes.1));
      down = λ t. (λ h. omega (arith, down t, bytes.0), omega (arith, down t));
      up = λ t. (omega (arith, up t), λ h. omega (arith, up t, bytes.1));
    }

-- ---- the run of the first two parts

abbrev front_two : Front
front_two = record { low = 0; high = 1 }

pub first_two : (ms : List ℕ) → 1 < length ms → InFront ms front_two
first_two ms two = record { apart = omega arith; inside = two; before = refl; between = omega arith }

module _ (ms : List ℕ) (r : ℕ) (g : List ℕ) (two : 1 < length ms) (few : length ms ≤ 24) (size : length g ≡ length ms) where
  shown_size : (y : Run) → length (shown front_two y g) ≡ length ms
  shown_size y = shown_length front_two y g ∙ size

  shown_fits : (y : Run) → y.first ≤ get_or ms 0 0 → (i : ℕ) → i < 1 → get_or (shown front_two y g) i 0 ≤ get_or ms i 0
  shown_fits y l i h =
      let e : i ≡ 0 = omega arith in
      rw e (omega (arith, l, shown_low front_two y (first_two ms two).apart g (omega (arith, two, size))))

  module _ (x : Run) (own : (x.first ≡ get_or g 0 0) × (x.second ≡ get_or g 1 0)) (run : Running ms r front_two x) (low : x.first ≤ get_or ms 0 0) where
    -- after k moves
    record Slid (k : ℕ) : Type 0 where
      pub running : Running ms r front_two (slid_of x k)
      pub fits : (slid_of x k).first ≤ get_or ms 0 0
      pub is : shown front_two (slid_of x k) g ≡ turns_of ms r g k

    begin : Slid 0
    begin =
        let e = sym (slid_none x) in
        record {
          running = subst (λ (y : Run). Running ms r front_two y) e run;
          fits = subst (λ (y : Run). y.first ≤ get_or ms 0 0) e low;
          is = ap (λ (y : Run). shown front_two y g) (slid_none x) ∙ shown_own front_two x g own.0 own.1 ∙ sym (turns_none ms r g);
        }

    on : (k : ℕ) → k < x.more → Slid k → Slid (suc k)
    unfolding turns_of
    on k l d =
        let y : Run = slid_of x k in
        let e = slid_next x k in
        let to = moves_to ms r front_two y d.running (omega arith) in
        let turn = run_turns ms r front_two (first_two ms two) y g d.running (shown_size y) (shown_fits y d.fits) (omega arith) in
        record {
          running = subst (λ (z : Run). Running ms r front_two z) e to.running;
          fits = subst (λ (z : Run). z.first ≤ get_or ms 0 0) e (to.fits d.fits);
          is =
              ap (λ (z : Run). shown front_two z g) (sym e)
              ∙ turn
              ∙ sym (any_sized ms r (shown front_two y g) few (shown_size y))
              ∙ ap (turn_any ms r) d.is;
        }

    slid : (k : ℕ) → k ≤ x.more → Slid k
    slid zero l = begin
    slid (suc k) l = on k l (slid k (omega arith))

    -- the run alone
    pub slid_turns : (k : ℕ) → k ≤ x.more → {y : Run} → y ≡ slid_of x k → shown front_two y g ≡ turns_of ms r g k
    slid_turns k l e = ap (λ (z : Run). shown front_two z g) e ∙ (slid k l).is

    -- and, where it has ended, the step behind it
    pub slid_begins : (k : ℕ) → k ≡ x.more → {y : Run} → y ≡ slid_of x k → (f : PivotSums) → BehindRun ms front_two y f
        → Begins ms r (shown front_two y g) f
    slid_begins k l {y} e f b =
        let d = slid k (omega arith) in
        let running : Running ms r front_two y = subst (λ (z : Run). Running ms r front_two z) (sym e) d.running in
        let still-low : y.first ≤ get_or ms 0 0 = subst (λ (z : Run). z.first ≤ get_or ms 0 0) (sym e) d.fits in
        let none : y.more ≡ 0 = ap (λ (z : Run). z.more) e ∙ omega arith in
        run_behind ms r front_two (first_two ms two) y g running (shown_size y) (shown_fits y still-low) none f b

    pub slid_turned : (k : ℕ) → k ≤ x.more → {y : Run} → y ≡ slid_of x k → turn_of ms r (shown front_two y g) ≡ turns_of ms r g (k + 1)
    slid_turned k l {y} e =
        sym (any_sized ms r (shown front_two y g) few (shown_size y))
        ∙ ap (turn_any ms r) (slid_turns k l e)
        ∙ sym (turns_next ms r g k)

  -- one step
  pub one_turned : turn_of ms r g ≡ turns_of ms r g 1
  unfolding turns_of
  one_turned = sym (any_sized ms r g few size)

-- ---- one move

pub slid_one : (x : Run) → slid_of x 1 ≡ moved_of x
slid_one x = on_test x.falling (λ t. rw t) (λ t. rw t)

pub slides_one : (x : Run) → CanMove x → CanSlide x 1
slides_one x can =
    record {
      few = omega (arith, can.more);
      small = omega arith;
      down = λ t. let d = can.down t in (λ h. omega (arith, d), omega (arith, d));
      up = λ t. let u = can.up t in (omega (arith, u), λ h. omega (arith, u));
    }
