-- What the functions inside the step promise, of any bytes g. The sums to the right are counted from a total w: r forward, r + 1 backward.
use Rattle.std.specs.Prelude.{◌≡◌, Bool, cond, List, ℕ, suc, ◌+◌, ◌-◌, ◌*◌, ◌≤◌, ◌<◌, eqb, length}
use Rattle.walsh.specs.Sums.{sum_to}
use Rattle.walsh.specs.Order.{is_odd}
use Rattle.walsh.specs.Transition.{transition}
use Rattle.walsh.specs.declared.Transition.{Transition}
use Rattle.bounds.specs.Refusal.{refused}
use Rattle.step.specs.Advance.{moving_from, pivot_of, other_of}
use Rattle.step.specs.Steps.{stepped_by}
use Rattle.step.specs.declared.Other.{Other}
use Rattle.step.specs.declared.PivotSums.{PivotSums}
use Rattle.step.specs.declared.Stepped.{Stepped}

-- the search for it may begin at part f .at: no part before it can move, and f has the sums of the bounds and of the parts before it
pub record Begins (ms : List ℕ) (w : ℕ) (g : List ℕ) (f : PivotSums) : Type 0 where
  pub some : 0 < f.at
  pub within : f.at ≤ length ms
  pub left : f.left ≡ sum_to ms f.at
  pub sum : f.sum ≡ sum_to g f.at
  pub small : (f.left ≤ 255 * f.at) × (f.sum ≤ 255 * f.at)
  pub passed : moving_from ms w g f.at (length ms - f.at) ≡ pivot_of ms w g

-- no part can move
abbrev pub Still : List ℕ → ℕ → List ℕ → Type 0
Still ms w g = length ms ≤ pivot_of ms w g

-- f is the first part that can move, with the sums beside it
pub record PivotAt (ms : List ℕ) (w : ℕ) (g : List ℕ) (f : PivotSums) : Type 0 where
  pub first : f.at ≡ pivot_of ms w g
  pub inside : f.at < length ms
  pub left : f.left ≡ sum_to ms f.at
  pub small : f.left ≤ 255 * f.at
  pub sum : f.sum ≡ sum_to g (suc f.at)
  pub right : f.right ≡ w - sum_to g (suc f.at)
  pub way : f.falling ≡ is_odd (w - sum_to g (suc f.at))

-- the parts before part f .at have room for what the value u leaves to them, and all stays within bytes
pub record Leaves (ms g : List ℕ) (f : PivotSums) (u : ℕ) : Type 0 where
  pub some : 0 < f.at
  pub inside : (f.at ≤ length g) × (f.at ≤ length ms)
  pub left : (f.left ≡ sum_to ms f.at) × (f.left < 65536)
  pub value : (u ≤ 255) × (u ≤ f.sum)
  pub room : f.sum - u ≤ f.left
  pub right : f.right ≤ 4294967296

-- o is the part that changes against it: one before it, and its value is a byte
pub record OtherAt (ms g : List ℕ) (f : PivotSums) (u : ℕ) (o : Other) : Type 0 where
  pub is : o ≡ other_of ms g (f.at - 1) (f.sum - u) (f.right + u)
  pub part : (0 < o.part) × (o.part ≤ f.at)
  pub value : o.value ≤ 255

-- ---- the pair, part by part from the last to the first

-- what changes from part k on, counted from 1, where it goes from u to v, and x is what changes behind it
abbrev pub noting : Transition → ℕ → ℕ → ℕ → Transition
noting x k u v = record { gain = cond (eqb v (u + 1)) k x.gain; loss = cond (eqb u (v + 1)) k x.loss }

-- what changes from part i on, where only part i moves
abbrev pub moved_by : Bool → ℕ → Transition
moved_by falling i = cond falling (record { gain = 0; loss = i + 1 }) (record { gain = i + 1; loss = 0 })

-- ---- the answer of a step that finds g and leaves h: 9 where no part gains

abbrev pub shifted_by : List ℕ → List ℕ → Stepped
shifted_by g h = stepped_by (cond (eqb (transition g h).gain 0) (refused 9 0) (refused 0 0)) g h
