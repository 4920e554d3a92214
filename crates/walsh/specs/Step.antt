-- The first composition, and the step to the next by a pivot: the first part that is not at its last value takes its next value, and the parts
-- to its left start anew. That this is the next entry of the order is proved in proofs/Steps.antt.
use Rattle.std.specs.Prelude.{◌≡◌, Bool, true, false, cond, List, [], ◌∷◌, ◌++◌, ℕ, zero, suc, ◌+◌, ◌-◌, ◌<◌, max, eqb, get_or, drop}
use Rattle.walsh.specs.Sums.{sum_to}
use Rattle.walsh.specs.Order.{is_odd, least, most}

-- ---- the first and the last of the values lo..hi, and the one after v

abbrev pub first_value : ℕ → ℕ → Bool → ℕ
first_value lo hi falling = cond falling hi lo

abbrev pub last_value : ℕ → ℕ → Bool → ℕ
last_value lo hi falling = cond falling lo hi

abbrev pub next_value : Bool → ℕ → ℕ
next_value falling v = cond falling (v - 1) (v + 1)

abbrev pub part_first : List ℕ → ℕ → ℕ → ℕ → ℕ
part_first ms k rem t = first_value (least ms k rem) (most ms k rem) (is_odd t)

abbrev pub part_last : List ℕ → ℕ → ℕ → ℕ → ℕ
part_last ms k rem t = last_value (least ms k rem) (most ms k rem) (is_odd t)

-- the first composition of `listing ms k rem t`; its last is the first where t is one more
unfoldable pub first_of : List ℕ → ℕ → ℕ → ℕ → List ℕ
first_of ms zero rem t = []
first_of ms (suc k) rem t =
    let v = part_first ms k rem t in
    first_of ms k (rem - v) (t + v) ++ (v ∷ [])

-- ---- the step: g is a composition of r. Backwards it is the same step with r + 1 for r, for then every sum to the right is one more.

-- part i of g is at its last value
abbrev pub AtLast : List ℕ → ℕ → List ℕ → ℕ → Type 0
AtLast ms r g i = get_or g i 0 ≡ part_last ms i (sum_to g (suc i)) (r - sum_to g (suc i))

-- part i is the one that the step moves: the first that is not at its last value
pub record Pivot (ms : List ℕ) (r : ℕ) (g : List ℕ) (i : ℕ) : Type 0 where
  pub done : (j : ℕ) → j < i → AtLast ms r g j
  pub moves : AtLast ms r g i → ⊥

-- part i moved to its next value, and the parts to the left of it to their first
unfoldable pub step_at : List ℕ → ℕ → List ℕ → ℕ → List ℕ
step_at ms r g i =
    let rem = sum_to g (suc i) in
    let u = next_value (is_odd (r - rem)) (get_or g i 0) in
    first_of ms i (rem - u) (r - rem + u) ++ (u ∷ drop (suc i) g)

-- ---- the two parts that a step changes

-- the part at which `first_of ms k (suc rem) t` is one more than `first_of ms k rem t`
unfoldable pub raised_part : List ℕ → ℕ → ℕ → ℕ → ℕ
raised_part ms zero rem t = 0
raised_part ms (suc k) rem t =
    let v = part_first ms k rem t in
    elim (eqb v (part_first ms k (suc rem) t)) [ true ↦ raised_part ms k (rem - v) (t + v) | false ↦ k ]

-- the step at part i takes one unit from a part to another: part i is one of the two, and this is the other
unfoldable pub other_part : List ℕ → ℕ → List ℕ → ℕ → ℕ
other_part ms r g i =
    let rem = sum_to g (suc i) in
    let u = next_value (is_odd (r - rem)) (get_or g i 0) in
    raised_part ms i (rem - max u (get_or g i 0)) (r - rem + u)

-- the part that gains, and the part that loses
unfoldable pub gain_part : List ℕ → ℕ → List ℕ → ℕ → ℕ
gain_part ms r g i = cond (is_odd (r - sum_to g (suc i))) (other_part ms r g i) i

unfoldable pub loss_part : List ℕ → ℕ → List ℕ → ℕ → ℕ
loss_part ms r g i = cond (is_odd (r - sum_to g (suc i))) i (other_part ms r g i)
