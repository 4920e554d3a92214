-- Document 01, "Serial and mix": "Forward and backward step give the mix one serial on or back." Here both over lent bytes, for the calls that hold
-- a composition and need not have it checked: what becomes of a composition, and what of any bytes. Document 02, (i): with the pair.
use Rattle.std.specs.Prelude.{◌≡◌, refl, Bool, cond, List, [], ◌∷◌, ℕ, zero, suc, ◌+◌, ◌-◌, ◌≤◌, eqb, ltb, leb, length, get_or, set}
use Rattle.walsh.specs.Tests.{both}
use Rattle.walsh.specs.Sums.{sum_to}
use Rattle.walsh.specs.Order.{Composition, is_odd, least, most, count_of, three_twos}
use Rattle.walsh.specs.Serial.{serial_of, composition_of}
use Rattle.walsh.specs.Step.{next_value, part_first}
use Rattle.walsh.specs.Transition.{transition, transition_at}
use Rattle.walsh.specs.declared.Transition.{Transition}
use Rattle.step.specs.declared.Other.{Other}

-- ---- of a composition

-- the bytes then: the next composition, or g itself where it is the last
unfoldable pub advance_of : List ℕ → ℕ → List ℕ → List ℕ
advance_of ms r g = cond (eqb (serial_of ms r g) (count_of ms r)) g (composition_of ms r (serial_of ms r g + 1))

-- ---- of any bytes g. Sums to the right are counted from w: forward that is the total, backward one more.

-- part i can move on: it is above its lowest value where it falls, below its highest where it rises
abbrev pub can_move : List ℕ → ℕ → List ℕ → ℕ → Bool
can_move ms w g i =
    cond (is_odd (w - sum_to g (suc i)))
    (ltb (least ms i (sum_to g (suc i))) (get_or g i 0))
    (ltb (get_or g i 0) (most ms i (sum_to g (suc i))))

-- the first of the n parts from part i on that can move, or the place behind them
unfoldable pub moving_from : List ℕ → ℕ → List ℕ → ℕ → ℕ → ℕ
moving_from ms w g i zero = i
moving_from ms w g i (suc n) = cond (can_move ms w g i) i (moving_from ms w g (suc i) n)

-- the first part that can move, or the number of parts. Part 0 is left out: it has one value only, what the others leave.
abbrev pub pivot_of : List ℕ → ℕ → List ℕ → ℕ
pivot_of ms w g = moving_from ms w g 1 (length ms - 1)

-- the next value of part i, and what that leaves to the parts before it
abbrev pub next_at : ℕ → List ℕ → ℕ → ℕ
next_at w g i = next_value (is_odd (w - sum_to g (suc i))) (get_or g i 0)

abbrev pub rest_at : ℕ → List ℕ → ℕ → ℕ
rest_at w g i = sum_to g (suc i) - next_at w g i

-- there is a part i, and the bounds before it hold what it leaves (those of a composition do)
abbrev pub has_room : List ℕ → ℕ → List ℕ → ℕ → Bool
has_room ms w g i = both (ltb i (length ms)) (leb (rest_at w g i) (sum_to ms i))

-- the part that changes against it, counted from 1, and its new value: of the parts k, .. , 1 the first that is not at its first value, which it gets;
-- where there is none, part 0, which gets what is left. `rem` is left to the parts up to k, and those behind them sum to t.
unfoldable pub other_of : List ℕ → List ℕ → ℕ → ℕ → ℕ → Other
other_of ms g zero rem t = record { part = 1; value = rem }
other_of ms g (suc k) rem t =
    let v = part_first ms (suc k) rem t in
    cond (eqb v (get_or g (suc k) 0)) (other_of ms g k (rem - v) (t + v)) (record { part = suc (suc k); value = v })

-- both parts change
abbrev pub trade_at : List ℕ → ℕ → List ℕ → ℕ → List ℕ
trade_at ms w g i =
    let moved = set g i (next_at w g i) in
    let other = other_of ms moved (i - 1) (rest_at w g i) (w - sum_to g (suc i) + next_at w g i) in
    set moved (other.part - 1) other.value

-- part i moves on; g itself where it cannot
unfoldable pub turn_at : List ℕ → ℕ → List ℕ → ℕ → List ℕ
turn_at ms w g i = cond (has_room ms w g i) (trade_at ms w g i) g

abbrev pub turn_of : List ℕ → ℕ → List ℕ → List ℕ
turn_of ms w g = turn_at ms w g (pivot_of ms w g)

-- there are 1 to 24 bounds and as many parts
abbrev pub sized : List ℕ → List ℕ → Bool
sized ms g = both (ltb 0 (length ms)) (both (leb (length ms) 24) (eqb (length g) (length ms)))

-- the first part that can move does, and g stays as it is where it is not so sized
unfoldable pub turn_any : List ℕ → ℕ → List ℕ → List ℕ
turn_any ms w g = cond (sized ms g) (turn_of ms w g) g

-- ---- the promises

-- with g lent, the bytes are then h and the answer is x, the pair from g to h
pub record Advances (ms : List ℕ) (r : ℕ) (g : List ℕ) (x : Transition) (h : List ℕ) : Type 0 where
  pub always : h ≡ turn_any ms r g
  pub next : length ms ≤ 24 → Composition ms r g → h ≡ advance_of ms r g
  pub pair : x ≡ transition g h

-- backward: the answer is the pair from h to g, which for a composition is that of its serial
pub record Retreats (ms : List ℕ) (r : ℕ) (g : List ℕ) (x : Transition) (h : List ℕ) : Type 0 where
  pub always : h ≡ turn_any ms (r + 1) g
  pub back : x ≡ transition h g
  pub pair : length ms ≤ 24 → Composition ms r g → x ≡ transition_at ms r (serial_of ms r g)

-- ---- computed: parts with another sum move, and those whose rest has no room do not

another_sum : turn_any three_twos 3 (1 ∷ 1 ∷ 0 ∷ []) ≡ 2 ∷ 0 ∷ 0 ∷ []
unfolding turn_any turn_at moving_from other_of
another_sum = refl

no_room : turn_any (1 ∷ 1 ∷ []) 3 (3 ∷ 0 ∷ []) ≡ 3 ∷ 0 ∷ []
unfolding turn_any turn_at moving_from
no_room = refl
