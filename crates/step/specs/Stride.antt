-- Document 01, "Serial and mix": several forward steps over lent bytes, as the register makes them for a bundle (document 02, (v)). Those in which only
-- the first two parts move are made at once: the second goes on by as many units as there are steps, and the first the other way.
use Rattle.std.specs.Prelude.{◌≡◌, refl, true, false, cond, List, [], ◌∷◌, ℕ, zero, suc, ◌+◌, ◌-◌, ◌≤◌, ◌<◌, min, length}
use Rattle.walsh.specs.Order.{Composition, count_of, three_twos}
use Rattle.walsh.specs.Serial.{serial_of, composition_of}
use Rattle.step.specs.Advance.{turn_any, turn_at, moving_from, other_of}
use Rattle.step.specs.declared.batch.Run.{Run}

-- any bytes g after k steps
unfoldable pub turns_of : List ℕ → ℕ → List ℕ → ℕ → List ℕ
turns_of ms r g zero = g
turns_of ms r g (suc k) = turn_any ms r (turns_of ms r g k)

-- with g lent, the bytes are h after k steps: a composition becomes the one k serials on, or the last
pub record Strides (ms : List ℕ) (r : ℕ) (g : List ℕ) (k : ℕ) (h : List ℕ) : Type 0 where
  pub always : h ≡ turns_of ms r g k
  pub next : length ms ≤ 24 → Composition ms r g → h ≡ composition_of ms r (min (serial_of ms r g + k) (count_of ms r))

-- ---- the functions inside

-- k steps are made, one at least and m at most
pub record Leaps (ms : List ℕ) (r : ℕ) (g : List ℕ) (m k : ℕ) (h : List ℕ) : Type 0 where
  pub some : 0 < k
  pub few : k ≤ m
  pub is : h ≡ turns_of ms r g k

-- a run after k moves of the second part
abbrev pub slid_of : Run → ℕ → Run
slid_of x k =
    record {
      first = cond x.falling (x.first + k) (x.first - k);
      second = cond x.falling (x.second - k) (x.second + k);
      falling = x.falling;
      more = x.more - k;
    }

-- they stay within bytes
pub record CanSlide (x : Run) (k : ℕ) : Type 0 where
  pub few : k ≤ x.more
  pub small : k ≤ 255
  pub down : x.falling ≡ true → (x.first ≤ 255 → x.first + k ≤ 255) × (k ≤ x.second)
  pub up : x.falling ≡ false → (k ≤ x.first) × (x.second ≤ 255 → x.second + k ≤ 255)

-- ---- computed: three steps, of which the second moves the third part

three : turns_of three_twos 3 (2 ∷ 1 ∷ 0 ∷ []) 3 ≡ 1 ∷ 1 ∷ 1 ∷ []
unfolding turns_of turn_any turn_at moving_from other_of
three = refl
