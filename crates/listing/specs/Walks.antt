-- What the two walks promise each other: how the order is written, part by part. A walk has an edition's first parts before it; those to their right
-- are set, and sum to t; `rest` is what is left of the total, r − t. The order itself is `listing` of walsh specs/Order, by the same words.
use Rattle.std.specs.Prelude.{◌≡◌, refl, List, [], ◌∷◌, ◌++◌, ℕ, ◌+◌, ◌≤◌, ◌<◌, length, drop}
use Rattle.walsh.specs.Sums.{sum_to}
use Rattle.walsh.specs.Order.{listing, three_twos}
use Rattle.listing.specs.Bytes.{begun}

-- the entries gs, each with an ending behind it, one behind the other
unfoldable pub in_tray : List (List ℕ) → List ℕ → List ℕ
in_tray [] ending = []
in_tray (g ∷ gs) ending = (g ++ ending) ++ in_tray gs ending

-- what a walk writes: the order of the parts before it, each entry with the parts of g behind it that are set
abbrev pub walk_bytes : List ℕ → ℕ → ℕ → ℕ → List ℕ → List ℕ
walk_bytes ms parts rest t g = in_tray (listing ms parts rest t) (drop parts g)

-- a walk over `parts` parts can be made: their bounds sum to `room`, which can hold what is left of the total, and there are bytes enough
pub record Walk (ms : List ℕ) (parts room rest t : ℕ) (g out : List ℕ) : Type 0 where
  pub some : 0 < parts
  pub within : parts ≤ length ms
  pub size : length g ≡ length ms
  pub sum : room ≡ sum_to ms parts
  pub reached : rest ≤ room
  pub small : rest + t ≤ 255
  pub long : length (walk_bytes ms parts rest t g) ≤ length out

-- a walk was made: it answers how many bytes it wrote, and leaves the parts to its right as they were
pub record Walked (ms : List ℕ) (parts rest t : ℕ) (g out : List ℕ) (written : ℕ) (g' out' : List ℕ) : Type 0 where
  pub count : written ≡ length (walk_bytes ms parts rest t g)
  pub bytes : out' ≡ begun (walk_bytes ms parts rest t g) out
  pub ending : drop parts g' ≡ drop parts g

-- ---- bounds 2 2 2 with total 3, computed

-- behind a 1 at the last part the walk over the two others falls (serials 3 to 5)
the_falling_walk : walk_bytes three_twos 2 2 1 (9 ∷ 9 ∷ 1 ∷ []) ≡ 0 ∷ 2 ∷ 1 ∷ 1 ∷ 1 ∷ 1 ∷ 2 ∷ 0 ∷ 1 ∷ []
unfolding in_tray listing
the_falling_walk = refl

-- behind a 2 it rises (serials 6 and 7)
the_rising_walk : walk_bytes three_twos 2 1 2 (9 ∷ 9 ∷ 2 ∷ []) ≡ 1 ∷ 0 ∷ 2 ∷ 0 ∷ 1 ∷ 2 ∷ []
unfolding in_tray listing
the_rising_walk = refl
