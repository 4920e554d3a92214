-- The place of a composition by counting instead of listing (source document 000, section 1). Places count from 0. That it is the place in the
-- order is proved in proofs/Complete.antt.
use Rattle.std.specs.Prelude.{Bool, cond, List, ℕ, zero, suc, ◌+◌, ◌-◌, get_or}
use Rattle.walsh.specs.Sums.{sum}
use Rattle.walsh.specs.Order.{is_odd, least, most, part_value, count}

-- the number of value v among the values lo..hi: the way back from `value_at`
abbrev pub index_of : ℕ → ℕ → Bool → ℕ → ℕ
index_of lo hi falling v = cond falling (hi - v) (v - lo)

abbrev pub part_index : List ℕ → ℕ → ℕ → ℕ → ℕ → ℕ
part_index ms k rem t v = index_of (least ms k rem) (most ms k rem) (is_odd t) v

-- how many compositions have value number i of part k
abbrev pub block_size : List ℕ → ℕ → ℕ → ℕ → ℕ → ℕ
block_size ms k rem t i = count ms k (rem - part_value ms k rem t i)

-- how many come before g in `listing ms k rem t`: the blocks before that of part k's value, and those before g in that block
unfoldable pub rank_of : List ℕ → ℕ → ℕ → ℕ → List ℕ → ℕ
rank_of ms zero rem t g = 0
rank_of ms (suc k) rem t g =
    sum (block_size ms k rem t) (part_index ms k rem t (get_or g k 0)) + rank_of ms k (rem - get_or g k 0) (t + get_or g k 0) g
