-- Document 01, "Walsh's order": which lists are the compositions of a total under given bounds, in which order they stand, and how many
-- there are. A reader who believes this file, `Serial`, `Neighbours` and `Compare` need not read the others: those compute.
--
-- The document's mix g1..gn is a list g, its ceilings m1..mn a list ms of any numbers (0 too), its total r any number. Parts are counted from
-- 0 here: part k, `get_or g k 0`, is the document's g(k+1), and `sum_to ms k` is the sum of the bounds to its left.
use Rattle.std.specs.Prelude.{◌≡◌, refl, Bool, cond, List, [], ◌∷◌, ◌++◌, map, ℕ, zero, suc, ◌+◌, ◌-◌, ◌%◌, ◌≤◌, ◌<◌, min, eqb, length, get_or}
use Rattle.walsh.specs.Sums.{sum, flat, sum_to}

-- ---- compositions (the document's mixes)

-- the first k parts of g are within their bounds and sum to rem
pub record CompositionTo (ms : List ℕ) (k rem : ℕ) (g : List ℕ) : Type 0 where
  pub fits : (i : ℕ) → i < k → get_or g i 0 ≤ get_or ms i 0
  pub sums : sum_to g k ≡ rem

-- "A mix is n bytes g1..gn with 0 ≤ gi ≤ mi and sum r."
pub record Composition (ms : List ℕ) (r : ℕ) (g : List ℕ) : Type 0 where
  pub size : length g ≡ length ms
  pub parts : CompositionTo ms (length ms) r g

-- ---- the values of one part: the parts to its right sum to t, and rem = r - t is left for it and the parts to its left

-- "from max(0, r − t − (m1+..+m(i−1)))": `-` stops at 0
abbrev pub least : List ℕ → ℕ → ℕ → ℕ
least ms k rem = rem - sum_to ms k

-- "to min(mi, r − t)"
abbrev pub most : List ℕ → ℕ → ℕ → ℕ
most ms k rem = min (get_or ms k 0) rem

-- "It rises by ones if t is even and falls by ones if t is odd."
abbrev pub is_odd : ℕ → Bool
is_odd t = eqb (t % 2) 1

-- value number i, from 0, of the values lo..hi, and how many there are
abbrev pub value_at : ℕ → ℕ → Bool → ℕ → ℕ
value_at lo hi falling i = cond falling (hi - i) (lo + i)

abbrev pub choices : ℕ → ℕ → ℕ
choices lo hi = suc hi - lo

-- value number i of part k, and how many values it has
abbrev pub part_value : List ℕ → ℕ → ℕ → ℕ → ℕ → ℕ
part_value ms k rem t i = value_at (least ms k rem) (most ms k rem) (is_odd t) i

abbrev pub part_choices : List ℕ → ℕ → ℕ → ℕ
part_choices ms k rem = choices (least ms k rem) (most ms k rem)

-- ---- the order

-- each list of gs with v put behind it
abbrev pub behind : ℕ → List (List ℕ) → List (List ℕ)
behind v gs = map (λ (g : List ℕ). g ++ (v ∷ [])) gs

-- the first k parts, in their order, where the parts to the right sum to t and rem is left: for each value of the last of them, in its
-- direction, what the parts before it can then be. "Mixes with the same ending stand together."
unfoldable pub listing : List ℕ → ℕ → ℕ → ℕ → List (List ℕ)
listing ms zero zero t = [] ∷ []
listing ms zero (suc rem) t = []
listing ms (suc k) rem t =
    flat (λ i. behind (part_value ms k rem t i) (listing ms k (rem - part_value ms k rem t i) (t + part_value ms k rem t i)))
    (part_choices ms k rem)

-- "For i = n, t is 0."
unfoldable pub order : List ℕ → ℕ → List (List ℕ)
order ms r = listing ms (length ms) r 0

-- ---- the count

-- how many compositions of rem the first k parts have: for each value of the last of them, those that the parts before it have
unfoldable pub count : List ℕ → ℕ → ℕ → ℕ
count ms zero zero = 1
count ms zero (suc rem) = 0
count ms (suc k) rem = sum (λ v. count ms k (rem - v)) (suc (most ms k rem))

-- the document's N, "the number of mixes"
unfoldable pub count_of : List ℕ → ℕ → ℕ
count_of ms r = count ms (length ms) r

-- ---- the document's example, computed: ceilings 2 2 2 and total 3

abbrev pub three_twos : List ℕ
three_twos = 2 ∷ 2 ∷ 2 ∷ []

-- its seven mixes, as the document lists them
abbrev pub seven : List (List ℕ)
seven =
    (2 ∷ 1 ∷ 0 ∷ [])
    ∷ (1 ∷ 2 ∷ 0 ∷ [])
    ∷ (0 ∷ 2 ∷ 1 ∷ [])
    ∷ (1 ∷ 1 ∷ 1 ∷ [])
    ∷ (2 ∷ 0 ∷ 1 ∷ [])
    ∷ (1 ∷ 0 ∷ 2 ∷ [])
    ∷ (0 ∷ 1 ∷ 2 ∷ [])
    ∷ []

the_order : order three_twos 3 ≡ seven
unfolding order listing
the_order = refl

-- document 02, (ii): a kind withdrawn between the second and the third; the directions stay, and each mix has a 0 there
the_gap : order (2 ∷ 2 ∷ 0 ∷ 2 ∷ []) 3 ≡ map (λ (g : List ℕ). get_or g 0 0 ∷ get_or g 1 0 ∷ 0 ∷ get_or g 2 0 ∷ []) seven
unfolding order listing
the_gap = refl

-- "N is 7 and not 1"
the_count : count_of three_twos 3 ≡ 7
unfolding count_of count
the_count = refl
