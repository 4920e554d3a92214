-- The lists: for each sum all that the first parts can be, in Walsh's order, one list behind the other.
use Rattle.std.specs.Prelude.{◌≡◌, List, [], ◌++◌, ℕ, zero, suc, ◌+◌, ◌*◌, ◌≤◌, ◌<◌, min, length, get_or, take}
use Rattle.walsh.specs.Sums.{sum, sum_to}
use Rattle.walsh.specs.Order.{count_of}
use Rattle.step.specs.Batch.{copies_of}

-- f 0, then f 1, .. , then f (n - 1), one behind the other
unfoldable pub joined : (ℕ → List ℕ) → ℕ → List ℕ
joined f zero = []
joined f (suc n) = joined f n ++ f n

-- all compositions of the bounds u with the total s, one behind the other
abbrev pub all_of : List ℕ → ℕ → List ℕ
all_of u s = copies_of u s 1 (count_of u s)

-- those of the sums 0, .. , n - 1, and how many they are
abbrev pub lists_to : List ℕ → ℕ → List ℕ
lists_to u n = joined (all_of u) n

abbrev pub number_to : List ℕ → ℕ → ℕ
number_to u n = sum (count_of u) n

-- what is filled before the sum s: `number` entries, and in `starts` how many stand before the list of each sum
pub record ListedTo (u : List ℕ) (s number : ℕ) (entries starts : List ℕ) : Type 0 where
  pub number_is : number ≡ number_to u s
  pub held : take (number * length u) entries ≡ lists_to u s
  pub before : (k : ℕ) → k ≤ s → get_or starts k 0 ≡ number_to u k

-- the lists of the sums 0 to `most` are filled, and 16 bytes from an entry on can be read
pub record Lists (u : List ℕ) (most : ℕ) (entries starts : List ℕ) : Type 0 where
  pub listed : ListedTo u (suc most) (number_to u (suc most)) entries starts
  pub room : number_to u (suc most) * length u + 16 ≤ length entries

-- `number` is that of all compositions of u with the total s, and they stand at the beginning
pub record ListsAll (u : List ℕ) (s number : ℕ) (out : List ℕ) : Type 0 where
  pub some : 0 < length u
  pub number_is : number ≡ count_of u s
  pub room : number * length u ≤ length out
  pub held : take (number * length u) out ≡ all_of u s

-- the largest sum that the first w parts may have in a composition
abbrev pub most_of : List ℕ → ℕ → ℕ → ℕ
most_of ms r w = min r (sum_to ms w)

-- the lists of the first w parts, for each of their sums in a composition
pub record Known (ms : List ℕ) (r w : ℕ) (entries starts : List ℕ) : Type 0 where
  pub some : 0 < w
  pub narrow : w ≤ 16
  pub inside : w ≤ length ms
  pub lists : Lists (take w ms) (most_of ms r w) entries starts
  pub entry_bytes : length entries ≡ 12288
  pub start_cells : length starts ≡ 257
