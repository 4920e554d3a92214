-- Document 01, "Listing program": lines one behind the other. "It prints one line for each copy: serial, a space, the counts parted by spaces."
-- Document 02, request (i): "Each listing line ends with a space, `+` and the gaining kind, a space, `-` and the losing kind."
use Rattle.std.specs.Prelude.{◌≡◌, refl, cond, List, [], ◌∷◌, ◌++◌, ℕ, zero, suc, ◌-◌, leb, length}
use Rattle.walsh.specs.Order.{order, listing, three_twos}
use Rattle.walsh.specs.Serial.{composition_of}
use Rattle.walsh.specs.Transition.{gain_from, transition_at}
use Rattle.walsh.specs.declared.Transition.{Transition}
use Rattle.request.specs.Text.{digits_of, decimal}

-- each count with a space (32) in front, then the text e
unfoldable pub counts_then : List ℕ → List ℕ → List ℕ
counts_then [] e = e
counts_then (n ∷ ns) e = 32 ∷ (decimal n ++ counts_then ns e)

-- a space, a sign, a kind
abbrev pub signed : ℕ → ℕ → List ℕ
signed sign k = 32 ∷ sign ∷ decimal k

-- "a space, `+` (43) and the gaining kind, a space, `-` (45) and the losing kind"; a line feed (10) ends the line
unfoldable pub pair_end : Transition → List ℕ
pair_end x = signed 43 x.gain ++ (signed 45 x.loss ++ (10 ∷ []))

-- the line of a serial, its counts and its pair
unfoldable pub copy_line : ℕ → List ℕ → Transition → List ℕ
copy_line s g x = decimal s ++ counts_then g (pair_end x)

-- the line of the serial s
unfoldable pub line_at : List ℕ → ℕ → ℕ → List ℕ
line_at ms r s = copy_line s (composition_of ms r s) (transition_at ms r s)

-- n lines, from line k on
unfoldable pub lines_of : (ℕ → List ℕ) → ℕ → ℕ → List ℕ
lines_of line_of k zero = []
lines_of line_of k (suc n) = line_of k ++ lines_of line_of (suc k) n

-- how many of them fit whole into so many bytes
unfoldable pub fitting : (ℕ → List ℕ) → ℕ → ℕ → ℕ → ℕ
fitting line_of k zero room = 0
fitting line_of k (suc n) room =
    cond (leb (length (line_of k)) room) (suc (fitting line_of (suc k) n (room - length (line_of k)))) 0

-- ---- computed: the document's first line, `1 2 1 0 +0 -0`, and its sixth, `6 1 0 2 +3 -1`

the_first : line_at three_twos 3 1 ≡ 49 ∷ 32 ∷ 50 ∷ 32 ∷ 49 ∷ 32 ∷ 48 ∷ 32 ∷ 43 ∷ 48 ∷ 32 ∷ 45 ∷ 48 ∷ 10 ∷ []
unfolding line_at copy_line counts_then pair_end transition_at gain_from composition_of order listing decimal digits_of
the_first = refl

the_sixth : line_at three_twos 3 6 ≡ 54 ∷ 32 ∷ 49 ∷ 32 ∷ 48 ∷ 32 ∷ 50 ∷ 32 ∷ 43 ∷ 51 ∷ 32 ∷ 45 ∷ 49 ∷ 10 ∷ []
unfolding line_at copy_line counts_then pair_end transition_at gain_from composition_of order listing decimal digits_of
the_sixth = refl

-- of its seven lines of 14 bytes, three fit into 55 bytes
the_fitting : fitting (line_at three_twos 3) 1 7 55 ≡ 3
unfolding fitting line_at copy_line counts_then pair_end transition_at gain_from composition_of order listing decimal digits_of
the_fitting = refl
