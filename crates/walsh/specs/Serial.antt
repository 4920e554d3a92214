-- Document 01, "Serial and mix": the serial of a composition, and the composition of a serial, read off the order.
use Rattle.std.specs.Prelude.{◌≡◌, refl, Bool, true, false, cond, List, [], ◌∷◌, ℕ, suc, ◌-◌, eqb, get_or}
use Rattle.walsh.specs.Tests.{both}
use Rattle.walsh.specs.Order.{listing, order, three_twos}

-- two lists of numbers are the same
unfoldable pub same : List ℕ → List ℕ → Bool
same [] [] = true
same [] (y ∷ ys) = false
same (x ∷ xs) [] = false
same (x ∷ xs) (y ∷ ys) = both (eqb x y) (same xs ys)

-- how many entries of a list stand before g
unfoldable pub place_of : List ℕ → List (List ℕ) → ℕ
place_of g [] = 0
place_of g (h ∷ hs) = cond (same h g) 0 (suc (place_of g hs))

-- "The serial is 1 plus the number of mixes before this one."
unfoldable pub serial_of : List ℕ → ℕ → List ℕ → ℕ
serial_of ms r g = suc (place_of g (order ms r))

-- the composition of serial s
unfoldable pub composition_of : List ℕ → ℕ → ℕ → List ℕ
composition_of ms r s = get_or (order ms r) (s - 1) []

-- the document's copy B
the_serial : serial_of three_twos 3 (0 ∷ 2 ∷ 1 ∷ []) ≡ 3
unfolding serial_of place_of same order listing
the_serial = refl
