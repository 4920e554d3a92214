-- Number 20 of a bundle of orders: "this order stands in an earlier line". They are to be written one after another, so that the earlier lines of an
-- order are the lines written and the orders of the bundle before it.
use Rattle.std.specs.Prelude.{◌≡◌, refl, Bool, cond, List, [], ◌∷◌, ◌++◌, ℕ, suc, ltb, length}
use Rattle.model.specs.Basics.{first_place}
use Rattle.model.specs.Entry.{Entry, entry, same_order}

-- the order of e stands in one of the lines l
abbrev pub stands_in : List Entry → Entry → Bool
stands_in l e = ltb (first_place (same_order e) l) (length l)

-- orders es that are to be written behind the lines l: the first that stands in an earlier line, by its place among them; their number where there is
-- none
unfoldable pub first_again : List Entry → List Entry → ℕ
first_again l [] = 0
first_again l (e ∷ es) = cond (stands_in l e) 0 (suc (first_again (l ++ (e ∷ [])) es))

-- the lowest line that it stands in, by its place; the number of all lines where there is none
unfoldable pub place_again : List Entry → List Entry → ℕ
place_again l [] = length l
place_again l (e ∷ es) = cond (stands_in l e) (first_place (same_order e) l) (place_again (l ++ (e ∷ [])) es)

-- for example, the second of three orders stands in the second line, and in the third; the first has its number but another item line
written_before : (first_again (entry 4 1 ∷ entry 7 1 ∷ entry 7 1 ∷ []) (entry 7 2 ∷ entry 7 1 ∷ entry 4 1 ∷ []) ≡ 1)
    × (place_again (entry 4 1 ∷ entry 7 1 ∷ entry 7 1 ∷ []) (entry 7 2 ∷ entry 7 1 ∷ entry 4 1 ∷ []) ≡ 1)
unfolding first_again place_again
written_before = (refl, refl)

-- the third is the first once more, whose line is to be the third
twice : (first_again (entry 4 1 ∷ entry 7 1 ∷ []) (entry 9 1 ∷ entry 9 2 ∷ entry 9 1 ∷ []) ≡ 2)
    × (place_again (entry 4 1 ∷ entry 7 1 ∷ []) (entry 9 1 ∷ entry 9 2 ∷ entry 9 1 ∷ []) ≡ 2)
unfolding first_again place_again
twice = (refl, refl)

-- and three that are new
all_new : (first_again (entry 4 1 ∷ entry 7 1 ∷ []) (entry 9 1 ∷ entry 5 1 ∷ entry 4 2 ∷ []) ≡ 3)
    × (place_again (entry 4 1 ∷ entry 7 1 ∷ []) (entry 9 1 ∷ entry 5 1 ∷ entry 4 2 ∷ []) ≡ 5)
unfolding first_again place_again
all_new = (refl, refl)
