-- Document 02, (vi), "Two copies on one order", computed of the model with the three copies of 1 1 1 of total 1.
use Rattle.std.specs.Prelude.{◌≡◌, refl, true, false, [], ◌∷◌, map}
use Rattle.walsh.specs.Order.{order, listing, count_of, count}
use Rattle.digits.specs.Digits.{weighted_sum}
use Rattle.bounds.specs.Refusal.{first_refusal}
use Rattle.bounds.specs.Edition.{cells_of}
use Rattle.model.specs.Entry.{entry, is_unsound, columns, over, put}
use Rattle.model.specs.Printing.{compositions}
use Rattle.model.specs.Model.{claim, claim_all, given, refused_with, answer, after, book_from}
use Rattle.model.specs.Bundle.{three_ones, replies}

-- "Buyers put two copies in a basket and the second is refused 20": no longer, but with the same item line it is, and the detail is the lowest such
-- serial; another number may have that item line
basket : replies
    (claim 1 (entry 1007 1)
    ∷ claim 2 (entry 1007 1)
    ∷ claim 2 (entry 1007 2)
    ∷ claim 3 (entry 1007 2)
    ∷ claim 3 (entry 1014 2)
    ∷ [])
    ≡ given three_ones 1 ∷ refused_with 20 1 ∷ given three_ones 2 ∷ refused_with 20 2 ∷ given three_ones 3 ∷ []
unfolding replies three_ones book_from answer after first_refusal compositions order listing count_of count cells_of weighted_sum
basket = refl

-- item lines 0 and 100 are 25, 99 is not; 17 stands before it, 6 and 18 behind it; the detail of 18 is the order number
item_lines : replies
    (claim 1 (entry 1007 0)
    ∷ claim 1 (entry 1007 100)
    ∷ claim 1 (entry 1007 99)
    ∷ claim 1 (entry 0 100)
    ∷ claim 4 (entry 1014 0)
    ∷ claim 1 (entry 1014 0)
    ∷ claim 1 (entry 1014 2)
    ∷ [])
    ≡ refused_with 25 0
    ∷ refused_with 25 0
    ∷ given three_ones 1
    ∷ refused_with 17 0
    ∷ refused_with 25 0
    ∷ refused_with 25 0
    ∷ refused_with 18 1007
    ∷ []
unfolding replies three_ones book_from answer after first_refusal compositions order listing count_of count cells_of weighted_sum
item_lines = refl

-- a bundle with an item line too few and one too many; with the same pair twice; and the three copies on one order
bundles : replies
    (claim_all 1 (columns (1007 ∷ 1014 ∷ []) (1 ∷ []))
    ∷ claim_all 1 (columns (1007 ∷ []) (1 ∷ 2 ∷ []))
    ∷ claim_all 1 (columns (1007 ∷ 1007 ∷ 1007 ∷ []) (1 ∷ 2 ∷ 1 ∷ []))
    ∷ claim_all 1 (columns (1007 ∷ 1007 ∷ 1007 ∷ []) (1 ∷ 2 ∷ 100 ∷ []))
    ∷ claim_all 1 (columns (1007 ∷ 1007 ∷ 1007 ∷ []) (1 ∷ 2 ∷ 3 ∷ []))
    ∷ [])
    ≡ refused_with 24 0 ∷ refused_with 24 0 ∷ refused_with 20 1 ∷ refused_with 25 0 ∷ given three_ones 1 ∷ []
unfolding replies three_ones book_from answer after first_refusal compositions order listing count_of count cells_of weighted_sum
bundles = refl

-- the lines that are 16: "over 99", "0 beside a nonzero order", "isn't 0 beside a spoilt one"
unsound_lines : map is_unsound (entry 7 1 ∷ entry 7 99 ∷ entry 0 0 ∷ entry 7 100 ∷ entry 0 100 ∷ entry 7 0 ∷ entry 0 1 ∷ [])
    ≡ false ∷ false ∷ false ∷ true ∷ true ∷ true ∷ true ∷ []
unsound_lines = refl

-- lines over the beginnings of two columns, and a line put at a place: the other entries stay
columns_over : over (columns (9 ∷ 8 ∷ 7 ∷ []) (6 ∷ 5 ∷ 4 ∷ [])) (entry 1007 1 ∷ entry 0 0 ∷ []) ≡ columns (1007 ∷ 0 ∷ 7 ∷ []) (1 ∷ 0 ∷ 4 ∷ [])
columns_over = refl

columns_put : put (columns (9 ∷ 8 ∷ 7 ∷ []) (6 ∷ 5 ∷ 4 ∷ [])) 1 (entry 1007 2 ∷ []) ≡ columns (9 ∷ 1007 ∷ 7 ∷ []) (6 ∷ 2 ∷ 4 ∷ [])
columns_put = refl
