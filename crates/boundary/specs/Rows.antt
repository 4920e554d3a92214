-- Document 01, "Boundary copies": the table, with the pairs of document 02, (i), and rows for the withdrawn kinds of (ii), the permutations by
-- major index of (iii), the bundles of (v), the item lines of (vi) and the mistyped orders of (vii).
use Rattle.std.specs.Prelude.{List, [], ◌∷◌, map, ℕ, ◌+◌, ◌-◌, ◌*◌, ◌%◌, replicate}
use Rattle.walsh.specs.Order.{three_twos, seven}
use Rattle.walsh.specs.Withdrawn.{gapped}
use Rattle.digits.specs.Digits.{weighted_sum}
use Rattle.mahonian.specs.Staircase.{staircase}
use Rattle.permutation.specs.Reading.{by_inversions}
use Rattle.major.specs.Major.{up_to}
use Rattle.major.specs.Reading.{by_major}
use Rattle.model.specs.Entry.{entry, Lent, columns}
use Rattle.model.specs.Model.{peek, claim, void, claim_all}
use Rattle.boundary.specs.Row.{Claim, lists, counts, refused, serial, next, back, pairs, alone, opens, answers, looks}
use Rattle.boundary.specs.Row.{permutations, reads, unread, no_puzzle, Row}

abbrev row : List ℕ → ℕ → Claim → Row
row ms r what = record { bounds = ms; total = r; claim = what }

-- n orders, 1007, 1014, 1021 and so on: 100, 101, 102 and so on, each with the digit behind it that makes the weighted sum a multiple of ten
abbrev orders_to : ℕ → List ℕ
orders_to n = map (λ (k : ℕ). (let m = 10 * (99 + k) in m + (10 - weighted_sum m % 10) % 10)) (up_to n)

-- orders with item line 1 each
abbrev ones : List ℕ → Lent
ones os = columns os (map (λ _. 1) os)

unfoldable pub rows : List Row
rows =
    -- A: the seven compositions of 2 2 2 with total 3, and their pairs; B: the third of them; C: what follows the fifth, and the way back
    row three_twos 3 (lists seven)
    ∷ row three_twos 3 (pairs ((0, 0) ∷ (2, 1) ∷ (3, 1) ∷ (1, 2) ∷ (1, 2) ∷ (3, 1) ∷ (2, 1) ∷ []))
    ∷ row three_twos 3 (serial (0 ∷ 2 ∷ 1 ∷ []) 3)
    ∷ row three_twos 3 (next (2 ∷ 0 ∷ 1 ∷ []) (1 ∷ 0 ∷ 2 ∷ []) 3 1)
    ∷ row three_twos 3 (back (1 ∷ 0 ∷ 2 ∷ []) (2 ∷ 0 ∷ 1 ∷ []) 1 3)
    -- D
    ∷ row three_twos 5 (lists ((2 ∷ 2 ∷ 1 ∷ []) ∷ (2 ∷ 1 ∷ 2 ∷ []) ∷ (1 ∷ 2 ∷ 2 ∷ []) ∷ []))
    -- E: one bound of 5
    ∷ row (5 ∷ []) 5 (lists ((5 ∷ []) ∷ []))
    ∷ row (5 ∷ []) 5 (counts 1)
    ∷ row (5 ∷ []) 6 (refused 4 0)
    -- F: bounds 2 2, from the smallest total to one over the largest
    ∷ row (2 ∷ 2 ∷ []) 0 (lists ((0 ∷ 0 ∷ []) ∷ []))
    ∷ row (2 ∷ 2 ∷ []) 4 (counts 1)
    ∷ row (2 ∷ 2 ∷ []) 5 (refused 4 0)
    -- G: the staircase of four
    ∷ row (3 ∷ 2 ∷ 1 ∷ []) 3
    (lists ((3 ∷ 0 ∷ 0 ∷ []) ∷ (2 ∷ 1 ∷ 0 ∷ []) ∷ (1 ∷ 2 ∷ 0 ∷ []) ∷ (0 ∷ 2 ∷ 1 ∷ []) ∷ (1 ∷ 1 ∷ 1 ∷ []) ∷ (2 ∷ 0 ∷ 1 ∷ []) ∷ []))
    ∷ row (3 ∷ 2 ∷ 1 ∷ []) 3
    (permutations by_inversions
    ((4 ∷ 1 ∷ 2 ∷ 3 ∷ []) ∷ (3 ∷ 2 ∷ 1 ∷ 4 ∷ []) ∷ (2 ∷ 4 ∷ 1 ∷ 3 ∷ []) ∷ (1 ∷ 4 ∷ 3 ∷ 2 ∷ []) ∷ (2 ∷ 3 ∷ 4 ∷ 1 ∷ []) ∷ (3 ∷ 1 ∷ 4 ∷ 2 ∷ []) ∷ []))
    -- H: the staircase of three
    ∷ row (2 ∷ 1 ∷ []) 1 (permutations by_inversions ((2 ∷ 1 ∷ 3 ∷ []) ∷ (1 ∷ 3 ∷ 2 ∷ []) ∷ []))
    -- I: bounds 1 1 with total 1, two workers: look 1, look 1, take 1 for 1007, take 1 for 1014, take 2 for 1014, look; "The takes of cases I and J name
    -- item line 1"
    ∷ row (1 ∷ 1 ∷ []) 1
    (answers
    ((peek, 0 ∷ 0 ∷ 1 ∷ 1 ∷ 0 ∷ [], 0, 0)
    ∷ (peek, 0 ∷ 0 ∷ 1 ∷ 1 ∷ 0 ∷ [], 0, 0)
    ∷ (claim 1 (entry 1007 1), 0 ∷ 0 ∷ 1 ∷ 1 ∷ 0 ∷ [], 0, 0)
    ∷ (claim 1 (entry 1014 1), 18 ∷ 1007 ∷ [], 0, 0)
    ∷ (claim 2 (entry 1014 1), 0 ∷ 0 ∷ 2 ∷ 0 ∷ 1 ∷ [], 0, 0)
    ∷ (peek, 21 ∷ [], 0, 0)
    ∷ []))
    -- between I's two sales a look sees serial 2, with its pair
    ∷ row (1 ∷ 1 ∷ []) 1 (answers ((claim 1 (entry 1007 1), 0 ∷ 0 ∷ 1 ∷ 1 ∷ 0 ∷ [], 0, 0) ∷ (peek, 0 ∷ 0 ∷ 2 ∷ 0 ∷ 1 ∷ [], 2, 1) ∷ []))
    -- J: the same edition: spoil 1, take 1 for 1007
    ∷ row (1 ∷ 1 ∷ []) 1 (answers ((void 1, 0 ∷ 0 ∷ 1 ∷ 1 ∷ 0 ∷ [], 0, 0) ∷ (claim 1 (entry 1007 1), 18 ∷ 0 ∷ [], 0, 0) ∷ []))
    -- beside the document's copies: 17, 6, 19 and 20, and which comes first where two of a call's checks hold
    ∷ row three_twos 3
    (answers
    ((claim 1 (entry 0 1), 17 ∷ [], 0, 0)
    ∷ (claim 0 (entry 1007 1), 6 ∷ [], 0, 0)
    ∷ (claim 8 (entry 1007 1), 6 ∷ [], 0, 0)
    ∷ (void 0, 6 ∷ [], 0, 0)
    ∷ (void 8, 6 ∷ [], 0, 0)
    ∷ (claim 2 (entry 1007 1), 19 ∷ 1 ∷ [], 0, 0)
    ∷ (claim 7 (entry 1007 1), 19 ∷ 1 ∷ [], 0, 0)
    ∷ (void 2, 19 ∷ 1 ∷ [], 0, 0)
    ∷ (claim 1 (entry 1007 1), 0 ∷ 0 ∷ 1 ∷ 2 ∷ 1 ∷ 0 ∷ [], 0, 0)
    ∷ (claim 2 (entry 1007 1), 20 ∷ 1 ∷ [], 0, 0)
    ∷ (void 2, 0 ∷ 0 ∷ 2 ∷ 1 ∷ 2 ∷ 0 ∷ [], 0, 0)
    ∷ (claim 3 (entry 1014 1), 0 ∷ 0 ∷ 3 ∷ 0 ∷ 2 ∷ 1 ∷ [], 0, 0)
    ∷ (claim 4 (entry 1014 1), 20 ∷ 3 ∷ [], 0, 0)
    ∷ (claim 4 (entry 1007 1), 20 ∷ 1 ∷ [], 0, 0)
    ∷ (void 3, 18 ∷ 1014 ∷ [], 0, 0)
    -- 17 before 6, 18 and 19; 6, 18 and 19 before 20
    ∷ (claim 0 (entry 0 1), 17 ∷ [], 0, 0)
    ∷ (claim 1 (entry 0 1), 17 ∷ [], 0, 0)
    ∷ (claim 5 (entry 0 1), 17 ∷ [], 0, 0)
    ∷ (claim 8 (entry 1007 1), 6 ∷ [], 0, 0)
    ∷ (claim 2 (entry 1007 1), 18 ∷ 0 ∷ [], 0, 0)
    ∷ (claim 5 (entry 1007 1), 19 ∷ 4 ∷ [], 0, 0)
    ∷ (peek, 0 ∷ 0 ∷ 4 ∷ 1 ∷ 1 ∷ 1 ∷ [], 1, 2)
    ∷ []))
    -- three copies, until the last is sold and beyond
    ∷ row (1 ∷ 1 ∷ 1 ∷ []) 1
    (answers
    ((void 1, 0 ∷ 0 ∷ 1 ∷ 1 ∷ 0 ∷ 0 ∷ [], 0, 0)
    ∷ (peek, 0 ∷ 0 ∷ 2 ∷ 0 ∷ 1 ∷ 0 ∷ [], 2, 1)
    ∷ (claim 2 (entry 1007 1), 0 ∷ 0 ∷ 2 ∷ 0 ∷ 1 ∷ 0 ∷ [], 0, 0)
    ∷ (claim 3 (entry 1007 1), 20 ∷ 2 ∷ [], 0, 0)
    ∷ (peek, 0 ∷ 0 ∷ 3 ∷ 0 ∷ 0 ∷ 1 ∷ [], 3, 2)
    ∷ (claim 3 (entry 1014 1), 0 ∷ 0 ∷ 3 ∷ 0 ∷ 0 ∷ 1 ∷ [], 0, 0)
    ∷ (peek, 21 ∷ [], 0, 0)
    ∷ (claim 3 (entry 1021 1), 18 ∷ 1014 ∷ [], 0, 0)
    ∷ (claim 4 (entry 1021 1), 6 ∷ [], 0, 0)
    ∷ (void 4, 6 ∷ [], 0, 0)
    ∷ []))
    -- document 02, (v): bundles on 2 2 2 with total 3
    ∷ row three_twos 3
    (answers
    -- 24 before 6; then 17, 6, 19 of the first take; of a later one 20, with the serial the order would have had, and 17
    ((claim_all 0 (ones []), 24 ∷ [], 0, 0)
    ∷ (claim_all 1 (ones (0 ∷ 1007 ∷ [])), 17 ∷ [], 0, 0)
    ∷ (claim_all 0 (ones (1007 ∷ [])), 6 ∷ [], 0, 0)
    ∷ (claim_all 8 (ones (1007 ∷ 1007 ∷ [])), 6 ∷ [], 0, 0)
    ∷ (claim_all 2 (ones (1007 ∷ 1014 ∷ [])), 19 ∷ 1 ∷ [], 0, 0)
    ∷ (claim_all 1 (ones (1007 ∷ 1014 ∷ 1007 ∷ [])), 20 ∷ 1 ∷ [], 0, 0)
    ∷ (claim_all 1 (ones (1007 ∷ 0 ∷ 1007 ∷ [])), 17 ∷ [], 0, 0)
    -- none has written a line; two copies, and the first of two written already
    ∷ (peek, 0 ∷ 0 ∷ 1 ∷ 2 ∷ 1 ∷ 0 ∷ [], 0, 0)
    ∷ (claim_all 1 (ones (1007 ∷ 1014 ∷ [])), 0 ∷ 0 ∷ 1 ∷ 2 ∷ 1 ∷ 0 ∷ [], 0, 0)
    ∷ (claim_all 2 (ones (1021 ∷ [])), 18 ∷ 1014 ∷ [], 0, 0)
    ∷ (peek, 0 ∷ 0 ∷ 3 ∷ 0 ∷ 2 ∷ 1 ∷ [], 3, 1)
    -- 20 of a line written before, and of the bundle's own first
    ∷ (claim_all 3 (ones (1021 ∷ 1014 ∷ [])), 20 ∷ 2 ∷ [], 0, 0)
    ∷ (claim_all 3 (ones (1021 ∷ 1038 ∷ 1038 ∷ [])), 20 ∷ 4 ∷ [], 0, 0)
    ∷ (void 3, 0 ∷ 0 ∷ 3 ∷ 0 ∷ 2 ∷ 1 ∷ [], 0, 0)
    -- five orders for the four that are left: 6, before 20 and behind 17; 20 where it comes earlier
    ∷ (claim_all 4 (ones (1021 ∷ 1038 ∷ 1045 ∷ 1052 ∷ 1069 ∷ [])), 6 ∷ [], 0, 0)
    ∷ (claim_all 4 (ones (1021 ∷ 1038 ∷ 1045 ∷ 1052 ∷ 1007 ∷ [])), 6 ∷ [], 0, 0)
    ∷ (claim_all 4 (ones (1021 ∷ 1038 ∷ 1045 ∷ 1052 ∷ 0 ∷ [])), 17 ∷ [], 0, 0)
    ∷ (claim_all 4 (ones (1021 ∷ 1038 ∷ 1007 ∷ 1052 ∷ 0 ∷ [])), 20 ∷ 1 ∷ [], 0, 0)
    ∷ (claim_all 4 (ones (1021 ∷ 1038 ∷ 1045 ∷ 1052 ∷ [])), 0 ∷ 0 ∷ 4 ∷ 1 ∷ 1 ∷ 1 ∷ [], 0, 0)
    ∷ (peek, 21 ∷ [], 0, 0)
    ∷ (claim_all 7 (ones (1069 ∷ [])), 18 ∷ 1052 ∷ [], 0, 0)
    ∷ (claim_all 8 (ones (1069 ∷ [])), 6 ∷ [], 0, 0)
    ∷ []))
    -- bundles of 41, of 40 with 41 item lines, and of 40, on an edition of 45 copies, whose last 5 are then too few for 6 orders
    ∷ row (8 ∷ 8 ∷ 8 ∷ []) 8
    (answers
    ((claim_all 1 (ones (orders_to 41)), 24 ∷ [], 0, 0)
    ∷ (claim_all 1 (columns (orders_to 40) (replicate 41 1)), 24 ∷ [], 0, 0)
    ∷ (claim_all 1 (ones (orders_to 40)), 0 ∷ 0 ∷ 1 ∷ 8 ∷ 0 ∷ 0 ∷ [], 0, 0)
    ∷ (claim_all 41 (ones (1403 ∷ 1410 ∷ 1427 ∷ 1434 ∷ 1441 ∷ 1458 ∷ [])), 6 ∷ [], 0, 0)
    ∷ (claim_all 41 (ones (1403 ∷ 1410 ∷ 1427 ∷ 1434 ∷ 1397 ∷ [])), 20 ∷ 40 ∷ [], 0, 0)
    ∷ (claim_all 41 (ones (1403 ∷ 1410 ∷ 1427 ∷ 1434 ∷ 1441 ∷ [])), 0 ∷ 0 ∷ 41 ∷ 1 ∷ 1 ∷ 6 ∷ [], 0, 0)
    ∷ (peek, 21 ∷ [], 0, 0)
    ∷ []))
    -- document 02, (vi), "Two copies on one order": 25 for item lines 0 and 100, behind 17 and before 6, 18 and 19; 1007 with item lines 1 and 2, and
    -- 20 for each of them again; the detail of 18 is the order number; item line 99
    ∷ row (1 ∷ 1 ∷ 1 ∷ []) 1
    (answers
    ((claim 1 (entry 1007 0), 25 ∷ [], 0, 0)
    ∷ (claim 1 (entry 1007 100), 25 ∷ [], 0, 0)
    ∷ (claim 1 (entry 0 0), 17 ∷ [], 0, 0)
    ∷ (claim 4 (entry 1007 0), 25 ∷ [], 0, 0)
    ∷ (claim 2 (entry 1007 100), 25 ∷ [], 0, 0)
    ∷ (claim 1 (entry 1007 1), 0 ∷ 0 ∷ 1 ∷ 1 ∷ 0 ∷ 0 ∷ [], 0, 0)
    ∷ (claim 1 (entry 1007 255), 25 ∷ [], 0, 0)
    ∷ (claim 2 (entry 1007 1), 20 ∷ 1 ∷ [], 0, 0)
    ∷ (claim 2 (entry 1007 2), 0 ∷ 0 ∷ 2 ∷ 0 ∷ 1 ∷ 0 ∷ [], 0, 0)
    ∷ (claim 3 (entry 1007 2), 20 ∷ 2 ∷ [], 0, 0)
    ∷ (claim 2 (entry 1007 3), 18 ∷ 1007 ∷ [], 0, 0)
    ∷ (claim 3 (entry 1014 99), 0 ∷ 0 ∷ 3 ∷ 0 ∷ 0 ∷ 1 ∷ [], 0, 0)
    ∷ (peek, 21 ∷ [], 0, 0)
    ∷ []))
    -- bundles with an item line too few or too many, 24 before 6; 20 for a pair that stands twice, 25 of a later take; three copies on one order
    ∷ row (1 ∷ 1 ∷ 1 ∷ []) 1
    (answers
    ((claim_all 1 (columns (1007 ∷ 1014 ∷ []) (1 ∷ [])), 24 ∷ [], 0, 0)
    ∷ (claim_all 0 (columns (1007 ∷ []) (1 ∷ 2 ∷ [])), 24 ∷ [], 0, 0)
    ∷ (claim_all 1 (columns (1007 ∷ []) []), 24 ∷ [], 0, 0)
    ∷ (claim_all 1 (columns (1007 ∷ 1007 ∷ 1007 ∷ []) (1 ∷ 2 ∷ 1 ∷ [])), 20 ∷ 1 ∷ [], 0, 0)
    ∷ (claim_all 1 (columns (1007 ∷ 1007 ∷ []) (1 ∷ 100 ∷ [])), 25 ∷ [], 0, 0)
    ∷ (peek, 0 ∷ 0 ∷ 1 ∷ 1 ∷ 0 ∷ 0 ∷ [], 0, 0)
    ∷ (claim_all 1 (columns (1007 ∷ 1007 ∷ 1007 ∷ []) (1 ∷ 2 ∷ 3 ∷ [])), 0 ∷ 0 ∷ 1 ∷ 1 ∷ 0 ∷ 0 ∷ [], 0, 0)
    ∷ (peek, 21 ∷ [], 0, 0)
    ∷ []))
    -- "The opening check of 15 covers both columns"
    ∷ row (1 ∷ 1 ∷ 1 ∷ []) 1 (opens 3 3 0)
    ∷ row (1 ∷ 1 ∷ 1 ∷ []) 1 (opens 3 2 15)
    ∷ row (1 ∷ 1 ∷ 1 ∷ []) 1 (opens 2 3 15)
    -- 16 of a sale and a spoilt line: an item line over 99, 0 beside the sale (a column from before, "beside sales made earlier I write a 1 in myself"), 1
    -- beside the spoilt one, and an item column too short; past the lines anything may stand
    ∷ row (1 ∷ 1 ∷ 1 ∷ []) 1
    (looks (claim 1 (entry 1007 1) ∷ void 2 ∷ [])
    ((columns (1007 ∷ 0 ∷ 9 ∷ []) (1 ∷ 0 ∷ 200 ∷ []), 0 ∷ 0 ∷ 3 ∷ 0 ∷ 0 ∷ 1 ∷ [], 3, 2)
    ∷ (columns (1007 ∷ 0 ∷ 9 ∷ []) (99 ∷ 0 ∷ 0 ∷ []), 0 ∷ 0 ∷ 3 ∷ 0 ∷ 0 ∷ 1 ∷ [], 3, 2)
    ∷ (columns (1007 ∷ 0 ∷ 9 ∷ []) (100 ∷ 0 ∷ 0 ∷ []), 16 ∷ [], 0, 0)
    ∷ (columns (1007 ∷ 0 ∷ 9 ∷ []) (0 ∷ 0 ∷ 0 ∷ []), 16 ∷ [], 0, 0)
    ∷ (columns (1007 ∷ 0 ∷ 9 ∷ []) (1 ∷ 1 ∷ 0 ∷ []), 16 ∷ [], 0, 0)
    ∷ (columns (1007 ∷ 0 ∷ 9 ∷ []) (1 ∷ 100 ∷ 0 ∷ []), 16 ∷ [], 0, 0)
    ∷ (columns (1007 ∷ 0 ∷ 9 ∷ []) (1 ∷ 0 ∷ []), 16 ∷ [], 0, 0)
    ∷ []))
    -- document 02, (vii), "Mistyped order numbers": 26 behind 17 and before 25, 6, 18, 19 and 20; 1007 with a digit mistyped, and with the last two
    -- exchanged; the largest number of 32 bits, and the largest that passes; a spoil has no check
    ∷ row (1 ∷ 1 ∷ 1 ∷ []) 1
    (answers
    ((claim 1 (entry 1008 1), 26 ∷ [], 0, 0)
    ∷ (claim 1 (entry 0 100), 17 ∷ [], 0, 0)
    ∷ (claim 1 (entry 1008 0), 26 ∷ [], 0, 0)
    ∷ (claim 4 (entry 1008 1), 26 ∷ [], 0, 0)
    ∷ (claim 2 (entry 1070 1), 26 ∷ [], 0, 0)
    ∷ (claim 1 (entry 1007 1), 0 ∷ 0 ∷ 1 ∷ 1 ∷ 0 ∷ 0 ∷ [], 0, 0)
    ∷ (claim 1 (entry 1008 1), 26 ∷ [], 0, 0)
    ∷ (claim 2 (entry 4294967295 1), 26 ∷ [], 0, 0)
    ∷ (claim 2 (entry 4294967292 1), 0 ∷ 0 ∷ 2 ∷ 0 ∷ 1 ∷ 0 ∷ [], 0, 0)
    ∷ (void 3, 0 ∷ 0 ∷ 3 ∷ 0 ∷ 0 ∷ 1 ∷ [], 0, 0)
    ∷ []))
    -- of a bundle: 24 before 26; of the first take before 6, of a later one behind 20 of the one before it and before its own 25, and none is written
    ∷ row (1 ∷ 1 ∷ 1 ∷ []) 1
    (answers
    ((claim_all 1 (columns (1008 ∷ []) []), 24 ∷ [], 0, 0)
    ∷ (claim_all 4 (ones (1008 ∷ 1007 ∷ [])), 26 ∷ [], 0, 0)
    ∷ (claim_all 1 (columns (1007 ∷ 1008 ∷ []) (1 ∷ 0 ∷ [])), 26 ∷ [], 0, 0)
    ∷ (claim_all 1 (ones (1007 ∷ 1007 ∷ 1008 ∷ [])), 20 ∷ 1 ∷ [], 0, 0)
    ∷ (claim_all 1 (ones (1007 ∷ 1014 ∷ 1021 ∷ 1008 ∷ [])), 26 ∷ [], 0, 0)
    ∷ (peek, 0 ∷ 0 ∷ 1 ∷ 1 ∷ 0 ∷ 0 ∷ [], 0, 0)
    ∷ []))
    -- "Registers begun before stay readable, since 16 doesn't look at it": a line of 1008
    ∷ row (1 ∷ 1 ∷ 1 ∷ []) 1
    (looks (claim 1 (entry 1007 1) ∷ []) ((columns (1008 ∷ 0 ∷ 0 ∷ []) (1 ∷ 0 ∷ 0 ∷ []), 0 ∷ 0 ∷ 2 ∷ 0 ∷ 1 ∷ 0 ∷ [], 2, 1) ∷ []))
    -- document 02, (ii): the copies A to C with the second kind of 2 0 2 2 withdrawn; the kinds of a pair are the edition's
    ∷ row gapped 3
    (lists
    ((2 ∷ 0 ∷ 1 ∷ 0 ∷ [])
    ∷ (1 ∷ 0 ∷ 2 ∷ 0 ∷ [])
    ∷ (0 ∷ 0 ∷ 2 ∷ 1 ∷ [])
    ∷ (1 ∷ 0 ∷ 1 ∷ 1 ∷ [])
    ∷ (2 ∷ 0 ∷ 0 ∷ 1 ∷ [])
    ∷ (1 ∷ 0 ∷ 0 ∷ 2 ∷ [])
    ∷ (0 ∷ 0 ∷ 1 ∷ 2 ∷ [])
    ∷ []))
    ∷ row gapped 3 (pairs ((0, 0) ∷ (3, 1) ∷ (4, 1) ∷ (1, 3) ∷ (1, 3) ∷ (4, 1) ∷ (3, 1) ∷ []))
    ∷ row gapped 3 (serial (0 ∷ 0 ∷ 2 ∷ 1 ∷ []) 3)
    ∷ row gapped 3 (next (2 ∷ 0 ∷ 0 ∷ 1 ∷ []) (1 ∷ 0 ∷ 0 ∷ 2 ∷ []) 4 1)
    ∷ row gapped 3 (back (1 ∷ 0 ∷ 0 ∷ 2 ∷ []) (2 ∷ 0 ∷ 0 ∷ 1 ∷ []) 1 4)
    -- copy I with a kind withdrawn before each
    ∷ row (0 ∷ 1 ∷ 0 ∷ 1 ∷ []) 1
    (answers
    ((peek, 0 ∷ 0 ∷ 1 ∷ 0 ∷ 1 ∷ 0 ∷ 0 ∷ [], 0, 0)
    ∷ (claim 1 (entry 1007 1), 0 ∷ 0 ∷ 1 ∷ 0 ∷ 1 ∷ 0 ∷ 0 ∷ [], 0, 0)
    ∷ (claim 1 (entry 1021 1), 18 ∷ 1007 ∷ [], 0, 0)
    ∷ (peek, 0 ∷ 0 ∷ 2 ∷ 0 ∷ 0 ∷ 0 ∷ 1 ∷ [], 4, 2)
    ∷ (claim 2 (entry 1021 1), 0 ∷ 0 ∷ 2 ∷ 0 ∷ 0 ∷ 0 ∷ 1 ∷ [], 0, 0)
    ∷ (peek, 21 ∷ [], 0, 0)
    ∷ []))
    -- all kinds withdrawn: one composition, and a ledger of one entry; with a total 4
    ∷ row (0 ∷ 0 ∷ []) 0 (lists ((0 ∷ 0 ∷ []) ∷ []))
    ∷ row (0 ∷ 0 ∷ []) 0 (counts 1)
    ∷ row (0 ∷ 0 ∷ []) 0 (alone (0 ∷ 0 ∷ []))
    ∷ row (0 ∷ 0 ∷ []) 0 (answers ((peek, 0 ∷ 0 ∷ 1 ∷ [], 0, 0) ∷ (claim 1 (entry 1007 1), 0 ∷ 0 ∷ 1 ∷ [], 0, 0) ∷ (peek, 21 ∷ [], 0, 0) ∷ []))
    ∷ row (replicate 24 0) 0 (counts 1)
    ∷ row (0 ∷ 0 ∷ []) 1 (refused 4 0)
    -- a 0 before a 61 is not the first such kind, and a withdrawn kind counts among the 24
    ∷ row (0 ∷ 61 ∷ []) 1 (refused 2 2)
    ∷ row (1 ∷ 0 ∷ 61 ∷ []) 256 (refused 2 3)
    ∷ row (0 ∷ replicate 24 1) 12 (refused 1 0)
    -- "puzzle editions keep their ceilings"
    ∷ row (2 ∷ 1 ∷ 0 ∷ []) 1 (no_puzzle by_inversions (1 ∷ 0 ∷ 0 ∷ []) (2 ∷ 1 ∷ 3 ∷ 4 ∷ []))
    ∷ row (2 ∷ 0 ∷ 1 ∷ []) 1 (no_puzzle by_inversions (1 ∷ 0 ∷ 0 ∷ []) (2 ∷ 1 ∷ 3 ∷ 4 ∷ []))
    -- document 02, (iii): "Three sheets, total 1: mix 1 0 gives 312 and mix 0 1 gives 213"; copy G by major index; the source's 521643
    ∷ row (2 ∷ 1 ∷ []) 1 (reads by_major (1 ∷ 0 ∷ []) (3 ∷ 1 ∷ 2 ∷ []))
    ∷ row (2 ∷ 1 ∷ []) 1 (permutations by_major ((3 ∷ 1 ∷ 2 ∷ []) ∷ (2 ∷ 1 ∷ 3 ∷ []) ∷ []))
    ∷ row (3 ∷ 2 ∷ 1 ∷ []) 3
    (permutations by_major
    ((2 ∷ 3 ∷ 4 ∷ 1 ∷ []) ∷ (1 ∷ 3 ∷ 4 ∷ 2 ∷ []) ∷ (1 ∷ 2 ∷ 4 ∷ 3 ∷ []) ∷ (3 ∷ 2 ∷ 1 ∷ 4 ∷ []) ∷ (4 ∷ 2 ∷ 1 ∷ 3 ∷ []) ∷ (4 ∷ 3 ∷ 1 ∷ 2 ∷ []) ∷ []))
    ∷ row (5 ∷ 4 ∷ 3 ∷ 2 ∷ 1 ∷ []) 12 (reads by_major (3 ∷ 4 ∷ 2 ∷ 2 ∷ 1 ∷ []) (5 ∷ 2 ∷ 1 ∷ 6 ∷ 4 ∷ 3 ∷ []))
    -- two sheets; total 0 is 1..k, and the largest total k..1
    ∷ row (1 ∷ []) 0 (permutations by_major ((1 ∷ 2 ∷ []) ∷ []))
    ∷ row (1 ∷ []) 1 (permutations by_major ((2 ∷ 1 ∷ []) ∷ []))
    ∷ row (3 ∷ 2 ∷ 1 ∷ []) 0 (permutations by_major (up_to 4 ∷ []))
    ∷ row (3 ∷ 2 ∷ 1 ∷ []) 6 (permutations by_major ((4 ∷ 3 ∷ 2 ∷ 1 ∷ []) ∷ []))
    ∷ row (staircase 25) 0 (reads by_major (replicate 24 0) (up_to 25))
    -- 132 has one inversion and major index 2, 312 two and 1; 11 before either number, and 10 before 11
    ∷ row (2 ∷ 1 ∷ []) 1 (unread by_major (1 ∷ 3 ∷ 2 ∷ []) 23)
    ∷ row (2 ∷ 1 ∷ []) 1 (unread by_inversions (3 ∷ 1 ∷ 2 ∷ []) 12)
    ∷ row (2 ∷ 1 ∷ []) 1 (unread by_major (1 ∷ 3 ∷ 3 ∷ []) 11)
    ∷ row (2 ∷ 2 ∷ []) 1 (no_puzzle by_major (1 ∷ 0 ∷ []) (1 ∷ 3 ∷ 3 ∷ []))
    ∷ []
