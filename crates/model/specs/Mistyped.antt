-- Document 02, (vii), "Mistyped order numbers", computed of the model with the three copies of 1 1 1 of total 1.
use Rattle.std.specs.Prelude.{◌≡◌, refl, true, [], ◌∷◌, map}
use Rattle.walsh.specs.Order.{order, listing, count_of, count}
use Rattle.walsh.specs.Serial.{same}
use Rattle.digits.specs.Digits.{weighted_sum}
use Rattle.bounds.specs.Refusal.{first_refusal}
use Rattle.bounds.specs.Edition.{first_outside, cells_of}
use Rattle.model.specs.Entry.{entry, columns}
use Rattle.model.specs.Printing.{compositions}
use Rattle.model.specs.Model.{peek, claim, void, claim_all, given, refused_with, answer, after, book_from}
use Rattle.model.specs.Record.{ledger_of, consistent}
use Rattle.model.specs.Bundle.{three_ones, replies}

-- "1007 passes, 1008 fails"; 17 before 26, and 26 before 25, 6 and 18; of a bundle the second take's, and no line is written; a spoil has no check
mistypes : replies
    (claim 1 (entry 1008 1)
    ∷ claim 1 (entry 0 1)
    ∷ claim 4 (entry 1008 0)
    ∷ claim_all 1 (columns (1007 ∷ 1008 ∷ []) (1 ∷ 1 ∷ []))
    ∷ void 1
    ∷ claim 1 (entry 1008 1)
    ∷ claim 2 (entry 1007 1)
    ∷ [])
    ≡ refused_with 26 0
    ∷ refused_with 17 0
    ∷ refused_with 26 0
    ∷ refused_with 26 0
    ∷ given three_ones 1
    ∷ refused_with 26 0
    ∷ given three_ones 2
    ∷ []
unfolding replies three_ones book_from answer after first_refusal compositions order listing count_of count cells_of weighted_sum
mistypes = refl

-- "Registers begun before stay readable": on a line of 1008 looks and takes are answered as ever, and 16 does not look at it
begun_before : map (λ x. x.reply) (book_from three_ones (entry 1008 1 ∷ []) (peek ∷ claim 1 (entry 1007 1) ∷ claim 2 (entry 1007 1) ∷ [])).trace
    ≡ given three_ones 2 ∷ refused_with 18 1008 ∷ given three_ones 2 ∷ []
unfolding three_ones book_from answer after first_refusal compositions order listing count_of count cells_of weighted_sum
begun_before = refl

readable : consistent (ledger_of three_ones (entry 1008 1 ∷ [])) (columns (1008 ∷ 0 ∷ 0 ∷ []) (1 ∷ 0 ∷ 0 ∷ [])) ≡ true
unfolding three_ones consistent same first_refusal first_outside compositions order listing count_of count cells_of
readable = refl
