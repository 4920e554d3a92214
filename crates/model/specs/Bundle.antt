-- Document 02, (v), of single takes: "If single takes one after another would all be accepted, it does what they do. Otherwise it answers the refusal
-- of the first that would fail, with its detail, and no line is written. An accepted bundle answers its first serial and that mix." The model's own
-- bundle is a table of refusals (specs/Model); that it is this is `as_takes` in proofs/Bundles.
use Rattle.std.specs.Prelude.{◌≡◌, refl, true, cond, List, [], ◌∷◌, map, ℕ, suc, ◌+◌}
use Rattle.walsh.specs.Order.{order, listing, count_of, count}
use Rattle.digits.specs.Digits.{weighted_sum}
use Rattle.bounds.specs.Refusal.{refused, first_refusal, decided}
use Rattle.bounds.specs.Edition.{cells_of}
use Rattle.bounds.specs.declared.Refusal.{Refusal}
use Rattle.model.specs.declared.Answer.{Answer}
use Rattle.model.specs.Entry.{Entry, Lent, columns, entries_in, room}
use Rattle.model.specs.Printing.{Printing, compositions}
use Rattle.model.specs.Model.{Call, peek, claim, void, claim_all, given, refused_with, answer_by, answer, accepted, after, Event, book_from}

-- the single takes from serial s on
abbrev pub takes : ℕ → List Entry → List Call
takes s [] = []
takes s (e ∷ es) = claim s e ∷ takes (suc s) es

-- "the refusal of the first that would fail"; 0 and 0 where all are accepted
abbrev pub first_failed : List Event → Refusal
first_failed [] = refused 0 0
first_failed (x ∷ t) = cond (accepted x.reply) (first_failed t) (refused x.reply.number x.reply.detail)

-- a bundle of an allowed size on the list l: its answer, and the list that it leaves
pub record AsTakes (p : Printing) (l : List Entry) (s : ℕ) (b : Lent) : Type 0 where
  pub answers : answer p l (claim_all s b) ≡ answer_by (first_failed (book_from p l (takes s (entries_in b))).trace) p s
  pub leaves : after p l (claim_all s b)
      ≡ decided (first_failed (book_from p l (takes s (entries_in b))).trace) (book_from p l (takes s (entries_in b))).entries l

-- the bundle ab has the orders of a and then those of b: both are accepted one after the other, and leave the lines that it leaves
pub record TwoParts (p : Printing) (l : List Entry) (s : ℕ) (a b ab : Lent) : Type 0 where
  pub first_accepted : accepted (answer p l (claim_all s a)) ≡ true
  pub second_accepted : accepted (answer p (after p l (claim_all s a)) (claim_all (s + room a) b)) ≡ true
  pub same_lines : after p l (claim_all s ab) ≡ after p (after p l (claim_all s a)) (claim_all (s + room a) b)

-- ---- for example, with the three copies of 1 1 1 of total 1

unfoldable pub three_ones : Printing
three_ones = record { bounds = 1 ∷ 1 ∷ 1 ∷ []; total = 1 }

-- item line 1 for each order
ones : List ℕ → Lent
ones os = columns os (map (λ _. 1) os)

unfoldable pub replies : List Call → List Answer
replies cs = map (λ x. x.reply) (book_from three_ones [] cs).trace

-- all of them at a sitting
all_three : replies (claim_all 1 (ones (1007 ∷ 1014 ∷ 1021 ∷ [])) ∷ peek ∷ []) ≡ given three_ones 1 ∷ refused_with 21 0 ∷ []
unfolding replies three_ones ones book_from answer after first_refusal compositions order listing count_of count cells_of weighted_sum
all_three = refl

-- 24 for none, also with serial 0; an order that stands twice in the bundle, with the serial it would have had, which is 2 after a void; past N, 6, but
-- 17 where the order there is 0; 18 and 19 of the first; and no refused one writes a line
refusals : replies
    (claim_all 0 (ones [])
    ∷ void 1
    ∷ claim_all 2 (ones (1007 ∷ 1007 ∷ []))
    ∷ claim_all 2 (ones (1007 ∷ 1014 ∷ 1021 ∷ []))
    ∷ claim_all 2 (ones (1007 ∷ 1014 ∷ 0 ∷ []))
    ∷ claim_all 1 (ones (1007 ∷ 1014 ∷ []))
    ∷ claim_all 3 (ones (1007 ∷ []))
    ∷ peek
    ∷ [])
    ≡ refused_with 24 0
    ∷ given three_ones 1
    ∷ refused_with 20 2
    ∷ refused_with 6 0
    ∷ refused_with 17 0
    ∷ refused_with 18 0
    ∷ refused_with 19 2
    ∷ given three_ones 2
    ∷ []
unfolding replies three_ones ones book_from answer after first_refusal compositions order listing count_of count cells_of weighted_sum
refusals = refl
