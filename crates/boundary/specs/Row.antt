-- Document 01, "Boundary copies": a row of the table is an edition and what is claimed of it. Both what the definitions give and what is claimed
-- are written as lists of numbers; the row holds if they are the same. An answer is its number, its detail and what it answers, with the pair of
-- document 02, (i), behind it where it has one. Every claim but `refused` and `opens` also says that nothing is refused.
use Rattle.std.specs.Prelude.{◌≡◌, List, [], ◌∷◌, ◌++◌, map, ℕ, zero, suc, ◌+◌, ◌-◌, length, replicate}
use Rattle.walsh.specs.Order.{order, count_of}
use Rattle.walsh.specs.Transition.{transition_at}
use Rattle.walsh.specs.declared.Transition.{Transition}
use Rattle.bounds.specs.Refusal.{first_refusal}
use Rattle.bounds.specs.Edition.{edition_checks, cells_of, blank}
use Rattle.bounds.specs.declared.Refusal.{Refusal}
use Rattle.rank.specs.Rank.{Answer, rank_answer}
use Rattle.step.specs.Steps.{successor_of, predecessor_of}
use Rattle.step.specs.declared.Stepped.{Stepped}
use Rattle.permutation.specs.Reading.{Reading}
use Rattle.permutation.specs.Conversions.{to_permutation, to_composition}
use Rattle.model.specs.declared.Opened.{Opened}
use Rattle.model.specs.Entry.{Lent, columns}
use Rattle.model.specs.Printing.{Printing}
use Rattle.model.specs.Model.{Call, peek, Event, event}
use Rattle.model.specs.Record.{opening, answered, run}
use Rattle.model.specs.Whole.{book}

-- a call of a ledger, what it answers, and the pair
abbrev pub Told : Type 0
Told = Call × List ℕ × ℕ × ℕ

-- two columns, what a look over them answers, and the pair
abbrev pub Seen : Type 0
Seen = Lent × List ℕ × ℕ × ℕ

pub data Claim : Type 0 where
  -- its compositions in their order
  lists : List (List ℕ) → Claim
  -- N
  counts : ℕ → Claim
  -- it is refused with this number and detail
  refused : ℕ → ℕ → Claim
  -- a composition's serial
  serial : List ℕ → ℕ → Claim
  -- after the first comes the second, and the step to it has this pair: the kind that gains, the kind that loses
  next : List ℕ → List ℕ → ℕ → ℕ → Claim
  -- before the first comes the second, and the step back to it has this pair
  back : List ℕ → List ℕ → ℕ → ℕ → Claim
  -- the pairs of its serials, from 1 to N: what a listing's lines end with
  pairs : List (ℕ × ℕ) → Claim
  -- it has this composition alone: serial 1, and 9 both ways
  alone : List ℕ → Claim
  -- its permutations in their order
  permutations : Reading → List (List ℕ) → Claim
  -- a composition and its permutation
  reads : Reading → List ℕ → List ℕ → Claim
  -- these sheets are refused with this number
  unread : Reading → List ℕ → ℕ → Claim
  -- it is no puzzle edition: 10 both ways, for this composition and these sheets
  no_puzzle : Reading → List ℕ → List ℕ → Claim
  -- a ledger opened over an order column and an item column of so many entries: the number that it answers
  opens : ℕ → ℕ → ℕ → Claim
  -- what a ledger on it answers to a list of calls; of a composition the first parts are written, the others are 0
  answers : List Told → Claim
  -- what a look answers after some calls, over columns in place of those that they left
  looks : List Call → List Seen → Claim

pub record Row : Type 0 where
  pub bounds : List ℕ
  pub total : ℕ
  pub claim : Claim

-- ---- answers as lists

abbrev refusal_list : Refusal → List ℕ
refusal_list v = v.number ∷ v.detail ∷ []

abbrev opened_list : Opened → List ℕ
opened_list o = o.number ∷ o.detail ∷ []

abbrev rank_list : Answer → List ℕ
rank_list a = a.number ∷ a.detail ∷ a.serial ∷ []

abbrev pair_list : Transition → List ℕ
pair_list x = x.gain ∷ x.loss ∷ []

-- cells, and the pair behind them
abbrev paired : List ℕ → ℕ → ℕ → List ℕ
paired cells gain loss = cells ++ (gain ∷ loss ∷ [])

abbrev step_list : Stepped → List ℕ
step_list x = x.number ∷ x.detail ∷ paired x.composition x.gain x.loss

-- of a call that fills a lent part, the part's bytes too
abbrev filled_list : Refusal × List ℕ → List ℕ
filled_list x = refusal_list x.0 ++ x.1

abbrev event_list : Event → List ℕ
event_list x =
    x.reply.number ∷ x.reply.detail ∷ x.reply.serial
    ∷ paired x.reply.composition x.transition.gain x.transition.loss

-- an accepted one
abbrev accepted : List ℕ → List ℕ
accepted l = 0 ∷ 0 ∷ l

-- what is claimed of an answer in a ledger, with all its 24 cells
abbrev padded : List ℕ → List ℕ
padded l = l ++ replicate (27 - length l) 0

-- ---- what the definitions give, and what is claimed

module _ (ms : List ℕ) (r : ℕ) where
  abbrev edition : List ℕ
  edition = refusal_list (first_refusal (edition_checks ms r))

  -- each conversion, into a lent part of the right length
  abbrev permuted : Reading → List ℕ → List ℕ
  permuted reading g = filled_list (to_permutation reading ms r g (replicate (length ms + 1) 0))

  abbrev unpermuted : Reading → List ℕ → List ℕ
  unpermuted reading p = filled_list (to_composition reading ms r p (replicate (length ms) 0))

  -- the pairs of the serials 1, .. , n
  abbrev pairs_to : ℕ → List (List ℕ)
  pairs_to zero = []
  pairs_to (suc n) = pairs_to n ++ (pair_list (transition_at ms r (suc n)) ∷ [])

  -- an order column and an item column of so many entries
  abbrev zeros : ℕ → ℕ → Lent
  zeros orders items = columns (replicate orders 0) (replicate items 0)

  -- the opening over columns of N entries
  abbrev column : Lent
  column = zeros (count_of ms r) (count_of ms r)

  abbrev printing : Printing
  printing = record { bounds = ms; total = r }

  abbrev start : Opened
  start = opening printing column

  abbrev pub sides : Claim → List (List ℕ) × List (List ℕ)
  sides (lists gs) = (edition ∷ order ms r, accepted [] ∷ gs)
  sides (counts n) = (edition ∷ (count_of ms r ∷ []) ∷ [], accepted [] ∷ (n ∷ []) ∷ [])
  sides (refused number detail) = (edition ∷ [], (number ∷ detail ∷ []) ∷ [])
  sides (serial g s) = (rank_list (rank_answer ms r g) ∷ [], accepted (s ∷ []) ∷ [])
  sides (next g h gain loss) = (step_list (successor_of ms r g) ∷ [], accepted (paired (cells_of h) gain loss) ∷ [])
  sides (back g h gain loss) = (step_list (predecessor_of ms r g) ∷ [], accepted (paired (cells_of h) gain loss) ∷ [])
  sides (pairs xs) = (edition ∷ pairs_to (count_of ms r), accepted [] ∷ map (λ (x : ℕ × ℕ). x.0 ∷ x.1 ∷ []) xs)
  sides (alone g) =
      let end : List ℕ = 9 ∷ 0 ∷ paired blank 0 0 in
      (rank_list (rank_answer ms r g) ∷ step_list (successor_of ms r g) ∷ step_list (predecessor_of ms r g) ∷ [], accepted (1 ∷ []) ∷ end ∷ end ∷ [])
  -- the lent parts stay as they were
  sides (no_puzzle reading g p) = (
    edition ∷ permuted reading g ∷ unpermuted reading p ∷ [],
    accepted [] ∷ (10 ∷ 0 ∷ replicate (length ms + 1) 0) ∷ (10 ∷ 0 ∷ replicate (length ms) 0) ∷ [],
  )
  sides (unread reading p number) = (unpermuted reading p ∷ [], (number ∷ 0 ∷ replicate (length ms) 0) ∷ [])
  -- both ways
  sides (permutations reading ps) =
      (map (permuted reading) (order ms r) ++ map (unpermuted reading) ps, map accepted ps ++ map accepted (order ms r))
  sides (reads reading g p) = (permuted reading g ∷ unpermuted reading p ∷ [], accepted p ∷ accepted g ∷ [])
  sides (opens orders items number) = (opened_list (opening printing (zeros orders items)) ∷ [], (number ∷ 0 ∷ []) ∷ [])
  -- the record's own run, and the model
  sides (answers cs) =
      let calls = map (λ (x : Told). x.0) cs in
      let claims = map (λ (x : Told). paired (padded x.1) x.2 x.3) cs in (
        opened_list start
            ∷ (map event_list (run start.ledger column calls).trace ++ map event_list (book printing calls).trace),
        accepted [] ∷ (claims ++ claims),
      )
  sides (looks calls cols) =
      let after = (run start.ledger column calls).ledger in (
        opened_list start ∷ map (λ (x : Seen). event_list (event printing peek (answered after x.0 peek))) cols,
        accepted [] ∷ map (λ (x : Seen). paired (padded x.1) x.2 x.3) cols,
      )

abbrev pub given : Row → List (List ℕ)
given row = (sides row.bounds row.total row.claim).0

abbrev pub claimed : Row → List (List ℕ)
claimed row = (sides row.bounds row.total row.claim).1

abbrev pub Holds : Row → Type 0
Holds row = given row ≡ claimed row
