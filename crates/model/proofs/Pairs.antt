-- Laws of the pair that a look answers.
use mathlib.Core.Path.{◌≡◌, refl, sym, ap, ◌∙◌}
use mathlib.Core.Logic.{◌≢◌, ◌⊎◌, inl, inr}
use mathlib.Core.Bool.{true}
use mathlib.Core.List.{List}
use Prim.Native.Nat.{ℕ, ◌+◌, ◌-◌, ◌≤◌, ◌<◌, min}
use native.Mathlib.Omega.{arith}
use lib.ListN.{length, take}
use Rattle.walsh.specs.Order.{Composition}
use Rattle.walsh.specs.Serial.{serial_of, composition_of}
use Rattle.walsh.specs.Transition.{none, transition_at, Carries}
use Rattle.walsh.specs.declared.Transition.{Transition}
use Rattle.walsh.proofs.Cases.{on_less}
use Rattle.walsh.proofs.Serials.{composition_is, serial_composition}
use Rattle.walsh.proofs.Transitions.{transition_none, serial_carries}
use Rattle.bounds.specs.Edition.{cells_of}
use Rattle.model.specs.declared.Answer.{Answer}
use Rattle.model.specs.declared.Ledger.{Ledger}
use Rattle.model.specs.declared.Peeked.{Peeked}
use Rattle.model.specs.Entry.{Entry, Lent}
use Rattle.model.specs.Printing.{Printing, size, composition_at, transition_to}
use Rattle.model.specs.Model.{Call, peek, claim, void, claim_all, next, answer, refused_with, told}
use Rattle.model.specs.Record.{upper_of, printing_of, consistent, answered, peeked_by, peeking}
use Rattle.model.proofs.Answers.{peek_open, peek_closed}
use Rattle.model.proofs.Cells.{cells_front, cells_neighbours}
use Rattle.model.proofs.Stock.{serial_cells}
use Rattle.model.proofs.Records.{parts}
use Rattle.model.proofs.Replies.{accepts, peek_next}

-- of a serial from 2 to N
carries_at : (p : Printing) (s : ℕ) → 2 ≤ s → s ≤ size p
    → Carries (length p.bounds) (composition_at p (s - 1)) (composition_at p s) (transition_to p s)
carries_at p s low high =
    let c = serial_carries p.bounds p.total s low high in
    rw (serial_cells p (s - 1), serial_cells p s) (record { gain = c.gain; loss = c.loss; near = cells_neighbours c.near })

-- ---- of a call of the model

module _ (p : Printing) (l : List Entry) where
  peek_carries : 2 ≤ (answer p l peek).serial
      → Carries (length p.bounds) (composition_at p ((answer p l peek).serial - 1)) (answer p l peek).composition
      (told p peek (answer p l peek))
  peek_carries h =
      on_less (size p) (next p l)
      (λ b t. let z : 2 ≤ 0 = rw (peek_closed p l b) at h in absurd (omega arith))
      (λ b t. rw (peek_open p l b) (carries_at p (next p l) (rw (peek_open p l b) at h) b))

  pub told_some : (c : Call) → c ≡ peek → 2 ≤ (answer p l c).serial
      → Carries (length p.bounds) (composition_at p ((answer p l c).serial - 1)) (answer p l c).composition (told p c (answer p l c))
  told_some c e = rw e peek_carries

  pub told_none : (c : Call) → ((answer p l c).serial < 2) ⊎ (c ≢ peek) → told p c (answer p l c) ≡ none
  told_none peek (inl h) = transition_none p.bounds p.total (answer p l peek).serial h
  told_none peek (inr n) = absurd (n refl)
  told_none (claim s e) h = refl
  told_none (void s) h = refl
  told_none (claim_all s b) h = refl

-- ---- of a peek over the record and the columns

-- its answer and its pair, apart
module _ (r : Ledger) (col : Lent) (a : Answer) (x : Transition) (e : peeked_by a x ≡ peeking r col) where
  pub peeking_answer : a ≡ answered r col peek
  unfolding peeking
  peeking_answer = ap (λ (y : Peeked). record { number = y.number; detail = y.detail; serial = y.serial; composition = y.composition }) e

  pub peeking_pair : x ≡ told (printing_of r) peek a
  unfolding peeking
  peeking_pair = ap (λ (y : Peeked). record { gain = y.gain; loss = y.loss }) e ∙ ap (told (printing_of r) peek) (sym peeking_answer)

-- a refused one has none
pub peeking_refused : (r : Ledger) (col : Lent) (n d : ℕ) → answered r col peek ≡ refused_with n d
    → peeking r col ≡ peeked_by (refused_with n d) none
unfolding peeking
peeking_refused r col n d e = rw (e, transition_none _ _ 0 (omega arith))

-- an accepted one has that of the record's own composition
module _ (r : Ledger) (col : Lent) (t : consistent r col ≡ true) (left : r.entries < size (printing_of r))
    (long : length (upper_of r.bounds) ≡ r.bounds.parts) where
  abbrev p : Printing
  p = printing_of r

  abbrev s : ℕ
  s = r.entries + 1

  own_parts : take r.bounds.parts r.next ≡ composition_of p.bounds p.total s
  own_parts =
      let now : min s (size p) ≡ s = omega arith in
      let cells : r.next ≡ cells_of (composition_of p.bounds p.total s) =
      (parts r col t).next ∙ ap (composition_at p) now ∙ serial_cells p s in
      let n : length (composition_of p.bounds p.total s) ≡ r.bounds.parts =
      (composition_is p.bounds p.total s (omega arith) (omega arith)).size ∙ long in
      ap (take r.bounds.parts) cells ∙ cells_front _ _ n

  pub own_composition : Composition p.bounds p.total (take r.bounds.parts r.next)
  own_composition = rw own_parts (composition_is p.bounds p.total s (omega arith) (omega arith))

  pub peeking_next : (x : Transition) → x ≡ transition_at p.bounds p.total (serial_of p.bounds p.total (take r.bounds.parts r.next))
      → peeking r col ≡ peeked_by (accepts r col t) x
  unfolding peeking
  peeking_next x e =
      let serial : serial_of p.bounds p.total (take r.bounds.parts r.next) ≡ s =
      rw own_parts (serial_composition p.bounds p.total s (omega arith) (omega arith)) in
      rw (peek_next r col t (omega arith), e, serial)
