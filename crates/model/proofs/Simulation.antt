-- The record and the columns follow the model: one induction over the calls.
use mathlib.Core.Path.{◌≡◌, refl, sym, ap, ◌∙◌}
use mathlib.Core.Bool.{Bool, true, false, cond, not}
use mathlib.Core.List.{List, [], ◌∷◌, ◌++◌}
use native.Mathlib.Omega.{arith}
use lib.ListN.{length, take, length-append}
use Rattle.walsh.proofs.Serials.{same_refl}
use Rattle.bounds.specs.Refusal.{first_refusal}
use Rattle.bounds.specs.Edition.{record_checks, cells_of, bounds_of}
use Rattle.bounds.specs.declared.Refusal.{Refusal}
use Rattle.bounds.proofs.Answers.{record_few}
use Rattle.bounds.proofs.Cells.{cells_back}
use Rattle.model.specs.declared.Ledger.{Ledger}
use Rattle.model.specs.Entry.{Entry, is_voided, Lent, over}
use Rattle.model.specs.Printing.{Printing, place_of, next_composition}
use Rattle.model.specs.Model.{Call, accepted, granted, answer, appended, after, event, event_at, book_from}
use Rattle.model.specs.Record.{printing_of, ledger_of, written, consistent, answered}
use Rattle.model.specs.Record.{advanced, counted, entered, record_after, column_after, Run, run}
use Rattle.walsh.proofs.Tests.{many_append}
use Rattle.model.proofs.Entries.{entries_over, room_over, put_over}
use Rattle.model.proofs.Calls.{Reached, Grant, grant}
use Rattle.model.proofs.Opening.{Opens}
use Rattle.model.proofs.Records.{together, answered_by}

module _ (p : Printing) (col : Lent) (o : Opens p col) where
  -- the record of a list of lines is for p, and its lines are the list
  own_bounds : take (length p.bounds) (cells_of p.bounds) ≡ p.bounds
  own_bounds = cells_back p.bounds

  own_printing : (l : List Entry) → printing_of (ledger_of p l) ≡ p
  own_printing l = λ i. record { bounds = own_bounds i; total = p.total }

  own_lines : (l : List Entry) → written (ledger_of p l) (over col l) ≡ l
  own_lines l = entries_over col l

  sound : (first_refusal (record_checks (bounds_of p.bounds p.total))).number ≡ 0
  sound =
      ap (λ (v : Refusal). v.number) (sym (record_few (bounds_of p.bounds p.total) o.few))
      ∙ rw own_bounds o.sound

  belongs : (l : List Entry) → Reached p l → consistent (ledger_of p l) (over col l) ≡ true
  belongs l h =
      together (ledger_of p l) (over col l) sound (rw own_bounds o.small)
      (rw (own_bounds, room_over col l (omega (arith, o.fits, h.fits))) o.fits)
      (rw own_bounds h.fits)
      (rw (own_lines l))
      (rw (own_lines l))
      (rw own_bounds (same_refl (next_composition p (length l))))
      (rw own_bounds (same_refl (cells_of p.bounds)))
      (rw (own_lines l) h.sound)

  -- one call: the answer is the model's, and the record and the columns are those of the model's list after it
  pub answers : (l : List Entry) → Reached p l → (c : Call) → answered (ledger_of p l) (over col l) c ≡ answer p l c
  answers l h c =
      answered_by (ledger_of p l) (over col l) c (belongs l h)
      ∙ ap (λ (q : Printing). answer q (written (ledger_of p l) (over col l)) c) (own_printing l)
      ∙ ap (λ (m : List Entry). answer p m c) (own_lines l)

  own_event : (l : List Entry) → Reached p l → (c : Call)
      → event (printing_of (ledger_of p l)) c (answered (ledger_of p l) (over col l) c) ≡ event_at p l c
  own_event l h c =
      ap (event (printing_of (ledger_of p l)) c) (answers l h c) ∙ ap (λ (q : Printing). event q c (answer p l c)) (own_printing l)

  more : (l es : List Entry) → advanced (ledger_of p l) es ≡ ledger_of p (l ++ es)
  more l es = rw (own_bounds, length-append l es, many_append (λ e. is_voided e) l es, many_append (λ e. not (is_voided e)) l es)

  entered_at : (l : List Entry) (c : Call) → Grant p l c → entered (ledger_of p l) (over col l) c ≡ over col (l ++ appended c)
  entered_at l c g =
      let at : place_of p (granted p l c) ≡ length l = omega (arith, g.serial) in
      rw (own_lines l, at)
      (put_over col l (appended c) (omega (arith, length-append l (appended c), g.reached.fits, o.fits)))

  record Follows (l : List Entry) (ledger : Ledger) (column : Lent) : Type 0 where
    pub record_follows : ledger ≡ ledger_of p l
    pub column_follows : column ≡ over col l
    pub reached : Reached p l

  follows : (l : List Entry) (c : Call) → Reached p l
      → Follows (after p l c) (record_after (ledger_of p l) (over col l) c) (column_after (ledger_of p l) (over col l) c)
  unfolding after record_after column_after
  follows l c h = rw (answers l h c) (go (accepted (answer p l c)) refl)
    where
      go : (b : Bool) → accepted (answer p l c) ≡ b
          → Follows (cond b (l ++ appended c) l) (cond b (counted (ledger_of p l) c) (ledger_of p l))
          (cond b (entered (ledger_of p l) (over col l) c) (over col l))
      go true t =
          let g = grant p l c h t in
          record { record_follows = more l (appended c); column_follows = entered_at l c g; reached = g.reached }
      go false t = record { record_follows = refl; column_follows = refl; reached = h }

  -- a list of calls
  pub record Simulates (l : List Entry) (cs : List Call) : Type 0 where
    pub trace : (run (ledger_of p l) (over col l) cs).trace ≡ (book_from p l cs).trace
    pub ledger : (run (ledger_of p l) (over col l) cs).ledger ≡ ledger_of p (book_from p l cs).entries
    pub column : (run (ledger_of p l) (over col l) cs).column ≡ over col (book_from p l cs).entries
    pub reached : Reached p (book_from p l cs).entries

  pub simulates : (cs : List Call) (l : List Entry) → Reached p l → Simulates l cs
  unfolding run book_from
  simulates [] l h = record { trace = refl; ledger = refl; column = refl; reached = h }
  simulates (c ∷ cs) l h =
      let f = follows l c h in
      let l' = after p l c in
      let i = simulates cs l' f.reached in
      let q :
      run (record_after (ledger_of p l) (over col l) c) (column_after (ledger_of p l) (over col l) c) cs
      ≡ run (ledger_of p l') (over col l') cs =
      rw (f.record_follows, f.column_follows) in
      let t = ap (λ (x : Run). x.trace) q ∙ i.trace in
      record {
        trace = λ k. own_event l h c k ∷ t k;
        ledger = ap (λ (x : Run). x.ledger) q ∙ i.ledger;
        column = ap (λ (x : Run). x.column) q ∙ i.column;
        reached = i.reached;
      }
