-- Which answer each way through a call's checks leads to, by the record's own numbers.
use mathlib.Core.Path.{◌≡◌, sym, ap, ◌∙◌}
use mathlib.Core.Bool.{true}
use Prim.Native.Nat.{ℕ, ◌+◌, ◌≤◌, ◌<◌, min}
use native.Mathlib.Omega.{arith}
use lib.ListN.{length, get_or, length-append}
use borrow.Author.Tests.{eq-eqb}
use Rattle.walsh.proofs.Cases.{on_test}
use Rattle.model.specs.declared.Answer.{Answer}
use Rattle.model.specs.declared.Ledger.{Ledger}
use Rattle.model.specs.Entry.{Lent, put}
use Rattle.model.specs.Printing.{Printing, size, lowest, place_of, serial_at}
use Rattle.model.specs.Model.{Call, peek, next, given, refused_with, appended}
use Rattle.model.specs.Record.{printing_of, written, consistent, answered, granted_by, entered}
use Rattle.model.proofs.Entries.{entry_order}
use Rattle.model.proofs.Answers.{peek_open, peek_closed, placed, placed_low, placed_high, placed_below, placed_above, placed_next}
use Rattle.model.proofs.Calls.{Reached, grant}
use Rattle.model.proofs.Records.{parts, answered_16, answered_by}

module _ (r : Ledger) (col : Lent) (t : consistent r col ≡ true) where
  abbrev p : Printing
  p = printing_of r

  abbrev pub accepts : Answer
  accepts = record { number = 0; detail = 0; serial = serial_at p r.entries; composition = r.next }

  -- the record's composition is the next serial's
  own : serial_at p r.entries ≤ size p → given p (serial_at p r.entries) ≡ accepts
  own h =
      let q : min (serial_at p r.entries) (size p) ≡ serial_at p r.entries = omega arith in
      rw ((parts r col t).next, q)

  own_next : next p (written r col) ≡ serial_at p r.entries
  own_next = ap (serial_at p) (parts r col t).length_written

  pub peek_full : size p < serial_at p r.entries → answered r col peek ≡ refused_with 21 0
  peek_full h = answered_by r col peek t ∙ peek_closed p (written r col) (omega (arith, own_next))

  pub peek_next : serial_at p r.entries ≤ size p → answered r col peek ≡ accepts
  peek_next h =
      answered_by r col peek t ∙ peek_open p (written r col) (omega (arith, own_next)) ∙ ap (given p) own_next ∙ own h

  module _ (s : ℕ) where
    pub serial_low : s < lowest p → placed p (written r col) s ≡ refused_with 6 0
    serial_low h = placed_low p (written r col) s h

    pub serial_over : size p < s → placed p (written r col) s ≡ refused_with 6 0
    serial_over h = placed_high p (written r col) s h

    module _ (h : lowest p ≤ s) (k : s ≤ size p) where
      pub serial_below : s < serial_at p r.entries → placed p (written r col) s ≡ refused_with 18 (get_or col.orders (place_of p s) 0)
      serial_below b =
          let q = parts r col t in
          placed_below p (written r col) s h k (omega (arith, own_next))
          ∙ ap (refused_with 18) (entry_order r.entries col (place_of p s) (omega arith) (omega (arith, q.fits, q.entries)))

      pub serial_above : serial_at p r.entries < s → placed p (written r col) s ≡ refused_with 19 (serial_at p r.entries)
      serial_above b = placed_above p (written r col) s h k (omega (arith, own_next)) ∙ ap (refused_with 19) own_next

      pub serial_next : s ≡ serial_at p r.entries → placed p (written r col) s ≡ accepts
      serial_next e =
          placed_next p (written r col) s h k (omega (arith, own_next)) ∙ ap (given p) e ∙ own (omega arith)

-- ---- an accepted call

pub record Writing (r : Ledger) (col : Lent) (c : Call) : Type 0 where
  pub belongs : consistent r col ≡ true
  pub serial : granted_by r col c ≡ serial_at (printing_of r) r.entries
  pub inside : serial_at (printing_of r) r.entries ≤ size (printing_of r)
  pub all_inside : r.entries + length (appended c) ≤ size (printing_of r)

pub writing : (r : Ledger) (col : Lent) (c : Call) (a : Answer) → a ≡ answered r col c → a.number ≡ 0 → Writing r col c
writing r col c a e z =
    on_test (consistent r col)
    (λ t.
    let none = ap (λ (x : Answer). x.number) (sym (answered_by r col c t) ∙ sym e) ∙ z in
    let q = parts r col t in
    let n = q.length_written in
    let reached : Reached (printing_of r) (written r col) = record { fits = omega (arith, q.entries); sound = q.sound_lines } in
    let g = grant (printing_of r) (written r col) c reached (eq-eqb _ 0 none) in
    record {
      belongs = t;
      serial = g.serial ∙ own_next r col t;
      inside = omega (arith, g.inside);
      all_inside = omega (arith, length-append (written r col) (appended c), g.reached.fits);
    })
    (λ f. let x : 16 ≡ 0 = ap (λ (x : Answer). x.number) (sym (e ∙ answered_16 r col c f)) ∙ z in absurd (omega arith))

-- it writes from the next entry on
pub entered_next : (r : Ledger) (col : Lent) (c : Call) → Writing r col c → entered r col c ≡ put col r.entries (appended c)
entered_next r col c w =
    let at : place_of (printing_of r) (granted_by r col c) ≡ r.entries = omega (arith, w.serial) in
    ap (λ (k : ℕ). put col k (appended c)) at
