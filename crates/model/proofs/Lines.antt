-- What a list of calls of the model says of its lines: how many are sold and how many are voided, by the trace, and no order twice.
use mathlib.Core.Path.{◌≡◌, refl, sym}
use mathlib.Core.Bool.{not, false≢true, true}
use mathlib.Core.List.{List, [], ◌∷◌, ◌++◌}
use Prim.Native.Nat.{◌+◌}
use native.Mathlib.Nat.{add-zero}
use native.Mathlib.Omega.{arith}
use lib.ListN.{length}
use Rattle.model.specs.Entry.{Entry, void_entry, is_voided, sold_in, voided_in, DistinctOrders}
use Rattle.model.specs.Printing.{Printing}
use Rattle.model.specs.Model.{Call, peek, claim, void, claim_all, accepted, answer, appended, Event}
use Rattle.model.specs.Trace.{writes, is_claim, is_void, those}
use Rattle.walsh.proofs.Tests.{many_append}
use Rattle.model.proofs.Entries.{one_sold}
use Rattle.model.proofs.Calls.{for_an_order, for_a_new_order}
use Rattle.model.proofs.Orders.{distinct_snoc}
use Rattle.model.proofs.Books.{Grown}

module _ (p : Printing) where
  -- ---- the counts: from the lines l, by the events ws, to the lines m

  pub record Counts (l : List Entry) (ws : List Event) (m : List Entry) : Type 0 where
    pub sold : sold_in m ≡ sold_in l + length (those is_claim ws)
    pub voided : voided_in m ≡ voided_in l + length (those is_void ws)

  more : (l es : List Entry) → (sold_in (l ++ es) ≡ sold_in l + sold_in es) × (voided_in (l ++ es) ≡ voided_in l + voided_in es)
  more l es = (many_append (λ e. not (is_voided e)) l es, many_append (λ e. is_voided e) l es)

  counts_more : (l : List Entry) (x : Event) (ws : List Event) (m : List Entry)
      → writes x.call ≡ true
      → accepted (answer p l x.call) ≡ true
      → Counts (l ++ appended x.call) ws m
      → Counts l (x ∷ ws) m
  counts_more l x ws m = go x.call refl
    where
      go : (c : Call) → x.call ≡ c → writes x.call ≡ true → accepted (answer p l x.call) ≡ true → Counts (l ++ appended x.call) ws m
          → Counts l (x ∷ ws) m
      go peek q w t f = absurd (false≢true (rw q at w))
      go (claim_all s b) q w t f = absurd (false≢true (rw q at w))
      go (claim s e) q w t f =
          let one = one_sold e (for_an_order p l s e (rw q at t)) in
          let n = more l (e ∷ []) in
          record { sold = rw q (omega (arith, rw q at f.sold, n.0, one.0)); voided = rw q (omega (arith, rw q at f.voided, n.1, one.1)) }
      go (void s) q w t f =
          let n = more l (void_entry ∷ []) in
          record { sold = rw q (omega (arith, rw q at f.sold, n.0)); voided = rw q (omega (arith, rw q at f.voided, n.1)) }

  pub counts : (ws : List Event) (l m : List Entry) → Grown p l ws m → Counts l ws m
  counts [] l m g = rw (← g) (record { sold = sym (add-zero (sold_in l)); voided = sym (add-zero (voided_in l)) })
  counts (x ∷ ws) l m g = counts_more l x ws m g.0.writing g.0.granted (counts ws (l ++ appended x.call) m g.1)

  -- ---- no order twice

  distinct_more : (l : List Entry) (c : Call) → writes c ≡ true → accepted (answer p l c) ≡ true → DistinctOrders l → DistinctOrders (l ++ appended c)
  distinct_more l peek w t u = absurd (false≢true w)
  distinct_more l (claim_all s b) w t u = absurd (false≢true w)
  distinct_more l (claim s e) w t u = distinct_snoc l e u (λ n. for_a_new_order p l s e t)
  distinct_more l (void s) w t u = distinct_snoc l void_entry u (λ n. absurd (n refl))

  pub distinct_lines : (ws : List Event) (l m : List Entry) → Grown p l ws m → DistinctOrders l → DistinctOrders m
  distinct_lines [] l m g u = rw (← g) u
  distinct_lines (x ∷ ws) l m g u =
      distinct_lines ws (l ++ appended x.call) m g.1 (distinct_more l x.call g.0.writing g.0.granted u)
