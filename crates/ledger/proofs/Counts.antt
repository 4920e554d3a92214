-- What an accepted call makes of the counts.
use mathlib.Core.Path.{◌≡◌, sym, ap, ◌∙◌}
use mathlib.Core.Bool.{false}
use Prim.Native.Nat.{ℕ, ◌+◌}
use native.Mathlib.Nat.{add-zero}
use lib.ListN.{length}
use borrow.Author.Tests.{eq-eqb}
use Rattle.model.specs.Entry.{Entry, Lent, is_voided, entries_in, Paired}
use Rattle.model.specs.Model.{Call, answer}
use Rattle.model.specs.Record.{printing_of, written, answered, counted}
use Rattle.model.specs.declared.Answer.{Answer}
use Rattle.model.specs.declared.Ledger.{Ledger}
use Rattle.model.proofs.Bundles.{takes_sold}
use Rattle.model.proofs.Calls.{for_an_order, bundle_takes, bundle_paired}
use Rattle.model.proofs.Entries.{one_sold}
use Rattle.model.proofs.Records.{answered_by}
use Rattle.model.proofs.Replies.{Writing, writing}
use Rattle.ledger.specs.Counting.{counting}

-- the model's answer is of that number too
module _ (r : Ledger) (col : Lent) (c : Call) (a : Answer) (is : a ≡ answered r col c) (z : a.number ≡ 0) (w : Writing r col c) where
  none : (answer (printing_of r) (written r col) c).number ≡ 0
  none = ap (λ (x : Answer). x.number) (sym (answered_by r col c w.belongs) ∙ sym is) ∙ z

-- a claim is sold
pub counts_claim : (r : Ledger) (col : Lent) (s : ℕ) (e : Entry) (a : Answer)
    → a ≡ answered r col (Call.claim s e)
    → a.number ≡ 0
    → Writing r col (Call.claim s e)
    → counting r 1 (r.sold + 1) r.voided ≡ counted r (Call.claim s e)
counts_claim r col s e a is z w =
    let f : is_voided e ≡ false = for_an_order (printing_of r) (written r col) s e (eq-eqb _ 0 (none r col _ a is z w)) in
    rw ((one_sold e f).0, (one_sold e f).1, add-zero r.voided)

-- a void is voided
pub counts_void : (r : Ledger) (s : ℕ) → counting r 1 r.sold (r.voided + 1) ≡ counted r (Call.void s)
counts_void r s = rw (add-zero r.sold)

-- an accepted bundle has an item line for each order
pub paired : (r : Ledger) (col : Lent) (s : ℕ) (b : Lent) (a : Answer) → a ≡ answered r col (Call.claim_all s b) → a.number ≡ 0 → Paired b
paired r col s b a is z =
    let w = writing r col (Call.claim_all s b) a is z in
    bundle_paired (printing_of r) (written r col) s b (eq-eqb _ 0 (none r col _ a is z w))

-- the orders of a bundle are sold
pub counts_all : (r : Ledger) (col : Lent) (s : ℕ) (b : Lent) (a : Answer)
    → a ≡ answered r col (Call.claim_all s b)
    → a.number ≡ 0
    → Writing r col (Call.claim_all s b)
    → counting r (length (entries_in b)) (r.sold + length (entries_in b)) r.voided ≡ counted r (Call.claim_all s b)
counts_all r col s b a is z w =
    let t = bundle_takes (printing_of r) (written r col) s b (eq-eqb _ 0 (none r col _ a is z w)) in
    let n = takes_sold (printing_of r) (entries_in b) (written r col) s t.1 in
    rw (n.0, n.1, add-zero r.voided)
