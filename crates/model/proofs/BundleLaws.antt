-- What a bundle of one order is, and a bundle in two parts.
use mathlib.Core.Path.{◌≡◌, refl, sym, ap, ◌∙◌}
use mathlib.Core.Bool.{true}
use mathlib.Core.List.{List, [], ◌∷◌, ◌++◌, append-nil, append_assoc}
use mathlib.Core.Logic.{◌≢◌}
use Prim.Native.Nat.{ℕ, suc, ◌+◌, ◌≤◌}
use native.Mathlib.Nat.{add-zero}
use native.Mathlib.Omega.{arith}
use lib.ListN.{length, length-append}
use borrow.Author.Tests.{eq-eqb}
use Rattle.walsh.proofs.Cases.{on_test}
use Rattle.bounds.specs.Refusal.{Check, first_refusal}
use Rattle.bounds.proofs.Refusals.{passed}
use Rattle.bounds.proofs.Chains.{Accepts, accepts_join}
use Rattle.model.specs.declared.Ledger.{Ledger}
use Rattle.model.specs.Entry.{Entry, Lent, entries_in, room, Paired}
use Rattle.model.specs.Printing.{Printing}
use Rattle.model.specs.Model.{claim, claim_all, bad_bundle, claim_checks, takes_checks, answer_by, answer, accepted, after}
use Rattle.model.specs.Record.{printing_of, written, consistent, answered, record_after, column_after, calling}
use Rattle.model.specs.Bundle.{TwoParts}
use Rattle.model.proofs.Lists.{snoc_append}
use Rattle.model.proofs.Entries.{room_entries}
use Rattle.model.proofs.Calls.{size_good, size_known, accepting, takes_numbered, takes_split, bundle_takes}
use Rattle.model.proofs.Records.{answered_16, answered_by}
use Rattle.model.proofs.Bundles.{by_takes}

-- ---- a bundle of one order is a take: the same answer, record and columns, of any record and columns

module _ (r : Ledger) (col : Lent) (s : ℕ) (e : Entry) (b : Lent) (even : Paired b) (one : entries_in b ≡ e ∷ []) where
  single : room b ≡ 1
  single = sym (room_entries b) ∙ ap length one

  by_claim : answer_by (first_refusal (takes_checks (printing_of r) (written r col) s (entries_in b))) (printing_of r) s
      ≡ answer (printing_of r) (written r col) (claim s e)
  unfolding answer
  by_claim =
      ap (λ (es : List Entry). answer_by (first_refusal (takes_checks (printing_of r) (written r col) s es)) (printing_of r) s) one
      ∙ ap (λ (cs : List Check). answer_by (first_refusal cs) (printing_of r) s) (append-nil (claim_checks (printing_of r) (written r col) s e))

  same_answer : answered r col (claim_all s b) ≡ answered r col (claim s e)
  same_answer =
      on_test (consistent r col)
      (λ t.
      answered_by r col (claim_all s b) t
      ∙ by_takes (printing_of r) (written r col) s b (size_good b even (λ z. omega (arith, single, z)) (omega (arith, single)))
      ∙ by_claim
      ∙ sym (answered_by r col (claim s e) t))
      (λ f. answered_16 r col (claim_all s b) f ∙ sym (answered_16 r col (claim s e) f))

  pub one_order : calling r col (claim_all s b) ≡ calling r col (claim s e)
  unfolding calling record_after column_after
  one_order = rw (same_answer, one)

-- ---- an accepted bundle of the orders of a and then those of b: both are accepted one after the other, and leave the same lines

module _ (p : Printing) where
  takes_append : (xs ys l : List Entry) (s : ℕ) → Accepts (takes_checks p l s (xs ++ ys))
      → Accepts (takes_checks p l s xs) × Accepts (takes_checks p (l ++ xs) (s + length xs) ys)
  unfolding first_refusal
  takes_append [] ys l s a = (refl, rw (append-nil l, add-zero s) a)
  takes_append (x ∷ xs) ys l s a =
      let q = takes_split p l s x (xs ++ ys) a in
      let i = takes_append xs ys (l ++ (x ∷ [])) (suc s) q.1 in
      let at : suc s + length xs ≡ s + suc (length xs) = omega arith in (
        accepts_join (claim_checks p l s x) (takes_checks p (l ++ (x ∷ [])) (suc s) xs) refl q.0 i.0,
        rw (snoc_append l x xs, at) at i.1,
      )

  module _ (l : List Entry) (s : ℕ) where
    -- a bundle whose takes are accepted
    bundle_accepted : (b : Lent) → Paired b → room b ≢ 0 → room b ≤ 40 → Accepts (takes_checks p l s (entries_in b))
        → (accepted (answer p l (claim_all s b)) ≡ true) × (after p l (claim_all s b) ≡ l ++ entries_in b)
    unfolding after
    bundle_accepted b even some few a =
        let z = by_takes p l s b (size_good b even some few) in
        let t : accepted (answer p l (claim_all s b)) ≡ true = rw (z, eq-eqb _ 0 a) in
        (t, rw t)

    small : (b : Lent) → accepted (answer p l (claim_all s b)) ≡ true → Paired b × (room b ≤ 40)
    small b t =
        let q = passed (bad_bundle b) _ (takes_numbered p (entries_in b) l s) (accepting p l (claim_all s b) t).0 in
        let k = size_known b q.0 in
        (k.0, k.2)

  pub two_parts : (l : List Entry) (s : ℕ) (a b ab : Lent) → entries_in ab ≡ entries_in a ++ entries_in b → Paired a → Paired b → room a ≢ 0
      → room b ≢ 0
      → accepted (answer p l (claim_all s ab)) ≡ true
      → TwoParts p l s a b ab
  two_parts l s a b ab e ea eb na nb t =
      let joined = ap length e ∙ length-append (entries_in a) (entries_in b) in
      let n : room ab ≡ room a + room b = omega (arith, joined, room_entries ab, room_entries a, room_entries b) in
      let k = small l s ab t in
      let all : Accepts (takes_checks p l s (entries_in a ++ entries_in b)) = rw e at (bundle_takes p l s ab t).1 in
      let q = takes_append (entries_in a) (entries_in b) l s all in
      let whole = bundle_accepted l s ab k.0 (λ z. na (omega (arith, z, n))) k.1 (bundle_takes p l s ab t).1 in
      let first = bundle_accepted l s a ea na (omega (arith, n, k.1)) q.0 in
      let rest : Accepts (takes_checks p (l ++ entries_in a) (s + room a) (entries_in b)) = rw (room_entries a) at q.1 in
      let second = bundle_accepted (l ++ entries_in a) (s + room a) b eb nb (omega (arith, n, k.1)) rest in
      record {
        first_accepted = first.0;
        second_accepted = rw first.1 second.0;
        same_lines = whole.1 ∙ ap (λ (es : List Entry). l ++ es) e ∙ sym (append_assoc l (entries_in a) (entries_in b))
            ∙ sym (ap (λ (m : List Entry). after p m (claim_all (s + room a) b)) first.1 ∙ second.1);
      }
