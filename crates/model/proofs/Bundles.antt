-- A bundle does what its single takes do, or answers the refusal of the first that would fail; and its takes one after another, by their places.
use mathlib.Core.Path.{◌≡◌, refl, sym, ap, ◌∙◌}
use mathlib.Core.Bool.{true, false}
use mathlib.Core.List.{List, [], ◌∷◌, ◌++◌, append-nil, append_assoc}
use mathlib.Core.Logic.{◌≢◌}
use Prim.Native.Nat.{ℕ, zero, suc, ◌+◌, ◌≤◌, ◌<◌}
use native.Mathlib.Nat.{add-zero, add-suc}
use native.Mathlib.Omega.{arith}
use lib.ListN.{length, get_or, take, drop, length-append}
use lib.Seq.{drop-cons, drop-length, take-suc, length-take-le}
use lib.Dec.{eqb}
use borrow.Author.Tests.{eqb-true, eqb-false, eq-eqb, ne_eqb}
use Rattle.walsh.proofs.Cases.{on_test}
use Rattle.bounds.specs.Refusal.{Check, refused, first_refusal}
use Rattle.bounds.specs.declared.Refusal.{Refusal}
use Rattle.bounds.proofs.Refusals.{passed, refusal_here, refusal_next}
use Rattle.bounds.proofs.Chains.{Accepts}
use Rattle.model.specs.declared.Answer.{Answer}
use Rattle.model.specs.Basics.{first_place}
use Rattle.model.specs.Entry.{Entry, void_entry, same_order, sold_in, voided_in, Lent, entries_in}
use Rattle.model.specs.Printing.{Printing, size}
use Rattle.model.specs.Model.{claim, claim_all, next, bad_bundle, order_checks, claim_checks, takes_checks, given, refused_with, answer_by, answer}
use Rattle.model.specs.Model.{accepted, after, book_from}
use Rattle.model.specs.Bundle.{takes, first_failed, AsTakes}
use Rattle.model.proofs.Lists.{snoc_append}
use Rattle.model.proofs.Answers.{answer_number, placed_next, claim_good}
use Rattle.model.proofs.Calls.{number_of_lem, claim_turn, takes_split, takes_next, takes_refused}

module _ (p : Printing) (l : List Entry) (s : ℕ) (b : Lent) where
  pub size_bad : (bad_bundle b).holds ≡ true → answer p l (claim_all s b) ≡ refused_with 24 0
  unfolding answer
  size_bad t = ap (λ (v : Refusal). answer_by v p s) (refusal_here (bad_bundle b) _ t)

  -- of an allowed size, its takes say
  pub by_takes : (bad_bundle b).holds ≡ false → answer p l (claim_all s b) ≡ answer_by (first_refusal (takes_checks p l s (entries_in b))) p s
  unfolding answer
  by_takes f = ap (λ (v : Refusal). answer_by v p s) (refusal_next (bad_bundle b) (takes_checks p l s (entries_in b)) f)

-- ---- as single takes

module _ (p : Printing) where
  -- a refused call answers the number and the detail of its refusal
  refused_answer : (v : Refusal) (s : ℕ) → eqb v.number 0 ≡ false → refused (answer_by v p s).number (answer_by v p s).detail ≡ v
  refused_answer v s f = rw f

  module _ (l : List Entry) (s : ℕ) (e : Entry) where
    abbrev v : Refusal
    v = first_refusal (claim_checks p l s e)

    same_test : accepted (answer p l (claim s e)) ≡ eqb v.number 0
    same_test = ap (λ n. eqb n 0) (number_of_lem p l (claim s e))

    first_refused : eqb v.number 0 ≡ false → refused (answer p l (claim s e)).number (answer p l (claim s e)).detail ≡ v
    unfolding answer
    first_refused f = refused_answer v s f

    after_claim : eqb v.number 0 ≡ true → after p l (claim s e) ≡ l ++ (e ∷ [])
    unfolding after
    after_claim t = rw (same_test, t)

  -- the first refusal among the takes
  first_failed_lem : (es l : List Entry) (s : ℕ) → first_refusal (takes_checks p l s es) ≡ first_failed (book_from p l (takes s es)).trace
  unfolding book_from first_refusal
  first_failed_lem [] l s = refl
  first_failed_lem (e ∷ es) l s = go (first_failed_lem es (l ++ (e ∷ [])) (suc s))
    where
      go : first_refusal (takes_checks p (l ++ (e ∷ [])) (suc s) es) ≡ first_failed (book_from p (l ++ (e ∷ [])) (takes (suc s) es)).trace
          → first_refusal (takes_checks p l s (e ∷ es)) ≡ first_failed (book_from p l (takes s (e ∷ es))).trace
      go i =
          on_test (eqb (v l s e).number 0)
          (λ t.
          takes_next p l s e es (eqb-true _ 0 t)
          ∙ rw (same_test l s e, t, after_claim l s e t) i)
          (λ f. takes_refused p l s e es (eqb-false _ 0 f) ∙ rw (same_test l s e, f) (sym (first_refused l s e f)))

  -- the lines of takes that are all accepted
  all_entered : (es l : List Entry) (s : ℕ) → Accepts (takes_checks p l s es) → (book_from p l (takes s es)).entries ≡ l ++ es
  unfolding book_from
  all_entered [] l s a = sym (append-nil l)
  all_entered (e ∷ es) l s a = let q = takes_split p l s e es a in go q.0 (all_entered es (l ++ (e ∷ [])) (suc s) q.1)
    where
      go : Accepts (claim_checks p l s e) → (book_from p (l ++ (e ∷ [])) (takes (suc s) es)).entries ≡ (l ++ (e ∷ [])) ++ es
          → (book_from p l (takes s (e ∷ es))).entries ≡ l ++ (e ∷ es)
      go a i = rw (after_claim l s e (eq-eqb _ 0 a), book_from) i ∙ snoc_append l e es

  pub as_takes : (l : List Entry) (s : ℕ) (b : Lent) → (bad_bundle b).holds ≡ false → AsTakes p l s b
  unfolding after
  as_takes l s b small =
      let es = entries_in b in
      let v = first_failed (book_from p l (takes s es)).trace in
      let q = by_takes p l s b small ∙ ap (λ (x : Refusal). answer_by x p s) (first_failed_lem es l s) in
      let none : v.number ≡ 0 → Accepts (takes_checks p l s es) = λ z. ap (λ (x : Refusal). x.number) (first_failed_lem es l s) ∙ z in
      record {
        answers = q;
        leaves =
            rw (q, answer_number v p s)
            (on_test (eqb v.number 0) (λ t. rw t (sym (all_entered es l s (none (eqb-true _ 0 t))))) (λ f. rw f));
      }

  -- ---- one take after another, by its place in the bundle: what is left gives the whole's refusal

  module _ (l : List Entry) (s : ℕ) (es : List Entry) where
    -- the checks of the takes from place k on, where those before it were accepted
    abbrev takes_left : ℕ → List Check
    takes_left k = takes_checks p (l ++ take k es) (s + k) (drop k es)

    -- the order at place k, and the lines as the takes before it would leave them
    abbrev pub order_at : ℕ → Entry
    order_at k = get_or es k void_entry

    abbrev pub lines_after : ℕ → List Entry
    lines_after k = l ++ take k es

    -- its checks
    abbrev pub take_at : ℕ → List Check
    take_at k = claim_checks p (lines_after k) (s + k) (order_at k)

    left_all : takes_checks p l s es ≡ takes_left 0
    left_all = rw (append-nil l, add-zero s)

    left_cons : (k : ℕ) → k < length es → takes_left k ≡ takes_checks p (lines_after k) (s + k) (order_at k ∷ drop (suc k) es)
    left_cons k h = rw (drop-cons es k void_entry h)

    left_next : (k : ℕ) → k < length es → Accepts (take_at k) → first_refusal (takes_left k) ≡ first_refusal (takes_left (suc k))
    left_next k h a =
        ap first_refusal (left_cons k h)
        ∙ takes_next p (lines_after k) (s + k) (order_at k) (drop (suc k) es) a
        ∙ rw (append_assoc l (take k es) (order_at k ∷ []), ← (take-suc es k void_entry h), ← (add-suc s k))

    -- the takes before place k are accepted
    abbrev pub Before : ℕ → Type 0
    Before k = (j : ℕ) → j < k → Accepts (take_at j)

    left_to : (k : ℕ) → k ≤ length es → Before k → first_refusal (takes_checks p l s es) ≡ first_refusal (takes_left k)
    left_to zero h a = ap first_refusal left_all
    left_to (suc k) h a = left_to k (omega arith) (λ j b. a j (omega arith)) ∙ left_next k h (a k (omega arith))

    refusal_at : (k : ℕ) → k < length es → Before k → (first_refusal (take_at k)).number ≢ 0
        → first_refusal (takes_checks p l s es) ≡ first_refusal (take_at k)
    refusal_at k h a f =
        left_to k (omega arith) a
        ∙ ap first_refusal (left_cons k h)
        ∙ takes_refused p (lines_after k) (s + k) (order_at k) (drop (suc k) es) f

    refusal_none : Before (length es) → first_refusal (takes_checks p l s es) ≡ refused 0 0
    unfolding first_refusal
    refusal_none a = left_to (length es) (omega arith) a ∙ rw (drop-length es)

    pub lines_at : (k : ℕ) → k ≤ length es → length (lines_after k) ≡ length l + k
    lines_at k h = length-append l (take k es) ∙ ap (λ n. length l + n) (length-take-le k es h)

    -- where the first is in turn, so are the later ones
    pub turn_at : (k : ℕ) → k ≤ length es → s ≡ next p l → s + k ≡ next p (lines_after k)
    turn_at k h e = omega (arith, e, lines_at k h)

    -- a good order that stands in no earlier line, and a serial for it
    pub good_take : (k : ℕ) → k < length es → s ≡ next p l → s + k ≤ size p → Accepts (order_checks (order_at k))
        → length (lines_after k) ≤ first_place (same_order (order_at k)) (lines_after k)
        → Accepts (take_at k)
    good_take k h e inside good new =
        let t = turn_at k (omega arith) e in
        let there = placed_next p (lines_after k) (s + k) (omega arith) inside t in
        let z = ap (λ (a : Answer). a.number) there in
        sym (number_of_lem p (lines_after k) (claim (s + k) (order_at k)))
        ∙ ap (λ (a : Answer). a.number) (claim_good p (lines_after k) (s + k) (order_at k) good z new ∙ there)

  module _ (l : List Entry) (s : ℕ) (b : Lent) (small : (bad_bundle b).holds ≡ false) where
    abbrev es : List Entry
    es = entries_in b

    pub all_taken : Before l s es (length es) → answer p l (claim_all s b) ≡ given p s
    all_taken a = by_takes p l s b small ∙ ap (λ (v : Refusal). answer_by v p s) (refusal_none l s es a)

    -- the take at place k is the first that fails
    pub fails_at : (k : ℕ) → k < length es → Before l s es k
        → (answer p (lines_after l s es k) (claim (s + k) (order_at l s es k))).number ≢ 0
        → answer p l (claim_all s b) ≡ answer p (lines_after l s es k) (claim (s + k) (order_at l s es k))
    unfolding answer
    fails_at k h a some =
        let v = first_refusal (take_at l s es k) in
        let n : v.number ≢ 0 = λ z. some (answer_number v p (s + k) ∙ z) in
        let f = ne_eqb v.number 0 n in
        by_takes p l s b small ∙ ap (λ (w : Refusal). answer_by w p s) (refusal_at l s es k h a n) ∙ rw f

    -- the first of them
    pub fails_first : length es ≢ 0 → (answer p l (claim s (get_or es 0 void_entry))).number ≢ 0
        → answer p l (claim_all s b) ≡ answer p l (claim s (get_or es 0 void_entry))
    fails_first some f =
        let same : answer p (lines_after l s es 0) (claim (s + 0) (order_at l s es 0)) ≡ answer p l (claim s (get_or es 0 void_entry)) =
        rw (append-nil l, add-zero s) in
        fails_at 0 (omega (arith, some)) (λ j h. absurd (omega (arith, h))) (rw same f) ∙ same

  -- the lines of an accepted bundle are all sold
  pub takes_sold : (es l : List Entry) (s : ℕ) → Accepts (takes_checks p l s es) → (sold_in es ≡ length es) × (voided_in es ≡ 0)
  takes_sold [] l s a = (refl, refl)
  takes_sold (e ∷ es) l s a =
      let q = takes_split p l s e es a in
      let i = takes_sold es (l ++ (e ∷ [])) (suc s) q.1 in
      let f = (passed _ _ refl (claim_turn p l s e q.0).0).0 in
      (rw f (omega (arith, i.0)), rw f (omega (arith, i.1)))
