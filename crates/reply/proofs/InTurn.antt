-- The takes of a bundle as the code goes through them: what is known before each, and which answer each way out is.
use mathlib.Core.Path.{◌≡◌, refl, sym, ap, ◌∙◌}
use mathlib.Core.Logic.{◌≢◌}
use mathlib.Core.Bool.{false}
use mathlib.Core.List.{List, []}
use Prim.Native.Nat.{ℕ, ◌+◌, ◌≤◌, ◌<◌}
use native.Mathlib.Omega.{arith}
use lib.ListN.{length, get_or}
use borrow.Author.Tests.{eq-eqb}
use Rattle.bounds.specs.Refusal.{refused, first_refusal}
use Rattle.bounds.proofs.Chains.{Accepts}
use Rattle.model.specs.Entry.{Entry, void_entry, Lent, entries_in}
use Rattle.model.specs.Printing.{Printing, size, serial_at}
use Rattle.model.specs.Model.{Call, bad_bundle, order_checks, refused_with, answer}
use Rattle.model.specs.declared.Answer.{Answer}
use Rattle.model.proofs.Answers.{placed, placed_high, placed_next, claim_none, claim_refused, claim_again}
use Rattle.model.proofs.Calls.{InTurn, in_turn, accepting}
use Rattle.model.proofs.Bundles.{order_at, lines_after, Before, lines_at, turn_at, good_take, all_taken, fails_at, fails_first}
use Rattle.integrity.specs.Again.{first_again, place_again}
use Rattle.integrity.proofs.Again.{again_new, again_here}

module _ (p : Printing) (l : List Entry) (s : ℕ) (b : Lent) (small : (bad_bundle b).holds ≡ false) where
  abbrev es : List Entry
  es = entries_in b

  abbrev whole : Answer
  whole = answer p l (Call.claim_all s b)

  -- ---- the first take

  module _ (some : length es ≢ 0) where
    -- its order is refused by its own checks
    pub first_unordered : (n d : ℕ) → n ≢ 0 → first_refusal (order_checks (get_or es 0 void_entry)) ≡ refused n d → whole ≡ refused_with n d
    first_unordered n d z q =
        let e = claim_none p l s (get_or es 0 void_entry) n d z q in
        fails_first p l s b small some (rw e z) ∙ e

    pub first_misplaced : Accepts (order_checks (get_or es 0 void_entry)) → (placed p l s).number ≢ 0 → whole ≡ placed p l s
    first_misplaced n f =
        let e = claim_refused p l s (get_or es 0 void_entry) n f in
        fails_first p l s b small some (rw e f) ∙ e

  -- ---- in turn

  module _ (z : (placed p l s).number ≡ 0) where
    accepted_place : InTurn p l s []
    accepted_place = in_turn p l s [] refl (accepting p l (Call.void s) (eq-eqb _ 0 z)).0

    pub serial_inside : s ≤ size p
    serial_inside = omega (arith, accepted_place.serial, accepted_place.inside)

    -- the takes before place k have orders that pass their own checks, serials are left for them, and they stand in no earlier line
    pub record Passed (k : ℕ) : Type 0 where
      pub most : k ≤ length es
      pub orders : (j : ℕ) → j < k → Accepts (order_checks (get_or es j void_entry))
      pub serials : (j : ℕ) → j < k → s + j ≤ size p
      pub new : k ≤ first_again l es

    before : (k : ℕ) → Passed k → Before p l s es k
    before k h j i =
        good_take p l s es j (omega (arith, i, h.most)) accepted_place.serial (h.serials j i) (h.orders j i)
        (again_new l es j (omega (arith, i, h.new)))

    pub all_passed : (k : ℕ) → length es ≤ k → Passed k → whole ≡ placed p l s
    all_passed k q h = all_taken p l s b small (λ j i. before k h j (omega (arith, i, q))) ∙ sym (accepting p l (Call.void s) (eq-eqb _ 0 z)).1

    module _ (k : ℕ) (h : Passed k) (i : k < length es) where
      abbrev e : Entry
      e = order_at p l s es k

      abbrev lines : List Entry
      lines = lines_after p l s es k

      by_take : (n d : ℕ) → n ≢ 0 → answer p lines (Call.claim (s + k) e) ≡ refused_with n d → whole ≡ refused_with n d
      by_take n d some q = fails_at p l s b small k i (before k h) (rw q some) ∙ q

      pub unordered : (n d : ℕ) → n ≢ 0 → first_refusal (order_checks e) ≡ refused n d → whole ≡ refused_with n d
      unordered n d z q = by_take n d z (claim_none p lines (s + k) e n d z q)

      module _ (good : Accepts (order_checks e)) where
        pub none_left : size p < s + k → whole ≡ refused_with 6 0
        none_left m =
            let high = placed_high p lines (s + k) m in
            by_take 6 0 (omega arith) (claim_refused p lines (s + k) e good (rw high (omega arith)) ∙ high)

        -- the line that an order stands in is one before it
        pub line_before : k ≡ first_again l es → place_again l es < length l + k
        line_before q =
            let found = rw (← q) at (again_here l es (omega (arith, i, q))) in
            omega (arith, found.1, lines_at p l s es k h.most)

        pub stands : s + k ≤ size p → k ≡ first_again l es → whole ≡ refused_with 20 (serial_at p (place_again l es))
        stands m q =
            let turn = turn_at p l s es k h.most accepted_place.serial in
            let there = placed_next p lines (s + k) (omega (arith, turn)) m turn in
            let found = rw (← q) at (again_here l es (omega (arith, i, q))) in
            by_take 20 _ (omega arith)
            (claim_again p lines (s + k) e good (ap (λ (a : Answer). a.number) there) (rw found.0 at found.1)
            ∙ ap (λ (n : ℕ). refused_with 20 (serial_at p n)) (sym found.0))
