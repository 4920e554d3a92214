-- Which answer each way through the checks of a call of the model leads to: a law for each row of the table, and for what no row refuses.
use mathlib.Core.Path.{◌≡◌, refl, sym, ap, ◌∙◌}
use mathlib.Core.Logic.{◌≢◌, ◌⊎◌}
use mathlib.Core.Bool.{true}
use mathlib.Core.List.{List, [], ◌∷◌, ◌++◌}
use Prim.Native.Nat.{ℕ, ◌%◌, ◌≤◌, ◌<◌}
use native.Mathlib.Omega.{arith}
use lib.Dec.{eqb}
use lib.ListN.{length, get_or}
use borrow.Author.Tests.{lt-ltb, le-ltb, eqb-true, eq-eqb, ne_eqb}
use Rattle.walsh.proofs.Cases.{on_test, on_less}
use Rattle.digits.specs.Digits.{weighted_sum, Passes}
use Rattle.digits.specs.Slips.{Mistyped}
use Rattle.digits.proofs.Slips.{one_digit}
use Rattle.bounds.specs.Refusal.{refused, first_refusal}
use Rattle.bounds.specs.Places.{is_outside}
use Rattle.bounds.specs.declared.Refusal.{Refusal}
use Rattle.bounds.proofs.Refusals.{refusal_here, refusal_next, refusal_first, refusal_later, by_acceptance, same_number}
use Rattle.bounds.proofs.Chains.{Accepts}
use Rattle.model.specs.declared.Answer.{Answer}
use Rattle.model.specs.Basics.{first_place}
use Rattle.model.specs.Entry.{Entry, void_entry, order_of, item_of, same_order}
use Rattle.model.specs.Printing.{Printing, size, lowest, place_of, serial_at}
use Rattle.model.specs.Model.{peek, claim, void, next, no_order, mistyped, bad_item, no_line, already_written, above_next, stands_earlier, all_written}
use Rattle.model.specs.Model.{order_checks, place_checks, call_checks, given, refused_with, answer_by, answer}
use Rattle.model.specs.Reason.{GoodOrder}
use Rattle.model.proofs.Entries.{is_voided_lem, not_voided, bad_item_lem, good_item}

-- an answer has the number of its refusal
pub answer_number : (v : Refusal) (p : Printing) (s : ℕ) → (answer_by v p s).number ≡ v.number
answer_number v p s = on_test (eqb v.number 0) (λ t. rw t (sym (eqb-true v.number 0 t))) (λ t. rw t)

-- ---- an order by itself

pub order_none : (e : Entry) → order_of e ≡ 0 → first_refusal (order_checks e) ≡ refused 17 0
order_none e z = refusal_here (no_order e) _ (is_voided_lem e z)

pub order_mistyped : (e : Entry) → order_of e ≢ 0 → ¬ Passes (order_of e) → first_refusal (order_checks e) ≡ refused 26 0
order_mistyped e n w = refusal_next (no_order e) _ (not_voided e n) ∙ refusal_here (mistyped e) _ (rw (ne_eqb (weighted_sum (order_of e) % 10) 0 w))

-- a number that passes, with one digit mistyped: it is not 0 either, which passes
pub order_slip : (e d : Entry) (k : ℕ) → Passes (order_of e) → Mistyped (order_of e) (order_of d) k → first_refusal (order_checks d) ≡ refused 26 0
unfolding weighted_sum
order_slip e d k s m =
    let wrong = one_digit (order_of e) (order_of d) k m s in
    order_mistyped d (λ z. wrong (rw z)) wrong

-- 17 and 26 refuse nothing
numbered : (e : Entry) → order_of e ≢ 0 → Passes (order_of e) → first_refusal (order_checks e) ≡ first_refusal (bad_item e ∷ [])
numbered e n s =
    refusal_next (no_order e) _ (not_voided e n) ∙ refusal_next (mistyped e) (bad_item e ∷ []) (rw (eq-eqb (weighted_sum (order_of e) % 10) 0 s))

pub order_bad : (e : Entry) → order_of e ≢ 0 → Passes (order_of e) → (item_of e ≡ 0) ⊎ (99 < item_of e) → first_refusal (order_checks e) ≡ refused 25 0
order_bad e n s b = numbered e n s ∙ refusal_here (bad_item e) [] (bad_item_lem e b)

pub order_good : (e : Entry) → GoodOrder e → Accepts (order_checks e)
unfolding first_refusal
order_good e g = same_number (numbered e g.0 g.1 ∙ refusal_next (bad_item e) [] (good_item e g.2 g.3))

-- the answer of the checks of a serial alone, which is that of a void
abbrev pub placed : Printing → List Entry → ℕ → Answer
placed p l s = answer p l (void s)

module _ (p : Printing) (l : List Entry) where
  abbrev by : Refusal → ℕ → Answer
  by v s = answer_by v p s

  -- ---- a peek

  pub peek_open : next p l ≤ size p → answer p l peek ≡ given p (next p l)
  unfolding answer first_refusal
  peek_open h = ap (λ (v : Refusal). by v (next p l)) (refusal_next (all_written p l) [] (le-ltb (size p) (next p l) h))

  pub peek_closed : size p < next p l → answer p l peek ≡ refused_with 21 0
  unfolding answer
  peek_closed h = ap (λ (v : Refusal). by v (next p l)) (refusal_here (all_written p l) [] (lt-ltb (size p) (next p l) h))

  -- ---- the checks of a serial

  module _ (s : ℕ) where
    outside_by : is_outside (lowest p) (size p) s ≡ true → placed p l s ≡ refused_with 6 0
    unfolding answer
    outside_by t = ap (λ (v : Refusal). by v s) (refusal_here (no_line p s) _ t)

    pub placed_low : s < lowest p → placed p l s ≡ refused_with 6 0
    placed_low h = outside_by (rw (lt-ltb s (lowest p) h))

    pub placed_high : size p < s → placed p l s ≡ refused_with 6 0
    placed_high h = on_less s (lowest p) (λ b t. placed_low b) (λ b t. outside_by (rw t (lt-ltb (size p) s h)))

    module _ (h : lowest p ≤ s) (k : s ≤ size p) where
      inside : first_refusal (place_checks p l s) ≡ first_refusal (already_written p l s ∷ above_next p l s ∷ [])
      inside = refusal_next (no_line p s) _ (rw (le-ltb s (lowest p) h) (le-ltb (size p) s k))

      -- the next one is accepted
      pub placed_next : s ≡ next p l → placed p l s ≡ given p s
      unfolding answer first_refusal
      placed_next q =
          let not-19 = refusal_next (above_next p l s) [] (le-ltb (next p l) s (omega arith)) in
          let not-18 = refusal_next (already_written p l s) (above_next p l s ∷ []) (le-ltb s (next p l) (omega arith)) in
          ap (λ (v : Refusal). by v s) (inside ∙ not-18 ∙ not-19)

      pub placed_below : s < next p l → placed p l s ≡ refused_with 18 (order_of (get_or l (place_of p s) void_entry))
      unfolding answer
      placed_below q = ap (λ (v : Refusal). by v s) (inside ∙ refusal_here (already_written p l s) _ (lt-ltb s (next p l) q))

      pub placed_above : next p l < s → placed p l s ≡ refused_with 19 (next p l)
      unfolding answer
      placed_above q =
          let not-18 = refusal_next (already_written p l s) (above_next p l s ∷ []) (le-ltb s (next p l) (omega arith)) in
          ap (λ (v : Refusal). by v s) (inside ∙ not-18 ∙ refusal_here (above_next p l s) [] (lt-ltb (next p l) s q))

  -- ---- the checks of a claim

  module _ (s : ℕ) (e : Entry) where
    -- an order that its own checks refuse
    pub claim_none : (n d : ℕ) → n ≢ 0 → first_refusal (order_checks e) ≡ refused n d → answer p l (claim s e) ≡ refused_with n d
    unfolding answer
    claim_none n d z q =
        let first = refusal_first (order_checks e) (place_checks p l s ++ (stands_earlier p l e ∷ [])) (λ y. z (same_number (sym q) ∙ y)) in
        ap (λ (v : Refusal). by v s) (first ∙ q) ∙ rw (ne_eqb n 0 z)

    module _ (n : Accepts (order_checks e)) where
      ordered : first_refusal (call_checks p l (claim s e)) ≡ first_refusal (place_checks p l s ++ (stands_earlier p l e ∷ []))
      ordered = refusal_later (order_checks e) _ refl n

      pub claim_refused : (placed p l s).number ≢ 0 → answer p l (claim s e) ≡ placed p l s
      unfolding answer
      claim_refused f =
          let number = answer_number (first_refusal (place_checks p l s)) p s in
          ap (λ (v : Refusal). by v s) (ordered ∙ refusal_first (place_checks p l s) (stands_earlier p l e ∷ []) (λ z. f (number ∙ z)))

      module _ (z : (placed p l s).number ≡ 0) where
        zero_number : (first_refusal (place_checks p l s)).number ≡ 0
        unfolding answer
        zero_number = sym (answer_number (first_refusal (place_checks p l s)) p s) ∙ z

        later : first_refusal (call_checks p l (claim s e)) ≡ first_refusal (stands_earlier p l e ∷ [])
        later = ordered ∙ refusal_later (place_checks p l s) (stands_earlier p l e ∷ []) refl zero_number

        pub claim_again : first_place (same_order e) l < length l
            → answer p l (claim s e) ≡ refused_with 20 (serial_at p (first_place (same_order e) l))
        unfolding answer
        claim_again q =
            ap (λ (v : Refusal). by v s) (later ∙ refusal_here (stands_earlier p l e) [] (lt-ltb (first_place (same_order e) l) (length l) q))

        pub claim_good : length l ≤ first_place (same_order e) l → answer p l (claim s e) ≡ placed p l s
        unfolding answer first_refusal
        claim_good q =
            let none = refusal_next (stands_earlier p l e) [] (le-ltb (first_place (same_order e) l) (length l) q) in
            ap (λ (v : Refusal). by v s) (later ∙ none) ∙ sym (by_acceptance (first_refusal (place_checks p l s)) _ _ zero_number)
