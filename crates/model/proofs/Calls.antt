-- Laws of one call of the model: what an accepted answer says, and which numbers an answer can have.
use mathlib.Core.Path.{◌≡◌, refl, sym, ap, ◌∙◌}
use mathlib.Core.Logic.{◌≢◌, ◌↔◌, ◌⊎◌, inl, inr}
use mathlib.Core.Bool.{Bool, true, false, not, false≢true}
use mathlib.Core.List.{List, [], ◌∷◌, ◌++◌, append-nil}
use Prim.Native.Nat.{ℕ, suc, ◌≤◌, ◌<◌}
use native.Mathlib.Omega.{arith}
use lib.Dec.{ltb, eqb}
use lib.ListN.{length}
use borrow.Author.Tests.{ltb-false, lt-ltb, le-ltb, eq-eqb, ne_eqb, eqb-true, eqb-false, not-false}
use Rattle.walsh.specs.Tests.{either}
use Rattle.walsh.proofs.Tests.{many_append}
use Rattle.walsh.proofs.Cases.{on_test, on_less}
use Rattle.bounds.specs.Refusal.{Check, first_refusal}
use Rattle.bounds.specs.Places.{is_outside}
use Rattle.bounds.specs.declared.Refusal.{Refusal}
use Rattle.bounds.proofs.Editions.{neither}
use Rattle.bounds.proofs.Refusals.{same_number, numbered, passed, refusal_here, refusal_next, refusal_first, refusal_later, is_accepted, by_acceptance, lacks, refusal_lacks}
use Rattle.bounds.proofs.Chains.{Accepts, accepts_split}
use Rattle.model.specs.declared.Answer.{Answer}
use Rattle.model.specs.Basics.{first_place}
use Rattle.model.specs.Entry.{Entry, void_entry, is_voided, same_order, is_unsound, unsound_in, Lent, entries_in, room, Paired, is_paired}
use Rattle.model.specs.Printing.{Printing, size, lowest, capacity}
use Rattle.model.specs.Model.{Call, peek, claim, void, claim_all, next, no_line, already_written, above_next, stands_earlier, all_written, bad_bundle}
use Rattle.model.specs.Model.{order_checks, place_checks, claim_checks, takes_checks, call_checks, rows_before, granted, given, answer, accepted, appended, after}
use Rattle.model.specs.Trace.{writes, named}
use Rattle.model.proofs.Lists.{length_snoc, snoc_append}
use Rattle.model.proofs.Entries.{sound_line, room_entries}
use Rattle.model.proofs.Answers.{answer_number}

module _ (c : Check) (cs : List Check) where
  number_here : c.holds ≡ true → (first_refusal (c ∷ cs)).number ≡ c.number
  number_here t = ap (λ (v : Refusal). v.number) (refusal_here c cs t)

  number_next : c.holds ≡ false → (first_refusal (c ∷ cs)).number ≡ (first_refusal cs).number
  number_next t = ap (λ (v : Refusal). v.number) (refusal_next c cs t)

-- ---- the size of a bundle

either_true : (t : Bool) → either t true ≡ true
either_true true = refl
either_true false = refl

pub size_good : (b : Lent) → Paired b → room b ≢ 0 → room b ≤ 40 → (bad_bundle b).holds ≡ false
size_good b even some few = rw (eq-eqb (length b.items) (length b.orders) even, ne_eqb (room b) 0 some, le-ltb 40 (room b) few)

-- 24 for another number of item lines, whatever the size
pub size_uneven : (b : Lent) → length b.items ≢ length b.orders → (bad_bundle b).holds ≡ true
size_uneven b odd = rw (ne_eqb (length b.items) (length b.orders) odd)

pub size_wrong : (b : Lent) → (room b ≡ 0) ⊎ (40 < room b) → (bad_bundle b).holds ≡ true
size_wrong b (inl z) = rw (eq-eqb (room b) 0 z) (either_true (not (is_paired b)))
size_wrong b (inr h) = rw (ne_eqb (room b) 0 (λ z. omega (arith, z, h)), lt-ltb 40 (room b) h) (either_true (not (is_paired b)))

pub size_known : (b : Lent) → (bad_bundle b).holds ≡ false → Paired b × (room b ≢ 0) × (room b ≤ 40)
size_known b f =
    let q = neither (not (is_paired b)) (either (eqb (room b) 0) (ltb 40 (room b))) f in
    let r = neither (eqb (room b) 0) (ltb 40 (room b)) q.1 in
    (eqb-true (length b.items) (length b.orders) (not-false (is_paired b) q.0), eqb-false (room b) 0 r.0, ltb-false 40 (room b) r.1)

module _ (p : Printing) where
  -- what holds of every list that the model reaches
  pub record Reached (l : List Entry) : Type 0 where
    pub fits : length l ≤ capacity p
    pub sound : unsound_in l ≡ 0

  pub reached_none : Reached []
  reached_none = record { fits = omega arith; sound = refl }

  reached_more : (l : List Entry) (e : Entry) → next p l ≤ size p → is_unsound e ≡ false → Reached l → Reached (l ++ (e ∷ []))
  reached_more l e h f k =
      let one : unsound_in (e ∷ []) ≡ 0 = rw f in
      record { fits = omega (arith, length_snoc l e); sound = omega (arith, many_append is_unsound l (e ∷ []), one, k.sound) }

  -- an order that its checks accept makes a sound line
  order_sound : (e : Entry) → Accepts (order_checks e) → is_unsound e ≡ false
  order_sound e a = let q = passed _ _ refl a in sound_line e q.0 (passed _ _ refl (passed _ _ refl q.2).2).0

  module _ (l : List Entry) where
    -- ---- an accepted call

    pub accepting : (c : Call) → accepted (answer p l c) ≡ true → Accepts (call_checks p l c) × (answer p l c ≡ given p (granted p l c))
    unfolding answer
    accepting c t =
        is_accepted (first_refusal (call_checks p l c)) _ _ (λ (x : Answer). x.number) (λ (x : Answer). x.detail) refl refl refl _ refl
        (eqb-true (answer p l c).number 0 t)

    pub accepts_answer : (c : Call) → Accepts (call_checks p l c) → answer p l c ≡ given p (granted p l c)
    unfolding answer
    accepts_answer c a = by_acceptance (first_refusal (call_checks p l c)) _ _ a

    -- a serial that its checks accept, and what stands behind them
    pub record InTurn (s : ℕ) (rest : List Check) : Type 0 where
      pub serial : s ≡ next p l
      pub inside : next p l ≤ size p
      pub rest_accepts : Accepts rest

    pub in_turn : (s : ℕ) (rest : List Check) → numbered rest ≡ true → Accepts (place_checks p l s ++ rest) → InTurn s rest
    in_turn s rest n e =
        let p6 = passed _ _ n e in
        let p18 = passed _ _ n p6.2 in
        let p19 = passed _ _ n p18.2 in
        let h6 = ltb-false (size p) s (neither (ltb s (lowest p)) (ltb (size p) s) p6.0).1 in
        let h18 = ltb-false s (next p l) p18.0 in
        let h19 = ltb-false (next p l) s p19.0 in
        record { serial = omega arith; inside = omega arith; rest_accepts = p19.2 }

    -- a claim that its checks accept
    pub claim_turn : (s : ℕ) (e : Entry) → Accepts (claim_checks p l s e) → Accepts (order_checks e) × InTurn s (stands_earlier p l e ∷ [])
    claim_turn s e a = let q = accepts_split (order_checks e) _ refl a in (q.0, in_turn s (stands_earlier p l e ∷ []) refl q.1)

    -- an accepted claim is for an order other than 0, which stands in no line
    module _ (s : ℕ) (e : Entry) (t : accepted (answer p l (claim s e)) ≡ true) where
      pub for_an_order : is_voided e ≡ false
      for_an_order = (passed _ _ refl (claim_turn s e (accepting (claim s e) t).0).0).0

      pub for_a_new_order : length l ≤ first_place (same_order e) l
      for_a_new_order =
          let q = (claim_turn s e (accepting (claim s e) t).0).1 in
          ltb-false (first_place (same_order e) l) (length l) (passed _ _ refl q.rest_accepts).0

  -- ---- the takes of a bundle

  -- neither 0 nor 16 is among their numbers
  pub takes_numbered : (es l : List Entry) (s : ℕ) → numbered (takes_checks p l s es) ≡ true
  takes_numbered [] l s = refl
  takes_numbered (e ∷ es) l s = takes_numbered es (l ++ (e ∷ [])) (suc s)

  takes_not_16 : (es l : List Entry) (s : ℕ) → lacks 16 (takes_checks p l s es) ≡ true
  takes_not_16 [] l s = refl
  takes_not_16 (e ∷ es) l s = takes_not_16 es (l ++ (e ∷ [])) (suc s)

  -- the first, and those behind it
  module _ (l : List Entry) (s : ℕ) (e : Entry) (es : List Entry) where
    pub takes_split : Accepts (takes_checks p l s (e ∷ es))
        → Accepts (claim_checks p l s e) × Accepts (takes_checks p (l ++ (e ∷ [])) (suc s) es)
    takes_split a = accepts_split (claim_checks p l s e) (takes_checks p (l ++ (e ∷ [])) (suc s) es) refl a

    pub takes_refused : (first_refusal (claim_checks p l s e)).number ≢ 0
        → first_refusal (takes_checks p l s (e ∷ es)) ≡ first_refusal (claim_checks p l s e)
    takes_refused f = refusal_first (claim_checks p l s e) _ f

    pub takes_next : Accepts (claim_checks p l s e)
        → first_refusal (takes_checks p l s (e ∷ es)) ≡ first_refusal (takes_checks p (l ++ (e ∷ [])) (suc s) es)
    takes_next a = refusal_later (claim_checks p l s e) _ refl a

  takes_reached : (es l : List Entry) (s : ℕ) → Reached l → Accepts (takes_checks p l s es) → Reached (l ++ es)
  takes_reached [] l s h a = rw (append-nil l) h
  takes_reached (e ∷ es) l s h a =
      let q = takes_split l s e es a in
      let c = claim_turn l s e q.0 in
      rw (← (snoc_append l e es))
      (takes_reached es (l ++ (e ∷ [])) (suc s) (reached_more l e c.1.inside (order_sound e c.0) h) q.1)

  -- ---- an accepted call

  module _ (l : List Entry) where
    -- a bundle that is accepted has a first take, which is in turn
    pub bundle_takes : (s : ℕ) (b : Lent) → accepted (answer p l (claim_all s b)) ≡ true
        → (length (entries_in b) ≢ 0) × Accepts (takes_checks p l s (entries_in b))
    bundle_takes s b t =
        let q = passed (bad_bundle b) _ (takes_numbered (entries_in b) l s) (accepting l (claim_all s b) t).0 in
        ((λ z. (size_known b q.0).1 (sym (room_entries b) ∙ z)), q.2)

    -- and as many item lines as orders
    pub bundle_paired : (s : ℕ) (b : Lent) → accepted (answer p l (claim_all s b)) ≡ true → Paired b
    bundle_paired s b t =
        (size_known b (passed (bad_bundle b) _ (takes_numbered (entries_in b) l s) (accepting l (claim_all s b) t).0).0).0

    bundle_turn : (s : ℕ) (es : List Entry) → length es ≢ 0 → Accepts (takes_checks p l s es) → (s ≡ next p l) × (next p l ≤ size p)
    bundle_turn s [] n a = absurd (n refl)
    bundle_turn s (e ∷ es) n a = let q = (claim_turn l s e (takes_split l s e es a).0).1 in (q.serial, q.inside)

    -- what is known of an accepted call
    pub record Grant (c : Call) : Type 0 where
      pub reply : answer p l c ≡ given p (next p l)
      pub serial : granted p l c ≡ next p l
      pub inside : next p l ≤ size p
      pub reached : Reached (l ++ appended c)

    grant_by : (c : Call) → accepted (answer p l c) ≡ true → granted p l c ≡ next p l → next p l ≤ size p → Reached (l ++ appended c) → Grant c
    grant_by c t s i h = record { reply = (accepting l c t).1 ∙ ap (given p) s; serial = s; inside = i; reached = h }

    pub grant : (c : Call) → Reached l → accepted (answer p l c) ≡ true → Grant c
    grant peek h t = grant_by peek t refl (ltb-false _ _ (passed _ _ refl (accepting l peek t).0).0) (rw (append-nil l) h)
    grant (claim s e) h t =
        let c = claim_turn l s e (accepting l (claim s e) t).0 in
        let q = c.1 in
        grant_by (claim s e) t q.serial q.inside (reached_more l e q.inside (order_sound e c.0) h)
    grant (void s) h t =
        let q = in_turn l s [] refl (accepting l (void s) t).0 in
        grant_by (void s) t q.serial q.inside (reached_more l void_entry q.inside refl h)
    grant (claim_all s b) h t =
        let a = bundle_takes s b t in
        let q = bundle_turn s (entries_in b) a.0 a.1 in
        grant_by (claim_all s b) t q.0 q.1 (takes_reached (entries_in b) l s h a.1)

    pub after_reached : (c : Call) → Reached l → Reached (after p l c)
    unfolding after
    after_reached c h = on_test (accepted (answer p l c)) (λ t. rw t (grant c h t).reached) (λ t. rw t h)

    -- ---- which number an answer has

    pub number_of_lem : (c : Call) → (answer p l c).number ≡ (first_refusal (call_checks p l c)).number
    unfolding answer
    number_of_lem c = answer_number (first_refusal (call_checks p l c)) p (granted p l c)

    pub not_16 : (c : Call) → (answer p l c).number ≢ 16
    not_16 peek = rw (number_of_lem peek) (refusal_lacks 16 (call_checks p l peek) (omega arith) refl)
    not_16 (claim s e) = rw (number_of_lem (claim s e)) (refusal_lacks 16 (call_checks p l (claim s e)) (omega arith) refl)
    not_16 (void s) = rw (number_of_lem (void s)) (refusal_lacks 16 (call_checks p l (void s)) (omega arith) refl)
    not_16 (claim_all s b) =
        rw (number_of_lem (claim_all s b)) (refusal_lacks 16 (call_checks p l (claim_all s b)) (omega arith) (takes_not_16 (entries_in b) l s))

    -- a peek answers 21 where every serial is written
    pub peek_21 : ((answer p l peek).number ≡ 21) ↔ (size p < next p l)
    peek_21 =
        let c = all_written p l in
        rw (number_of_lem peek) (
          (λ e.
              on_less (size p) (next p l) (λ h t. h)
              (λ h t. absurd (refusal_lacks 21 [] (omega arith) refl (sym (number_next c [] t) ∙ e)))),
          λ h. (number_here c [] (lt-ltb _ _ h)),
        )

    -- a call that no check before 18 refuses; behind 18 come other numbers
    written_18 : (xs ys : List Check) (s : ℕ) → numbered xs ≡ true → Accepts xs → lacks 18 ys ≡ true
        → ((first_refusal (xs ++ (already_written p l s ∷ ys))).number ≡ 18) ↔ (s < next p l)
    written_18 xs ys s n a k =
        let c = already_written p l s in
        let e = same_number (refusal_later xs (c ∷ ys) n a) in
        rw e (
          (λ q. on_less s (next p l) (λ b t. b) (λ b t. absurd (refusal_lacks 18 ys (omega arith) k (sym (number_next c ys t) ∙ q)))),
          λ h. number_here c ys (lt-ltb _ _ h),
        )

    -- a serial that is not refused 6
    not_low : (s : ℕ) → is_outside (lowest p) (size p) s ≡ false → lowest p ≤ s
    not_low s e = ltb-false s (lowest p) (neither (ltb s (lowest p)) (ltb (size p) s) e).0

    pub already_written_lem : (c : Call) → writes c ≡ true → Accepts (rows_before 18 (call_checks p l c))
        → ((answer p l c).number ≡ 18) ↔ ((lowest p ≤ named c) × (named c < next p l))
    already_written_lem peek w a = absurd (false≢true w)
    already_written_lem (claim_all s b) w a = absurd (false≢true w)
    already_written_lem (claim s e) w a =
        let h = not_low s (passed _ _ refl (accepts_split (order_checks e) (no_line p s ∷ []) refl a).1).0 in
        let b = written_18 (rows_before 18 (call_checks p l (claim s e))) (above_next p l s ∷ stands_earlier p l e ∷ []) s refl a refl in
        rw (number_of_lem (claim s e)) ((λ q. (h, b.0 q)), λ q. b.1 q.1)
    already_written_lem (void s) w a =
        let h = not_low s (passed _ _ refl a).0 in
        let b = written_18 (rows_before 18 (call_checks p l (void s))) (above_next p l s ∷ []) s refl a refl in
        rw (number_of_lem (void s)) ((λ q. (h, b.0 q)), λ q. b.1 q.1)
