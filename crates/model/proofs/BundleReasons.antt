-- Every answer of the model has its reason in the calls before it, a bundle's too: its takes one after another have theirs.
use mathlib.Core.Path.{◌≡◌, refl, sym, ap, ◌∙◌}
use mathlib.Core.Logic.{◌≢◌, ◌↔◌, ◌⊎◌, inl, inr}
use mathlib.Core.Bool.{Bool, true, false}
use mathlib.Core.List.{List, [], ◌∷◌, ◌++◌, append_assoc}
use Prim.Native.Nat.{ℕ, zero, suc, ◌+◌, ◌≤◌, ◌<◌}
use native.Mathlib.Omega.{arith}
use lib.Dec.{eqb}
use lib.ListN.{length, length-append, length-map}
use borrow.Author.Tests.{eqb-true, eqb-false, ne_eqb}
use Rattle.walsh.proofs.Cases.{on_test, on_less}
use Rattle.bounds.specs.Refusal.{first_refusal}
use Rattle.bounds.specs.declared.Refusal.{Refusal}
use Rattle.model.specs.declared.Answer.{Answer}
use Rattle.model.specs.Entry.{Entry, Lent, entries_in, room, Paired, is_paired}
use Rattle.model.specs.Printing.{Printing, size, lowest}
use Rattle.model.specs.Model.{Call, peek, claim, void, claim_all, bad_bundle, claim_checks, takes_checks, given, answer_by, answer, accepted}
use Rattle.model.specs.Model.{Event, event}
use Rattle.model.specs.Trace.{writes, named, entry_of, those, kept, counted_as, singles, writers, serials, entries_by, count_from}
use Rattle.model.specs.Reason.{ClaimReason, TakeReason, fails, taken, TakesReason, ClaimAllReason, wrong_size, wrong_items, right_size, Reason}
use Rattle.model.proofs.Calls.{size_good, size_uneven, size_wrong, accepting, claim_turn, number_of_lem, takes_next, takes_refused}
use Rattle.model.proofs.Bundles.{size_bad, by_takes}
use Rattle.model.proofs.Reasons.{only_peek, only_claim, only_void}

-- ---- a take behind other calls

those_append : (f : Call → Bool) (t u : List Event) → those f (t ++ u) ≡ those f t ++ those f u
those_append f [] u = refl
those_append f (x ∷ t) u = let i = those_append f t u in on_test (f x.call) (λ h. rw (h, i)) (λ h. rw (h, i))

kept_append : (t u : List Event) → kept (t ++ u) ≡ kept t ++ kept u
kept_append [] u = refl
kept_append (x ∷ t) u = let i = kept_append t u in on_test (accepted x.reply) (λ h. rw (h, i)) (λ h. rw (h, i))

count_snoc : (s k : ℕ) → count_from s (suc k) ≡ count_from s k ++ ((s + k) ∷ [])
count_snoc s zero = ap (λ n. n ∷ []) (omega arith)
count_snoc s (suc k) = ap (λ ns. s ∷ ns) (count_snoc (suc s) k ∙ ap (λ n. count_from (suc s) k ++ (n ∷ [])) (omega arith))

serials_snoc : (ws : List Event) (x : Event) → serials (ws ++ (x ∷ [])) ≡ serials ws ++ (named x.call ∷ [])
serials_snoc [] x = refl
serials_snoc (y ∷ ws) x = ap (λ ns. named y.call ∷ ns) (serials_snoc ws x)

entries_snoc : (ws : List Event) (x : Event) → entries_by (ws ++ (x ∷ [])) ≡ entries_by ws ++ (entry_of x.call ∷ [])
entries_snoc [] x = refl
entries_snoc (y ∷ ws) x = ap (λ es. entry_of y.call ∷ es) (entries_snoc ws x)

module _ (p : Printing) where
  singles_append : (t u : List Event) → singles p (t ++ u) ≡ singles p t ++ singles p u
  singles_append [] u = refl
  singles_append (x ∷ t) u =
      ap (λ r. counted_as p x.call x ++ r) (singles_append t u) ∙ sym (append_assoc (counted_as p x.call x) (singles p t) (singles p u))

  -- the calls so far have taken the serials in turn, and there were enough of these
  record Past (past : List Event) : Type 0 where
    pub turn : serials (writers p past) ≡ count_from (lowest p) (length (writers p past))
    pub fits : length (writers p past) ≤ size p

  abbrev lines : List Event → List Entry
  lines past = entries_by (writers p past)

  module _ (past : List Event) (s : ℕ) (e : Entry) where
    abbrev take : Event
    take = event p (claim s e) (given p s)

    abbrev more : List Event
    more = past ++ (take ∷ [])

    writers_snoc : writers p more ≡ writers p past ++ (take ∷ [])
    writers_snoc =
        ap (λ t. those writes (kept t)) (singles_append past (take ∷ []))
        ∙ ap (those writes) (kept_append (singles p past) (take ∷ []))
        ∙ those_append writes (kept (singles p past)) (take ∷ [])

    lines_snoc : lines more ≡ lines past ++ (e ∷ [])
    lines_snoc = ap entries_by writers_snoc ∙ entries_snoc (writers p past) take

    past_snoc : Past past → s ≡ length (writers p past) + lowest p → s ≤ size p → Past more
    past_snoc h q inside =
        let k = length (writers p past) in
        let n : length (writers p more) ≡ suc k = ap length writers_snoc ∙ length-append (writers p past) (take ∷ []) ∙ omega arith in
        let at : s ≡ lowest p + k = omega arith in
        record {
          turn = ap serials writers_snoc
              ∙ serials_snoc (writers p past) take
              ∙ ap (λ ns. ns ++ (s ∷ [])) h.turn
              ∙ ap (λ m. count_from (lowest p) k ++ (m ∷ [])) at
              ∙ sym (count_snoc (lowest p) k)
              ∙ ap (count_from (lowest p)) (sym n);
          fits = omega (arith, n);
        }

  -- ---- the takes of a bundle

  -- what they answer, where `first` is the bundle's serial
  abbrev decided_by : ℕ → List Entry → ℕ → List Entry → Answer
  decided_by first l s es = answer_by (first_refusal (takes_checks p l s es)) p first

  module _ (first : ℕ) (past : List Event) (s : ℕ) (e : Entry) (es : List Entry) (h : Past past) (a : Answer) where
    abbrev l : List Entry
    l = lines past

    abbrev Others : Answer → Type 0
    Others = TakesReason p first (more past s e) (suc s) es

    claims : (b : Answer) → ClaimReason p past s e b ↔ (b ≡ answer p l (claim s e))
    claims b = only_claim p past h.turn h.fits s e b

    -- the take is accepted, and the others decide
    by_others : accepted (answer p l (claim s e)) ≡ true
        → (Past (more past s e) → Others a ↔ (a ≡ decided_by first (lines (more past s e)) (suc s) es))
        → TakeReason p past s e Others a ↔ (a ≡ decided_by first l s (e ∷ es))
    by_others t others =
        let g = accepting p l (claim s e) t in
        let c = (claim_turn p l s e g.0).1 in
        let n = length-map (writers p past) (λ x. entry_of x.call) in
        let i = others (past_snoc past s e h (omega (arith, c.serial, n)) (omega (arith, c.serial, c.inside))) in
        let same : decided_by first (lines (more past s e)) (suc s) es ≡ decided_by first l s (e ∷ es) =
        ap (λ m. decided_by first m (suc s) es) (lines_snoc past s e) ∙ ap (λ (v : Refusal). answer_by v p first) (sym (takes_next p l s e es g.0)) in
        (go i.0 same g.1, λ q. taken ((claims (given p s)).1 (sym g.1)) (i.1 (q ∙ sym same)))
      where
        go : (Others a → a ≡ decided_by first (lines (more past s e)) (suc s) es)
            → decided_by first (lines (more past s e)) (suc s) es ≡ decided_by first l s (e ∷ es)
            → answer p l (claim s e) ≡ given p s
            → TakeReason p past s e Others a
            → a ≡ decided_by first l s (e ∷ es)
        go i same reply (fails some why) = absurd (some (ap (λ (b : Answer). b.number) ((claims a).0 why ∙ reply)))
        go i same reply (taken why rest) = i rest ∙ same

    -- the take is refused, and decides
    by_take : accepted (answer p l (claim s e)) ≡ false
        → TakeReason p past s e Others a ↔ (a ≡ decided_by first l s (e ∷ es))
    unfolding answer
    by_take f =
        let v = first_refusal (claim_checks p l s e) in
        let some = eqb-false (answer p l (claim s e)).number 0 f in
        let number = number_of_lem p l (claim s e) in
        let w = ne_eqb v.number 0 (λ z. some (number ∙ z)) in
        let here : answer_by v p first ≡ answer_by v p s = rw w in
        let same : decided_by first l s (e ∷ es) ≡ answer p l (claim s e) =
        ap (λ (u : Refusal). answer_by u p first) (takes_refused p l s e es (λ z. some (number ∙ z))) ∙ here in
        (go same some, λ q. fails (λ z. some (ap (λ (b : Answer). b.number) (sym (q ∙ same)) ∙ z)) ((claims a).1 (q ∙ same)))
      where
        go : decided_by first l s (e ∷ es) ≡ answer p l (claim s e) → (answer p l (claim s e)).number ≢ 0
            → TakeReason p past s e Others a
            → a ≡ decided_by first l s (e ∷ es)
        go same some (fails _ why) = (claims a).0 why ∙ sym same
        go same some (taken why rest) = absurd (some (ap (λ (b : Answer). b.number) (sym ((claims (given p s)).0 why))))

  only_takes : (first : ℕ) (es : List Entry) (past : List Event) (s : ℕ) → Past past → (a : Answer)
      → TakesReason p first past s es a ↔ (a ≡ decided_by first (lines past) s es)
  unfolding first_refusal
  only_takes first [] past s h a = ((λ q. q), λ q. q)
  only_takes first (e ∷ es) past s h a =
      on_test (accepted (answer p (lines past) (claim s e)))
      (λ t. by_others first past s e es h a t (λ h'. only_takes first es (more past s e) (suc s) h' a))
      (λ f. by_take first past s e es h a f)

  -- ---- a call

  module _ (past : List Event) (turn : serials (writers p past) ≡ count_from (lowest p) (length (writers p past)))
      (fits : length (writers p past) ≤ size p) where
    -- a bundle's size: another number of item lines, 0, over 40, or allowed
    data Size (b : Lent) : Type 0 where
      uneven : length b.items ≢ length b.orders → (bad_bundle b).holds ≡ true → Size b
      bad : (room b ≡ 0) ⊎ (40 < room b) → (bad_bundle b).holds ≡ true → Size b
      good : Paired b → room b ≢ 0 → room b ≤ 40 → (bad_bundle b).holds ≡ false → Size b

    size_of : (b : Lent) → Size b
    size_of b =
        on_test (is_paired b)
        (λ e.
        let even = eqb-true (length b.items) (length b.orders) e in
        on_test (eqb (room b) 0)
        (λ t. let z = inl (eqb-true (room b) 0 t) in bad z (size_wrong b z))
        (λ f.
        on_less 40 (room b)
        (λ h t. bad (inr h) (size_wrong b (inr h)))
        (λ h t. let some = eqb-false (room b) 0 f in good even some h (size_good b even some h))))
        (λ f. let odd = eqb-false (length b.items) (length b.orders) f in uneven odd (size_uneven b odd))

    only_bundle : (s : ℕ) (b : Lent) (a : Answer) → ClaimAllReason p past s b a ↔ (a ≡ answer p (lines past) (claim_all s b))
    only_bundle s b a = (decides, reason (size_of b))
      where
        takes : TakesReason p s past s (entries_in b) a ↔ (a ≡ decided_by s (lines past) s (entries_in b))
        takes = only_takes s (entries_in b) past s (record { turn = turn; fits = fits }) a

        decides : ClaimAllReason p past s b a → a ≡ answer p (lines past) (claim_all s b)
        decides (wrong_size size is) = is ∙ sym (size_bad p (lines past) s b (size_wrong b size))
        decides (wrong_items odd is) = is ∙ sym (size_bad p (lines past) s b (size_uneven b odd))
        decides (right_size even some few why) = takes.0 why ∙ sym (by_takes p (lines past) s b (size_good b even some few))

        reason : Size b → a ≡ answer p (lines past) (claim_all s b) → ClaimAllReason p past s b a
        reason (bad size t) q = wrong_size size (q ∙ size_bad p (lines past) s b t)
        reason (uneven odd t) q = wrong_items odd (q ∙ size_bad p (lines past) s b t)
        reason (good even some few f) q = right_size even some few (takes.1 (q ∙ by_takes p (lines past) s b f))

    pub only_reason : (c : Call) (a : Answer) → Reason p past c a ↔ (a ≡ answer p (lines past) c)
    only_reason peek a = only_peek p past turn fits a
    only_reason (claim s e) a = only_claim p past turn fits s e a
    only_reason (void s) a = only_void p past turn fits s a
    only_reason (claim_all s b) a = only_bundle s b a
