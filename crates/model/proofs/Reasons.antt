-- Every answer of the model to a peek, a claim or a void has its reason in the calls before it; bundles are in proofs/BundleReasons.
use mathlib.Core.Path.{◌≡◌, refl, sym, ap, ◌∙◌}
use mathlib.Core.Logic.{◌≢◌, ◌↔◌, ◌⊎◌, inl, inr}
use mathlib.Core.List.Memᴰ
use mathlib.Core.List.{List, [], ◌∷◌, Memᴰ}
use Prim.Native.Nat.{ℕ, zero, suc, ◌+◌, ◌%◌, ◌≤◌, ◌<◌, suc-le-suc}
use native.Mathlib.Decide.{ℕ_discrete}
use native.Mathlib.Nat.{le_of_suc-le-suc}
use native.Mathlib.Omega.{arith}
use lib.ListN.{length, get_or, length-map}
use Rattle.walsh.proofs.Cases.{on_less}
use Rattle.digits.specs.Digits.{weighted_sum, Passes}
use Rattle.bounds.specs.Refusal.{refused, first_refusal}
use Rattle.model.specs.declared.Answer.{Answer}
use Rattle.model.specs.Basics.{first_place}
use Rattle.model.specs.Entry.{Entry, void_entry, order_of, item_of, same_order}
use Rattle.model.specs.Printing.{Printing, size, lowest, place_of, serial_at}
use Rattle.model.specs.Model.{peek, claim, void, next, order_checks, given, refused_with, answer, Event}
use Rattle.model.specs.Trace.{named, entry_of, writers, serials, entries_by, count_from}
use Rattle.model.specs.Reason.{GoodOrder, OrderReason, no_order_given, wrong_digit, no_item, next_serial, PeekReason, SerialReason, ClaimReason, VoidReason}
use Rattle.model.specs.Reason.{none_left, shown, outside, written, above, bad_order, stands, claimed, voided}
use Rattle.model.proofs.Orders.{place_at, place_lowest, place_none}
use Rattle.model.proofs.Answers.{order_none, order_mistyped, order_bad, order_good, peek_open, peek_closed}
use Rattle.model.proofs.Answers.{placed, placed_low, placed_high, placed_below, placed_above, placed_next}
use Rattle.model.proofs.Answers.{claim_none, claim_refused, claim_again, claim_good}

-- ---- an order by itself: its checks refuse it for a reason, or it is good

data Named (e : Entry) : Type 0 where
  refuses : (n d : ℕ) → n ≢ 0 → first_refusal (order_checks e) ≡ refused n d → OrderReason e (refused_with n d) → Named e
  accepts : GoodOrder e → Named e

named_of : (e : Entry) → Named e
named_of e = go (ℕ_discrete (order_of e) 0)
  where
    bad : order_of e ≢ 0 → Passes (order_of e) → (item_of e ≡ 0) ⊎ (99 < item_of e) → Named e
    bad n s b = refuses 25 0 (omega arith) (order_bad e n s b) (no_item n s b refl)

    by_item : order_of e ≢ 0 → Passes (order_of e) → Dec (item_of e ≡ 0) → Named e
    by_item n s (yes z) = bad n s (inl z)
    by_item n s (no i) = on_less 99 (item_of e) (λ h t. bad n s (inr h)) (λ h t. accepts (n, s, i, h))

    by_digits : order_of e ≢ 0 → Dec (Passes (order_of e)) → Named e
    by_digits n (yes s) = by_item n s (ℕ_discrete (item_of e) 0)
    by_digits n (no w) = refuses 26 0 (omega arith) (order_mistyped e n w) (wrong_digit n w refl)

    go : Dec (order_of e ≡ 0) → Named e
    go (yes z) = refuses 17 0 (omega arith) (order_none e z) (no_order_given z refl)
    go (no n) = by_digits n (ℕ_discrete (weighted_sum (order_of e) % 10) 0)

-- what a reason against it says
record Refused (e : Entry) (a : Answer) : Type 0 where
  pub number : ℕ
  pub detail : ℕ
  pub some : number ≢ 0
  pub checked : first_refusal (order_checks e) ≡ refused number detail
  pub is : a ≡ refused_with number detail

order_refuses : (e : Entry) (a : Answer) → OrderReason e a → Refused e a
order_refuses e a (no_order_given z is) = record { number = 17; detail = 0; some = omega arith; checked = order_none e z; is = is }
order_refuses e a (wrong_digit n w is) = record { number = 26; detail = 0; some = omega arith; checked = order_mistyped e n w; is = is }
order_refuses e a (no_item n s b is) = record { number = 25; detail = 0; some = omega arith; checked = order_bad e n s b; is = is }

-- ---- the call at a place of a list of calls

-- x stands at place i
record At (ws : List Event) (i : ℕ) (x : Event) : Type 0 where
  pub among : Memᴰ x ws
  pub inside : i < length ws
  pub line : get_or (entries_by ws) i void_entry ≡ entry_of x.call
  pub serial : get_or (serials ws) i 0 ≡ named x.call

later : {ws : List Event} {i : ℕ} {x : Event} (y : Event) → At ws i x → At (y ∷ ws) (suc i) x
later y a = record { among = Memᴰ.tail a.among; inside = suc-le-suc a.inside; line = a.line; serial = a.serial }

call_at : (ws : List Event) (i : ℕ) → i < length ws → (x : Event) × At ws i x
call_at [] i h = absurd (omega arith)
call_at (x ∷ ws) zero h = (x, record { among = Memᴰ.head refl; inside = h; line = refl; serial = refl })
call_at (y ∷ ws) (suc i) h = let r = call_at ws i (le_of_suc-le-suc h) in (r.0, later y r.1)

place_of_lem : (ws : List Event) (x : Event) → Memᴰ x ws → (i : ℕ) × At ws i x
place_of_lem [] x m = absurd (Memᴰ.not-nil m)
place_of_lem (y ∷ ws) x m = go (Memᴰ.cases_cons m) (place_of_lem ws x)
  where
    go : (x ≡ y) ⊎ Memᴰ x ws → (Memᴰ x ws → (i : ℕ) × At ws i x) → (i : ℕ) × At (y ∷ ws) i x
    go (inl e) f =
        let head : At (y ∷ ws) 0 x =
        record {
          among = m;
          inside = omega arith;
          line = ap (λ (z : Event). entry_of z.call) (sym e);
          serial = ap (λ (z : Event). named z.call) (sym e);
        } in
        (0, head)
    go (inr n) f = let r = f n in (suc r.0, later y r.1)

count_at : (s k i : ℕ) → i < k → get_or (count_from s k) i 0 ≡ s + i
count_at s zero i h = absurd (omega arith)
count_at s (suc k) zero h = omega arith
count_at s (suc k) (suc i) h = count_at (suc s) k i (le_of_suc-le-suc h) ∙ omega arith

-- ---- the reasons; the lines are what the calls wrote, and these took the serials in turn

module _ (p : Printing) (past : List Event) (turn : serials (writers p past) ≡ count_from (lowest p) (length (writers p past))) where
  abbrev l : List Entry
  l = entries_by (writers p past)

  lines : length l ≡ length (writers p past)
  lines = length-map (writers p past) (λ x. entry_of x.call)

  next_is : next p l ≡ next_serial p past
  next_is = ap (serial_at p) lines

  -- the serial of the call at place i
  serial_at_lem : (i : ℕ) (x : Event) → At (writers p past) i x → named x.call ≡ serial_at p i
  serial_at_lem i x a =
      sym a.serial ∙ ap (λ (ss : List ℕ). get_or ss i 0) turn ∙ count_at (lowest p) (length (writers p past)) i a.inside ∙ omega arith

  -- a call whose serial is s wrote the line of s
  written_at : (s : ℕ) → lowest p ≤ s → s < next p l → SerialReason p past s (refused_with 18 (order_of (get_or l (place_of p s) void_entry)))
  written_at s h k =
      let c = call_at (writers p past) (place_of p s) (omega (arith, lines)) in
      written c.0 c.1.among (serial_at_lem (place_of p s) c.0 c.1 ∙ omega arith) (ap (λ (e : Entry). refused_with 18 (order_of e)) c.1.line)

  -- the checks of a serial: they refuse it for a reason, or it is the next one
  data Turn (s : ℕ) : Type 0 where
    refuses : (placed p l s).number ≢ 0 → SerialReason p past s (placed p l s) → Turn s
    accepts : lowest p ≤ s → s ≡ next p l → s ≤ size p → Turn s

  refuses_by : (s n d : ℕ) → n ≢ 0 → placed p l s ≡ refused_with n d → SerialReason p past s (placed p l s) → Turn s
  refuses_by s n d some e why = refuses (rw e some) why

  turn_of_lem : (s : ℕ) → Turn s
  turn_of_lem s =
      on_less s (lowest p)
      (λ h t. let e = placed_low p l s h in refuses_by s 6 0 (omega arith) e (outside (inl h) e))
      (λ h t.
      on_less (size p) s
      (λ k u. let e = placed_high p l s k in refuses_by s 6 0 (omega arith) e (outside (inr k) e))
      (λ k u.
      on_less s (next p l)
      (λ j v. let e = placed_below p l s h k j in refuses_by s 18 _ (omega arith) e (rw e (written_at s h j)))
      (λ j v.
      on_less (next p l) s
      (λ i w.
      let e = placed_above p l s h k i in
      refuses_by s 19 (next p l) (omega arith) e (above (omega (arith, next_is)) k (e ∙ ap (refused_with 19) next_is)))
      (λ i w. accepts h (omega arith) k))))

  peek_reason : PeekReason p past (answer p l peek)
  peek_reason =
      on_less (size p) (next p l)
      (λ h t. none_left (omega (arith, next_is)) (peek_closed p l h))
      (λ h t. shown (omega (arith, next_is)) (peek_open p l h ∙ ap (given p) next_is))

  void_reason : (s : ℕ) → VoidReason p past s (answer p l (void s))
  void_reason s = go (turn_of_lem s)
    where
      go : Turn s → VoidReason p past s (answer p l (void s))
      go (Turn.refuses n why) = VoidReason.not_next why
      go (Turn.accepts h e k) = voided (e ∙ next_is) k (placed_next p l s h k e)

  claim_reason : (s : ℕ) (e : Entry) → ClaimReason p past s e (answer p l (claim s e))
  claim_reason s e = go (named_of e) (turn_of_lem s)
    where
      -- the order stands in a line, or in none
      again : GoodOrder e → s ≡ next p l → s ≤ size p → first_place (same_order e) l < length l
          → answer p l (claim s e) ≡ refused_with 20 (serial_at p (first_place (same_order e) l))
          → ClaimReason p past s e (answer p l (claim s e))
      again n q h k r =
          let c = call_at (writers p past) (first_place (same_order e) l) (omega (arith, lines)) in
          let at = serial_at_lem (first_place (same_order e) l) c.0 c.1 in
          stands n (q ∙ next_is) h c.0 c.1.among (sym c.1.line ∙ place_at e l k)
          (λ y m is.
          let j = place_of_lem (writers p past) y m in
          let low = place_lowest e l j.0 (omega (arith, lines, j.1.inside)) (j.1.line ∙ is) in
          omega (arith, serial_at_lem j.0 y j.1))
          (r ∙ ap (refused_with 20) (sym at))

      new : GoodOrder e → s ≡ next p l → s ≤ size p → length l ≤ first_place (same_order e) l → answer p l (claim s e) ≡ given p s
          → ClaimReason p past s e (answer p l (claim s e))
      new n q h k r =
          claimed n (q ∙ next_is) h
          (λ y m is.
          let j = place_of_lem (writers p past) y m in
          let low = place_lowest e l j.0 (omega (arith, lines, j.1.inside)) (j.1.line ∙ is) in
          omega (arith, lines, j.1.inside))
          r

      go : Named e → Turn s → ClaimReason p past s e (answer p l (claim s e))
      go (Named.refuses n d some q why) t = bad_order (rw (claim_none p l s e n d some q) why)
      go (Named.accepts n) (Turn.refuses f why) = ClaimReason.not_next n (rw (claim_refused p l s e (order_good e n) f) why)
      go (Named.accepts n) (Turn.accepts h q k) =
          let good = placed_next p l s h k q in
          let z = ap (λ (a : Answer). a.number) good in
          on_less (first_place (same_order e) l) (length l)
          (λ j t. again n q k j (claim_again p l s e (order_good e n) z j))
          (λ j t. new n q k j (claim_good p l s e (order_good e n) z j ∙ good))

  -- ---- no other answer has a reason

  module _ (fits : length (writers p past) ≤ size p) where
    -- what a reason against a serial says, and that a void of that serial is refused so
    record Refuses (s : ℕ) (a : Answer) : Type 0 where
      pub answers : a ≡ placed p l s
      pub some : (placed p l s).number ≢ 0

    by_refusal : (s n d : ℕ) (a : Answer) → n ≢ 0 → placed p l s ≡ refused_with n d → a ≡ refused_with n d → Refuses s a
    by_refusal s n d a some e is = record { answers = is ∙ sym e; some = rw e some }

    serial_refuses : (s : ℕ) (a : Answer) → SerialReason p past s a → Refuses s a
    serial_refuses s a (outside (inl h) is) = by_refusal s 6 0 a (omega arith) (placed_low p l s h) is
    serial_refuses s a (outside (inr h) is) = by_refusal s 6 0 a (omega arith) (placed_high p l s h) is
    serial_refuses s a (written x m e is) =
        let j = place_of_lem (writers p past) x m in
        let at : s ≡ serial_at p j.0 = sym e ∙ serial_at_lem j.0 x j.1 in
        let below = placed_below p l s (omega arith) (omega (arith, j.1.inside)) (omega (arith, lines, j.1.inside)) in
        let back : place_of p s ≡ j.0 = omega arith in
        let line = ap (λ (i : ℕ). get_or l i void_entry) back ∙ j.1.line in
        by_refusal s 18 (order_of (entry_of x.call)) a (omega arith) (below ∙ ap (λ (d : Entry). refused_with 18 (order_of d)) line) is
    serial_refuses s a (above k h is) =
        let e = placed_above p l s (omega arith) h (omega (arith, next_is)) in
        by_refusal s 19 (next_serial p past) a (omega arith) (e ∙ ap (refused_with 19) next_is) is

    peek_decides : (a : Answer) → PeekReason p past a → a ≡ answer p l peek
    peek_decides a (none_left h is) = is ∙ sym (peek_closed p l (omega (arith, next_is)))
    peek_decides a (shown h is) = is ∙ sym (peek_open p l (omega (arith, next_is)) ∙ ap (given p) next_is)

    next_decides : (s : ℕ) → s ≡ next_serial p past → s ≤ size p → placed p l s ≡ given p s
    next_decides s e h = placed_next p l s (omega arith) h (e ∙ sym next_is)

    void_decides : (s : ℕ) (a : Answer) → VoidReason p past s a → a ≡ answer p l (void s)
    void_decides s a (VoidReason.not_next why) = (serial_refuses s a why).answers
    void_decides s a (voided e h is) = is ∙ sym (next_decides s e h)

    claim_decides : (s : ℕ) (e : Entry) (a : Answer) → ClaimReason p past s e a → a ≡ answer p l (claim s e)
    claim_decides s e a (bad_order why) = let v = order_refuses e a why in v.is ∙ sym (claim_none p l s e v.number v.detail v.some v.checked)
    claim_decides s e a (ClaimReason.not_next n why) =
        let v = serial_refuses s a why in v.answers ∙ sym (claim_refused p l s e (order_good e n) v.some)
    claim_decides s e a (stands n q h x m is low r) =
        let good = next_decides s q h in
        let j = place_of_lem (writers p past) x m in
        let here = place_lowest e l j.0 (omega (arith, lines, j.1.inside)) (j.1.line ∙ is) in
        let inside : first_place (same_order e) l < length l = omega (arith, lines, j.1.inside) in
        let c = call_at (writers p past) (first_place (same_order e) l) (omega (arith, lines)) in
        let first = low c.0 c.1.among (sym c.1.line ∙ place_at e l inside) in
        let same : serial_at p (first_place (same_order e) l) ≡ named x.call =
        omega (arith, first, serial_at_lem (first_place (same_order e) l) c.0 c.1, serial_at_lem j.0 x j.1) in
        r ∙ ap (refused_with 20) (sym same) ∙ sym (claim_again p l s e (order_good e n) (ap (λ (b : Answer). b.number) good) inside)
    claim_decides s e a (claimed n q h new is) =
        let good = next_decides s q h in
        let none = place_none e l
        (λ i k r. let c = call_at (writers p past) i (omega (arith, lines)) in new c.0 c.1.among (sym c.1.line ∙ r)) in
        is ∙ sym (claim_good p l s e (order_good e n) (ap (λ (b : Answer). b.number) good) none ∙ good)

    -- ---- together

    pub only_peek : (a : Answer) → PeekReason p past a ↔ (a ≡ answer p l peek)
    only_peek a = (peek_decides a, λ q. rw q peek_reason)

    pub only_claim : (s : ℕ) (e : Entry) (a : Answer) → ClaimReason p past s e a ↔ (a ≡ answer p l (claim s e))
    only_claim s e a = (claim_decides s e a, λ q. rw q (claim_reason s e))

    pub only_void : (s : ℕ) (a : Answer) → VoidReason p past s a ↔ (a ≡ answer p l (void s))
    only_void s a = (void_decides s a, λ q. rw q (void_reason s))
