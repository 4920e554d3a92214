-- Laws of the record and the columns: what number 16 tests, and what a call leaves.
use mathlib.Core.Path.{◌≡◌, refl, sym, ap, ◌∙◌}
use mathlib.Core.Logic.{◌≢◌}
use mathlib.Core.Bool.{Bool, true, false, not, false≢true}
use mathlib.Core.List.{List, [], ◌∷◌}
use Prim.Native.Nat.{ℕ, zero, suc, ◌-◌, ◌≤◌}
use native.Mathlib.Omega.{arith}
use native.Mathlib.Nat.{add-zero}
use lib.ListN.{length, get_or, take}
use borrow.Author.Tests.{ltb-false, leb-true, le-leb, eqb-true, eq-eqb, ne_eqb}
use Rattle.walsh.specs.Serial.{same}
use Rattle.walsh.proofs.Cases.{on_test}
use Rattle.walsh.proofs.Serials.{same_eq}
use Rattle.bounds.specs.Refusal.{first_refusal}
use Rattle.bounds.specs.Edition.{record_checks, cells_of}
use Rattle.bounds.specs.Places.{most_entries}
use Rattle.bounds.specs.declared.Bounds.{Bounds}
use Rattle.bounds.specs.declared.Refusal.{Refusal}
use Rattle.bounds.proofs.Refusals.{passed, refusal_here, refusal_next}
use Rattle.model.specs.declared.Answer.{Answer}
use Rattle.model.specs.declared.Claimed.{Claimed}
use Rattle.model.specs.declared.Ledger.{Ledger}
use Rattle.model.specs.Basics.{all}
use Rattle.model.specs.Entry.{sold_in, voided_in, unsound_in, Lent, room, first_entries, orders_of, items_of}
use Rattle.model.specs.Printing.{Printing, capacity, next_composition}
use Rattle.model.specs.Model.{Call, refused_with, answer_by, answer, accepted}
use Rattle.model.specs.Record.{upper_of, printing_of, written, tests, consistent, not_together, granted_by, answered}
use Rattle.model.specs.Record.{advanced, counted, entered, record_after, column_after, calling, entries_of}
use Rattle.model.proofs.Entries.{sold_or_voided, length_entries, entries_orders, entries_items}

-- ---- number 16

abbrev pub Holds : List Bool → Type 0
Holds [] = Unit
Holds (b ∷ bs) = (b ≡ true) × Holds bs

pub each : (bs : List Bool) → all bs ≡ true → Holds bs
each [] t = tt
each (true ∷ bs) t = (refl, each bs t)
each (false ∷ bs) t = absurd (false≢true t)

pub one_fails : (i : ℕ) (bs : List Bool) → get_or bs i true ≡ false → all bs ≡ false
one_fails i [] e = absurd (false≢true (sym e))
one_fails zero (b ∷ bs) e = rw e
one_fails (suc i) (true ∷ bs) e = one_fails i bs e
one_fails (suc i) (false ∷ bs) e = refl

-- an accepted record of bounds has at most 24 parts
pub few_parts : (b : Bounds) → (first_refusal (record_checks b)).number ≡ 0 → b.parts ≤ 24
few_parts b e = ltb-false 24 b.parts (passed _ _ refl e).0

-- what a record and columns meet that belong together
pub record Consistent (r : Ledger) (col : Lent) : Type 0 where
  pub sound : (first_refusal (record_checks r.bounds)).number ≡ 0
  pub small : capacity (printing_of r) ≤ most_entries
  pub fits : capacity (printing_of r) ≤ room col
  pub entries : r.entries ≤ capacity (printing_of r)
  pub sold : r.sold ≡ sold_in (written r col)
  pub voided : r.voided ≡ voided_in (written r col)
  pub next : r.next ≡ next_composition (printing_of r) r.entries
  pub spare : r.bounds.upper ≡ cells_of (upper_of r.bounds)
  pub sound_lines : unsound_in (written r col) ≡ 0
  pub few : r.bounds.parts ≤ 24
  pub length_written : length (written r col) ≡ r.entries
  pub few_sold : r.sold ≤ most_entries
  pub few_voided : r.voided ≤ most_entries

module _ (r : Ledger) (col : Lent) where
  abbrev p : Printing
  p = printing_of r

  pub parts : consistent r col ≡ true → Consistent r col
  unfolding consistent
  parts t =
      let q = each (tests r col) t in
      let h1 = eqb-true (first_refusal (record_checks r.bounds)).number 0 q.0 in
      let h2 = leb-true (capacity p) most_entries q.1.0 in
      let h3 = leb-true (capacity p) (room col) q.1.1.0 in
      let h4 = leb-true r.entries (capacity p) q.1.1.1.0 in
      let h5 = eqb-true r.sold (sold_in (written r col)) q.1.1.1.1.0 in
      let h6 = eqb-true r.voided (voided_in (written r col)) q.1.1.1.1.1.0 in
      let n = length_entries r.entries col (omega arith) in
      let both = sold_or_voided (written r col) in
      record {
        sound = h1;
        small = h2;
        fits = h3;
        entries = h4;
        sold = h5;
        voided = h6;
        next = same_eq r.next (next_composition p r.entries) q.1.1.1.1.1.1.0;
        spare = same_eq r.bounds.upper (cells_of (upper_of r.bounds)) q.1.1.1.1.1.1.1.0;
        sound_lines = eqb-true (unsound_in (written r col)) 0 q.1.1.1.1.1.1.1.1.0;
        few = few_parts r.bounds h1;
        length_written = n;
        few_sold = omega arith;
        few_voided = omega arith;
      }

  -- a test that fails, by its place
  pub fails : (i : ℕ) → get_or (tests r col) i true ≡ false → consistent r col ≡ false
  unfolding consistent
  fails i e = one_fails i (tests r col) e

  pub together :
      (first_refusal (record_checks r.bounds)).number ≡ 0
      → capacity p ≤ most_entries
      → capacity p ≤ room col
      → r.entries ≤ capacity p
      → r.sold ≡ sold_in (written r col)
      → r.voided ≡ voided_in (written r col)
      → same r.next (next_composition p r.entries) ≡ true
      → same r.bounds.upper (cells_of (upper_of r.bounds)) ≡ true
      → unsound_in (written r col) ≡ 0
      → consistent r col ≡ true
  unfolding consistent
  together h1 h2 h3 h4 h5 h6 h7 h8 h9 =
      rw (
        eq-eqb (first_refusal (record_checks r.bounds)).number 0 h1,
        le-leb (capacity p) most_entries h2,
        le-leb (capacity p) (room col) h3,
        le-leb r.entries (capacity p) h4,
        eq-eqb r.sold (sold_in (written r col)) h5,
        eq-eqb r.voided (voided_in (written r col)) h6,
        h7,
        h8,
        eq-eqb (unsound_in (written r col)) 0 h9,
      )

  -- the lines that are not spoilt
  pub sold_of : r.entries ≤ room col → sold_in (written r col) ≡ r.entries - voided_in (written r col)
  sold_of h = omega (arith, sold_or_voided (written r col), length_entries r.entries col h)

  -- ---- the calls

  module _ (c : Call) where
    pub answered_16 : consistent r col ≡ false → answered r col c ≡ refused_with 16 0
    unfolding answered
    answered_16 f = ap (λ (v : Refusal). answer_by v p (granted_by r col c)) (refusal_here (not_together r col) _ (ap not f))

    -- where a record and columns belong together, the answer is the model's over the lines written
    pub answered_by : consistent r col ≡ true → answered r col c ≡ answer p (written r col) c
    unfolding answered answer
    answered_by t = ap (λ (v : Refusal). answer_by v p (granted_by r col c)) (refusal_next (not_together r col) _ (ap not t))

    module _ (a : Answer) (e : a ≡ answered r col c) where
      pub calling_refused : a.number ≢ 0 → ◌≡◌ {A = Claimed × Lent} (record { answer = a; ledger = r }, col) (calling r col c)
      unfolding calling record_after column_after
      calling_refused n = rw (← e, ne_eqb a.number 0 n)

      pub calling_accepted : (r' : Ledger) (col' : Lent) → a.number ≡ 0 → r' ≡ counted r c → col' ≡ entered r col c
          → ◌≡◌ {A = Claimed × Lent} (record { answer = a; ledger = r' }, col') (calling r col c)
      unfolding calling record_after column_after
      calling_accepted r' col' n p q = rw (← e, eq-eqb a.number 0 n, p, q)

  -- ---- no more lines: a peek leaves all as it was

  none_more : consistent r col ≡ true → advanced r [] ≡ r
  none_more t =
      let q = parts t in
      rw (add-zero r.entries, add-zero r.sold, add-zero r.voided, ← q.next)

  peek_by : advanced r [] ≡ r → (a : Answer) → a ≡ answered r col Call.peek
      → ◌≡◌ {A = Claimed × Lent} (record { answer = a; ledger = r }, col) (calling r col Call.peek)
  unfolding calling record_after column_after
  peek_by q a e = on_test (accepted (answered r col Call.peek)) (λ t. rw (e, t, q)) (λ t. rw (e, t))

  pub calling_peek : (a : Answer) → a ≡ answered r col Call.peek
      → ◌≡◌ {A = Claimed × Lent} (record { answer = a; ledger = r }, col) (calling r col Call.peek)
  calling_peek a e =
      on_test (consistent r col) (λ t. peek_by (none_more t) a e)
      (λ f.
      let n : a.number ≡ 16 = ap (λ (y : Answer). y.number) (e ∙ answered_16 Call.peek f) in
      calling_refused Call.peek a e (λ z. omega (arith, n, z)))

  -- ---- the lines so far

  pub entries_none : consistent r col ≡ false → length (entries_of r col) ≡ 0
  unfolding entries_of
  entries_none f = rw f

  pub entries_some : consistent r col ≡ true → length (entries_of r col) ≡ r.entries
  unfolding entries_of
  entries_some t = rw t (parts t).length_written

  entries_first : entries_of r col ≡ first_entries (length (entries_of r col)) col
  unfolding entries_of
  entries_first =
      on_test (consistent r col)
      (λ t. rw t (ap (λ (n : ℕ). first_entries n col) (sym (parts t).length_written)))
      (λ f. rw f)

  pub entries_within : length (entries_of r col) ≤ room col
  entries_within =
      on_test (consistent r col)
      (λ t. let q = parts t in omega (arith, entries_some t, q.entries, q.fits))
      (λ f. omega (arith, entries_none f))

  -- they are the beginnings of both columns
  pub orders_so_far : take (length (entries_of r col)) col.orders ≡ orders_of (entries_of r col)
  orders_so_far = sym (entries_orders (length (entries_of r col)) col entries_within) ∙ ap orders_of (sym entries_first)

  pub items_so_far : take (length (entries_of r col)) col.items ≡ items_of (entries_of r col)
  items_so_far = sym (entries_items (length (entries_of r col)) col entries_within) ∙ ap items_of (sym entries_first)
