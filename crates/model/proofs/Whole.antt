-- The statement about a whole list of calls holds of every list, from an accepted opening over any columns.
use mathlib.Core.Path.{◌≡◌, refl, sym, ap, ◌∙◌}
use mathlib.Core.Logic.{◌≢◌, ◌↔◌, ◌⊎◌, inl, inr}
use mathlib.Core.Bool.{true}
use mathlib.Core.List.Memᴰ
use mathlib.Core.List.{List, [], ◌∷◌, ◌++◌, Memᴰ}
use Prim.Native.Nat.{ℕ, suc, ◌+◌, ◌-◌, ◌≤◌, ◌<◌}
use native.Mathlib.Nat.{zero-add, eq-or-lt_of_le}
use native.Mathlib.Omega.{arith}
use lib.ListN.{length, get_or, take}
use lib.Seq.{take_all, get_or-take}
use Rattle.walsh.specs.Order.{Composition}
use Rattle.walsh.specs.Neighbours.{Adjacent}
use Rattle.walsh.specs.Transition.{none, Carries}
use Rattle.bounds.specs.Edition.{cells_of}
use Rattle.bounds.proofs.Chains.{Accepts}
use Rattle.model.specs.declared.Answer.{Answer}
use Rattle.model.specs.declared.Ledger.{Ledger}
use Rattle.model.specs.Basics.{Once}
use Rattle.model.specs.Entry.{Entry, void_entry, DistinctOrders, Lent, entries_in, room, Paired, over}
use Rattle.model.specs.Printing.{Printing, blank, size, composition_at, lowest, serial_at, capacity, stock}
use Rattle.model.specs.Model.{Call, peek, claim, void, claim_all, next, call_checks, rows_before, given, answer, accepted, after, Event, event_at, book_from}
use Rattle.model.specs.Record.{ledger_of, opened, opening, answered, run}
use Rattle.model.specs.Trace.{writes, is_claim, is_void, named, those, kept, singles, writers, serials, entries_by, peeked}
use Rattle.model.specs.Reason.{GoodOrder, Reason}
use Rattle.model.specs.Whole.{ran, book, second_list, Whole}
use Rattle.model.proofs.Entries.{room_entries, entries_over}
use Rattle.model.proofs.Stock.{stock_size, stock_distinct, stock_near, stock_place, place_stock}
use Rattle.model.proofs.Opening.{Opens, opens, opening_accepted}
use Rattle.model.proofs.Answers.{order_good, placed, placed_next, claim_good}
use Rattle.model.proofs.Calls.{size_good, Reached, reached_none, after_reached, accepting, not_16, peek_21, already_written_lem}
use Rattle.model.proofs.Orders.{place_none, distinct_none, distinct_at}
use Rattle.model.proofs.Bundles.{good_take, all_taken}
use Rattle.model.proofs.Books.{grown, Facts, facts, Stood, stood, claims_and_voids}
use Rattle.model.proofs.Lines.{counts, distinct_lines}
use Rattle.model.proofs.Places.{once_at, distinct_take, not_among, mem_count, count_mem}
use Rattle.model.proofs.BundleReasons.{only_reason}
use Rattle.model.proofs.Pairs.{told_none, told_some}
use Rattle.model.proofs.Simulation.{answers, simulates}

-- what holds of every call with the model's answer holds of every event
module _ (p : Printing) (P : Event → Type 0) (here : (l : List Entry) → Reached p l → (c : Call) → P (event_at p l c)) where
  each_event : (cs : List Call) (l : List Entry) → Reached p l → (x : Event) → Memᴰ x (book_from p l cs).trace → P x
  unfolding book_from
  each_event [] l h x m = absurd (Memᴰ.not-nil m)
  each_event (c ∷ cs) l h x m = go (Memᴰ.cases_cons m) (λ m'. each_event cs (after p l c) (after_reached p l c h) x m')
    where
      go : (x ≡ event_at p l c) ⊎ Memᴰ x (book_from p (after p l c) cs).trace
          → (Memᴰ x (book_from p (after p l c) cs).trace → P x)
          → P x
      go (inl e) below = rw e (here l h c)
      go (inr m') below = below m'

module _ (p : Printing) where
  -- the first k lines
  near : (k i : ℕ) → k ≤ capacity p → suc i < k
      → Adjacent (length p.bounds) (get_or (take k (stock p)) i blank) (get_or (take k (stock p)) (suc i) blank)
  near k i h l =
      let a : i < k = omega arith in
      rw (get_or-take k (stock p) i blank a, get_or-take k (stock p) (suc i) blank l) (stock_near p i (omega arith))

  -- they hold every composition, each once
  abbrev Holds : ℕ → Type 0
  Holds k = (g : List ℕ) → Composition p.bounds p.total g → Once blank (cells_of g) (take k (stock p))

  all_once : (k : ℕ) → k ≤ capacity p
      → (size p < serial_at p k) ↔ Holds k
  all_once k h = (there, λ f. go f (eq-or-lt_of_le h))
    where
      there : size p < serial_at p k → Holds k
      there b g c =
          let q = stock_place p g c in
          rw (take_all k (stock p) (omega (arith, stock_size p))) (once_at blank (stock p) (stock_distinct p) (cells_of g) q.0 q.1 q.2)

      go : Holds k
          → (k ≡ capacity p) ⊎ (k < capacity p)
          → size p < serial_at p k
      go f (inl e) = omega arith
      go f (inr b) =
          let b' : k < length (stock p) = omega (arith, stock_size p) in
          let q = place_stock p k b' in
          absurd (not_among blank k (stock p) (stock_distinct p) b' (rw q.2 (f q.0 q.1)))

-- the call at any place of the model's trace
module _ (p : Printing) (cs : List Call) (before rest : List Event) (x : Event)
    (q : (book_from p [] cs).trace ≡ before ++ (x ∷ rest)) where
  here : Stood p [] before x
  here = stood p before cs [] x rest q

  reply : x.reply ≡ answer p here.entries x.call
  reply = ap (λ (y : Event). y.reply) here.answering

  so_far : Facts p [] (writers p before) here.entries
  so_far = facts p (writers p before) [] here.entries (reached_none p) here.by

  reasons : (a : Answer) → Reason p before x.call a ↔ (a ≡ x.reply)
  reasons a =
      rw (reply, so_far.lines)
      (only_reason p before so_far.serial (omega (arith, so_far.size, so_far.reached.fits)) x.call a)

  -- no check before 18 refuses it
  claimed_once : writes x.call ≡ true → Accepts (rows_before 18 (call_checks p (entries_by (writers p before)) x.call))
      → (x.reply.number ≡ 18) ↔ Memᴰ (named x.call) (serials (writers p before))
  claimed_once w a =
      let b = already_written_lem p here.entries x.call w (rw so_far.lines a) in
      let k = length (writers p before) in
      rw (reply, so_far.serial) (
        (λ y. let c = b.0 y in count_mem (lowest p) k c.0 (omega (arith, c.1, so_far.size))),
        λ y. let c = mem_count (lowest p) k y in b.1 (c.0, omega (arith, c.1, so_far.size)),
      )

-- the next call after the lines m
module _ (p : Printing) (col : Lent) (o : Opens p col) (m : List Entry) (h : Reached p m) (left : length m < capacity p) where
  placed_there : placed p m (next p m) ≡ given p (next p m)
  placed_there = placed_next p m (next p m) (omega arith) (omega arith) refl

  next_void : answered (ledger_of p m) (over col m) (void (next p m)) ≡ given p (next p m)
  next_void = answers p col o m h (void (next p m)) ∙ placed_there

  next_claim : (e : Entry) → GoodOrder e → ((i : ℕ) → i < length m → get_or m i void_entry ≢ e)
      → answered (ledger_of p m) (over col m) (claim (next p m) e) ≡ given p (next p m)
  next_claim e good new =
      answers p col o m h (claim (next p m) e)
      ∙ claim_good p m (next p m) e (order_good e good) (ap (λ (a : Answer). a.number) placed_there) (place_none e m new)
      ∙ placed_there

  next_claim_all : (b : Lent) → Paired b → room b ≢ 0 → room b ≤ 40 → length m + room b ≤ capacity p
      → ((k : ℕ) → k < room b → GoodOrder (get_or (entries_in b) k void_entry))
      → DistinctOrders (m ++ entries_in b)
      → answered (ledger_of p m) (over col m) (claim_all (next p m) b) ≡ given p (next p m)
  next_claim_all b even some few fits good new =
      let n = room_entries b in
      answers p col o m h (claim_all (next p m) b)
      ∙ all_taken p m (next p m) b (size_good b even some few)
      (λ k i.
      let g = good k (omega (arith, i, n)) in
      good_take p m (next p m) (entries_in b) k i refl (omega (arith, i, n)) (order_good _ g) (distinct_at m (entries_in b) k new i g.0))

-- an accepted bundle
bundle_answer : (p : Printing) (l : List Entry) (c : Call) (s : ℕ) (b : Lent) → c ≡ claim_all s b → accepted (answer p l c) ≡ true
    → answer p l c ≡ given p s
bundle_answer p l c s b e = rw e (λ t. (accepting p l (claim_all s b) t).1)

pub whole : (p : Printing) (col : Lent) → Opens p col → (cs : List Call)
    → Whole p col cs (ran p col cs) (ran p col (second_list p (ran p col cs)))
unfolding opened
whole p col o cs =
    let start = reached_none p in
    let sim = simulates p col o cs [] start in
    let m = (book p cs).entries in
    let t = (book p cs).trace in
    let f = facts p (writers p t) [] m start (grown p cs []) in
    let g = grown p cs [] in
    let c = counts p (writers p t) [] m g in
    let own = entries_over col m in
    let again = simulates p col o (peeked (writers p t)) [] start in
    let count : length m ≡ length (writers p t) = f.size ∙ zero-add (length (writers p t)) in
    record {
      answers = sim.trace;
      never_16 = rw sim.trace (each_event p (λ x. x.reply.number ≢ 16) (λ l h c. not_16 p l c) cs [] start);
      pair_some =
          rw sim.trace
          (each_event p
          (λ x.
          x.call ≡ peek
          → 2 ≤ x.reply.serial
          → Carries (length p.bounds) (composition_at p (x.reply.serial - 1)) x.reply.composition x.transition)
          (λ l h c. told_some p l c) cs [] start);
      pair_none =
          rw sim.trace
          (each_event p (λ x. (x.reply.serial < 2) ⊎ (x.call ≢ peek) → x.transition ≡ none) (λ l h c. told_none p l c) cs [] start);
      bundle_answer =
          rw sim.trace
          (each_event p
          (λ x. (s : ℕ) (b : Lent) → x.call ≡ claim_all s b → accepted x.reply ≡ true → x.reply ≡ given p s)
          (λ l h c. bundle_answer p l c) cs [] start);
      column = sim.column;
      entries = ap (λ (x : Ledger). x.entries) sim.ledger;
      sold = ap (λ (x : Ledger). x.sold) sim.ledger;
      voided = ap (λ (x : Ledger). x.voided) sim.ledger;
      bounds = ap (λ (x : Ledger). x.bounds) sim.ledger;
      next = ap (λ (x : Ledger). x.next) sim.ledger;
      second_column = rw (sim.trace, sim.column, again.column, f.again_entries);
      second_record = rw (sim.trace, sim.ledger, again.ledger, f.again_entries);
      second_answers = rw (sim.trace, again.trace) f.again_trace;
      second_peeks = rw (sim.trace, again.trace) f.again_peeks;
      written = rw (sim.trace, sim.ledger) (count ∙ claims_and_voids (kept (singles p t)));
      claims = rw (sim.trace, sim.ledger) (c.sold ∙ zero-add (length (those is_claim (writers p t))));
      voids = rw (sim.trace, sim.ledger) (c.voided ∙ zero-add (length (those is_void (writers p t))));
      line_orders = rw (sim.trace, sim.ledger, sim.column) (own ∙ f.lines);
      orders_once = rw (sim.ledger, sim.column, own) (distinct_lines p (writers p t) [] m g distinct_none);
      in_turn = rw (sim.trace, sim.ledger, count) f.serial;
      first_compositions = rw (sim.trace, sim.ledger, count) f.composition;
      no_repeat =
          rw (sim.trace, f.composition)
          (distinct_take blank (length (writers p t)) (stock p) (stock_distinct p));
      neighbours = rw (sim.trace, sim.ledger, f.composition, ← count) (λ i. near p (length m) i sim.reached.fits);
      full = rw (sim.trace, sim.ledger, sim.column, answers p col o m sim.reached peek, f.composition, ← count) (full m sim.reached);
      next_claim = rw (sim.ledger, sim.column, own) (λ e h good. next_claim p col o m sim.reached h e good);
      next_void = rw (sim.ledger, sim.column) (λ h. next_void p col o m sim.reached h);
      next_claim_all =
          rw (sim.ledger, sim.column, own)
          (λ b even some few fits. next_claim_all p col o m sim.reached (omega (arith, some, fits)) b even some few fits);
      reasons = λ before rest x q. reasons p cs before rest x (sym sim.trace ∙ q);
      claimed_once = λ before rest x q. claimed_once p cs before rest x (sym sim.trace ∙ q);
    }
  where
    full : (m : List Entry) → Reached p m
        → ((answer p m peek).number ≡ 21)
        ↔ Holds p (length m)
    full m h =
        let a = peek_21 p m in
        let b = all_once p (length m) h.fits in
        ((λ q. b.0 (a.0 q)), λ q. a.1 (b.1 q))

pub from_opening : (p : Printing) (col : Lent) (cs : List Call) → (opening p col).number ≡ 0
    → Whole p col cs (run (opening p col).ledger col cs)
    (run (opening p col).ledger col (second_list p (run (opening p col).ledger col cs)))
from_opening p col cs z = let o = opening_accepted p col _ refl z in rw o.1 (whole p col (opens p col o.0) cs)
