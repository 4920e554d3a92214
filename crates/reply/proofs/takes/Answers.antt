use Rattle.std.proofs.Common.{◌≡◌, ◌≢◌, ℕ, ◌+◌, ◌≤◌, ◌<◌, List, length, get_or, sym, ap, ◌∙◌, arith}
use mathlib.Core.Logic.{⊎_elim}
use Rattle.walsh.proofs.Cases.{last_or_less}
use Rattle.bounds.specs.Reason.{coded}
use Rattle.bounds.specs.Refusal.{first_refusal}
use Rattle.bounds.specs.declared.Refusal.{Refusal}
use Rattle.bounds.proofs.Chains.{Accepts}
use Rattle.bounds.proofs.Reasons.{accepted}
use Rattle.model.specs.Entry.{Entry, entry, void_entry, Lent, columns, entries_in}
use Rattle.model.specs.Printing.{Printing, size}
use Rattle.model.specs.Model.{order_checks, refused_with}
use Rattle.model.specs.Record.{printing_of, written}
use Rattle.model.specs.declared.Answer.{Answer}
use Rattle.model.proofs.Entries.{room_entries, pairs_at}
use Rattle.model.proofs.Answers.{placed}
use Rattle.model.proofs.Calls.{size_known}
use Rattle.model.proofs.Records.{parts}
use Rattle.integrity.specs.Again.{first_again, place_again}
use Rattle.integrity.proofs.Checks.{met_some}
use Rattle.reply.proofs.Exits.{passed_answer, some_number}
use Rattle.reply.proofs.InTurn.{first_unordered, first_misplaced, serial_inside, Passed, all_passed, unordered, none_left, line_before, stands}
use Rattle.reply.proofs.takes.Goals as goal
use Rattle.reply.proofs.takes.Goals.{At-loop-k, In-loop-k, In_ok-check_order-2, Start}

-- ---- what goes in

abbrev p : Start → Printing
p s = printing_of s.args.ledger

abbrev l : Start → List Entry
l s = written s.args.ledger (columns s.args.orders.now s.args.items.now)

abbrev b : Start → Lent
b s = columns s.args.bundle.now s.args.itemlines.now

-- as many item lines as orders, and at least one of each
even : (s : Start) → length s.args.itemlines.now ≡ length s.args.bundle.now
even s = (size_known (b s) s.requires.1).0

long : (s : Start) → length (entries_in (b s)) ≡ length s.args.bundle.now
long s = omega (arith, room_entries (b s), even s)

some : (s : Start) → length (entries_in (b s)) ≢ 0
some s z = (size_known (b s) s.requires.1).1 (sym (room_entries (b s)) ∙ z)

-- what is known of the pass
met : (s : Start) → (s.args.met.count ≡ size (p s)) × (s.args.met.first ≡ first_again (l s) (entries_in (b s)))
    × (s.args.met.place ≡ place_again (l s) (entries_in (b s)))
met s = let m = met_some s.args.ledger _ _ s.requires.2 in (m.1, m.2, m.3)

-- what the checks of the order at a place say, with its item line
checked : (s : Start) (v : Refusal) (k : ℕ) → k < length s.args.bundle.now
    → v ≡ first_refusal (order_checks (entry (get_or s.args.bundle.now k 0) (get_or s.args.itemlines.now k 0)))
    → v ≡ first_refusal (order_checks (get_or (entries_in (b s)) k void_entry))
checked s v k h e =
    e ∙ ap (λ (d : Entry). first_refusal (order_checks d)) (sym (pairs_at s.args.bundle.now s.args.itemlines.now k h (omega (arith, h, even s))))

-- there is a first
at_0 : (s : Start) → 0 < length s.args.bundle.now
at_0 s = let n = some s in let e = long s in omega arith

-- ---- the first take

pub returns-in_err-check_order : goal.returns-in_err-check_order
returns-in_err-check_order c =
    let s = (goal.at.returns-in_err-check_order c).Start in
    let e = c.in_err-check_order.field-0.0 in
    passed_answer e _ c.from_residual.ensures.1
    ∙ sym (first_unordered (p s) (l s) s.args.serial (b s) s.requires.1 (some s) _ _ (some_number e)
    (sym (checked s (coded e) 0 (at_0 s) c.in_err-check_order.ensures)))

pub returns-in_err-first : goal.returns-in_err-first
returns-in_err-first c =
    let s = (goal.at.returns-in_err-first c).Start in
    let e = c.in_err-first.field-0.0 in
    let good = accepted _ (checked s _ 0 (at_0 s) c.in_ok-check_order.ensures) in
    passed_answer e _ c.from_residual-in_err-first.ensures.1 ∙ c.in_err-first.ensures
    ∙ sym (first_misplaced (p s) (l s) s.args.serial (b s) s.requires.1 (some s) good
    (λ z. some_number e (ap (λ (a : Answer). a.number) c.in_err-first.ensures ∙ z)))

-- ---- the takes in turn

abbrev start : At-loop-k → Start
start c = (goal.at.At-loop-k c).Start

zero : (c : At-loop-k) → let s = start c in (placed (p s) (l s) s.args.serial).number ≡ 0
zero c = ap (λ (a : Answer). a.number) (sym c.in_ok-first.ensures)

passed : (c : At-loop-k) → let s = start c in Passed (p s) (l s) s.args.serial (b s) s.requires.1 (zero c) c.loop-k.k
passed c =
    let s = start c in
    let i = c.loop-k.invariant in
    let m = met s in
    record {
      most = omega (arith, c.loop-k.auto.k-end, long s);
      orders = i.0;
      serials = λ j h. omega (arith, i.1 j h, m.0);
      new = omega (arith, i.2, m.1);
    }

-- the take at place k
inside : (c : In-loop-k) → c.loop-k.k < length (entries_in (b (goal.at.In-loop-k c).Start))
inside c = omega (arith, c.loop-k-test.true, long (goal.at.In-loop-k c).Start)

good : (c : In_ok-check_order-2) → Accepts (order_checks (get_or (entries_in (b (goal.at.In_ok-check_order-2 c).Start)) c.loop-k.k void_entry))
good c = accepted _ (checked (goal.at.In_ok-check_order-2 c).Start _ c.loop-k.k c.loop-k-test.true c.in_ok-check_order-2.ensures)

pub returns-in_err-check_order-2 : goal.returns-in_err-check_order-2
returns-in_err-check_order-2 c =
    let s = (goal.at.returns-in_err-check_order-2 c).Start in
    let a = (goal.at.returns-in_err-check_order-2 c).At-loop-k in
    let e = c.in_err-check_order-2.field-0.0 in
    passed_answer e _ c.from_residual-in_err-check_order-2.ensures.1
    ∙ sym (unordered (p s) (l s) s.args.serial (b s) s.requires.1 (zero a) c.loop-k.k (passed a) (inside (goal.at.returns-in_err-check_order-2 c).In-loop-k) _ _
    (some_number e) (sym (checked s (coded e) c.loop-k.k c.loop-k-test.true c.in_err-check_order-2.ensures)))

pub returns-then-met-serial : goal.returns-then-met-serial
returns-then-met-serial c =
    let s = (goal.at.returns-then-met-serial c).Start in
    let a = (goal.at.returns-then-met-serial c).At-loop-k in
    sym (none_left (p s) (l s) s.args.serial (b s) s.requires.1 (zero a) c.loop-k.k (passed a) (inside (goal.at.returns-then-met-serial c).In-loop-k)
    (good (goal.at.returns-then-met-serial c).In_ok-check_order-2) (omega (arith, c.if-met-serial.true, (met s).0)))

pub returns-then-k-met : goal.returns-then-k-met
returns-then-k-met c =
    let s = (goal.at.returns-then-k-met c).Start in
    let a = (goal.at.returns-then-k-met c).At-loop-k in
    ap (λ (n : ℕ). refused_with 20 (n + 1)) (met s).2
    ∙ sym (stands (p s) (l s) s.args.serial (b s) s.requires.1 (zero a) c.loop-k.k (passed a) (inside (goal.at.returns-then-k-met c).In-loop-k)
    (good (goal.at.returns-then-k-met c).In_ok-check_order-2) (omega (arith, c.if-met-serial.false, (met s).0)) (c.if-k-met.true ∙ (met s).1))

pub loop-k-preserved : goal.loop-k-preserved
loop-k-preserved c =
    let i = c.loop-k.invariant in (
      λ j h. ⊎_elim (λ q. rw q (good (goal.at.loop-k-preserved c).In_ok-check_order-2)) (λ h'. i.0 j h') (last_or_less (omega (arith, h))),
      λ j h. ⊎_elim (λ q. omega (arith, q, c.if-met-serial.false)) (λ h'. i.1 j h') (last_or_less (omega (arith, h))),
      omega (arith, i.2, c.if-k-met.false),
    )

pub returns : goal.returns
returns c =
    let s = (goal.at.returns c).Start in
    let a = (goal.at.returns c).At-loop-k in
    c.in_ok-first.ensures
    ∙ sym (all_passed (p s) (l s) s.args.serial (b s) s.requires.1 (zero a) c.loop-k.k (omega (arith, c.loop-k-test.false, long s)) (passed a))

-- ---- the sums fit

-- N, the lines and the orders are few
few : (s : Start) → (size (p s) ≤ 1000000) × (length (l s) ≤ 1000000) × (length s.args.bundle.now ≤ 40)
few s =
    let q = parts _ _ s.requires.0 in
    let n = q.length_written in
    (q.small, omega (arith, n, q.entries, q.small), omega (arith, (size_known (b s) s.requires.1).2, even s))

pub overflow_add-serial : goal.overflow_add-serial
overflow_add-serial c =
    let s = (goal.at.overflow_add-serial c).Start in
    let most = serial_inside (p s) (l s) s.args.serial (b s) s.requires.1 (zero (goal.at.overflow_add-serial c).At-loop-k) in
    omega (arith, most, (few s).0, (few s).2, c.loop-k-test.true)

pub overflow_add-result : goal.overflow_add-result
overflow_add-result c =
    let s = (goal.at.overflow_add-result c).Start in
    let a = (goal.at.overflow_add-result c).At-loop-k in
    let below = line_before (p s) (l s) s.args.serial (b s) s.requires.1 (zero a) c.loop-k.k (passed a) (inside (goal.at.overflow_add-result c).In-loop-k)
    (good (goal.at.overflow_add-result c).In_ok-check_order-2) (c.if-k-met.true ∙ (met s).1) in
    omega (arith, below, (met s).2, (few s).1, (few s).2, c.loop-k-test.true)

pub bounds-bundle-0 : goal.bounds-bundle-0
bounds-bundle-0 c = at_0 (goal.at.bounds-bundle-0 c).Start

pub bounds-itemlines-0 : goal.bounds-itemlines-0
bounds-itemlines-0 c =
    let s = (goal.at.bounds-itemlines-0 c).Start in
    omega (arith, at_0 s, even s)

pub place-requires : goal.place-requires
place-requires c = let s = (goal.at.place-requires c).Start in (s.requires.0, (met s).0)

pub bounds-itemlines-k : goal.bounds-itemlines-k
bounds-itemlines-k c = omega (arith, c.loop-k-test.true, even (goal.at.bounds-itemlines-k c).Start)
