use Rattle.std.proofs.Common.{◌≡◌, ℕ, ◌+◌, ◌-◌, ◌<◌, Some, None, List, length, get_or, take, length-take, sym, ap, subst, ◌∙◌, arith}
use Rattle.model.specs.Entry.{Entry, entry, same_order}
use Rattle.model.specs.Basics.{first_place}
use Rattle.integrity.specs.Lines.{lines_in, stands_at}
use Rattle.integrity.specs.Sift.{Sifted}
use Rattle.integrity.proofs.Pairs.{pairs_length}
use Rattle.integrity.proofs.Passes.{at_some, at_none}
use Rattle.integrity.proofs.Sifting.{Apart, apart_none, apart_all, order_again, order_new, order_unmarked, marked_none, marked_more}
use Rattle.integrity.proofs.meet.mark.Goals as goal
use Rattle.integrity.proofs.meet.mark.Goals.{In-loop-i, then-marks-s-ne0+in_default, else-marks-s-ne0}

module _ (c : In-loop-i) where
  abbrev i : ℕ
  i = c.loop-i.i

  abbrev os : List ℕ
  os = c.args.bundle.orders.now

  abbrev is : List ℕ
  is = c.args.bundle.items.now

  -- the order, and those before it
  abbrev here : Entry
  here = entry (get_or os i 0) (get_or is i 0)

  abbrev before : List Entry
  before = take i (lines_in c.args.bundle)

  long : length before ≡ i
  long = omega (arith, length-take i (lines_in c.args.bundle), pairs_length os is c.args.bundle.paired, c.loop-i-test.true)

  -- the lines searched
  searched : {p : List Entry} → p ≡ take (i - 0) (lines_in c.args.bundle) → stands_at here p ≡ stands_at here before
  searched e = let n : i - 0 ≡ i = omega arith in ap (stands_at here) (e ∙ ap (λ (k : ℕ). take k (lines_in c.args.bundle)) n)

  again : {p : List Entry} {k : ℕ} → p ≡ take (i - 0) (lines_in c.args.bundle) → Some k ≡ stands_at here p
      → (first_place (same_order here) before ≡ k) × (k < i)
  again e s = let at = at_some here before (s ∙ searched e) in (at.0, omega (arith, at.1, long))

  new : {p : List Entry} → p ≡ take (i - 0) (lines_in c.args.bundle) → None ≡ stands_at here p
      → first_place (same_order here) before ≡ i
  new e s = at_none here before (s ∙ searched e) ∙ long

pub returns-in-Some-clause-sifted : goal.returns-in-Some-clause-sifted
returns-in-Some-clause-sifted c =
    let a = (goal.at.returns-in-Some-clause-sifted c).In-loop-i in
    let p = again a c.part.ensures.lines c.in-Some.ensures in
    order_again (os a) (is a) c.args.bundle.paired c.loop-i.invariant.0 c.loop-i-test.true (sym p.0) p.1

pub returns-in-Some-clause-within : goal.returns-in-Some-clause-within
returns-in-Some-clause-within c =
    let a = (goal.at.returns-in-Some-clause-within c).In-loop-i in
    let p = again a c.part.ensures.lines c.in-Some.ensures in
    omega (arith, p.1, c.loop-i-test.true)

pub loop-i-preserved : goal.loop-i-preserved
loop-i-preserved c =
    let a = (goal.at.loop-i-preserved c).In-loop-i in
    let v = c.loop-i.invariant in
    let e = c.args.bundle.paired in
    let h = c.loop-i-test.true in
    let slot = c.slot-s.ensures in
    let apart : Apart (lines_in c.args.bundle) (c.loop-i.i + 1) = elim c.if-marks-s-ne0.branch [
      | then-marks-s-ne0+in_default w ↦
          let n = new a w.part.ensures.lines w.in_default.ensures in
          order_new (os a) (is a) e v.0 h (sym n) (omega arith)
      | else-marks-s-ne0 w ↦ order_unmarked (os a) (is a) e v.0 h v.1 slot.0 w.if-marks-s-ne0.false
    ] in
    (apart, marked_more v.1 _ slot.0 slot.1)

pub loop-i-init : goal.loop-i-init
loop-i-init c = (apart_none _, marked_none _ _ c.requires)

pub returns-clause-sifted : goal.returns-clause-sifted
returns-clause-sifted c l =
    let es = lines_in c.args.bundle in
    let n = pairs_length c.args.bundle.orders.now c.args.bundle.items.now c.args.bundle.paired in
    let all : c.loop-i.i ≡ c.len-n.result = omega (arith, c.len-n.ensures, c.loop-i-test.false, c.loop-i.auto.i-end) in
    subst (λ (k : ℕ). Sifted l es 0 k (length l + k)) all (apart_all es c.loop-i.invariant.0 l (omega (arith, all, n, c.len-n.ensures)))
