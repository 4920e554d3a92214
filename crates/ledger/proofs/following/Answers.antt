-- `ledger::following` meets its contract.
use mathlib.Core.Path.{◌≡◌, sym, ap, ◌∙◌}
use mathlib.Core.List.{List, ◌++◌}
use Prim.Native.Nat.{ℕ, ◌+◌, ◌≤◌}
use native.Mathlib.Omega.{arith}
use lib.ListN.{length, take, drop}
use lib.Seq.{length-take-le}
use borrow.Author.Rules.{rules}
use Rattle.step.specs.Stride.{Strides}
use Rattle.step.proofs.Strides.{one_stride}
use Rattle.model.specs.Printing.{next_composition}
use Rattle.model.specs.Record.{printing_of}
use Rattle.ledger.proofs.Forward.{forward}
use Rattle.ledger.proofs.following.Goals as goal
use Rattle.ledger.proofs.following.Goals.{Start}

long : (c : Start) → length c.args.ledger.bounds.upper ≡ 24
long c = search rules

long_next : (c : Start) → length c.args.ledger.next ≡ 24
long_next c = search rules

few : (c : Start) → c.args.ledger.bounds.parts ≤ length c.args.ledger.bounds.upper
few c = omega (arith, long c, c.requires.0)

few_next : (c : Start) → c.args.ledger.bounds.parts ≤ length c.args.ledger.next
few_next c = omega (arith, long_next c, c.requires.0)

-- what so many steps leave in the cells
after : (s : Start) (k : ℕ) (h : List ℕ)
    → let l = s.args.ledger in
    Strides (take l.bounds.parts l.bounds.upper) l.bounds.total (take l.bounds.parts l.next) k h
    → h ++ drop l.bounds.parts l.next ≡ next_composition (printing_of l) (l.entries + k)
after s k h step =
    let b = s.args.ledger.bounds in
    let n = length-take-le b.parts b.upper (few s) in
    forward _ _ _ k _ h (sym n) (omega (arith, s.requires.0)) s.requires.1 s.requires.2 step

pub returns-then-lines-eq1 : goal.returns-then-lines-eq1
returns-then-lines-eq1 c =
    let s = (goal.at.returns-then-lines-eq1 c).Start in
    after s 1 _ (one_stride _ _ _ c.advance.ensures)
    ∙ ap (λ (k : ℕ). next_composition (printing_of s.args.ledger) (s.args.ledger.entries + k)) (sym c.if-lines-eq1.true)

pub returns : goal.returns
returns c = after (goal.at.returns c).Start _ _ c.stride.ensures

pub slice_bounds-upper-end : goal.slice_bounds-upper-end
slice_bounds-upper-end c = few (goal.at.slice_bounds-upper-end c).Start

pub slice_bounds-advance-end : goal.slice_bounds-advance-end
slice_bounds-advance-end c = sym (length-take-le _ _ (few (goal.at.slice_bounds-advance-end c).Start))

pub slice_bounds-cells-end : goal.slice_bounds-cells-end
slice_bounds-cells-end c = few_next (goal.at.slice_bounds-cells-end c).Start

pub slice_bounds-advance-end-then-lines-eq1 : goal.slice_bounds-advance-end-then-lines-eq1
slice_bounds-advance-end-then-lines-eq1 c = sym (length-take-le _ _ (few_next (goal.at.slice_bounds-advance-end-then-lines-eq1 c).Start))

pub slice_bounds-upper-end-2 : goal.slice_bounds-upper-end-2
slice_bounds-upper-end-2 c = few (goal.at.slice_bounds-upper-end-2 c).Start

pub slice_bounds-stride-end : goal.slice_bounds-stride-end
slice_bounds-stride-end c = sym (length-take-le _ _ (few (goal.at.slice_bounds-stride-end c).Start))

pub slice_bounds-cells-end-2 : goal.slice_bounds-cells-end-2
slice_bounds-cells-end-2 c = few_next (goal.at.slice_bounds-cells-end-2 c).Start

pub slice_bounds-stride-end-2 : goal.slice_bounds-stride-end-2
slice_bounds-stride-end-2 c = sym (length-take-le _ _ (few_next (goal.at.slice_bounds-stride-end-2 c).Start))
