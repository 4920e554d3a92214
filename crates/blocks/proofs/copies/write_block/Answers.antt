use Rattle.std.proofs.Common.{◌≡◌, sym, ap, ◌∙◌, List, ℕ, ◌+◌, ◌-◌, ◌*◌, ◌≤◌, arith, length, take, drop, length-take, length-drop}
use native.Mathlib.Nat.{zero-mul}
use lib.Seq.{take_all, take-take}
use Rattle.bounds.specs.Edition.{cells_of}
use Rattle.bounds.proofs.Cells.{cells_back, cells_length}
use Rattle.step.proofs.Copies.{part_within, part_next, part_length, put_taken}
use Rattle.blocks.specs.Blocks.{number_of, laid}
use Rattle.blocks.proofs.Listed.{joined_none, joined_next}
use Rattle.blocks.proofs.copies.write_block.Goals as goal
use Rattle.blocks.proofs.copies.write_block.Goals.{After-pack-ending}

-- the ending, in 24 cells of its own
ending_at : (c : After-pack-ending) →
    c.pack-ending.result ≡ take 24 (drop c.args.fronts.now.width c.args.cells.now)
ending_at c =
    let a = c.args in
    let w = a.fronts.now.width in
    let x : List ℕ = take 24 (drop w a.cells.now) in
    let size : length x ≡ 24 = simp (length-take, length-drop) (omega arith) in
    let whole : cells_of x ≡ x =
    sym (take_all 24 (cells_of x) (omega (arith, cells_length x (omega (arith, size)))))
    ∙ ap (λ (m : ℕ). take m (cells_of x)) (sym size)
    ∙ cells_back x in
    let span : w + 24 - w ≡ 24 = omega arith in
    c.pack-ending.ensures
    ∙ ap (λ (m : ℕ). cells_of (take 24 (take m (drop w a.cells.now)))) span
    ∙ ap cells_of (take-take 24 24 (drop w a.cells.now) (omega arith))
    ∙ whole

pub loop-j-init : goal.loop-j-init
loop-j-init c = (sym (zero-mul _), sym (joined_none _))

pub loop-j-preserved : goal.loop-j-preserved
loop-j-preserved c =
    let l = c.loop-j in
    let a = c.args in
    let p = c.requires in
    let w = a.fronts.now.width in
    let entries = a.fronts.now.entries in
    let n = length a.fronts.now.job.upper.now in
    let few = a.fronts.now.job.asked.few in
    let known = a.fronts.now.known in
    let from : ℕ = c.number_of.result * w in
    let ys : List ℕ = c.lay.new.out in
    let kept = c.lay.auto.out in
    let room : l.at + n + 40 ≤ length l.out = omega (arith, p.1, part_within l.j a.k n c.loop-j-test.true, l.invariant.0) in
    let ending = ending_at (goal.at.loop-j-preserved c).After-pack-ending in
    let span : from + 16 - from ≡ 16 = omega arith in
    let entry : take w (take (from + 16 - from) (drop from entries)) ≡ take w (drop (number_of a.block l.j * w) entries) =
    ap (λ (m : ℕ). take w (take m (drop from entries))) span
    ∙ take-take w 16 (drop from entries) known.narrow
    ∙ ap (λ (x : ℕ). take w (drop (x * w) entries)) c.number_of.ensures in
    let end : take (n - w) c.pack-ending.result ≡ take (n - w) (drop w a.cells.now) =
    ap (take (n - w)) ending ∙ take-take (n - w) 24 (drop w a.cells.now) (omega (arith, few)) in
    let split : n ≡ w + (n - w) = omega (arith, known.inside) in
    let copy : take n ys ≡ laid a.fronts.now a.block a.cells.now l.j =
    ap (λ (m : ℕ). take m ys) split ∙ c.lay.ensures (n - w) (omega (arith, few)) ∙ rw (entry, end) in
    let next = joined_next (laid a.fronts.now a.block a.cells.now) l.j in
    let done = l.invariant.1 in (
      omega (arith, part_next l.j n, l.invariant.0),
      put_taken l.out ys _ l.at n (omega (arith, room)) (omega (arith, room, kept, part_length l.out l.at)) ∙ cc,
    )
