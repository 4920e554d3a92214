use Rattle.std.proofs.Common.{◌≡◌, ℕ, ◌+◌, ◌≤◌, length, arith, w64, Fits}
use Rattle.walsh.proofs.Lists.{sum_to_mono}
use Rattle.band.proofs.Rows.{sizing_next, size_small}
use Rattle.band.proofs.size.Goals as goal

pub overflow_sub-all : goal.overflow_sub-all
overflow_sub-all c = let l = c.loop-k in omega (arith, l.invariant.left, sum_to_mono c.args.upper.now l.k (length c.args.upper.now) l.invariant.few)

-- no more cells are counted than the band has
counted_fits : (n b : ℕ) {size : ℕ} → n + b ≡ size → size ≤ 6145 → Fits w64 n
counted_fits n b e l = omega arith

pub overflow_add-cells-in-loop-k : goal.overflow_add-cells-in-loop-k
overflow_add-cells-in-loop-k c =
    let a = c.args in
    let l = c.loop-k in
    let next = sizing_next a.upper.now a.total c.requires.2 l.k l.left l.cells l.invariant (omega arith) a.all _ _ _ c.requires.3 c.from-left.ensures
    c.saturating_sub-low.ensures c.min.ensures in
    counted_fits _ _ next.2.size (size_small a.upper.now a.total c.requires.2 c.requires.1 c.requires.0)
