-- `band::window::step` meets its contract.
use Rattle.std.proofs.Common.{◌≡◌, ℕ, ◌+◌, ◌-◌, ◌<◌, ◌≤◌, min, true, false, sym, subst, le_trans, le_refl, add-zero, arith}
use Rattle.band.proofs.Bands.{band_ends, low_high}
use Rattle.band.proofs.Rows.{above_none}
use Rattle.band.proofs.Slides.{moved_within, behind_in, slid_leaves, slid_over, slid_under}
use Rattle.band.specs.Band.{InBand, lowest}
use Rattle.band.specs.Window.{Slid}
use Rattle.walsh.specs.Order.{count}
use Rattle.band.proofs.window.step.Goals as goal
use Rattle.band.proofs.window.step.Goals.{Start}

le_min : (t h r x : ℕ) → t ≤ h → h ≡ min r x → t ≤ r
le_min t h r x l e = omega arith

small_at : (c : Start) → c.args.t ≤ c.args.part.total
small_at c = le_min _ _ _ _ c.requires.2 c.args.part.filling.to.high

low_at : (c : Start) → lowest c.args.part.upper.now c.args.part.total c.args.part.k ≤ c.args.t
low_at c =
    let f = c.args.part.filling in
    le_trans (low_high c.args.part.upper.now c.args.part.total c.args.part.k f.reached f.part).1 (rw (← f.to.low) c.requires.1)

full_at : (c : Start) → c.args.leaves ≡ true → lowest c.args.part.upper.now c.args.part.total c.args.part.k + c.args.part.m < c.args.t
full_at c h = rw (← c.args.part.filling.from.low) (c.requires.4.leaving h)

under_at : (c : Start) → c.args.leaves ≡ false → c.args.t ≤ lowest c.args.part.upper.now c.args.part.total c.args.part.k + c.args.part.m
under_at c h = rw (← c.args.part.filling.from.low) (c.requires.4.staying h)

enter_at : (c : Start) → c.args.enters ≡ true → InBand c.args.part.upper.now c.args.part.total c.args.part.k c.args.t
enter_at c h = band_ends _ _ _ _ (low_at c) (rw (← c.args.part.filling.from.high) (c.requires.4.entering h))

none_at : (c : Start) → c.args.enters ≡ false → 0 ≡ count c.args.part.upper.now c.args.part.k c.args.t
none_at c h =
    sym (above_none c.args.part.upper.now c.args.part.total c.args.part.k c.args.t c.args.part.row c.args.part.filling.from (small_at c)
    (c.requires.4.passed h))

rest_at : (c : Start) (x : ℕ) → c.args.leaves ≡ true → x ≡ count c.args.part.upper.now c.args.part.k (c.args.t - (c.args.part.m + 1))
    → x ≤ c.args.w
rest_at c x h e =
    slid_leaves c.args.part.upper.now c.args.part.total c.args.part.k c.args.t c.args.part.m c.args.w x 0 c.requires.3.window c.args.part.filling.bound
    (full_at c h) e

over_at : (c : Start) (x y : ℕ) → c.args.leaves ≡ true → x ≡ count c.args.part.upper.now c.args.part.k (c.args.t - (c.args.part.m + 1))
    → y ≡ count c.args.part.upper.now c.args.part.k c.args.t
    → Slid c.args.part.upper.now c.args.part.total c.args.part.k (c.args.t + 1) (c.args.w - x + y)
over_at c x y h ex ey =
    slid_over c.args.part.upper.now c.args.part.total c.args.part.k c.args.t c.args.part.m c.args.w x y c.requires.3.window c.args.part.filling.bound
    (full_at c h) ex ey

below_at : (c : Start) (y : ℕ) → c.args.leaves ≡ false → y ≡ count c.args.part.upper.now c.args.part.k c.args.t
    → Slid c.args.part.upper.now c.args.part.total c.args.part.k (c.args.t + 1) (c.args.w + y)
below_at c y h ey =
    slid_under c.args.part.upper.now c.args.part.total c.args.part.k c.args.t c.args.part.m c.args.w 0 y c.requires.3.window c.args.part.filling.bound
    (under_at c h) ey

pub returns-then-leaves : goal.returns-then-leaves
returns-then-leaves c =
    let s = c in
    let y = c.cell_at-y in
    let x = c.cell_at-x in
    let less = rest_at (goal.at.returns-then-leaves s).Start x.result c.if-leaves.true x.ensures.0 in
    rw (moved_within c.moved.ensures c.moved.type_inv less s.requires.3.small y.ensures.1)
    (over_at (goal.at.returns-then-leaves s).Start _ _ c.if-leaves.true x.ensures.0 y.ensures.0)

pub returns-then-leaves-2 : goal.returns-then-leaves-2
returns-then-leaves-2 c =
    let s = c in
    let x = c.cell_at-then-leaves-2.result in
    subst (λ (w : ℕ). Slid s.args.part.upper.now s.args.part.total s.args.part.k (s.args.t + 1) w) (add-zero (s.args.w - x))
    (over_at (goal.at.returns-then-leaves-2 s).Start x 0 c.if-leaves-2.true c.cell_at-then-leaves-2.ensures.0 (none_at (goal.at.returns-then-leaves-2 s).Start c.if-enters.false))

pub returns : goal.returns
returns c =
    let s = c in
    subst (λ (w : ℕ). Slid s.args.part.upper.now s.args.part.total s.args.part.k (s.args.t + 1) w) (add-zero s.args.w)
    (below_at (goal.at.returns s).Start 0 c.if-leaves-2.false (none_at (goal.at.returns s).Start c.if-enters.false))

pub cell_at-requires : goal.cell_at-requires
cell_at-requires c =
    (c.requires.0, c.requires.3.rows _ (le_refl _), enter_at (goal.at.cell_at-requires c).Start c.if-enters.true)

pub overflow_sub-result : goal.overflow_sub-result
overflow_sub-result c =
    rest_at (goal.at.overflow_sub-result c).Start c.cell_at-then-leaves-2.result c.if-leaves-2.true c.cell_at-then-leaves-2.ensures.0

pub cell_at-requires-then-leaves-2 : goal.cell_at-requires-then-leaves-2
cell_at-requires-then-leaves-2 c =
    let p = c.args.part in
    let left = full_at (goal.at.cell_at-requires-then-leaves-2 c).Start c.if-leaves-2.true in
    let here = behind_in p.upper.now p.total p.k c.args.t p.m p.filling.bound (rw (← p.filling.to.high) c.requires.2) left in
    (c.requires.0, c.requires.3.rows _ (le_refl _), here)
