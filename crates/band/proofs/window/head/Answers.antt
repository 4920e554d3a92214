use Rattle.std.proofs.Common.{◌≡◌, ℕ, ◌+◌, ◌<◌, ◌≤◌, min, List, length, get_or, refl, ◌∙◌, subst, le_trans, le_antisymm, arith}
use Rattle.walsh.proofs.Cases.{on_less}
use Rattle.walsh.specs.Order.{count}
use Rattle.walsh.specs.Sums.{sum_to}
use Rattle.band.specs.Band.{lowest, highest, IsRow}
use Rattle.band.specs.Window.{Slid}
use Rattle.band.specs.declared.Row.{Row}
use Rattle.band.proofs.Numbers.{le_suc}
use Rattle.band.proofs.Rows.{row_ends, low_le}
use Rattle.band.proofs.Bands.{low_high, low_next}
use Rattle.band.proofs.Slides.{slid_under, slid_most, slid_jump}
use Rattle.band.proofs.window.head.Goals as goal
use Rattle.band.proofs.window.head.Goals.{In-loop-t}

-- a sum that enters before the first of the row after
record Enters (lo hi m hi' t : ℕ) : Type 0 where
  low : lo ≤ t
  high : t ≤ hi
  near : t ≤ lo + m
  next : t ≤ hi'

enters : (rl rh nl lo hi lo' hi' m end t : ℕ) → rl ≡ lo → rh ≡ hi → nl ≡ lo' → end ≡ min nl (rh + 1) → lo' ≤ lo + m → lo' ≤ hi' → rl ≤ t → t < end
    → Enters lo hi m hi' t
enters rl rh nl lo hi lo' hi' m end t e1 e2 e3 e a b l h = record { low = omega arith; high = omega arith; near = omega arith; next = omega arith }

enters_at : (c : In-loop-t)
    → let a = c.args in
    let ms = a.part.upper.now in
    Enters (lowest ms a.part.total a.part.k) (highest ms a.part.total a.part.k) (get_or ms a.part.k 0) (highest ms a.part.total (a.part.k + 1)) c.loop-t.t
enters_at c =
    let s = c in
    let a = s.args in
    let p = s.args.part.filling in
    let l = c.loop-t in
    enters _ _ _ _ _ _ _ _ _ _ p.from.low p.from.high p.to.low c.min-end.ensures
    (low_next a.part.upper.now a.part.total a.part.k p.part)
    (low_high a.part.upper.now a.part.total a.part.k p.reached p.part).0 l.auto.t c.loop-t-test.true

first : (rl rh nl lo hi lo' end : ℕ) → rl ≡ lo → rh ≡ hi → nl ≡ lo' → lo ≤ hi → lo ≤ lo' → end ≡ min nl (rh + 1) → rl ≤ end
first rl rh nl lo hi lo' end e1 e2 e3 a b e = omega arith

slid_next : (c : In-loop-t) (y : ℕ) → y ≡ count c.args.part.upper.now c.args.part.k c.loop-t.t
    → let a = c.args.part in
    Slid a.upper.now a.total a.k (c.loop-t.t + 1) (c.loop-t.w + y)
slid_next c y e =
    let a = c.args.part in
    slid_under a.upper.now a.total a.k c.loop-t.t _ c.loop-t.w 0 y c.loop-t.invariant.1 refl (enters_at c).near e

pub returns-in_err-w : goal.returns-in_err-w
returns-in_err-w c =
    let a = c.args.part in
    let at = (goal.at.returns-in_err-w c).In-loop-t in
    let most = slid_most a.upper.now a.total a.k c.loop-t.t _ a.filling.part a.filling.reached (slid_next at _ c.cell_at.ensures.0) (enters_at at).next in
    rw c.from_residual.ensures (le_trans c.in_err-w.ensures most)

pub loop-t-preserved : goal.loop-t-preserved
loop-t-preserved c =
    let w = c.in_ok-w.ensures in
    (w.1, rw w.0 (slid_next (goal.at.loop-t-preserved c).In-loop-t _ c.cell_at.ensures.0))

-- the cells above the row's highest sum, up to the first of the row after, are none
module _ (ms : List ℕ) (r k t w : ℕ) (row next : Row) (i : IsRow ms r k row) (i' : IsRow ms r (k + 1) next) (l : k < length ms)
    (s : Slid ms r k t w) where
  past : (rh nl S : ℕ) → rh ≡ min r S → nl ≤ r → rh < nl → t ≡ min nl (rh + 1) → (t ≤ nl) × (S < t)
  past rh nl S e b h q = (omega arith, omega arith)

  same : (rh nl : ℕ) → nl ≤ rh → t ≡ min nl (rh + 1) → t ≡ nl
  same rh nl h q = omega arith

  ends : t ≡ min next.low (row.high + 1) → Slid ms r k next.low w
  ends q =
      on_less row.high next.low
      (λ h _. let p = past row.high next.low (sum_to ms k) i.high (low_le ms r (k + 1) next i') h q in
      slid_jump ms r k t next.low w s p.0 (le_suc (rw i'.low (low_next ms r k l))) p.1)
      (λ h _. subst (λ (u : ℕ). Slid ms r k u w) (same row.high next.low h q) s)

pub returns : goal.returns
returns c =
    let a = c.args in
    let p = c.args.part.filling in
    let l = c.loop-t in
    let ends_low = row_ends a.part.upper.now a.part.total a.part.k p.reached p.part a.part.row p.from in
    let rises = (low_high a.part.upper.now a.part.total a.part.k p.reached p.part).1 in
    let most = l.auto.t-end (first _ _ _ _ _ _ _ refl refl p.to.low ends_low.0 (rw (← p.from.low) at rises) c.min-end.ensures) in (
      l.invariant.0,
      ends a.part.upper.now a.part.total a.part.k l.t l.w a.part.row a.part.next p.from p.to p.part l.invariant.1
          (le_antisymm most c.loop-t-test.false ∙ c.min-end.ensures),
    )
