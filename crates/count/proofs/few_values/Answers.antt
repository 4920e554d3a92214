use Rattle.std.proofs.Common.{◌≡◌, List, ℕ, suc, ◌+◌, ◌-◌, ◌≤◌, ◌<◌, min, subst, refl, get_or, add-one, arith}
use Rattle.walsh.proofs.Cases.{on_less}
use Rattle.walsh.proofs.Product.{Few, few_none, few_step}
use Rattle.count.specs.Row.{UpTo}
use Rattle.count.proofs.few_values.Goals as goal
use Rattle.count.proofs.few_values.Goals.{After-min-factor}

-- the numbers of a turn
record Turn (m r w a x : ℕ) : Type 0 where
  pub values : a ≡ suc (min m r)
  pub factor : x ≡ min a w
  pub some : (0 < x) × (x ≤ 256)
  pub left : (0 < a + w - x) × (a + w - x ≤ 256)

turn : (m r w l x : ℕ) → l ≡ min m r → m < 256 → 0 < w → w ≤ 256 → x ≡ min (l + 1) w → Turn m r w (l + 1) x
turn m r w l x e h p q f = record { values = omega arith; factor = f; some = (omega arith, omega arith); left = (omega arith, omega arith) }

turn_at : (c : After-min-factor)
    → let a = c.args in
    let l = c.loop-k in
    Turn (get_or a.upper.now l.k 0) a.most l.widest (c.min-values.result + 1) c.min-factor.result
turn_at c =
    let l = c.loop-k in
    let m : get_or c.args.upper.now l.k 0 < 256 = omega (arith, c.type_inv.upper l.k) in
    turn _ _ _ _ _ (rw (← c.from.ensures) c.min-values.ensures) m l.invariant.wide l.invariant.narrow c.min-factor.ensures

-- a product within the limit bounds every count
within : (ms : List ℕ) (r k p w : ℕ) → Few ms r k p w → p ≤ 9223372036854775807 → UpTo ms r k
within ms r k p w few l t h = omega (arith, few.each t h)

within_next : (ms : List ℕ) (r k p w : ℕ) → ((j : ℕ) → j ≤ k → UpTo ms r j) → Few ms r (suc k) p w → p ≤ 9223372036854775807 → (j : ℕ)
    → j ≤ k + 1 → UpTo ms r j
within_next ms r k p w old few b j l =
    on_less j (suc k) (λ h _. old j (omega arith)) (λ h _. let q : suc k ≡ j = omega arith in subst (UpTo ms r) q (within ms r (suc k) p w few b))

pub loop-k-init : goal.loop-k-init
loop-k-init c =
    let a = c.args in
    let none = few_none a.upper.now a.most in record {
      limited = omega arith;
      wide = omega arith;
      narrow = omega arith;
      few = none;
      each = λ j l. let q : 0 ≡ j = omega arith in subst (UpTo a.upper.now a.most) q (within _ _ 0 1 1 none (omega arith));
    }

pub loop-k-preserved : goal.loop-k-preserved
loop-k-preserved c =
    let t = turn_at (goal.at.loop-k-preserved c).After-min-factor in
    let l = c.loop-k in
    let a = c.args in
    let p = c.in-Some.ensures in
    let few = few_step a.upper.now a.most l.k l.product l.widest _ l.invariant.few t.values _ _ t.factor refl in
    let next : Few a.upper.now a.most (suc l.k) c.in-Some.more _ = rw p.0 few in record {
      limited = p.1;
      wide = t.left.0;
      narrow = t.left.1;
      few = rw (add-one l.k) next;
      each = within_next a.upper.now a.most l.k _ _ l.invariant.each next p.1;
    }

pub limited_product-requires : goal.limited_product-requires
limited_product-requires c = (turn_at (goal.at.limited_product-requires c).After-min-factor).some.1
