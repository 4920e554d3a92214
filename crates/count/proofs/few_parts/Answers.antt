-- `count::few_parts` meets its contract.
use Rattle.std.proofs.Common.{◌≡◌, ℕ, ◌-◌, min, ap, ◌∙◌}
use native.Mathlib.Nat.{le_refl, le_trans}
use Rattle.bounds.specs.Edition.{whole}
use Rattle.count.proofs.Answers.{shape_facts}
use Rattle.count.proofs.Cheap.{within_up_to}
use Rattle.count.proofs.few_parts.Goals as goal
use Rattle.count.proofs.few_parts.Goals.{After-min-smaller}

smaller_at : (c : After-min-smaller)
    → let s = c.args.shape in
    c.min-smaller.result ≡ min s.total (whole s.upper.now - s.total)
smaller_at c = c.min-smaller.ensures ∙ ap (λ (n : ℕ). min c.args.shape.total (n - c.args.shape.total)) c.args.shape.shaped.all_is

pub returns-then-smaller-free_sum : goal.returns-then-smaller-free_sum
returns-then-smaller-free_sum c =
    let s = c.args.shape in
    let ms = s.upper.now in (
      le_refl _,
      λ k l. within_up_to ms s.total _ (shape_facts c.args.shape).reached (smaller_at (goal.at.returns-then-smaller-free_sum c).After-min-smaller) k l
          (λ t b. c.free_sum.ensures ms k l t (le_trans b c.if-smaller-free_sum.true)),
    )

pub returns : goal.returns
returns c =
    let f = c.few_values.ensures in
    let s = c.args.shape in
    let within = within_up_to s.upper.now s.total _ (shape_facts c.args.shape).reached (smaller_at (goal.at.returns c).After-min-smaller) in
    (f.0, λ k l. within k (le_trans l f.0) (f.1 k l))
