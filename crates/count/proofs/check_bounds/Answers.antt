-- `count::check_bounds` meets its contract.
use Rattle.std.proofs.Common.{◌≡◌, length, sym, ◌∙◌, arith}
use Rattle.bounds.proofs.Answers.{edition_none}
use Rattle.bounds.specs.Edition.{shape_checks, limit_checks}
use Rattle.bounds.proofs.Reasons.{passed_on, coded-first}
use Rattle.count.proofs.Answers.{shape_facts}
use Rattle.count.proofs.Cheap.{most}
use Rattle.count.proofs.check_bounds.Goals as goal

pub returns-in_err-shape : goal.returns-in_err-shape
returns-in_err-shape c =
    let ms = c.args.upper.now in
    let r = c.args.total in
    passed_on _ _ c.from_residual.ensures.1 ∙ coded-first _ (shape_checks ms r) (limit_checks ms r) c.in_err-shape.ensures.refusal

pub returns-else-few-shape : goal.returns-else-few-shape
returns-else-few-shape c =
    let s = c.in_ok-shape.shape in
    let i = c.in_ok-shape.ensures.shape in
    let f = c.few_parts-few in
    let e : f.result ≡ length s.upper.now = omega (arith, f.ensures.0) in
    rw (← i.0, ← i.1)
    (sym (edition_none s.upper.now s.total s.shaped.accepted (most s.upper.now s.total f.result (shape_facts s).reached e f.ensures.1)))
