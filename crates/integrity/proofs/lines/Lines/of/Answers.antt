-- `integrity::lines::Lines::of` meets its contract.
use Rattle.std.proofs.Common.{ℕ, take, ap, ◌∙◌}
use Rattle.model.specs.Entry.{pairs}
use Rattle.integrity.proofs.Pairs.{pairs_cut}
use Rattle.integrity.proofs.lines.Lines.of.Goals as goal

pub returns : goal.returns
returns c =
    let os = c.args.orders.now in
    let is = c.args.items.now in
    ap (λ (n : ℕ). pairs (take n os) (take n is)) c.min-n.ensures ∙ pairs_cut os is
