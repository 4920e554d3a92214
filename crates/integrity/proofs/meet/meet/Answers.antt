-- `integrity::meet::meet` meets its contract.
use Rattle.std.proofs.Common.{◌≡◌, ℕ, ◌+◌, length, sym, subst, ◌∙◌}
use Rattle.integrity.specs.Lines.{lines_in}
use Rattle.integrity.specs.Sift.{Sifted}
use Rattle.integrity.proofs.Pairs.{pairs_length}
use Rattle.integrity.proofs.meet.meet.Goals as goal

pub sweep-requires-clause-sifted : goal.sweep-requires-clause-sifted
sweep-requires-clause-sifted c =
    let l = lines_in c.args.lines in
    let n : length l ≡ c.len.result = pairs_length c.args.lines.orders.now c.args.lines.items.now c.args.lines.paired ∙ sym c.len.ensures in
    let hit = c.mark-hit.result in
    subst (λ (k : ℕ). Sifted l (lines_in c.args.bundle) 0 hit.first (k + hit.place)) n (c.mark-hit.ensures.sifted l)
