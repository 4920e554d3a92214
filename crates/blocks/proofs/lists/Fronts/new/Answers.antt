-- `blocks::lists::Fronts::new` meets its contract.
use Rattle.std.proofs.Common.{◌≡◌, ◌∙◌, subst, ℕ, take}
use Rattle.std.proofs.lemmas.List.{length-replicate}
use Rattle.blocks.specs.Lists.{Lists, most_of}
use Rattle.blocks.proofs.Entries.{front_sum}
use Rattle.blocks.proofs.lists.Fronts.new.Goals as goal

pub invariant_of-result : goal.invariant_of-result
invariant_of-result c =
    let ms = c.args.job.upper.now in
    let w : ℕ = c.in_ok-width.width in
    let (some, narrow, inside) = c.in_ok-width.ensures in
    let most : c.min-most.result ≡ most_of ms c.args.job.total w =
    c.min-most.ensures ∙ rw (c.sum_of.ensures, front_sum ms w inside ms inside) in
    record {
      known = record {
        some = some;
        narrow = narrow;
        inside = inside;
        lists = subst (λ (m : ℕ). Lists (take w ms) m c.fill.new.entries c.fill.new.starts) most c.in_ok-fill.ensures;
        entry_bytes = c.fill.auto.entries ∙ length-replicate {A = ℕ} 12288 0;
        start_cells = c.fill.auto.starts ∙ length-replicate {A = ℕ} 257 0;
      };
    }
