-- `integrity::packed` meets its contract.
use Rattle.std.proofs.Common.{◌≡◌, ◌-◌, ◌∙◌, eqb, length, drop, length-drop, rules, tests, arith}
use Rattle.std.proofs.lemmas.List.{take_all}
use Rattle.std.specs.List.{list_all}
use Rattle.std.proofs.lemmas.Iterator.{YieldsList-from_slice}
use Rattle.std.proofs.lemmas.Iterator.Search.{all_from_yields_List}
use Rattle.integrity.proofs.Cells.{spare_zeros}
use Rattle.integrity.proofs.packed.Goals as goal

pub returns : goal.returns
returns c =
    let b = c.args.bounds in
    let long : length b.upper ≡ 24 = search rules in
    let zeros : c.all.result ≡ list_all (λ x. eqb x 0) (drop b.parts b.upper) =
    all_from_yields_List (λ x. eqb x 0) _ _ _ c.all.ensures.ran (YieldsList-from_slice (drop b.parts b.upper) (c.iter.ensures.rest ∙ take_all (24 - b.parts) (drop b.parts b.upper) (omega (arith, length-drop b.parts b.upper, long)))) (λ x r q k. search (rules, tests)) in
    zeros ∙ spare_zeros b.upper b.parts long c.requires
