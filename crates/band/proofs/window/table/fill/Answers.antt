-- `band::window::table::fill` meets its contract.
use Rattle.std.proofs.Common.{◌≡◌, ℕ, ◌<◌, ◌≤◌, List, length, Option, Some, None, MatchOption, ok_or, IfOk, sym, arith}
use Rattle.walsh.specs.Order.{count, count_of}
use Rattle.bounds.specs.Edition.{shape_checks, edition_checks}
use Rattle.bounds.specs.Reason.{told}
use Rattle.bounds.specs.Refusal.{first_refusal}
use Rattle.bounds.specs.declared.Reason.TheVariants.{Limit}
use Rattle.bounds.proofs.Editions.{shapely}
use Rattle.bounds.proofs.Answers.{edition_over, edition_none}
use Rattle.band.specs.Band.{cap, Band}
use Rattle.band.proofs.window.table.fill.Goals as goal

-- a count that stops, as an answer
module _ (ms : List ℕ) (r : ℕ) (cells : List ℕ) where
  limited : (o : Option ℕ) → (first_refusal (shape_checks ms r)).number ≡ 0
      → MatchOption o (cap ≤ count ms (length ms) r) (λ n. (n ≡ count ms (length ms) r) × (n < cap) × Band ms r cells)
      → told (ok_or o Limit) ≡ first_refusal (edition_checks ms r)
  unfolding count_of
  limited None shape over = sym (edition_over ms r shape (omega arith))
  limited (Some n) shape k = sym (edition_none ms r shape (omega (arith, k.0, k.1)))

  filled : (o : Option ℕ)
      → MatchOption o (cap ≤ count ms (length ms) r) (λ n. (n ≡ count ms (length ms) r) × (n < cap) × Band ms r cells)
      → IfOk (ok_or o Limit) (λ n. (n ≡ count_of ms r) × Band ms r cells)
  unfolding count_of
  filled None over = tt
  filled (Some n) k = (k.0, k.2)

pub fill_rows-requires : goal.fill_rows-requires
fill_rows-requires c =
    let p = shapely c.args.upper.now c.args.total c.requires.0 in
    (p.few, p.small, p.reached, c.requires.1, c.requires.2)

pub returns-clause-refusal : goal.returns-clause-refusal
returns-clause-refusal c = rw c.ok_or.ensures.value (limited _ _ c.fill_rows.new.cells c.fill_rows.result c.requires.0 c.fill_rows.ensures)

pub returns-clause-filled : goal.returns-clause-filled
returns-clause-filled c = rw c.ok_or.ensures.value (filled _ _ c.fill_rows.new.cells c.fill_rows.result c.fill_rows.ensures)
