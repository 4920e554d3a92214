-- `blocks::by_lists` meets its contract.
use Rattle.std.proofs.Common.{◌≡◌, sym, ◌∙◌, subst, List, ℕ, ◌+◌, ◌-◌, ◌≤◌, ◌<◌, arith, rules, length, get_or, take}
use lib.Seq.{take-take}
use Rattle.walsh.specs.Sums.{sum_to}
use Rattle.walsh.specs.Order.{is_odd, count}
use Rattle.walsh.specs.Serial.{serial_of}
use Rattle.walsh.proofs.Complete.{composition_within}
use Rattle.blocks.specs.Blocks.{Entered, listed_at}
use Rattle.blocks.proofs.Entries.{place_within, entered_at}
use Rattle.blocks.proofs.Copied.{cells_sum, list_before, list_after}
use Rattle.blocks.proofs.by_lists.Goals as goal
use Rattle.blocks.proofs.by_lists.Goals.{After-sum_of-s, In_ok-x}

-- the sum of the first parts
sum_at : (c : After-sum_of-s) →
    let a = c.args in
    (c.sum_of-s.result ≡ sum_to (take (length a.fronts.now.job.upper.now) a.fronts.now.job.first) a.fronts.now.width) × (c.sum_of-s.result ≤ a.fronts.now.job.total)
sum_at c =
    let a = c.args in
    let known = a.fronts.now.known in
    let size : length a.fronts.now.job.first ≡ 24 = search rules in
    let e = c.sum_of-s.ensures ∙ cells_sum a.fronts.now.job.first a.fronts.now.width (length a.fronts.now.job.upper.now) known.inside (omega (arith, size, a.fronts.now.job.asked.few)) in
    (e, omega (arith, composition_within a.fronts.now.job.asked.valid a.fronts.now.width known.inside))

-- their place in the list
place_at : (c : In_ok-x) →
    let a = c.args in
    let w = a.fronts.now.width in
    let g = take (length a.fronts.now.job.upper.now) a.fronts.now.job.first in
    c.in_ok-x.x + 1 ≡ serial_of (take w a.fronts.now.job.upper.now) (sum_to g w) (take w g)
place_at c =
    let a = c.args in
    let w = a.fronts.now.width in
    c.in_ok-x.ensures
    ∙ rw ((sum_at (goal.at.In_ok-x c).After-sum_of-s).0, take-take w (length a.fronts.now.job.upper.now) a.fronts.now.job.first a.fronts.now.known.inside)

pub place_of-requires : goal.place_of-requires
place_of-requires c = omega (arith, sum_at (goal.at.place_of-requires c).After-sum_of-s, c.args.fronts.now.job.asked.small)

pub entered_at-index-requires : goal.entered_at-index-requires
entered_at-index-requires c =
    let a = c.args in
    let ms = a.fronts.now.job.upper.now in
    let fronts = a.fronts.now in
    let w : ℕ = fronts.width in
    let known = a.fronts.now.known in
    let g : List ℕ = take (length ms) a.fronts.now.job.first in
    let valid = a.fronts.now.job.asked.valid in
    let s = sum_at (goal.at.entered_at-index-requires c).After-sum_of-s in
    let inside = place_within ms w known.inside a.fronts.now.job.total g valid _ (place_at (goal.at.entered_at-index-requires c).In_ok-x) in
    let before = list_before fronts g valid in
    let after = list_after fronts g valid in (
      s.1,
      subst (λ (k : ℕ). get_or fronts.starts k 0 + c.in_ok-x.x < get_or fronts.starts (k + 1) 0) (sym s.0)
          (omega (arith, inside, before, after)),
    )

pub write-requires : goal.write-requires
write-requires c =
    let a = c.args in
    let ms = a.fronts.now.job.upper.now in
    let fronts = a.fronts.now in
    let w : ℕ = fronts.width in
    let known = a.fronts.now.known in
    let g : List ℕ = take (length ms) a.fronts.now.job.first in
    let valid = a.fronts.now.job.asked.valid in
    let s : ℕ = sum_to g w in
    let x : ℕ = c.in_ok-x.x in
    let place = place_at (goal.at.write-requires c).In_ok-x in
    let before = list_before fronts g valid in
    let after = list_after fronts g valid in
    let many : get_or fronts.starts (s + 1) 0 - get_or fronts.starts s 0 ≡ count ms w s = omega (arith, before, after) in
    let back : x + 1 - 1 ≡ x = omega arith in
    let index : c.entered_at-index.result ≡ listed_at (is_odd (a.fronts.now.job.total - s)) (count ms w s) x =
    c.entered_at-index.ensures ∙ rw ((sum_at (goal.at.write-requires c).After-sum_of-s).0, many) in
    let entered = rw back at (entered_at ms w known.inside a.fronts.now.job.total g valid (x + 1) place) in
    (c.requires, subst (Entered ms a.fronts.now.job.total w g) (sym index) entered)
