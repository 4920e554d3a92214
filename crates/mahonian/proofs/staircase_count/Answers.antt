-- `mahonian::staircase_count` meets its contract: one law at each return.
use Rattle.std.proofs.Common.{sym, ◌∙◌}
use Rattle.mahonian.proofs.Staircase.{staircase_read, staircase_other, staircase_long}
use Rattle.mahonian.proofs.staircase_count.Goals.{then-upper-gt15-via-then-upper-gt15, then-upper-gt15-via-else-upper-gt15+then-not-is_staircase}
use Rattle.mahonian.proofs.staircase_count.Goals as goal

pub returns-then-upper-gt15 : goal.returns-then-upper-gt15
returns-then-upper-gt15 c =
    let ms = c.args.upper.now in
    elim c.then-upper-gt15.branch [
      | then-upper-gt15-via-then-upper-gt15 w ↦ sym (staircase_long ms c.args.total w.if-upper-gt15.true)
      | then-upper-gt15-via-else-upper-gt15+then-not-is_staircase w ↦
          sym (staircase_other ms c.args.total (sym w.if-not-is_staircase.ensures))
    ]

pub returns : goal.returns
returns c =
    let x = c.args in
    c.read.ensures ∙ staircase_read x.upper.now x.total (sym c.is_staircase.ensures ∙ c.if-not-is_staircase.false)
