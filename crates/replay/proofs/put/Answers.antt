-- `replay::put` meets its contract.
use mathlib.Core.Path.{◌≡◌, ◌∙◌}
use lib.ListN.{length}
use borrow.Author.Rules.{rules}
use Rattle.replay.proofs.Rows.{row_filled}
use Rattle.replay.proofs.put.Goals as goal
use Rattle.replay.proofs.put.Goals.{Start}

cells : (s : Start) → length s.args.answer.composition ≡ 24
cells s = search rules

pub returns : goal.returns
returns c =
    let s = (goal.at.returns c).Start in
    let a = s.args.answer in
    row_filled s.args.row.now c.from.result a.detail a.serial c.from-2.result c.from-3.result a.composition _ s.requires (cells s) c.widen.ensures
    ∙ rw (c.from.ensures, c.from-2.ensures, c.from-3.ensures)
