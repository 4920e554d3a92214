-- `lines::list` meets its contract.
use Rattle.std.proofs.Common.{◌≤◌, length, sym, length-take-le}
use Rattle.lines.proofs.Listed.{list_zero, list_past, list_cells, list_ready, list_put}
use Rattle.lines.proofs.list.Goals as goal
use Rattle.lines.proofs.list.Goals.{Else-found-serial}
use Rattle.lines.proofs.list.Goals.{then-serial-eq0-via-then-serial-eq0, then-serial-eq0-via-else-serial-eq0+then-found-serial}

-- the cells hold the composition
cells : (c : Else-found-serial) → length c.args.upper.now ≤ length c.args.found.composition
cells c = list_cells _ _ _ _ c.requires c.if-serial-eq0.false c.if-found-serial.false

pub returns-then-serial-eq0 : goal.returns-then-serial-eq0
returns-then-serial-eq0 c =
    elim c.then-serial-eq0.branch [
      | then-serial-eq0-via-then-serial-eq0 w ↦ list_zero _ _ _ _ c.requires _ _ c.no_page.ensures w.if-serial-eq0.true
      | then-serial-eq0-via-else-serial-eq0+then-found-serial w ↦ list_past _ _ _ _ c.requires _ _ c.no_page.ensures w.if-found-serial.true
    ]

pub put_lines-requires : goal.put_lines-requires
put_lines-requires c = list_ready _ _ _ _ c.requires c.if-serial-eq0.false c.if-found-serial.false _ _ c.retreat-first.ensures

pub returns : goal.returns
returns c = list_put _ _ _ _ c.requires c.if-serial-eq0.false c.if-found-serial.false _ _ _ c.put_lines.ensures

pub slice_bounds-before-end : goal.slice_bounds-before-end
slice_bounds-before-end c = cells (goal.at.slice_bounds-before-end c).Else-found-serial

pub slice_bounds-retreat-end : goal.slice_bounds-retreat-end
slice_bounds-retreat-end c = sym (length-take-le _ _ (cells (goal.at.slice_bounds-retreat-end c).Else-found-serial))

pub slice_bounds-cells-end : goal.slice_bounds-cells-end
slice_bounds-cells-end c = cells (goal.at.slice_bounds-cells-end c).Else-found-serial

pub slice_bounds-put_lines-end : goal.slice_bounds-put_lines-end
slice_bounds-put_lines-end c = sym (length-take-le _ _ (cells (goal.at.slice_bounds-put_lines-end c).Else-found-serial))
