-- `band::window::fill_row` meets its contract.
use Rattle.std.proofs.Common.{◌≡◌, ℕ, ◌+◌, ◌<◌, arith}
use Rattle.band.proofs.Rows.{row_filled}
use Rattle.band.proofs.window.fill_row.Goals as goal

pub returns : goal.returns
returns c =
    let a = c.args in
    let shrunk = c.fill_span-3 in
    let row = c.in_ok-fill_span.ensures in
    row_filled a.part.upper.now a.part.total a.part.k _ shrunk.new.cells row.rows row.row (past c.args.part.filling.to.high c.stretches_of-s.ensures.end)
  where
    past : {high x end : ℕ} → high ≡ x → end ≡ high + 1 → x < end
    past e q = omega arith
