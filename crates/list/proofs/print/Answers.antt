-- Each page but the last moves on, and ends in the buffer.
use Rattle.std.proofs.Common.{◌≡◌, ℕ, ◌<◌, Option, Some, None, refl, sym, arith, length-take-le}
use Rattle.lines.proofs.Pages.{left, page_end, page_on}
use Rattle.list.proofs.print.Invariants.{to_come}
use Rattle.list.proofs.print.Goals as goal

pub slice_bounds-write_all-end : goal.slice_bounds-write_all-end
slice_bounds-write_all-end g c = omega (arith, page_end _ _ _ _ _ c.put_page-page.ensures, c.put_page-page.auto.out)

pub slice_bounds-write_all-end-in-Some : goal.slice_bounds-write_all-end-in-Some
slice_bounds-write_all-end-in-Some g c =
    sym (length-take-le _ _ (omega (arith, page_end _ _ _ _ _ c.put_page-page.ensures, c.put_page-page.auto.out)))

fewer : (next : Option ℕ) (line : ℕ) → ((k : ℕ) → next ≡ Some k → left k < left line) → to_come next < to_come (Some line)
fewer None line on = omega arith
fewer (Some k) line on = omega (arith, on k refl)

pub loop-next-smaller : goal.loop-next-smaller
loop-next-smaller g c =
    rw c.in-Some.is (fewer _ c.in-Some.line (page_on _ _ _ _ _ c.put_page-page.ensures (omega (arith, c.loop-next.invariant))))
