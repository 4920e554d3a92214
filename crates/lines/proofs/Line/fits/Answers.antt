-- `lines::Line::fits` meets its contract.
use mathlib.Core.Path.{sym, ◌∙◌}
use Prim.Native.Nat.{◌+◌, ◌*◌}
use native.Mathlib.Omega.{arith}
use lib.ListN.{length}
use borrow.Author.Tests.{le-leb}
use Rattle.lines.specs.Lines.{copy_line}
use Rattle.lines.proofs.Lined.{line_short}
use Rattle.lines.proofs.Line.fits.Goals as goal

pub returns-then-self-room : goal.returns-then-self-room
returns-then-self-room c =
    let x = c.args.self in
    let s = x.short in
    let few = line_short x.serial x.parts.now x.pair s.0 s.4 s.2 s.3 in
    le-leb (29 + 4 * length x.parts.now) c.args.room (omega arith)
    ∙ sym (le-leb (length (copy_line x.serial x.parts.now x.pair)) c.args.room (omega (arith, few)))
