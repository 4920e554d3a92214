-- `replay::run` meets its contract: the answers of the first i calls stand in their rows.
use Rattle.model.specs.Entry.{columns}
use Rattle.replay.specs.Replay.{scripted, buffers}
use Rattle.replay.proofs.Steps.{Progress}
use Rattle.replay.proofs.run.Given as goal

abbrev pub invariant-loop-i : goal.invariant-loop-i
invariant-loop-i l =
    Progress l.initial.l (scripted l.script (columns l.orders l.itemlines)) (buffers (columns l.initial.column l.initial.items) l.initial.answers) (buffers (columns l.column l.items) l.answers) l.l l.next l.next_item l.i
