-- The kinds of a line's pair.
use mathlib.Core.List.{List}
use Prim.Native.Nat.{ℕ, ◌≤◌, ◌<◌}
use native.Mathlib.Omega.{arith}
use lib.ListN.{length}
use Rattle.walsh.specs.Order.{count_of}
use Rattle.walsh.specs.Transition.{transition_at}
use Rattle.walsh.proofs.Cases.{on_less}
use Rattle.walsh.proofs.Transitions.{transition_none, serial_carries}

-- there are no more kinds than bounds
pub kinds_most : (ms : List ℕ) (r s : ℕ) → 0 < s → s ≤ count_of ms r
    → ((transition_at ms r s).gain ≤ length ms) × ((transition_at ms r s).loss ≤ length ms)
kinds_most ms r s low high =
    on_less s 2
    (λ l _. rw (transition_none ms r s l) (omega arith, omega arith))
    (λ l _. let c = serial_carries ms r s l high in (c.gain.1, c.loss.1))
