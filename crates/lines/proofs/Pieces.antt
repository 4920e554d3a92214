-- The loop of `put_lines`: what it keeps, and what it has done in the end.
use mathlib.Core.Path.{◌≡◌, refl, sym, ap, ◌∙◌}
use mathlib.Core.List.{List}
use Rattle.std.specs.Prelude.{Some, None}
use Prim.Native.Nat.{ℕ, suc, ◌+◌, ◌-◌, ◌≤◌, ◌<◌}
use native.Mathlib.Nat.{zero-add}
use native.Mathlib.Numerals.{add-one}
use native.Mathlib.Omega.{arith}
use lib.ListN.{length}
use borrow.Author.Tests.{lt-ltb, le-ltb}
use Rattle.walsh.specs.Order.{Composition}
use Rattle.walsh.specs.Serial.{composition_of}
use Rattle.walsh.specs.Transition.{transition_at}
use Rattle.walsh.specs.declared.Transition.{Transition}
use Rattle.walsh.proofs.Serials.{composition_is}
use Rattle.walsh.proofs.Transitions.{transition_some}
use Rattle.step.specs.Advance.{Advances}
use Rattle.step.proofs.Ways.{advance_serial}
use Rattle.lines.specs.Append.{Appended}
use Rattle.lines.specs.Lines.{copy_line, line_at, lines_of, fitting}
use Rattle.lines.specs.Page.{taken, Ready, Filled}
use Rattle.lines.proofs.Appends.{nothing, joined, retold, within}
use Rattle.lines.proofs.Pairs.{kinds_most}
use Rattle.lines.proofs.Fitting.{lines_snoc, fitting_here, fitting_none}

-- the lines before s are put

pub record Filling (ms : List ℕ) (r first count : ℕ) (before after parts : List ℕ) (s end : ℕ) (x : Transition) : Type 0 where
  pub low : first ≤ s
  pub high : s ≤ count + 1
  pub here : s ≤ count → parts ≡ composition_of ms r s
  pub pair : s ≤ count → x ≡ transition_at ms r s
  pub put : Appended before after 0 end (lines_of (line_at ms r) first (s - first))
  pub left : taken (line_at ms r) count first (length before) ≡ (s - first) + taken (line_at ms r) count s (length before - end)

module _ {ms : List ℕ} {r first count : ℕ} {before start : List ℕ} {x₀ : Transition} (ready : Ready ms r first count start x₀) where
  pub filling_none : Filling ms r first count before before start first 0 x₀
  unfolding lines_of
  filling_none =
      let none : first - first ≡ 0 = omega arith in
      let same : length before - 0 ≡ length before = omega arith in
      record {
        low = omega arith;
        high = omega (arith, ready.high);
        here = λ h. ready.here;
        pair = λ h. ready.pair;
        put = rw none (nothing before 0);
        left = rw (none, same) (sym (zero-add (taken (line_at ms r) count first (length before))));
      }

  module _ {after parts : List ℕ} {s end : ℕ} {x : Transition} (f : Filling ms r first count before after parts s end x) where
    -- the end is in the buffer
    pub filling_end : end ≤ length after
    filling_end = omega (arith, within (omega arith) f.put, f.put.size)

    -- no line past s is taken
    stops : taken (line_at ms r) count first (length before) ≡ s - first → first + taken (line_at ms r) count first (length before) ≡ s
    stops e = omega (arith, f.low)

    -- where a line goes: it is that of s
    module _ (more : s ≤ count) where
      pub filling_valid : Composition ms r parts
      filling_valid = rw (f.here more) (composition_is ms r s (omega (arith, ready.low, f.low)) (omega (arith, ready.all)))

      -- its kinds have at most two digits
      pub filling_kinds : (x.gain ≤ 24) × (x.loss ≤ 24)
      filling_kinds =
          let some : 0 < s = omega (arith, ready.low, f.low) in
          let kinds = kinds_most ms r s some (omega (arith, ready.all)) in
          rw (f.pair more) (omega (arith, kinds.0, ready.few), omega (arith, kinds.1, ready.few))

      line_here : copy_line s parts x ≡ line_at ms r s
      line_here = rw (f.here more, f.pair more) (unfold line_at in refl)

      -- no room for it
      pub filling_full : length after - end < length (copy_line s parts x) → Filled ms r first count before after (record { next = Some s; end = end })
      filling_full h =
          let none : taken (line_at ms r) count s (length before - end) ≡ 0 =
          fitting_none (line_at ms r) s _ (length before - end) (omega (arith, ap length line_here, f.put.size)) in
          let all : taken (line_at ms r) count first (length before) ≡ s - first = omega (arith, f.left) in
          record { next = sym (rw (stops all, le-ltb count s more)); put = rw all f.put }

      -- the step leads to the next composition, and says the pair of its line
      module _ {parts' : List ℕ} {x' : Transition} (on : Advances ms r parts x' parts') (l : s < count) where
        step_here : parts' ≡ composition_of ms r (s + 1)
        step_here =
            on.next ready.few filling_valid
            ∙ rw (f.here more) (advance_serial ms r s (omega (arith, ready.low, f.low)) (omega (arith, ready.all)))

        step_pair : x' ≡ transition_at ms r (s + 1)
        step_pair =
            let back : s + 1 - 1 ≡ s = omega arith in
            on.pair ∙ rw (step_here, f.here more) (sym (transition_some ms r (s + 1) (omega (arith, ready.low, f.low)) ∙ rw back))

      pub filling_next : {after' parts' : List ℕ} {e : ℕ} {x' : Transition} → length (copy_line s parts x) ≤ length after - end
          → Appended after after' end e (copy_line s parts x) → Advances ms r parts x' parts'
          → Filling ms r first count before after' parts' (s + 1) e x'
      filling_next {after'} {parts'} {e} {x'} room p on =
          let more-lines : suc count - s ≡ suc (suc count - (s + 1)) = omega arith in
          let size : length before - end - length (line_at ms r s) ≡ length before - e = omega (arith, p.ends, ap length line_here) in
          let fits : length (line_at ms r s) ≤ length before - end = omega (arith, ap length line_here, f.put.size) in
          let one : taken (line_at ms r) count s (length before - end) ≡ suc (taken (line_at ms r) count (s + 1) (length before - e)) =
          rw more-lines (fitting_here (line_at ms r) s (suc count - (s + 1)) (length before - end) fits ∙ rw (size, add-one s)) in
          let at : first + (s - first) ≡ s = omega (arith, f.low) in
          let next : s - first + 1 ≡ s + 1 - first = omega (arith, f.low) in
          record {
            low = omega (arith, f.low);
            high = omega arith;
            here = λ h. step_here on (omega arith);
            pair = λ h. step_pair on (omega arith);
            put = retold (rw line_here (rw (at, next) at (lines_snoc (line_at ms r) first (s - first)))) (joined f.put p);
            left = omega (arith, f.left, one, f.low);
          }

  -- all lines are put
  pub filling_all : {after parts : List ℕ} {s end : ℕ} {x : Transition} → Filling ms r first count before after parts s end x → count < s
      → Filled ms r first count before after (record { next = None; end = end })
  unfolding fitting
  filling_all {after} {parts} {s} {end} {x} f h =
      let none : suc count - s ≡ 0 = omega arith in
      let all : taken (line_at ms r) count first (length before) ≡ s - first = f.left ∙ rw none (omega arith) in
      record { next = sym (rw (stops f all, lt-ltb count s h)); put = rw all f.put }
