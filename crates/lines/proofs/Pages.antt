-- The pages one behind the other are what is printed.
use mathlib.Core.Path.{◌≡◌, refl, sym, ap, ◌∙◌}
use mathlib.Core.List.{List, ◌++◌}
use Rattle.std.specs.Prelude.{Option, Some, None}
use Prim.Native.Nat.{ℕ, zero, suc, ◌+◌, ◌-◌, ◌≤◌, ◌<◌}
use native.Mathlib.Decide.{ℕ_discrete}
use native.Mathlib.Omega.{arith}
use lib.ListN.{length, drop, length-append, length-drop}
use lib.Seq.{take-append_seam}
use borrow.Author.Tests.{lt-ltb, le-ltb, eq-eqb, ne_eqb}
use Rattle.walsh.proofs.Cases.{on_less}
use Rattle.bounds.specs.Places.{most_entries}
use Rattle.lines.specs.Lines.{lines_of}
use Rattle.lines.specs.Printed.{output_of, printed}
use Rattle.lines.specs.Page.{line_in, lines_in, taken, text, or_none, page_in, page_of, shown, Pages, last, more}
use Rattle.lines.specs.declared.Page.{Page}
use Rattle.lines.proofs.Fitting.{lines_append, fitting_here, fitting_le, fitting_fits}
use Rattle.lines.proofs.Printed.{text_lines}
use Rattle.lines.proofs.Longest.{printed_short}

none_more : {k : ℕ} {A : Type 0} → ◌≡◌ {A = Option ℕ} None (Some k) → A
none_more e = cc

same_next : {k m : ℕ} → ◌≡◌ {A = Option ℕ} (Some k) (Some m) → k ≡ m
same_next e = cc

module _ (s : List ℕ) where
  abbrev f : ℕ → List ℕ
  f = line_in (output_of s)

  abbrev count : ℕ
  count = lines_in (output_of s)

  -- ---- one page

  module _ (k : ℕ) (out : List ℕ) (low : 0 < k) where
    page_is : page_of s k out ≡ (
      record { next = or_none count (k + taken f count k (length out)); end = length (text f count k (length out)) },
      text f count k (length out) ++ drop (length (text f count k (length out))) out,
    )
    unfolding page_of page_in
    page_is = rw (ne_eqb k 0 (λ z. omega arith))

    next_is : (page_of s k out).0.next ≡ or_none count (k + taken f count k (length out))
    next_is = ap (λ (p : Page × List ℕ). p.0.next) page_is

    shown_is : shown s k out ≡ text f count k (length out)
    shown_is = rw page_is (take-append_seam (text f count k (length out)) _)

    size_is : length (page_of s k out).1 ≡ length out
    size_is =
        let t = text f count k (length out) in
        let fits = fitting_fits f k (suc count - k) (length out) in
        rw page_is (length-append t (drop (length t) out) ∙ omega (arith, fits, length-drop (length t) out))

    -- the last page has all lines that are left
    module _ (end : count < k + taken f count k (length out)) where
      next_last : (page_of s k out).0.next ≡ None
      next_last = next_is ∙ rw (lt-ltb count _ end)

      shown_last : shown s k out ≡ lines_of f k (suc count - k)
      shown_last =
          let all : taken f count k (length out) ≡ suc count - k = omega (arith, fitting_le f k (suc count - k) (length out)) in
          shown_is ∙ ap (lines_of f k) all

    -- another has those before the next
    module _ (on : k + taken f count k (length out) ≤ count) where
      next_more : (page_of s k out).0.next ≡ Some (k + taken f count k (length out))
      next_more = next_is ∙ rw (le-ltb count _ on)

      shown_more : {rest : List ℕ} {next : ℕ} → next ≡ k + taken f count k (length out) → rest ≡ lines_of f next (suc count - next)
          → shown s k out ++ rest ≡ lines_of f k (suc count - k)
      shown_more {rest} {next} n e =
          let m = taken f count k (length out) in
          let split : suc count - k ≡ m + (suc count - (k + m)) = omega arith in
          rw (shown_is, e, n) (sym (ap (lines_of f k) split ∙ lines_append f k m (suc count - (k + m))))

    -- a buffer of 88 bytes takes a line
    some : k ≤ count → 88 ≤ length out → 0 < taken f count k (length out)
    some h room =
        let left : suc count - k ≡ suc (count - k) = omega arith in
        rw (left, fitting_here f k (count - k) (length out) (omega (arith, (printed_short s).short k low h))) (omega arith)

  -- ---- whoever goes on to the end, with any buffer, has all lines

  rest_is : {k : ℕ} {out all : List ℕ} → Pages s out k all → 0 < k → all ≡ lines_of f k (suc count - k)
  rest_is {k} {out} {all} (last e is) low =
      on_less count (k + taken f count k (length out))
      (λ l _. is ∙ shown_last k out low l)
      (λ l _. none_more (sym e ∙ next_more k out low l))
  rest_is {k} {out} {all} (more rest next e p is) low =
      go (rest_is p)
    where
      go : (0 < next → rest ≡ lines_of f next (suc count - next)) → all ≡ lines_of f k (suc count - k)
      go below =
          on_less count (k + taken f count k (length out))
          (λ l _. none_more (sym (next_last k out low l) ∙ e))
          (λ l _.
          let n = same_next (sym e ∙ next_more k out low l) in
          is ∙ shown_more k out low l n (below (omega (arith, n))))

  whole : printed s ≡ lines_of f 1 count
  unfolding printed
  whole = text_lines (output_of s)

  pub pages_only : {out all : List ℕ} → Pages s out 1 all → all ≡ printed s
  pages_only p =
      let n : suc count - 1 ≡ count = omega arith in
      rest_is p (omega arith) ∙ ap (lines_of f 1) n ∙ sym whole

  -- ---- and with a buffer of 88 bytes it ends

  ends : (calls k : ℕ) (out : List ℕ) → 0 < k → suc count ≤ k + calls → 88 ≤ length out → Pages s out k (lines_of f k (suc count - k))
  ends zero k out low h room =
      let end : count < k + taken f count k (length out) = omega arith in
      last (next_last k out low end) (sym (shown_last k out low end))
  ends (suc calls) k out low h room =
      go (ends calls (k + taken f count k (length out)) (page_of s k out).1)
    where
      next : ℕ
      next = k + taken f count k (length out)

      go : (0 < next → suc count ≤ next + calls → 88 ≤ length (page_of s k out).1
          → Pages s (page_of s k out).1 next (lines_of f next (suc count - next)))
          → Pages s out k (lines_of f k (suc count - k))
      go below =
          on_less count next
          (λ l _. last (next_last k out low l) (sym (shown_last k out low l)))
          (λ l _.
          let moved = some k out low (omega arith) room in
          more _ next (next_more k out low l) (below (omega arith) (omega (arith, moved)) (omega (arith, size_is k out low)))
          (sym (shown_more k out low l refl refl)))

  pub pages_whole : (out : List ℕ) → 88 ≤ length out → Pages s out 1 (printed s)
  pages_whole out room =
      let n : suc count - 1 ≡ count = omega arith in
      rw (whole, ← n) (ends count 1 out (omega arith) (omega arith) room)

-- ---- for a caller: every page ends in the buffer, and the next one begins at a later line

-- how many lines there can be from line k on
abbrev pub left : ℕ → ℕ
left k = suc most_entries - k

module _ (s : List ℕ) (k : ℕ) (before after : List ℕ) (p : Page) (e : (p, after) ≡ page_of s k before) where
  zero_is : k ≡ 0 → p ≡ record { next = None; end = 0 }
  unfolding page_of page_in
  zero_is z =
      let none : page_of s k before ≡ (record { next = None; end = 0 }, before) = rw (eq-eqb k 0 z) in
      ap (λ (x : Page × List ℕ). x.0) (e ∙ none)

  pub page_end : p.end ≤ length before
  page_end = go (ℕ_discrete k 0)
    where
      go : Dec (k ≡ 0) → p.end ≤ length before
      go (yes z) = rw (zero_is z) (omega arith)
      go (no z) =
          let ends = ap (λ (x : Page × List ℕ). x.0.end) (e ∙ page_is s k before (omega (arith, z))) in
          omega (arith, ends, fitting_fits (line_in (output_of s)) k (suc (lines_in (output_of s)) - k) (length before))

  pub page_on : 88 ≤ length before → (next : ℕ) → p.next ≡ Some next → left next < left k
  page_on room next is = go (ℕ_discrete k 0)
    where
      go : Dec (k ≡ 0) → left next < left k
      go (yes z) = none_more (sym (ap (λ (x : Page). x.next) (zero_is z)) ∙ is)
      go (no z) =
          let low : 0 < k = omega (arith, z) in
          let n = ap (λ (x : Page × List ℕ). x.0.next) e in
          on_less (lines_in (output_of s)) (k + taken (line_in (output_of s)) (lines_in (output_of s)) k (length before))
          (λ l _. none_more (sym (n ∙ next_last s k before low l) ∙ is))
          (λ l _.
          let on = same_next (sym is ∙ n ∙ next_more s k before low l) in
          omega (arith, on, some s k before low (omega arith) room, (printed_short s).few))
