-- The answer of a page, case by case.
use mathlib.Core.Path.{◌≡◌, sym}
use mathlib.Core.List.{List}
use Rattle.std.specs.Prelude.{None}
use Prim.Native.Nat.{ℕ, suc, ◌+◌, ◌-◌, ◌<◌}
use native.Mathlib.Nat.{add-zero}
use native.Mathlib.Omega.{arith}
use lib.ListN.{length}
use borrow.Author.Tests.{lt-ltb, eq-eqb, ne_eqb}
use Rattle.lines.specs.Append.{Appended}
use Rattle.lines.specs.Lines.{lines_of, fitting}
use Rattle.lines.specs.Page.{taken, text, or_none, page_from}
use Rattle.lines.specs.declared.Page.{Page}
use Rattle.lines.proofs.Appends.{nothing, whole}

module _ (line_of : ℕ → List ℕ) (count k : ℕ) where
  -- the lines of the page are put
  pub page_put : (p : Page) (before after : List ℕ) → 0 < k → p.next ≡ or_none count (k + taken line_of count k (length before))
      → Appended before after 0 p.end (text line_of count k (length before)) → (p, after) ≡ page_from line_of count k before
  page_put p before after low next put =
      let ends : p.end ≡ length (text line_of count k (length before)) = omega (arith, put.ends) in
      sym (rw (ne_eqb k 0 (λ z. omega arith), ← next, ← ends, ← whole put))

  -- there is no line 0, and none past the last
  pub page_zero : (p : Page) (out : List ℕ) → p ≡ record { next = None; end = 0 } → k ≡ 0 → (p, out) ≡ page_from line_of count k out
  page_zero p out e z = rw (e, eq-eqb k 0 z)

  pub page_past : (p : Page) (out : List ℕ) → p ≡ record { next = None; end = 0 } → count < k → (p, out) ≡ page_from line_of count k out
  unfolding fitting lines_of
  page_past p out e h =
      let none : suc count - k ≡ 0 = omega arith in
      page_put p out out (omega arith) (rw (e, none, add-zero k, lt-ltb count k h)) (rw (e, none) (nothing out 0))
