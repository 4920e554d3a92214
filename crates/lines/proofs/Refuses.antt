-- The page of a refusal.
use mathlib.Core.Path.{◌≡◌}
use mathlib.Core.List.{List, [], ◌∷◌}
use Rattle.std.specs.Prelude.{Some, None}
use Prim.Native.Nat.{ℕ, ◌+◌, ◌≤◌, ◌<◌}
use native.Mathlib.Decide.{ℕ_discrete}
use native.Mathlib.Omega.{arith}
use lib.ListN.{length, length-append}
use Rattle.request.specs.Text.{decimal, line_end, line, refusal_line}
use Rattle.lines.specs.Append.{Appended}
use Rattle.lines.specs.Lines.{lines_of, fitting}
use Rattle.lines.specs.Printed.{refusal}
use Rattle.lines.specs.Page.{line_in, page_in}
use Rattle.lines.specs.declared.Page.{Page}
use Rattle.lines.proofs.Appends.{nothing, joined}
use Rattle.lines.proofs.Fitting.{lines_one, fitting_here, fitting_none}
use Rattle.lines.proofs.Paged.{page_put, page_zero, page_past}

-- "`refused`, a space"
abbrev pub word : List ℕ
word = 114 ∷ 101 ∷ 102 ∷ 117 ∷ 115 ∷ 101 ∷ 100 ∷ 32 ∷ []

module _ (n : ℕ) where
  pub length_refusal : length (refusal_line n) ≡ 9 + length (decimal n)
  unfolding refusal_line line line_end
  length_refusal = omega (arith, length-append (decimal n) (10 ∷ []))

  -- another line than the first
  pub refuse_other : (k : ℕ) (p : Page) (out : List ℕ) → p ≡ record { next = None; end = 0 } → (k ≡ 1 → ⊥) → (p, out) ≡ page_in (refusal n) k out
  unfolding page_in
  refuse_other k p out e ne = go (ℕ_discrete k 0)
    where
      go : Dec (k ≡ 0) → (p, out) ≡ page_in (refusal n) k out
      go (yes z) = page_zero (line_in (refusal n)) 1 k p out e z
      go (no z) = page_past (line_in (refusal n)) 1 k p out e (omega (arith, ne, z))

  module _ (k : ℕ) (first : k ≡ 1) where
    pub refuse_none : (out : List ℕ) → length out < 9 + length (decimal n) → (record { next = Some 1; end = 0 }, out) ≡ page_in (refusal n) k out
    unfolding page_in lines_of
    refuse_none out h =
        let none : fitting (line_in (refusal n)) 1 1 (length out) ≡ 0 =
        fitting_none (line_in (refusal n)) 1 1 (length out) (omega (arith, length_refusal)) in
        rw first (page_put (line_in (refusal n)) 1 1 _ out out (omega arith) (rw none) (rw none (nothing out 0)))

    pub refuse_put : {a b c d : List ℕ} {m e : ℕ} → Appended a b 0 m word → Appended b c m e (decimal n) → Appended c d e (e + 1) (10 ∷ [])
        → 9 + length (decimal n) ≤ length a → (record { next = None; end = e + 1 }, d) ≡ page_in (refusal n) k a
    unfolding page_in fitting refusal_line line line_end
    refuse_put {a} {b} {c} {d} {m} {e} p q r h =
        let all : fitting (line_in (refusal n)) 1 1 (length a) ≡ 1 =
        fitting_here (line_in (refusal n)) 1 0 (length a) (omega (arith, length_refusal)) in
        rw first
        (page_put (line_in (refusal n)) 1 1 _ a d (omega arith) (rw all) (rw (all, lines_one (line_in (refusal n)) 1) (joined p (joined q r))))
