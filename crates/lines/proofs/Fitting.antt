-- Laws of lines one behind the other, and of how many fit.
use mathlib.Core.Path.{◌≡◌, refl, sym}
use mathlib.Core.List.{List, ◌++◌, append_assoc, append-nil}
use Prim.Native.Nat.{ℕ, zero, suc, ◌+◌, ◌-◌, ◌≤◌, ◌<◌}
use native.Mathlib.Nat.{zero-add, add-zero, add-suc, suc-add, not-suc-le-zero, le_of_suc-le-suc}
use native.Mathlib.Omega.{arith}
use lib.Dec.{leb}
use lib.ListN.{length, length-append}
use borrow.Author.Tests.{le-leb, lt-leb, leb-true, leb-false}
use Rattle.walsh.proofs.Cases.{on_test}
use Rattle.lines.specs.Lines.{lines_of, fitting}

module _ (line_of : ℕ → List ℕ) where
  pub lines_append : (k m n : ℕ) → lines_of line_of k (m + n) ≡ lines_of line_of k m ++ lines_of line_of (k + m) n
  unfolding lines_of
  lines_append k zero n = rw (zero-add n, add-zero k)
  lines_append k (suc m) n =
      rw (suc-add m n, add-suc k m, lines_append (suc k) m n, suc-add k m)
      (sym (append_assoc (line_of k) (lines_of line_of (suc k) m) (lines_of line_of (suc (k + m)) n)))

  pub lines_one : (k : ℕ) → lines_of line_of k 1 ≡ line_of k
  unfolding lines_of
  lines_one k = append-nil (line_of k)

  pub lines_snoc : (k n : ℕ) → lines_of line_of k n ++ line_of (k + n) ≡ lines_of line_of k (n + 1)
  lines_snoc k n = rw (lines_append k n 1, lines_one (k + n))

  -- ---- how many fit

  pub fitting_here : (k n room : ℕ) → length (line_of k) ≤ room
      → fitting line_of k (suc n) room ≡ suc (fitting line_of (suc k) n (room - length (line_of k)))
  unfolding fitting
  fitting_here k n room h = rw (le-leb (length (line_of k)) room h)

  pub fitting_none : (k n room : ℕ) → room < length (line_of k) → fitting line_of k n room ≡ 0
  unfolding fitting
  fitting_none k zero room h = refl
  fitting_none k (suc n) room h = rw (lt-leb (length (line_of k)) room h)

  pub fitting_le : (k n room : ℕ) → fitting line_of k n room ≤ n
  unfolding fitting
  fitting_le k zero room = omega arith
  fitting_le k (suc n) room =
      on_test (leb (length (line_of k)) room)
      (λ t. rw t (omega (arith, fitting_le (suc k) n (room - length (line_of k)))))
      (λ t. rw t (omega arith))

  -- the lines have room
  pub fitting_fits : (k n room : ℕ) → length (lines_of line_of k (fitting line_of k n room)) ≤ room
  unfolding fitting lines_of
  fitting_fits k zero room = omega arith
  fitting_fits k (suc n) room =
      let here = length (line_of k) in
      let rest = lines_of line_of (suc k) (fitting line_of (suc k) n (room - here)) in
      on_test (leb here room)
      (λ t. rw t (omega (arith, leb-true here room t, fitting_fits (suc k) n (room - here), length-append (line_of k) rest)))
      (λ t. rw t (omega arith))

  -- and no more lines would
  pub fitting_most : (k n m room : ℕ) → m ≤ n → length (lines_of line_of k m) ≤ room → m ≤ fitting line_of k n room
  unfolding fitting lines_of
  fitting_most k n zero room l h = omega arith
  fitting_most k zero (suc m) room l h = absurd (not-suc-le-zero l)
  fitting_most k (suc n) (suc m) room l h =
      let size = length-append (line_of k) (lines_of line_of (suc k) m) in
      on_test (leb (length (line_of k)) room)
      (λ t. rw t (omega (arith, fitting_most (suc k) n m (room - length (line_of k)) (le_of_suc-le-suc l) (omega (arith, size)))))
      (λ t. absurd (omega (arith, size, leb-false (length (line_of k)) room t)))
