-- A ceiling over 255 is held as 255: neither the refusal nor any line is changed by that.
use mathlib.Core.Path.{◌≡◌, refl, sym, ap, ◌∙◌}
use mathlib.Core.Bool.{true, false≢true}
use mathlib.Core.List.{List, [], ◌∷◌, map}
use Prim.Native.Nat.{ℕ, ◌+◌, ◌<◌}
use native.Mathlib.Decide.{ℕ_discrete}
use native.Mathlib.Omega.{arith}
use lib.ListN.{length-map}
use borrow.Author.Tests.{lt-ltb, ne_eqb}
use Rattle.walsh.proofs.Cases.{on_test, on_less}
use Rattle.bounds.specs.Refusal.{first_refusal}
use Rattle.bounds.specs.Edition.{outside, first_outside, edition_checks}
use Rattle.bounds.proofs.Chains.{accepts_split}
use Rattle.bounds.proofs.Editions.{edition_shapely}
use Rattle.request.specs.Request.{held}
use Rattle.lines.specs.Printed.{list_checks, listed}

over : (m : ℕ) → 60 < m → outside m ≡ true
over m h = lt-ltb 60 m h

outside_held : (m : ℕ) → outside (held m) ≡ outside m
outside_held m =
    on_less 255 m
    (λ l _. let e : held m ≡ 255 = omega arith in ap outside e ∙ sym (over m (omega arith)))
    (λ l _. let e : held m ≡ m = omega arith in ap outside e)

first_held : (ms : List ℕ) (i : ℕ) → first_outside (map held ms) i ≡ first_outside ms i
unfolding first_outside
first_held [] i = refl
first_held (m ∷ ms) i = rw (outside_held m, first_held ms (i + 1))

-- no ceiling over 60: nothing is lost
same_held : (ms : List ℕ) (i : ℕ) → first_outside ms i ≡ 0 → map held ms ≡ ms
unfolding first_outside
same_held [] i e = refl
same_held (m ∷ ms) i e =
    on_test (outside m)
    (λ t. let z : i + 1 ≡ 0 = rw t at e in absurd (omega arith))
    (λ t.
    let h : held m ≡ m = on_less 60 m (λ l _. absurd (false≢true (sym t ∙ over m l))) (λ l _. omega arith) in
    rw (h, same_held ms (i + 1) (rw t at e)))

module _ (ms : List ℕ) (r : ℕ) where
  first_same : (first_outside ms 0 ≡ 0 → ⊥) → first_refusal (list_checks (map held ms) r) ≡ first_refusal (list_checks ms r)
  unfolding first_refusal
  first_same ne = rw (length-map ms held, first_held ms 0, lt-ltb 0 (first_outside ms 0) (omega (arith, ne)))

  refused : (first_outside ms 0 ≡ 0 → ⊥) → (first_refusal (list_checks ms r)).number ≡ 0 → ⊥
  refused ne e = ne (edition_shapely ms r (accepts_split (edition_checks ms r) _ refl e).0).inside

  pub held_listed : listed (map held ms) r ≡ listed ms r
  unfolding listed
  held_listed = go (ℕ_discrete (first_outside ms 0) 0)
    where
      go : Dec (first_outside ms 0 ≡ 0) → listed (map held ms) r ≡ listed ms r
      go (yes e) = ap (λ (l : List ℕ). listed l r) (same_held ms 0 e)
      go (no ne) = rw (first_same ne, ne_eqb (first_refusal (list_checks ms r)).number 0 (refused ne))
