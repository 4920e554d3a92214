-- Two lists of cells, compared.
use mathlib.Core.Path.{◌≡◌, refl, sym, ap, ◌∙◌}
use mathlib.Core.Bool.{Bool, true, false, ◌&&◌}
use mathlib.Core.List.{List, [], ◌∷◌, ◌++◌}
use Prim.Native.Nat.{ℕ, ◌-◌, ◌≤◌}
use native.Mathlib.Omega.{arith}
use lib.Dec.{eqb}
use lib.ListN.{length, take, drop, take-append-drop, length-drop, replicate}
use lib.Seq.{length-take-le}
use borrow.Author.Tests.{eq-eqb}
use Rattle.std.specs.List.{list_all}
use Rattle.std.specs.Cmp.Lexicographic.{pointwise}
use Rattle.walsh.specs.Serial.{same}
use Rattle.walsh.specs.Tests.{both}
use Rattle.bounds.specs.Edition.{cells_of}

and_both : (a b : Bool) → (a && b) ≡ both a b
and_both true b = refl
and_both false b = refl

-- what `==` tests
pub same_pointwise : (a b : List ℕ) → pointwise eqb a b ≡ same a b
unfolding same
same_pointwise [] [] = refl
same_pointwise [] (y ∷ b) = refl
same_pointwise (x ∷ a) [] = refl
same_pointwise (x ∷ a) (y ∷ b) = and_both (eqb x y) (pointwise eqb a b) ∙ ap (both (eqb x y)) (same_pointwise a b)

same_front : (l x y : List ℕ) → same (l ++ x) (l ++ y) ≡ same x y
unfolding same
same_front [] x y = refl
same_front (z ∷ l) x y = rw (eq-eqb z z refl) (same_front l x y)

same_zeros : (l : List ℕ) → list_all (λ x. eqb x 0) l ≡ same l (replicate (length l) 0)
unfolding same
same_zeros [] = refl
same_zeros (x ∷ l) = and_both (eqb x 0) (list_all (λ x. eqb x 0) l) ∙ ap (both (eqb x 0)) (same_zeros l)

-- the cells past n are 0
pub spare_zeros : (u : List ℕ) (n : ℕ) → length u ≡ 24 → n ≤ 24
    → list_all (λ x. eqb x 0) (drop n u) ≡ same u (cells_of (take n u))
unfolding cells_of
spare_zeros u n e h =
    let long = length-take-le n u (omega arith) in
    let spare : 24 - length (take n u) ≡ length (drop n u) = omega (arith, long, length-drop n u) in
    same_zeros (drop n u) ∙ sym (same_front (take n u) (drop n u) (replicate (length (drop n u)) 0))
    ∙ ap (λ (v : List ℕ). same v (take n u ++ replicate (length (drop n u)) 0)) (take-append-drop n u)
    ∙ ap (λ (k : ℕ). same u (take n u ++ replicate k 0)) (sym spare)
