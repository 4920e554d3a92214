-- Document 01, "Sheet orders": "Neighbouring serials give sheet orders that differ by two swaps of separate pairs or by one turn of three
-- sheets."
use mathlib.Core.Path.{◌≡◌, refl, sym, subst, ◌∙◌}
use mathlib.Core.Bool.{true}
use mathlib.Core.List.{List, []}
use Prim.Native.Nat.{ℕ, suc, ◌+◌, ◌-◌, ◌≤◌, ◌<◌}
use native.Mathlib.Omega.{arith}
use lib.ListN.{length, get_or}
use Rattle.walsh.specs.Order.{Composition, order, count_of}
use Rattle.walsh.specs.Serial.{composition_of}
use Rattle.walsh.proofs.Complete.{complete, order_length}
use Rattle.walsh.proofs.Gray.{gray}
use Rattle.mahonian.specs.Staircase.{staircase, is_staircase}
use Rattle.permutation.specs.Permutation.{permutation_of}
use Rattle.permutation.specs.Exchange.{Near}
use Rattle.permutation.proofs.Vectors.{is_staircase_lem, composition_under}
use Rattle.permutation.proofs.Raised.{near_permutations}

-- the entries t and t + 1 of the order under staircase bounds
pub neighbouring_entries : (ms : List ℕ) → is_staircase ms ≡ true → (r t : ℕ) → suc t < length (order ms r)
    → Near (permutation_of (get_or (order ms r) t [])) (permutation_of (get_or (order ms r) (suc t) []))
neighbouring_entries ms stairs r t h =
    let g = get_or (order ms r) t [] in
    let g' = get_or (order ms r) (suc t) [] in
    let comp : Composition ms r g = (complete ms r g).1 (t, omega arith, refl) in
    let comp' : Composition ms r g' = (complete ms r g').1 (suc t, h, refl) in
    let step = gray ms r t h in
    let same : length g ≡ length g' = comp.size ∙ sym comp'.size in
    near_permutations g g' step.0 step.1 same step.4 (composition_under ms stairs comp) (composition_under ms stairs comp')

-- the permutation of 1..k at serial s of the total r
abbrev pub permutation_at : ℕ → ℕ → ℕ → List ℕ
permutation_at k r s = permutation_of (composition_of (staircase k) r s)

pub neighbouring_serials : (k r s : ℕ) → 1 ≤ s → s < count_of (staircase k) r → Near (permutation_at k r s) (permutation_at k r (s + 1))
unfolding composition_of count_of
neighbouring_serials k r s low high =
    let ms : List ℕ = staircase k in
    let next : suc (s - 1) ≡ s + 1 - 1 = omega arith in
    subst
    (λ (t : ℕ). Near (permutation_of (get_or (order ms r) (s - 1) [])) (permutation_of (get_or (order ms r) t [])))
    next
    (neighbouring_entries ms (is_staircase_lem k) r (s - 1) (omega (arith, order_length ms r)))
