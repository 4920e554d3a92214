-- Document 02, (ii): an edition of at most 24 kinds of which some are left is accepted exactly if the one without the withdrawn kinds is. Where none is
-- left, it is accepted with total 0.
use mathlib.Core.Path.{◌≡◌, refl}
use mathlib.Core.Logic.{◌↔◌}
use mathlib.Core.List.{List, [], ◌∷◌}
use Prim.Native.Nat.{ℕ, zero, suc, ◌+◌, ◌≤◌, ◌<◌}
use native.Mathlib.Omega.{arith}
use lib.ListN.{length, replicate, length-replicate}
use borrow.Author.Tests.{ne_eqb, le-ltb}
use Rattle.walsh.specs.Withdrawn.{kept}
use Rattle.walsh.proofs.Cases.{on_test}
use Rattle.walsh.proofs.Withdrawn.{sum_kept, kept_few, count_kept, count_zeros}
use Rattle.bounds.specs.Refusal.{first_refusal}
use Rattle.bounds.specs.Edition.{whole, outside, first_outside, shape_checks, limit_checks, edition_checks}
use Rattle.bounds.proofs.Chains.{Accepts, accepts_split, accepts_join}
use Rattle.bounds.proofs.Editions.{Shapely, shapely}

-- no bound over 60 among those left, and among all
inside_kept : (ms : List ℕ) (i j : ℕ) → first_outside ms i ≡ 0 → first_outside (kept ms) j ≡ 0
unfolding first_outside
inside_kept [] i j e = refl
inside_kept (zero ∷ ms) i j e = inside_kept ms (i + 1) j e
inside_kept (suc m ∷ ms) i j e =
    on_test (outside (suc m))
    (λ t. let z : i + 1 ≡ 0 = rw t at e in absurd (omega arith))
    (λ t. rw t (inside_kept ms (i + 1) (j + 1) (rw t at e)))

inside_all : (ms : List ℕ) (i j : ℕ) → first_outside (kept ms) j ≡ 0 → first_outside ms i ≡ 0
unfolding first_outside
inside_all [] i j e = refl
inside_all (zero ∷ ms) i j e = inside_all ms (i + 1) j e
inside_all (suc m ∷ ms) i j e =
    on_test (outside (suc m))
    (λ t. let z : j + 1 ≡ 0 = rw t at e in absurd (omega arith))
    (λ t. rw t (inside_all ms (i + 1) (j + 1) (rw t at e)))

-- what the checks 1 to 4 ask is enough for them
shape_accepts : (ms : List ℕ) (r : ℕ) → Shapely ms r → Accepts (shape_checks ms r)
unfolding first_refusal
shape_accepts ms r s =
    rw
    (ne_eqb (length ms) 0 (omega (arith, s.some)), le-ltb 24 (length ms) s.few, s.inside, le-ltb 255 r s.small, le-ltb (whole ms) r s.reached)
    refl

module _ (ms : List ℕ) (r : ℕ) where
  limit_kept : limit_checks ms r ≡ limit_checks (kept ms) r
  limit_kept = rw (count_kept ms r)

  shapely_kept : 0 < length (kept ms) → Shapely ms r → Shapely (kept ms) r
  shapely_kept some s =
      record {
        some = some;
        few = omega (arith, kept_few ms, s.few);
        inside = inside_kept ms 0 0 s.inside;
        small = s.small;
        reached = rw (sum_kept ms) s.reached;
      }

  shapely_all : length ms ≤ 24 → Shapely (kept ms) r → Shapely ms r
  shapely_all few s =
      record {
        some = omega (arith, kept_few ms, s.some);
        few = few;
        inside = inside_all ms 0 0 s.inside;
        small = s.small;
        reached = rw (sum_kept ms) at s.reached;
      }

  pub accepted_kept : 0 < length (kept ms) → length ms ≤ 24 → Accepts (edition_checks ms r) ↔ Accepts (edition_checks (kept ms) r)
  accepted_kept some few = (
    λ e. let parts = accepts_split (shape_checks ms r) (limit_checks ms r) refl e in
        accepts_join (shape_checks (kept ms) r) (limit_checks (kept ms) r) refl
        (shape_accepts (kept ms) r (shapely_kept some (shapely ms r parts.0)))
        (rw limit_kept at parts.1),
    λ e. let parts = accepts_split (shape_checks (kept ms) r) (limit_checks (kept ms) r) refl e in
        accepts_join (shape_checks ms r) (limit_checks ms r) refl
        (shape_accepts ms r (shapely_all few (shapely (kept ms) r parts.0)))
        (rw limit_kept parts.1),
  )

-- ---- "Ceilings all 0 with total 0 have one mix."

inside_zeros : (n i : ℕ) → first_outside (replicate n 0) i ≡ 0
unfolding first_outside
inside_zeros zero i = refl
inside_zeros (suc n) i = inside_zeros n (i + 1)

pub accepted_zeros : (n : ℕ) → 0 < n → n ≤ 24 → Accepts (edition_checks (replicate n 0) 0)
unfolding first_refusal
accepted_zeros n some few =
    let size = length-replicate {A = ℕ} n 0 in
    let ms : List ℕ = replicate n 0 in
    accepts_join (shape_checks ms 0) (limit_checks ms 0) refl
    (shape_accepts ms 0
    (record { some = omega (arith, size); few = omega (arith, size); inside = inside_zeros n 0; small = omega arith; reached = omega arith }))
    (rw (count_zeros n))
