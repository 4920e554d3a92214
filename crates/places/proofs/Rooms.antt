-- Whether a lent part has as many bytes as c parts of n.
use mathlib.Core.Path.{◌≡◌, refl, sym, ap, ◌∙◌}
use mathlib.Core.Bool.{false, true≢false}
use Prim.Native.Nat.{ℕ, ◌*◌, ◌/◌, ◌%◌, ◌<◌}
use native.Mathlib.Nat.{mul-mod_left, mul-div_left, div-add-mod'}
use native.Mathlib.Omega.{arith}
use lib.Dec.{eqb}
use borrow.Author.Tests.{eqb-true, eq-eqb, ne_eqb}
use Rattle.walsh.proofs.Cases.{on_test}

-- `have` bytes are c parts of n
module _ (have n c : ℕ) (some : 0 < n) where
  pub room_rest : (have % n ≡ 0 → ⊥) → false ≡ eqb have (c * n)
  room_rest h = sym (ne_eqb have (c * n) (λ e. h (rw e (mul-mod_left c n))))

  pub room_parts : have % n ≡ 0 → eqb (have / n) c ≡ eqb have (c * n)
  room_parts z =
      let whole : have / n * n ≡ have = omega (arith, div-add-mod' have n) in
      on_test (eqb (have / n) c)
      (λ t. let e = eqb-true (have / n) c t in t ∙ sym (eq-eqb have (c * n) (sym whole ∙ ap (λ (q : ℕ). q * n) e)))
      (λ t. t ∙ sym (ne_eqb have (c * n) (λ e. true≢false (rw (e, mul-div_left c some, eq-eqb c c refl) at t))))
