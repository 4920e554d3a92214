-- Laws of the place 'mix given' (specs/Places.antt): it refuses nothing exactly if a composition is given.
use mathlib.Core.Path.{◌≡◌, refl, sym, ap, ◌∙◌}
use mathlib.Core.Bool.{true, false, not}
use mathlib.Core.List.{List}
use Prim.Native.Nat.{ℕ}
use lib.Dec.{eqb}
use lib.ListN.{length, get_or}
use borrow.Author.Tests.{eqb-true, leb-true, le-leb, eq-eqb, not-false}
use Rattle.walsh.specs.Sums.{sum_to}
use Rattle.walsh.specs.Tests.{every}
use Rattle.walsh.specs.Order.{Composition}
use Rattle.walsh.proofs.Tests.{every_at, every_all}
use Rattle.bounds.specs.Refusal.{refused, first_refusal}
use Rattle.bounds.specs.Edition.{whole}
use Rattle.bounds.specs.Places.{is_within, is_other, composition_checks}
use Rattle.bounds.proofs.Refusals.{passed}
use Rattle.bounds.proofs.Editions.{neither}

-- ---- 'mix given' refuses nothing exactly if g is a composition

module _ (ms : List ℕ) (r : ℕ) (g : List ℕ) where
  other_not : length g ≡ length ms → is_other ms r g ≡ false → Composition ms r g
  other_not size e =
      let n = neither (not (every (is_within ms g) (length ms))) (not (eqb (whole g) r)) e in
      let within : every (is_within ms g) (length ms) ≡ true = not-false _ n.0 in
      record {
        size = size;
        parts =
            record {
              fits = λ i l. leb-true (get_or g i 0) (get_or ms i 0) (every_at (is_within ms g) (length ms) within i l);
              sums = ap (sum_to g) (sym size) ∙ eqb-true (whole g) r (not-false _ n.1);
            };
      }

  pub composition_passed : (first_refusal (composition_checks ms r g)).number ≡ 0 → Composition ms r g
  composition_passed e =
      let p7 = passed _ _ refl e in
      let p8 = passed _ _ refl p7.2 in
      other_not (eqb-true (length g) (length ms) (not-false _ p7.0)) p8.0

  pub composition_passes : Composition ms r g → first_refusal (composition_checks ms r g) ≡ refused 0 0
  unfolding first_refusal
  composition_passes comp =
      let sums : whole g ≡ r = ap (sum_to g) comp.size ∙ comp.parts.sums in
      rw (
        eq-eqb (length g) (length ms) comp.size,
        every_all (is_within ms g) (length ms) (λ i l. le-leb (get_or g i 0) (get_or ms i 0) (comp.parts.fits i l)),
        eq-eqb (whole g) r sums,
      )
