-- Request (ii): what mix to serial and serial to mix answer where kinds are withdrawn is what they answer for the edition without them. All kinds
-- withdrawn leave no edition; their one composition has serial 1 (walsh proofs/Withdrawn `order_none`).
use mathlib.Core.Path.{◌≡◌, sym, ap, ◌∙◌}
use mathlib.Core.List.{List}
use Prim.Native.Nat.{ℕ, ◌≤◌, ◌<◌}
use native.Mathlib.Omega.{arith}
use lib.ListN.{length}
use Rattle.walsh.specs.Order.{Composition, count_of}
use Rattle.walsh.specs.Serial.{composition_of}
use Rattle.walsh.specs.Withdrawn.{without, kept, spread}
use Rattle.walsh.proofs.Withdrawn.{count_kept, composition_spread, without_composition, serial_without}
use Rattle.bounds.specs.Refusal.{refused}
use Rattle.bounds.specs.Edition.{edition_checks}
use Rattle.bounds.proofs.Chains.{Accepts}
use Rattle.bounds.proofs.Editions.{edition_shapely}
use Rattle.bounds.proofs.Withdrawn.{accepted_kept}
use Rattle.rank.specs.Rank.{Answer, rank_answer}
use Rattle.rank.specs.Unrank.{unrank_call}
use Rattle.rank.proofs.RoundTrips.{rank_accepts, unrank_accepts}

module _ (ms : List ℕ) (r : ℕ) (accepted : Accepts (edition_checks ms r)) (some : 0 < length (kept ms)) where
  shorter : Accepts (edition_checks (kept ms) r)
  shorter = (accepted_kept ms r some (edition_shapely ms r accepted).few).0 accepted

  pub rank_withdrawn : (g : List ℕ) → Composition ms r g → rank_answer ms r g ≡ rank_answer (kept ms) r (without ms g)
  rank_withdrawn g comp =
      rank_accepts ms r g accepted comp
      ∙ ap found (serial_without ms r g comp)
      ∙ sym (rank_accepts (kept ms) r (without ms g) shorter (without_composition ms r g comp))
    where
      found : ℕ → Answer
      found s = record { number = 0; detail = 0; serial = s }

  -- out and out' are lent parts of the right lengths
  pub unrank_withdrawn : (s : ℕ) (out out' : List ℕ) → 0 < s → s ≤ count_of ms r → length out ≡ length ms → length out' ≡ length (kept ms)
      → unrank_call ms r s out ≡ (refused 0 0, spread ms (unrank_call (kept ms) r s out').1)
  unrank_withdrawn s out out' l h n n' =
      let there : unrank_call (kept ms) r s out' ≡ (refused 0 0, composition_of (kept ms) r s) =
      unrank_accepts (kept ms) r s out' shorter l (omega (arith, count_kept ms r)) n' in
      unrank_accepts ms r s out accepted l h n
      ∙ ap (λ (g : List ℕ). (refused 0 0, g)) (composition_spread ms r s l h)
      ∙ rw there
