-- Rank and unrank undo each other, for every input that is not refused. The answers are those that the contracts of the two calls name.
use mathlib.Core.Path.{◌≡◌, refl, ap, ◌∙◌}
use mathlib.Core.List.{List, ◌++◌}
use Prim.Native.Nat.{ℕ, ◌≤◌, ◌<◌}
use lib.ListN.{length}
use Rattle.walsh.specs.Order.{Composition, count_of}
use Rattle.walsh.specs.Serial.{serial_of, composition_of}
use Rattle.walsh.proofs.Serials.{composition_is, serial_pos, serial_le, composition_serial, serial_composition}
use Rattle.bounds.specs.Refusal.{refused, first_refusal}
use Rattle.bounds.specs.Edition.{edition_checks}
use Rattle.bounds.specs.Places.{composition_checks, serial_checks, lent_checks, filling}
use Rattle.bounds.proofs.Refusals.{refusal_later, is_accepted, same_number}
use Rattle.bounds.proofs.Chains.{Accepts, accepts_split}
use Rattle.bounds.proofs.Compositions.{composition_passed, composition_passes}
use Rattle.bounds.proofs.Places.{serial_passed, serial_passes, lent_passed, lent_passes}
use Rattle.rank.specs.Rank.{Answer, rank_checks, rank_answer}
use Rattle.rank.specs.Unrank.{unrank_call}

module _ (ms : List ℕ) (r : ℕ) where
  -- ---- which calls are accepted, and what they answer

  pub rank_accepted : (g : List ℕ) → (rank_answer ms r g).number ≡ 0
      → Accepts (edition_checks ms r) × Composition ms r g × ((rank_answer ms r g).serial ≡ serial_of ms r g)
  unfolding rank_answer
  rank_accepted g e =
      let p = is_accepted (first_refusal (rank_checks ms r g)) _ _ (λ (x : Answer). x.number) (λ (x : Answer). x.detail) refl refl refl _ refl e in
      let q = accepts_split (edition_checks ms r) (composition_checks ms r g) refl p.0 in
      (q.0, composition_passed ms r g q.1, ap (λ (x : Answer). x.serial) p.1)

  pub rank_accepts : (g : List ℕ) → Accepts (edition_checks ms r) → Composition ms r g
      → rank_answer ms r g ≡ record { number = 0; detail = 0; serial = serial_of ms r g }
  unfolding rank_answer
  rank_accepts g accepted comp = rw (refusal_later (edition_checks ms r) (composition_checks ms r g) refl accepted, composition_passes ms r g comp)

  pub unrank_accepted : (s : ℕ) (out : List ℕ) → (unrank_call ms r s out).0.number ≡ 0
      → Accepts (edition_checks ms r) × (0 < s) × (s ≤ count_of ms r) × (length out ≡ length ms) × ((unrank_call ms r s out).1 ≡ composition_of ms r s)
  unfolding unrank_call filling
  unrank_accepted s out e =
      let p = accepts_split (edition_checks ms r) (serial_checks ms r s ++ lent_checks (length ms) (length out)) refl e in
      let q = accepts_split (serial_checks ms r s) (lent_checks (length ms) (length out)) refl p.1 in
      let inside = serial_passed ms r s q.0 in
      (p.0, inside.0, inside.1, lent_passed (length ms) (length out) q.1, rw e)

  pub unrank_accepts : (s : ℕ) (out : List ℕ) → Accepts (edition_checks ms r) → 0 < s → s ≤ count_of ms r → length out ≡ length ms
      → unrank_call ms r s out ≡ (refused 0 0, composition_of ms r s)
  unfolding unrank_call filling
  unrank_accepts s out accepted l h n =
      rw (
        refusal_later (edition_checks ms r) (serial_checks ms r s ++ lent_checks (length ms) (length out)) refl accepted,
        refusal_later (serial_checks ms r s) (lent_checks (length ms) (length out)) refl (same_number (serial_passes ms r s l h)),
        lent_passes (length ms) (length out) n,
      )

  -- ---- the round trips

  -- the serial of an accepted composition is never refused with a part of n bytes, and gives the composition back
  pub unrank_rank : (g out : List ℕ) → (rank_answer ms r g).number ≡ 0 → length out ≡ length ms
      → unrank_call ms r (rank_answer ms r g).serial out ≡ (refused 0 0, g)
  unrank_rank g out e n =
      let k = rank_accepted g e in
      ap (λ (s : ℕ). unrank_call ms r s out) k.2
      ∙ unrank_accepts (serial_of ms r g) out k.0 (serial_pos ms r g k.1) (serial_le ms r g k.1) n
      ∙ ap (λ (l : List ℕ). (refused 0 0, l)) (composition_serial ms r g k.1)

  -- the composition of an accepted serial is never refused, and gives the serial back
  pub rank_unrank : (s : ℕ) (out : List ℕ) → (unrank_call ms r s out).0.number ≡ 0
      → rank_answer ms r (unrank_call ms r s out).1 ≡ record { number = 0; detail = 0; serial = s }
  rank_unrank s out e =
      let k = unrank_accepted s out e in
      let g : List ℕ = composition_of ms r s in
      ap (rank_answer ms r) k.4 ∙ rank_accepts g k.0 (composition_is ms r s k.1 k.2) ∙ ap found (serial_composition ms r s k.1 k.2)
    where
      found : ℕ → Answer
      found n = record { number = 0; detail = 0; serial = n }
