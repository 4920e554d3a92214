-- The answers of `rank`, `unrank` and `locate`, from what `serial_of` and `composition_of` answer.
use mathlib.Core.Path.{◌≡◌, refl, sym, ap, ◌∙◌}
use mathlib.Core.Bool.{not}
use mathlib.Core.List.{List, ◌++◌}
use Prim.Native.Nat.{ℕ, ◌≤◌, ◌<◌}
use Rattle.std.proofs.Common.{Ok, Err}
use native.Mathlib.Decide.{ℕ_discrete}
use native.Mathlib.Omega.{arith}
use lib.Dec.{eqb}
use lib.ListN.{length, take}
use borrow.Author.Tests.{eq-eqb, ne_eqb}
use Rattle.walsh.specs.Serial.{serial_of}
use Rattle.walsh.specs.Order.{count_of}
use Rattle.walsh.specs.Serial.{composition_of}
use Rattle.walsh.proofs.Serials.{composition_is}
use Rattle.walsh.proofs.Cases.{on_test}
use Rattle.bounds.specs.Refusal.{refused, first_refusal}
use Rattle.bounds.specs.Edition.{shape_checks, limit_checks, edition_checks, cells_of}
use Rattle.bounds.specs.Places.{is_other, composition_checks, serial_checks, lent_checks, copied}
use Rattle.bounds.specs.declared.Refusal.{Refusal}
use Rattle.bounds.proofs.Chains.{accepts_split, accepts_join}
use Rattle.bounds.proofs.Refusals.{refusal_first, refusal_later, same_number}
use Rattle.bounds.proofs.Reasons.{coded-number, coded-refuses, accepted as none_refused}
use Rattle.bounds.specs.Reason.{coded}
use Rattle.bounds.specs.declared.Reason.{Reason}
use Rattle.bounds.proofs.Cells.{cells_back, cells_length, copied_over}
use Rattle.bounds.proofs.Places.{serial_passed, lent_passed, lent_passes}
use Rattle.bounds.proofs.Filling.{filling_refused, filling_done}
use Rattle.rank.specs.Rank.{rank_checks, answer_of, rank_answer}
use Rattle.rank.specs.Unrank.{unrank_checks, unrank_call}
use Rattle.rank.specs.Locate.{clamp, nearest}
use Rattle.band.specs.Find.{early_checks}

-- ---- rank

-- 'mix given' has the numbers 7 and 8
composition_number : (ms : List ℕ) (r : ℕ) (g : List ℕ) → ((first_refusal (composition_checks ms r g)).number ≡ 0 → ⊥)
    → 6 < (first_refusal (composition_checks ms r g)).number
unfolding first_refusal
composition_number ms r g some =
    on_test (not (eqb (length g) (length ms)))
    (λ t. rw t (omega arith))
    (λ t. on_test (is_other ms r g) (λ u. rw (t, u) (omega arith)) (λ u. absurd (some (rw (t, u)))))

-- the checks of `serial_of`, in which 7 and 8 come before 5, beside document 01's
module _ (ms : List ℕ) (r : ℕ) (g : List ℕ) where
  abbrev early : Refusal
  early = first_refusal (early_checks ms r g)

  abbrev shape : Refusal
  shape = first_refusal (shape_checks ms r)

  abbrev edition : Refusal
  edition = first_refusal (edition_checks ms r)

  abbrev given : Refusal
  given = first_refusal (composition_checks ms r g)

  abbrev limit : Refusal
  limit = first_refusal (limit_checks ms r)

  rank_edition : (edition.number ≡ 0 → ⊥) → first_refusal (rank_checks ms r g) ≡ edition
  rank_edition some = refusal_first (edition_checks ms r) (composition_checks ms r g) some

  rank_given : edition.number ≡ 0 → first_refusal (rank_checks ms r g) ≡ given
  rank_given none = refusal_later (edition_checks ms r) (composition_checks ms r g) refl none

  early_shape : (shape.number ≡ 0 → ⊥) → early ≡ shape
  early_shape some = refusal_first (shape_checks ms r) (composition_checks ms r g ++ limit_checks ms r) some

  module _ (none : shape.number ≡ 0) where
    early_later : early ≡ first_refusal (composition_checks ms r g ++ limit_checks ms r)
    early_later = refusal_later (shape_checks ms r) (composition_checks ms r g ++ limit_checks ms r) refl none

    early_given : (given.number ≡ 0 → ⊥) → early ≡ given
    early_given some = early_later ∙ refusal_first (composition_checks ms r g) (limit_checks ms r) some

    early_edition : given.number ≡ 0 → early ≡ edition
    early_edition z =
        early_later ∙ refusal_later (composition_checks ms r g) (limit_checks ms r) refl z
        ∙ sym (refusal_later (shape_checks ms r) (limit_checks ms r) refl none)

  -- a number up to 6 is the edition's
  early_low : (n d : ℕ) → early ≡ refused n d → 0 < n → n ≤ 6 → first_refusal (rank_checks ms r g) ≡ refused n d
  early_low n d e l h = go (ℕ_discrete shape.number 0) (ℕ_discrete given.number 0)
    where
      some : {v : Refusal} → v ≡ refused n d → v.number ≡ 0 → ⊥
      some q z = let p = same_number q in omega arith

      by_edition : edition ≡ refused n d → first_refusal (rank_checks ms r g) ≡ refused n d
      by_edition q = rank_edition (some q) ∙ q

      go : Dec (shape.number ≡ 0) → Dec (given.number ≡ 0) → first_refusal (rank_checks ms r g) ≡ refused n d
      go (no z) _ = by_edition (refusal_first (shape_checks ms r) (limit_checks ms r) z ∙ sym (early_shape z) ∙ e)
      go (yes z) (yes y) = by_edition (sym (early_edition z y) ∙ e)
      go (yes z) (no y) = let p = same_number (sym (early_given z y) ∙ e) in absurd (omega (arith, composition_number ms r g y, p))

  -- where the edition is accepted, it is that of 'mix given'
  early_high : (n d : ℕ) → early ≡ refused n d → 0 < n → edition.number ≡ 0 → first_refusal (rank_checks ms r g) ≡ refused n d
  early_high n d e l none = go (ℕ_discrete given.number 0)
    where
      shaped : shape.number ≡ 0
      shaped = (accepts_split (shape_checks ms r) (limit_checks ms r) refl none).0

      go : Dec (given.number ≡ 0) → first_refusal (rank_checks ms r g) ≡ refused n d
      go (no y) = rank_given none ∙ sym (early_given shaped y) ∙ e
      go (yes y) = let p = same_number (sym (early_edition shaped y) ∙ e) in absurd (omega (arith, p, none))

  early_none : early.number ≡ 0 → (first_refusal (rank_checks ms r g)).number ≡ 0
  early_none z =
      let p = accepts_split (shape_checks ms r) (composition_checks ms r g ++ limit_checks ms r) refl z in
      let q = accepts_split (composition_checks ms r g) (limit_checks ms r) refl p.1 in
      accepts_join (edition_checks ms r) (composition_checks ms r g) refl (accepts_join (shape_checks ms r) (limit_checks ms r) refl p.0 q.1) q.0

  -- a refusal of the call
  answer_refused : (e : Reason) → coded e ≡ first_refusal (rank_checks ms r g) → answer_of (Err e) ≡ rank_answer ms r g
  unfolding rank_answer
  answer_refused e v = rw (← v, ne_eqb (coded e).number 0 (λ z. omega (arith, coded-number e)))

  -- the edition is refused
  pub ranked_edition : (e : Reason) → coded e ≡ edition → answer_of (Err e) ≡ rank_answer ms r g
  ranked_edition e v = answer_refused e (v ∙ sym (rank_edition (λ z. omega (arith, coded-refuses e edition v, z))))

  -- by what `serial_of` answers
  pub ranked_low : (e : Reason) → coded e ≡ early → (coded e).number ≤ 6 → answer_of (Err e) ≡ rank_answer ms r g
  ranked_low e v h = answer_refused e (sym (early_low (coded e).number (coded e).detail (sym v) (coded-number e) h))

  pub ranked_high : (e : Reason) → coded e ≡ early → edition.number ≡ 0 → answer_of (Err e) ≡ rank_answer ms r g
  ranked_high e v none = answer_refused e (sym (early_high (coded e).number (coded e).detail (sym v) (coded-number e) none))

  pub ranked_accepted : (s : ℕ) → refused 0 0 ≡ early → s ≡ serial_of ms r g → answer_of (Ok s) ≡ rank_answer ms r g
  unfolding rank_answer
  ranked_accepted s z e = rw (e, eq-eqb (first_refusal (rank_checks ms r g)).number 0 (early_none (none_refused early z)))

-- ---- the cells of a serial

pub clamp_in : (n s : ℕ) → 0 < s → s ≤ n → clamp n s ≡ s
clamp_in n s l h = omega arith

module _ (ms : List ℕ) (r s : ℕ) (l : 0 < s) (h : s ≤ count_of ms r) where
  pub nearest_in : nearest ms r s ≡ cells_of (composition_of ms r s)
  nearest_in = ap (λ (u : ℕ). cells_of (composition_of ms r u)) (clamp_in (count_of ms r) s l h)

  pub nearest_bytes : (n : ℕ) (cells : List ℕ) → n ≡ length ms → cells ≡ nearest ms r s → take n cells ≡ composition_of ms r s
  nearest_bytes n cells en ec =
      let g : List ℕ = composition_of ms r s in
      let size : n ≡ length g = en ∙ sym (composition_is ms r s l h).size in
      ap (take n) (ec ∙ nearest_in) ∙ ap (λ (k : ℕ). take k (cells_of g)) size ∙ cells_back g

-- ---- unrank

-- the first refusal, for a lent part of `have` bytes
module _ (ms : List ℕ) (r s have : ℕ) where
  abbrev checked : Refusal
  checked = first_refusal (unrank_checks ms r s have)

  module _ (accepted : (first_refusal (edition_checks ms r)).number ≡ 0) where
    later : checked ≡ first_refusal (serial_checks ms r s ++ lent_checks (length ms) have)
    later = refusal_later (edition_checks ms r) (serial_checks ms r s ++ lent_checks (length ms) have) refl accepted

    pub checked_part : {v w : Refusal} → v ≡ first_refusal (serial_checks ms r s) → v.number ≡ 0 → w ≡ first_refusal (lent_checks (length ms) have)
        → w ≡ checked
    checked_part e z q =
        q ∙ sym (later ∙ refusal_later (serial_checks ms r s) (lent_checks (length ms) have) refl (same_number (sym e) ∙ z))

module _ (ms : List ℕ) (r s : ℕ) (out : List ℕ) where
  -- what a call leaves that answers v
  abbrev Leaves : Refusal → List ℕ → Type 0
  Leaves v l = ◌≡◌ {A = Refusal × List ℕ} (v, l) (unrank_call ms r s out)

  pub unrank_refused : {v : Refusal} → v ≡ checked ms r s (length out) → (v.number ≡ 0 → ⊥) → Leaves v out
  unfolding unrank_call
  unrank_refused e some = filling_refused (unrank_checks ms r s (length out)) (composition_of ms r s) out e some

  -- a part of another length is refused in any case
  pub length_other : {v : Refusal} → v ≡ checked ms r s (length out) → (length out ≡ length ms → ⊥) → Leaves v out
  length_other e other =
      unrank_refused e
      (λ z. let p = accepts_split (edition_checks ms r) (serial_checks ms r s ++ lent_checks (length ms) (length out)) refl (same_number (sym e) ∙ z) in
      let q = accepts_split (serial_checks ms r s) (lent_checks (length ms) (length out)) refl p.1 in
      other (lent_passed (length ms) (length out) q.1))

  module _ (accepted : (first_refusal (edition_checks ms r)).number ≡ 0) {u : Refusal} (eu : u ≡ first_refusal (serial_checks ms r s)) (zu : u.number ≡ 0)
      (n : length out ≡ length ms) where
    inside : (0 < s) × (s ≤ count_of ms r)
    inside = serial_passed ms r s (same_number (sym eu) ∙ zu)

    pub part_filled : {v : Refusal} → v ≡ refused 0 0 → length ms ≤ 24 → (l cells : List ℕ) → l ≡ copied cells out → cells ≡ nearest ms r s
        → Leaves v l
    unfolding unrank_call
    part_filled e few l cells el ec =
        let is = checked_part ms r s (length out) accepted eu zu (e ∙ sym (lent_passes (length ms) (length out) n)) in
        let size : length cells ≡ 24 = rw ec (cells_length _ (omega (arith, (composition_is ms r (clamp (count_of ms r) s) low high).size))) in
        filling_done (unrank_checks ms r s (length out)) (composition_of ms r s) out is (same_number e)
        (el ∙ copied_over cells out (omega arith) ∙ nearest_bytes ms r s inside.0 inside.1 (length out) cells n ec)
      where
        low : 0 < clamp (count_of ms r) s
        low = omega arith

        high : clamp (count_of ms r) s ≤ count_of ms r
        high = omega (arith, inside.0, inside.1)
