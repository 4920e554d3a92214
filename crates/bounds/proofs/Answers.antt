-- The answers of specs/Edition.antt, case by case.
use mathlib.Core.Path.{◌≡◌, refl, sym, ◌∙◌}
use mathlib.Core.List.{List}
use Prim.Native.Nat.{ℕ, ◌≤◌, ◌<◌}
use native.Mathlib.Omega.{arith}
use lib.ListN.{take}
use borrow.Author.Tests.{lt-ltb, le-ltb}
use Rattle.walsh.specs.Order.{count_of}
use Rattle.bounds.specs.Refusal.{refused, first_refusal}
use Rattle.bounds.specs.Edition.{shape_checks, limit_checks, edition_checks, record_checks}
use Rattle.bounds.specs.declared.Refusal.{Refusal}
use Rattle.bounds.specs.declared.Bounds.{Bounds}
use Rattle.bounds.proofs.Refusals.{refusal_here, refusal_next, refusal_first, refusal_later}

module _ (ms : List ℕ) (r : ℕ) where
  abbrev shape : Refusal
  shape = first_refusal (shape_checks ms r)

  abbrev edition : Refusal
  edition = first_refusal (edition_checks ms r)

  -- ---- the edition: refused by its shape, or by N, or not

  pub edition_refused : (n d : ℕ) → shape ≡ refused n d → 0 < n → edition ≡ refused n d
  edition_refused n d e l = refusal_first (shape_checks ms r) (limit_checks ms r) (λ z. let q : n ≡ 0 = rw e at z in omega arith) ∙ e

  pub edition_over : shape.number ≡ 0 → 9223372036854775807 < count_of ms r → edition ≡ refused 5 0
  edition_over e l = refusal_later (shape_checks ms r) (limit_checks ms r) refl e ∙ refusal_here _ _ (lt-ltb _ _ l)

  pub edition_none : shape.number ≡ 0 → count_of ms r ≤ 9223372036854775807 → edition ≡ refused 0 0
  unfolding first_refusal
  edition_none e l = refusal_later (shape_checks ms r) (limit_checks ms r) refl e ∙ rw (le-ltb 9223372036854775807 (count_of ms r) l)

-- ---- a record that nobody has checked

module _ (b : Bounds) where
  abbrev bounds : List ℕ
  bounds = take b.parts b.upper

  pub record_many : 24 < b.parts → refused 1 0 ≡ first_refusal (record_checks b)
  record_many l = sym (refusal_here _ _ (lt-ltb _ _ l))

  pub record_few : b.parts ≤ 24 → first_refusal (edition_checks bounds b.total) ≡ first_refusal (record_checks b)
  record_few l = sym (refusal_next _ _ (le-ltb _ _ l))
