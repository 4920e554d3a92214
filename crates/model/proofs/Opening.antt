-- What an accepted opening says of the edition and the columns.
use mathlib.Core.Path.{◌≡◌, refl, ap, ◌∙◌}
use Prim.Native.Nat.{◌≤◌, ◌<◌}
use lib.ListN.{length}
use borrow.Author.Tests.{ltb-false}
use Rattle.bounds.specs.Refusal.{refused, first_refusal}
use Rattle.bounds.specs.Edition.{edition_checks}
use Rattle.bounds.specs.Places.{most_entries}
use Rattle.bounds.specs.declared.Refusal.{Refusal}
use Rattle.bounds.proofs.Editions.{edition_shapely}
use Rattle.bounds.proofs.Refusals.{passed, by_refusal, is_refused, is_accepted}
use Rattle.bounds.proofs.Chains.{Accepts, accepts_split}
use Rattle.model.specs.declared.Opened.{Opened}
use Rattle.model.specs.Entry.{Lent, room}
use Rattle.model.specs.Printing.{Printing, capacity}
use Rattle.model.specs.Record.{opening_checks, opened, blank_ledger, opening}

pub record Opens (p : Printing) (col : Lent) : Type 0 where
  pub sound : (first_refusal (edition_checks p.bounds p.total)).number ≡ 0
  pub few : length p.bounds ≤ 24
  pub small : capacity p ≤ most_entries
  pub fits : capacity p ≤ room col

-- what no check refuses
pub opens : (p : Printing) (col : Lent) → Accepts (opening_checks p (room col)) → Opens p col
opens p col a =
    let e = accepts_split (edition_checks p.bounds p.total) _ refl a in
    let p14 = passed _ _ refl e.1 in
    let p15 = passed _ _ refl p14.2 in
    record {
      sound = e.0;
      few = (edition_shapely p.bounds p.total e.0).few;
      small = ltb-false most_entries (capacity p) p14.0;
      fits = ltb-false (room col) (capacity p) p15.0;
    }

-- ---- the two answers of an opening

module _ (p : Printing) (col : Lent) (x : Opened) (e : x ≡ opening p col) where
  abbrev checks : Refusal
  checks = first_refusal (opening_checks p (room col))

  pub opening_refused : 0 < x.number → (checks ≡ refused x.number x.detail) × (x.ledger ≡ blank_ledger)
  unfolding opening
  opening_refused l =
      let v = is_refused checks _ _ (λ (y : Opened). y.number) (λ (y : Opened). y.detail) refl refl refl x e l in
      (v, ap (λ (y : Opened). y.ledger) (e ∙ by_refusal checks _ _ x.number x.detail v l))

  pub opening_accepted : x.number ≡ 0 → Accepts (opening_checks p (room col)) × (x.ledger ≡ opened p)
  unfolding opening
  opening_accepted z =
      let a = is_accepted checks _ _ (λ (y : Opened). y.number) (λ (y : Opened). y.detail) refl refl refl x e z in
      (a.0, ap (λ (y : Opened). y.ledger) a.1)
