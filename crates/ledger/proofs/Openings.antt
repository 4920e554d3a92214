-- The answers of an opening, from what the edition answers for serial 1.
use Rattle.std.specs.Prelude.{Err}
use mathlib.Core.Path.{◌≡◌, refl, sym, ◌∙◌}
use mathlib.Core.List.{List, [], ◌∷◌}
use Prim.Native.Nat.{◌≤◌, ◌<◌}
use native.Mathlib.Omega.{arith}
use lib.ListN.{length, take}
use lib.Seq.{take_all}
use borrow.Author.Tests.{lt-ltb, le-ltb}
use Rattle.bounds.specs.Refusal.{Check, refused, first_refusal}
use Rattle.bounds.specs.Edition.{edition_checks, cells_of}
use Rattle.bounds.specs.Places.{most_entries, too_many}
use Rattle.bounds.specs.declared.Bounds.{Bounds}
use Rattle.bounds.specs.declared.Refusal.{Refusal}
use Rattle.bounds.proofs.Editions.{edition_shapely}
use Rattle.bounds.proofs.Refusals.{refusal_here, refusal_next, refusal_later, by_refusal}
use Rattle.bounds.proofs.Chains.{Accepts}
use Rattle.bounds.specs.Reason.{coded}
use Rattle.bounds.specs.declared.Reason.{Reason}
use Rattle.bounds.specs.declared.Reason.TheVariants.{Entries, Columns}
use Rattle.bounds.proofs.Reasons.{coded-number, coded-first, accepted}
use Rattle.rank.specs.Locate.{Locates}
use Rattle.rank.specs.declared.Located.{Located}
use Rattle.model.specs.Entry.{Lent, room}
use Rattle.model.specs.Printing.{Printing, capacity}
use Rattle.model.specs.Record.{short_column, opening_checks, opened, opening}
use Rattle.model.specs.Results.{opened_of}
use Rattle.integrity.proofs.Checks.{nearest_next}

module _ (p : Printing) (col : Lent) where
  abbrev checks : Refusal
  checks = first_refusal (opening_checks p (room col))

  -- the place 'opening'
  abbrev places : List Check
  places = too_many (capacity p) ∷ short_column p (room col) ∷ []

  refused_by : (e : Reason) → checks ≡ coded e → opened_of (Err e) ≡ opening p col
  unfolding opening
  refused_by e q = rw (by_refusal checks _ _ (coded e).number (coded e).detail q (coded-number e), q)

  pub opening_edition : (e : Reason) → coded e ≡ first_refusal (edition_checks p.bounds p.total) → opened_of (Err e) ≡ opening p col
  opening_edition e q = refused_by e (sym (coded-first e (edition_checks p.bounds p.total) places q))

  module _ {x : Located} (q : refused 0 0 ≡ first_refusal (edition_checks p.bounds p.total)) (at : Locates p.bounds p.total 1 x) where
    sound : Accepts (edition_checks p.bounds p.total)
    sound = accepted (first_refusal (edition_checks p.bounds p.total)) q

    count_is : x.count ≡ capacity p
    count_is = at.count

    placed : checks ≡ first_refusal places
    placed = refusal_later (edition_checks p.bounds p.total) places refl sound

    pub opening_many : most_entries < x.count → opened_of (Err Entries) ≡ opening p col
    opening_many l = refused_by Entries (placed ∙ refusal_here _ _ (lt-ltb most_entries (capacity p) (omega (arith, count_is))))

    module _ (few : x.count ≤ most_entries) where
      roomy : checks ≡ first_refusal (short_column p (room col) ∷ [])
      roomy = placed ∙ refusal_next _ _ (le-ltb most_entries (capacity p) (omega (arith, count_is)))

      pub opening_short : room col < x.count → opened_of (Err Columns) ≡ opening p col
      opening_short l = refused_by Columns (roomy ∙ refusal_here _ _ (lt-ltb (room col) (capacity p) (omega (arith, count_is))))

      pub opening_good : (b : Bounds) → x.count ≤ room col
          → b ≡ record { parts = length p.bounds; upper = cells_of (take 24 p.bounds); total = p.total }
          → record { number = 0; detail = 0; ledger = record { bounds = b; entries = 0; sold = 0; voided = 0; next = x.composition } }
          ≡ opening p col
      unfolding opening opened first_refusal
      opening_good b fits e =
          let none : checks ≡ refused 0 0 = roomy ∙ rw (le-ltb (room col) (capacity p) (omega (arith, count_is))) in
          let small : length p.bounds ≤ 24 = (edition_shapely p.bounds p.total sound).few in
          rw (none, e, take_all 24 p.bounds small, at.cells ∙ nearest_next p 0)
