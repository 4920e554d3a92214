-- The page of a listing that is asked for, case by case.
use mathlib.Core.Path.{◌≡◌, refl, sym, ap, ◌∙◌}
use mathlib.Core.List.{List}
use Rattle.std.specs.Prelude.{None}
use Prim.Native.Nat.{ℕ, ◌-◌, ◌≤◌, ◌<◌}
use native.Mathlib.Omega.{arith}
use lib.ListN.{length, take, replicate, length-append}
use lib.Seq.{take_at}
use borrow.Author.Tests.{lt-ltb, le-ltb, ltb-false}
use Rattle.walsh.specs.Order.{count_of}
use Rattle.walsh.specs.Serial.{composition_of}
use Rattle.walsh.specs.declared.Transition.{Transition}
use Rattle.walsh.proofs.Serials.{composition_is, serial_composition}
use Rattle.bounds.specs.Refusal.{refused, first_refusal}
use Rattle.bounds.specs.Edition.{edition_checks, cells_of}
use Rattle.bounds.specs.Places.{most_entries, many_checks}
use Rattle.bounds.specs.declared.Refusal.{Refusal}
use Rattle.bounds.proofs.Editions.{edition_shapely}
use Rattle.bounds.proofs.Refusals.{refusal_here, refusal_first, refusal_later, by_refusal, by_acceptance, passed}
use Rattle.bounds.proofs.Chains.{accepts_split}
use Rattle.bounds.specs.Reason.{coded}
use Rattle.bounds.specs.declared.Reason.{Reason}
use Rattle.bounds.proofs.Reasons.{coded-number}
use Rattle.rank.specs.declared.Located.{Located}
use Rattle.rank.proofs.Calls.{clamp_in}
use Rattle.step.specs.Advance.{Retreats}
use Rattle.lines.specs.Printed.{refusal, copies, list_checks, listed}
use Rattle.lines.specs.Page.{line_in, page_in, Listed, Ready, Filled}
use Rattle.lines.specs.declared.Page.{Page}
use Rattle.lines.proofs.Paged.{page_put, page_zero, page_past}

module _ (ms : List ℕ) (r : ℕ) where
  abbrev edition : Refusal
  edition = first_refusal (edition_checks ms r)

  abbrev first : Refusal
  first = first_refusal (list_checks ms r)

  pub listed_refused : (n d : ℕ) → first ≡ refused n d → 0 < n → listed ms r ≡ refusal n
  unfolding listed
  listed_refused n d e l = by_refusal first _ _ n d e l ∙ ap (λ (v : Refusal). refusal v.number) e

  pub listed_copies : first.number ≡ 0 → listed ms r ≡ copies ms r
  unfolding listed
  listed_copies e = by_acceptance first _ _ e

  -- ---- the first check that holds

  by_edition : (n d : ℕ) → edition ≡ refused n d → 0 < n → first ≡ refused n d
  by_edition n d e l = refusal_first (edition_checks ms r) (many_checks ms r) (λ z. let q : n ≡ 0 = rw e at z in omega arith) ∙ e

  module _ (accepted : edition.number ≡ 0) where
    later : first ≡ first_refusal (many_checks ms r)
    later = refusal_later (edition_checks ms r) (many_checks ms r) refl accepted

    by_count : most_entries < count_of ms r → first ≡ refused 14 0
    by_count h = later ∙ refusal_here _ _ (lt-ltb _ _ h)

    none : count_of ms r ≤ most_entries → first.number ≡ 0
    unfolding first_refusal
    none h = rw (later, le-ltb _ _ h)

  -- ---- what is refused

  pub listed_edition : (e : Reason) → coded e ≡ edition → listed ms r ≡ refusal (coded e).number
  listed_edition e p = listed_refused _ _ (by_edition _ _ (sym p) (coded-number e)) (coded-number e)

  module _ (accepted : edition.number ≡ 0) where
    pub listed_many : most_entries < count_of ms r → listed ms r ≡ refusal 14
    listed_many h = listed_refused 14 0 (by_count accepted h) (omega arith)

    pub listed_accepted : count_of ms r ≤ most_entries → first.number ≡ 0
    listed_accepted = none accepted

  -- ---- the page

  module _ (s : ℕ) (x : Located) (l : Listed ms r s x) where
    count : x.count ≡ count_of ms r
    count = l.located.count

    small : x.count ≤ most_entries
    small =
        let most : count_of ms r ≤ most_entries = ltb-false _ _ (passed _ _ refl (accepts_split (edition_checks ms r) _ refl l.accepted).1).0 in
        omega (arith, count, most)

    pub list_zero : (p : Page) (out : List ℕ) → p ≡ record { next = None; end = 0 } → s ≡ 0 → (p, out) ≡ page_in (copies ms r) s out
    unfolding page_in
    list_zero p out ep es = page_zero (line_in (copies ms r)) (count_of ms r) s p out ep es

    pub list_past : (p : Page) (out : List ℕ) → p ≡ record { next = None; end = 0 } → x.count < s → (p, out) ≡ page_in (copies ms r) s out
    unfolding page_in
    list_past p out ep h = page_past (line_in (copies ms r)) (count_of ms r) s p out ep (omega (arith, count))

    module _ (low : (s ≡ 0 → ⊥)) (high : s ≤ x.count) where
      pos : 0 < s
      pos = omega (arith, low)

      last : s ≤ count_of ms r
      last = omega (arith, count)

      size : length (composition_of ms r s) ≡ length ms
      size = (composition_is ms r s pos last).size

      cells : x.composition ≡ cells_of (composition_of ms r s)
      cells = rw (l.located.cells, clamp_in (count_of ms r) s pos last)

      pub list_cells : length ms ≤ length x.composition
      unfolding cells_of
      list_cells = rw cells (omega (arith, size, length-append (composition_of ms r s) (replicate (24 - length (composition_of ms r s)) 0)))

      here : take (length ms) x.composition ≡ composition_of ms r s
      unfolding cells_of
      here = rw cells (take_at (composition_of ms r s) _ (length ms) size)

      -- the pair of the composition is that of the line
      pub list_ready : (y : Transition) (g : List ℕ) → Retreats ms r (take (length ms) x.composition) y g
          → Ready ms r s x.count (take (length ms) x.composition) y
      list_ready y g back =
          let few = (edition_shapely ms r (accepts_split (edition_checks ms r) _ refl l.accepted).0).few in
          let valid = rw (← here) at (composition_is ms r s pos last) in
          record {
            few = few;
            small = small;
            all = count;
            low = pos;
            high = high;
            here = here;
            pair = back.pair few valid ∙ rw (here, serial_composition ms r s pos last);
          }

      pub list_put : (p : Page) (before after : List ℕ) → Filled ms r s x.count before after p
          → (p, after) ≡ page_in (copies ms r) s before
      unfolding page_in
      list_put p before after f =
          rw (← count) (page_put (line_in (copies ms r)) x.count s p before after pos f.next f.put)
