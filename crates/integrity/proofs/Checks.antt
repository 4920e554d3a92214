-- The tests of number 16, one law for each way out of them.
use mathlib.Core.Path.{◌≡◌, refl, sym, ap, ◌∙◌}
use mathlib.Core.Logic.{◌≢◌}
use mathlib.Core.Bool.{Bool, true, false}
use mathlib.Core.List.{List, []}
use Rattle.std.specs.Prelude.{Option, Some, None}
use Rattle.std.specs.Bool.{then_some}
use Prim.Native.Nat.{ℕ, ◌+◌, ◌-◌, ◌≤◌, ◌<◌, min, max}
use native.Mathlib.Omega.{arith}
use lib.Dec.{eqb, leb}
use lib.ListN.{length, get_or, take, length-take}
use borrow.Author.Tests.{lt-leb, le-leb, leb-true, eq-eqb, ne_eqb}
use Rattle.walsh.specs.Order.{order}
use Rattle.walsh.specs.Serial.{same, composition_of}
use Rattle.walsh.specs.Tests.{both}
use Rattle.walsh.proofs.Cases.{on_less}
use Rattle.bounds.specs.Refusal.{refused, first_refusal}
use Rattle.bounds.specs.Reason.{coded}
use Rattle.bounds.specs.Edition.{record_checks, cells_of}
use Rattle.bounds.specs.Places.{most_entries}
use Rattle.bounds.specs.declared.Reason.{Reason}
use Rattle.bounds.proofs.Reasons.{accepted, coded-refuses}
use Rattle.rank.specs.Locate.{nearest, Locates}
use Rattle.rank.specs.declared.Located.{Located}
use Rattle.model.specs.Entry.{Entry, is_voided, Lent, columns, pairs, entries_in, room, sold_in, voided_in, unsound_in}
use Rattle.model.specs.Printing.{Printing, size, capacity, serial_at, next_composition}
use Rattle.model.specs.Record.{upper_of, printing_of, written, consistent}
use Rattle.model.specs.declared.Ledger.{Ledger}
use Rattle.model.proofs.Entries.{room_entries}
use Rattle.model.proofs.Compositions.{compositions_at}
use Rattle.model.proofs.Records.{few_parts, each, one_fails, sold_of}
use Rattle.integrity.specs.Lines.{lines_in, stands_at}
use Rattle.integrity.specs.declared.lines.Lines.{Lines}
use Rattle.integrity.specs.Again.{first_again, place_again}
use Rattle.integrity.specs.Examine.{frame_tests, framed, seen_by, found_by, met_by}
use Rattle.integrity.specs.declared.Found.{Found}
use Rattle.integrity.specs.declared.Met.{Met}
use Rattle.integrity.proofs.Options.{some_given, none_given}
use Rattle.integrity.proofs.Pairs.{both_false, pairs_length}
use Rattle.integrity.proofs.Places.{many_few}

-- the composition of the nearest serial to the next is that of the next, of serial N when full
pub nearest_next : (p : Printing) (e : ℕ) → nearest p.bounds p.total (e + 1) ≡ next_composition p e
unfolding composition_of
nearest_next p e =
    let at : max 1 (min (e + 1) (size p)) - 1 ≡ min (serial_at p e) (size p) - 1 = omega arith in
    ap (λ (i : ℕ). cells_of (get_or (order p.bounds p.total) i [])) at
    ∙ sym (compositions_at p.bounds p.total (min (serial_at p e) (size p) - 1))

-- what the edition answers for the next serial
pub record Asked (r : Ledger) (at : Located) : Type 0 where
  pub sound : (first_refusal (record_checks r.bounds)).number ≡ 0
  pub count : at.count ≡ size (printing_of r)
  pub next : at.composition ≡ next_composition (printing_of r) r.entries
  pub few : r.bounds.parts ≤ 24

pub asked : (r : Ledger) (at : Located) → refused 0 0 ≡ first_refusal (record_checks r.bounds)
    → Locates (upper_of r.bounds) r.bounds.total (r.entries + 1) at
    → Asked r at
asked r at e p =
    let z = accepted (first_refusal (record_checks r.bounds)) e in
    record {
      sound = z;
      count = p.count;
      next = p.cells ∙ nearest_next (printing_of r) r.entries;
      few = few_parts r.bounds z;
    }

-- ---- what is answered

module _ (r : Ledger) {b : Bool} where
  pub seen_some : {n : ℕ} → Some n ≡ seen_by b r → (b ≡ true) × (n ≡ size (printing_of r))
  unfolding seen_by
  seen_some e = some_given e

  pub seen_none : None ≡ seen_by b r → b ≡ false
  unfolding seen_by
  seen_none e = none_given _ e

  pub seen_not : b ≡ false → None ≡ seen_by b r
  unfolding seen_by
  seen_not f = rw f

  pub seen_tested : {t : Bool} {n : ℕ} → t ≡ b → n ≡ size (printing_of r) → then_some t n ≡ seen_by b r
  unfolding seen_by
  seen_tested t e = rw (t, e)

module _ (r : Ledger) (col : Lent) (o : Entry) {b : Bool} where
  pub found_some : {s : Found} → Some s ≡ found_by b r col o
      → (b ≡ true) × (s.count ≡ size (printing_of r)) × (s.place ≡ stands_at o (written r col))
  unfolding found_by
  found_some e = let g = some_given e in (g.0, ap (λ (x : Found). x.count) g.1, ap (λ (x : Found). x.place) g.1)

  pub found_none : None ≡ found_by b r col o → b ≡ false
  unfolding found_by
  found_none e = none_given _ e

  pub found_not : b ≡ false → None ≡ found_by b r col o
  unfolding found_by
  found_not f = rw f

  pub found_tested : {t : Bool} {n : ℕ} {k : Option ℕ} → t ≡ b
      → n ≡ size (printing_of r)
      → k ≡ stands_at o (written r col)
      → then_some t (record { count = n; place = k }) ≡ found_by b r col o
  unfolding found_by
  found_tested t en ek = rw (t, en, ek)

module _ (r : Ledger) (col es : Lent) {b : Bool} where
  pub met_some : {s : Met} → Some s ≡ met_by b r col es
      → (b ≡ true) × (s.count ≡ size (printing_of r)) × (s.first ≡ first_again (written r col) (entries_in es))
      × (s.place ≡ place_again (written r col) (entries_in es))
  unfolding met_by
  met_some e =
      let g = some_given e in
      (g.0, ap (λ (x : Met). x.count) g.1, ap (λ (x : Met). x.first) g.1, ap (λ (x : Met). x.place) g.1)

  pub met_none : None ≡ met_by b r col es → b ≡ false
  unfolding met_by
  met_none e = none_given _ e

  pub met_not : b ≡ false → None ≡ met_by b r col es
  unfolding met_by
  met_not f = rw f

  pub met_tested : {t : Bool} {n k p : ℕ} → t ≡ b
      → n ≡ size (printing_of r)
      → k ≡ first_again (written r col) (entries_in es)
      → p ≡ place_again (written r col) (entries_in es)
      → then_some t (record { count = n; first = k; place = p }) ≡ met_by b r col es
  unfolding met_by
  met_tested t en ek ep = rw (t, en, ek, ep)

-- ---- the tests that look at no line

module _ (r : Ledger) (n : ℕ) where
  abbrev most : ℕ
  most = size (printing_of r)

  stops : (i : ℕ) → get_or (frame_tests r n) i true ≡ false → framed r n ≡ false
  unfolding framed
  stops i e = one_fails i (frame_tests r n) e

  apart : framed r n ≡ false → None ≡ seen_by (framed r n) r
  apart f = seen_not r f

  -- so many entries are either more than N, or N is over the most
  pub too_full : most_entries < r.entries → None ≡ seen_by (framed r n) r
  too_full l =
      on_less most_entries most
      (λ m t. apart (stops 1 (lt-leb most most_entries m)))
      (λ m t. apart (stops 3 (lt-leb r.entries most (omega arith))))

  pub no_edition : (e : Reason) → coded e ≡ first_refusal (record_checks r.bounds) → None ≡ seen_by (framed r n) r
  no_edition e p =
      let l = coded-refuses e (first_refusal (record_checks r.bounds)) p in
      apart (stops 0 (ne_eqb (first_refusal (record_checks r.bounds)).number 0 (λ z. omega (arith, l, z))))

  module _ {at : Located} (a : Asked r at) where
    pub too_many : most_entries < at.count → None ≡ seen_by (framed r n) r
    too_many l = apart (stops 1 (lt-leb most most_entries (omega (arith, a.count))))

    pub no_room : n < at.count → None ≡ seen_by (framed r n) r
    no_room l = apart (stops 2 (lt-leb most n (omega (arith, a.count))))

    pub past_end : at.count < r.entries → None ≡ seen_by (framed r n) r
    past_end l = apart (stops 3 (lt-leb r.entries most (omega (arith, a.count))))

    pub other_next : same r.next at.composition ≡ false → None ≡ seen_by (framed r n) r
    other_next f = apart (stops 4 (ap (same r.next) (sym a.next) ∙ f))

  pub no_spare : same r.bounds.upper (cells_of (upper_of r.bounds)) ≡ false → None ≡ seen_by (framed r n) r
  no_spare f = apart (stops 5 f)

  -- all of them pass
  pub frame_passes : {at : Located}
      → Asked r at
      → at.count ≤ most_entries
      → at.count ≤ n
      → r.entries ≤ at.count
      → same r.next at.composition ≡ true
      → same r.bounds.upper (cells_of (upper_of r.bounds)) ≡ true
      → Some at.count ≡ seen_by (framed r n) r
  unfolding framed seen_by
  frame_passes {at} a small fits inside next spare =
      rw (
        eq-eqb (first_refusal (record_checks r.bounds)).number 0 a.sound,
        le-leb most most_entries (omega (arith, a.count)),
        le-leb most n (omega (arith, a.count)),
        le-leb r.entries most (omega (arith, a.count)),
        ap (same r.next) (sym a.next) ∙ next,
        spare,
        a.count,
      )

  -- then the lines written are within the column
  pub frame_room : framed r n ≡ true → (r.entries ≤ n) × (r.entries ≤ most_entries)
  unfolding framed
  frame_room t =
      let q = each (frame_tests r n) t in
      let small = leb-true most most_entries q.1.0 in
      let fits = leb-true most n q.1.1.0 in
      let inside = leb-true r.entries most q.1.1.1.0 in
      (omega arith, omega arith)

-- ---- and those that count the lines

-- the two counts, which stand in the middle of the row, and the soundness of the lines come last
lines_last : (s v m u w : Bool) → both s (both v (both m (both u (both w true)))) ≡ both (both m (both u true)) (both w (both v s))
lines_last false v m u w = rw (both_false v, both_false w, both_false (both m (both u true)))
lines_last true false m u w = rw (both_false w, both_false (both m (both u true)))
lines_last true true false u w = refl
lines_last true true true false w = refl
lines_last true true true true w = refl

last : (a b c d s v m u w : Bool)
    → both a (both b (both c (both d (both s (both v (both m (both u (both w true))))))))
    ≡ both (both a (both b (both c (both d (both m (both u true)))))) (both w (both v s))
last false b c d s v m u w = refl
last true false c d s v m u w = refl
last true true false d s v m u w = refl
last true true true false s v m u w = refl
last true true true true s v m u w = lines_last s v m u w

module _ (r : Ledger) (col : Lent) where
  lines_behind : consistent r col
      ≡ both (framed r (room col))
      (both (eqb (unsound_in (written r col)) 0) (both (eqb r.voided (voided_in (written r col))) (eqb r.sold (sold_in (written r col)))))
  unfolding consistent framed
  lines_behind =
      let p = printing_of r in
      last (eqb (first_refusal (record_checks r.bounds)).number 0) (leb (capacity p) most_entries) (leb (capacity p) (room col))
      (leb r.entries (capacity p)) (eqb r.sold (sold_in (written r col))) (eqb r.voided (voided_in (written r col)))
      (same r.next (next_composition p r.entries)) (same r.bounds.upper (cells_of (upper_of r.bounds))) (eqb (unsound_in (written r col)) 0)

  pub not_framed : framed r (room col) ≡ false → consistent r col ≡ false
  not_framed f = lines_behind ∙ rw f

  pub not_sound : unsound_in (written r col) ≢ 0 → consistent r col ≡ false
  not_sound n = lines_behind ∙ rw (ne_eqb (unsound_in (written r col)) 0 n) (both_false (framed r (room col)))

  -- what a pass counts decides
  module _ (t : framed r (room col) ≡ true) {z : ℕ} (e : z ≡ voided_in (written r col)) where
    pub few_zeros : z ≤ r.entries
    few_zeros = many_few is_voided (entries_in col) r.entries z e

    pub by_counts : unsound_in (written r col) ≡ 0 → consistent r col ≡ both (eqb r.voided z) (eqb r.sold (r.entries - z))
    by_counts s =
        let sold : sold_in (written r col) ≡ r.entries - z =
        sold_of r col (frame_room r _ t).0 ∙ ap (λ (k : ℕ). r.entries - k) (sym e) in
        lines_behind ∙ rw (t, sym e, sold, eq-eqb (unsound_in (written r col)) 0 s)

-- ---- the lines lent, and those written, as the passes have them

module _ (os is : List ℕ) (lent : Lines) (e : lines_in lent ≡ pairs os is) where
  pub lent_room : length lent.orders.now ≡ room (columns os is)
  lent_room =
      omega (arith, pairs_length lent.orders.now lent.items.now lent.paired, ap length e, room_entries (columns os is))

  module _ (r : Ledger) (part : Lines) where
    pub part_written : lines_in part ≡ take (r.entries - 0) (lines_in lent) → lines_in part ≡ written r (columns os is)
    part_written q =
        let n : r.entries - 0 ≡ r.entries = omega arith in
        q ∙ (λ i. take (n i) (e i))

    pub part_few : framed r (room (columns os is)) ≡ true → part.orders.now ≡ take (r.entries - 0) lent.orders.now
        → length part.orders.now ≤ most_entries
    part_few t q = omega (arith, ap length q, length-take (r.entries - 0) lent.orders.now, (frame_room r _ t).1)
