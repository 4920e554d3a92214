-- What the two directions have in common: the table, the checks, and the answers of `serial_of` and `composition_of`.
use Rattle.std.proofs.Common.{le_refl, ◌≡◌, ℕ, suc, ◌+◌, ◌-◌, ◌<◌, ◌≤◌, List, ◌++◌, length, replicate, sym, refl, ap, ◌∙◌, add-one, arith}
use Rattle.walsh.specs.Order.{Composition, count, count_of}
use Rattle.walsh.specs.Serial.{serial_of}
use Rattle.walsh.specs.Rank.{rank_of}
use Rattle.walsh.proofs.Serials.{serial_rank}
use Rattle.walsh.proofs.Successors.{count_pos}
use Rattle.bounds.specs.Refusal.{first_refusal}
use Rattle.bounds.specs.Edition.{whole, edition_checks, shape_checks, limit_checks}
use Rattle.bounds.specs.Places.{composition_checks}
use Rattle.bounds.proofs.Compositions.{composition_passes}
use Rattle.bounds.proofs.Editions.{Shapely, shapely}
use Rattle.bounds.proofs.Refusals.{refusal_later, same_number}
use Rattle.band.proofs.Bands.{cell_room, whole_band}
use Rattle.band.proofs.Rows.{size_small, last_row}
use Rattle.band.specs.Band.{Band, band_size}
use Rattle.band.specs.Walk.{Filled}
use Rattle.band.specs.declared.find.Shape.{Shape}
use Rattle.band.specs.Find.{early_checks, clamp, ranked, Sized}

-- ---- the table

-- no table is longer
pub sized_most : {ms : List ℕ} {r all size : ℕ} → Sized ms r all size → size ≤ 6145
sized_most {ms} {r} z = let h = shapely ms r z.accepted in rw z.size_is (size_small ms r h.reached h.small h.few)

-- the cells of a shape's band: there are some, and where they are filled a walk can begin
module _ (s : Shape) (cells : List ℕ) (size : length cells ≡ s.size) where
  shape : Shapely s.upper.now s.total
  shape = shapely s.upper.now s.total s.sized.accepted

  size_is : length cells ≡ band_size s.upper.now s.total
  size_is = size ∙ s.sized.size_is

  pub some_cell : 1 ≤ length cells
  some_cell =
      let n = length s.upper.now in
      let inside = cell_room s.upper.now s.total n s.total (le_refl _) (whole_band s.upper.now s.total shape.reached) in
      omega (arith, inside, size_is)

  pub filled_by : Band s.upper.now s.total cells
      → Filled s.upper.now s.total (record { start = length cells - 1; left = s.all; all = s.all; low = s.total; high = s.total }) cells
  filled_by band =
      let back : length cells - 1 + 1 ≡ length cells = omega (arith, some_cell) in
      record {
        few = shape.few;
        small = shape.small;
        reached = shape.reached;
        row = last_row s.upper.now s.total _ shape.reached (back ∙ size_is) s.sized.all_is s.sized.all_is refl refl;
        table = band;
      }

-- ---- the answer

module _ (ms : List ℕ) (r : ℕ) where
  -- of a composition the edition alone decides
  pub early_edition : (g : List ℕ) → (first_refusal (shape_checks ms r)).number ≡ 0 → Composition ms r g
      → first_refusal (early_checks ms r g) ≡ first_refusal (edition_checks ms r)
  early_edition g shape comp =
      refusal_later (shape_checks ms r) (composition_checks ms r g ++ limit_checks ms r) refl shape
      ∙ refusal_later (composition_checks ms r g) (limit_checks ms r) refl (same_number (composition_passes ms r g comp))
      ∙ sym (refusal_later (shape_checks ms r) (limit_checks ms r) refl shape)

  pub place_found : (g : List ℕ) (count place : ℕ) → count ≡ count_of ms r → Composition ms r g → place ≡ rank_of ms (length ms) r 0 g
      → record { count = count; serial = place + 1; composition = replicate 24 0 } ≡ ranked ms r g
  place_found g count place ec comp ep =
      let is : place + 1 ≡ serial_of ms r g = add-one place ∙ ap suc ep ∙ sym (serial_rank ms r g comp) in
      rw (is, ec)

-- the serial that is found, and its place
pub clamp_place : (ms : List ℕ) (r n s asked : ℕ) → r ≤ whole ms → n ≡ count_of ms r → s ≡ clamp n asked
    → (0 < s) × (s - 1 < count ms (length ms) r) × (s ≡ clamp (count_of ms r) asked)
unfolding count_of
clamp_place ms r n s asked reach en es =
    let some : 0 < count ms (length ms) r = count_pos ms r reach in
    (omega arith, omega arith, es ∙ ap (λ (m : ℕ). clamp m asked) en)
