-- Laws of the code's numbers of a row, and of the cells stored so far.
use Rattle.std.proofs.Common.{◌≡◌, ℕ, suc, ◌+◌, ◌-◌, ◌*◌, ◌<◌, ◌≤◌, min, List, length, get_or, set, sym, ap, ◌∙◌, subst, le_of_lt, add-one, arith, get_or-set_other, get_or-set_same}
use native.Mathlib.Nat.{min-le_left}
use Rattle.walsh.specs.Sums.{sum_to}
use Rattle.walsh.specs.Order.{count}
use Rattle.walsh.proofs.Cases.{on_less}
use Rattle.walsh.proofs.Lists.{sum_to_mono, sum_to_step}
use Rattle.walsh.proofs.Listing.{count_none}
use Rattle.walsh.proofs.Window.{count_zero}
use Rattle.bounds.specs.Edition.{whole}
use Rattle.band.specs.Band.{InBand, lowest, highest, width, row_start, band_size, cell_index, cap, RowHolds, RowsHold, IsRow, Sizing}
use Rattle.band.specs.declared.Row.{Row}
use Rattle.band.proofs.Numbers.{suc_pred}
use Rattle.band.proofs.Bands.{start_small, cell_lt, cell_room, cell_earlier, cell_differs}

back : (a b : ℕ) → a + b - b ≡ a
back a b = omega arith

module _ (ms : List ℕ) (r k : ℕ) (reach : r ≤ whole ms) (k_lt : k < length ms) where
  pub part_fits : sum_to ms k + get_or ms k 0 ≤ whole ms
  part_fits = sum_to_mono ms (suc k) (length ms) k_lt

  row_low : lowest ms r k ≤ highest ms r k
  row_low = omega (arith, part_fits)

  module _ (row : Row) (i : IsRow ms r k row) where
    pub row_ends : (row.low ≤ row.high) × (row.high ≤ r)
    row_ends = (rw (i.low, i.high) row_low, rw i.high (omega arith))

    pub row_fits : row.left + get_or ms k 0 ≤ row.all
    row_fits = rw (i.left, i.all) part_fits

    pub row_small : r ≤ 255 → row.start ≤ 256 * k
    row_small s = rw i.start (start_small ms r s k)

  module _ (row : Row) (i : IsRow ms r (k + 1) row) where
    pub down_left : row.left ≡ sum_to ms k + get_or ms k 0
    down_left = i.left ∙ sum_to_step ms k

module _ (ms : List ℕ) (r k t : ℕ) (row : Row) (i : IsRow ms r k row) (b : InBand ms r k t) where
  pub at_low : row.low ≤ t
  at_low = rw i.low (omega (arith, b.low))

  pub at_place : row.start + (t - row.low) ≡ cell_index ms r k t
  at_place = rw (i.start, i.low)

  pub at_small : r ≤ 255 → cell_index ms r k t < 256 * suc k
  at_small s = omega (arith, cell_lt ms r k t b, start_small ms r s (suc k))

pub low_le : (ms : List ℕ) (r k : ℕ) (row : Row) → IsRow ms r k row → row.low ≤ r
low_le ms r k row i = rw i.low (omega arith)

pub row_first : (ms : List ℕ) (r : ℕ) → r ≤ whole ms → (row : Row) (all : ℕ) → all ≡ whole ms → row.start ≡ 0 → row.left ≡ 0 → row.all ≡ all
    → row.low ≡ r - (all - 0) → row.high ≡ min r 0 → IsRow ms r 0 row
row_first ms r reach row all ea e1 e2 e3 e4 e5 = record { start = e1; left = e2; all = e3 ∙ ea; low = e4 ∙ rw ea; high = e5 }

pub above_none : (ms : List ℕ) (r k t : ℕ) (row : Row) → IsRow ms r k row → t ≤ r → row.high < t → count ms k t ≡ 0
above_none ms r k t row i l h = count_none ms k t (omega (arith, i.high))

-- a cell stored
module _ (ms : List ℕ) (r k t w i : ℕ) (table : List ℕ) (rows : RowsHold ms r table k) (row : RowHolds ms r table (k + 1) t)
    (b : InBand ms r (k + 1) t) (e : i ≡ cell_index ms r (k + 1) t) where
  pub store_rows : RowsHold ms r (set table i w) k
  store_rows j l u c h =
      let p = cell_earlier ms r j (k + 1) u t (omega arith) c in
      let old = rows j l u c h in
      (get_or-set_other table i (cell_index ms r j u) w 0 (λ q. omega (arith, p, e, q)) ∙ old.0, old.1)

  pub store_row : i < length table → w ≡ count ms (k + 1) t → w < cap → RowHolds ms r (set table i w) (k + 1) (t + 1)
  store_row l ew s u c h =
      on_less u t
      (λ ut _. let p = cell_differs ms r (k + 1) u t c b ut in
      let old = row u c ut in
      (get_or-set_other table i (cell_index ms r (k + 1) u) w 0 (λ q. omega (arith, p, e, q)) ∙ old.0, old.1))
      (λ tu _. let q : t ≡ u = omega arith in
      let here : get_or (set table i w) (cell_index ms r (k + 1) t) 0 ≡ count ms (k + 1) t = ap (λ (n : ℕ). get_or (set table i w) n 0) (sym e)
      ∙ get_or-set_same table i w 0 l ∙ ew in
      let all : (get_or (set table i w) (cell_index ms r (k + 1) t) 0 ≡ count ms (k + 1) t) × (count ms (k + 1) t < cap) =
      (here, omega (arith, ew, s)) in
      subst (λ (n : ℕ). (get_or (set table i w) (cell_index ms r (k + 1) n) 0 ≡ count ms (k + 1) n) × (count ms (k + 1) n < cap)) q all)

-- a row filled
pub row_filled : (ms : List ℕ) (r k u : ℕ) (table : List ℕ) → RowsHold ms r table k → RowHolds ms r table (k + 1) u → highest ms r (k + 1) < u
    → RowsHold ms r table (k + 1)
row_filled ms r k u table rows row h j l t b s =
    on_less j (k + 1)
    (λ lt _. rows j (omega arith) t b s)
    (λ ge _. let q : k + 1 ≡ j = omega arith in
    subst (λ (n : ℕ). InBand ms r n t → (get_or table (cell_index ms r n t) 0 ≡ count ms n t) × (count ms n t < cap)) q
    (λ c. row t c (omega (arith, c.high, c.inside))) b)

-- the row of no parts: 1 at the sum 0
first_band : (ms : List ℕ) (r : ℕ) → r ≤ whole ms → InBand ms r 0 0
first_band ms r reach = record { low = omega arith; high = omega arith; inside = omega arith }

pub base_room : (ms : List ℕ) (r : ℕ) (table : List ℕ) → r ≤ whole ms → band_size ms r ≤ length table → 0 < length table
base_room ms r table reach room = zero_lt_of_lt (cell_room ms r 0 0 (omega arith) (first_band ms r reach)) room
  where
    zero_lt_of_lt : {a b c : ℕ} → a < b → b ≤ c → 0 < c
    zero_lt_of_lt p q = omega arith

first_place_lem : (ms : List ℕ) (r t : ℕ) → r ≤ whole ms → InBand ms r 0 t → (t ≡ 0) × (cell_index ms r 0 t ≡ 0)
first_place_lem ms r t reach b = (omega (arith, b.inside), omega (arith, b.inside))

pub base_rows : (ms : List ℕ) (r : ℕ) (table : List ℕ) → r ≤ whole ms → band_size ms r ≤ length table → RowsHold ms r (set table 0 1) 0
base_rows ms r table reach room j l t b h =
    let z : j ≡ 0 = omega (arith, l) in
    let b' : InBand ms r 0 t = rw z at b in
    let p = first_place_lem ms r t reach b' in
    rw (z, p.1, p.0, count_zero ms) (get_or-set_same table 0 1 0 (base_room ms r table reach room), omega arith)

-- the bound of the part before k comes off, and its row is counted
module _ (ms : List ℕ) (r : ℕ) (reach : r ≤ whole ms) (k left size : ℕ) (sizing : Sizing ms r k left size) (some : 0 < k) where
  pub sizing_inside : k - 1 < length ms
  sizing_inside = omega (arith, sizing.few)

  pub sizing_left : left ≡ sum_to ms (k - 1) + get_or ms (k - 1) 0
  sizing_left = sizing.left ∙ ap (λ (n : ℕ). sum_to ms n) (suc_pred some)

  sizing_size : size + (row_start ms r (k - 1) + width ms r (k - 1)) ≡ band_size ms r
  sizing_size = ap (λ (n : ℕ). size + row_start ms r n) (sym (suc_pred some)) ∙ sizing.size

  pub sizing_next : (all m low high : ℕ) → all ≡ whole ms → m ≡ get_or ms (k - 1) 0 → low ≡ r - (all - (left - m)) → high ≡ min r (left - m)
      → (low ≤ high) × (high ≤ r) × Sizing ms r (k - 1) (left - m) (size + (high + 1 - low))
  sizing_next all m low high ea em e1 e2 =
      let el : left - m ≡ sum_to ms (k - 1) = rw (sizing_left, em) (back (sum_to ms (k - 1)) (get_or ms (k - 1) 0)) in
      let elo : low ≡ lowest ms r (k - 1) = e1 ∙ rw (el, ea) in
      let ehi : high ≡ highest ms r (k - 1) = e2 ∙ rw el in
      let ew : high + 1 - low ≡ width ms r (k - 1) = rw (ehi, elo, add-one) in (
        rw (elo, ehi) (row_low ms r (k - 1) reach sizing_inside),
        rw ehi (min-le_left r (sum_to ms (k - 1))),
        record { few = le_of_lt sizing_inside; left = el; size = joined size (row_start ms r (k - 1)) ew ∙ sizing_size },
      )
    where
      joined : (s b : ℕ) {w v : ℕ} → w ≡ v → s + w + b ≡ s + (b + v)
      joined s b e = omega arith

pub size_small : (ms : List ℕ) (r : ℕ) → r ≤ whole ms → r ≤ 255 → length ms ≤ 24 → band_size ms r ≤ 6145
size_small ms r reach s few =
    let one : width ms r (length ms) ≡ 1 = omega arith in
    go one (start_small ms r s (length ms)) few
  where
    go : {w b n : ℕ} → w ≡ 1 → b ≤ 256 * n → n ≤ 24 → b + w ≤ 6145
    go e l f = omega arith

-- the last row, from the table's size and the sum of the bounds
pub last_row : (ms : List ℕ) (r : ℕ) (row : Row) → r ≤ whole ms → row.start + 1 ≡ band_size ms r → row.left ≡ whole ms → row.all ≡ whole ms
    → row.low ≡ r → row.high ≡ r → IsRow ms r (length ms) row
last_row ms r row reach e1 e2 e3 e4 e5 =
    let one : width ms r (length ms) ≡ 1 = omega arith in
    record { start = go one e1; left = e2; all = e3; low = e4 ∙ omega arith; high = e5 ∙ omega arith }
  where
    go : {s b w : ℕ} → w ≡ 1 → s + 1 ≡ b + w → s ≡ b
    go e q = omega arith
