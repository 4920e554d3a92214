-- Laws of the row that is written over the row before: where its sums stand, the window's next number, and what a stored cell leaves.
use mathlib.Core.Path.{◌≡◌, sym, ◌∙◌, subst}
use mathlib.Core.Bool.{Bool, true, false}
use mathlib.Core.List.{List}
use Prim.Native.Nat.{ℕ, ◌+◌, ◌-◌, ◌≤◌, ◌<◌, min, max}
use native.Mathlib.Omega.{arith}
use native.Mathlib.Nat.{le_refl, le_trans, le_of_lt, lt_of_le_of_lt, add-zero}
use native.Mathlib.Numerals.{add-one}
use lib.ListN.{length, get_or, set, length-set}
use lib.Seq.{get_or-set_same, get_or-set_other}
use Rattle.walsh.specs.Sums.{sum, sum_to}
use Rattle.walsh.specs.Order.{count}
use Rattle.walsh.proofs.Cases.{on_test, on_less}
use Rattle.walsh.proofs.Lists.{sum_mono, sum_to_mono, sum_to_step}
use Rattle.walsh.proofs.Listing.{count_none}
use Rattle.walsh.proofs.Peel.{sum_stop}
use Rattle.walsh.proofs.Window.{sum_at, count_window, count_zero}
use Rattle.bounds.specs.Edition.{whole}
use Rattle.band.specs.Band.{InBand, lowest, highest, cap}
use Rattle.band.specs.Window.{Slid}
use Rattle.band.proofs.Numbers.{suc_le, suc_mono, le_last}
use Rattle.band.proofs.Bands.{band_most, band_ends, low_high}
use Rattle.band.proofs.Slides.{behind_in, slid_done}
use Rattle.count.specs.Row.{IsEnds, Passing, RowCounts, Within, Passed, Enters, Moved}
use Rattle.count.specs.declared.row.Ends.{Ends}
use Rattle.count.specs.declared.row.Part.{Part}
use Rattle.count.proofs.Falls.{fall_leaves, fall_over, fall_under, fall_count}

beyond : (r s h t : ℕ) → h ≡ min r s → h < t → t ≤ r → s < t
beyond r s h t e l b = omega arith

before : {t : ℕ} → t - 1 ≤ t
before = omega arith

min_le : (r s t : ℕ) → t ≤ min r s → t ≤ r
min_le r s t l = omega arith

module _ (part : Part) where
  abbrev ms : List ℕ
  ms = part.upper.now

  abbrev r : ℕ
  r = part.total

  abbrev p : Passing ms r part.k part.m part.row part.next
  p = part.passing

  -- at a sum t of row k + 1
  module _ (t : ℕ) (l : part.next.low ≤ t) (h : t ≤ part.next.high) where
    at_high : t ≤ highest ms r (part.k + 1)
    at_high = rw (← p.to.high) h

    pub at_total : t ≤ r
    at_total = min_le r (sum_to ms (part.k + 1)) t at_high

    pub at_next : InBand ms r (part.k + 1) t
    at_next = band_ends ms r (part.k + 1) t (rw (← p.to.low) l) at_high

    pub at_low : lowest ms r part.k ≤ t
    at_low = le_trans (low_high ms r part.k p.reached p.given).1 (rw (← p.to.low) l)

    -- the cell that leaves, where there is one
    pub leaving_in : t ≤ part.row.high → InBand ms r part.k t
    leaving_in g = band_ends ms r part.k t at_low (rw (← p.from.high) g)

    pub passed_none : part.row.high < t → 0 ≡ count ms part.k t
    passed_none g = sym (count_none ms part.k t (beyond r (sum_to ms part.k) part.row.high t p.from.high g at_total))

    -- and the cell that enters
    full_at : part.row.low + part.m < t → lowest ms r part.k + part.m < t
    full_at g = rw (← p.from.low) g

    pub entering_in : part.row.low + part.m < t → InBand ms r part.k (t - (part.m + 1))
    entering_in g = behind_in ms r part.k t part.m p.bound at_high (full_at g)

    module _ (w : ℕ) (cells : List ℕ) (s : Passed ms r part.k (t + 1) w cells) where
      pub leaving_most : (x : ℕ) → x ≡ count ms part.k t → x ≤ w
      leaving_most x ex = fall_leaves ms r part.k t part.m w x 0 s.window p.bound at_low ex

      move_over : (x y v : ℕ) → part.row.low + part.m < t → x ≡ count ms part.k t → y ≡ count ms part.k (t - (part.m + 1)) → v ≡ w - x + y
          → Moved ms r part.k t v
      move_over x y v g ex ey ev =
          let slid : Slid ms r part.k t v = rw ev (fall_over ms r part.k t part.m w x y s.window p.bound (full_at g) ex ey) in
          let c = fall_count ms r part.k t v p.given p.reached slid (rw (← p.bound) (full_at g)) at_high in
          record {
            slid = slid;
            within = λ q. rw c.1 (q (t - 1) c.0);
            over = λ q. le_trans (rw c.1 at q) (band_most ms r (part.k + 1) (t - 1) (suc_le p.given) c.0);
          }

      move_under : (x v : ℕ) → t ≤ part.row.low + part.m → x ≡ count ms part.k t → v ≡ w - x → Moved ms r part.k t v
      move_under x v g ex ev =
          record {
            slid = rw ev (fall_under ms r part.k t part.m w x 0 s.window p.bound at_low (rw (← p.from.low) g) ex);
            within = λ q. less s.small;
            over = λ q. absurd (omega (arith, q, less s.small));
          }
        where
          less : w < cap → v < cap
          less q = omega arith

      -- x leaves, and y enters where a cell does
      pub moves : (enters : Bool) (x y v : ℕ) → Enters part.row part.m t enters → x ≡ count ms part.k t
          → (enters ≡ true → y ≡ count ms part.k (t - (part.m + 1))) → (enters ≡ false → y ≡ 0) → v ≡ w - x + y → Moved ms r part.k t v
      moves enters x y v q ex ey ez ev =
          on_test enters
          (λ h. move_over x y v (q.entering h) ex (ey h) ev)
          (λ h. move_under x v (q.staying h) ex (ev ∙ rw (ez h) (add-zero (w - x))))

      -- the window's number is stored
      pub stored : (v : ℕ) → t < 256 → Slid ms r part.k t v → v < cap → Passed ms r part.k t v (set cells t w)
      stored v b slid small =
          record {
            long = length-set cells t w ∙ s.long;
            below = λ u i a c. let old = s.below u i a (lt_suc c) in (get_or-set_other cells t u w 0 (λ q. omega (arith, c, q)) ∙ old.0, old.1);
            above = λ u i a c. on_less t u
                (λ tu _. let old = s.above u i (suc_le tu) c in (get_or-set_other cells t u w 0 (λ q. omega (arith, tu, q)) ∙ old.0, old.1))
                (λ ut _. let q : t ≡ u = omega arith in subst Here q here);
            window = slid;
            small = small;
          }
        where
          is : w ≡ count ms (part.k + 1) t
          is = slid_done ms r part.k t w p.given p.reached s.window (rw (← p.to.low) l)

          Here : ℕ → Type 0
          Here n = (get_or (set cells t w) n 0 ≡ count ms (part.k + 1) n) × (count ms (part.k + 1) n < cap)

          here : Here t
          here = (get_or-set_same cells t w 0 (rw s.long b) ∙ is, rw is at s.small)

          lt_suc : {u : ℕ} → u < t → u < t + 1
          lt_suc q = omega arith

  -- the first window of row k + 1 has the cells from a up to the row's end
  abbrev f : ℕ → ℕ
  f = count ms part.k

  next_left : sum_to ms (part.k + 1) ≡ sum_to ms part.k + part.m
  next_left = omega (arith, p.bound, sum_to_step ms part.k)

  pub next_rises : part.next.low ≤ part.next.high
  next_rises = omega (arith, p.to.low, p.to.high, (low_high ms r part.k p.reached p.given).0)

  pub top_next : InBand ms r (part.k + 1) part.next.high
  top_next = at_next part.next.high next_rises (le_refl _)

  high_rises : part.row.high ≤ part.next.high
  high_rises = go (sum_to ms part.k) (sum_to ms (part.k + 1)) p.from.high p.to.high next_left
    where
      go : (s s' : ℕ) → part.row.high ≡ min r s → part.next.high ≡ min r s' → s' ≡ s + part.m → part.row.high ≤ part.next.high
      go s s' a b e = omega arith

  row_rises : part.row.low ≤ part.row.high
  row_rises =
      go (sum_to ms part.k) (whole ms) p.from.low p.from.high (sum_to_mono ms part.k (length ms) (le_of_lt p.given)) p.reached
    where
      go : (s n : ℕ) → part.row.low ≡ r - (n - s) → part.row.high ≡ min r s → s ≤ n → r ≤ n → part.row.low ≤ part.row.high
      go s n a b l h = omega arith

  pub first_at : (a : ℕ) → a ≡ part.row.low + (part.next.high - part.m - part.row.low)
      → (part.row.low ≤ a) × (a ≤ part.row.high + 1) × (part.next.high - part.m ≤ a)
  first_at a e = go (sum_to ms part.k) (sum_to ms (part.k + 1)) p.from.high p.to.high next_left row_rises
    where
      go : (s s' : ℕ) → part.row.high ≡ min r s → part.next.high ≡ min r s' → s' ≡ s + part.m → part.row.low ≤ part.row.high
          → (part.row.low ≤ a) × (a ≤ part.row.high + 1) × (part.next.high - part.m ≤ a)
      go s s' x y z l = (omega arith, omega arith, omega arith)

  pub row_in : (t : ℕ) → part.row.low ≤ t → t < part.row.high + 1 → InBand ms r part.k t
  row_in t l h = band_ends ms r part.k t (rw (← p.from.low) l) (rw (← p.from.high) (le_last h (le_refl _)))

  -- it is at most the highest number of row k + 1
  pub top_within : (a t w : ℕ) → w + sum f a ≡ sum f t → part.next.high - part.m ≤ a → t ≤ part.row.high + 1
      → (Within ms r (part.k + 1) → w < cap) × (cap ≤ w → cap ≤ count ms (length ms) r)
  top_within a t w e l h = (
    λ q. lt_of_le_of_lt most (q part.next.high top_next),
    λ q. le_trans (le_trans q most) (band_most ms r (part.k + 1) part.next.high (suc_le p.given) top_next),
  )
    where
      join : {c b d : ℕ} → c + b ≡ d → b ≤ sum f a → sum f t ≤ d → w ≤ c
      join a b c = omega arith

      most : w ≤ count ms (part.k + 1) part.next.high
      most =
          rw add-one
          (join (count_window ms part.k part.next.high)
          (sum_mono f (part.next.high - get_or ms part.k 0) a (rw p.bound at l))
          (sum_mono f t (part.next.high + 1) (le_trans h (suc_mono high_rises))))

  -- sums that the first k parts do not reach add nothing
  pub top_slid : (a w : ℕ) → a ≡ part.row.low + (part.next.high - part.m - part.row.low) → w + sum f a ≡ sum f (part.row.high + 1)
      → Slid ms r part.k (part.next.high + 1) w
  top_slid a w ea e =
      rw (← p.bound, ← p.from.low)
      (join (sum_at f (max part.row.low (part.next.high + 1 - (part.m + 1))) a (omega arith))
      (sum_stop f (part.row.high + 1) (part.next.high + 1) (suc_mono high_rises) none))
    where
      lt_of : {a b : ℕ} → a + 1 ≤ b → a < b
      lt_of q = omega arith

      none : (i : ℕ) → part.row.high + 1 ≤ i → i < part.next.high + 1 → count ms part.k i ≡ 0
      none i x y =
          count_none ms part.k i
          (beyond r (sum_to ms part.k) part.row.high i p.from.high (lt_of x) (le_trans (le_last y (le_refl _)) top_next.high))

      join : {b d : ℕ} → b ≡ sum f a → d ≡ sum f (part.row.high + 1) → w + b ≡ d
      join x y = omega arith

-- the numbers of the first row and of the next
pub ends_first : (ms : List ℕ) (r all : ℕ) (e : Ends) → all ≡ whole ms → e.low ≡ r - (all - 0) → e.high ≡ min r 0 → IsEnds ms r 0 e
ends_first ms r all e ea el eh = record { low = el ∙ rw ea; high = eh }

pub left_fits : (ms : List ℕ) (k left m all : ℕ) → k < length ms → left ≡ sum_to ms k → m ≡ get_or ms k 0 → all ≡ whole ms
    → (left + m ≡ sum_to ms (k + 1)) × (left + m ≤ all)
left_fits ms k left m all l e em ea =
    let q : left + m ≡ sum_to ms (k + 1) = rw (e, em) (sym (sum_to_step ms k)) in
    (q, rw (q, ea) (sum_to_mono ms (k + 1) (length ms) (suc_le l)))

pub ends_next : (ms : List ℕ) (r k left all : ℕ) (e : Ends) → all ≡ whole ms → left ≡ sum_to ms k → e.low ≡ r - (all - left) → e.high ≡ min r left
    → IsEnds ms r k e
ends_next ms r k left all e ea q el eh = record { low = el ∙ rw (ea, q); high = eh ∙ rw q }

-- the row of no parts: 1 at the sum 0
pub first_row_lem : (ms : List ℕ) (r : ℕ) (cells : List ℕ) → length cells ≡ 256 → RowCounts ms r (set cells 0 1) 0 0 256
first_row_lem ms r cells long t b l h =
    let z : t ≡ 0 = omega (arith, b.inside) in
    rw (z, count_zero ms) (get_or-set_same cells 0 1 0 (omega arith), omega arith)
