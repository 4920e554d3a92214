-- Laws of the copies: those of a block are copies of the batch, and what is asked of the lists for it.
use mathlib.Core.Path.{◌≡◌, refl, sym, ap, ◌∙◌, subst}
use mathlib.Core.Bool.{true, false}
use mathlib.Core.List.{List, [], ◌++◌, append-nil, append_assoc}
use Prim.Native.Nat.{ℕ, zero, suc, ◌+◌, ◌-◌, ◌*◌, ◌≤◌, ◌<◌}
use native.Mathlib.Nat.{add-zero, add-suc, add_assoc, mul-one, mul-le-mul_left}
use native.Mathlib.Numerals.{add-one}
use native.Mathlib.Omega.{arith}
use lib.ListN.{length, get_or, take, drop}
use lib.Seq.{length-take-le, get_or-take, take-add, drop_at}
use Rattle.walsh.specs.Sums.{sum_to}
use Rattle.walsh.specs.Order.{Composition, is_odd, listing, count, count_of}
use Rattle.walsh.specs.Serial.{composition_of}
use Rattle.walsh.proofs.Cases.{on_test}
use Rattle.walsh.proofs.Lists.{sum_same, sum_mono, sum_le}
use Rattle.walsh.proofs.Complete.{composition_within}
use Rattle.step.specs.Batch.{copies_of}
use Rattle.blocks.specs.Lists.{joined, number_to, most_of, Known}
use Rattle.blocks.specs.Blocks.{Entered, listed_at, number_of, IsBlock, Readable, laid}
use Rattle.blocks.specs.declared.copies.Block.{Block}
use Rattle.blocks.specs.declared.lists.Fronts.{Fronts}
use Rattle.blocks.proofs.Listed.{joined_same}
use Rattle.blocks.proofs.Entries.{same_block, count_front, entry_is, entry_fits, front_sum}

pub drop_take : (w n : ℕ) (l : List ℕ) → w ≤ n → w ≤ length l → drop w (take n l) ≡ take (n - w) (drop w l)
drop_take w n l h k =
    let e : n ≡ w + (n - w) = omega arith in
    ap (λ (m : ℕ). drop w (take m l)) e ∙ ap (drop w) (take-add w (n - w) l) ∙ drop_at (take w l) (take (n - w) (drop w l)) w (length-take-le w l k)

-- the sum of the first w of n parts that stand in cells
pub cells_sum : (l : List ℕ) (w n : ℕ) → w ≤ n → n ≤ length l → sum_to (take w l) (length (take w l)) ≡ sum_to (take n l) w
cells_sum l w n h k =
    front_sum l w (omega arith) l (omega arith)
    ∙ sum_same (λ i. get_or l i 0) (λ i. get_or (take n l) i 0) w (λ i b. sym (get_or-take n l i 0 (omega arith)))

module _ (ms : List ℕ) (r : ℕ) where
  pub copies_joined : (s c : ℕ) → joined (λ j. composition_of ms r (s + j)) c ≡ copies_of ms r s c
  unfolding joined copies_of
  copies_joined s zero = refl
  copies_joined s (suc c) = rw (copies_joined s c)

  pub copies_add : (s a b : ℕ) → copies_of ms r s (a + b) ≡ copies_of ms r s a ++ copies_of ms r (s + a) b
  unfolding copies_of
  copies_add s a zero = rw (add-zero a) (sym (append-nil (copies_of ms r s a)))
  copies_add s a (suc b) =
      rw (add-suc, copies_add s a b, ← (add_assoc s a b))
      (append_assoc (copies_of ms r s a) (copies_of ms r (s + a) b) (composition_of ms r (s + a + b)))

module _ (f : Fronts) where
  abbrev ms : List ℕ
  ms = f.job.upper.now

  abbrev r : ℕ
  r = f.job.total

  abbrev w : ℕ
  w = f.width

  abbrev entries : List ℕ
  entries = f.entries

  abbrev starts : List ℕ
  starts = f.starts

  abbrev known : Known ms r w entries starts
  known = f.known

  -- ---- the sum of the first parts has a list; what stands before it, and before the next

  reached : (g : List ℕ) → Composition ms r g → sum_to g w ≤ most_of ms r w
  reached g valid =
      omega (
        arith,
        composition_within valid w known.inside,
        sum_le (λ i. get_or g i 0) (λ i. get_or ms i 0) w (λ i b. valid.parts.fits i (omega (arith, known.inside))),
      )

  module _ (g : List ℕ) (valid : Composition ms r g) where
    pub list_before : get_or starts (sum_to g w) 0 ≡ number_to (take w ms) (sum_to g w)
    list_before = known.lists.listed.before (sum_to g w) (omega (arith, reached g valid))

    pub list_after : get_or starts (sum_to g w + 1) 0 ≡ number_to (take w ms) (sum_to g w) + count ms w (sum_to g w)
    list_after =
        known.lists.listed.before (sum_to g w + 1) (omega (arith, reached g valid))
        ∙ ap (number_to (take w ms)) (add-one (sum_to g w))
        ∙ ap (λ (k : ℕ). number_to (take w ms) (sum_to g w) + k) (count_front ms w known.inside (sum_to g w))

  -- ---- a block: g, the composition of serial p in the first n of the cells, is its entry number i

  module _ (cells : List ℕ) (room : length ms ≤ length cells)
      (p : ℕ) (low : 0 < p) (high : p ≤ count_of ms r) (is : take (length ms) cells ≡ composition_of ms r p)
      (valid : Composition ms r (take (length ms) cells)) (i : ℕ) (at : Entered ms r w (take (length ms) cells) i) where
    abbrev g : List ℕ
    g = take (length ms) cells

    abbrev s : ℕ
    s = sum_to g w

    abbrev front : List ℕ
    front = take w ms

    inside : s ≤ most_of ms r w
    inside = reached g valid

    before : get_or starts s 0 ≡ number_to front s
    before = list_before g valid

    after : get_or starts (s + 1) 0 ≡ number_to front s + count ms w s
    after = list_after g valid

    pub within : get_or starts s 0 + i < get_or starts (s + 1) 0
    within = omega (arith, before, after, at.inside)

    module _ (b : Block) (block : IsBlock r s (get_or starts s 0) (get_or starts (s + 1) 0) i b) where
      pub count_is : b.count ≡ count ms w s - i
      count_is = omega (arith, block.count, before, after)

      -- the number of entry j
      number_is : (j : ℕ) → j < b.count → number_of b j ≡ number_to front s + listed_at (is_odd (r - s)) (count ms w s) (i + j)
      number_is j l =
          let c : get_or starts (s + 1) 0 - get_or starts s 0 ≡ count ms w s = omega (arith, before, after) in
          let from : b.from ≡ number_to front s + listed_at b.falling (count ms w s) i = block.from ∙ rw (c, before) in
          let way = block.way in
          let few = count_is in
          on_test (is_odd (r - s))
          (λ odd.
          let e : b.falling ≡ true = way ∙ odd in
          let from' : b.from ≡ number_to front s + (count ms w s - 1 - i) = rw e at from in
          rw (e, odd) (omega arith))
          (λ even.
          let e : b.falling ≡ false = way ∙ even in
          let from' : b.from ≡ number_to front s + i = rw e at from in
          rw (e, even) (omega arith))

      -- the copies of the block are those of the batch
      pub laid_is : (j : ℕ) → j < b.count → laid f b cells j ≡ composition_of ms r (p + j)
      laid_is j l =
          let inside-j : i + j < count ms w s = omega (arith, count_is) in
          let here = same_block ms r w known.inside g valid i at p low high is j inside-j in
          let entry : take w (drop (number_of b j * w) entries) ≡ get_or (listing ms w s (r - s)) (i + j) [] =
          ap (λ (k : ℕ). take w (drop (k * w) entries)) (number_is j l)
          ∙ entry_is ms w known.inside (most_of ms r w) entries starts known.lists s (r - s) (i + j) inside inside-j in
          let ending : take (length ms - w) (drop w cells) ≡ drop w g =
          sym (drop_take w (length ms) cells known.inside (omega (arith, known.inside))) in
          ap (λ (x : List ℕ). x ++ take (length ms - w) (drop w cells)) entry
          ∙ ap (λ (x : List ℕ). get_or (listing ms w s (r - s)) (i + j) [] ++ x) ending
          ∙ sym here.1

      pub block_copies : (k : ℕ) → k ≤ b.count → joined (laid f b cells) k ≡ copies_of ms r p k
      block_copies k l =
          joined_same (laid f b cells) (λ j. composition_of ms r (p + j)) k (λ j h. laid_is j (omega arith))
          ∙ copies_joined ms r p k

      pub readable : (k : ℕ) → k ≤ b.count → Readable w b k (length entries)
      readable k l =
          record {
            back = λ e. back_at e (omega arith);
            ahead = λ e. ahead_at e;
            room = λ j h. fits_at j (omega arith);
          }
        where
          fits_at : (j : ℕ) → j < b.count → number_of b j * w + 16 ≤ length entries
          fits_at j h =
              subst (λ (x : ℕ). x * w + 16 ≤ length entries) (sym (number_is j h))
              (entry_fits ms w known.inside (most_of ms r w) entries starts known.lists s (r - s) (i + j) inside (omega (arith, count_is)))

          back_at : b.falling ≡ true → k ≤ b.count → k ≤ b.from + 1
          back_at e h =
              let from : b.from ≡ get_or starts s 0 + listed_at true (get_or starts (s + 1) 0 - get_or starts s 0) i = rw e at block.from in
              omega (arith, count_is, before, after)

          ahead_at : b.falling ≡ false → b.from + k ≤ length entries
          ahead_at e =
              let from : b.from ≡ get_or starts s 0 + i = rw e at block.from in
              let all : get_or starts (s + 1) 0 ≤ number_to front (suc (most_of ms r w)) =
              omega (
                arith,
                known.lists.listed.before (s + 1) (omega (arith, inside)),
                ap (number_to front) (add-one s),
                sum_mono (count_of front) (suc s) (suc (most_of ms r w)) (omega (arith, inside)),
              ) in
              let width : length front ≡ w = length-take-le w ms known.inside in
              let least : number_to front (suc (most_of ms r w)) * 1 ≤ number_to front (suc (most_of ms r w)) * length front =
              mul-le-mul_left (number_to front (suc (most_of ms r w))) (omega (arith, width, known.some)) in
              omega (arith, count_is, before, after, all, least, known.lists.room, mul-one (number_to front (suc (most_of ms r w))))
