use mathlib.Core.Path.{◌≡◌, refl, sym, ap, ◌∙◌, subst}
use mathlib.Core.List.{List, ◌++◌}
use Prim.Native.Nat.{ℕ, ◌+◌, ◌-◌, ◌*◌, ◌≤◌, ◌<◌}
use native.Mathlib.Nat.{zero-mul, add-zero, add-mul, add_assoc, mul-le-mul_right}
use native.Mathlib.Omega.{arith}
use lib.ListN.{length, take, drop, replicate, length-append, length-drop, length-replicate}
use lib.Seq.{take-append-le}
use borrow.Author.Rules.{rules}
use borrow.Rule.Slice.PartMut.{same_len_mid}
use Rattle.walsh.specs.Order.{Composition, count_of}
use Rattle.walsh.specs.Serial.{serial_of, composition_of}
use Rattle.walsh.proofs.Serials.{composition_is, composition_serial, serial_pos}
use Rattle.bounds.proofs.Cells.{copied_front}
use Rattle.step.specs.Batch.{copies_of}
use Rattle.step.proofs.Copies.{part_length, put_taken, copies_none}
use Rattle.blocks.specs.Blocks.{Entered}
use Rattle.blocks.proofs.Copied.{copies_add}
use Rattle.blocks.proofs.copies.write.Goals as goal
use Rattle.blocks.proofs.copies.write.Goals.{After-copy, At-loop-j}
use Rattle.blocks.proofs.copies.write.Invariants.{from}

first_at : (c : After-copy) →
    let a = c.args in
    let cells = c.copy.new.out in
    (length cells ≡ 40) × (take (length a.fronts.now.job.upper.now) cells ≡ take (length a.fronts.now.job.upper.now) a.fronts.now.job.first)
first_at c =
    let a = c.args in
    let zeros : List ℕ = replicate {A = ℕ} 40 0 in
    let size : length a.fronts.now.job.first ≡ 24 = search rules in
    let whole : length zeros ≡ 40 = length-replicate {A = ℕ} 40 0 in
    let is : c.copy.new.out ≡ a.fronts.now.job.first ++ drop (length a.fronts.now.job.first) zeros =
    c.copy.ensures ∙ copied_front a.fronts.now.job.first zeros (omega (arith, size, whole)) in (
      ap length is ∙ rw (length-append, length-drop) (omega (arith, size, whole)),
      ap (take (length a.fronts.now.job.upper.now)) is
          ∙ take-append-le (length a.fronts.now.job.upper.now) a.fronts.now.job.first (drop (length a.fronts.now.job.first) zeros) (omega (arith, size, a.fronts.now.job.asked.few)),
    )

pub loop-j-init : goal.loop-j-init
loop-j-init c =
    let a = c.args in
    let ms = a.fronts.now.job.upper.now in
    let first = first_at (goal.at.loop-j-init c).After-copy in
    let valid : Composition ms a.fronts.now.job.total (take (length ms) c.copy.new.out) =
    subst (Composition ms a.fronts.now.job.total) (sym first.1) a.fronts.now.job.asked.valid in (
      omega arith,
      refl,
      rw (zero-mul, copies_none),
      rw add-zero (sym (composition_serial ms a.fronts.now.job.total (take (length ms) c.copy.new.out) valid)),
      λ l. subst (λ (h : List ℕ). Entered ms a.fronts.now.job.total a.fronts.now.width h a.index) (sym first.1) c.requires.1,
    )

-- the serial of the first copy, and how far the copies go
range_at : (c : At-loop-j) →
    let l = c.loop-j in
    let a = c.args in
    let ms = a.fronts.now.job.upper.now in
    let s = from ms a.fronts.now.job.total c.copy.new.out in
    (0 < s) × (s + a.fronts.now.job.copies ≤ count_of ms a.fronts.now.job.total + 1) × (l.j * length ms + (a.fronts.now.job.copies - 40 - l.j) * length ms + 40 ≤ length l.out)
range_at c =
    let l = c.loop-j in
    let a = c.args in
    let ms = a.fronts.now.job.upper.now in
    let n : ℕ = length ms in
    let first = (first_at (goal.at.At-loop-j c).After-copy).1 in
    let asked = a.fronts.now.job.asked in
    let e : from ms a.fronts.now.job.total c.copy.new.out ≡ serial_of ms a.fronts.now.job.total (take n a.fronts.now.job.first) =
    ap (serial_of ms a.fronts.now.job.total) first in
    let all : a.fronts.now.job.copies * n ≡ l.j * n + (a.fronts.now.job.copies - 40 - l.j) * n + 40 * n =
    let whole : a.fronts.now.job.copies ≡ l.j + (a.fronts.now.job.copies - 40 - l.j) + 40 = omega (arith, l.invariant.0, a.fronts.now.job.many) in
    ap (λ (m : ℕ). m * n) whole ∙ add-mul (l.j + (a.fronts.now.job.copies - 40 - l.j)) 40 n ∙ ap (λ (m : ℕ). m + 40 * n) (add-mul l.j (a.fronts.now.job.copies - 40 - l.j) n) in (
      omega (arith, e, serial_pos ms a.fronts.now.job.total (take n a.fronts.now.job.first) asked.valid),
      omega (arith, e, asked.within),
      omega (arith, all, asked.some, c.requires.0, l.invariant.1),
    )

pub next_block-k-requires : goal.next_block-k-requires
next_block-k-requires c =
    let l = c.loop-j in
    let a = c.args in
    let ms = a.fronts.now.job.upper.now in
    let range = range_at (goal.at.next_block-k-requires c).At-loop-j in
    let at : ℕ = from ms a.fronts.now.job.total c.copy.new.out + l.j in
    let valid : Composition ms a.fronts.now.job.total (take (length ms) l.cells) =
    subst (Composition ms a.fronts.now.job.total) (sym l.invariant.3) (composition_is ms a.fronts.now.job.total at (omega (arith, range)) (omega (arith, range, l.invariant.0))) in (
      valid,
      l.invariant.4 c.loop-j-test.true,
      omega arith,
      omega (arith, range.2, part_length l.out (l.j * length ms)),
    )

-- k copies behind j
put_both : (xs ys rest : List ℕ) (j k n : ℕ) → j * n ≤ length xs → k * n ≤ length ys
    → take ((j + k) * n) (take (j * n) xs ++ (ys ++ rest)) ≡ take (j * n) xs ++ take (k * n) ys
put_both xs ys rest j k n h l = rw (add-mul j k n) (put_taken xs ys rest (j * n) (k * n) h l)

pub loop-j-preserved : goal.loop-j-preserved
loop-j-preserved c =
    let on = c.next_block-k in
    let l = c.loop-j in
    let a = c.args in
    let ms = a.fronts.now.job.upper.now in
    let n : ℕ = length ms in
    let s : ℕ = from ms a.fronts.now.job.total c.copy.new.out in
    let k : ℕ = on.result in
    let range = range_at (goal.at.loop-j-preserved c).At-loop-j in
    let cells : List ℕ = on.new.cells in
    let ys : List ℕ = on.new.out in
    let rest : List ℕ = take (length l.out - l.j * n) (drop (l.j * n) l.out) in
    let kept : length ys ≡ length rest = on.auto.out in
    let some = on.ensures.0 in
    let few = on.ensures.1 in
    let went = on.ensures.2 (s + l.j) (omega (arith, range)) (omega (arith, range, l.invariant.0)) l.invariant.3 in
    let room : k * n ≤ length ys =
    omega (arith, range.2, mul-le-mul_right n few, kept, part_length l.out (l.j * n)) in
    let copies = copies_add ms a.fronts.now.job.total s l.j k in
    let done = l.invariant.2 in
    let new = went.copies in
    let then : s + l.j + k ≡ s + (l.j + k) = add_assoc s l.j k in (
      omega (arith, few, c.loop-j-test.true),
      same_len_mid (l.j * n) (length l.out - l.j * n) l.out ys kept ∙ l.invariant.1,
      put_both l.out ys _ l.j k n (omega (arith, range.2)) room ∙ cc,
      went.next ∙ ap (composition_of ms a.fronts.now.job.total) then,
      λ less. went.entered (omega (arith, less)),
    )

pub returns : goal.returns
returns c =
    let l = c.loop-j in
    let a = c.args in
    let ms = a.fronts.now.job.upper.now in
    let first = (first_at (goal.at.returns c).After-copy).1 in
    let serial : from ms a.fronts.now.job.total c.copy.new.out ≡ from ms a.fronts.now.job.total a.fronts.now.job.first = ap (serial_of ms a.fronts.now.job.total) first in
    record {
      left = omega (arith, l.invariant.0, a.fronts.now.job.many);
      copies = l.invariant.2 ∙ ap (λ (s : ℕ). copies_of ms a.fronts.now.job.total s l.j) serial;
    }
