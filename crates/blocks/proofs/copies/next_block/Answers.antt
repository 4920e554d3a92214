-- `blocks::copies::next_block` meets its contract: the laws of proofs/Copied for the block of the composition in the cells.
use Rattle.std.proofs.Common.{◌≡◌, sym, ap, ◌∙◌, subst, List, ℕ, ◌+◌, ◌-◌, ◌≤◌, ◌<◌, arith, length, get_or, take}
use native.Mathlib.Nat.{mul-le-mul_right}
use Rattle.walsh.specs.Sums.{sum_to}
use Rattle.walsh.specs.Order.{count}
use Rattle.walsh.specs.Serial.{serial_of, composition_of}
use Rattle.walsh.proofs.Complete.{composition_within}
use Rattle.walsh.proofs.Serials.{serial_le, serial_pos, composition_serial}
use Rattle.blocks.specs.Blocks.{Entered, IsBlock, Readable}
use Rattle.blocks.proofs.Entries.{next_block}
use Rattle.blocks.proofs.Copied.{cells_sum, within, count_is, laid_is, block_copies, readable}
use Rattle.blocks.proofs.copies.next_block.Goals as goal
use Rattle.blocks.proofs.copies.next_block.Goals.{After-block_of-block, After-min-k, After-sum_of-s}

sum_at : (c : After-sum_of-s) →
    let a = c.args in
    c.sum_of-s.result ≡ sum_to (take (length a.fronts.now.job.upper.now) a.cells.now) a.fronts.now.width
sum_at c =
    let a = c.args in
    c.sum_of-s.ensures
    ∙ cells_sum a.cells.now a.fronts.now.width (length a.fronts.now.job.upper.now) a.fronts.now.known.inside
    (omega (arith, a.fronts.now.job.asked.few))

pub block_of-block-requires : goal.block_of-block-requires
block_of-block-requires c =
    let a = c.args in
    let p = c.requires in
    let ms = a.fronts.now.job.upper.now in
    let fronts = a.fronts.now in
    let r = fronts.job.total in
    let known = fronts.known in
    let few = fronts.job.asked.few in
    let g : List ℕ = take (length ms) a.cells.now in
    let valid = p.0 in
    let reached = composition_within valid fronts.width known.inside in
    let sum = sum_at (goal.at.block_of-block-requires c).After-sum_of-s in
    let inside =
    within fronts a.cells.now (omega (arith, few)) (serial_of ms r g)
    (serial_pos ms r g valid) (serial_le ms r g valid) (sym (composition_serial ms r g valid)) valid a.i p.1 in (
      omega (arith, sum, reached),
      subst (λ (s : ℕ). get_or fronts.starts s 0 + a.i < get_or fronts.starts (s + 1) 0) (sym sum) inside,
    )

-- the block of the composition
block_at : (c : After-block_of-block) →
    let a = c.args in
    let starts = a.fronts.now.starts in
    let s = sum_to (take (length a.fronts.now.job.upper.now) a.cells.now) a.fronts.now.width in
    IsBlock a.fronts.now.job.total s (get_or starts s 0) (get_or starts (s + 1) 0) a.i c.block_of-block.result
block_at c =
    let a = c.args in
    let starts = a.fronts.now.starts in
    subst (λ (s : ℕ). IsBlock a.fronts.now.job.total s (get_or starts s 0) (get_or starts (s + 1) 0) a.i c.block_of-block.result)
    (sum_at (goal.at.After-block_of-block c).After-sum_of-s) c.block_of-block.ensures

-- how many copies: some, and no more than the block has and than are wanted
some_at : (c : After-min-k) →
    let a = c.args in
    let ms = a.fronts.now.job.upper.now in
    let w = a.fronts.now.width in
    let k = c.min-k.result in
    let b = c.block_of-block.result in
    (0 < k) × (k ≤ b.count) × (k ≤ a.most) × (k < a.most → k ≡ b.count)
    × (b.count ≡ count ms w (sum_to (take (length ms) a.cells.now) w) - a.i)
    × Readable w b k 12288
some_at c =
    let a = c.args in
    let p = c.requires in
    let ms = a.fronts.now.job.upper.now in
    let fronts = a.fronts.now in
    let r = fronts.job.total in
    let known = fronts.known in
    let few = fronts.job.asked.few in
    let g : List ℕ = take (length ms) a.cells.now in
    let valid = p.0 in
    let b = c.block_of-block.result in
    let e = c.min-k.ensures in
    let here = block_at (goal.at.After-min-k c).After-block_of-block in
    let number =
    count_is fronts a.cells.now (omega (arith, few)) (serial_of ms r g)
    (serial_pos ms r g valid) (serial_le ms r g valid) (sym (composition_serial ms r g valid)) valid a.i p.1 b here in
    let reads =
    readable fronts a.cells.now (omega (arith, few)) (serial_of ms r g)
    (serial_pos ms r g valid) (serial_le ms r g valid) (sym (composition_serial ms r g valid)) valid a.i p.1 b here in (
      omega (arith, e, number, p.1.inside, p.2),
      omega (arith, e),
      omega (arith, e),
      λ l. omega (arith, e),
      number,
      subst (λ (size : ℕ). Readable fronts.width b c.min-k.result size) known.entry_bytes (reads c.min-k.result (omega (arith, e))),
    )

pub write_block-requires : goal.write_block-requires
write_block-requires c =
    let p = c.requires in
    let some = some_at (goal.at.write_block-requires c).After-min-k in (
      some.5,
      omega (arith, p.3, mul-le-mul_right (length c.args.fronts.now.job.upper.now) some.2),
    )

pub overflow_sub-k : goal.overflow_sub-k
overflow_sub-k c = (some_at (goal.at.overflow_sub-k c).After-min-k).0

pub go_on-requires : goal.go_on-requires
go_on-requires c =
    let some = some_at (goal.at.go_on-requires c).After-min-k in
    let k : ℕ = c.min-k.result in
    let back : k ≡ k - 1 + 1 = omega (arith, some.0) in
    subst (λ (m : ℕ). Readable c.args.fronts.now.width c.block_of-block.result m 12288) back some.5

pub returns : goal.returns
returns c =
    let a = c.args in
    let pre = c.requires in
    let ms = a.fronts.now.job.upper.now in
    let fronts = a.fronts.now in
    let r = fronts.job.total in
    let known = fronts.known in
    let few = fronts.job.asked.few in
    let w : ℕ = fronts.width in
    let g : List ℕ = take (length ms) a.cells.now in
    let k : ℕ = c.min-k.result in
    let b = c.block_of-block.result in
    let here = block_at (goal.at.returns c).After-block_of-block in
    let some = some_at (goal.at.returns c).After-min-k in (
      some.0,
      some.2,
      λ p low high is.
          let laid-at =
          laid_is fronts a.cells.now (omega (arith, few)) p low (omega arith) is pre.0 a.i pre.1 b here in
          let copies_at =
          block_copies fronts a.cells.now (omega (arith, few)) p low (omega arith) is pre.0 a.i pre.1 b here in
          let next =
          c.go_on.ensures (p + (k - 1)) (omega arith) (omega (arith, some.0, some.2)) (laid-at (k - 1) (omega (arith, some.0, some.1)))
          ∙ ap (composition_of ms r) (back p k some.0) in
          record {
            copies = c.write_block.ensures ∙ copies_at k some.1;
            next = next;
            entered = λ less.
                subst (λ (h : List ℕ). Entered ms r w h 0) (sym next)
                (next_block ms r w known.inside g pre.0 a.i pre.1 p low (omega arith) is k some.0
                (omega (arith, some.3 less, some.4, pre.1.inside)) (omega (arith, some.2)));
          },
    )
  where
    back : (p k : ℕ) → 0 < k → p + (k - 1) + 1 ≡ p + k
    back p k l = omega arith
