-- `blocks::write` meets its contract.
use Rattle.std.proofs.Common.{◌≡◌, refl, sym, ap, ◌∙◌, List, ◌++◌, ℕ, ◌+◌, ◌-◌, ◌*◌, ◌≤◌, ◌<◌, arith, length, take, drop, Option, Some, None, IfSome}
use Rattle.std.specs.Option.{unwrap_or}
use native.Mathlib.Nat.{add-mul, zero-mul}
use lib.Seq.{take_all}
use borrow.Author.Tests.{ltb-false}
use borrow.Rule.Slice.PartMut.{same_len_mid}
use Rattle.walsh.specs.Order.{count_of}
use Rattle.walsh.proofs.Serials.{serial_pos}
use Rattle.bounds.specs.Edition.{shape_checks, limit_checks, edition_checks}
use Rattle.bounds.specs.declared.Refusal.{Refusal}
use Rattle.bounds.proofs.Refusals.{passed}
use Rattle.bounds.proofs.Chains.{Accepts, accepts_split}
use Rattle.step.specs.Batch.{copies_of, batch_of}
use Rattle.bounds.specs.Refusal.{refused}
use Rattle.step.proofs.Copies.{part_length, put_taken, copies_none}
use Rattle.step.proofs.Batches.{batch_accepts}
use Rattle.blocks.specs.declared.job.Job.{Job}
use Rattle.blocks.specs.Blocks.{Begun}
use Rattle.blocks.proofs.Copied.{copies_add}
use Rattle.blocks.proofs.write.Goals as goal
use Rattle.blocks.proofs.write.Goals.{After-unwrap_or-done}

-- where no block was written, the runs begin with the first copy
begun_or : (job : Job) (out : List ℕ) (o : Option ℕ) → IfSome o (λ done. Begun job done out) → Begun job (unwrap_or o 0) out
begun_or job out None h = record { left = omega (arith, job.many); copies = rw (zero-mul, copies_none) }
begun_or job out (Some done) h = h

-- N of an accepted edition
count_limit : (ms : List ℕ) (r : ℕ) → Accepts (edition_checks ms r) → count_of ms r ≤ 9223372036854775807
count_limit ms r e =
    ltb-false 9223372036854775807 (count_of ms r) (passed _ _ refl (accepts_split (shape_checks ms r) (limit_checks ms r) refl e).1).0

begun : (c : After-unwrap_or-done) → Begun c.args.job c.unwrap_or-done.result c.by_blocks.new.out
begun c = rw c.unwrap_or-done.ensures (begun_or c.args.job c.by_blocks.new.out c.by_blocks.result c.by_blocks.ensures)

-- the copies that are left have their room, and their serials
left_at : (c : After-unwrap_or-done) →
    let a = c.args in
    let ms = a.job.upper.now in
    let done = c.unwrap_or-done.result in
    (done + 40 ≤ a.job.copies) × (length a.out.now ≡ done * length ms + (a.job.copies - done) * length ms) × (0 < a.serial)
    × (a.serial + a.job.copies ≤ count_of ms a.job.total + 1)
left_at c =
    let a = c.args in
    let ms = a.job.upper.now in
    let done : ℕ = c.unwrap_or-done.result in
    let few = (begun c).left in
    let all : a.job.copies ≡ done + (a.job.copies - done) = omega (arith, few) in
    let asked = a.job.asked in (
      few,
      c.requires.1 ∙ ap (λ (m : ℕ). m * length ms) all ∙ add-mul done (a.job.copies - done) (length ms),
      omega (arith, c.requires.2, serial_pos ms a.job.total _ asked.valid),
      omega (arith, c.requires.2, asked.within),
    )

pub overflow_add-serial : goal.overflow_add-serial
overflow_add-serial c =
    omega (arith, left_at (goal.at.overflow_add-serial c).After-unwrap_or-done, count_limit c.args.job.upper.now c.args.job.total c.requires.0)

-- the copies that are left are accepted
rest : (c : After-unwrap_or-done) →
    let a = c.args in
    let ms = a.job.upper.now in
    let done = c.unwrap_or-done.result in
    let out = c.by_blocks.new.out in
    let part = take (length out - done * length ms) (drop (done * length ms) out) in
    (length part ≡ (a.job.copies - done) * length ms)
    × (batch_of ms a.job.total (a.serial + done) (a.job.copies - done) part ≡ (refused 0 0, copies_of ms a.job.total (a.serial + done) (a.job.copies - done)))
rest c =
    let a = c.args in
    let ms = a.job.upper.now in
    let n : ℕ = length ms in
    let done : ℕ = c.unwrap_or-done.result in
    let out : List ℕ = c.by_blocks.new.out in
    let same : length out ≡ length a.out.now = c.by_blocks.auto.out in
    let left = left_at c in
    let part : List ℕ = take (length out - done * n) (drop (done * n) out) in
    let size : length part ≡ (a.job.copies - done) * n = part_length out (done * n) ∙ omega (arith, same, left.1) in (
      size,
      batch_accepts ms a.job.total (a.serial + done) (a.job.copies - done) part c.requires.0 (omega (arith, left.2)) (omega (arith, left))
          (omega (arith, left)) size,
    )

pub returns-clause-accepted : goal.returns-clause-accepted
returns-clause-accepted c =
    ap (λ (p : Refusal × List ℕ). p.0) (c.batch.ensures ∙ (rest (goal.at.returns-clause-accepted c).After-unwrap_or-done).1)

pub returns-clause-written : goal.returns-clause-written
returns-clause-written c =
    let a = c.args in
    let ms = a.job.upper.now in
    let n : ℕ = length ms in
    let here = (goal.at.returns-clause-written c).After-unwrap_or-done in
    let done : ℕ = c.unwrap_or-done.result in
    let out : List ℕ = c.by_blocks.new.out in
    let same : length out ≡ length a.out.now = c.by_blocks.auto.out in
    let left = left_at here in
    let part : List ℕ = take (length out - done * n) (drop (done * n) out) in
    let (size, accepts) = rest here in
    let ys : List ℕ = c.batch.new.out in
    let is : ys ≡ copies_of ms a.job.total (a.serial + done) (a.job.copies - done) = ap (λ (p : Refusal × List ℕ). p.1) (c.batch.ensures ∙ accepts) in
    let first : take (done * n) out ≡ copies_of ms a.job.total a.serial done =
    (begun here).copies ∙ ap (λ (s : ℕ). copies_of ms a.job.total s done) (sym c.requires.2) in
    let all : done + (a.job.copies - done) ≡ a.job.copies = omega (arith, left.0) in
    let kept : length ys ≡ length part = c.batch.auto.out in
    let whole = same_len_mid (done * n) (length out - done * n) out ys kept in
    let copies = copies_add ms a.job.total a.serial done (a.job.copies - done) in
    sym (take_all (done * n + (a.job.copies - done) * n) _ (omega (arith, whole, same, left.1)))
    ∙ put_taken out ys _ (done * n) ((a.job.copies - done) * n) (omega (arith, same, left.1)) (omega (arith, kept, size))
    ∙ ap (λ (l : List ℕ). l ++ take ((a.job.copies - done) * n) ys) first
    ∙ ap (λ (l : List ℕ). copies_of ms a.job.total a.serial done ++ l) (take_all ((a.job.copies - done) * n) ys (omega (arith, kept, size)) ∙ is)
    ∙ sym copies
    ∙ ap (copies_of ms a.job.total a.serial) all
