use mathlib.Core.Path.{◌≡◌, sym, ap, ◌∙◌, subst}
use mathlib.Core.List.{List}
use Prim.Native.Nat.{ℕ, ◌+◌, ◌-◌, ◌*◌, ◌≤◌}
use native.Mathlib.Nat.{zero-mul, add-zero}
use native.Mathlib.Omega.{arith}
use lib.ListN.{length, take, drop, length-append, length-drop}
use lib.Seq.{take_at, take_all, length-take-le}
use borrow.Author.Rules.{rules}
use Rattle.walsh.specs.Order.{Composition}
use Rattle.walsh.specs.Serial.{composition_of}
use Rattle.walsh.proofs.Serials.{composition_is, composition_serial, serial_pos}
use Rattle.step.specs.Batch.{copies_of}
use Rattle.step.specs.Run.{shown}
use Rattle.step.proofs.Runs.{shown_own, shown_front}
use Rattle.step.proofs.Copies.{part_within, part_next, part_length, put_taken, copies_none, copies_next}
use Rattle.step.proofs.batch.write_runs.Invariants.{from}
use Rattle.step.proofs.batch.write_runs.Goals as goal
use Rattle.step.proofs.batch.write_runs.Goals.{In-loop-j, Start}

-- the first n cells of the first composition
first_at : (c : Start) → length (take (length c.args.shape.upper.now) c.args.first) ≡ length c.args.shape.upper.now
first_at c = c.requires.valid.size

pub slice_bounds-run_of-end : goal.slice_bounds-run_of-end
slice_bounds-run_of-end c = sym (first_at (goal.at.slice_bounds-run_of-end c).Start)

pub run_of-run-requires : goal.run_of-run-requires
run_of-run-requires c = first_at (goal.at.run_of-run-requires c).Start

pub loop-j-init : goal.loop-j-init
loop-j-init c =
    let a = c.args in
    let ms = a.shape.upper.now in
    let g = take (length ms) a.first in
    let new = c.run_of-run.ensures in record {
      long = search rules;
      written = rw zero-mul (sym (copies_none _ _ _));
      running = new.2;
      next = λ l. rw add-zero (shown_own a.shape.front c.run_of-run.result g new.0 new.1 ∙ sym (composition_serial ms a.shape.total g c.requires.valid));
    }

-- the part lies within
within_at : (c : In-loop-j) →
    let l = c.loop-j in
    l.j * length c.args.shape.upper.now + length c.args.shape.upper.now ≤ length l.out
within_at c =
    let l = c.loop-j in
    let a = c.args in
    omega (arith, part_within l.j a.copies (length a.shape.upper.now) c.loop-j-test.true, c.requires.room, l.auto.out)

-- the first n cells
front_at : (c : In-loop-j) →
    let n = length c.args.shape.upper.now in
    length (take n c.loop-j.parts) ≡ n
front_at c = length-take-le _ _ (omega (arith, c.requires.few, c.loop-j.invariant.long))

-- the run and the parts show a composition
shows_at : (c : In-loop-j) →
    let l = c.loop-j in
    let a = c.args in
    Composition a.shape.upper.now a.shape.total (shown a.shape.front l.run (take (length a.shape.upper.now) l.parts))
shows_at c =
    let l = c.loop-j in
    let a = c.args in
    let ms = a.shape.upper.now in
    let s = from ms a.shape.total a.first in
    let low = serial_pos ms a.shape.total _ c.requires.valid in
    subst (Composition ms a.shape.total) (sym (l.invariant.next c.loop-j-test.true))
    (composition_is ms a.shape.total (s + l.j) (omega arith) (omega (arith, c.requires.within, c.loop-j-test.true)))

pub put-requires : goal.put-requires
put-requires c =
    let l = c.loop-j in
    let p = c.args.shape.in_front in
    let at : ℕ = l.j * length c.args.shape.upper.now in (
      l.invariant.long,
      p.apart,
      omega (arith, p.inside, c.requires.few),
      omega (arith, part_length l.out at, within_at (goal.at.put-requires c).In-loop-j, p.inside),
    )

pub onward-run-requires : goal.onward-run-requires
onward-run-requires c =
    let p = c.requires in
    let i = (goal.at.onward-run-requires c).In-loop-j in
    (p.small, front_at i, c.loop-j.invariant.running, shows_at i)

pub slice_bounds-onward-end : goal.slice_bounds-onward-end
slice_bounds-onward-end c = sym (front_at (goal.at.slice_bounds-onward-end c).In-loop-j)

pub loop-j-preserved : goal.loop-j-preserved
loop-j-preserved c =
    let on = c.onward-run in
    let put = c.put in
    let i = (goal.at.loop-j-preserved c).In-loop-j in
    let l = c.loop-j in
    let a = c.args in
    let ms = a.shape.upper.now in
    let n = length ms in
    let at : ℕ = l.j * n in
    let s = from ms a.shape.total a.first in
    let ys : List ℕ = put.new.out in
    let rest : List ℕ = take (length l.out - at) (drop at l.out) in
    let kept : length ys ≡ length rest = put.auto.out in
    let left = part_length l.out at in
    let few = c.requires.few in
    let p = c.args.shape.in_front in
    let front = shown_front a.shape.front l.run p.apart l.parts rest n p.inside (omega (arith, l.invariant.long)) (omega (arith, within_at i, left)) in
    let h : List ℕ = on.new.parts in
    let size : length h ≡ n = on.auto.parts ∙ front_at i in
    let here = l.invariant.next c.loop-j-test.true in
    let next = copies_next ms a.shape.total s l.j in
    let done = l.invariant.written in
    let written = ap (take n) put.ensures in
    let low = serial_pos ms a.shape.total _ c.requires.valid in
    let then : s + l.j + 1 ≡ s + (l.j + 1) = omega arith in record {
      long = simp (length-append, length-drop) (omega (arith, size, few, l.invariant.long));
      written = rw (part_next l.j n) (put_taken l.out ys _ at n (omega (arith, within_at i)) (omega (arith, within_at i, kept, left)) ∙ cc);
      running = on.ensures.running;
      next = λ more. rw (take_at h (drop n l.parts) n size)
          (on.ensures.next (s + l.j) (omega (arith, low)) (omega (arith, c.requires.within)) here)
          ∙ ap (composition_of ms a.shape.total) then;
    }

pub returns : goal.returns
returns c =
    let l = c.loop-j in
    let a = c.args in
    let n = length a.shape.upper.now in
    let e : l.j ≡ a.copies = omega arith in
    let all : l.j * n ≡ a.copies * n = ap (λ (k : ℕ). k * n) e in
    let s = from a.shape.upper.now a.shape.total a.first in
    sym (take_all (l.j * n) l.out (omega (arith, c.requires.room, l.auto.out))) ∙ l.invariant.written ∙ ap (copies_of a.shape.upper.now a.shape.total s) e
