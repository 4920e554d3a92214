-- `blocks::lists::list_all` meets its contract.
use Rattle.std.proofs.Common.{◌≡◌, ap, ◌∙◌, List, ℕ, ◌*◌, ◌≤◌, ◌<◌, arith, length, take, drop, length-append, length-take-le}
use native.Mathlib.Nat.{div-mul-le_self, mul-le-mul_right}
use lib.Seq.{take_at}
use Rattle.walsh.specs.Order.{count_of}
use Rattle.bounds.specs.Edition.{edition_checks}
use Rattle.bounds.specs.Reason.{told}
use Rattle.bounds.proofs.Chains.{Accepts}
use Rattle.bounds.proofs.Editions.{edition_shapely}
use Rattle.bounds.proofs.Reasons.{accepted}
use Rattle.step.specs.Batch.{copies_of}
use Rattle.step.proofs.Consequences.{batch_accepted}
use Rattle.blocks.proofs.Listed.{was_ok}
use Rattle.blocks.proofs.lists.list_all.Goals as goal
use Rattle.blocks.proofs.lists.list_all.Goals.{In_ok-n}

-- an accepted edition
known : (c : In_ok-n) → let a = c.args in
    Accepts (edition_checks a.upper.now a.total) × (c.in_ok-n.n ≡ count_of a.upper.now a.total)
known c =
    let is = was_ok c.number.result _ _ c.ok.ensures.value c.in_ok-n.was in
    (accepted _ (rw is at c.number.ensures.refusal), rw is at c.number.ensures.count)

some : (c : In_ok-n) → 0 < length c.args.upper.now
some c = (edition_shapely c.args.upper.now c.args.total (known c).0).some

pub nonzero_div-out : goal.nonzero_div-out
nonzero_div-out c = some (goal.at.nonzero_div-out c).In_ok-n

pub returns : goal.returns
returns c =
    let a = c.args in
    let ms = a.upper.now in
    let n : ℕ = c.in_ok-n.n in
    let count = (known (goal.at.returns c).In_ok-n).1 in
    let ys : List ℕ = c.batch.new.out in
    let room : n * length ms ≤ length a.out.now =
    omega (arith, mul-le-mul_right (length ms) c.if-out-parts.false, div-mul-le_self (length a.out.now) (length ms)) in
    let ok : (told c.batch.result).number ≡ 0 = rw (was_ok c.batch.result _ _ c.ok-2.ensures.value c.in_ok-ok.was) in
    let done = batch_accepted ms a.total 1 n (take (n * length ms) a.out.now) ys (told c.batch.result) c.batch.ensures ok in
    let size : length ys ≡ n * length ms = c.batch.auto.out ∙ length-take-le (n * length ms) a.out.now room in
    record {
      some = some (goal.at.returns c).In_ok-n;
      number_is = count;
      room = rw length-append (omega arith);
      held = take_at ys (drop (n * length ms) a.out.now) (n * length ms) size ∙ done.1 ∙ ap (copies_of ms a.total 1) count;
    }
