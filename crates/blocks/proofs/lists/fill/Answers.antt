use Rattle.std.proofs.Common.{◌≡◌, ◌∙◌, subst, List, ℕ, suc, ◌+◌, ◌-◌, ◌*◌, ◌≤◌, arith, length, length-set, length-take, length-drop, add-one}
use native.Mathlib.Nat.{add-mul, zero-mul}
use lib.Seq.{get_or-set_same}
use Rattle.blocks.specs.Lists.{number_to, ListedTo, ListsAll}
use Rattle.blocks.proofs.Listed.{listed_none, listed_next}
use Rattle.blocks.proofs.lists.fill.Goals as goal

pub loop-s-init : goal.loop-s-init
loop-s-init c = (
  omega (arith, zero-mul (length c.args.upper.now)),
  listed_none _ _ _ (get_or-set_same c.args.starts.now 0 0 0 (omega (arith, c.requires.2))),
)

pub loop-s-preserved : goal.loop-s-preserved
loop-s-preserved c =
    let a = c.args in
    let l = c.loop-s in
    let w : ℕ = length a.upper.now in
    let more : ℕ = c.in_ok-number.field-0 in
    let all : ListsAll a.upper.now l.s more c.list_all.new.out = c.in_ok-number.ensures in
    let out : List ℕ = c.list_all.new.out in
    let size : length out ≡ length a.entries.now - 16 - l.number * w =
    c.list_all.auto.out ∙ simp (length-take, length-drop) (omega arith) in
    let sum = add-mul l.number more w in (
      omega (arith, all.room, size, sum),
      listed_next a.upper.now l.s l.number more l.entries l.starts out _ l.invariant.1 all (omega arith) (omega (arith, all.room))
          (omega (arith, length-set a.starts.now 0 0)),
    )

pub returns : goal.returns
returns c =
    let l = c.loop-s in
    let a = c.args in
    let u = a.upper.now in
    let e : l.s ≡ a.most + 1 = omega arith in
    let listed = subst (λ (k : ℕ). ListedTo u k l.number l.entries l.starts) (e ∙ add-one a.most) l.invariant.1 in
    let n : l.number ≡ number_to u (suc a.most) = listed.number_is in
    record {
      listed = subst (λ (k : ℕ). ListedTo u (suc a.most) k l.entries l.starts) n listed;
      room = subst (λ (k : ℕ). k * length u + 16 ≤ length l.entries) n (omega (arith, l.invariant.0, c.requires.1));
    }
