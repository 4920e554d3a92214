-- What the walk uses beside the kit: a store on acceptance alone.
use mathlib.Core.Path.{◌≡◌, refl, sym, ap, ◌∙◌, subst}
use mathlib.Core.Bool.{Bool, true, false, not}
use mathlib.Core.List.{List}
use lib.Dec.{T, eqb}
use borrow.Author.Tests.{ne_eqb}
use seplogic.Ra.Ura.{Ura}
use mir.Syntax.{Place, Opd as Operand, Rv as RValue, Body, seq, cond as condᴹ, assign, skip}
use mir.Val.{Val, vbool}
use prog.Wp.{Env, Spot, Calls, Loops}
use types.Logic.{Logic}
use types.Kit.{Item, Post, runs, Step, step, ◌$◌}
use types.Run.{Opd, Rv, Finds, Writes, first, branches, assigns_last, skips}
use Rattle.model.specs.Entry.{Lent as Columns}
use Rattle.model.specs.Model.{Call}
use Rattle.model.specs.Record.{answered, record_after, calling}
use Rattle.model.specs.declared.Claimed.{Claimed}
use Rattle.model.specs.declared.Ledger.{Ledger}

is_false : (b : Bool) → T (not b) → b ≡ false
is_false true n = absurd n
is_false false n = refl

-- a refused call hands back the record that it was given
pub refused_same : (h : Ledger) (x : Columns) (c : Call) (r : Claimed) (y : Columns) → (r, y) ≡ calling h x c
    → T (not (eqb r.answer.number 0)) → h ≡ r.ledger
unfolding calling record_after
refused_same h x c r y e n =
    let a : r.answer ≡ answered h x c = ap (λ (z : Claimed × Columns). z.0.answer) e in
    let l : r.ledger ≡ record_after h x c = ap (λ (z : Claimed × Columns). z.0.ledger) e in
    let f : eqb (answered h x c).number 0 ≡ false = is_false _ (rw (← a) n) in
    sym (l ∙ rw f)

-- `if c { p = rv; }`: where the test fails, what stands there is what the assignment would leave
module _ {M : Type 1} {𝓤 : Ura M} {𝓛 : Logic 𝓤} {K : Type 0} {Γ : List (Item 𝓤)} {E : Env 𝓤 𝓛.H}
    {C : Calls 𝓤 𝓛.H} {Λ : Loops 𝓤 𝓛.H} {q : Post 𝓤 𝓛.H} where
  open 𝓛 use {H}

  pub assigns_if : K → {c : Operand} {p : Place} {rv : RValue} {rest : Body} {y : Bool} {v : Val} {sp : Spot 𝓤 H} {Γ' : List (Item 𝓤)}
      → Opd K 𝓛 Γ E c (vbool y) → Rv K 𝓛 Γ E rv v → Finds K 𝓛 Γ E p sp → Writes K 𝓛 Γ sp.0 sp.1 sp.2 v Γ'
      → (T (not y) → Step K 𝓛 Γ' (runs C Λ E rest q) Γ (runs C Λ E rest q))
      → Step K 𝓛 Γ' (runs C Λ E rest q) Γ (runs C Λ E (seq (condᴹ c (assign p rv) skip) rest) q)
  assigns_if t o r f w same = step (λ s.
      first t $ branches t o (λ _. assigns_last t r f w $ record { prf = s.prf }) (λ n. skips t $ record { prf = (same n $ s).prf }))

-- what is stored where the core was accepted is what it answered
pub accepted_stored : (h : Ledger) (x : Columns) (c : Call) (r : Claimed) (l : Ledger) (y : Columns) → (r, y) ≡ calling h x c → l ≡ r.ledger
    → ◌≡◌ {A = Claimed × Columns} (record { answer = r.answer; ledger = l }, y) (calling h x c)
accepted_stored h x c r l y e p = (λ i. (record { answer = r.answer; ledger = p i }, y)) ∙ e

-- where it was refused, the record that was lent is what it answered
pub refused_kept : (h : Ledger) (x : Columns) (c : Call) (r : Claimed) (l : Ledger) (y : Columns) → (r, y) ≡ calling h x c
    → (r.answer.number ≡ 0 → ⊥) → l ≡ h
    → ◌≡◌ {A = Claimed × Columns} (record { answer = r.answer; ledger = l }, y) (calling h x c)
refused_kept h x c r l y e n p = accepted_stored h x c r l y e (p ∙ refused_same h x c r y e (subst (λ (b : Bool). T (not b)) (sym (ne_eqb r.answer.number 0 n)) tt))
