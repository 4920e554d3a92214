-- A lent column of numbers of one width in a walk by hand: its parameter, and the step by which it is passed on to a callee for good.
use mathlib.Core.Path.{◌≡◌, refl, sym, subst}
use mathlib.Core.List.{List, [], ◌∷◌}
use Prim.Native.Nat.{ℕ, zero, ◌<◌, ◌^◌}
use seplogic.Ra.Ura.{Ura}
use base.Fraction.{full_share}
use mir.Syntax.{Width, Lifetime, Ty, ty_int, ty_ref, mut, erased, Body, seq, assign, place, field, deref, copy, addr_of, aggregate}
use mir.Val.{Val, vptr}
use base.Fml.{fat, froom}
use prog.Wp.{Env, Calls, Loops, spot_of}
use types.Logic.{Logic}
use types.Kit.{Item, ‵, nth, put, Post, runs, Step, step, ◌$◌}
use types.Run.{look, init, stop, hop, fld, load, addr, and_then, no_more, assigns}
use types.Part.{Part, agg, whole, sub, look_in}
use denote.Plain.{UInt}
use denote.Builtin.{SliceRefMutOf}
use denote.Slice.{slice_ty, slice_val}
use denote.Signature.{Slot, AllWithin, plain}
use denote.Exit.{yes}
use denote.Triple.Walked.{Stay, gave_slice}
use Rattle.lent.proofs.Numbers.{found}

-- the parameter, lent for lifetime j; at exit it was given away
abbrev pub column : {n : ℕ} (j : ℕ) → AllWithin n (j ∷ []) → Width → Slot n
column j ok w = SliceRefMutOf (j ∷ []) ok (plain (λ _. UInt w)) (λ _. tt)

abbrev pub gave : {n : ℕ} (j : ℕ) (ok : AllWithin n (j ∷ [])) (w : Width) → Stay (column {n = n} j ok w) yes
gave {n} j ok w = gave_slice {n = n} (j ∷ []) ok (plain (λ _. UInt w))

-- in the MIR: its pointer's type, its own, and the statements that copy parameter i to local s, its pointer by local p
abbrev pub pointer : Lifetime → Width → Ty
pointer ℓ w = ty_ref ℓ mut (ty_int w)

abbrev pub slice : Lifetime → Width → Ty
slice ℓ w = slice_ty (pointer ℓ w)

abbrev pub copied_to : Width → (i p s : ℕ) → Body → Body
copied_to w i p s rest =
    seq (assign (place p []) (addr_of (place i (field 0 ∷ deref (ty_int w) ∷ []))))
    (seq (assign (place s []) (aggregate (copy (place p []) ∷ copy (place i (field 1 ∷ [])) ∷ []))) rest)

abbrev cell : {M : Type 1} (𝓤 : Ura M) → Ty → ℕ → Val → Item 𝓤
cell 𝓤 τ l v = ‵ (fat full_share τ l zero v)

module _ {M : Type 1} {𝓤 : Ura M} {𝓛 : Logic 𝓤} {K : Type 0} where
  open 𝓛 use {H}

  part : K → {i : Item 𝓤} {τ : Ty} {l : ℕ} {v : Val} → i ≡ cell 𝓤 τ l v → Part K 𝓛 i full_share τ l zero v (λ u. cell 𝓤 τ l u)
  part t {i} {τ} {l} {v} e = subst (λ (j : Item 𝓤). Part K 𝓛 j full_share τ l zero v (λ u. cell 𝓤 τ l u)) (sym e) (whole t)

  -- entry a of the context is the parameter, b and c are room for the two locals
  pub copies : {Γ : List (Item 𝓤)} {E : Env 𝓤 H} {C : Calls 𝓤 H} {Λ : Loops 𝓤 H} {q : Post 𝓤 H}
      → K → {w : Width} {ℓ : Lifetime} {i p s l m k n : ℕ} {at : ℕ × ℕ} {rest : Body} → n < 2 ^ 64
      → spot_of 𝓤 H E i ≡ (slice ℓ w, l, zero) → spot_of 𝓤 H E p ≡ (pointer erased w, m, zero) → spot_of 𝓤 H E s ≡ (slice erased w, k, zero)
      → (a b c : ℕ) → nth 𝓛 a Γ ≡ cell 𝓤 (slice ℓ w) l (slice_val at n) → nth 𝓛 b Γ ≡ ‵ (froom (pointer erased w) m zero)
      → let Δ : List (Item 𝓤) = put 𝓛 b (cell 𝓤 (pointer erased w) m (vptr at.0 at.1)) Γ in
      nth 𝓛 a Δ ≡ cell 𝓤 (slice ℓ w) l (slice_val at n) → nth 𝓛 b Δ ≡ cell 𝓤 (pointer erased w) m (vptr at.0 at.1)
      → nth 𝓛 c Δ ≡ ‵ (froom (slice erased w) k zero)
      → Step K 𝓛 (put 𝓛 c (cell 𝓤 (slice erased w) k (slice_val at n)) Δ) (runs C Λ E rest q) Γ (runs C Λ E (copied_to w i p s rest) q)
  copies t small ati atp ats a b c ea eb ea' eb' ec = step (λ z.
      assigns t (addr t (found t ati (fld t refl (hop t (look_in t a (sub t 0 refl (part t ea))) (stop t))))) (found t atp (stop t))
      (init t b eb (tt, tt)) $
      assigns t (agg t (and_then t (load t (found t atp (stop t)) (look t b eb'))
      (and_then t (load t (found t ati (fld t refl (stop t))) (look_in t a (sub t 1 refl (part t ea')))) (no_more t))))
      (found t ats (stop t)) (init t c ec (tt, (tt, (record { fits = small }, tt)))) $ z)
