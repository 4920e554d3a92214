-- Parameters that are numbers, any count of them, in a walk by hand: their widths are a list, and a step here does for all of them what a step of the
-- kit does for one. What the walk has of them is one entry of the context, so no position depends on how many there are.
use mathlib.Core.Path.{◌≡◌, refl, sym, ap, subst}
use mathlib.Core.List.{List, [], ◌∷◌}
use Prim.Native.Nat.{ℕ, zero, suc, ◌<◌, ◌^◌}
use lib.Dec.{T, ltb, ltb→lt}
use seplogic.Ra.Ura.{Ura}
use base.Fraction.{full_share}
use mir.Syntax.{Width, Ty, ty_int, Local, local, value_local, Step as PStep, place, Opd as Operand, copy, int}
use mir.Val.{Val, vint, bits}
use base.Logic.{ent, sep, emp, via, id⊢}
use base.Fml.{ftrue, fat, froom, fdies}
use prog.Wp.{Heap, Env, Spot, spot_of}
use types.Logic.{Logic, sem}
use contract.Lifetimes.{Lfts}
use types.Kit.{Item, ‵, ◌⊛◌, ⋆, mean, nth, del, pull, unpull, push, pop, Goal, allocs, passes, frees, Seq, Step, step}
use types.Kit.{◌$◌, ◌∵◌, !, qed, use0, move, drop, split, join, fjoin, done}
use types.Run.{Walks, Finds, Opd, Opds, look, init, forget, stop, from, load, lit, and_then, no_more, alloc1, pass1, free1}
use denote.RattleType.{RattleType, Denots, Valss, owns, flat}
use denote.Laws.{Is, Ises, Are, Spells, valss, Tellss}
use denote.Plain.{UInt, uint_Makes, uint_vals, uint_Tells, uint_Lawful}
use denote.Signature.{Slot, plain, types_at}
use denote.Steps.{owned, nothing}
use denote.Exit.{yes}
use denote.Triple.End.{all, Fins}
use denote.Triple.Walked.{Stays, stay_none, has_of, fits_of, AllGo, Goes-none}

-- ---- numbers of given widths

abbrev pub Numbers : List Width → Type 0
Numbers [] = Unit {0}
Numbers (w ∷ ws) = ℕ × Numbers ws

abbrev pub Fits : (ws : List Width) → Numbers ws → Type 0
Fits [] ns = Unit {0}
Fits (w ∷ ws) ns = (ns.0 < 2 ^ bits w) × Fits ws ns.1

-- what a call passes on for one of them: the parameter itself, or a number that the program writes
pub data Source (w : Width) : Type 0 where
  passed : Source w
  written : (k : ℕ) → T (ltb k (2 ^ bits w)) → Source w

abbrev pub Sources : List Width → Type 0
Sources [] = Unit {0}
Sources (w ∷ ws) = Source w × Sources ws

abbrev given_by : {w : Width} → Source w → ℕ → ℕ
given_by passed n = n
given_by (written k z) n = k

abbrev pub asked : (ws : List Width) → Sources ws → Numbers ws → Numbers ws
asked [] ss ns = tt
asked (w ∷ ws) ss ns = (given_by ss.0 ns.0, asked ws ss.1 ns.1)

source_fits : {w : Width} (s : Source w) (n : ℕ) → n < 2 ^ bits w → given_by s n < 2 ^ bits w
source_fits passed n l = l
source_fits {w} (written k z) n l = ltb→lt k (2 ^ bits w) z

pub asked_fits : (ws : List Width) (ss : Sources ws) (ns : Numbers ws) → Fits ws ns → Fits ws (asked ws ss ns)
asked_fits [] ss ns f = tt
asked_fits (w ∷ ws) ss ns f = (source_fits ss.0 ns.0 f.0, asked_fits ws ss.1 ns.1 f.1)

-- ---- in the MIR: the locals, the environment, the operands from local i on, and the local j places behind

abbrev pub locals : List Width → List Local → List Local
locals [] ls = ls
locals (w ∷ ws) ls = local (ty_int w) value_local ∷ locals ws ls

abbrev operand : {w : Width} → Source w → ℕ → Operand
operand passed i = copy (place i [])
operand {w} (written k z) i = int w k

abbrev pub operands : (ws : List Width) → Sources ws → ℕ → List Operand
operands [] ss i = []
operands (w ∷ ws) ss i = operand ss.0 i ∷ operands ws ss.1 (suc i)

abbrev pub behind : List Width → ℕ → ℕ
behind [] j = j
behind (w ∷ ws) j = suc (behind ws j)

abbrev pub Blocks : List Width → Type 0
Blocks [] = Unit {0}
Blocks (w ∷ ws) = ℕ × Blocks ws

module _ {M : Type 1} (𝓤 : Ura M) (H : Heap 𝓤) where
  abbrev pub envs : (ws : List Width) → Blocks ws → Env 𝓤 H → Env 𝓤 H
  envs [] bs E = E
  envs (w ∷ ws) bs E = (ty_int w, bs.0) ∷ envs ws bs.1 E

  pub spot_behind : (ws : List Width) (bs : Blocks ws) (E : Env 𝓤 H) (j : ℕ) → spot_of 𝓤 H (envs ws bs E) (behind ws j) ≡ spot_of 𝓤 H E j
  spot_behind [] bs E j = refl
  spot_behind (w ∷ ws) bs E j = spot_behind ws bs.1 E j

  -- the environment without its first i locals
  abbrev pub less : ℕ → Env 𝓤 H → Env 𝓤 H
  less zero E = E
  less (suc i) [] = []
  less (suc i) (e ∷ E) = less i E

  spot_at : (E : Env 𝓤 H) (i : ℕ) (e : Ty × ℕ) (F : Env 𝓤 H) → less i E ≡ e ∷ F → spot_of 𝓤 H E i ≡ (e.0, e.1, zero)
  spot_at E zero e F p = ap (λ (G : Env 𝓤 H). spot_of 𝓤 H G zero) p
  spot_at [] (suc i) e F p = ap (λ (G : Env 𝓤 H). spot_of 𝓤 H G zero) p
  spot_at (d ∷ E) (suc i) e F p = spot_at E i e F p

  less_more : (E : Env 𝓤 H) (i : ℕ) (e : Ty × ℕ) (F : Env 𝓤 H) → less i E ≡ e ∷ F → less (suc i) E ≡ F
  less_more [] zero e F p = ap (less 1) p
  less_more (d ∷ E) zero e F p = ap (less 1) p
  less_more [] (suc i) e F p = ap (less 1) p
  less_more (d ∷ E) (suc i) e F p = less_more E i e F p

-- ---- in the signature

abbrev pub slots : {n : ℕ} → List Width → List (Slot n)
slots [] = []
slots (w ∷ ws) = plain (λ _. UInt w) ∷ slots ws

module _ (n : ℕ) where
  abbrev pub stays : (ws : List Width) → Stays {n = n} (slots ws) (all yes (slots ws))
  stays [] = tt
  stays (w ∷ ws) = (stay_none (λ _. UInt w) yes, stays ws)

  module _ (κs : Lfts n) where
    abbrev pub rows : List Width → List RattleType
    rows ws = types_at {n = n} (slots ws) κs

    abbrev pub into : (ws : List Width) → Numbers ws → Denots (rows ws)
    into [] ns = tt
    into (w ∷ ws) ns = (ns.0, into ws ns.1)

    abbrev pub out_of : (ws : List Width) → Denots (rows ws) → Numbers ws
    out_of [] a = tt
    out_of (w ∷ ws) a = (a.0, out_of ws a.1)

    pub in_out : (ws : List Width) (ns : Numbers ws) → out_of ws (into ws ns) ≡ ns
    in_out [] ns = refl
    in_out (w ∷ ws) ns = λ i. (ns.0, in_out ws ns.1 i)

    abbrev pub spells : (ws : List Width) → Spells (rows ws)
    spells [] = tt
    spells (w ∷ ws) = (uint_vals w, spells ws)

    abbrev pub tells : (ws : List Width) → Tellss (rows ws) (Ises (rows ws)) (spells ws)
    tells [] = tt
    tells (w ∷ ws) = (uint_Tells w, tells ws)

    -- their machine values
    abbrev pub values : (ws : List Width) → Denots (rows ws) → Valss (rows ws)
    values ws a = valss (rows ws) (spells ws) a

    pub fit : (ws : List Width) (a : Denots (rows ws)) → Are (rows ws) (Ises (rows ws)) a (values ws a) → Fits ws (out_of ws a)
    fit [] a are = tt
    fit (w ∷ ws) a are = (are.0.1, fit ws a.1 are.1)

    pub fit_into : (ws : List Width) (ns : Numbers ws) → Fits ws ns → Fits ws (out_of ws (into ws ns))
    fit_into [] ns f = tt
    fit_into (w ∷ ws) ns f = (f.0, fit_into ws ns.1 f.1)

    module _ {M : Type 1} {𝓤 : Ura M} (𝓛 : Logic 𝓤) where
      -- what they own is had for nothing, at entry of a callee and at exit
      pub owns_nums : (ws : List Width) (a : Denots (rows ws)) → Fits ws (out_of ws a) → ent 𝓤 (emp 𝓤) (sem 𝓛 (owns (rows ws) a (values ws a)))
      owns_nums [] a f = id⊢ 𝓤 (emp 𝓤)
      owns_nums (w ∷ ws) a f =
          qed 𝓛 [] ∵ use0 𝓛 (‵ (owns (rows ws) a.1 (values ws a.1))) (owns_nums ws a.1 f.1) $
          owned ! (UInt w) (Is (UInt w)) (uint_Makes 𝓛 w) a.0 _ (refl, f.0) $ fjoin ! $ done !

      pub has_nums : (ws : List Width) (a : Denots (rows ws)) (fs : Fins κs (slots ws) (all yes (slots ws)) a) → Fits ws (out_of ws a)
          → ent 𝓤 (emp 𝓤) (sem 𝓛 (has_of κs (slots ws) (all yes (slots ws)) (stays ws) a fs (values ws a)))
      has_nums [] a fs f = id⊢ 𝓤 (emp 𝓤)
      has_nums (w ∷ ws) a fs f =
          qed 𝓛 [] ∵
          use0 𝓛 (‵ (has_of κs (slots ws) (all yes (slots ws)) (stays ws) a.1 fs.1 (values ws a.1))) (has_nums ws a.1 fs.1 f.1) $
          owned ! (UInt w) (Is (UInt w)) (uint_Makes 𝓛 w) a.0 _ (refl, f.0) $ fjoin ! $ done !

    -- nothing is bound of their last values
    abbrev pub ends : (ws : List Width) (a : Denots (rows ws)) → Fins κs (slots ws) (all yes (slots ws)) a
    ends [] a = tt
    ends (w ∷ ws) a = (tt, ends ws a.1)

    pub ends_fit : (ws : List Width) (a : Denots (rows ws)) → fits_of κs (slots ws) (all yes (slots ws)) (stays ws) a (ends ws a)
    ends_fit [] a = tt
    ends_fit (w ∷ ws) a = (tt, ends_fit ws a.1)

  pub go : {M : Type 1} {𝓤 : Ura M} (𝓛 : Logic 𝓤) (ws : List Width)
      → AllGo 𝓛 n (slots ws) (all yes (slots ws)) (stays ws)
  go 𝓛 [] = tt
  go 𝓛 (w ∷ ws) = (Goes-none 𝓛 n (λ _. UInt w) yes (λ κs x f. refl), go 𝓛 ws)

-- ---- in the walk

module _ {M : Type 1} {𝓤 : Ura M} (𝓛 : Logic 𝓤) where
  -- room for them, and their cells
  abbrev pub rooms : (ws : List Width) → Blocks ws → Item 𝓤
  rooms [] bs = ‵ ftrue
  rooms (w ∷ ws) bs = (‵ (froom (ty_int w) bs.0 zero) ⊛ ‵ (fdies (ty_int w) bs.0)) ⊛ rooms ws bs.1

  abbrev pub cells : (ws : List Width) → Blocks ws → Numbers ws → Item 𝓤
  cells [] bs ns = ‵ ftrue
  cells (w ∷ ws) bs ns =
      (‵ (fat full_share (ty_int w) bs.0 zero (vint w ns.0)) ⊛ ‵ (fdies (ty_int w) bs.0)) ⊛ cells ws bs.1 ns.1

module _ {M : Type 1} {𝓤 : Ura M} {𝓛 : Logic 𝓤} {K : Type 0} where
  -- a local whose place is known by an equation
  open 𝓛 use {H}

  pub found : {Γ : List (Item 𝓤)} {E : Env 𝓤 H} → K → {i : ℕ} {st : List PStep} {sp sp' : Spot 𝓤 H} → spot_of 𝓤 H E i ≡ sp
      → Walks K 𝓛 Γ E sp st sp' → Finds K 𝓛 Γ E (place i st) sp'
  found {Γ} {E} t {i} {st} {sp} {sp'} e w = from t (subst (λ (s : Spot 𝓤 H). Walks K 𝓛 Γ E s st sp') (sym e) w)

  pub alloc_nums : {Γ : List (Item 𝓤)} → K → (ws : List Width) {ls : List Local} {Kt : Env 𝓤 H → Goal 𝓤 H}
      → ((bs : Blocks ws) → Seq K 𝓛 (rooms 𝓛 ws bs ∷ Γ) (allocs ls (λ E. Kt (envs 𝓤 H ws bs E)))) → Seq K 𝓛 Γ (allocs (locals ws ls) Kt)
  alloc_nums t [] k = nothing t $ k tt
  alloc_nums {Γ = Γ} t (w ∷ ws) {ls = ls} {Kt = Kt} k = alloc1 t (λ b. alloc_nums {Γ = ‵ (froom (ty_int w) b 0) ∷ ‵ (fdies (ty_int w) b) ∷ Γ} t ws (λ bs. move t (1 ∷ 2 ∷ 0 ∷ []) $ join t $ join t $ k (b, bs)))

  pub pass_nums : {Γ : List (Item 𝓤)} → K → (n : ℕ) (κs : Lfts n) (ws : List Width) (bs : Blocks ws) (a : Denots (rows n κs ws)) (E : Env 𝓤 H)
      {g : Goal 𝓤 H} → Fits ws (out_of n κs ws a)
      → Step K 𝓛 (cells 𝓛 ws bs (out_of n κs ws a) ∷ Γ) (passes E [] g)
      (rooms 𝓛 ws bs ∷ Γ) (passes (envs 𝓤 H ws bs E) (flat (rows n κs ws) (values n κs ws a)) g)
  pass_nums t n κs [] bs a E f = step (λ s. s)
  pass_nums {Γ = Γ} t n κs (w ∷ ws) bs a E f = step (λ s. split t $ split t $
      pass1 t (init t 0 refl ((uint_Lawful 𝓛 w).typed a.0 _ (refl, f.0)).0) $ move t (2 ∷ []) $
      pass_nums {Γ = ‵ (fat full_share (ty_int w) bs.0 zero (vint w a.0)) ∷ ‵ (fdies (ty_int w) bs.0) ∷ Γ} t n κs ws bs.1 a.1 E f.1 $
      move t (1 ∷ 2 ∷ 0 ∷ []) $ join t $ join t $ s)

  pub free_nums : {Γ : List (Item 𝓤)} → K → (ws : List Width) (bs : Blocks ws) (ns : Numbers ws) (E : Env 𝓤 H) {g : Goal 𝓤 H}
      → Step K 𝓛 Γ (frees E g) (cells 𝓛 ws bs ns ∷ Γ) (frees (envs 𝓤 H ws bs E) g)
  free_nums t [] bs ns E = drop t
  free_nums t (w ∷ ws) bs ns E = step (λ s. split t $ split t $ forget t 0 refl $ free1 t $ free_nums t ws bs.1 ns.1 E $ s)

  -- what reads in one context reads in another that is the same
  opds_like : {Γ Γ' : List (Item 𝓤)} {E : Env 𝓤 H} {xs : List Operand} {vs : List Val}
      → ent 𝓤 (⋆ 𝓛 Γ) (⋆ 𝓛 Γ') → ent 𝓤 (⋆ 𝓛 Γ') (⋆ 𝓛 Γ) → Opds K 𝓛 Γ E xs vs → Opds K 𝓛 Γ' E xs vs
  opds_like {Γ} {Γ'} to back o = record { go = λ Kt h. via 𝓤 (⋆ 𝓛 Γ) back (o.go Kt (via 𝓤 (⋆ 𝓛 Γ') to h)) }

  opd_like : {Γ Γ' : List (Item 𝓤)} {E : Env 𝓤 H} {x : Operand} {v : Val} → ent 𝓤 (⋆ 𝓛 Γ) (⋆ 𝓛 Γ') → ent 𝓤 (⋆ 𝓛 Γ') (⋆ 𝓛 Γ)
      → Opd K 𝓛 Γ E x v → Opd K 𝓛 Γ' E x v
  opd_like {Γ} {Γ'} to back o = record { go = λ Kt h. via 𝓤 (⋆ 𝓛 Γ) back (o.go Kt (via 𝓤 (⋆ 𝓛 Γ') to h)) }

  source_read : {Γ : List (Item 𝓤)} {E : Env 𝓤 H} {w : Width} → K → (s : Source w) (i : ℕ) (b n : ℕ) → spot_of 𝓤 H E i ≡ (ty_int w, b, zero)
      → Opd K 𝓛 (‵ (fat full_share (ty_int w) b zero (vint w n)) ∷ Γ) E (operand s i) (vint w (given_by s n))
  source_read t passed i b n e = load t (found t e (stop t)) (look t 0 refl)
  source_read t (written k z) i b n e = lit t z

  read_head : {Γ : List (Item 𝓤)} {E : Env 𝓤 H} → K → (n : ℕ) (κs : Lfts n) (ws : List Width) (ss : Sources ws) (bs : Blocks ws)
      (ns : Numbers ws) (i : ℕ) (F : Env 𝓤 H) → less 𝓤 H i E ≡ envs 𝓤 H ws bs F
      → Opds K 𝓛 (cells 𝓛 ws bs ns ∷ Γ) E (operands ws ss i) (flat (rows n κs ws) (values n κs ws (into n κs ws (asked ws ss ns))))
  read_head t n κs [] ss bs ns i F e = no_more t
  read_head {Γ = Γ} {E = E} t n κs (w ∷ ws) ss bs ns i F e =
      let c : Item 𝓤 = ‵ (fat full_share (ty_int w) bs.0 zero (vint w ns.0)) in
      let d : Item 𝓤 = ‵ (fdies (ty_int w) bs.0) in
      let r : Item 𝓤 = cells 𝓛 ws bs.1 ns.1 in
      and_then t
      (opd_like {Γ = c ∷ d ∷ r ∷ Γ} (qed 𝓛 (c ∷ d ∷ r ∷ Γ) ∵ join ! $ join ! $ done !) (qed 𝓛 (((c ⊛ d) ⊛ r) ∷ Γ) ∵ split ! $ split ! $ done !)
      (source_read t ss.0 i bs.0 ns.0 (spot_at 𝓤 H E i (ty_int w, bs.0) (envs 𝓤 H ws bs.1 F) e)))
      (opds_like {Γ = r ∷ c ∷ d ∷ Γ} (qed 𝓛 (r ∷ c ∷ d ∷ Γ) ∵ move ! (1 ∷ 2 ∷ 0 ∷ []) $ join ! $ join ! $ done !)
      (qed 𝓛 (((c ⊛ d) ⊛ r) ∷ Γ) ∵ split ! $ split ! $ move ! (2 ∷ []) $ done !)
      (read_head {Γ = c ∷ d ∷ Γ} t n κs ws ss.1 bs.1 ns.1 (suc i) F (less_more 𝓤 H E i (ty_int w, bs.0) (envs 𝓤 H ws bs.1 F) e)))

  -- the operands, where entry p of the context is their cells
  pub read_nums : {Γ : List (Item 𝓤)} {E : Env 𝓤 H} → K → (p : ℕ) (n : ℕ) (κs : Lfts n) (ws : List Width) (ss : Sources ws) (bs : Blocks ws)
      (ns : Numbers ws) (i : ℕ) (F : Env 𝓤 H) → nth 𝓛 p Γ ≡ cells 𝓛 ws bs ns → less 𝓤 H i E ≡ envs 𝓤 H ws bs F
      → Opds K 𝓛 Γ E (operands ws ss i) (flat (rows n κs ws) (values n κs ws (into n κs ws (asked ws ss ns))))
  read_nums {Γ} {E} t p n κs ws ss bs ns i F at e =
      let vs : List Val = flat (rows n κs ws) (values n κs ws (into n κs ws (asked ws ss ns))) in
      let head : Item 𝓤 = nth 𝓛 p Γ in
      let rest : List (Item 𝓤) = del 𝓛 p Γ in
      opds_like {Γ = head ∷ rest}
      (via 𝓤 (sep 𝓤 (mean 𝓛 head) (⋆ 𝓛 rest)) (pop 𝓛 head rest) (unpull 𝓛 p Γ))
      (via 𝓤 (sep 𝓤 (mean 𝓛 head) (⋆ 𝓛 rest)) (pull 𝓛 p Γ) (push 𝓛 head rest))
      (subst (λ (j : Item 𝓤). Opds K 𝓛 (j ∷ rest) E (operands ws ss i) vs) (sym at) (read_head t n κs ws ss bs ns i F e))
