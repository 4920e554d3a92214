-- Today's prover makes the walk below by itself, of a function that stores the record by way of one local more, and so are `engine::huz_claim_in` and
-- `huz_void_in` proved. This one is as it was, of the function that an older compiler made of them: no code is tied to it now (docs/PORT.md).
--
-- The walk of a call on a lent record, for any by-value core whose further parameters are the two columns and numbers, statement by statement of the
-- MIR. The lent record is opened and copied; both columns are given to the core for good; the
-- record that comes back is stored where the test holds, and is the lent one where it fails, so the loan is closed at it. Of the core only the
-- contract is used. Each comment in brackets is the context at that place, from position 0.
use mathlib.Core.Path.{◌≡◌, refl, ap, ◌∙◌}
use mathlib.Core.List.{[], ◌∷◌, List}
use mathlib.Core.Bool.{Bool, not}
use Prim.Native.Nat.{ℕ, suc, ◌^◌}
use lib.Dec.{T, eqb, ltb}
use lib.ListN.{length}
use seplogic.Ra.Ura.{Ura}
use base.Fraction.{full_share}
use mir.Syntax.{Callee, Width, w8, w32, ty_bool, ty_ref, mut, named, erased, local, value_local, Fn}
use mir.Syntax.{place, deref, field, Opd as Operand, copy, int, Rv as RValue, rv_opd, op2, eq, ne}
use mir.Syntax.{seq, assign, cond, skip, return, call as callᴹ}
use mir.Val.{Val, vint, vbool, vptr, bits}
use base.Logic.{SProp, ent, sep, emp, via, fst∗, id⊢}
use base.Fml.{Lft, Share, GName, ftrue, fsep, fat, flft, fobs, fbor}
use prog.Wp.{Env, Calls, Loops, WpFn, Tables, spot_of}
use types.Logic.{Logic}
use contract.Monad.{fact}
use contract.Lifetimes.{Lfts}
use types.Kit.{Item, ‵, mean, raw, some, later, ◌⊛◌, ⋆, ◌$◌, ◌∵◌, !, qed, by, move, keep, drop, use0, use1, use3}
use types.Kit.{split, join, pick, rewrite, suffices, frame, await, done, fsplit, fsplit3, fjoin, fjoin3, feq_l, feq_i}
use types.Run.{Opd, Rv, look, look_raw, init, store_raw, forget, stop, hop, fld, from, load, lit, bin, of_opd, and_then}
use types.Run.{assigns, land, returns, enter, alloc1, alloc0, params1, pass1, pass0, free1, free0}
use types.Part.{whole, sub, look_in}
use types.SemTy.{Arr, Body}
use types.Hole.{Holey}
use sound.WpLaws.{FmC, fm_of, WpFn-mono}
use denote.RattleType.{Denots, owns, flat}
use denote.Memory.{mem, cell_at, pointee}
use denote.Laws.{Is, shows}
use denote.Builtin.{u8, u32, RefMutOf}
use denote.Ref.{MutBor, mut_vals, mut_Tells}
use denote.Slice.{mut_slice_vals, MutSlice, Room, finally, mut_slice_Tells}
use denote.Signature.{plain, types_at}
use denote.Steps.{only, opens, closes, owned, peeks, heard}
use denote.Struct.Steps.{spelt}
use denote.Struct.Laws as LL
use denote.Triple.Entry.{Args, Vals, on_entry}
use denote.Triple.End.{all}
use denote.Triple.Spec.{Meets, triple_of}
use denote.Triple.Statement.{Contract, Triple}
use denote.Triple.Call.{calls_at}
use denote.Triple.Clauses.{Ended, Clauses, Lasts, ensured, lasts, closing}
use denote.Triple.Walked.{says, Stays, stay_ref, walk_of, Goes-ref, Goes-gave_slice, Walks, ends_at, walked, walk_Meets, has_of}
use denote.Exit.{yes}
use Rattle.model.specs.declared.Claimed.{Claimed}
use Rattle.model.specs.declared.Ledger.{Ledger}
use Rattle.model.specs.Entry.{Lent as Columns, columns}
use Rattle.model.specs.Model.{Call}
use Rattle.model.specs.Record.{calling}
use Rattle.model.specs.contracts.Ledger as L
use Rattle.model.proofs.Ledger.TheLaws as L'
use Rattle.model.specs.contracts.Answer as N
use Rattle.model.proofs.Answer.TheLaws as N'
use Rattle.model.specs.contracts.Claimed as K
use Rattle.model.proofs.Claimed.TheLaws as K'
use Rattle.lent.proofs.Stored.{refused_same, assigns_if}
use Rattle.lent.proofs.Columns.{column, gave, pointer, slice, copied_to, copies}
use Rattle.lent.proofs.Numbers as Nums
use Rattle.lent.proofs.Numbers.{Numbers, Fits, Sources, asked, behind, envs, slots, rows, into, out_of, values, found}

-- a record's machine values
abbrev vals_l : Ledger → List Val
vals_l = LL.vals L.the_type L'.the_laws

-- ---- the test of the answer's number, where it holds the record is stored

pub data Test : Type 0 where
  is isnt : (k : ℕ) → T (ltb k (2 ^ bits w32)) → Test

abbrev tests : Test → Operand → RValue
tests (is k z) x = op2 eq x (int w32 k)
tests (isnt k z) x = op2 ne x (int w32 k)

abbrev pub holds : Test → ℕ → Bool
holds (is k z) n = eqb n k
holds (isnt k z) n = not (eqb n k)

tested : {M : Type 1} {𝓤 : Ura M} {𝓛 : Logic 𝓤} {G : Type 0} {Γ : List (Item 𝓤)} {E : Env 𝓤 𝓛.H} {x : Operand} {n : ℕ}
    → G → (y : Test) → Opd G 𝓛 Γ E x (vint w32 n) → Rv G 𝓛 Γ E (tests y x) (vbool (holds y n))
tested t (is k z) o = bin t o (lit t z) tt
tested t (isnt k z) o = bin t o (lit t z) tt

-- how many lifetimes the lent call has, and the core
abbrev n : ℕ
n = 3

abbrev n' : ℕ
n' = 2

-- ws are the widths of the numbers, and `call` is the call that they make
module _ (ws : List Width) (call : Numbers ws → Call) where
  -- ---- the core and its contract

  abbrev core : Ended
  core = record {
    signature = record {
      lifetimes = n';
      outlives = [];
      params = plain (λ _. L.the_row) ∷ column 0 tt w32 ∷ column 1 tt w8 ∷ slots ws;
      result = plain (λ _. K.the_row);
    };
    kept = (yes, (yes, (yes, all yes (slots ws))));
  }

  abbrev core_clauses : {M : Type 1} (𝓤 : Ura M) → Clauses 𝓤 core
  core_clauses 𝓤 κs a = record {
    ghost = Unit {0};
    requires = λ _. emp 𝓤;
    ensures = λ _ r e. fact 𝓤 ((r, columns e.1.0.now e.1.1.0.now)
        ≡ calling a.0 (columns a.1.0.now a.1.1.0.now) (call (out_of n' κs ws a.1.1.1)));
  }

  abbrev pub Core : {M : Type 1} {𝓤 : Ura M} (𝓛 : Logic 𝓤) → Contract 𝓤
  Core {𝓤 = 𝓤} 𝓛 = triple_of 𝓛 core.signature (closing 𝓛 core (core_clauses 𝓤))

  -- ---- the lent call and its contract

  abbrev lent : Ended
  lent = record {
    signature = record {
      lifetimes = n;
      outlives = [];
      params = RefMutOf (0 ∷ []) tt (plain (λ _. L.the_row)) (λ _. tt) ∷ column 1 tt w32 ∷ column 2 tt w8 ∷ slots ws;
      result = plain (λ _. N.the_row);
    };
    kept = (yes, (yes, (yes, all yes (slots ws))));
  }

  abbrev clauses : {M : Type 1} (𝓤 : Ura M) → Clauses 𝓤 lent
  clauses 𝓤 κs a = record {
    ghost = Unit {0};
    requires = λ _. emp 𝓤;
    ensures = λ _ r e. fact 𝓤 (◌≡◌ {A = Claimed × Columns} (record { answer = r; ledger = e.0.now }, columns e.1.0.now e.1.1.0.now)
        (calling a.0.now (columns a.1.0.now a.1.1.0.now) (call (out_of n κs ws a.1.1.1))));
  }

  abbrev stayed : Stays lent.signature.params lent.kept
  stayed = (stay_ref (0 ∷ []) tt (plain (λ _. L.the_row)), (gave 1 tt w32, (gave 2 tt w8, Nums.stays n ws)))

  -- ---- its MIR, where ss says what is passed on for the numbers and f is the core

  module _ (ss : Sources ws) (test : Test) (f : Callee) where
    -- the locals behind the parameters: what the core answers, the copy of the record, each column's pointer and the column, the outcome of the test
    abbrev behind_it : ℕ → ℕ
    behind_it j = suc (suc (suc (suc (behind ws j))))

    abbrev pub function : Fn
    function = record {
      lifetimes = n;
      outlives = [];
      ty_params = [];
      givens = 0;
      params = suc (suc (suc (behind ws 0)));
      locals =
          local N'.mir value_local ∷ local (ty_ref (named 0) mut (pointee (L.the_row).written)) value_local
          ∷ local (slice (named 1) w32) value_local ∷ local (slice (named 2) w8) value_local
          ∷ Nums.locals ws (local K'.mir value_local ∷ local L'.mir value_local
          ∷ local (pointer erased w32) value_local ∷ local (slice erased w32) value_local
          ∷ local (pointer erased w8) value_local ∷ local (slice erased w8) value_local ∷ local ty_bool value_local ∷ []);
      body =
          seq (assign (place (behind_it 1) []) (rv_opd (copy (place 1 (deref L'.mir ∷ [])))))
          (copied_to w32 2 (behind_it 2) (behind_it 3)
          (copied_to w8 3 (behind_it 4) (behind_it 5)
          (seq (callᴹ f (copy (place (behind_it 1) []) ∷ copy (place (behind_it 3) []) ∷ copy (place (behind_it 5) []) ∷ Nums.operands ws ss 4)
          (place (behind_it 0) []))
          (seq (assign (place (behind_it 6) []) (tests test (copy (place (behind_it 0) (field 0 ∷ field 0 ∷ [])))))
          (seq (cond (copy (place (behind_it 6) []))
          (assign (place 1 (deref L'.mir ∷ [])) (rv_opd (copy (place (behind_it 0) (field 1 ∷ []))))) skip)
          (seq (assign (place 0 []) (rv_opd (copy (place (behind_it 0) (field 0 ∷ []))))) return))))));
    }

    -- what makes it the call that is promised: the numbers asked for make the same call, and where the test fails the call was refused
    module _ (does : (ns : Numbers ws) → call (asked ws ss ns) ≡ call ns) (stores : (i : ℕ) → T (not (holds test i)) → T (not (eqb i 0)))
        {M : Type 1} {𝓤 : Ura M} (𝓛 : Logic 𝓤) where
      -- h is the record, x the order column and y the item column
      open 𝓛 use {H}

      module _ (κ κ' κ'' : Lft) (q q' q'' : Share) (b o : ℕ) (γ : GName) (h : Ledger) (x y : MutBor (List ℕ))
          (ds : Denots (rows n (κ, (κ', (κ'', tt))) ws)) (fits : Fits ws (out_of n (κ, (κ', (κ'', tt))) ws ds)) where
        -- the lifetimes, and those that the core has
        abbrev κs : Lfts n
        κs = (κ, (κ', (κ'', tt)))

        abbrev κs' : Lfts n'
        κs' = (κ', (κ'', tt))

        -- the columns' tokens
        abbrev tokens : Item 𝓤
        tokens = ‵ (flft κ' q') ⊛ (‵ (flft κ'' q'') ⊛ ‵ ftrue)

        abbrev ns : Numbers ws
        ns = out_of n κs ws ds

        -- what is lent for the lines
        abbrev col : Columns
        col = columns x.now y.now

        -- what is passed, and its machine values
        abbrev args : Args lent.signature κs
        args = (record { ref_ptr = (b, o); ghost_name = γ; now = h }, (x, (y, ds)))

        abbrev vals : Vals lent.signature κs
        vals = (vptr b o ∷ [], (mut_slice_vals x, (mut_slice_vals y, values n κs ws ds)))

        abbrev bound : (walk_of 𝓛 lent stayed (clauses 𝓤)).Ghost
        bound = ((κs, (q, (q', (q'', tt))), tt, args, vals), tt)

        abbrev Post : Val → SProp 𝓤
        Post = (walk_of 𝓛 lent stayed (clauses 𝓤)).post bound

        -- ---- the call of the core

        -- the numbers that are asked for, as the core has them
        abbrev asks : Denots (rows n' κs' ws)
        asks = into n' κs' ws (asked ws ss ns)

        abbrev handed : Args core.signature κs'
        handed = (h, (x, (y, asks)))

        -- what the core's triple binds outside: the record, and each column's own lifetime, share and value
        abbrev to_core : (Core 𝓛).Ghost
        to_core = ((κs', (q', (q'', tt)), tt, handed, (vals_l h, (mut_slice_vals x, (mut_slice_vals y, values n' κs' ws asks)))), tt)

        -- each column's borrow
        abbrev orders : Item 𝓤
        orders = ‵ ((MutSlice (named 1) κ' u32).own_val x (mut_slice_vals x))

        abbrev items : Item 𝓤
        items = ‵ ((MutSlice (named 2) κ'' u8).own_val y (mut_slice_vals y))

        goes : Is L.the_row h (vals_l h)
            → ent 𝓤 (sep 𝓤 (mean 𝓛 tokens) (sep 𝓤 (mean 𝓛 orders) (mean 𝓛 items))) ((Core 𝓛).pre to_core)
        goes was =
            qed 𝓛 (tokens ∷ orders ∷ items ∷ []) ∵
            use0 𝓛 (‵ (owns (rows n' κs' ws) asks (values n' κs' ws asks)))
            (Nums.owns_nums n' κs' 𝓛 ws asks (Nums.fit_into n' κs' ws _ (Nums.asked_fits ws ss ns fits))) $
            move ! (3 ∷ 0 ∷ []) $ fjoin ! $ move ! (2 ∷ 0 ∷ []) $ fjoin ! $
            owned ! L.the_row (Is L.the_row) (LL.makes L.the_type L'.the_plain 𝓛) h _ was $ fjoin ! $
            move ! (1 ∷ 0 ∷ []) $ join ! $ frame ! $ done !

        -- what the core ensures of its result and what the columns hold at last
        abbrev Did : Claimed → Columns → Type 0
        Did r z = (r, z) ≡ calling h col (call (out_of n' κs' ws asks))

        -- ---- the exit

        promised : (r : Claimed) (z : Columns) → Did r z → (r, z) ≡ calling h col (call ns)
        promised r z e = e ∙ ap (calling h col) (ap call (Nums.in_out n' κs' ws (asked ws ss ns)) ∙ does ns)

        -- a refused call stores nothing: what comes back is the record lent
        unchanged : (r : Claimed) (z : Columns) → Did r z → T (not (holds test r.answer.number)) → h ≡ r.ledger
        unchanged r z e fails = refused_same h col (call ns) r z (promised r z e) (stores r.answer.number fails)

        ledger_is : (r : Claimed) (w : Val) → Is K.the_row r (w ∷ []) → Is L.the_row r.ledger (vals_l r.ledger)
        ledger_is r w so = (LL.owed K.the_type K'.the_laws r _ so).1.0

        answer_is : (r : Claimed) (w : Val) → Is K.the_row r (w ∷ []) → Is N.the_row r.answer (LL.vals N.the_type N'.the_laws r.answer)
        answer_is r w so = (LL.owed K.the_type K'.the_laws r _ so).0

        -- what the walk is left with
        abbrev at_end : Claimed → List ℕ → List ℕ → List (Item 𝓤)
        at_end r us vs =
            ‵ (fobs γ ((L.the_row).coded.code r.ledger)) ∷ ‵ (fbor κ (Body (mem L.the_row) b o γ)) ∷ ‵ (flft κ q) ∷ tokens
            ∷ ‵ (fsep (finally u32 x.ghost_name us) (fbor κ' (Body (Arr (Holey (mem u32)) (length x.now)) x.ref_ptr.0 x.ref_ptr.1 x.ghost_name)))
            ∷ ‵ (fsep (finally u8 y.ghost_name vs) (fbor κ'' (Body (Arr (Holey (mem u8)) (length y.now)) y.ref_ptr.0 y.ref_ptr.1 y.ghost_name))) ∷ []

        exits : (r : Claimed) (us vs : List ℕ) → Did r (columns us vs) → length us ≡ length x.now → length vs ≡ length y.now
            → Is N.the_row r.answer (LL.vals N.the_type N'.the_laws r.answer)
            → ent 𝓤 (⋆ 𝓛 (at_end r us vs)) (Post (LL.val N.the_type N'.the_laws r.answer))
        exits r us vs e l m isN =
            qed 𝓛 (at_end r us vs) ∵
            suffices ! _ (ends_at 𝓛 lent stayed (clauses 𝓤) bound (LL.val N.the_type N'.the_laws r.answer) r.answer
            (r.ledger, (us, (vs, Nums.ends n κs ws ds))) (tt, (l, (m, Nums.ends_fit n κs ws ds)))) $
            says ! (promised r (columns us vs) e) $
            move ! (2 ∷ 3 ∷ []) $ join ! $ frame ! $ feq_i ! (List Val) (vptr b o ∷ []) (vptr b o ∷ []) refl $ fjoin3 ! $
            use0 𝓛 (‵ (has_of κs (slots ws) (all yes (slots ws)) (Nums.stays n ws) ds (Nums.ends n κs ws ds) (values n κs ws ds)))
            (Nums.has_nums n κs 𝓛 ws ds (Nums.ends n κs ws ds) fits) $ move ! (3 ∷ 0 ∷ []) $ fjoin ! $ move ! (2 ∷ 0 ∷ []) $ fjoin ! $
            move ! (1 ∷ 0 ∷ []) $ fjoin ! $
            owned ! N.the_row (Is N.the_row) (LL.makes N.the_type N'.the_plain 𝓛) r.answer _ isN $ move ! (1 ∷ 0 ∷ []) $ done !

        -- ---- the walk

        module _ (C : Calls 𝓤 H) (Λ : Loops 𝓤 H) (fm : FmC 𝓤 H 𝓛.laws C) (known : Triple 𝓤 (C f) (Core 𝓛)) where
          walk : Room u32 (length x.now) → Room u8 (length y.now)
              → ent 𝓤 (on_entry 𝓛 lent.signature κs (q, (q', (q'', tt))) args vals)
              (WpFn 𝓤 H C Λ function (flat (types_at lent.signature.params κs) vals) Post)
          walk room room' =
              qed 𝓛 ((‵ (flft κ q) ⊛ tokens)
              ∷ ‵ (owns (types_at lent.signature.params κs) args vals) ∷ []) ∵
              enter ! C Λ function (flat (types_at lent.signature.params κs) vals) _ $
              alloc1 ! (λ l₀. alloc1 ! (λ l₁. alloc1 ! (λ l₂. alloc1 ! (λ l₃. Nums.alloc_nums ! ws (λ bs.
              alloc1 ! (λ k₀. alloc1 ! (λ k₁. alloc1 ! (λ k₂. alloc1 ! (λ k₃. alloc1 ! (λ k₄. alloc1 ! (λ k₅. alloc1 ! (λ k₆. alloc0 ! $
              let E' : Env 𝓤 H = (K'.mir, k₀) ∷ (L'.mir, k₁) ∷ (pointer erased w32, k₂) ∷ (slice erased w32, k₃)
              ∷ (pointer erased w8, k₄) ∷ (slice erased w8, k₅) ∷ (ty_bool, k₆) ∷ [] in
              let at : (j : ℕ) → spot_of 𝓤 H (envs 𝓤 H ws bs E') (behind ws j) ≡ spot_of 𝓤 H E' j = Nums.spot_behind 𝓤 H ws bs E' in
              params1 ! $ pass1 ! (init ! 19 refl (tt, tt)) $ pass1 ! (init ! 17 refl (tt, (tt, (record { fits = room.0 }, tt)))) $
              pass1 ! (init ! 15 refl (tt, (tt, (record { fits = room'.0 }, tt)))) $
              move ! (14 ∷ []) $ Nums.pass_nums ! n κs ws bs ds E' fits $ pass0 ! $
              -- the record's borrow is opened
              move ! (24 ∷ []) $ fsplit ! $ fsplit3 ! $ drop ! $ move ! (26 ∷ []) $ split ! $ move ! (2 ∷ 3 ∷ 0 ∷ []) $
              opens ! tt L.the_row {h = h} b o (λ vs.
              spelt ! L.the_row (Is L.the_row) (shows 𝓛 L.the_row) vals_l (LL.tells L.the_type L'.the_laws) full_share h vs b o $
              move ! (1 ∷ []) $ peeks ! L.the_row (Is L.the_row) (shows 𝓛 L.the_row) h (vals_l h) (λ was. move ! (1 ∷ 0 ∷ []) $
              -- [the record's cell; what it owns; the open borrow; obs; auth; the columns' tokens; what the rest own; the numbers; the test; …;
              -- the item column; …; its pointer; …; the order column; …; its pointer; …; the copy; …; the result; …; _3; …; _2; …; _1; …;
              -- room for _0; …]
              assigns ! (of_opd ! (load ! (from ! (hop ! (look ! 26 refl) (stop !))) (look_raw ! 0 refl))) (found ! (at 1) (stop !))
              (init ! 18 refl ((LL.lawful L.the_type L'.the_laws 𝓛).typed h _ was).0) $
              copies ! room.0 refl (at 2) (at 3) 24 16 14 refl refl refl refl refl $
              copies ! room'.0 refl (at 4) (at 5) 22 12 10 refl refl refl refl refl $
              -- the columns' borrows go to the core
              move ! (6 ∷ []) $ fsplit ! $ move ! (1 ∷ []) $ fsplit ! $ move ! (8 ∷ 2 ∷ 0 ∷ []) $
              use3 𝓛 (raw ((Core 𝓛).pre to_core)) (goes was) $
              calls_at ! fm (Core 𝓛) known to_core
              (and_then ! (load ! (found ! (at 1) (stop !)) (look ! 18 refl)) (and_then ! (load ! (found ! (at 3) (stop !)) (look ! 14 refl))
              (and_then ! (load ! (found ! (at 5) (stop !)) (look ! 10 refl)) (Nums.read_nums ! 7 n' κs' ws ss bs ns 4 E' refl refl))))
              (λ w. use1 𝓛 (later (some (λ (r : Claimed). (tokens ⊛ ‵ ((K.the_row).own_val r (w ∷ [])))
              ⊛ raw (ensured 𝓛 core (core_clauses 𝓤) κs' handed tt r)))) (id⊢ 𝓤 _) $ await ! tt $ pick ! (λ r.
              -- what the core ensures, at some last lists
              split ! $ move ! (1 ∷ []) $
              use1 𝓛 (some (λ (zs : Lasts core κs' handed).
              ‵ (lasts core κs' handed zs) ⊛ raw (fact 𝓤 (Did r (columns zs.1.0 zs.1.1.0))))) (id⊢ 𝓤 _) $ pick ! (λ zs.
              split ! $ move ! (1 ∷ []) $ heard ! (Did r (columns zs.1.0 zs.1.1.0)) (λ e.
              fsplit ! $ drop ! $ fsplit ! $ fsplit ! $ fsplit ! $ move ! (1 ∷ []) $ feq_l ! (λ l. fjoin ! $
              move ! (1 ∷ []) $ fsplit ! $ fsplit ! $ fsplit ! $ move ! (1 ∷ []) $ feq_l ! (λ m. fjoin ! $
              move ! (3 ∷ []) $ split ! $ move ! (1 ∷ 0 ∷ 4 ∷ []) $
              peeks ! K.the_row (Is K.the_row) (shows 𝓛 K.the_row) r (w ∷ []) (λ so.
              -- [the result's; the columns' tokens; the last orders; the last items; …; …; the record's cell; what it owns; the open borrow; obs;
              -- auth; the numbers; the test; …]
              land ! (found ! (at 0) (stop !)) (init ! 24 refl ((LL.lawful K.the_type K'.the_laws 𝓛).typed r _ so).0) $
              rewrite ! 24 (λ (u : Val). ‵ (fat full_share K'.mir k₀ 0 u)) (ap only (LL.tells K.the_type K'.the_laws r _ so)) refl $
              -- the number is looked at, the new record stored where the test holds, and the answer
              assigns ! (tested ! test
              (load ! (found ! (at 0) (fld ! refl (fld ! refl (stop !)))) (look_in ! 24 (sub ! 0 refl (sub ! 0 refl (whole !))))))
              (found ! (at 6) (stop !)) (init ! 12 refl (tt, tt)) $
              assigns_if ! (load ! (found ! (at 6) (stop !)) (look ! 12 refl))
              (of_opd ! (load ! (found ! (at 0) (fld ! refl (stop !))) (look_in ! 24 (sub ! 1 refl (whole !)))))
              (from ! (hop ! (look ! 30 refl) (stop !)))
              (store_raw ! 6 refl ((LL.lawful L.the_type L'.the_laws 𝓛).typed r.ledger _ (ledger_is r w so)).0)
              (λ fails. rewrite ! 6 (λ (k : Ledger). ‵ (cell_at full_share (L.the_row).mir (vals_l k) b o)) (unchanged r _ e fails) refl) $
              assigns ! (of_opd ! (load ! (found ! (at 0) (fld ! refl (stop !))) (look_in ! 24 (sub ! 0 refl (whole !))))) (from ! (stop !))
              (init ! 32 refl ((LL.lawful N.the_type N'.the_laws 𝓛).typed r.answer _ (answer_is r w so)).0) $
              -- the borrow is closed at it
              owned ! L.the_row (Is L.the_row) (LL.makes L.the_type L'.the_plain 𝓛) r.ledger _ (ledger_is r w so) $
              move ! (7 ∷ 0 ∷ 9 ∷ 10 ∷ 11 ∷ []) $ closes ! tt L.the_row r.ledger (vals_l r.ledger) b o $ returns ! (look ! 31 refl) $
              forget ! 11 refl $ forget ! 13 refl $ forget ! 15 refl $ forget ! 17 refl $ forget ! 19 refl $ forget ! 21 refl $ forget ! 23 refl $
              forget ! 25 refl $ forget ! 27 refl $ forget ! 29 refl $ forget ! 31 refl $
              move ! (31 ∷ 32 ∷ []) $ free1 ! $ move ! (29 ∷ 30 ∷ []) $ free1 ! $ move ! (27 ∷ 28 ∷ []) $ free1 ! $ move ! (25 ∷ 26 ∷ []) $ free1 ! $
              move ! (10 ∷ []) $ Nums.free_nums ! ws bs ns E' $ move ! (22 ∷ 23 ∷ []) $ free1 ! $ move ! (20 ∷ 21 ∷ []) $ free1 ! $
              move ! (18 ∷ 19 ∷ []) $ free1 ! $ move ! (16 ∷ 17 ∷ []) $ free1 ! $ move ! (14 ∷ 15 ∷ []) $ free1 ! $ move ! (12 ∷ 13 ∷ []) $ free1 ! $
              move ! (10 ∷ 11 ∷ []) $ free1 ! $ free0 ! $
              keep ! (0 ∷ 1 ∷ 2 ∷ 4 ∷ 5 ∷ 6 ∷ []) $ by ! (exits r zs.1.0 zs.1.1.0 e l m (answer_is r w so)))))))))))))))))))))))

      walks : (C : Calls 𝓤 H) (Λ : Loops 𝓤 H) → FmC 𝓤 H 𝓛.laws C → Triple 𝓤 (C f) (Core 𝓛)
          → Walks 𝓛 lent stayed (WpFn 𝓤 H C Λ function) (clauses 𝓤)
      walks C Λ fm known =
          walked 𝓛 lent stayed (clauses 𝓤) (WpFn 𝓤 H C Λ function) (λ κs. (mut_vals, (mut_slice_vals, (mut_slice_vals, Nums.spells n κs ws))))
          (λ κs. (
            mut_Tells (named 0) κs.0 L.the_row,
            (
              mut_slice_Tells (named 1) κs.1.0 u32,
              (mut_slice_Tells (named 2) κs.1.1.0 u8, Nums.tells n κs ws),
            ),
          ))
          (λ κs qs bounds a g are. via 𝓤 _ (fst∗ 𝓤 _ (emp 𝓤))
          (walk κs.0 κs.1.0 κs.1.1.0 qs.0 qs.1.0 qs.1.1.0 a.0.ref_ptr.0 a.0.ref_ptr.1 a.0.ghost_name a.0.now
          a.1.0 a.1.1.0 a.1.1.1 (Nums.fit n κs ws a.1.1.1 are.1.1.1)
          C Λ fm known are.1.0.0.1 are.1.1.0.0.1))

      pub lends : (𝓣 : Tables 𝓤 H) → Triple 𝓤 (𝓣.C f) (Core 𝓛)
          → Meets 𝓛 lent.signature (WpFn 𝓤 H 𝓣.C 𝓣.Λ function) (closing 𝓛 lent (clauses 𝓤))
      lends 𝓣 known =
          walk_Meets 𝓛 lent stayed (
            Goes-ref 𝓛 n 0 tt (plain (λ _. L.the_row)),
            (
              Goes-gave_slice 𝓛 n 1 tt (plain (λ _. u32)),
              (Goes-gave_slice 𝓛 n 2 tt (plain (λ _. u8)), Nums.go n 𝓛 ws),
            ),
          )
          (clauses 𝓤) (WpFn 𝓤 H 𝓣.C 𝓣.Λ function) (WpFn-mono 𝓤 H 𝓛.laws 𝓣 function)
          (walks 𝓣.C 𝓣.Λ (fm_of 𝓤 H 𝓛.laws 𝓣) known)
