-- Laws of the first order of a bundle that stands in an earlier line: what the two definitions say by index, and that nothing else says it.
use mathlib.Core.Path.{◌≡◌, refl, sym, ap, ◌∙◌}
use mathlib.Core.Bool.{true, false}
use mathlib.Core.List.{List, [], ◌∷◌, ◌++◌, append-nil}
use Prim.Native.Nat.{ℕ, zero, suc, ◌≤◌, ◌<◌}
use native.Mathlib.Nat.{le_of_suc-le-suc}
use native.Mathlib.Omega.{arith}
use lib.ListN.{length, get_or, take}
use borrow.Author.Tests.{ltb-true, ltb-false}
use Rattle.walsh.proofs.Cases.{on_test, on_less}
use Rattle.model.specs.Basics.{first_place}
use Rattle.model.specs.Entry.{Entry, void_entry, same_order}
use Rattle.model.proofs.Lists.{snoc_append}
use Rattle.integrity.specs.Again.{stands_in, first_again, place_again}

-- the lines before order k of es, which are to be written behind the lines l
abbrev pub earlier : List Entry → List Entry → ℕ → List Entry
earlier l es k = l ++ take k es

-- the lowest of them that it stands in, their number where there is none
abbrev pub lowest : List Entry → List Entry → ℕ → ℕ
lowest l es k = first_place (same_order (get_or es k void_entry)) (earlier l es k)

-- order f is the first that stands in an earlier line, and p is the lowest; or there is none
pub record First (l es : List Entry) (f p : ℕ) : Type 0 where
  pub most : f ≤ length es
  pub new : (k : ℕ) → k < f → length (earlier l es k) ≤ lowest l es k
  pub here : f < length es → (p ≡ lowest l es f) × (p < length (earlier l es f))
  pub none : f ≡ length es → p ≡ length (l ++ es)

-- ---- the definitions are such

first_here : (l : List Entry) (e : Entry) (es : List Entry) → stands_in l e ≡ true → First l (e ∷ es) 0 (first_place (same_order e) l)
first_here l e es t =
    record {
      most = omega arith;
      new = λ k h. absurd (omega (arith, h));
      here = λ h. rw (append-nil l) (refl, ltb-true (first_place (same_order e) l) (length l) t);
      none = λ z. absurd (omega (arith, z));
    }

first_later : (l : List Entry) (e : Entry) (es : List Entry) {f p : ℕ} → stands_in l e ≡ false → First (l ++ (e ∷ [])) es f p → First l (e ∷ es) (suc f) p
first_later l e es {f} {p} t a =
    record {
      most = omega (arith, a.most);
      new = new;
      here = λ h. rw (← snoc_append l e (take f es)) (a.here (le_of_suc-le-suc h));
      none = λ z. a.none (omega (arith, z)) ∙ ap length (snoc_append l e es);
    }
  where
    new : (k : ℕ) → k < suc f → length (earlier l (e ∷ es) k) ≤ lowest l (e ∷ es) k
    new zero h = rw (append-nil l) (ltb-false (first_place (same_order e) l) (length l) t)
    new (suc k) h = rw (← snoc_append l e (take k es)) (a.new k (le_of_suc-le-suc h))

again_first : (l es : List Entry) → First l es (first_again l es) (place_again l es)
unfolding first_again place_again
again_first l [] =
    record {
      most = omega arith;
      new = λ k h. absurd (omega (arith, h));
      here = λ h. absurd (omega (arith, h));
      none = λ z. ap length (sym (append-nil l));
    }
again_first l (e ∷ es) =
    on_test (stands_in l e) (λ t. rw t (first_here l e es t)) (λ t. rw t (first_later l e es t (again_first (l ++ (e ∷ [])) es)))

module _ (l es : List Entry) where
  pub again_most : first_again l es ≤ length es
  again_most = (again_first l es).most

  -- the orders before the first stand in no earlier line
  pub again_new : (k : ℕ) → k < first_again l es
      → length (l ++ take k es) ≤ first_place (same_order (get_or es k void_entry)) (l ++ take k es)
  again_new k h = (again_first l es).new k h

  -- the first does
  pub again_here : first_again l es < length es
      → let k = first_again l es in
      (place_again l es ≡ first_place (same_order (get_or es k void_entry)) (l ++ take k es)) × (place_again l es < length (l ++ take k es))
  again_here h = (again_first l es).here h

  -- or there is none
  pub again_none : first_again l es ≡ length es → place_again l es ≡ length (l ++ es)
  again_none z = (again_first l es).none z

  -- ---- and nothing else is

  not_later : {f p g q : ℕ} → First l es f p → First l es g q → g ≤ f
  not_later {f} {p} {g} {q} a b =
      on_less f g
      (λ h t.
      let n = b.new f h in
      let m = a.here (omega (arith, h, b.most)) in
      absurd (omega (arith, n, m.0, m.1)))
      (λ h t. h)

  same_line : {f p q : ℕ} → First l es f p → First l es f q → p ≡ q
  same_line {f} a b =
      on_less f (length es)
      (λ h t. (a.here h).0 ∙ sym (b.here h).0)
      (λ h t. let z : f ≡ length es = omega (arith, h, a.most) in a.none z ∙ sym (b.none z))

  pub again_only : {f p : ℕ} → First l es f p → (f ≡ first_again l es) × (p ≡ place_again l es)
  again_only {f} {p} a =
      let b = again_first l es in
      let e : f ≡ first_again l es = omega (arith, not_later a b, not_later b a) in
      (e, same_line (rw (← e) a) b)
