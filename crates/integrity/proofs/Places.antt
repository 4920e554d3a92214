-- How many entries of a list pass a test, and the first place of one: what the loops of the passes keep.
use mathlib.Core.Path.{◌≡◌, refl, sym, ap, ◌∙◌}
use mir.Val.{bool_byte}
use mathlib.Core.Bool.{Bool, true, false, cond}
use mathlib.Core.List.{List, [], ◌∷◌, ◌++◌}
use Prim.Native.Nat.{ℕ, suc, ◌+◌, ◌≤◌, ◌<◌}
use native.Mathlib.Numerals.{add-one}
use native.Mathlib.Omega.{arith}
use lib.Dec.{eqb}
use lib.ListN.{length, get_or, take, drop, length-take, take-append-drop}
use lib.Seq.{length-take-le, take-suc, split_at, take_all}
use Rattle.walsh.proofs.Cases.{on_test}
use Rattle.walsh.proofs.Tests.{many_append}
use Rattle.model.specs.Basics.{how_many, first_place}

-- x is v: `times v` counts such
abbrev pub equals : ℕ → ℕ → Bool
equals v x = eqb x v

pub byte_most : (b : Bool) → bool_byte b ≤ 1
byte_most true = omega arith
byte_most false = omega arith

byte_cond : (b : Bool) → bool_byte b ≡ cond b 1 0
byte_cond true = refl
byte_cond false = refl

module _ {A : Type 0} (test : A → Bool) where
  -- ---- counts

  pub many_most : (l : List A) → how_many test l ≤ length l
  many_most [] = omega arith
  many_most (x ∷ l) = let h = many_most l in on_test (test x) (λ t. rw t (omega arith)) (λ t. rw t (omega arith))

  many_snoc : (l : List A) (x : A) → how_many test (l ++ (x ∷ [])) ≡ how_many test l + cond (test x) 1 0
  many_snoc l x = many_append test l (x ∷ []) ∙ omega arith

  -- one entry more, whose test is added as a number
  pub many_more : (l : List A) (i : ℕ) {n a : ℕ} (d : A) → i < length l → n ≡ how_many test (take i l)
      → a ≡ bool_byte (test (get_or l i d))
      → n + a ≡ how_many test (take (i + 1) l)
  many_more l i d h e f = rw (add-one i, take-suc l i d h, many_snoc (take i l) (get_or l i d), e, f, byte_cond (test (get_or l i d)))

  -- all are counted
  pub many_all : (l : List A) (i n : ℕ) → length l ≤ i → n ≡ how_many test (take i l) → n ≡ how_many test l
  many_all l i n h e = e ∙ ap (how_many test) (take_all i l h)

  -- the first k, and those behind them
  pub many_parts : (l : List A) (k : ℕ) → how_many test l ≡ how_many test (take k l) + how_many test (drop k l)
  many_parts l k = ap (how_many test) (sym (take-append-drop k l)) ∙ many_append test (take k l) (drop k l)

  pub many_few : (l : List A) (j n : ℕ) → n ≡ how_many test (take j l) → n ≤ j
  many_few l j n e = omega (arith, e, many_most (take j l), length-take j l)

  -- ---- places

  pub none_passes : (l : List A) → how_many test l ≡ 0 → first_place test l ≡ length l
  none_passes [] e = refl
  none_passes (x ∷ l) e =
      on_test (test x)
      (λ t. let one : 1 + how_many test l ≡ 0 = rw t at e in absurd (omega arith))
      (λ t. let rest : 0 + how_many test l ≡ 0 = rw t at e in rw t (ap suc (none_passes l (omega arith))))

  -- none of the first list passes, so the place is in the second
  pub behind : (l m : List A) → first_place test l ≡ length l → first_place test (l ++ m) ≡ length l + first_place test m
  behind [] m e = omega arith
  behind (x ∷ l) m e =
      on_test (test x)
      (λ t. let none : 0 ≡ suc (length l) = rw t at e in absurd (omega arith))
      (λ t.
      let rest : suc (first_place test l) ≡ suc (length l) = rw t at e in
      let h = behind l m (omega arith) in
      rw t (omega arith))

  -- one of the first list passes, so the place stays
  pub stays : (l m : List A) → first_place test l < length l → first_place test (l ++ m) ≡ first_place test l
  stays [] m h = absurd (omega arith)
  stays (x ∷ l) m h =
      on_test (test x)
      (λ t. rw t)
      (λ t.
      let k : suc (first_place test l) < suc (length l) = rw t at h in
      rw t (ap suc (stays l m (omega arith))))

  pub place_most : (l : List A) → first_place test l ≤ length l
  place_most [] = omega arith
  place_most (x ∷ l) = let h = place_most l in on_test (test x) (λ t. rw t (omega arith)) (λ t. rw t (omega arith))

  -- none of the first n passes
  pub record Clear (l : List A) (n : ℕ) : Type 0 where
    pub inside : n ≤ length l
    pub none : first_place test (take n l) ≡ n

  pub clear_none : (l : List A) → Clear l 0
  clear_none l = record { inside = omega arith; none = refl }

  module _ (l : List A) {i : ℕ} (c : Clear l i) where
    long : length (take i l) ≡ i
    long = length-take-le i l c.inside

    rest : (m : List A) → first_place test (take i l ++ m) ≡ i + first_place test m
    rest m = let q = behind (take i l) m (c.none ∙ sym long) in omega (arith, q, long)

    module _ (d : A) (h : i < length l) where
      pub clear_here : test (get_or l i d) ≡ true → first_place test l ≡ i
      clear_here t =
          let z : first_place test (get_or l i d ∷ drop (suc i) l) ≡ 0 = rw t in
          ap (first_place test) (split_at l i d h) ∙ omega (arith, rest (get_or l i d ∷ drop (suc i) l), z)

      pub clear_more : test (get_or l i d) ≡ false → Clear l (i + 1)
      clear_more f =
          let z : first_place test (get_or l i d ∷ []) ≡ 1 = rw f in
          record {
            inside = omega arith;
            none = ap (λ (k : ℕ). first_place test (take k l)) (add-one i) ∙ ap (first_place test) (take-suc l i d h)
                ∙ omega (arith, rest (get_or l i d ∷ []), z);
          }

    pub clear_all : length l ≤ i → first_place test l ≡ i
    clear_all h = ap (first_place test) (sym (take_all i l h)) ∙ c.none
