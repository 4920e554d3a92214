-- Laws of counts and of a list put over the beginning of another.
use mathlib.Core.Path.{◌≡◌, refl, ap, ◌∙◌}
use mathlib.Core.Bool.{Bool, not}
use mathlib.Core.List.{List, [], ◌∷◌, ◌++◌, append_assoc, append-nil}
use Prim.Native.Nat.{suc, ◌+◌, ◌≤◌, ◌<◌}
use native.Mathlib.Omega.{arith}
use native.Mathlib.Numerals.{add-one}
use lib.ListN.{length, take, drop, set, length-append, length-drop}
use lib.Seq.{sets, drop-cons, set-append_seam, take-append_seam}
use Rattle.walsh.proofs.Cases.{on_test}
use Rattle.model.specs.Basics.{how_many, replaced}

module _ {A : Type 0} (test : A → Bool) where
  -- each entry passes the test, or it does not
  pub many_or_not : (l : List A) → how_many (λ x. not (test x)) l + how_many test l ≡ length l
  many_or_not [] = refl
  many_or_not (x ∷ l) = let h = many_or_not l in on_test (test x) (λ t. rw t (omega arith)) (λ t. rw t (omega arith))

-- ---- a list over the beginning of another

module _ {A : Type 0} where
  pub length_snoc : (l : List A) (x : A) → length (l ++ (x ∷ [])) ≡ length l + 1
  length_snoc l x = length-append l (x ∷ [])

  -- an entry more, and others behind it
  pub snoc_append : (l : List A) (x : A) (xs : List A) → (l ++ (x ∷ [])) ++ xs ≡ l ++ (x ∷ xs)
  snoc_append l x xs = append_assoc l (x ∷ []) xs

  module _ (c l : List A) where
    pub take_replaced : take (length l) (replaced c l) ≡ l
    take_replaced = take-append_seam l (drop (length l) c)

    pub length_replaced : length l ≤ length c → length (replaced c l) ≡ length c
    length_replaced h = simp (length-append, length-drop) (omega arith)

    set_replaced : (x : A) → length l < length c → set (replaced c l) (length l) x ≡ replaced c (l ++ (x ∷ []))
    set_replaced x h = rw (drop-cons c (length l) x, set-append_seam, length_snoc, add-one, append_assoc)

  pub sets_replaced : (xs c l : List A) → length l + length xs ≤ length c → sets (replaced c l) (length l) xs ≡ replaced c (l ++ xs)
  sets_replaced [] c l h = rw (append-nil l)
  sets_replaced (x ∷ xs) c l h =
      let n = length_snoc l x ∙ add-one (length l) in
      ap (λ (r : List A). sets r (suc (length l)) xs) (set_replaced c l x (omega arith))
      ∙ rw (← n) (sets_replaced xs c (l ++ (x ∷ [])) (omega arith))
      ∙ ap (replaced c) (snoc_append l x xs)
