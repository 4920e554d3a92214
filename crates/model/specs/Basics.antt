-- Counts and places in lists, which the ledger's definitions are made of.
use Rattle.std.specs.Prelude.{◌≡◌, refl, Bool, true, cond, List, [], ◌∷◌, ◌++◌, ℕ, suc, ◌<◌, eqb, length, get_or, drop}
pub use Rattle.walsh.specs.Tests.{how_many}
use Rattle.walsh.specs.Tests.{both}

module _ {A : Type 0} where
  -- the first place, from 0, whose entry passes a test; the length where none does
  abbrev pub first_place : (A → Bool) → List A → ℕ
  first_place test [] = 0
  first_place test (x ∷ l) = cond (test x) 0 (suc (first_place test l))

  -- a list whose beginning is replaced by l
  abbrev pub replaced : List A → List A → List A
  replaced c l = l ++ drop (length l) c

  -- no entry stands at two places; d is what get_or answers past the end
  pub record Distinct (d : A) (l : List A) : Type 0 where
    pub same_place : (i j : ℕ) → i < length l → j < length l → get_or l i d ≡ get_or l j d → i ≡ j

  -- x stands at one place of l and no other
  pub record Once (d x : A) (l : List A) : Type 0 where
    pub place : ℕ
    pub inside : place < length l
    pub there : get_or l place d ≡ x
    pub alone : (j : ℕ) → j < length l → get_or l j d ≡ x → j ≡ place

-- for example, of two places the lower
lower : first_place (eqb 7) (3 ∷ 7 ∷ 7 ∷ []) ≡ 1
lower = refl

-- every test holds
abbrev pub all : List Bool → Bool
all [] = true
all (b ∷ bs) = both b (all bs)
