-- Tests put together. A test is a Bool that is computed; a fact about it is an equation `test ≡ true`.
use Rattle.std.specs.Prelude.{Bool, true, false, cond, List, [], ◌∷◌, ℕ, zero, suc, ◌+◌, eqb}

abbrev pub both : Bool → Bool → Bool
both a b = cond a b false

abbrev pub either : Bool → Bool → Bool
either a b = cond a true b

-- the tests f 0, .. , f (n - 1) all hold
abbrev pub every : (ℕ → Bool) → ℕ → Bool
every f zero = true
every f (suc n) = both (f n) (every f n)

-- how many entries of a list pass a test
abbrev pub how_many : {A : Type 0} → (A → Bool) → List A → ℕ
how_many test [] = 0
how_many test (x ∷ l) = cond (test x) 1 0 + how_many test l

-- how many are v
abbrev pub times : ℕ → List ℕ → ℕ
times v l = how_many (λ x. eqb x v) l
