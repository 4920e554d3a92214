-- Tests put together: from all of them to each, and back; how many entries pass one.
use mathlib.Core.Path.{◌≡◌, refl}
use mathlib.Core.Bool.{Bool, true, false, false≢true}
use mathlib.Core.Logic.{◌⊎◌, inl, inr}
use mathlib.Core.List.{List, [], ◌∷◌, ◌++◌}
use Prim.Native.Nat.{ℕ, zero, suc, ◌+◌, ◌<◌}
use native.Mathlib.Nat.{not-suc-le-zero}
use native.Mathlib.Omega.{arith}
use Rattle.walsh.specs.Tests.{both, every, how_many}
use Rattle.walsh.proofs.Cases.{last_or_less}

pub both_left : (a b : Bool) → both a b ≡ true → a ≡ true
both_left true b e = refl
both_left false b e = absurd (false≢true e)

pub both_right : (a b : Bool) → both a b ≡ true → b ≡ true
both_right true b e = e
both_right false b e = absurd (false≢true e)

pub both_none : (a : Bool) → both a false ≡ false
both_none true = refl
both_none false = refl

-- each holds if they all do
pub every_at : (f : ℕ → Bool) (n : ℕ) → every f n ≡ true → (i : ℕ) → i < n → f i ≡ true
every_at f zero e i l = absurd (not-suc-le-zero l)
every_at f (suc n) e i l = go (every_at f n (both_right (f n) (every f n) e) i) (last_or_less l)
  where
    go : (i < n → f i ≡ true) → (i ≡ n) ⊎ (i < n) → f i ≡ true
    go below (inl q) = rw q (both_left (f n) (every f n) e)
    go below (inr m) = below m

-- they all hold if each does
pub every_all : (f : ℕ → Bool) (n : ℕ) → ((i : ℕ) → i < n → f i ≡ true) → every f n ≡ true
every_all f zero each = refl
every_all f (suc n) each = rw (each n (omega arith)) (every_all f n (λ i l. each i (omega arith)))

-- they do not all hold if one does not
pub every_not : (f : ℕ → Bool) (n i : ℕ) → i < n → f i ≡ false → every f n ≡ false
every_not f zero i l e = absurd (not-suc-le-zero l)
every_not f (suc n) i l e = go (every_not f n i) (last_or_less l)
  where
    go : (i < n → f i ≡ false → every f n ≡ false) → (i ≡ n) ⊎ (i < n) → every f (suc n) ≡ false
    go below (inl q) = let here : f n ≡ false = rw q at e in rw here
    go below (inr m) = rw (below m e) (both_none (f n))

-- of two lists, one behind the other
pub many_append : {A : Type 0} (test : A → Bool) (l m : List A) → how_many test (l ++ m) ≡ how_many test l + how_many test m
many_append test [] m = omega arith
many_append test (x ∷ l) m = omega (arith, many_append test l m)
