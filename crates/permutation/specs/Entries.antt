-- One entry of a permutation by itself, as the code finds it. No public contract cites this file.
use Rattle.std.specs.Prelude.{◌≡◌, refl, List, [], ◌∷◌, ℕ, zero, suc, get_or}
use Rattle.permutation.specs.Permutation.{lift, third_of_g}

-- the value x with the room that the first i parts of g ask for, the last of them first
abbrev pub lifts : List ℕ → ℕ → ℕ → ℕ
lifts g zero x = x
lifts g (suc i) x = lifts g i (lift (get_or g i 0) x)

-- the entry at place i of the permutation whose inversion vector is g; behind the last part of g stands a 0
abbrev pub entry_at : List ℕ → ℕ → ℕ
entry_at g i = lifts g i (suc (get_or g i 0))

the_second : entry_at (1 ∷ 2 ∷ 0 ∷ []) 1 ≡ get_or third_of_g 1 0
unfolding lift
the_second = refl

the_last : entry_at (1 ∷ 2 ∷ 0 ∷ []) 3 ≡ get_or third_of_g 3 0
unfolding lift
the_last = refl
