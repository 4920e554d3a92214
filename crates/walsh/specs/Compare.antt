-- Which of two compositions comes first, said without the list and without a bound: at the last part where they differ, the smaller comes
-- first if the sum to its right is even, the larger if it is odd.
use Rattle.std.specs.Prelude.{◌≡◌, refl, Bool, true, false, cond, List, [], ◌∷◌, ℕ, zero, suc, ◌+◌, eqb, ltb, length, get_or}
use Rattle.walsh.specs.Order.{is_odd}

-- the value v comes before w
abbrev pub value_before : Bool → ℕ → ℕ → Bool
value_before falling v w = cond falling (ltb w v) (ltb v w)

-- g comes before h by their first k parts, where the parts to the right are equal and sum to t
unfoldable pub before_to : ℕ → ℕ → List ℕ → List ℕ → Bool
before_to zero t g h = false
before_to (suc k) t g h =
    cond (eqb (get_or g k 0) (get_or h k 0)) (before_to k (t + get_or g k 0) g h) (value_before (is_odd t) (get_or g k 0) (get_or h k 0))

unfoldable pub before : List ℕ → List ℕ → Bool
before g h = before_to (length g) 0 g h

-- serials 3 and 5 of the document's example differ last at the second part; the sum to its right is 1, so the larger comes first
the_comparison : before (0 ∷ 2 ∷ 1 ∷ []) (2 ∷ 0 ∷ 1 ∷ []) ≡ true
unfolding before before_to
the_comparison = refl
