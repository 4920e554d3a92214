-- Document 02, (vii): "Workers mistype a digit and the parcel goes to a stranger." What a slip does to a number that passes: one digit mistyped is
-- always found, two neighbours exchanged unless they are the same or five apart (`one_digit`, `exchange` in proofs/Slips).
use Rattle.std.specs.Prelude.{◌≡◌, refl, ◌≢◌, true, false, [], ◌∷◌, map, ℕ, suc, ◌%◌, ◌<◌}
use Rattle.digits.specs.Digits.{digit_at, places, weighted_sum, passes}

-- m is n with another digit at place k; leading zeros count as digits, so m may also have fewer or more of them
pub record Mistyped (n m k : ℕ) : Type 0 where
  pub place : k < places
  pub differs : digit_at m k ≢ digit_at n k
  pub others : (j : ℕ) → j < places → j ≢ k → digit_at m j ≡ digit_at n j

-- m is n with the digits at place k and left of it exchanged
pub record Exchanged (n m k : ℕ) : Type 0 where
  pub place : suc k < places
  pub right : digit_at m k ≡ digit_at n (suc k)
  pub left : digit_at m (suc k) ≡ digit_at n k
  pub others : (j : ℕ) → j < places → j ≢ k → j ≢ suc k → digit_at m j ≡ digit_at n j

-- an exchange that is not found: of digits that are the same or five apart, 0 and 5, 1 and 6, 2 and 7, 3 and 8, 4 and 9
abbrev pub Unnoticed : ℕ → ℕ → Type 0
Unnoticed a b = a % 5 ≡ b % 5

-- for example, 1014 as 1017 and as 1041 is found, 1083 as 1038 is not
slips : map passes (1014 ∷ 1017 ∷ 1041 ∷ 1083 ∷ 1038 ∷ []) ≡ true ∷ false ∷ false ∷ true ∷ true ∷ []
unfolding weighted_sum
slips = refl
