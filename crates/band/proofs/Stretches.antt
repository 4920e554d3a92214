-- The three stretches of a row that is filled: cells enter the window up to a, the highest sum of the row before, and leave it past b, its lowest
-- sum and the bound; l is the smaller of the two, a + b - l the larger.
use Rattle.std.proofs.Common.{◌≡◌, ℕ, ◌+◌, ◌-◌, ◌<◌, ◌≤◌, min, true, false, ltb, arith, ltb-false, ltb-true}
use Rattle.band.specs.Window.{Moves}
use Rattle.band.specs.declared.Row.{Row}
use Rattle.band.proofs.Numbers.{no, no'}

pub up_to_lem : (a b l t : ℕ) → l ≡ min a b → t ≤ l → (t ≤ a) × (t ≤ b)
up_to_lem a b l t e h = (omega arith, omega arith)

pub between : (a b l t : ℕ) → l ≡ min a b → l < t → t ≤ a + b - l → (b < a → (t ≤ a) × (b < t)) × (a ≤ b → (a < t) × (t ≤ b))
between a b l t e h g = (λ q. (omega arith, omega arith), λ q. (omega arith, omega arith))

pub beyond : (a b l t : ℕ) → l ≡ min a b → a + b - l < t → (a < t) × (b < t)
beyond a b l t e h = (omega arith, omega arith)

module _ (row : Row) (m l t : ℕ) (e : l ≡ min row.high (row.low + m)) where
  abbrev full : ℕ
  full = row.low + m

  pub growing : t ≤ l → Moves row m t true false
  growing h =
      let p = up_to_lem row.high full l t e h in
      record { entering = λ q. p.0; passed = no; leaving = no'; staying = λ q. p.1 }

  pub sliding : l < t → t ≤ row.high + full - l → Moves row m t (ltb full row.high) (ltb full row.high)
  sliding h g =
      let p = between row.high full l t e h g in
      record {
        entering = λ q. (p.0 (ltb-true full row.high q)).0;
        passed = λ q. (p.1 (ltb-false full row.high q)).0;
        leaving = λ q. (p.0 (ltb-true full row.high q)).1;
        staying = λ q. (p.1 (ltb-false full row.high q)).1;
      }

  pub shrinking : row.high + full - l < t → Moves row m t false true
  shrinking h =
      let p = beyond row.high full l t e h in
      record { entering = no'; passed = λ q. p.0; leaving = λ q. p.1; staying = no }
