-- The two conversions: a composition to its serial, a serial to its composition.
use Rattle.std.specs.Prelude.{◌≡◌, ℕ, min, max, List, ◌++◌, replicate}
use Rattle.walsh.specs.Order.{count_of}
use Rattle.walsh.specs.Serial.{serial_of, composition_of}
use Rattle.bounds.specs.Refusal.{Check, first_refusal}
use Rattle.bounds.specs.Edition.{whole, shape_checks, limit_checks, cells_of}
use Rattle.bounds.specs.Places.{composition_checks}
use Rattle.band.specs.Band.{band_size}
use Rattle.band.specs.declared.find.Converted.{Converted}
use Rattle.band.specs.declared.walk.Table.{Table}

-- the checks of a conversion from a composition: those that cost little, then 5, which is known when the table is filled. Document 01 has 5 before 7
-- and 8; crate `rank` gives them in that order.
abbrev pub early_checks : List ℕ → ℕ → List ℕ → List Check
early_checks ms r g = shape_checks ms r ++ (composition_checks ms r g ++ limit_checks ms r)

-- the serial of 1..n that is nearest to s: 0 counts as 1, and one over n as n
abbrev pub clamp : ℕ → ℕ → ℕ
clamp n s = max 1 (min s n)

-- the cells of that serial's composition
abbrev pub nearest : List ℕ → ℕ → ℕ → List ℕ
nearest ms r s = cells_of (composition_of ms r (clamp (count_of ms r) s))

-- a shape that is accepted: the sum of its bounds, and the size of its table
pub record Sized (ms : List ℕ) (r all size : ℕ) : Type 0 where
  pub accepted : (first_refusal (shape_checks ms r)).number ≡ 0
  pub all_is : all ≡ whole ms
  pub size_is : size ≡ band_size ms r

-- ---- the answers

-- of a composition: N and its serial
abbrev pub ranked : List ℕ → ℕ → List ℕ → Converted
ranked ms r g = record { count = count_of ms r; serial = serial_of ms r g; composition = replicate 24 0 }

-- of a serial: N, the nearest serial of 1..N and its composition
abbrev pub unranked : List ℕ → ℕ → ℕ → Converted
unranked ms r s = record { count = count_of ms r; serial = clamp (count_of ms r) s; composition = nearest ms r s }

-- ---- a walk, over a filled band of the edition and its N

-- it may be made
abbrev pub MayWalk : (Table → ℕ → Type 0) → List ℕ → ℕ → Type 0
MayWalk may ms r = (t : Table) (n : ℕ) → t.upper.now ≡ ms → t.total ≡ r → n ≡ count_of ms r → may t n

-- it gave this
abbrev pub Walked : (Table → ℕ → Converted → Type 0) → List ℕ → ℕ → Converted → Type 0
Walked gives ms r c = (t : Table) × ((n : ℕ) × (t.upper.now ≡ ms) × (t.total ≡ r) × (n ≡ count_of ms r) × gives t n c)
