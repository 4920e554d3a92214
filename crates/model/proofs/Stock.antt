-- Laws of the compositions of a ledger's lines.
use mathlib.Core.Path.{◌≡◌, ap}
use mathlib.Core.List.{List}
use Prim.Native.Nat.{ℕ, suc, ◌-◌, ◌<◌}
use native.Mathlib.Omega.{arith}
use lib.ListN.{length, get_or}
use Rattle.walsh.specs.Order.{Composition}
use Rattle.walsh.specs.Serial.{composition_of}
use Rattle.walsh.specs.Neighbours.{Adjacent}
use Rattle.bounds.specs.Edition.{cells_of}
use Rattle.model.specs.Basics.{Distinct}
use Rattle.model.specs.Printing.{Printing, blank, stock, composition_at, serial_at, capacity}
use Rattle.model.proofs.Compositions.{compositions_size, compositions_at, compositions_distinct, compositions_near, composition_place, place_composition}

module _ (p : Printing) where
  -- the composition of a serial, out of Walsh's order
  pub serial_cells : (s : ℕ) → composition_at p s ≡ cells_of (composition_of p.bounds p.total s)
  unfolding composition_of
  serial_cells s = compositions_at p.bounds p.total (s - 1)

  pub stock_size : length (stock p) ≡ capacity p
  stock_size = compositions_size p.bounds p.total

  pub stock_at : (i : ℕ) → get_or (stock p) i blank ≡ composition_at p (serial_at p i)
  stock_at i = let q : i ≡ serial_at p i - 1 = omega arith in ap (λ (k : ℕ). get_or (stock p) k blank) q

  pub stock_distinct : Distinct blank (stock p)
  stock_distinct = compositions_distinct p.bounds p.total

  pub stock_near : (i : ℕ) → suc i < capacity p → Adjacent (length p.bounds) (get_or (stock p) i blank) (get_or (stock p) (suc i) blank)
  stock_near i h = compositions_near p.bounds p.total i (omega (arith, stock_size))

  -- every composition stands somewhere, and what stands somewhere is a composition
  pub stock_place : (g : List ℕ) → Composition p.bounds p.total g
      → (i : ℕ) × (i < length (stock p)) × (get_or (stock p) i blank ≡ cells_of g)
  stock_place g c = composition_place p.bounds p.total g c

  pub place_stock : (i : ℕ) → i < length (stock p)
      → (g : List ℕ) × Composition p.bounds p.total g × (get_or (stock p) i blank ≡ cells_of g)
  place_stock i h = place_composition p.bounds p.total i h
