-- Laws of the compositions of an edition, 24 cells each: they are those of Walsh's order, each once.
use mathlib.Core.Path.{◌≡◌, refl, sym, ap, ◌∙◌}
use mathlib.Core.List.{List, []}
use Prim.Native.Nat.{ℕ, suc, ◌<◌}
use native.Mathlib.Omega.{arith}
use lib.ListN.{length, get_or, length-map, get_or-map}
use Rattle.walsh.specs.Order.{Composition, order, count_of}
use Rattle.walsh.specs.Neighbours.{Adjacent}
use Rattle.walsh.proofs.Complete.{complete, once}
use Rattle.walsh.proofs.Gray.{gray}
use Rattle.walsh.proofs.Serials.{count_length}
use Rattle.bounds.specs.Edition.{cells_of}
use Rattle.model.specs.Basics.{Distinct}
use Rattle.model.specs.Printing.{blank, compositions}
use Rattle.model.proofs.Cells.{cells_nil, cells_apart, cells_neighbours}

module _ (ms : List ℕ) (r : ℕ) where
  order_size : length (compositions ms r) ≡ length (order ms r)
  unfolding compositions
  order_size = length-map (order ms r) cells_of

  pub compositions_size : length (compositions ms r) ≡ count_of ms r
  compositions_size = order_size ∙ count_length ms r

  pub compositions_at : (i : ℕ) → get_or (compositions ms r) i blank ≡ cells_of (get_or (order ms r) i [])
  unfolding compositions
  compositions_at i = rw (← cells_nil) (get_or-map cells_of (order ms r) i [])

  pub compositions_distinct : Distinct blank (compositions ms r)
  compositions_distinct =
      record {
        same_place = λ i j hi hj e.
            let n = order_size in
            let li : i < length (order ms r) = omega arith in
            let lj : j < length (order ms r) = omega arith in
            let ci = (complete ms r (get_or (order ms r) i [])).1 (i, li, refl) in
            let cj = (complete ms r (get_or (order ms r) j [])).1 (j, lj, refl) in
            once ms r i j li lj (cells_apart _ _ (ci.size ∙ sym cj.size) (sym (compositions_at i) ∙ e ∙ compositions_at j));
      }

  -- neighbouring entries have one unit more at one part and one fewer at another
  pub compositions_near : (i : ℕ) → suc i < length (compositions ms r)
      → Adjacent (length ms) (get_or (compositions ms r) i blank) (get_or (compositions ms r) (suc i) blank)
  compositions_near i h =
      let n = order_size in
      let p = gray ms r i (omega arith) in
      (p.0, p.1, p.2, p.3, rw (compositions_at i, compositions_at (suc i)) (cells_neighbours p.4))

  -- every composition stands somewhere, and what stands somewhere is a composition
  pub composition_place : (g : List ℕ) → Composition ms r g
      → (i : ℕ) × (i < length (compositions ms r)) × (get_or (compositions ms r) i blank ≡ cells_of g)
  composition_place g c =
      let p = (complete ms r g).0 c in
      let n = order_size in
      (p.0, omega (arith, p.1), compositions_at p.0 ∙ ap cells_of p.2)

  pub place_composition : (i : ℕ) → i < length (compositions ms r)
      → (g : List ℕ) × Composition ms r g × (get_or (compositions ms r) i blank ≡ cells_of g)
  place_composition i h =
      let n = order_size in
      (get_or (order ms r) i [], (complete ms r (get_or (order ms r) i [])).1 (i, omega arith, refl), compositions_at i)
