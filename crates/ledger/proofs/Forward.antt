-- So many steps on from the record's composition stands that of the serial as many after the next.
use mathlib.Core.Path.{◌≡◌, sym, ap, ◌∙◌}
use mathlib.Core.List.{List, ◌++◌}
use Prim.Native.Nat.{ℕ, ◌+◌, ◌≤◌, ◌<◌, min}
use native.Mathlib.Omega.{arith}
use lib.ListN.{length, take, drop}
use Rattle.walsh.specs.Order.{Composition}
use Rattle.walsh.specs.Serial.{serial_of, composition_of}
use Rattle.walsh.proofs.Serials.{composition_is, serial_composition}
use Rattle.bounds.specs.Edition.{cells_of}
use Rattle.bounds.proofs.Cells.{cells_back, cells_replaced}
use Rattle.step.specs.Stride.{Strides}
use Rattle.model.specs.Printing.{Printing, size, next_composition}
use Rattle.model.proofs.Stock.{serial_cells}

module _ (p : Printing) (e : ℕ) where
  abbrev ms : List ℕ
  ms = p.bounds

  abbrev r : ℕ
  r = p.total

  -- the composition of serial s, of serial N where s is larger
  at_serial : (s : ℕ) → next_composition p s ≡ cells_of (composition_of ms r (min (s + 1) (size p)))
  at_serial s = serial_cells p (min (s + 1) (size p))

  pub forward : (n k : ℕ) (next h : List ℕ)
      → n ≡ length ms
      → length ms ≤ 24
      → next ≡ next_composition p e
      → 0 < size p
      → Strides ms r (take n next) k h
      → h ++ drop n next ≡ next_composition p (e + k)
  forward n k next h count few is some step =
      let s : ℕ = min (e + 1) (size p) in
      let g : List ℕ = composition_of ms r s in
      let cells : next ≡ cells_of g = is ∙ at_serial e in
      let valid : Composition ms r g = composition_is ms r s (omega arith) (omega arith) in
      let long : n ≡ length g = count ∙ sym valid.size in
      let same : take n next ≡ g = rw (cells, long) (cells_back g) in
      let serial : serial_of ms r g ≡ s = serial_composition ms r s (omega arith) (omega arith) in
      let did : h ≡ composition_of ms r (min (s + k) (size p)) = rw (same, serial) at (step.next few (rw same valid)) in
      let there : min (s + k) (size p) ≡ min (e + k + 1) (size p) = omega arith in
      let to : h ≡ composition_of ms r (min (e + k + 1) (size p)) = did ∙ ap (composition_of ms r) there in
      let valid' : Composition ms r h = rw to (composition_is ms r (min (e + k + 1) (size p)) (omega arith) (omega arith)) in
      rw cells (cells_replaced g h n (sym long) (valid'.size ∙ sym count)) ∙ ap cells_of to ∙ sym (at_serial (e + k))
