-- The lines of two columns, as the passes over them are handed both, and what a pass answers.
use Rattle.std.specs.Prelude.{Option, List, ℕ, eqb, ltb, length}
use Rattle.std.specs.Bool.{then_some}
use Rattle.model.specs.Basics.{first_place}
use Rattle.model.specs.Entry.{Entry, pairs, same_order, unsound_in}
use Rattle.integrity.specs.declared.lines.Lines.{Lines}

abbrev pub lines_in : Lines → List Entry
lines_in l = pairs l.orders.now l.items.now

-- what a pass over the lines l finds; nothing where one of them is unsound
unfoldable pub if_sound : {A : Type 0} → List Entry → A → Option A
if_sound l found = then_some (eqb (unsound_in l) 0) found

-- the lowest place, from 0, of e's order among the lines l
unfoldable pub stands_at : Entry → List Entry → Option ℕ
stands_at e l = then_some (ltb (first_place (same_order e) l) (length l)) (first_place (same_order e) l)
