-- `band::find::unrank_in` meets its contract.
use Rattle.std.proofs.Common.{◌≡◌, ℕ, ◌-◌, ◌<◌, length, take, replicate, ap, ◌∙◌}
use Rattle.walsh.specs.Order.{count, count_of}
use Rattle.walsh.specs.Serial.{composition_of}
use Rattle.bounds.specs.Edition.{cells_of}
use Rattle.band.specs.Find.{clamp}
use Rattle.bounds.proofs.Cells.{prefix_length, in_cells}
use Rattle.band.proofs.Finds.{clamp_place}
use Rattle.band.proofs.find.unrank_in.Goals as goal
use Rattle.band.proofs.find.unrank_in.Goals.{After-clamp-s, Start}

place_at : (c : After-clamp-s)
    → let t = c.args.table in
    let ms = t.upper.now in
    let s = c.clamp-s.result in
    (0 < s) × (s - 1 < count ms (length ms) t.total) × (s ≡ clamp (count_of ms t.total) c.args.serial)
place_at c =
    let t = c.args.table in clamp_place t.upper.now t.total _ _ _ t.filled.reached c.requires c.clamp-s.ensures

length_at : (c : Start) → let n = length c.args.table.upper.now in length (take {A = ℕ} n (replicate 24 0)) ≡ n
length_at c = prefix_length (length c.args.table.upper.now) 24 c.args.table.filled.few

pub returns : goal.returns
unfolding composition_of
returns c =
    let w = c.write in
    let p = place_at (goal.at.returns c).After-clamp-s in
    let size = w.auto.out ∙ length_at (goal.at.returns c).Start in
    let cells = in_cells w.new.out (length c.args.table.upper.now) size ∙ ap cells_of w.ensures in
    rw (cells, p.2, c.requires)

pub write-requires : goal.write-requires
write-requires c = (length_at (goal.at.write-requires c).Start, (place_at (goal.at.write-requires c).After-clamp-s).1)
