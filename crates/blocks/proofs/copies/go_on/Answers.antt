-- `blocks::copies::go_on` meets its contract.
use Rattle.std.proofs.Common.{◌≡◌, sym, ap, ◌∙◌, subst, List, ◌++◌, ℕ, ◌+◌, ◌-◌, ◌*◌, arith, length, take, drop, length-append, length-drop}
use lib.Seq.{length-take-le, take_at, take-append-add}
use Rattle.walsh.specs.Order.{Composition}
use Rattle.walsh.specs.Serial.{composition_of}
use Rattle.walsh.proofs.Serials.{composition_is}
use Rattle.step.specs.Advance.{advance_of}
use Rattle.step.proofs.Ways.{advance_serial}
use Rattle.blocks.specs.Blocks.{number_of}
use Rattle.blocks.proofs.copies.go_on.Goals as goal

pub returns : goal.returns
returns c = λ p low high is.
    let a = c.args in
    let known = a.fronts.now.known in
    let few = a.fronts.now.job.asked.few in
    let ms = a.fronts.now.job.upper.now in
    let n : ℕ = length ms in
    let w = a.fronts.now.width in
    let entries = a.fronts.now.entries in
    let from : ℕ = c.number_of.result * w in
    let entry : List ℕ = c.copy_from_slice.new.self in
    let rest : List ℕ = drop w a.cells.now in
    let span : from + w - from ≡ w = omega arith in
    let at : entry ≡ take w (drop (number_of a.block a.j * w) entries) =
    c.copy_from_slice.ensures.after
    ∙ ap (λ (m : ℕ). take m (drop from entries)) span
    ∙ ap (λ (x : ℕ). take w (drop (x * w) entries)) c.number_of.ensures in
    let long : length entry ≡ w = c.copy_from_slice.ensures.len ∙ length-take-le w a.cells.now (omega (arith, known.narrow)) in
    let xs : List ℕ = entry ++ rest in
    let split : n ≡ length entry + (n - w) = omega (arith, long, known.inside) in
    let here : take n xs ≡ composition_of ms a.fronts.now.job.total p =
    ap (λ (m : ℕ). take m xs) split
    ∙ take-append-add entry rest (n - w)
    ∙ ap (λ (l : List ℕ). l ++ take (n - w) rest) at
    ∙ is in
    let cells : length xs ≡ 40 = rw (length-append, length-drop) (omega (arith, long, known.narrow)) in
    let size : length c.advance.new.parts ≡ n = c.advance.auto.parts ∙ length-take-le n xs (omega (arith, cells, few)) in
    let valid : Composition ms a.fronts.now.job.total (take n xs) = subst (Composition ms a.fronts.now.job.total) (sym here) (composition_is ms a.fronts.now.job.total p low (omega arith)) in
    take_at c.advance.new.parts (drop n xs) n size
    ∙ c.advance.ensures.next few valid
    ∙ ap (advance_of ms a.fronts.now.job.total) here
    ∙ advance_serial ms a.fronts.now.job.total p low high
