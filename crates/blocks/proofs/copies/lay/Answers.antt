-- `blocks::copies::lay` meets its contract.
use Rattle.std.proofs.Common.{◌≡◌, ap, ◌∙◌, List, ◌++◌, ℕ, ◌≤◌, arith, length, take, length-take-le}
use Rattle.std.proofs.lemmas.List.{take-append-le}
use lib.Seq.{take-take}
use Rattle.step.proofs.Copies.{put_taken}
use Rattle.blocks.proofs.copies.lay.Goals as goal

-- the first k of the n bytes that are stored in front of others
stored : (k n : ℕ) (from rest : List ℕ) → k ≤ n → n ≤ length from → take k (take n from ++ rest) ≡ take k from
stored k n from rest h l =
    let size : length (take n from) ≡ n = length-take-le n from l in
    take-append-le k (take n from) rest (omega (arith, size)) ∙ take-take k n from h

pub returns : goal.returns
returns c = λ d high.
    let a = c.args in
    let p = c.requires in
    let w = a.width in
    let xs : List ℕ = c.store.new.out in
    let ys : List ℕ = c.store-2.new.out in
    put_taken xs ys _ w d (omega (arith, c.store.auto.out)) (omega (arith, c.store-2.auto.out))
    ∙ ap (λ (l : List ℕ). l ++ take d ys) (ap (take w) c.store.ensures ∙ stored w 16 a.entry.now _ p.2 (omega arith))
    ∙ ap (λ (l : List ℕ). take w a.entry.now ++ l) (ap (take d) c.store-2.ensures ∙ stored d 24 a.ending.now _ high (omega arith))
