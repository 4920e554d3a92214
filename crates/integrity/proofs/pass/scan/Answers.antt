-- `integrity::pass::scan` meets its contract.
use Rattle.std.proofs.Common.{◌≡◌, ◌+◌, ◌/◌, Bool, ◌++◌, List, length, refl, sym, ap, ◌∙◌, arith}
use Rattle.model.specs.Basics.{how_many}
use Rattle.walsh.proofs.Tests.{many_append}
use Rattle.model.specs.Entry.{Entry, is_voided, is_unsound}
use Rattle.integrity.specs.Lines.{lines_in}
use Rattle.integrity.proofs.Pairs.{pairs_length}
use Rattle.integrity.proofs.Places.{many_most}
use Rattle.integrity.proofs.Passes.{sound_made, sound_some, sound_not, sound_none}
use Rattle.integrity.proofs.Halves.{halves_joined, halves_unsound}
use Rattle.integrity.proofs.pass.scan.Goals as goal
use Rattle.integrity.proofs.pass.scan.Goals.{After-part-rest}

module _ (c : After-part-rest) where
  abbrev lines : List Entry
  lines = lines_in c.args.lines

  abbrev most : List Entry
  most = lines_in c.part-low.result ++ lines_in c.part-high.result

  abbrev rest : List Entry
  rest = lines_in c.part-rest.result

  long : length lines ≡ length c.args.lines.orders.now
  long = pairs_length c.args.lines.orders.now c.args.lines.items.now c.args.lines.paired

  all : most ++ rest ≡ lines
  all =
      let half : c.len-half.result / 2 ≡ length lines / 2 = omega (arith, c.len-half.ensures, long) in
      let end : c.len.result ≡ length lines = omega (arith, c.len.ensures, long) in
      (λ i. (c.part-low.ensures.lines i ++ c.part-high.ensures.lines i) ++ c.part-rest.ensures.lines i)
      ∙ halves_joined lines half refl end

  -- so the spoilt and the unsound ones are those of the parts
  parted : (test : Entry → Bool) → how_many test lines ≡ how_many test most + how_many test rest
  parted test = ap (how_many test) (sym all) ∙ many_append test most rest

pub returns : goal.returns
returns c =
    let a = (goal.at.returns c).After-part-rest in
    let m = sound_some (most a) (sym c.in_ok-most.was ∙ c.halves.ensures) in
    let r = sound_some (rest a) (sym c.in_ok-last.was ∙ c.voids.ensures) in
    sound_made (lines a) (omega (arith, m.0, r.0, parted a is_unsound)) (omega (arith, m.1, r.1, parted a is_voided))

pub overflow_add-result : goal.overflow_add-result
overflow_add-result c =
    let a = (goal.at.overflow_add-result c).After-part-rest in
    let m = sound_some (most a) (sym c.in_ok-most.was ∙ c.halves.ensures) in
    let r = sound_some (rest a) (sym c.in_ok-last.was ∙ c.voids.ensures) in
    omega (arith, m.1, r.1, parted a is_voided, many_most is_voided (lines a), long a, c.requires)

pub returns-in_err-last : goal.returns-in_err-last
returns-in_err-last c =
    let a = (goal.at.returns-in_err-last c).After-part-rest in
    let n = sound_none (rest a) _ (sym c.in_err-last.was ∙ c.voids.ensures) in
    c.from_residual-in_err-last.ensures ∙ sound_not (lines a) _ (λ z. n (omega (arith, z, parted a is_unsound)))

pub returns-in_err-most : goal.returns-in_err-most
returns-in_err-most c =
    let l = lines_in c.args.lines in
    let n = sound_none (lines_in c.part-low.result ++ lines_in c.part-high.result) _ (sym c.in_err-most.was ∙ c.halves.ensures) in
    let long = pairs_length c.args.lines.orders.now c.args.lines.items.now c.args.lines.paired in
    let half : c.len-half.result / 2 ≡ length l / 2 = omega (arith, c.len-half.ensures, long) in
    c.from_residual.ensures ∙ sound_not l _ (halves_unsound l half refl c.part-low.ensures.lines c.part-high.ensures.lines n)
