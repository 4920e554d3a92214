-- Two blocks, and two parts as long as each other, whose lines are looked at together.
use mathlib.Core.Path.{◌≡◌, refl, sym, ap, ◌∙◌}
use mathlib.Core.Logic.{◌≢◌}
use mathlib.Core.Bool.{Bool}
use mathlib.Core.List.{List, ◌++◌}
use Prim.Native.Nat.{ℕ, ◌+◌, ◌-◌, ◌*◌, ◌/◌, ◌≤◌, min}
use native.Mathlib.Omega.{arith}
use lib.Dec.{eqb}
use lib.ListN.{length, take, drop, length-drop, take-append-drop}
use lib.Seq.{take-add, take_all}
use Rattle.std.specs.Prelude.{Some, None}
use Rattle.std.specs.Bool.{then_some}
use Rattle.walsh.proofs.Tests.{many_append}
use Rattle.model.specs.Entry.{Entry, is_voided, is_unsound, voided_in, unsound_in}
use Rattle.integrity.specs.Lines.{if_sound}
use Rattle.integrity.proofs.Passes.{Counted, block_of, sound_made, sound_some, sound_tested, sound_not, sound_none, counted_none, counted_few, counted_all, counted_more, counted_block}

-- both halves of some lines, and the last line where there is one more
pub halves_joined : {A : Type 0} (l : List A) {h e n : ℕ} → h ≡ length l / 2 → e ≡ h + h → n ≡ length l
    → (take (h - 0) (drop 0 l) ++ take (e - h) (drop h l)) ++ take (n - e) (drop e l) ≡ l
halves_joined {A = A} l {h} {e} {n} half even all =
    let none : h - 0 ≡ h = omega arith in
    let more : e - h ≡ h = omega (arith, even) in
    let rest = take_all (n - e) (drop e l) (omega (arith, all, length-drop e l)) in
    rw (none, more, rest, even) (ap (λ (k : List A). k ++ drop (h + h) l) (sym (take-add h h l)) ∙ take-append-drop (h + h) l)

-- an unsound line in one of the halves
pub halves_unsound : (l : List Entry) {h e : ℕ} {a b : List Entry} → h ≡ length l / 2 → e ≡ h + h
    → a ≡ take (h - 0) (drop 0 l) → b ≡ take (e - h) (drop h l) → unsound_in (a ++ b) ≢ 0 → unsound_in l ≢ 0
halves_unsound l {h} {e} {a} {b} half even low high n z =
    let rest = take (length l - e) (drop e l) in
    let all : (a ++ b) ++ rest ≡ l = (λ i. (low i ++ high i) ++ rest) ∙ halves_joined l half even refl in
    n (omega (arith, z, ap unsound_in (sym all), many_append is_unsound (a ++ b) rest))

module _ (l m : List Entry) where
  -- the lines l are sound: all are where the lines m are
  pub joined_sound : unsound_in l ≡ 0 → {t : Bool} → t ≡ eqb (unsound_in m) 0 → {z : ℕ} → z ≡ voided_in l + voided_in m
      → then_some t z ≡ if_sound (l ++ m) (voided_in (l ++ m))
  joined_sound u s e =
      let all : unsound_in m ≡ unsound_in (l ++ m) = omega (arith, u, many_append is_unsound l m) in
      sound_tested (l ++ m) (s ∙ ap (λ (n : ℕ). eqb n 0) all) (omega (arith, e, many_append is_voided l m))

  pub joined_unsound : unsound_in l ≢ 0 → None ≡ if_sound (l ++ m) (voided_in (l ++ m))
  joined_unsound n = sound_not (l ++ m) _ (λ z. n (omega (arith, many_append is_unsound l m, z)))

  -- the lines of the first k blocks of both are sound, and so many are spoilt
  pub record Twins (k z : ℕ) : Type 0 where
    pub first : ℕ
    pub second : ℕ
    pub low : Counted l k first
    pub high : Counted m k second
    pub sum : z ≡ first + second

  pub twins_none : Twins 0 0
  twins_none = record { first = 0; second = 0; low = counted_none l; high = counted_none m; sum = refl }

  module _ {k z : ℕ} (c : Twins k z) where
    pub twins_few : z ≤ length l + length m
    twins_few = omega (arith, c.sum, counted_few l c.low, counted_few m c.high)

    pub twins_all : length l ≤ k * 1024 → length m ≤ k * 1024 → (unsound_in (l ++ m) ≡ 0) × (z ≡ voided_in (l ++ m))
    twins_all a b =
        let low = counted_all l c.low a in
        let high = counted_all m c.high b in (
          omega (arith, low.0, high.0, many_append is_unsound l m),
          omega (arith, c.sum, low.1, high.1, many_append is_voided l m),
        )

    module _ {from to : ℕ} (ef : from ≡ k * 1024) (el : to ≡ min (length l) (from + 1024)) (em : to ≡ min (length m) (from + 1024))
        (hl : from ≤ length l) (hm : from ≤ length m) where
      abbrev both : List Entry
      both = block_of l from to ++ block_of m from to

      pub twins_more : {n : ℕ} → Some n ≡ if_sound both (voided_in both) → Twins (k + 1) (z + n)
      twins_more e =
          let s = sound_some both e in
          let none = many_append is_unsound (block_of l from to) (block_of m from to) in
          let low = sound_made (block_of l from to) {x = voided_in (block_of l from to)} (omega (arith, s.0, none)) refl in
          let high = sound_made (block_of m from to) {x = voided_in (block_of m from to)} (omega (arith, s.0, none)) refl in
          record {
            first = c.first + voided_in (block_of l from to);
            second = c.second + voided_in (block_of m from to);
            low = counted_more l c.low ef el hl low;
            high = counted_more m c.high ef em hm high;
            sum = omega (arith, c.sum, s.1, many_append is_voided (block_of l from to) (block_of m from to));
          }

      -- an unsound line in one of the blocks
      pub twins_fail : None ≡ if_sound both (voided_in both) → unsound_in (l ++ m) ≢ 0
      twins_fail e z =
          let parts = many_append is_unsound (block_of l from to) (block_of m from to) in
          let low = counted_block l c.low ef el hl in
          let high = counted_block m c.high ef em hm in
          sound_none both _ e (omega (arith, parts, low, high, many_append is_unsound l m, z))
