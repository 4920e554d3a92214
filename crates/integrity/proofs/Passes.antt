-- What a pass answers, and the blocks that it goes by.
use mathlib.Core.Path.{◌≡◌, refl, sym, ap, ◌∙◌}
use mathlib.Core.Logic.{◌≢◌}
use mathlib.Core.Bool.{Bool, true, false}
use lib.Dec.{eqb}
use mathlib.Core.List.{List, ◌++◌}
use Prim.Native.Nat.{ℕ, ◌+◌, ◌*◌, ◌-◌, ◌≤◌, ◌<◌, min}
use native.Mathlib.Omega.{arith}
use lib.ListN.{length, take, drop, length-append, length-take, length-drop}
use lib.Seq.{take-add, take_all}
use borrow.Author.Tests.{eq-eqb, ne_eqb, eqb-true, eqb-false, lt-ltb, le-ltb, ltb-true, ltb-false}
use Rattle.std.specs.Prelude.{Option, Some, None, is_some}
use Rattle.std.specs.Bool.{then_some}
use Rattle.walsh.proofs.Cases.{on_less}
use Rattle.walsh.proofs.Tests.{many_append}
use Rattle.model.specs.Basics.{how_many, first_place}
use Rattle.model.specs.Entry.{Entry, is_voided, is_unsound, same_order, voided_in, unsound_in}
use Rattle.integrity.specs.Lines.{if_sound, stands_at}
use Rattle.integrity.proofs.Options.{some_given, none_given}
use Rattle.integrity.proofs.Places.{many_most, many_parts, behind, stays, place_most}

-- ---- where all lines are sound

module _ {A : Type 0} (l : List Entry) {x : A} where
  pub sound_made : {y : A} → unsound_in l ≡ 0 → x ≡ y → Some x ≡ if_sound l y
  unfolding if_sound
  sound_made z e = rw (eq-eqb (unsound_in l) 0 z, e)

  pub sound_some : {y : A} → Some x ≡ if_sound l y → (unsound_in l ≡ 0) × (x ≡ y)
  unfolding if_sound
  sound_some e = let g = some_given e in (eqb-true (unsound_in l) 0 g.0, g.1)

  -- by a test of them
  pub sound_tested : {y : A} {b : Bool} → b ≡ eqb (unsound_in l) 0 → x ≡ y → then_some b x ≡ if_sound l y
  unfolding if_sound
  sound_tested t e = rw (t, e)

module _ {A : Type 0} (l : List Entry) (x : A) where
  pub sound_not : unsound_in l ≢ 0 → None ≡ if_sound l x
  unfolding if_sound
  sound_not n = rw (ne_eqb (unsound_in l) 0 n)

  pub sound_none : None ≡ if_sound l x → unsound_in l ≢ 0
  unfolding if_sound
  sound_none e = eqb-false (unsound_in l) 0 (none_given x e)

-- ---- where an order stands

module _ (e : Entry) (l : List Entry) where
  pub at_some : {p : ℕ} → Some p ≡ stands_at e l → (first_place (same_order e) l ≡ p) × (p < length l)
  unfolding stands_at
  at_some q =
      let g = some_given q in
      let b = ltb-true (first_place (same_order e) l) (length l) g.0 in
      (sym g.1, omega (arith, g.1, b))

  pub at_none : None ≡ stands_at e l → first_place (same_order e) l ≡ length l
  unfolding stands_at
  at_none q =
      let b = ltb-false (first_place (same_order e) l) (length l) (none_given (first_place (same_order e) l) q) in
      omega (arith, b, place_most (same_order e) l)

  pub some_at : {p : ℕ} → p < length l → first_place (same_order e) l ≡ p → Some p ≡ stands_at e l
  unfolding stands_at
  some_at {p} h q = rw (q, lt-ltb p (length l) h)

  pub none_at : first_place (same_order e) l ≡ length l → None ≡ stands_at e l
  unfolding stands_at
  none_at q = rw (le-ltb (first_place (same_order e) l) (length l) (omega (arith, q)))

is_nothing : (p : Option ℕ) → is_some p ≡ false → None ≡ p
is_nothing None t = refl
is_nothing (Some k) t = cc

-- in the lines l and m behind them, where o says where it stands in l
module _ (e : Entry) (l m : List Entry) {o : Option ℕ} (s : o ≡ stands_at e l) where
  nowhere : is_some o ≡ false → first_place (same_order e) l ≡ length l
  nowhere t = at_none e l (is_nothing o t ∙ s)

  pub stands_before : is_some o ≡ true → o ≡ stands_at e (l ++ m)
  stands_before f = at o s f
    where
      at : (p : Option ℕ) → p ≡ stands_at e l → is_some p ≡ true → p ≡ stands_at e (l ++ m)
      at None q f = cc
      at (Some k) q f =
          let a = at_some e l q in
          some_at e (l ++ m) (omega (arith, a.1, length-append l m)) (stays (same_order e) l m (omega (arith, a.0, a.1)) ∙ a.0)

  pub stands_behind : {p q : ℕ} → is_some o ≡ false → Some p ≡ stands_at e m → q ≡ length l + p → Some q ≡ stands_at e (l ++ m)
  stands_behind t here z =
      let a = at_some e m here in
      let b = behind (same_order e) l m (nowhere t) in
      some_at e (l ++ m) (omega (arith, a.1, z, length-append l m)) (omega (arith, b, a.0, z))

  pub stands_nowhere : is_some o ≡ false → None ≡ stands_at e m → o ≡ stands_at e (l ++ m)
  stands_nowhere t none =
      let b = behind (same_order e) l m (nowhere t) in
      sym (is_nothing o t) ∙ none_at e (l ++ m) (omega (arith, b, at_none e m none, length-append l m))

-- ---- block k of some lines, from place `from` up to `to`

abbrev pub block_of : {A : Type 0} → List A → ℕ → ℕ → List A
block_of l from to = take (to - from) (drop from l)

pub block_few : {A : Type 0} (l : List A) (from to : ℕ) → length (block_of l from to) ≤ length l
block_few l from to = omega (arith, length-take (to - from) (drop from l), length-drop from l)

module _ {A : Type 0} (l : List A) (k : ℕ) {from to : ℕ} (ef : from ≡ k * 1024) (et : to ≡ min (length l) (from + 1024)) (h : from ≤ length l) where
  pub next_block : take ((k + 1) * 1024) l ≡ take (k * 1024) l ++ block_of l from to
  next_block =
      let next : (k + 1) * 1024 ≡ from + 1024 = omega (arith, ef) in
      let all : from + (to - from) ≡ to = omega (arith, et, h) in
      let cut : take to l ≡ take (from + 1024) l =
      on_less (length l) (from + 1024)
      (λ b t. take_all to l (omega (arith, et, b)) ∙ sym (take_all (from + 1024) l (omega (arith, b))))
      (λ b t. ap (λ (j : ℕ). take j l) (omega (arith, et, b))) in
      ap (λ (j : ℕ). take j l) next ∙ sym cut ∙ ap (λ (j : ℕ). take j l) (sym all) ∙ take-add from (to - from) l
      ∙ ap (λ (j : ℕ). take j l ++ block_of l from to) ef

  pub block_within : length (block_of l from to) ≤ length l - from
  block_within = omega (arith, length-take (to - from) (drop from l), length-drop from l)

-- the lines of the first k blocks are sound, and so many are spoilt
pub record Counted (l : List Entry) (k z : ℕ) : Type 0 where
  pub zeros : z ≡ voided_in (take (k * 1024) l)
  pub sound : unsound_in (take (k * 1024) l) ≡ 0

pub counted_none : (l : List Entry) → Counted l 0 0
counted_none l = record { zeros = refl; sound = refl }

module _ (l : List Entry) {k z : ℕ} (c : Counted l k z) where
  pub counted_few : z ≤ length l
  counted_few = omega (arith, c.zeros, many_most is_voided (take (k * 1024) l), length-take (k * 1024) l)

  pub counted_all : length l ≤ k * 1024 → (unsound_in l ≡ 0) × (z ≡ voided_in l)
  counted_all h =
      let all = take_all (k * 1024) l h in
      (ap unsound_in (sym all) ∙ c.sound, c.zeros ∙ ap voided_in all)

  module _ {from to : ℕ} (ef : from ≡ k * 1024) (et : to ≡ min (length l) (from + 1024)) (h : from ≤ length l) where
    many : (test : Entry → Bool) → how_many test (take ((k + 1) * 1024) l) ≡ how_many test (take (k * 1024) l) + how_many test (block_of l from to)
    many test = ap (how_many test) (next_block l k ef et h) ∙ many_append test (take (k * 1024) l) (block_of l from to)

    pub counted_more : {n : ℕ} → Some n ≡ if_sound (block_of l from to) (voided_in (block_of l from to)) → Counted l (k + 1) (z + n)
    counted_more e =
        let s = sound_some (block_of l from to) e in
        record {
          zeros = omega (arith, c.zeros, s.1, many is_voided);
          sound = omega (arith, c.sound, s.0, many is_unsound);
        }

    pub counted_block : unsound_in (block_of l from to) ≤ unsound_in l
    counted_block = omega (arith, many is_unsound, many_parts is_unsound l ((k + 1) * 1024))

    -- an unsound line in the block
    pub counted_fails : None ≡ if_sound (block_of l from to) (voided_in (block_of l from to)) → unsound_in l ≢ 0
    counted_fails e z = sound_none (block_of l from to) _ e (omega (arith, counted_block, z))
