-- The sheets that are left, in two words: all of them, and those without one.
use mathlib.Core.Path.{◌≡◌, refl, sym, ap, ◌∙◌}
use mathlib.Core.Bool.{true}
use mathlib.Core.List.{List}
use Prim.Native.Nat.{ℕ, suc, ◌+◌, ◌-◌, ◌*◌, ◌/◌, ◌%◌, ◌^◌, ◌≤◌, ◌<◌}
use native.Mathlib.Nat.{div-one}
use native.Mathlib.Decide.{dec_lt}
use native.Mathlib.Omega.{arith}
use lib.Dec.{eqb}
use lib.Pow.{shr-shr}
use lib.Arith.{digits_lt}
use lib.ListN.{length, get_or}
use borrow.Author.Tests.{lt-ltb, le-ltb, eqb-true}
use Rattle.walsh.specs.Tests.{every}
use Rattle.walsh.proofs.Tests.{every_at}
use Rattle.permutation.specs.Permutation.{tabulate}
use Rattle.permutation.proofs.Smaller.{tabulate_length, tabulate_at}
use Rattle.major.specs.declared.left.Left.{Left}
use Rattle.major.specs.Circle.{erase}
use Rattle.major.specs.Bits.{bits_of, cut_of}
use Rattle.major.specs.Left.{entry_at, Holds}
use Rattle.major.proofs.Erased.{erase_length, erase_before, erase_behind}
use Rattle.major.proofs.Digits.{cut_before, cut_behind, cut_lt, top_before, top_at}

-- ---- all sheets

-- the code's two words
abbrev sheets : Left
sheets = record { low = 445092485129178177; high = 3582863703552528 }

sheets_are : every (λ j. eqb (entry_at sheets j) (suc j)) 25 ≡ true
sheets_are = refl

pub holds_all : (k : ℕ) → k ≤ 25 → Holds sheets (tabulate suc k)
holds_all k h =
    record {
      few = omega (arith, tabulate_length suc k);
      small = omega arith;
      entries = λ j b. let less : j < k = omega (arith, tabulate_length suc k) in
          eqb-true (entry_at sheets j) (suc j) (every_at (λ i. eqb (entry_at sheets i) (suc i)) 25 sheets_are j (omega arith))
          ∙ sym (tabulate_at suc k j less);
    }

-- ---- one sheet fewer

-- the sheets before it stay, and those behind it move up
erased : (left new : Left) (place : ℕ) (l : List ℕ) → Holds left l → place < length l → new.low < 2 ^ 60
    → ((j : ℕ) → j < place → entry_at new j ≡ entry_at left j) → ((j : ℕ) → place ≤ j → entry_at new j ≡ entry_at left (suc j))
    → Holds new (erase place l)
erased left new place l holds h small before behind =
    let size = erase_length place l h in
    record { few = omega (arith, holds.few); small = small; entries = λ j b. go j (dec_lt j place) (omega arith) }
  where
    go : (j : ℕ) → Dec (j < place) → suc j < length l → entry_at new j ≡ get_or (erase place l) j 0
    go j (yes b) inside = before j b ∙ holds.entries j (omega arith) ∙ sym (erase_before place j l b)
    go j (no b) inside = behind j (omega arith) ∙ holds.entries (suc j) inside ∙ sym (erase_behind place j l (omega arith))

pub entry_low : (left : Left) (j : ℕ) → j < 12 → entry_at left j ≡ bits_of left.low (5 * j) 5
entry_low left j h = rw (lt-ltb j 12 h)

pub entry_high : (left : Left) (j : ℕ) → 12 ≤ j → entry_at left j ≡ bits_of left.high (4 * (j - 12)) 4 + 13
entry_high left j h = rw (le-ltb j 12 h)

-- it is one of the first 12
module _ (left : Left) (place : ℕ) (h : place < 12) where
  abbrev without_low : Left
  without_low = record { low = (left.high % 16 + 13) * 2 ^ 55 + cut_of left.low (5 * place) 5; high = left.high / 16 }

  moving : left.high % 16 + 13 < 32
  moving = omega arith

  module _ (small : left.low < 2 ^ 60) where
    others : cut_of left.low (5 * place) 5 < 2 ^ 55
    others = cut_lt left.low (5 * place) 5 55 (omega arith) small

    low_before : (j : ℕ) → j < place → entry_at without_low j ≡ entry_at left j
    low_before j b =
        entry_low without_low j (omega arith)
        ∙ top_before (left.high % 16 + 13) 55 others (5 * j) 5 (omega arith)
        ∙ cut_before left.low (5 * place) 5 (5 * j) 5 (omega arith)
        ∙ sym (entry_low left j (omega arith))

    low_behind : (j : ℕ) → place ≤ j → entry_at without_low j ≡ entry_at left (suc j)
    low_behind j b = go (dec_lt j 11) (dec_lt j 12)
      where
        go : Dec (j < 11) → Dec (j < 12) → entry_at without_low j ≡ entry_at left (suc j)
        go (yes m) d =
            let next : 5 * j + 5 ≡ 5 * suc j = omega arith in
            entry_low without_low j (omega arith)
            ∙ top_before (left.high % 16 + 13) 55 others (5 * j) 5 (omega arith)
            ∙ cut_behind left.low (5 * place) 5 (5 * j) 5 (omega arith)
            ∙ ap (λ (k : ℕ). bits_of left.low k 5) next
            ∙ sym (entry_low left (suc j) (omega arith))
        go (no m) (yes d) =
            let last : j ≡ 11 = omega arith in
            rw (last, top_at (left.high % 16 + 13) 55 others 5 moving, div-one left.high)
        go (no m) (no d) =
            let next : 4 + 4 * (j - 12) ≡ 4 * (suc j - 12) = omega arith in
            entry_high without_low j (omega arith)
            ∙ ap (λ (x : ℕ). x % 16 + 13) (shr-shr left.high 4 (4 * (j - 12)) ∙ ap (λ (k : ℕ). left.high / 2 ^ k) next)
            ∙ sym (entry_high left (suc j) (omega arith))

  low_holds : (l : List ℕ) → Holds left l → place < length l → Holds without_low (erase place l)
  low_holds l holds inside =
      erased left without_low place l holds inside (digits_lt moving (others holds.small)) (low_before holds.small) (low_behind holds.small)

  pub holds_low : (low high : ℕ) → low ≡ (left.high % 16 + 13) * 2 ^ 55 + cut_of left.low (5 * place) 5 → high ≡ left.high / 16
      → (l : List ℕ) → Holds left l → place < length l → Holds (record { low = low; high = high }) (erase place l)
  holds_low low high e f = rw (e, f) low_holds

-- it is behind them
module _ (left : Left) (place : ℕ) (h : 12 ≤ place) where
  abbrev without_high : Left
  without_high = record { low = left.low; high = cut_of left.high (4 * (place - 12)) 4 }

  high_before : (j : ℕ) → j < place → entry_at without_high j ≡ entry_at left j
  high_before j b = go (dec_lt j 12)
    where
      go : Dec (j < 12) → entry_at without_high j ≡ entry_at left j
      go (yes m) = entry_low without_high j m ∙ sym (entry_low left j m)
      go (no m) =
          entry_high without_high j (omega arith)
          ∙ ap (λ (x : ℕ). x + 13) (cut_before left.high (4 * (place - 12)) 4 (4 * (j - 12)) 4 (omega arith))
          ∙ sym (entry_high left j (omega arith))

  high_behind : (j : ℕ) → place ≤ j → entry_at without_high j ≡ entry_at left (suc j)
  high_behind j b =
      let next : 4 * (j - 12) + 4 ≡ 4 * (suc j - 12) = omega arith in
      entry_high without_high j (omega arith)
      ∙ ap (λ (x : ℕ). x + 13) (cut_behind left.high (4 * (place - 12)) 4 (4 * (j - 12)) 4 (omega arith)
      ∙ ap (λ (k : ℕ). bits_of left.high k 4) next)
      ∙ sym (entry_high left (suc j) (omega arith))

  pub holds_high : (high : ℕ) → high ≡ cut_of left.high (4 * (place - 12)) 4
      → (l : List ℕ) → Holds left l → place < length l → Holds (record { low = left.low; high = high }) (erase place l)
  holds_high high e l holds inside = rw e (erased left without_high place l holds inside holds.small high_before high_behind)
