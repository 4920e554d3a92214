-- The answers of specs/Checked.antt, case by case, and N of a staircase.
use mathlib.Core.Path.{◌≡◌}
use mathlib.Core.List.{List}
use Prim.Native.Nat.{ℕ, suc, ◌≤◌, ◌<◌}
use lib.ListN.{length, take}
use Rattle.walsh.specs.Tests.{both}
use Rattle.walsh.specs.Order.{count_of}
use Rattle.walsh.proofs.Cases.{on_test}
use Rattle.mahonian.specs.Mahonian.{in_table}
use Rattle.mahonian.specs.Staircase.{is_staircase}
use Rattle.mahonian.specs.Read.{staircase_count_of}
use Rattle.std.proofs.Common.{Option, Some, None, Result, Ok, Err, MatchOption, IfOk, sym, arith}
use Rattle.bounds.specs.Refusal.{first_refusal}
use Rattle.bounds.specs.Edition.{shape_checks, edition_checks, bounds_of}
use Rattle.bounds.specs.Reason.{coded, told}
use Rattle.bounds.specs.declared.Reason.{Reason}
use Rattle.bounds.specs.declared.Reason.TheVariants.{Parts, Limit}
use Rattle.std.specs.Option.{ok_or}
use Rattle.band.specs.Band.{cap}
use Rattle.count.specs.Checked.{checked_of, check_of, record_of}
use Rattle.count.specs.declared.Shape.{Shape}
use Rattle.bounds.specs.declared.Refusal.{Refusal}
use Rattle.bounds.specs.declared.Bounds.{Bounds}
use Rattle.bounds.proofs.Answers.{edition_over, edition_none, record_many, record_few}
use Rattle.bounds.proofs.Editions.{Shapely, shapely}
use Rattle.bounds.proofs.Reasons.{coded-number}
use Rattle.bounds.proofs.Refusals.{by_refusal, by_acceptance}

-- what holds of a shape
pub shape_facts : (s : Shape) → Shapely s.upper.now s.total
shape_facts s = shapely s.upper.now s.total s.shaped.accepted

module _ (ms : List ℕ) (r : ℕ) where
  abbrev edition : Refusal
  edition = first_refusal (edition_checks ms r)

  pub check_refused : (e : Reason) → coded e ≡ edition → checked_of (Err e) ≡ check_of ms r
  unfolding check_of
  check_refused e q = rw (by_refusal edition _ _ _ _ (sym q) (coded-number e), ← q)

  pub check_accepted : (b : Bounds) (n : ℕ) → edition.number ≡ 0 → b ≡ bounds_of ms r → n ≡ count_of ms r
      → checked_of (Ok (record { bounds = b; count = n })) ≡ check_of ms r
  unfolding check_of
  check_accepted b n e eb en = rw (by_acceptance edition _ _ e, eb, en)

  -- N of a shape that is accepted, by a count that stops over the limit
  pub limited : (x : Option ℕ) (y : Result ℕ Reason) → (first_refusal (shape_checks ms r)).number ≡ 0
      → MatchOption x (cap ≤ count_of ms r) (λ n. (n ≡ count_of ms r) × (n < cap)) → y ≡ ok_or x Limit
      → (told y ≡ edition) × IfOk y (λ n. n ≡ count_of ms r)
  limited None y e m q = rw q (sym (edition_over ms r e (omega arith)), tt)
  limited (Some n) y e m q = rw q (sym (edition_none ms r e (omega arith)), m.0)

-- ---- N of a staircase

pub staircase_number : (ms : List ℕ) (r : ℕ) (x : Option ℕ) (n : ℕ) → x ≡ staircase_count_of ms r → x ≡ Some n → n ≡ count_of ms r
unfolding staircase_count_of
staircase_number ms r x n e q =
    on_test (both (is_staircase ms) (in_table (suc (length ms)) r))
    (λ t. let c : x ≡ Some (count_of ms r) = rw t at e in cc)
    (λ t. let c : x ≡ None = rw t at e in cc)

-- ---- a record that nobody has checked

module _ (b : Bounds) where
  abbrev bounds : List ℕ
  bounds = take b.parts b.upper

  pub record_refused : 24 < b.parts → checked_of (Err Parts) ≡ record_of b
  unfolding record_of
  record_refused l = rw (← (record_many b l))

  pub record_checked : b.parts ≤ 24 → check_of bounds b.total ≡ record_of b
  unfolding record_of check_of
  record_checked l = rw (← (record_few b l))
