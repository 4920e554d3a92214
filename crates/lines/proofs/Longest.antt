-- No line has more than 88 bytes: a serial of 7 digits, 24 spaces with two digits each, two spaces with a sign and two digits each, and the line
-- feed.
use mathlib.Core.Path.{◌≡◌, refl}
use mathlib.Core.Bool.{Bool, true}
use mathlib.Core.List.{List, [], ◌∷◌}
use Prim.Native.Nat.{ℕ, zero, suc, ◌+◌, ◌≤◌, ◌<◌}
use native.Mathlib.Decide.{ℕ_discrete}
use native.Mathlib.Omega.{arith}
use lib.Dec.{leb}
use lib.ListN.{length, get_or}
use borrow.Author.Tests.{leb-true, ltb-false}
use Rattle.walsh.specs.Tests.{both}
use Rattle.walsh.specs.Order.{count_of}
use Rattle.walsh.specs.Serial.{composition_of}
use Rattle.walsh.specs.Transition.{transition_at}
use Rattle.walsh.proofs.Cases.{on_test}
use Rattle.walsh.proofs.Tests.{both_left, both_right}
use Rattle.walsh.proofs.Serials.{composition_is}
use Rattle.bounds.specs.Refusal.{Check, first_refusal}
use Rattle.bounds.specs.Edition.{outside, first_outside, edition_checks}
use Rattle.bounds.specs.Places.{most_entries}
use Rattle.bounds.proofs.Refusals.{passed}
use Rattle.bounds.proofs.Chains.{accepts_split}
use Rattle.bounds.proofs.Editions.{edition_shapely}
use Rattle.request.specs.Asked.{Asked, wants, nothing, asked_of}
use Rattle.lines.specs.Lines.{pair_end, line_at}
use Rattle.lines.specs.Printed.{Output, refusal, copies, list_checks, listed, output_for, output_of}
use Rattle.lines.specs.Page.{line_in, lines_in}
use Rattle.lines.proofs.Lengths.{length_decimal}
use Rattle.lines.proofs.Lined.{pair_end_short, length_counts, length_line}
use Rattle.lines.proofs.Pairs.{kinds_most}
use Rattle.lines.proofs.Refuses.{length_refusal}
use Rattle.lines.proofs.Listed.{listed_refused, listed_copies}

pub record Short (o : Output) : Type 0 where
  pub few : lines_in o ≤ most_entries
  pub short : (k : ℕ) → 0 < k → k ≤ lines_in o → length (line_in o k) ≤ 88

-- ---- a refusal: its number has at most two digits

abbrev up_to : ℕ → List Check → Bool
up_to m [] = true
up_to m (c ∷ cs) = both (leb c.number m) (up_to m cs)

first_most : (m : ℕ) (cs : List Check) → up_to m cs ≡ true → (first_refusal cs).number ≤ m
unfolding first_refusal
first_most m [] e = omega arith
first_most m (c ∷ cs) e =
    on_test c.holds
    (λ t. rw t (leb-true c.number m (both_left (leb c.number m) (up_to m cs) e)))
    (λ t. rw t (first_most m cs (both_right (leb c.number m) (up_to m cs) e)))

refusal_short : (n : ℕ) → n ≤ 22 → Short (refusal n)
refusal_short n h =
    record { few = omega arith; short = λ k low high. omega (arith, length_refusal n, length_decimal 1 n (omega arith)) }

-- ---- a copy

inside_most : (ms : List ℕ) (j : ℕ) → first_outside ms j ≡ 0 → (i : ℕ) → get_or ms i 0 ≤ 60
unfolding first_outside
inside_most [] j e i = omega arith
inside_most (m ∷ ms) j e i =
    on_test (outside m)
    (λ t. let z : j + 1 ≡ 0 = rw t at e in absurd (omega arith))
    (λ t. at i (inside_most ms (j + 1) (rw t at e)) (ltb-false 60 m t))
  where
    at : (i : ℕ) → ((i : ℕ) → get_or ms i 0 ≤ 60) → m ≤ 60 → get_or (m ∷ ms) i 0 ≤ 60
    at zero below h = h
    at (suc i) below h = below i

module _ (ms : List ℕ) (r : ℕ) (accepted : (first_refusal (list_checks ms r)).number ≡ 0) where
  count_most : count_of ms r ≤ most_entries
  count_most = ltb-false _ _ (passed _ _ refl (accepts_split (edition_checks ms r) _ refl accepted).1).0

  copy_short : (s : ℕ) → 0 < s → s ≤ count_of ms r → length (line_at ms r s) ≤ 88
  unfolding line_at
  copy_short s low high =
      let shape = edition_shapely ms r (accepts_split (edition_checks ms r) _ refl accepted).0 in
      let g = composition_of ms r s in
      let valid = composition_is ms r s low high in
      let part : (i : ℕ) → i < length g → get_or g i 0 < 100 =
      λ i b. omega (arith, valid.parts.fits i (omega (arith, valid.size)), inside_most ms 0 shape.inside i) in
      let x = transition_at ms r s in
      let kinds = kinds_most ms r s low high in
      let end = pair_end_short x (omega (arith, kinds.0, shape.few)) (omega (arith, kinds.1, shape.few)) in
      let counts = length_counts 2 g (pair_end x) (λ i b. length_decimal 1 (get_or g i 0) (part i b)) in
      omega (arith, length_line s g x, length_decimal 6 s (omega (arith, count_most)), counts, end, valid.size, shape.few)

  copies_short : Short (copies ms r)
  copies_short = record { few = count_most; short = copy_short }

-- ---- what is printed for a text

listed_short : (ms : List ℕ) (r : ℕ) → Short (listed ms r)
listed_short ms r = go (ℕ_discrete (first_refusal (list_checks ms r)).number 0)
  where
    go : Dec ((first_refusal (list_checks ms r)).number ≡ 0) → Short (listed ms r)
    go (yes e) = rw (listed_copies ms r e) (copies_short ms r e)
    go (no ne) = rw (listed_refused ms r _ _ refl (omega (arith, ne))) (refusal_short _ (first_most 22 (list_checks ms r) refl))

output_short : (x : Asked) → Short (output_for x)
output_short (wants ms r) = listed_short ms r
output_short nothing = refusal_short 22 (omega arith)

pub printed_short : (s : List ℕ) → Short (output_of s)
printed_short s = output_short (asked_of s)
