-- How many of the sheets that are left are at most v, in two words: of all sheets, read for one v, and without one sheet.
use mathlib.Core.Path.{◌≡◌, sym, ap, ◌∙◌}
use Prim.Native.Nat.{ℕ, ◌+◌, ◌-◌, ◌*◌, ◌%◌, ◌^◌, ◌≤◌, ◌<◌}
use native.Mathlib.Decide.{dec_lt}
use native.Mathlib.Omega.{arith}
use borrow.Author.Tests.{lt-ltb, le-ltb}
use Rattle.walsh.proofs.Lists.{sum_same}
use Rattle.major.specs.declared.tally.Tally.{Tally}
use Rattle.major.specs.Bits.{bits_of}
use Rattle.major.specs.Tally.{packed, from_on, fewer, Tallies, Among}
use Rattle.major.proofs.Packed.{pack_at, pack_less, each_upward}

-- the same numbers, by another function
pack_same : (b n : ℕ) (f g : ℕ → ℕ) → ((v : ℕ) → v < n → f v ≡ g v) → packed b f n ≡ packed b g n
pack_same b n f g same = sum_same (λ v. f v * 2 ^ (b * v)) (λ v. g v * 2 ^ (b * v)) n (λ v h. ap (λ (x : ℕ). x * 2 ^ (b * v)) (same v h))

pub tallies_same : {tally : Tally} {f g : ℕ → ℕ} → ((v : ℕ) → v < 26 → f v ≡ g v) → Tallies tally f → Tallies tally g
tallies_same {tally} {f} {g} same is =
    record {
      low = is.low ∙ pack_same 4 16 f g (λ v h. same v (omega arith));
      high = is.high ∙ pack_same 5 10 (λ v. f (16 + v)) (λ v. g (16 + v)) (λ v h. same (16 + v) (omega arith));
      low_fits = λ v h. omega (arith, same v (omega arith), is.low_fits v h);
      high_fits = λ v h. omega (arith, same (16 + v) (omega arith), is.high_fits v h);
    }

-- ---- how many are at most v

module _ {tally : Tally} {f : ℕ → ℕ} (is : Tallies tally f) (v : ℕ) where
  pub tally_low : v < 16 → bits_of tally.low (4 * v) 4 ≡ f v
  tally_low h = ap (λ (w : ℕ). bits_of w (4 * v) 4) is.low ∙ pack_at 4 f 16 is.low_fits v h

  pub tally_high : 16 ≤ v → v < 26 → bits_of tally.high (5 * (v - 16)) 5 ≡ f v
  tally_high l h =
      ap (λ (w : ℕ). bits_of w (5 * (v - 16)) 5) is.high
      ∙ pack_at 5 (λ u. f (16 + u)) 10 is.high_fits (v - 16) (omega arith)
      ∙ ap f (omega arith)

-- ---- without the sheet x

-- the code's words with a 1 for each v
abbrev each_low : ℕ
each_low = 1229782938247303441

abbrev each_high : ℕ
each_high = 36319351833633

-- b taken from c leaves a
taken : {a b c : ℕ} (u : ℕ) → a + b ≡ c → u ≡ b → (u ≤ c) × (c - u ≡ a)
taken u e is = (omega arith, omega arith)

module _ {tally : Tally} (x : ℕ) {f : ℕ → ℕ} (among : Among tally x f) where
  low_less : packed 4 (fewer x f) 16 + packed 4 (from_on x) 16 ≡ tally.low
  low_less = pack_less 4 f (from_on x) 16 (λ v h. among.some v) ∙ sym among.tallies.low

  high_less : packed 5 (λ v. fewer x f (16 + v)) 10 + packed 5 (λ v. from_on x (16 + v)) 10 ≡ tally.high
  high_less = pack_less 5 (λ v. f (16 + v)) (λ v. from_on x (16 + v)) 10 (λ v h. among.some (16 + v)) ∙ sym among.tallies.high

  tallies_less : (low high : ℕ) → low ≡ packed 4 (fewer x f) 16 → high ≡ packed 5 (λ v. fewer x f (16 + v)) 10
      → Tallies (record { low = low; high = high }) (fewer x f)
  tallies_less low high e e' =
      record {
        low = e;
        high = e';
        low_fits = λ v h. omega (arith, among.tallies.low_fits v h);
        high_fits = λ v h. omega (arith, among.tallies.high_fits v h);
      }

  -- x is below 16: from `high` one goes for each v
  module _ (h : x < 16) (upward : ℕ) (e : upward ≡ each_low - each_low % 2 ^ (4 * x)) where
    from_low : upward ≡ packed 4 (from_on x) 16
    from_low = e ∙ each_upward 4 (omega arith) x 16 (omega arith)

    all_high : each_high ≡ packed 5 (λ v. from_on x (16 + v)) 10
    all_high = pack_same 5 10 (λ v. 1) (λ v. from_on x (16 + v)) (λ v l. rw (le-ltb (16 + v) x (omega arith)))

    pub low_within : (upward ≤ tally.low) × (each_high ≤ tally.high)
    low_within = ((taken upward low_less from_low).0, (taken each_high high_less all_high).0)

    pub without_low_lem : (low high : ℕ) → low ≡ tally.low - upward → high ≡ tally.high - each_high
        → Tallies (record { low = low; high = high }) (fewer x f)
    without_low_lem low high el eh = tallies_less low high (el ∙ (taken upward low_less from_low).1) (eh ∙ (taken each_high high_less all_high).1)

  -- it is not: `low` stays
  module _ (h : 16 ≤ x) (small : x < 26) (upward : ℕ) (e : upward ≡ each_high - each_high % 2 ^ (5 * (x - 16))) where
    none_low : 0 ≡ packed 4 (from_on x) 16
    none_low = pack_same 4 16 (λ v. 0) (from_on x) (λ v l. rw (lt-ltb v x (omega arith)))

    from_high : upward ≡ packed 5 (λ v. from_on x (16 + v)) 10
    from_high =
        e
        ∙ each_upward 5 (omega arith) (x - 16) 10 (omega arith)
        ∙ pack_same 5 10 (from_on (x - 16)) (λ v. from_on x (16 + v)) (λ v l. go v (dec_lt v (x - 16)))
      where
        go : (v : ℕ) → Dec (v < x - 16) → from_on (x - 16) v ≡ from_on x (16 + v)
        go v (yes l) = rw (lt-ltb v (x - 16) l, lt-ltb (16 + v) x (omega arith))
        go v (no l) = rw (le-ltb v (x - 16) (omega arith), le-ltb (16 + v) x (omega arith))

    pub high_within : upward ≤ tally.high
    high_within = (taken upward high_less from_high).0

    pub without_high_lem : (high : ℕ) → high ≡ tally.high - upward → Tallies (record { low = tally.low; high = high }) (fewer x f)
    without_high_lem high eh =
        let stays : tally.low ≡ tally.low - 0 = omega arith in
        tallies_less tally.low high (stays ∙ (taken 0 low_less none_low).1) (eh ∙ (taken upward high_less from_high).1)
