-- Reading byte by byte finds exactly the lines of numbers.
use mathlib.Core.Path.{◌≡◌, refl, sym, ap, ◌∙◌, subst}
use mathlib.Core.Bool.{true, false}
use mathlib.Core.List.{List, [], ◌∷◌, ◌++◌, append_assoc}
use Rattle.std.specs.Prelude.{Option, Some, None}
use Prim.Native.Nat.{ℕ, zero, suc, ◌+◌, ◌-◌, ◌*◌, ◌/◌, ◌%◌, ◌≤◌, ◌<◌}
use native.Mathlib.Omega.{arith}
use lib.Dec.{eqb}
use lib.ListN.{length, get_or, length-append}
use borrow.Author.Tests.{le-ltb, eqb-true, eqb-false, ne_eqb}
use Rattle.std.specs.Char.{is_ascii_digit}
use Rattle.std.proofs.lemmas.Bool.Decides.{nat_tests}
use Rattle.walsh.proofs.Cases.{on_test, on_less}
use Rattle.request.specs.Text.{decimal, line_end, line}
use Rattle.request.specs.Scan.{with_digit, grown_of, is_end, found, none, scan}
use Rattle.request.proofs.Decimals.{decimal_small, decimal_more, decimal_grow, spaced, spaced_snoc, line_snoc}

-- the numbers are at most 999
abbrev pub Small : List ℕ → Type 0
Small ns = (i : ℕ) → get_or ns i 0 ≤ 999

small_snoc : (ns : List ℕ) (v : ℕ) → Small ns → v ≤ 999 → Small (ns ++ (v ∷ []))
small_snoc [] v s h zero = h
small_snoc [] v s h (suc i) = s 0
small_snoc (n ∷ ns) v s h zero = s 0
small_snoc (n ∷ ns) v s h (suc i) = small_snoc ns v (λ j. s (suc j)) h i

pub small_one : (v : ℕ) → v ≤ 999 → Small (v ∷ [])
small_one v h = small_snoc [] v (λ i. omega arith) h

-- ---- one byte

digit_at : (d : ℕ) → d < 10 → is_ascii_digit (48 + d) ≡ true
digit_at d h = grind (arith, nat_tests)

digit_in : (b : ℕ) → is_ascii_digit b ≡ true → (48 ≤ b) × (b < 58)
digit_in b e = (grind (arith, nat_tests), grind (arith, nat_tests))

module _ (ns : List ℕ) (n : Option ℕ) (bs : List ℕ) where
  -- a byte within a number
  pub scan_grow : (b v : ℕ) → is_end b ≡ false → grown_of n b ≡ Some v → scan ns n (b ∷ bs) ≡ scan ns (Some v) bs
  unfolding scan
  scan_grow b v e g = rw (e, g)

  -- a byte with which no number goes on
  pub scan_bad : (b : ℕ) → is_end b ≡ false → grown_of n b ≡ None → scan ns n (b ∷ bs) ≡ none
  unfolding scan
  scan_bad b e g = rw (e, g)

  -- a space or a line feed where no number was read
  pub scan_empty : (b : ℕ) → is_end b ≡ true → n ≡ None → scan ns n (b ∷ bs) ≡ none
  unfolding scan
  scan_empty b t e = rw (t, e)

  pub scan_last : (v : ℕ) → n ≡ Some v → scan ns n (10 ∷ bs) ≡ found (ns ++ (v ∷ [])) bs
  unfolding scan
  scan_last v e = rw e

  pub scan_next : (b v : ℕ) → is_end b ≡ true → n ≡ Some v → (b ≡ 10 → ⊥) → scan ns n (b ∷ bs) ≡ scan (ns ++ (v ∷ [])) None bs
  unfolding scan
  scan_next b v t e l = rw (t, e, ne_eqb b 10 l)

  scan_digit : (d v : ℕ) → d < 10 → with_digit n d ≡ Some v → scan ns n ((48 + d) ∷ bs) ≡ scan ns (Some v) bs
  unfolding grown_of
  scan_digit d v h g =
      let e : 48 + d - 48 ≡ d = omega arith in
      scan_grow (48 + d) v
      (rw (ne_eqb (48 + d) 32 (λ z. omega arith), ne_eqb (48 + d) 10 (λ z. omega arith)))
      (rw (digit_at d h, e) g)

-- ---- every line is found

module _ (ns : List ℕ) where
  scan_one : (v : ℕ) (bs : List ℕ) → v < 10 → scan ns None (decimal v ++ bs) ≡ scan ns (Some v) bs
  scan_one v bs h = rw (decimal_small v h) (scan_digit ns None bs v v h refl)

  -- one digit more than a number that is read
  scan_more : (v : ℕ) → v ≤ 999 → ((cs : List ℕ) → scan ns None (decimal (v / 10) ++ cs) ≡ scan ns (Some (v / 10)) cs)
      → (bs : List ℕ) → scan ns None (decimal v ++ bs) ≡ scan ns (Some v) bs
  scan_more v h below bs = on_less v 10 (λ l _. scan_one v bs l) (λ l _.
      let e : 10 * (v / 10) + v % 10 ≡ v = omega arith in
      ap (λ (x : List ℕ). scan ns None (x ++ bs)) (decimal_more v l)
      ∙ ap (scan ns None) (append_assoc (decimal (v / 10)) ((48 + v % 10) ∷ []) bs)
      ∙ below ((48 + v % 10) ∷ bs)
      ∙ scan_digit ns (Some (v / 10)) bs (v % 10) v (omega arith)
      (rw (le-ltb (v / 10) 1 (omega arith), le-ltb 99 (v / 10) (omega arith), e)))

  scan_decimal : (v : ℕ) → v ≤ 999 → (bs : List ℕ) → scan ns None (decimal v ++ bs) ≡ scan ns (Some v) bs
  scan_decimal v h =
      scan_more v h (scan_more (v / 10) (omega arith) (λ cs. scan_one (v / 10 / 10) cs (omega arith)))

scan_end : (ns : List ℕ) (v : ℕ) (ms bs : List ℕ) → v ≤ 999 → Small ms → scan ns (Some v) (line_end ms ++ bs) ≡ found (ns ++ (v ∷ ms)) bs
unfolding line_end
scan_end ns v [] bs h s = scan_last ns (Some v) bs v refl
scan_end ns v (m ∷ ms) bs h s =
    scan_next ns (Some v) ((decimal m ++ line_end ms) ++ bs) 32 v refl refl (λ z. omega arith)
    ∙ ap (scan (ns ++ (v ∷ [])) None) (append_assoc (decimal m) (line_end ms) bs)
    ∙ scan_decimal (ns ++ (v ∷ [])) m (s 0) (line_end ms ++ bs)
    ∙ scan_end (ns ++ (v ∷ [])) m ms bs (s 0) (λ i. s (suc i))
    ∙ ap (λ (l : List ℕ). found l bs) (append_assoc ns (v ∷ []) (m ∷ ms))

pub scan_complete : (ms bs : List ℕ) → 0 < length ms → Small ms → scan [] None (line ms ++ bs) ≡ found ms bs
unfolding line
scan_complete [] bs h s = absurd (omega arith)
scan_complete (m ∷ ms) bs h s =
    ap (scan [] None) (append_assoc (decimal m) (line_end ms) bs)
    ∙ scan_decimal [] m (s 0) (line_end ms ++ bs)
    ∙ scan_end [] m ms bs (s 0) (λ i. s (suc i))

-- ---- what is found is a line

abbrev text : Option ℕ → List ℕ
text None = []
text (Some v) = decimal v

-- the number v, at most 999, is n with b more
record Grows (n : Option ℕ) (b v : ℕ) : Type 0 where
  is : decimal v ≡ text n ++ (b ∷ [])
  few : v ≤ 999

no_number : {v : ℕ} {A : Type 0} → ◌≡◌ {A = Option ℕ} None (Some v) → A
no_number e = cc

with_grows : (n : Option ℕ) (d v : ℕ) → d < 10 → with_digit n d ≡ Some v → Grows n (48 + d) v
with_grows None d v h e =
    let q : d ≡ v = cc in
    rw (← q) (record { is = decimal_small d h; few = omega arith })
with_grows (Some w) d v h e = on_less w 1
    (λ l t. no_number (rw t at e))
    (λ l t. on_less 99 w
    (λ m u. no_number (rw (t, u) at e))
    (λ m u.
    let same : ◌≡◌ {A = Option ℕ} (Some (10 * w + d)) (Some v) = rw (t, u) at e in
    let q : 10 * w + d ≡ v = cc in
    rw (← q) (record { is = decimal_grow w d l h; few = omega arith })))

grown_grows : (n : Option ℕ) (b v : ℕ) → grown_of n b ≡ Some v → Grows n b v
unfolding grown_of
grown_grows n b v e = on_test (is_ascii_digit b)
    (λ t.
    let digit = digit_in b t in
    let q : 48 + (b - 48) ≡ b = omega arith in
    subst (λ (x : ℕ). Grows n x v) q (with_grows n (b - 48) v (omega arith) (rw t at e)))
    (λ t. no_number (rw t at e))

-- a number that is read is at most 999
abbrev Few : Option ℕ → Type 0
Few None = Unit {0}
Few (Some v) = v ≤ 999

-- the numbers ns, n and the bytes are a line of the numbers ms, and what follows it
record LineOf (ns : List ℕ) (n : Option ℕ) (bs ms rest : List ℕ) : Type 0 where
  is : spaced ns ++ (text n ++ bs) ≡ line ms ++ rest
  small : Small ms
  some : 0 < length ms

last_line : (ns : List ℕ) (v : ℕ) (bs ms rest : List ℕ) → Small ns → v ≤ 999 → found (ns ++ (v ∷ [])) bs ≡ found ms rest
    → LineOf ns (Some v) (10 ∷ bs) ms rest
last_line ns v bs ms rest s h e =
    let m : ms ≡ ns ++ (v ∷ []) = cc in
    let r : rest ≡ bs = cc in
    rw (m, r)
    (record { is = line_snoc ns v bs; small = small_snoc ns v s h; some = omega (arith, length-append ns (v ∷ [])) })

next_line : (ns : List ℕ) (v : ℕ) (bs ms rest : List ℕ) → LineOf (ns ++ (v ∷ [])) None bs ms rest → LineOf ns (Some v) (32 ∷ bs) ms rest
next_line ns v bs ms rest p = record { is = spaced_snoc ns v bs ∙ p.is; small = p.small; some = p.some }

grown_line : (ns : List ℕ) (n : Option ℕ) (b v : ℕ) (bs ms rest : List ℕ) → Grows n b v → LineOf ns (Some v) bs ms rest
    → LineOf ns n (b ∷ bs) ms rest
grown_line ns n b v bs ms rest g p =
    record {
      is = ap (λ (l : List ℕ). spaced ns ++ l) (sym (append_assoc (text n) (b ∷ []) bs) ∙ ap (λ (l : List ℕ). l ++ bs) (sym g.is)) ∙ p.is;
      small = p.small;
      some = p.some;
    }

not_found : {ms rest : List ℕ} {A : Type 0} → none ≡ found ms rest → A
not_found e = cc

end_is : (b : ℕ) → is_end b ≡ true → (b ≡ 10 → ⊥) → b ≡ 32
end_is b t h = on_test (eqb b 32) (λ u. eqb-true b 32 u) (λ u. absurd (h (eqb-true b 10 (rw u at t))))

-- a number ends
sound_end : (b : ℕ) (bs ns : List ℕ) (n : Option ℕ) (ms rest : List ℕ) → Small ns → Few n → is_end b ≡ true → scan ns n (b ∷ bs) ≡ found ms rest
    → ((v : ℕ) → Small (ns ++ (v ∷ [])) → scan (ns ++ (v ∷ [])) None bs ≡ found ms rest → LineOf (ns ++ (v ∷ [])) None bs ms rest)
    → LineOf ns n (b ∷ bs) ms rest
sound_end b bs ns None ms rest s f t e next = not_found (sym (scan_empty ns None bs b t refl) ∙ e)
sound_end b bs ns (Some v) ms rest s f t e next = on_test (eqb b 10)
    (λ u. rw (eqb-true b 10 u) (last_line ns v bs ms rest s f (sym (scan_last ns (Some v) bs v refl) ∙ rw (eqb-true b 10 u) at e)))
    (λ u.
    let ten = eqb-false b 10 u in
    rw (end_is b t ten) (next_line ns v bs ms rest (next v (small_snoc ns v s f) (sym (scan_next ns (Some v) bs b v t refl ten) ∙ e))))

-- a number goes on, or something stands there that is none
sound_on : (b : ℕ) (bs ns : List ℕ) (n : Option ℕ) (ms rest : List ℕ) → is_end b ≡ false → scan ns n (b ∷ bs) ≡ found ms rest
    → ((v : ℕ) → v ≤ 999 → scan ns (Some v) bs ≡ found ms rest → LineOf ns (Some v) bs ms rest)
    → (x : Option ℕ) → grown_of n b ≡ x → LineOf ns n (b ∷ bs) ms rest
sound_on b bs ns n ms rest t e next None g = not_found (sym (scan_bad ns n bs b t g) ∙ e)
sound_on b bs ns n ms rest t e next (Some v) g =
    let grows = grown_grows n b v g in
    grown_line ns n b v bs ms rest grows (next v grows.few (sym (scan_grow ns n bs b v t g) ∙ e))

sound : (bs ns : List ℕ) (n : Option ℕ) (ms rest : List ℕ) → Small ns → Few n → scan ns n bs ≡ found ms rest → LineOf ns n bs ms rest
unfolding scan
sound [] ns n ms rest s f e = not_found e
sound (b ∷ bs) ns n ms rest s f e =
    go (λ v h. sound bs ns (Some v) ms rest s h) (λ v h. sound bs (ns ++ (v ∷ [])) None ms rest h tt)
  where
    go : ((v : ℕ) → v ≤ 999 → scan ns (Some v) bs ≡ found ms rest → LineOf ns (Some v) bs ms rest)
        → ((v : ℕ) → Small (ns ++ (v ∷ [])) → scan (ns ++ (v ∷ [])) None bs ≡ found ms rest → LineOf (ns ++ (v ∷ [])) None bs ms rest)
        → LineOf ns n (b ∷ bs) ms rest
    go on next = on_test (is_end b)
        (λ t. sound_end b bs ns n ms rest s f t e next)
        (λ t. sound_on b bs ns n ms rest t e on (grown_of n b) refl)

pub scan_sound : (bs ms rest : List ℕ) → scan [] None bs ≡ found ms rest → (bs ≡ line ms ++ rest) × Small ms × (0 < length ms)
unfolding spaced
scan_sound bs ms rest e =
    let p = sound bs [] None ms rest (λ i. omega arith) tt e in
    (p.is, p.small, p.some)
