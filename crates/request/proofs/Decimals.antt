-- Laws of decimals and of lines of numbers.
use mathlib.Core.Path.{◌≡◌, refl, sym, ap, ◌∙◌}
use mathlib.Core.List.{List, [], ◌∷◌, ◌++◌, append_assoc}
use Prim.Native.Nat.{ℕ, zero, suc, ◌+◌, ◌*◌, ◌/◌, ◌%◌, ◌≤◌, ◌<◌}
use native.Mathlib.Nat.{not-suc-le-zero}
use native.Mathlib.Decide.{dec_lt}
use native.Mathlib.Omega.{arith}
use borrow.Author.Tests.{lt-ltb, le-ltb}
use Rattle.request.specs.Text.{digits_of, decimal, line_end, line}

-- ---- decimals

digits_small : (f n : ℕ) → n < 10 → digits_of (suc f) n ≡ (48 + n) ∷ []
unfolding digits_of
digits_small f n h = rw (lt-ltb n 10 h, digits_of)

digits_more : (f n : ℕ) → 10 ≤ n → digits_of (suc f) n ≡ digits_of f (n / 10) ++ ((48 + n % 10) ∷ [])
unfolding digits_of
digits_more f n h = rw (le-ltb n 10 h, digits_of)

-- more room changes nothing
digits_room : (f g n : ℕ) → n < f → n < g → digits_of f n ≡ digits_of g n
digits_room zero g n hf hg = absurd (not-suc-le-zero hf)
digits_room (suc f) zero n hf hg = absurd (not-suc-le-zero hg)
digits_room (suc f) (suc g) n hf hg = go (digits_room f g (n / 10)) (dec_lt n 10)
  where
    go : (n / 10 < f → n / 10 < g → digits_of f (n / 10) ≡ digits_of g (n / 10)) → Dec (n < 10) → digits_of (suc f) n ≡ digits_of (suc g) n
    go below (yes l) = digits_small f n l ∙ sym (digits_small g n l)
    go below (no l) = digits_more f n (omega arith) ∙ rw (below (omega arith) (omega arith)) (sym (digits_more g n (omega arith)))

pub decimal_small : (n : ℕ) → n < 10 → decimal n ≡ (48 + n) ∷ []
unfolding decimal
decimal_small n h = digits_small n n h

pub decimal_more : (n : ℕ) → 10 ≤ n → decimal n ≡ decimal (n / 10) ++ ((48 + n % 10) ∷ [])
unfolding decimal
decimal_more n h = digits_more n n h ∙ rw (digits_room n (suc (n / 10)) (n / 10) (omega arith) (omega arith))

-- one digit more
pub decimal_grow : (v d : ℕ) → 1 ≤ v → d < 10 → decimal (10 * v + d) ≡ decimal v ++ ((48 + d) ∷ [])
decimal_grow v d h l =
    let q : (10 * v + d) / 10 ≡ v = omega arith in
    let m : (10 * v + d) % 10 ≡ d = omega arith in
    decimal_more (10 * v + d) (omega arith) ∙ rw (q, m)

-- ---- lines

-- each number with a space behind
unfoldable pub spaced : List ℕ → List ℕ
spaced [] = []
spaced (n ∷ ns) = decimal n ++ (32 ∷ spaced ns)

-- one number more, and what follows
pub spaced_snoc : (ns : List ℕ) (v : ℕ) (bs : List ℕ) → spaced ns ++ (decimal v ++ (32 ∷ bs)) ≡ spaced (ns ++ (v ∷ [])) ++ bs
unfolding spaced
spaced_snoc [] v bs = sym (append_assoc (decimal v) (32 ∷ []) bs)
spaced_snoc (n ∷ ns) v bs =
    append_assoc (decimal n) (32 ∷ spaced ns) (decimal v ++ (32 ∷ bs))
    ∙ ap (λ (l : List ℕ). decimal n ++ (32 ∷ l)) (spaced_snoc ns v bs)
    ∙ sym (append_assoc (decimal n) (32 ∷ spaced (ns ++ (v ∷ []))) bs)

next_number : (ns : List ℕ) (v : ℕ) → line_end (ns ++ (v ∷ [])) ≡ 32 ∷ line (ns ++ (v ∷ []))
unfolding line_end line
next_number [] v = refl
next_number (n ∷ ns) v = refl

pub line_snoc : (ns : List ℕ) (v : ℕ) (bs : List ℕ) → spaced ns ++ (decimal v ++ (10 ∷ bs)) ≡ line (ns ++ (v ∷ [])) ++ bs
unfolding spaced line line_end
line_snoc [] v bs = sym (append_assoc (decimal v) (10 ∷ []) bs)
line_snoc (n ∷ ns) v bs =
    append_assoc (decimal n) (32 ∷ spaced ns) (decimal v ++ (10 ∷ bs))
    ∙ ap (λ (l : List ℕ). decimal n ++ (32 ∷ l)) (line_snoc ns v bs)
    ∙ ap (λ (l : List ℕ). decimal n ++ (l ++ bs)) (sym (next_number ns v))
    ∙ sym (append_assoc (decimal n) (line_end (ns ++ (v ∷ []))) bs)
