-- A line put number by number, and how long it is.
use mathlib.Core.Path.{◌≡◌, refl, sym, ap, ◌∙◌}
use mathlib.Core.List.{List, [], ◌∷◌, ◌++◌, append_assoc}
use Prim.Native.Nat.{ℕ, suc, ◌+◌, ◌*◌, ◌≤◌, ◌<◌}
use native.Mathlib.Nat.{suc-mul}
use native.Mathlib.Numerals.{add-one}
use native.Mathlib.Omega.{arith}
use lib.ListN.{length, get_or, drop, length-append, drop_of_length-le}
use lib.Seq.{drop-cons}
use Rattle.walsh.specs.declared.Transition.{Transition}
use Rattle.request.specs.Text.{decimal}
use Rattle.lines.specs.Append.{Appended}
use Rattle.lines.specs.Lines.{counts_then, signed, pair_end, copy_line}
use Rattle.lines.proofs.Appends.{nothing, joined, retold}
use Rattle.lines.proofs.Lengths.{length_decimal, length_serial, length_byte}

-- ---- the pair at the end

module _ (x : Transition) where
  pub length_pair_end : length (pair_end x) ≡ 5 + length (decimal x.gain) + length (decimal x.loss)
  unfolding pair_end
  length_pair_end =
      let last = length-append (decimal x.loss) (10 ∷ []) in
      omega (arith, length-append (decimal x.gain) (signed 45 x.loss ++ (10 ∷ [])), last)

  -- kinds of at most two digits
  pub pair_end_short : x.gain ≤ 24 → x.loss ≤ 24 → length (pair_end x) ≤ 9
  pair_end_short g l =
      omega (arith, length_pair_end, length_decimal 1 x.gain (omega arith), length_decimal 1 x.loss (omega arith))

  pub pair_put : {a b c d : List ℕ} {at m e : ℕ} → Appended a b at m (signed 43 x.gain) → Appended b c m e (signed 45 x.loss)
      → Appended c d e (e + 1) (10 ∷ []) → Appended a d at (e + 1) (pair_end x)
  unfolding pair_end
  pair_put p q n = joined p (joined q n)

-- ---- the counts, and the text t behind them

module _ (parts t : List ℕ) (i : ℕ) where
  counts_next : i < length parts
      → counts_then (drop i parts) t ≡ 32 ∷ (decimal (get_or parts i 0) ++ counts_then (drop (i + 1) parts) t)
  counts_next h = rw (add-one i, drop-cons parts i 0 h) (unfold counts_then in refl)

  counts_last : length parts ≤ i → counts_then (drop i parts) t ≡ t
  counts_last h = rw (drop_of_length-le parts h) (unfold counts_then in refl)

  pub length_next : i < length parts
      → length (counts_then (drop i parts) t) ≡ 1 + (length (decimal (get_or parts i 0)) + length (counts_then (drop (i + 1) parts) t))
  length_next h = omega (arith, ap length (counts_next h), length-append (decimal (get_or parts i 0)) (counts_then (drop (i + 1) parts) t))

  pub length_last : length parts ≤ i → length (counts_then (drop i parts) t) ≡ length t
  length_last h = ap length (counts_last h)

-- parts of at most d digits
pub length_counts : (d : ℕ) (parts t : List ℕ) → ((i : ℕ) → i < length parts → length (decimal (get_or parts i 0)) ≤ d)
    → length (counts_then parts t) ≤ length t + length parts * suc d
unfolding counts_then
length_counts d [] t h = omega arith
length_counts d (p ∷ parts) t h =
    rw (suc-mul (length parts) (suc d))
    (omega (arith, length-append (decimal p) (counts_then parts t), h 0 (omega arith), length_counts d parts t (λ i l. h (suc i) (omega arith))))

-- ---- the line

pub length_line : (n : ℕ) (parts : List ℕ) (x : Transition)
    → length (copy_line n parts x) ≡ length (decimal n) + length (counts_then parts (pair_end x))
unfolding copy_line
length_line n parts x = length-append (decimal n) (counts_then parts (pair_end x))

-- the longest line of so many bytes
pub line_short : (n : ℕ) (parts : List ℕ) (x : Transition) → n < 18446744073709551616
    → ((i : ℕ) → i < length parts → get_or parts i 0 < 256) → x.gain ≤ 24 → x.loss ≤ 24
    → length (copy_line n parts x) ≤ 29 + 4 * length parts
line_short n parts x h b g l =
    let counts = length_counts 3 parts (pair_end x) (λ i k. length_byte (get_or parts i 0) (b i k)) in
    omega (arith, length_line n parts x, length_serial n h, counts, pair_end_short x g l)

-- ---- the first i parts are put, each with a space in front; the text t is to come behind the last

pub record Lined (parts t before after : List ℕ) (at end i : ℕ) : Type 0 where
  pub text : List ℕ
  pub is : text ++ counts_then (drop i parts) t ≡ counts_then parts t
  pub put : Appended before after at end text

pub lined_none : (parts t l : List ℕ) (at : ℕ) → Lined parts t l l at at 0
lined_none parts t l at = record { text = []; is = refl; put = nothing l at }

pub lined_next : {parts t a b c d : List ℕ} {at m i e : ℕ} → Lined parts t a b at m i → i < length parts
    → Appended b c m (m + 1) (32 ∷ []) → Appended c d (m + 1) e (decimal (get_or parts i 0)) → Lined parts t a d at e (i + 1)
lined_next {parts} {t} {a} {b} {c} {d} {at} {m} {i} {e} l h p q =
    record {
      text = l.text ++ ((32 ∷ []) ++ decimal (get_or parts i 0));
      is =
          append_assoc l.text ((32 ∷ []) ++ decimal (get_or parts i 0)) (counts_then (drop (i + 1) parts) t)
          ∙ ap (λ (u : List ℕ). l.text ++ u) (sym (counts_next parts t i h))
          ∙ l.is;
      put = joined l.put (joined p q);
    }

-- the serial, its parts and its pair
pub lined_end : (n : ℕ) (x : Transition) {parts a b c d : List ℕ} {at m e i f : ℕ} → Appended a b at m (decimal n)
    → Lined parts (pair_end x) b c m e i → length parts ≤ i → Appended c d e f (pair_end x) → Appended a d at f (copy_line n parts x)
unfolding copy_line
lined_end n x {parts} {a} {b} {c} {d} {at} {m} {e} {i} {f} p l h q =
    let whole : l.text ++ pair_end x ≡ counts_then parts (pair_end x) =
    ap (λ (u : List ℕ). l.text ++ u) (sym (counts_last parts (pair_end x) i h)) ∙ l.is in
    retold (ap (λ (u : List ℕ). decimal n ++ u) whole) (joined p (joined l.put q))
