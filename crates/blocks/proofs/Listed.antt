-- Laws of the lists: where an entry stands, and what the list of one sum more makes of them.
use mathlib.Core.Path.{◌≡◌, refl, sym, ap, ◌∙◌}
use mathlib.Core.Logic.{◌⊎◌, inl, inr}
use mathlib.Core.List.{List, [], ◌++◌}
use Prim.Native.Nat.{ℕ, zero, suc, ◌+◌, ◌*◌, ◌≤◌, ◌<◌}
use native.Mathlib.Nat.{not-suc-le-zero, le_of_suc-le-suc, eq-or-lt_of_le, zero-mul, add-mul, mul-le-mul_right}
use native.Mathlib.Numerals.{add-one}
use native.Mathlib.Omega.{arith}
use lib.ListN.{length, get_or, set, take, drop, length-append, length-drop, take-append-drop}
use lib.Seq.{length-take-le, take-append-le, drop-append-le, drop-append-add, get_or-set_same, get_or-set_other}
use Rattle.std.proofs.Common.{Result, Ok, Err, Option, Some, None}
use Rattle.std.specs.Result.{result_ok}
use Rattle.bounds.specs.declared.Reason.{Reason}
use Rattle.walsh.specs.Order.{count_of}
use Rattle.walsh.specs.Serial.{composition_of}
use Rattle.walsh.proofs.Lists.{sum_mono}
use Rattle.step.proofs.Copies.{copies_length, copy_at_lem, put_taken}
use Rattle.blocks.specs.Lists.{joined, all_of, lists_to, number_to, ListedTo, Lists, ListsAll}

-- what `.ok()?` found
pub was_ok : {A : Type 0} (r : Result A Reason) (o : Option A) (x : A) → o ≡ result_ok r → o ≡ Some x → r ≡ Ok x
was_ok (Ok y) o x e w = let same : Some y ≡ Some x = sym e ∙ w in cc
was_ok (Err y) o x e w = let other : None ≡ Some x = sym e ∙ w in absurd (cc)

-- ---- what is joined

pub joined_none : (f : ℕ → List ℕ) → joined f 0 ≡ []
unfolding joined
joined_none f = refl

pub joined_next : (f : ℕ → List ℕ) (n : ℕ) → joined f (n + 1) ≡ joined f n ++ f n
unfolding joined
joined_next f n = rw add-one

pub joined_same : (f g : ℕ → List ℕ) (n : ℕ) → ((j : ℕ) → j < n → f j ≡ g j) → joined f n ≡ joined g n
unfolding joined
joined_same f g zero same = refl
joined_same f g (suc n) same = rw (joined_same f g n (λ j l. same j (omega arith)), same n (omega arith))

-- ---- the lists

module _ (u : List ℕ) where
  all_length : (s : ℕ) → length (all_of u s) ≡ count_of u s * length u
  all_length s = copies_length u s 1 (omega arith) (count_of u s) (omega arith)

  pub lists_length : (n : ℕ) → length (lists_to u n) ≡ number_to u n * length u
  unfolding joined
  lists_length zero = sym (zero-mul (length u))
  lists_length (suc n) =
      length-append (lists_to u n) (all_of u n)
      ∙ omega (arith, lists_length n, all_length n, add-mul (number_to u n) (count_of u n) (length u))

  -- entry number i of the sum s lies before the list of the sum n
  entry_below : (n s i : ℕ) → s < n → i < count_of u s → (number_to u s + i) * length u + length u ≤ number_to u n * length u
  entry_below n s i l b =
      let up : number_to u s + i + 1 ≤ number_to u n = omega (arith, sum_mono (count_of u) (suc s) n l) in
      omega (arith, mul-le-mul_right (length u) up, add-mul (number_to u s + i) 1 (length u))

  pub entry_in : (n s i : ℕ) → s < n → i < count_of u s
      → take (length u) (drop ((number_to u s + i) * length u) (lists_to u n)) ≡ composition_of u s (1 + i)
  unfolding joined
  entry_in zero s i l b = absurd (not-suc-le-zero l)
  entry_in (suc n) s i l b = go (λ k. entry_in n s i k b) (eq-or-lt_of_le (le_of_suc-le-suc l))
    where
      w : ℕ
      w = length u

      before : List ℕ
      before = lists_to u n

      go : (s < n → take w (drop ((number_to u s + i) * w) before) ≡ composition_of u s (1 + i)) → (s ≡ n) ⊎ (s < n)
          → take w (drop ((number_to u s + i) * w) (before ++ all_of u n)) ≡ composition_of u s (1 + i)
      go below (inl e) =
          let at : (number_to u s + i) * w ≡ length before + i * w = add-mul (number_to u s) i w ∙ rw (e, lists_length n) in
          rw (at, drop-append-add before (all_of u n) (i * w), ← e) (copy_at_lem u s 1 (omega arith) (count_of u s) i (omega arith) b)
      go below (inr k) =
          let size = lists_length n in
          let room = entry_below n s i k b in
          rw (drop-append-le ((number_to u s + i) * w) before (all_of u n) (omega arith))
          (take-append-le w (drop ((number_to u s + i) * w) before) (all_of u n) (simp length-drop (omega arith)) ∙ below k)

  -- a part of the beginning of a list
  part_of : (l : List ℕ) (all a n : ℕ) → a + n ≤ all → all ≤ length l → take n (drop a (take all l)) ≡ take n (drop a l)
  part_of l all a n h k =
      let size : length (take all l) ≡ all = length-take-le all l k in
      sym (ap (λ (x : List ℕ). take n (drop a x)) (sym (take-append-drop all l))
      ∙ ap (take n) (drop-append-le a (take all l) (drop all l) (omega arith))
      ∙ take-append-le n (drop a (take all l)) (drop all l) (simp length-drop (omega arith)))

  module _ (most : ℕ) (entries starts : List ℕ) (lists : Lists u most entries starts) (s i : ℕ) (l : s ≤ most) (b : i < count_of u s) where
    pub entry_at_lem : take (length u) (drop ((number_to u s + i) * length u) entries) ≡ composition_of u s (1 + i)
    entry_at_lem =
        let below = entry_below (suc most) s i (omega arith) b in
        sym (part_of entries (number_to u (suc most) * length u) ((number_to u s + i) * length u) (length u) below (omega (arith, lists.room)))
        ∙ ap (λ (x : List ℕ). take (length u) (drop ((number_to u s + i) * length u) x)) lists.listed.held
        ∙ entry_in (suc most) s i (omega arith) b

    -- 16 bytes from there on
    pub entry_room : (number_to u s + i) * length u + 16 ≤ length entries
    entry_room = omega (arith, entry_below (suc most) s i (omega arith) b, lists.room)

  -- ---- filling them

  pub listed_none : (entries starts : List ℕ) → get_or starts 0 0 ≡ 0 → ListedTo u 0 0 entries starts
  unfolding joined
  listed_none entries starts z =
      record { number_is = refl; held = rw zero-mul; before = λ k l. let e : k ≡ 0 = omega arith in rw (e, z) }

  -- the list of the sum s behind the others: `out` is the part of the entries from there on, which `rest` follows
  pub listed_next : (s number more : ℕ) (entries starts out rest : List ℕ) → ListedTo u s number entries starts → ListsAll u s more out
      → number * length u ≤ length entries → more * length u ≤ length out → s + 1 < length starts
      → ListedTo u (s + 1) (number + more) (take (number * length u) entries ++ (out ++ rest)) (set starts (s + 1) (number + more))
  unfolding joined
  listed_next s number more entries starts out rest known all h k room =
      let is : number + more ≡ number_to u (s + 1) = rw add-one (omega (arith, known.number_is, all.number_is)) in
      record {
        number_is = is;
        held =
            ap (λ (x : ℕ). take x (take (number * length u) entries ++ (out ++ rest))) (add-mul number more (length u))
            ∙ put_taken entries out rest (number * length u) (more * length u) h k
            ∙ rw (known.held, all.held, add-one);
        before = λ j l. go j l is (eq-or-lt_of_le l);
      }
    where
      go : (j : ℕ) → j ≤ s + 1 → number + more ≡ number_to u (s + 1) → (j ≡ s + 1) ⊎ (j < s + 1)
          → get_or (set starts (s + 1) (number + more)) j 0 ≡ number_to u j
      go j l is (inl e) = rw e (get_or-set_same starts (s + 1) (number + more) 0 room ∙ is)
      go j l is (inr b) = get_or-set_other starts (s + 1) j (number + more) 0 (λ e. omega arith) ∙ known.before j (omega arith)
