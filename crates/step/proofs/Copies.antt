-- Laws of a batch: where its copies stand, and what makes the next one.
use mathlib.Core.Path.{◌≡◌, refl, sym, ap, ◌∙◌}
use mathlib.Core.Bool.{false, true≢false}
use mathlib.Core.List.{List, [], ◌++◌}
use Prim.Native.Nat.{ℕ, zero, suc, ◌+◌, ◌-◌, ◌*◌, ◌/◌, ◌%◌, ◌≤◌, ◌<◌}
use mathlib.Core.Logic.{◌⊎◌, inl, inr}
use native.Mathlib.Nat.{not-suc-le-zero, le_of_suc-le-suc, eq-or-lt_of_le, zero-mul, mul-le-mul_right, suc-mul}
use native.Mathlib.Nat.{mul-mod_left, mul-div_left, div-add-mod'}
use native.Mathlib.Numerals.{add-one}
use native.Mathlib.Omega.{arith}
use lib.Dec.{eqb}
use lib.ListN.{length, take, drop, length-take, length-drop, length-append}
use lib.Seq.{drop_at, take_all, take-append-add, take-append-le, drop-append-le, length-take-le}
use borrow.Author.Tests.{eqb-true, eq-eqb, ne_eqb}
use Rattle.walsh.specs.Order.{count_of}
use Rattle.walsh.specs.Serial.{composition_of}
use Rattle.walsh.proofs.Cases.{on_test}
use Rattle.walsh.proofs.Serials.{composition_is}
use Rattle.step.specs.Batch.{copies_of}
use Rattle.step.specs.Advance.{turn_of}
use Rattle.step.proofs.Ways.{turn_forward, advance_serial}

-- ---- c parts of n bytes

pub part_within : (j c n : ℕ) → j < c → j * n + n ≤ c * n
part_within j c n l = omega (arith, mul-le-mul_right n l, suc-mul j n)

pub part_next : (j n : ℕ) → (j + 1) * n ≡ j * n + n
part_next j n = rw (add-one, suc-mul)

-- all from a on
pub part_length : (xs : List ℕ) (a : ℕ) → length (take (length xs - a) (drop a xs)) ≡ length xs - a
part_length xs a = simp (length-take, length-drop) (omega arith)

-- after ys are put in the place of elements from a on, the first a + n are those before a and the first n of ys
pub put_taken : (xs ys rest : List ℕ) (a n : ℕ) → a ≤ length xs → n ≤ length ys → take (a + n) (take a xs ++ (ys ++ rest)) ≡ take a xs ++ take n ys
put_taken xs ys rest a n l k =
    ap (λ (m : ℕ). take (m + n) (take a xs ++ (ys ++ rest))) (sym (length-take-le a xs l))
    ∙ take-append-add (take a xs) (ys ++ rest) n
    ∙ ap (λ (zs : List ℕ). take a xs ++ zs) (take-append-le n ys rest k)

-- `have` bytes are c parts of n
module _ (have n c : ℕ) (some : 0 < n) where
  pub room_rest : (have % n ≡ 0 → ⊥) → false ≡ eqb have (c * n)
  room_rest h = sym (ne_eqb have (c * n) (λ e. h (rw e (mul-mod_left c n))))

  pub room_parts : have % n ≡ 0 → eqb (have / n) c ≡ eqb have (c * n)
  room_parts z =
      let whole : have / n * n ≡ have = omega (arith, div-add-mod' have n) in
      on_test (eqb (have / n) c)
      (λ t. let e = eqb-true (have / n) c t in t ∙ sym (eq-eqb have (c * n) (sym whole ∙ ap (λ (q : ℕ). q * n) e)))
      (λ t. t ∙ sym (ne_eqb have (c * n) (λ e. true≢false (rw (e, mul-div_left c some, eq-eqb c c refl) at t))))

-- ---- the copies of a batch

module _ (ms : List ℕ) (r : ℕ) where
  pub copies_none : (s : ℕ) → copies_of ms r s 0 ≡ []
  unfolding copies_of
  copies_none s = refl

  pub copies_next : (s c : ℕ) → copies_of ms r s (c + 1) ≡ copies_of ms r s c ++ composition_of ms r (s + c)
  unfolding copies_of
  copies_next s c = rw add-one

  -- a turn from the composition of serial s
  pub turn_next : (s : ℕ) → 0 < s → s < count_of ms r → {g h : List ℕ} → g ≡ composition_of ms r s → h ≡ turn_of ms r g → h ≡ composition_of ms r (s + 1)
  turn_next s some l e t =
      let valid = composition_is ms r s some (omega arith) in
      t ∙ ap (turn_of ms r) e ∙ turn_forward ms r (composition_of ms r s) valid ∙ advance_serial ms r s some l

  -- "copy j of the batch, j from 0, is written from byte j × n"
  module _ (s : ℕ) (some : 0 < s) where
    copy_size : (c : ℕ) → s + c ≤ count_of ms r → length (composition_of ms r (s + c)) ≡ length ms
    copy_size c h = (composition_is ms r (s + c) (omega arith) h).size

    pub copies_length : (c : ℕ) → s + c ≤ count_of ms r + 1 → length (copies_of ms r s c) ≡ c * length ms
    unfolding copies_of
    copies_length zero h = sym (zero-mul (length ms))
    copies_length (suc c) h =
        length-append (copies_of ms r s c) (composition_of ms r (s + c))
        ∙ omega (arith, copies_length c (omega arith), copy_size c (omega arith), suc-mul c (length ms))

    pub copy_at_lem : (c j : ℕ) → s + c ≤ count_of ms r + 1 → j < c
        → take (length ms) (drop (j * length ms) (copies_of ms r s c)) ≡ composition_of ms r (s + j)
    unfolding copies_of
    copy_at_lem zero j h l = absurd (not-suc-le-zero l)
    copy_at_lem (suc c) j h l = go (copy_at_lem c j (omega arith)) (eq-or-lt_of_le (le_of_suc-le-suc l))
      where
        n : ℕ
        n = length ms

        all : List ℕ
        all = copies_of ms r s c

        last : List ℕ
        last = composition_of ms r (s + c)

        size : length all ≡ c * n
        size = copies_length c (omega arith)

        go : (j < c → take n (drop (j * n) all) ≡ composition_of ms r (s + j)) → (j ≡ c) ⊎ (j < c)
            → take n (drop (j * n) (all ++ last)) ≡ composition_of ms r (s + j)
        go below (inl e) = rw (e, drop_at all last (c * n) size) (take_all n last (omega (arith, copy_size c (omega arith))))
        go below (inr m) =
            let w = part_within j c n m in
            rw (drop-append-le (j * n) all last (omega (arith, size)))
            (take-append-le n (drop (j * n) all) last (simp length-drop (omega (arith, size))) ∙ below m)
