-- The count by the values of the FIRST part: `count` peels off the last part, and it may be any other.
use mathlib.Core.Path.{◌≡◌, refl, sym, ap, ◌∙◌}
use mathlib.Core.Bool.{Bool, true, false, cond}
use mathlib.Core.List.{List, ◌∷◌}
use Prim.Native.Nat.{ℕ, zero, suc, ◌+◌, ◌-◌, ◌≤◌, ◌<◌, min}
use native.Mathlib.Nat.{le_refl}
use native.Mathlib.Decide.{dec_le, le_ind}
use native.Mathlib.Omega.{arith}
use borrow.Author.Tests.{le-leb, lt-leb}
use lib.Dec.{leb}
use lib.ListN.{length, get_or}
use Rattle.walsh.specs.Sums.{sum}
use Rattle.walsh.specs.Order.{count, count_of}
use Rattle.walsh.proofs.Lists.{sum_same, sum_none}
use Rattle.walsh.proofs.Window.{count_suc}

-- ---- sums

-- numbers that are 0 may be left out at the end
pub sum_stop : (f : ℕ → ℕ) (a b : ℕ) → a ≤ b → ((i : ℕ) → a ≤ i → i < b → f i ≡ 0) → sum f b ≡ sum f a
sum_stop f a b h =
    le_ind
    (λ (n : ℕ). ((i : ℕ) → a ≤ i → i < n → f i ≡ 0) → sum f n ≡ sum f a)
    (λ none. refl)
    (λ n l below none. omega (arith, below (λ i x y. none i x (omega arith)), none n l (le_refl (suc n))))
    b
    h

sum_add : (f g : ℕ → ℕ) (n : ℕ) → sum (λ i. f i + g i) n ≡ sum f n + sum g n
sum_add f g zero = refl
sum_add f g (suc n) = omega (arith, sum_add f g n)

pub sum_swap : (f : ℕ → ℕ → ℕ) (m n : ℕ) → sum (λ i. sum (f i) m) n ≡ sum (λ j. sum (λ i. f i j) n) m
sum_swap f m zero = sym (sum_none (λ j. 0) m (λ i l. refl))
sum_swap f m (suc n) = omega (arith, sum_swap f m n, sum_add (λ j. sum (λ i. f i j) n) (f n) m)

-- ---- what v leaves of r

-- f at what v leaves of r, and 0 where v is more than r
abbrev pub after : (ℕ → ℕ) → ℕ → ℕ → ℕ
after f r v = cond (leb v r) (f (r - v)) 0

pub after_le : (f : ℕ → ℕ) (r v : ℕ) → v ≤ r → after f r v ≡ f (r - v)
after_le f r v h = rw (le-leb v r h)

pub after_lt : (f : ℕ → ℕ) (r v : ℕ) → r < v → after f r v ≡ 0
after_lt f r v h = rw (lt-leb v r h)

pub after_same : (f g : ℕ → ℕ) (r v : ℕ) → ((x : ℕ) → f x ≡ g x) → after f r v ≡ after g r v
after_same f g r v e = ap (λ (x : ℕ). cond (leb v r) x 0) (e (r - v))

-- values above r add nothing
pub sum_after : (f : ℕ → ℕ) (m r : ℕ) → sum (λ v. f (r - v)) (suc (min m r)) ≡ sum (after f r) (suc m)
sum_after f m r =
    sum_same (λ v. f (r - v)) (after f r) (suc (min m r)) (λ v l. sym (after_le f r v (omega arith)))
    ∙ sym (sum_stop (after f r) (suc (min m r)) (suc m) (omega arith) (λ v x y. after_lt f r v (omega arith)))

after_sum : (f : ℕ → ℕ → ℕ) (m r v : ℕ) → after (λ x. sum (f x) m) r v ≡ sum (λ w. after (λ x. f x w) r v) m
after_sum f m r v = go (leb v r)
  where
    go : (b : Bool) → cond b (sum (f (r - v)) m) 0 ≡ sum (λ w. cond b (f (r - v) w) 0) m
    go true = refl
    go false = sym (sum_none (λ w. 0) m (λ i l. refl))

after_comm : (f : ℕ → ℕ) (r v w : ℕ) → after (λ x. after f x w) r v ≡ after (λ x. after f x v) r w
after_comm f r v w = go (dec_le (v + w) r)
  where
    both : (a b : ℕ) → a + b ≤ r → after (λ x. after f x b) r a ≡ f (r - (a + b))
    both a b h =
        let e : r - a - b ≡ r - (a + b) = omega arith in
        after_le (λ x. after f x b) r a (omega arith) ∙ after_le f (r - a) b (omega arith) ∙ ap f e

    none : (a b : ℕ) → r < a + b → Dec (a ≤ r) → after (λ x. after f x b) r a ≡ 0
    none a b h (yes l) = after_le (λ x. after f x b) r a l ∙ after_lt f (r - a) b (omega arith)
    none a b h (no l) = after_lt (λ x. after f x b) r a (omega arith)

    go : Dec (v + w ≤ r) → after (λ x. after f x w) r v ≡ after (λ x. after f x v) r w
    go (yes l) =
        let e : v + w ≡ w + v = omega arith in
        both v w l ∙ ap (λ (n : ℕ). f (r - n)) e ∙ sym (both w v (omega arith))
    go (no l) = none v w (omega arith) (dec_le v r) ∙ sym (none w v (omega arith) (dec_le w r))

-- ---- one part more

-- f with one part more, of bound m: f at what each value of that part leaves
abbrev extended : (ℕ → ℕ) → ℕ → ℕ → ℕ
extended f m r = sum (after f r) (suc m)

extended_same : (f g : ℕ → ℕ) (m r : ℕ) → ((x : ℕ) → f x ≡ g x) → extended f m r ≡ extended g m r
extended_same f g m r e = sum_same (after f r) (after g r) (suc m) (λ v l. after_same f g r v e)

-- of two parts more, either may come first
extended_comm : (f : ℕ → ℕ) (a b r : ℕ) → extended (extended f a) b r ≡ extended (extended f b) a r
extended_comm f a b r =
    by_pairs a b
    ∙ sum_swap left (suc a) (suc b)
    ∙ sum_same (λ v. sum (λ w. left w v) (suc b)) (λ v. sum (left v) (suc b)) (suc a)
    (λ v l. sum_same (λ w. left w v) (left v) (suc b) (λ w l. after_comm f r w v))
    ∙ sym (by_pairs b a)
  where
    -- f at what w and v leave
    left : ℕ → ℕ → ℕ
    left w v = after (λ x. after f x v) r w

    by_pairs : (a b : ℕ) → extended (extended f a) b r ≡ sum (λ w. sum (left w) (suc a)) (suc b)
    by_pairs a b =
        sum_same (after (extended f a) r) (λ w. sum (left w) (suc a)) (suc b) (λ w l. after_sum (λ x v. after f x v) (suc a) r w)

-- ---- the two ways to peel

pub count_last : (ms : List ℕ) (k r : ℕ) → count ms (suc k) r ≡ extended (count ms k) (get_or ms k 0) r
count_last ms k r = count_suc ms k r ∙ sum_after (count ms k) (get_or ms k 0) r

no_parts : (ms ns : List ℕ) (r : ℕ) → count ms 0 r ≡ count ns 0 r
unfolding count
no_parts ms ns zero = refl
no_parts ms ns (suc r) = refl

-- the same sum over the values of the first part
pub count_first : (m : ℕ) (ms : List ℕ) (n r : ℕ) → count (m ∷ ms) (suc n) r ≡ sum (after (count ms n) r) (suc m)
count_first m ms zero r = count_last (m ∷ ms) 0 r ∙ extended_same (count (m ∷ ms) 0) (count ms 0) m r (no_parts (m ∷ ms) ms)
count_first m ms (suc n) r =
    let b : ℕ = get_or ms n 0 in
    count_last (m ∷ ms) (suc n) r
    ∙ extended_same (count (m ∷ ms) (suc n)) (extended (count ms n) m) b r (count_first m ms n)
    ∙ extended_comm (count ms n) m b r
    ∙ extended_same (extended (count ms n) b) (count ms (suc n)) m r (λ x. sym (count_last ms n x))

-- the plain recursion, over the values of the first part
count_peel : (m : ℕ) (ms : List ℕ) (n r : ℕ) → count (m ∷ ms) (suc n) r ≡ sum (λ v. count ms n (r - v)) (suc (min m r))
count_peel m ms n r = count_first m ms n r ∙ sym (sum_after (count ms n) m r)

pub count_of_peel : (m : ℕ) (ms : List ℕ) (r : ℕ) → count_of (m ∷ ms) r ≡ sum (λ v. count_of ms (r - v)) (suc (min m r))
unfolding count_of
count_of_peel m ms r = count_peel m ms (length ms) r
