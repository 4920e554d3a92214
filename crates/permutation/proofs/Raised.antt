-- One more in the inversion vector is one exchange in the permutation; so neighbouring compositions give permutations that differ by two
-- exchanges of separate pairs or by one turn of three places.
use mathlib.Core.Path.{◌≡◌, refl, sym, ap, ◌∙◌}
use mathlib.Core.List.{List, [], ◌∷◌, map}
use Prim.Native.Nat.{ℕ, zero, suc, ◌<◌}
use native.Mathlib.Decide.{dec_lt, ℕ_discrete}
use native.Mathlib.Omega.{arith}
use lib.ListN.{length, get_or, set, length-set, length-map}
use lib.Seq.{get_or-set_same, get_or-set_other, set-set, set-get_or, ext_get_or}
use borrow.Author.Tests.{eq-eqb, ne_eqb}
use Rattle.walsh.specs.Neighbours.{Neighbours}
use Rattle.permutation.specs.Permutation.{times, lift, permutation_of}
use Rattle.permutation.specs.Exchange.{exchange, Near}
use Rattle.permutation.proofs.Exchanges.{exchange_twice, two_exchanges}
use Rattle.permutation.proofs.Inverse.{Under, lift_low, lift_high, permutation_is, permutation_length}

-- ---- one more

-- the values c + 1 and c + 2 change places
lift_same : (c x : ℕ) → (x ≡ suc c → ⊥) → lift (suc c) x ≡ lift c x
lift_same c x other = go (dec_lt c x)
  where
    go : Dec (c < x) → lift (suc c) x ≡ lift c x
    go (yes h) = lift_high (suc c) x (omega arith) ∙ sym (lift_high c x h)
    go (no h) = lift_low (suc c) x (omega arith) ∙ sym (lift_low c x (omega arith))

map_same : (c : ℕ) (q : List ℕ) → times (suc c) q ≡ 0 → map (lift (suc c)) q ≡ map (lift c) q
map_same c [] e = refl
map_same c (x ∷ q) e = rw (lift_same c x (λ s. omega (arith, rw (eq-eqb x (suc c) s) at e)), map_same c q (omega arith))

record Next (c : ℕ) (q : List ℕ) : Type 0 where
  at : ℕ
  at_lt : at < length q
  value : get_or (map (lift c) q) at 0 ≡ suc (suc c)
  is : map (lift (suc c)) q ≡ set (map (lift c) q) at (suc c)

next : (c : ℕ) (q : List ℕ) → times (suc c) q ≡ 1 → Next c q
next c [] e = absurd (omega arith)
next c (x ∷ q) e = go (ℕ_discrete x (suc c)) (next c q)
  where
    go : Dec (x ≡ suc c) → (times (suc c) q ≡ 1 → Next c q) → Next c (x ∷ q)
    go (yes s) later =
        let none : times (suc c) q ≡ 0 = omega (arith, rw (eq-eqb x (suc c) s) at e) in
        record {
          at = 0;
          at_lt = omega arith;
          value = ap (lift c) s ∙ lift_high c (suc c) (omega arith);
          is = rw (map_same c q none, s, lift_low (suc c) (suc c) (omega arith));
        }
    go (no s) later =
        let n = later (omega (arith, rw (ne_eqb x (suc c) s) at e)) in
        record { at = suc n.at; at_lt = omega (arith, n.at_lt); value = n.value; is = rw (lift_same c x s, n.is) }

-- ---- the exchange of one more

map_set : (f : ℕ → ℕ) (l : List ℕ) (i v : ℕ) → map f (set l i v) ≡ set (map f l) i (f v)
map_set f [] i v = refl
map_set f (x ∷ l) zero v = refl
map_set f (x ∷ l) (suc i) v = ap (λ (m : List ℕ). f x ∷ m) (map_set f l i v)

lift_at : (c : ℕ) (l : List ℕ) (i : ℕ) → get_or (map (lift c) l) i 0 ≡ lift c (get_or l i 0)
lift_at c [] i = sym (lift_low c 0 (omega arith))
lift_at c (x ∷ l) zero = refl
lift_at c (x ∷ l) (suc i) = lift_at c l i

lift_exchange : (c : ℕ) (l : List ℕ) (a b : ℕ) → map (lift c) (exchange a b l) ≡ exchange a b (map (lift c) l)
lift_exchange c l a b =
    rw (map_set (lift c) (set l a (get_or l b 0)) b (get_or l a 0), map_set (lift c) l a (get_or l b 0), lift_at c l a, lift_at c l b)

-- g with one more at place i
abbrev pub raised : List ℕ → ℕ → List ℕ
raised g i = set g i (suc (get_or g i 0))

-- the exchange that this is, of place i with a later one
pub record Exchanged (g : List ℕ) (i : ℕ) : Type 0 where
  pub later : ℕ
  pub later_lt : later < length (permutation_of g)
  pub after : i < later
  pub is : permutation_of (raised g i) ≡ exchange i later (permutation_of g)

raise_first : (c : ℕ) (g : List ℕ) → Under (suc c ∷ g) → Exchanged (c ∷ g) 0
unfolding permutation_of
raise_first c g u =
    let n = next c (permutation_of g) ((permutation_is g u.1).once (suc c) (omega arith) u.0) in
    record {
      later = suc n.at;
      later_lt = omega (arith, n.at_lt, length-map (permutation_of g) (lift c));
      after = omega arith;
      is = rw (n.is, n.value);
    }

-- with one more entry in front
raise_later : (c : ℕ) (g : List ℕ) (i : ℕ) → Exchanged g i → Exchanged (c ∷ g) (suc i)
unfolding permutation_of
raise_later c g i r =
    record {
      later = suc r.later;
      later_lt = omega (arith, r.later_lt, length-map (permutation_of g) (lift c));
      after = omega (arith, r.after);
      is = ap (λ (l : List ℕ). suc c ∷ l) (ap (map (lift c)) r.is ∙ lift_exchange c (permutation_of g) i r.later);
    }

pub raise : (g : List ℕ) (i : ℕ) → i < length g → Under (raised g i) → Exchanged g i
raise [] i h u = absurd (omega arith)
raise (c ∷ g) zero h u = raise_first c g u
raise (c ∷ g) (suc i) h u = raise_later c g i (raise g i (omega arith) u.1)

-- ---- neighbours

-- an entry over 0 is in the list
in_list : (l : List ℕ) (i n : ℕ) → get_or l i 0 ≡ suc n → i < length l
in_list [] i n e = absurd (omega arith)
in_list (x ∷ l) zero n e = omega arith
in_list (x ∷ l) (suc i) n e = omega (arith, in_list l i n e)

module _ (g h : List ℕ) (gain loss : ℕ) (size : length g ≡ length h) (near : Neighbours g h gain loss) where
  -- g with one fewer at `loss`; both are one more of it
  abbrev common : List ℕ
  common = set g loss (get_or h loss 0)

  loss_lt : loss < length g
  loss_lt = in_list g loss (get_or h loss 0) near.lost

  gain_lt : gain < length g
  gain_lt = omega (arith, in_list h gain (get_or g gain 0) near.gained)

  g_raised : raised common loss ≡ g
  g_raised =
      let v : ℕ = get_or h loss 0 in
      rw (get_or-set_same g loss v 0 loss_lt, set-set g loss v (suc v), ← near.lost) (set-get_or g loss 0)

  h_raised : raised common gain ≡ h
  h_raised =
      rw (get_or-set_other g loss gain (get_or h loss 0) 0 near.apart, ← near.gained)
      (ext_get_or 0 (set common gain (get_or h gain 0)) h (length-set common gain (get_or h gain 0) ∙ length-set g loss (get_or h loss 0) ∙ size) each)
    where
      each : (i : ℕ) → i < length (set common gain (get_or h gain 0)) → get_or (set common gain (get_or h gain 0)) i 0 ≡ get_or h i 0
      each i l = go (ℕ_discrete i gain) (ℕ_discrete i loss)
        where
          go : Dec (i ≡ gain) → Dec (i ≡ loss) → get_or (set common gain (get_or h gain 0)) i 0 ≡ get_or h i 0
          go (yes e) d = rw e (get_or-set_same common gain (get_or h gain 0) 0 (omega (arith, gain_lt, length-set g loss (get_or h loss 0))))
          go (no e) (yes d) = get_or-set_other common gain i (get_or h gain 0) 0 e ∙ rw d (get_or-set_same g loss (get_or h loss 0) 0 loss_lt)
          go (no e) (no d) =
              get_or-set_other common gain i (get_or h gain 0) 0 e
              ∙ get_or-set_other g loss i (get_or h loss 0) 0 d
              ∙ sym (near.others i e d)

  pub near_permutations : Under g → Under h → Near (permutation_of g) (permutation_of h)
  near_permutations ug uh =
      two_exchanges
      (permutation_of g)
      (permutation_of h)
      loss
      from.later
      gain
      to.later
      from.after
      to.after
      (omega (arith, from.later_lt, same))
      (omega (arith, to.later_lt, same))
      (λ e. near.apart (sym e))
      (ap permutation_of (sym h_raised) ∙ to.is ∙ ap (exchange gain to.later) back)
    where
      from : Exchanged common loss
      from = raise common loss (omega (arith, loss_lt, length-set g loss (get_or h loss 0))) (rw g_raised ug)

      to : Exchanged common gain
      to = raise common gain (omega (arith, gain_lt, length-set g loss (get_or h loss 0))) (rw h_raised uh)

      same : length (permutation_of common) ≡ length (permutation_of g)
      same = omega (arith, permutation_length common, permutation_length g, length-set g loss (get_or h loss 0))

      back : permutation_of common ≡ exchange loss from.later (permutation_of g)
      back =
          sym
          (exchange_twice
          loss
          from.later
          (permutation_of common)
          (λ e. omega (arith, from.after))
          (omega (arith, from.after, from.later_lt))
          from.later_lt)
          ∙ ap (exchange loss from.later) (sym from.is ∙ ap permutation_of g_raised)
