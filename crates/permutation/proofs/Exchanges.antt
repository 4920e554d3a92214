-- Exchanges of two entries of a list: two of them, each of a place with a later one, are two of separate pairs or a turn of three.
use mathlib.Core.Path.{◌≡◌, sym, ap, ◌∙◌}
use mathlib.Core.Logic.{inl, inr}
use mathlib.Core.List.{List}
use Prim.Native.Nat.{ℕ, ◌<◌}
use native.Mathlib.Decide.{ℕ_discrete}
use native.Mathlib.Omega.{arith}
use lib.ListN.{length, get_or, set, length-set}
use lib.Seq.{get_or-set_same, get_or-set_other, set-set, set_comm, set-get_or}
use Rattle.permutation.specs.Exchange.{exchange, turn, Near}

-- ---- exchanges

module _ (a b : ℕ) (p : List ℕ) (apart : a ≡ b → ⊥) where
  pub exchange_comm : exchange a b p ≡ exchange b a p
  exchange_comm = set_comm p a b (get_or p b 0) (get_or p a 0) apart

  pub exchange_twice : a < length p → b < length p → exchange a b (exchange a b p) ≡ p
  exchange_twice la lb =
      let u : ℕ = get_or p a 0 in
      let w : ℕ = get_or p b 0 in
      rw (
        get_or-set_same (set p a w) b u 0 (omega (arith, length-set p a w)),
        get_or-set_other (set p a w) b a u 0 apart,
        get_or-set_same p a w 0 la,
        set_comm (set p a w) b a u u (λ e. apart (sym e)),
        set-set p a w u,
        set-set (set p a u) b u w,
        set-get_or p a 0,
      )
      (set-get_or p b 0)

-- two exchanges that share the place s are a turn
pub exchange_share : (x s y : ℕ) (p : List ℕ) → x < length p → s < length p → y < length p
    → (x ≡ s → ⊥) → (s ≡ y → ⊥) → (x ≡ y → ⊥)
    → exchange x s (exchange s y p) ≡ turn x y s p
exchange_share x s y p lx ls ly xs sy xy =
    let u : ℕ = get_or p s 0 in
    let w : ℕ = get_or p y 0 in
    let v : ℕ = get_or p x 0 in
    rw (
      get_or-set_other (set p s w) y s u 0 sy,
      get_or-set_same p s w 0 ls,
      get_or-set_other (set p s w) y x u 0 xy,
      get_or-set_other p s x w 0 xs,
      set_comm (set p s w) y x u w (λ e. xy (sym e)),
      set_comm p s x w w (λ e. xs (sym e)),
      set_comm (set p x w) s y w u sy,
      set-set (set (set p x w) y u) s w v,
    )

-- two exchanges, each of a place with a later one, that begin at different places
pub two_exchanges : (p q : List ℕ) (a b c d : ℕ) → a < b → c < d → b < length p → d < length p → (a ≡ c → ⊥)
    → q ≡ exchange c d (exchange a b p)
    → Near p q
two_exchanges p q a b c d ab cd lb ld ac is = go (ℕ_discrete a d) (ℕ_discrete b c) (ℕ_discrete b d)
  where
    go : Dec (a ≡ d) → Dec (b ≡ c) → Dec (b ≡ d) → Near p q
    go (yes e) f h =
        inr
        (record {
          a = c;
          b = b;
          c = a;
          a_lt = omega arith;
          b_lt = lb;
          c_lt = omega arith;
          a_b = λ s. omega arith;
          b_c = λ s. omega arith;
          a_c = λ s. omega arith;
          is =
              is
              ∙ ap (λ (n : ℕ). exchange c n (exchange a b p)) (sym e)
              ∙ exchange_share c a b p (omega arith) (omega arith) lb (λ s. omega arith) (λ s. omega arith) (λ s. omega arith);
        })
    go (no e) (yes f) h =
        inr
        (record {
          a = d;
          b = a;
          c = b;
          a_lt = ld;
          b_lt = omega arith;
          c_lt = lb;
          a_b = λ s. omega arith;
          b_c = λ s. omega arith;
          a_c = λ s. omega arith;
          is =
              is
              ∙ ap (λ (n : ℕ). exchange n d (exchange a b p)) (sym f)
              ∙ exchange_comm b d (exchange a b p) (λ s. omega arith)
              ∙ ap (exchange d b) (exchange_comm a b p (λ s. omega arith))
              ∙ exchange_share d b a p ld lb (omega arith) (λ s. omega arith) (λ s. omega arith) (λ s. omega arith);
        })
    go (no e) (no f) (yes h) =
        inr
        (record {
          a = c;
          b = a;
          c = b;
          a_lt = omega arith;
          b_lt = omega arith;
          c_lt = lb;
          a_b = λ s. ac (sym s);
          b_c = λ s. omega arith;
          a_c = λ s. f (sym s);
          is =
              is
              ∙ ap (λ (n : ℕ). exchange c n (exchange a b p)) (sym h)
              ∙ ap (exchange c b) (exchange_comm a b p (λ s. omega arith))
              ∙ exchange_share c b a p (omega arith) lb (omega arith) (λ s. f (sym s)) (λ s. omega arith) (λ s. ac (sym s));
        })
    go (no e) (no f) (no h) =
        inl
        (record {
          a = a;
          b = b;
          c = c;
          d = d;
          a_lt = omega arith;
          b_lt = lb;
          c_lt = omega arith;
          d_lt = ld;
          a_b = λ s. omega arith;
          c_d = λ s. omega arith;
          a_c = ac;
          a_d = e;
          b_c = f;
          b_d = h;
          is = is;
        })
