-- Document 01, "Sheet orders": "Neighbouring serials give sheet orders that differ by two swaps of separate pairs or by one turn of three
-- sheets."
use Rattle.std.specs.Prelude.{◌≡◌, ◌⊎◌, List, ℕ, ◌<◌, length, get_or, set}

-- p with the entries at the places a and b exchanged
abbrev pub exchange : ℕ → ℕ → List ℕ → List ℕ
exchange a b p = set (set p a (get_or p b 0)) b (get_or p a 0)

-- p with the entries at three places turned: a gets that of b, b that of c, and c that of a
abbrev pub turn : ℕ → ℕ → ℕ → List ℕ → List ℕ
turn a b c p = set (set (set p a (get_or p b 0)) b (get_or p c 0)) c (get_or p a 0)

-- q is p after two exchanges at four different places
pub record TwoSwaps (p q : List ℕ) : Type 0 where
  pub a : ℕ
  pub b : ℕ
  pub c : ℕ
  pub d : ℕ
  pub a_lt : a < length p
  pub b_lt : b < length p
  pub c_lt : c < length p
  pub d_lt : d < length p
  pub a_b : a ≡ b → ⊥
  pub c_d : c ≡ d → ⊥
  pub a_c : a ≡ c → ⊥
  pub a_d : a ≡ d → ⊥
  pub b_c : b ≡ c → ⊥
  pub b_d : b ≡ d → ⊥
  pub is : q ≡ exchange c d (exchange a b p)

-- q is p after one turn of three different places
pub record OneTurn (p q : List ℕ) : Type 0 where
  pub a : ℕ
  pub b : ℕ
  pub c : ℕ
  pub a_lt : a < length p
  pub b_lt : b < length p
  pub c_lt : c < length p
  pub a_b : a ≡ b → ⊥
  pub b_c : b ≡ c → ⊥
  pub a_c : a ≡ c → ⊥
  pub is : q ≡ turn a b c p

abbrev pub Near : List ℕ → List ℕ → Type 0
Near p q = TwoSwaps p q ⊎ OneTurn p q
