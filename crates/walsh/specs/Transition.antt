-- Document 02, request (i), "The press card": "the kind that gains a tile and the kind that loses one", read off two compositions. Kinds are
-- counted from 1.
use Rattle.std.specs.Prelude.{◌≡◌, refl, cond, List, [], ◌∷◌, ℕ, ◌+◌, ◌-◌, ◌≤◌, eqb, ltb}
use Rattle.walsh.specs.Order.{listing, order, three_twos}
use Rattle.walsh.specs.Serial.{composition_of}
use Rattle.walsh.specs.Neighbours.{Neighbours}
use Rattle.walsh.specs.declared.Transition.{Transition}

-- the first kind of which h has one more than g, where the first of both is kind k; 0 where there is none
unfoldable pub gain_from : ℕ → List ℕ → List ℕ → ℕ
gain_from k [] h = 0
gain_from k (x ∷ g) [] = 0
gain_from k (x ∷ g) (y ∷ h) = cond (eqb y (x + 1)) k (gain_from (k + 1) g h)

-- from g to h: the kind of which h has one more, and the kind of which h has one fewer. Where h stands next to g there is just one of each (law
-- `serial_carries`).
abbrev pub transition : List ℕ → List ℕ → Transition
transition g h = record { gain = gain_from 1 g h; loss = gain_from 1 h g }

-- "0 and 0"
abbrev pub none : Transition
none = record { gain = 0; loss = 0 }

-- "Look gives the same pair for its serial, measured from the copy before; serial 1 has 0 and 0"
unfoldable pub transition_at : List ℕ → ℕ → ℕ → Transition
transition_at ms r s = cond (ltb s 2) none (transition (composition_of ms r (s - 1)) (composition_of ms r s))

-- what a pair says: x names two of n kinds, and h is g with one more of the first and one fewer of the second
pub record Carries (n : ℕ) (g h : List ℕ) (x : Transition) : Type 0 where
  pub gain : (1 ≤ x.gain) × (x.gain ≤ n)
  pub loss : (1 ≤ x.loss) × (x.loss ≤ n)
  pub near : Neighbours g h (x.gain - 1) (x.loss - 1)

-- ---- computed: the document's copy C, 2 0 1 and then 1 0 2, has the pair +3 -1; serial 6 is that of 1 0 2

the_pair : transition (2 ∷ 0 ∷ 1 ∷ []) (1 ∷ 0 ∷ 2 ∷ []) ≡ record { gain = 3; loss = 1 }
unfolding gain_from
the_pair = refl

the_first : transition_at three_twos 3 1 ≡ none
unfolding transition_at
the_first = refl

the_sixth : transition_at three_twos 3 6 ≡ record { gain = 3; loss = 1 }
unfolding transition_at gain_from composition_of order listing
the_sixth = refl
