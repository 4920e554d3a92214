-- Document 02, request (ii), "A tile withdrawn": a part with the bound 0 is a kind withdrawn. Here the bounds without those of 0, a composition with
-- the zeros put back, and the kinds' own numbers. That "the order is that of the edition without the withdrawn kinds, with zeros put back" is not
-- how the order is defined but a law of it (proofs/Withdrawn.antt, `order_spread`).
use Rattle.std.specs.Prelude.{◌≡◌, refl, List, [], ◌∷◌, ℕ, zero, suc, ◌+◌, ◌-◌, ◌<◌, get_or}
use Rattle.walsh.specs.Order.{listing, order}
use Rattle.walsh.specs.declared.Transition.{Transition}

-- the entries of a list that stand at a bound other than 0
abbrev pub without : List ℕ → List ℕ → List ℕ
without [] xs = []
without (m ∷ ms) [] = []
without (zero ∷ ms) (x ∷ xs) = without ms xs
without (suc m ∷ ms) (x ∷ xs) = x ∷ without ms xs

-- "the edition without the withdrawn kinds"
abbrev pub kept : List ℕ → List ℕ
kept ms = without ms ms

-- "with zeros put back"
abbrev pub spread : List ℕ → List ℕ → List ℕ
spread [] g = []
spread (zero ∷ ms) g = 0 ∷ spread ms g
spread (suc m ∷ ms) [] = 0 ∷ spread ms []
spread (suc m ∷ ms) (v ∷ g) = v ∷ spread ms g

-- ---- "the kinds may not be renumbered"

-- the numbers of the kinds that are left, where the first bound is that of kind k
abbrev pub kinds_from : ℕ → List ℕ → List ℕ
kinds_from k [] = []
kinds_from k (zero ∷ ms) = kinds_from (k + 1) ms
kinds_from k (suc m ∷ ms) = k ∷ kinds_from (k + 1) ms

-- the edition's own number of the kind that is kind j of those left, both counted from 1; 0 for 0
abbrev pub own_kind : List ℕ → ℕ → ℕ
own_kind ms j = get_or (0 ∷ kinds_from 1 ms) j 0

-- a pair of kinds of the shorter edition, by the edition's own numbers
abbrev pub own_pair : List ℕ → Transition → Transition
own_pair ms x = record { gain = own_kind ms x.gain; loss = own_kind ms x.loss }

-- a pair names kinds that are left
abbrev pub BothLeft : List ℕ → Transition → Type 0
BothLeft ms x = (0 < get_or ms (x.gain - 1) 0) × (0 < get_or ms (x.loss - 1) 0)

-- ---- computed: the second kind of 2 0 2 2 withdrawn, and both of two

abbrev pub gapped : List ℕ
gapped = 2 ∷ 0 ∷ 2 ∷ 2 ∷ []

the_kept : kept gapped ≡ 2 ∷ 2 ∷ 2 ∷ []
the_kept = refl

the_shorter : without gapped (0 ∷ 0 ∷ 2 ∷ 1 ∷ []) ≡ 0 ∷ 2 ∷ 1 ∷ []
the_shorter = refl

the_zeros : spread gapped (0 ∷ 2 ∷ 1 ∷ []) ≡ 0 ∷ 0 ∷ 2 ∷ 1 ∷ []
the_zeros = refl

the_kinds : kinds_from 1 gapped ≡ 1 ∷ 3 ∷ 4 ∷ []
the_kinds = refl

the_pair : own_pair gapped (record { gain = 2; loss = 0 }) ≡ record { gain = 3; loss = 0 }
the_pair = refl

the_withdrawn : order (0 ∷ 0 ∷ []) 0 ≡ (0 ∷ 0 ∷ []) ∷ []
unfolding order listing
the_withdrawn = refl
