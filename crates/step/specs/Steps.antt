-- Document 01, "Serial and mix": "Forward and backward step give the mix one serial on or back.", and "Refusals by place of checking", places
-- 'edition', 'mix given' and 'step': "Look, take, spoil and step answer a mix as 24 cells, those past n being 0. A refused one answers such a mix
-- all zeros". Document 02, (i): "A step shall answer, beside the new mix, the kind that gains a tile and the kind that loses one", "0 and 0" where
-- it is refused. The pair goes from the composition that is given to the one that is answered (docs/DECISIONS.md, 46).
use Rattle.std.specs.Prelude.{◌≡◌, refl, Result, Ok, Err, Bool, true, false, cond, List, [], ◌∷◌, ◌++◌, ℕ, ◌+◌, ◌-◌, eqb}
use Rattle.walsh.specs.Order.{listing, order, count, count_of, three_twos}
use Rattle.walsh.specs.Serial.{same, place_of, serial_of, composition_of}
use Rattle.walsh.specs.Transition.{gain_from, transition}
use Rattle.walsh.specs.Withdrawn.{spread, own_kind}
use Rattle.walsh.specs.declared.Transition.{Transition}
use Rattle.bounds.specs.Refusal.{Check, check, first_refusal, decided}
use Rattle.bounds.specs.Edition.{first_outside, edition_checks, cells_of, blank}
use Rattle.bounds.specs.Places.{composition_checks}
use Rattle.bounds.specs.declared.Refusal.{Refusal}
use Rattle.bounds.specs.Reason.{coded}
use Rattle.bounds.specs.declared.Reason.{Reason}
use Rattle.step.specs.declared.Step.{Step}
use Rattle.step.specs.declared.Stepped.{Stepped}

-- the place 'step': "last mix forward, first backward"
abbrev pub end_checks : Bool → List ℕ → ℕ → List ℕ → List Check
end_checks back ms r g = check 9 (eqb (serial_of ms r g) (cond back 1 (count_of ms r))) 0 ∷ []

-- the composition h with the pair from g to it, or all zeros with the number and detail of a refusal
abbrev pub stepped_by : Refusal → List ℕ → List ℕ → Stepped
stepped_by v g h =
    decided v
    (record { number = 0; detail = 0; composition = cells_of h; gain = (transition g h).gain; loss = (transition g h).loss })
    (record { number = v.number; detail = v.detail; composition = blank; gain = 0; loss = 0 })

-- an answer as C gets it: this paper's number and detail, and the composition with its pair
abbrev pub stepped_of : Result Step Reason → Stepped
stepped_of (Ok s) = record { number = 0; detail = 0; composition = s.composition; gain = s.pair.gain; loss = s.pair.loss }
stepped_of (Err reason) = record { number = (coded reason).number; detail = (coded reason).detail; composition = blank; gain = 0; loss = 0 }

-- one serial on from s or back
abbrev pub next_serial : Bool → ℕ → ℕ
next_serial back s = cond back (s - 1) (s + 1)

-- the step from g
unfoldable pub step_of : Bool → List ℕ → ℕ → List ℕ → Stepped
step_of back ms r g =
    stepped_by (first_refusal (edition_checks ms r ++ (composition_checks ms r g ++ end_checks back ms r g))) g
    (composition_of ms r (next_serial back (serial_of ms r g)))

-- forward and backward
abbrev pub successor_of : List ℕ → ℕ → List ℕ → Stepped
successor_of ms r g = step_of false ms r g

abbrev pub predecessor_of : List ℕ → ℕ → List ℕ → Stepped
predecessor_of ms r g = step_of true ms r g

-- the pair of a step's answer
abbrev pub pair_of : Stepped → Transition
pair_of x = record { gain = x.gain; loss = x.loss }

-- the answer of the step back to g from what x answered: the kinds are exchanged
abbrev pub back_from : Stepped → List ℕ → Stepped
back_from x g = record { number = 0; detail = 0; composition = cells_of g; gain = x.loss; loss = x.gain }

-- document 02, (ii): a step's answer for the edition without the withdrawn kinds, with zeros put back and the kinds by their own numbers
abbrev pub spread_step : List ℕ → Stepped → Stepped
spread_step ms x =
    record {
      number = x.number;
      detail = x.detail;
      composition = cells_of (spread ms x.composition);
      gain = own_kind ms x.gain;
      loss = own_kind ms x.loss;
    }

-- ---- the seven compositions of bounds 2 2 2 with total 3: 9 after the last and before the first, computed

the_last : (successor_of three_twos 3 (0 ∷ 1 ∷ 2 ∷ [])).number ≡ 9
unfolding step_of first_refusal first_outside serial_of place_of composition_of same order listing count_of count
the_last = refl

the_first : (predecessor_of three_twos 3 (2 ∷ 1 ∷ 0 ∷ [])).number ≡ 9
unfolding step_of first_refusal first_outside serial_of place_of composition_of same order listing count_of count
the_first = refl

-- the document's copy C forward, with +3 -1, and back, with +1 -3

the_next : successor_of three_twos 3 (2 ∷ 0 ∷ 1 ∷ [])
    ≡ record { number = 0; detail = 0; composition = cells_of (1 ∷ 0 ∷ 2 ∷ []); gain = 3; loss = 1 }
unfolding step_of first_refusal first_outside serial_of place_of composition_of same order listing count_of count gain_from
the_next = refl

the_one_before : predecessor_of three_twos 3 (1 ∷ 0 ∷ 2 ∷ [])
    ≡ record { number = 0; detail = 0; composition = cells_of (2 ∷ 0 ∷ 1 ∷ []); gain = 1; loss = 3 }
unfolding step_of first_refusal first_outside serial_of place_of composition_of same order listing count_of count gain_from
the_one_before = refl
