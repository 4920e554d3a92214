-- What follows from the contracts alone, of calls of the code: each hypothesis is what the contract of a call says of its answer and of the bytes
-- that it left.
use mathlib.Core.Path.{◌≡◌, refl, sym, ap, ◌∙◌}
use mathlib.Core.Bool.{Bool, true, false}
use mathlib.Core.List.{List, ◌++◌}
use Prim.Native.Nat.{ℕ, ◌+◌, ◌-◌, ◌*◌, ◌<◌}
use lib.ListN.{length, get_or, take, drop}
use lib.Seq.{get_or-take, get_or-drop}
use Rattle.walsh.specs.Order.{count_of}
use Rattle.walsh.specs.Serial.{serial_of, composition_of}
use Rattle.walsh.proofs.Serials.{composition_is, serial_composition}
use Rattle.bounds.specs.Edition.{edition_checks}
use Rattle.bounds.specs.Places.{lent_checks, filling}
use Rattle.bounds.specs.declared.Refusal.{Refusal}
use Rattle.bounds.proofs.Chains.{accepts_split}
use Rattle.rank.specs.Rank.{Answer, answer_of, rank_answer}
use Rattle.rank.specs.Unrank.{unrank_call}
use Rattle.std.proofs.Common.{Result, Ok}
use Rattle.bounds.specs.declared.Reason.{Reason}
use Rattle.rank.proofs.RoundTrips.{rank_accepted, rank_accepts, unrank_accepted}
use Rattle.rank.proofs.Consequences.{serial_case}
use Rattle.step.specs.Steps.{next_serial, step_of, successor_of, predecessor_of, back_from}
use Rattle.step.specs.Batch.{batch_checks, copies_of, batch_of}
use Rattle.step.specs.declared.Stepped.{Stepped}
use Rattle.step.proofs.Steps.{step_to, forward_backward, backward_forward}
use Rattle.step.proofs.Copies.{copies_length, copy_at_lem}
use Rattle.step.proofs.Batches.{Ranged, ranged}

module _ (ms : List ℕ) (r : ℕ) where
  -- the parts that a step answered
  abbrev parts_of : Stepped → List ℕ
  parts_of x = take (length ms) x.composition

  -- ---- a step and the step the other way, from the parts that it answered

  pub successor_then_predecessor : (g : List ℕ) (x y : Stepped)
      → x ≡ successor_of ms r g → x.number ≡ 0
      → y ≡ predecessor_of ms r (take (length ms) x.composition)
      → y ≡ back_from x g
  successor_then_predecessor g x y e ok f =
      f ∙ ap (λ (z : Stepped). predecessor_of ms r (parts_of z)) e ∙ forward_backward ms r g (rw e at ok) ∙ ap (λ (z : Stepped). back_from z g) (sym e)

  pub predecessor_then_successor : (g : List ℕ) (x y : Stepped)
      → x ≡ predecessor_of ms r g → x.number ≡ 0
      → y ≡ successor_of ms r (take (length ms) x.composition)
      → y ≡ back_from x g
  predecessor_then_successor g x y e ok f =
      f ∙ ap (λ (z : Stepped). successor_of ms r (parts_of z)) e ∙ backward_forward ms r g (rw e at ok) ∙ ap (λ (z : Stepped). back_from z g) (sym e)

  -- ---- a step between two calls of `rank`: "one serial on or back"

  step_serial : (back : Bool) (g : List ℕ) (s : ℕ) (x : Stepped) (y : Result ℕ Reason)
      → answer_of (Ok s) ≡ rank_answer ms r g
      → x ≡ step_of back ms r g → x.number ≡ 0
      → answer_of y ≡ rank_answer ms r (parts_of x)
      → y ≡ Ok (next_serial back s)
  step_serial back g s x y a e ok b =
      let known = rank_accepted ms r g (ap (λ (z : Answer). z.number) (sym a)) in
      let serial : s ≡ serial_of ms r g = ap (λ (z : Answer). z.serial) a ∙ known.2 in
      let (edition, low, high, is) = step_to back ms r g (rw e at ok) in
      let to : ℕ = next_serial back (serial_of ms r g) in
      rw serial
      (serial_case y to low
      (b
      ∙ ap (λ (z : Stepped). rank_answer ms r (parts_of z)) e
      ∙ ap (rank_answer ms r) is
      ∙ rank_accepts ms r (composition_of ms r to) edition (composition_is ms r to low high)
      ∙ ap (λ (n : ℕ). answer_of (Ok n)) (serial_composition ms r to low high)))

  pub successor_serial : (g : List ℕ) (s : ℕ) (x : Stepped) (y : Result ℕ Reason)
      → answer_of (Ok s) ≡ rank_answer ms r g
      → x ≡ successor_of ms r g → x.number ≡ 0
      → answer_of y ≡ rank_answer ms r (take (length ms) x.composition)
      → y ≡ Ok (s + 1)
  successor_serial g s x y a e ok b = step_serial false g s x y a e ok b

  pub predecessor_serial : (g : List ℕ) (s : ℕ) (x : Stepped) (y : Result ℕ Reason)
      → answer_of (Ok s) ≡ rank_answer ms r g
      → x ≡ predecessor_of ms r g → x.number ≡ 0
      → answer_of y ≡ rank_answer ms r (take (length ms) x.composition)
      → y ≡ Ok (s - 1)
  predecessor_serial g s x y a e ok b = step_serial true g s x y a e ok b

  -- ---- an accepted batch of c copies from serial s on, which found the bytes `out` and left the bytes `left`

  module _ (s c : ℕ) (out left : List ℕ) (v : Refusal) (e : (v, left) ≡ batch_of ms r s c out) (ok : v.number ≡ 0) where
    pub batch_accepted : Ranged (count_of ms r) (length ms) s c (length out) × (left ≡ copies_of ms r s c)
    unfolding batch_of filling
    batch_accepted =
        let range = batch_checks ms r s c ++ lent_checks (c * length ms) (length out) in
        let done = ap (λ (p : Refusal × List ℕ). p.0.number) (sym e) ∙ ok in
        let p = accepts_split (edition_checks ms r) range refl done in
        (ranged (count_of ms r) (length ms) s c (length out) refl p.1, ap (λ (p : Refusal × List ℕ). p.1) e ∙ rw done)

    copy_is : (j : ℕ) → j < c → take (length ms) (drop (j * length ms) left) ≡ composition_of ms r (s + j)
    copy_is j l = rw batch_accepted.1 (copy_at_lem ms r s batch_accepted.0.some c j batch_accepted.0.few l)

    -- byte j × n + i of the tray is part i of the composition of serial s + j
    pub batch_bytes : (length left ≡ c * length ms)
        × ((j i : ℕ) → j < c → i < length ms → get_or left (j * length ms + i) 0 ≡ get_or (composition_of ms r (s + j)) i 0)
    batch_bytes = (
      ap length batch_accepted.1 ∙ copies_length ms r s batch_accepted.0.some c batch_accepted.0.few,
      λ j i l b.
          sym (get_or-drop (j * length ms) left i 0)
          ∙ sym (get_or-take (length ms) (drop (j * length ms) left) i 0 b)
          ∙ ap (λ (g : List ℕ). get_or g i 0) (copy_is j l),
    )

    -- and what a call of `unrank` leaves for that serial
    pub batch_then_unrank : (j : ℕ) (lent g : List ℕ) (w : Refusal) → j < c
        → (w, g) ≡ unrank_call ms r (s + j) lent → w.number ≡ 0
        → take (length ms) (drop (j * length ms) left) ≡ g
    batch_then_unrank j lent g w l f done =
        let k = unrank_accepted ms r (s + j) lent (ap (λ (p : Refusal × List ℕ). p.0.number) (sym f) ∙ done) in
        copy_is j l ∙ sym (ap (λ (p : Refusal × List ℕ). p.1) f ∙ k.4)
