-- What the code left behind is the run of the list, and the statement about the whole list holds of it.
use mathlib.Core.Path.{◌≡◌, refl, sym, ap, ◌∙◌, subst, subst⁻¹}
use mathlib.Core.Logic.{◌≢◌}
use mathlib.Core.Bool.{true, false, not}
use mathlib.Core.List.{List, []}
use native.Mathlib.Omega.{arith}
use Rattle.bounds.specs.Refusal.{Check, refused, first_refusal}
use Rattle.bounds.specs.declared.Refusal.{Refusal}
use Rattle.bounds.proofs.Refusals.{refusal_here, refusal_first, refusal_later}
use Rattle.bounds.proofs.Chains.{Accepts}
use Rattle.model.specs.Basics.{all}
use Rattle.model.specs.Entry.{Lent, room}
use Rattle.model.specs.Printing.{Printing}
use Rattle.model.specs.Model.{Call}
use Rattle.model.specs.Record.{opening_checks, opening, opened, blank_ledger, Run}
use Rattle.model.specs.Whole.{ran, second_list, Whole}
use Rattle.model.specs.declared.Ledger.{Ledger}
use Rattle.model.specs.declared.Opened.{Opened}
use Rattle.model.proofs.Opening.{opens, opening_refused, opening_accepted}
use Rattle.model.proofs.Whole.{whole}
use Rattle.replay.specs.Replay.{Script, Buffers, calls_of, seen, sizes, size_checks, replay_checks, Ran, Replayed, Replays}

module _ (p : Printing) (x : Script) (b : Buffers) (o : Opened) (e : o ≡ opening p b.column) where
  abbrev table : List Check
  table = opening_checks p (room b.column)

  -- the opening's own refusal
  pub replay_unopened : o.number ≢ 0 → Replays p x b b o
  replay_unopened n =
      let v = opening_refused p b.column o e (omega (arith, n)) in
      let first = refusal_first table (size_checks x b) (λ z. n (ap (λ (y : Refusal). y.number) (sym v.0) ∙ z)) ∙ v.0 in
      record {
        number = ap (λ (y : Refusal). y.number) (sym first);
        detail = ap (λ (y : Refusal). y.detail) (sym first);
        refused = λ _. (v.1, refl);
        accepted = λ z. absurd (n z);
      }

  module _ (z : o.number ≡ 0) where
    accepted_opening : Accepts table × (o.ledger ≡ opened p)
    accepted_opening = opening_accepted p b.column o e z

    fitting : first_refusal (replay_checks p x b) ≡ first_refusal (size_checks x b)
    fitting = refusal_later table (size_checks x b) refl accepted_opening.0

    -- lengths that do not fit together
    pub replay_unfit : all (sizes x b) ≡ false → (o' : Opened) → o' ≡ record { number = 13; detail = 0; ledger = blank_ledger } → Replays p x b b o'
    replay_unfit f o' is =
        let first = fitting ∙ refusal_here _ [] (ap not f) in
        rw is
        (record {
          number = ap (λ (y : Refusal). y.number) (sym first);
          detail = ap (λ (y : Refusal). y.detail) (sym first);
          refused = λ _. (refl, refl);
          accepted = λ q. absurd (omega (arith, q));
        })

    pub replay_done : (b' : Buffers) (l : Ledger) → all (sizes x b) ≡ true → Ran o.ledger (calls_of x) b b' l
        → Replays p x b b' (record { number = 0; detail = 0; ledger = l })
    unfolding first_refusal
    replay_done b' l t w =
        let first : first_refusal (replay_checks p x b) ≡ refused 0 0 = fitting ∙ rw t in
        let done = subst (λ (y : Ledger). Ran y (calls_of x) b b' l) accepted_opening.1 w in
        record {
          number = ap (λ (y : Refusal). y.number) (sym first);
          detail = ap (λ (y : Refusal). y.detail) (sym first);
          refused = λ n. absurd (n refl);
          accepted = λ _.
              record {
                done = done;
                whole =
                    subst⁻¹ (λ (y : Run). Whole p b.column (calls_of x) y (ran p b.column (second_list p y))) done.same_run
                    (whole p b.column (opens p b.column accepted_opening.0) (calls_of x));
              };
        }

-- two runs of the code, of a list and of its second list over a column of the same values
pub two_runs : (p : Printing) (cs : List Call) (b b₁ b₂ b₃ : Buffers) (l₁ l₂ : Ledger)
    → b₂.column ≡ b.column
    → Replayed p cs b b₁ l₁
    → Replayed p (second_list p (seen cs l₁ b₁)) b₂ b₃ l₂
    → Whole p b.column cs (seen cs l₁ b₁) (seen (second_list p (seen cs l₁ b₁)) l₂ b₃)
two_runs p cs b b₁ b₂ b₃ l₁ l₂ e x y =
    subst⁻¹ (λ (v : Run). Whole p b.column cs (seen cs l₁ b₁) v)
    (y.done.same_run ∙ ap (λ (col : Lent). ran p col (second_list p (seen cs l₁ b₁))) e) x.whole
