-- The statement about a whole list of calls holds of lists in which each call comes in either form, the record by value or lent.
use mathlib.Core.Path.{◌≡◌, refl, sym, ap, ◌∙◌, subst⁻¹}
use mathlib.Core.List.{List, [], ◌∷◌, map}
use Rattle.walsh.specs.declared.Transition.{Transition}
use Rattle.model.specs.Entry.{Lent as Columns}
use Rattle.model.specs.Printing.{Printing}
use Rattle.model.specs.Model.{Call, told, event}
use Rattle.model.specs.Record.{printing_of, opening, answered, peeked_by, peeking, record_after, column_after, calling, Run, run}
use Rattle.model.specs.Whole.{second_list, Whole}
use Rattle.model.specs.declared.Answer.{Answer}
use Rattle.model.specs.declared.Claimed.{Claimed}
use Rattle.model.proofs.Records.{calling_peek}
use Rattle.model.proofs.Pairs.{peeking_answer, peeking_pair}
use Rattle.model.proofs.Whole.{from_opening}
use Rattle.lent.specs.Forms.{Invocation, peek, claim, void, claim_all, claim_in, void_in, call_of, State, ByValue, Lent, Does, Runs, start}

-- ---- one call

-- by value and lent, a call leaves the same
pub by_value : (c : Call) (x : State) (a : Answer) (y : State) → ByValue c x a y → Lent c x a y
by_value c x a y p = (λ i. (record { answer = p.answer i; ledger = p.kept i }, y.column)) ∙ p.meets

-- the pair of a call at x
abbrev told_at : Call → State → Answer → Transition
told_at c x a = told (printing_of x.ledger) c a

-- a call at x, in whichever form
pub does_call : (s : Invocation) (x : State) (a : Answer) (t : Transition) (y : State) → Does s x a t y → Lent (call_of s) x a y
does_call peek x a t y p = rw p.kept (calling_peek x.ledger x.column a (peeking_answer x.ledger x.column a t p.meets))
does_call (claim s e) x a t y p = by_value _ x a y p.0
does_call (void s) x a t y p = by_value _ x a y p.0
does_call (claim_all s b) x a t y p = by_value _ x a y p.0
does_call (claim_in s e) x a t y p = p.0
does_call (void_in s) x a t y p = p.0

does_pair : (s : Invocation) (x : State) (a : Answer) (t : Transition) (y : State) → Does s x a t y → t ≡ told_at (call_of s) x a
does_pair peek x a t y p = peeking_pair x.ledger x.column a t p.meets
does_pair (claim s e) x a t y p = p.1
does_pair (void s) x a t y p = p.1
does_pair (claim_all s b) x a t y p = p.1
does_pair (claim_in s e) x a t y p = p.1
does_pair (void_in s) x a t y p = p.1

valued : (c : Call) (x : State) (a : Answer) (y : State) → Lent c x a y → ByValue c x a y
valued c x a y p = record { r = record { answer = a; ledger = y.ledger }; meets = p; answer = refl; kept = refl }

-- what the definitions say of a call, each form may do
does : (s : Invocation) (x : State) (a : Answer) (y : State) → Lent (call_of s) x a y → Does s x a (told_at (call_of s) x a) y
unfolding peeking
does peek x a y p =
    let same = p ∙ sym (calling_peek x.ledger x.column (answered x.ledger x.column Call.peek) refl) in
    record {
      meets = ap (λ (z : Claimed × Columns). peeked_by z.0.answer (told_at Call.peek x z.0.answer)) same;
      kept = ap (λ (z : Claimed × Columns). record { ledger = z.0.ledger; column = z.1 }) same;
    }
does (claim s e) x a y p = (valued _ x a y p, refl)
does (void s) x a y p = (valued _ x a y p, refl)
does (claim_all s b) x a y p = (valued _ x a y p, refl)
does (claim_in s e) x a y p = (p, refl)
does (void_in s) x a y p = (p, refl)

-- ---- a list of calls

-- a run from what one call leaves, with that call before it
abbrev onward : Printing → Call → List Call → Claimed × Columns → Run
onward p c cs z =
    let rest = run z.0.ledger z.1 cs in
    record { trace = event p c z.0.answer ∷ rest.trace; ledger = rest.ledger; column = rest.column }

-- a run in any forms is the run of the calls alone
pub runs_run : (ss : List Invocation) (x : State) (w : Run) → Runs x ss w → w ≡ run x.ledger x.column (map call_of ss)
unfolding run calling
runs_run [] x w p = p
runs_run (s ∷ ss) x w (a, t, y, v, d, p, e) =
    e
    ∙ (λ i.
    let u = runs_run ss y v p i in
    record { trace = record { call = call_of s; reply = a; transition = does_pair s x a t y d i } ∷ u.trace; ledger = u.ledger; column = u.column })
    ∙ ap (onward (printing_of x.ledger) (call_of s) (map call_of ss)) (does_call s x a t y d)

-- every list has such a run
pub run_runs : (ss : List Invocation) (x : State) → Runs x ss (run x.ledger x.column (map call_of ss))
unfolding run calling
run_runs [] x = refl
run_runs (s ∷ ss) x =
    let y : State = record {
      ledger = record_after x.ledger x.column (call_of s);
      column = column_after x.ledger x.column (call_of s);
    } in
    let a = answered x.ledger x.column (call_of s) in
    (a, told_at (call_of s) x a, y, run y.ledger y.column (map call_of ss), does s x a y refl, run_runs ss y, refl)

-- the same list in other forms gives the same answers, record and columns
pub same_run : (ss ts : List Invocation) (x : State) (w v : Run) → map call_of ss ≡ map call_of ts → Runs x ss w → Runs x ts v → w ≡ v
same_run ss ts x w v e p q =
    runs_run ss x w p ∙ ap (λ (cs : List Call). run x.ledger x.column cs) e ∙ sym (runs_run ts x v q)

-- The guarantee: w is a run of any list of calls, each in either form, from an accepted opening over any columns, and v a run of its second
-- list, each call of that again in either form.
pub either_form : (p : Printing) (col : Columns) (ss ts : List Invocation) (w v : Run)
    → (opening p col).number ≡ 0
    → Runs (start p col) ss w
    → Runs (start p col) ts v
    → map call_of ts ≡ second_list p w
    → Whole p col (map call_of ss) w v
either_form p col ss ts w v z x y e =
    let first = runs_run ss (start p col) w x in
    let second = runs_run ts (start p col) v y ∙ ap (λ (cs : List Call). run (opening p col).ledger col cs) (e ∙ ap (second_list p) first) in
    subst⁻¹ (λ (u : Run). Whole p col (map call_of ss) u v) first
    (subst⁻¹ (λ (u : Run). Whole p col (map call_of ss) (run (opening p col).ledger col (map call_of ss)) u) second
    (from_opening p col (map call_of ss) z))
