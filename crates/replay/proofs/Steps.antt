-- The replay after each call: what the loop keeps.
use mathlib.Core.Path.{◌≡◌, refl, sym, ap, ◌∙◌}
use mathlib.Core.Bool.{true}
use mathlib.Core.List.{List, [], ◌∷◌, ◌++◌, map, append-nil}
use Prim.Native.Nat.{ℕ, ◌+◌, ◌-◌, ◌*◌, ◌/◌, ◌%◌, ◌≤◌, ◌<◌}
use native.Mathlib.Omega.{arith}
use lib.ListN.{length, take, drop, length-drop, drop_of_length-le}
use lib.Seq.{length-take-le}
use borrow.Author.Tests.{eqb-true}
use Rattle.model.specs.Basics.{replaced, all}
use Rattle.model.specs.Entry.{Lent}
use Rattle.model.specs.Model.{Call, told, Event, event}
use Rattle.model.specs.Record.{printing_of, answered, record_after, column_after, calling, Run, run}
use Rattle.model.specs.declared.Claimed.{Claimed}
use Rattle.walsh.specs.declared.Transition.{Transition}
use Rattle.model.specs.declared.Ledger.{Ledger}
use Rattle.model.proofs.Lists.{length_snoc, snoc_append, length_replaced}
use Rattle.model.proofs.Records.{each}
use Rattle.replay.specs.Rows.{call_width, orders_column, items_column, call_of, next_of, left_of, calls_in, named_in}
use Rattle.replay.specs.Rows.{row_width, row_of, rows_of, shown}
use Rattle.replay.specs.Replay.{Script, Buffers, calls_of, sizes, Ran}
use Rattle.replay.proofs.Rows.{calls_count, which_at, serial_in, uses_at, named_next, calls_next}
use Rattle.replay.proofs.Rows.{Full, full_snoc, rows_length, rows_more, read_back}

-- whole rows, as many of the answers as of the calls, and the orders and item lines that these name
pub record Fit (x : Script) (b : Buffers) : Type 0 where
  pub whole : length x.rows % call_width ≡ 0
  pub room : length b.answers ≡ length x.rows / call_width * row_width
  pub orders : length x.pool.orders ≡ named_in orders_column x.rows
  pub items : length x.pool.items ≡ named_in items_column x.rows

pub fit_of : (x : Script) (b : Buffers) → all (sizes x b) ≡ true → Fit x b
fit_of x b t =
    let p = each (sizes x b) t in
    record {
      whole = eqb-true (length x.rows % call_width) 0 p.0;
      room =
          eqb-true (length b.answers) (length (calls_of x) * row_width) p.1.0
          ∙ ap (λ (n : ℕ). n * row_width) (calls_count x.rows x.pool);
      orders = eqb-true (length x.pool.orders) (named_in orders_column x.rows) p.1.1.0;
      items = eqb-true (length x.pool.items) (named_in items_column x.rows) p.1.1.1.0;
    }

-- a run that comes after the calls of a trace
abbrev pub behind : List Event → Run → Run
behind t w = record { trace = t ++ w.trace; ledger = w.ledger; column = w.column }

behind_next : (t : List Event) (l : Ledger) (col : Lent) (c : Call) (cs : List Call)
    → behind t (run l col (c ∷ cs))
    ≡ behind (t ++ (event (printing_of l) c (answered l col c) ∷ [])) (run (record_after l col c) (column_after l col c) cs)
unfolding run
behind_next t l col c cs =
    let w = run (record_after l col c) (column_after l col c) cs in
    let e = sym (snoc_append t (event (printing_of l) c (answered l col c)) w.trace) in
    λ i. record { trace = e i; ledger = w.ledger; column = w.column }

run_calls : (r : Ledger) (col : Lent) (cs : List Call) → map (λ x. x.call) (run r col cs).trace ≡ cs
unfolding run
run_calls r col [] = refl
run_calls r col (c ∷ cs) = ap {B = List Call} (λ l. c ∷ l) (run_calls (record_after r col c) (column_after r col c) cs)

-- what is left of a pool behind n entries is what the calls from call i on name
abbrev pub Left : (column : ℕ) (rows : List ℕ) (n i : ℕ) → Type 0
Left c rows n i = n + named_in c (drop (i * call_width) rows) ≡ named_in c rows

-- i calls are made, and n orders and m item lines of the pools used up: the run is that of the calls so far and of those to come
pub record Progress (r : Ledger) (x : Script) (b b' : Buffers) (l : Ledger) (n m i : ℕ) : Type 0 where
  pub trace : List Event
  pub so_far : run r b.column (calls_of x)
      ≡ behind trace (run l b'.column (calls_in (drop (i * call_width) x.rows) (left_of n m x.pool)))
  pub rows : b'.answers ≡ replaced b.answers (rows_of trace)
  pub full : Full trace
  pub count : length trace ≡ i
  pub left : Left orders_column x.rows n i
  pub left_items : Left items_column x.rows m i
  pub for_column : length b'.column.orders ≡ length b.column.orders
  pub for_items : length b'.column.items ≡ length b.column.items
  pub for_answers : length b'.answers ≡ length b.answers

pub start : (r : Ledger) (x : Script) (b : Buffers) → Progress r x b b r 0 0 0
start r x b =
    record {
      trace = [];
      so_far = refl;
      rows = refl;
      full = tt;
      count = refl;
      left = omega arith;
      left_items = omega arith;
      for_column = refl;
      for_items = refl;
      for_answers = refl;
    }

-- what the next call names is there, and behind it what those after it name
module _ (c : ℕ) (rows : List ℕ) (n i : ℕ) (w : Left c rows n i) (h : i < length rows / call_width) where
  pub enough : n + uses_at rows i c ≤ named_in c rows
  enough = omega (arith, w, named_next rows i (omega arith) c)

  left_next : (n' : ℕ) → n' ≡ n + uses_at rows i c → Left c rows n' (i + 1)
  left_next n' up = omega (arith, w, up, named_next rows i (omega arith) c)

-- a call more, of which the code did a step and put the answer into its row
module _ (r : Ledger) (x : Script) (b b' b'' : Buffers) (l : Ledger) (n m i : ℕ) (t : Claimed) (x' : Transition) (lines : Lent) (n' m' : ℕ)
    (part : List ℕ) where
  abbrev made : Call
  made = call_of (which_at x.rows i) (serial_in x.rows i) lines

  -- how long the part for the row is, as the code has it
  abbrev long : ℕ
  long = i * row_width + row_width - i * row_width

  pub onward :
      Fit x b
      → Progress r x b b' l n m i
      → i < length x.rows / call_width
      → n' ≡ n + uses_at x.rows i orders_column
      → m' ≡ m + uses_at x.rows i items_column
      → ◌≡◌ {A = Claimed × Lent} (t, b''.column) (calling l b'.column made)
      → x' ≡ told (printing_of l) made t.answer
      → lines ≡ next_of (n' - n) (m' - m) (left_of n m x.pool)
      → part ≡ row_of t.answer x'
      → length part ≡ length (take long (drop (i * row_width) b'.answers))
      → b''.answers ≡ take (i * row_width) b'.answers ++ (part ++ drop long (drop (i * row_width) b'.answers))
      → length b''.column.orders ≡ length b'.column.orders
      → length b''.column.items ≡ length b'.column.items
      → Progress r x b b'' t.ledger n' m' (i + 1)
  unfolding calling
  onward f w h up up-items g pair of is wide put kept kept-items =
      let col = b'.column in
      let whole_row : i * call_width + call_width ≤ length x.rows = omega arith in
      let named = uses_at x.rows i orders_column in
      let named-items = uses_at x.rows i items_column in
      let wanted : n + named - n ≡ named = omega arith in
      let wanted-items : m + named-items - m ≡ named-items = omega arith in
      let cs = calls_in (drop ((i + 1) * call_width) x.rows) (left_of n' m' x.pool) in
      let ahead : calls_in (drop (i * call_width) x.rows) (left_of n m x.pool) ≡ made ∷ cs =
      rw (of, up, up-items, wanted, wanted-items) (calls_next x.rows i whole_row x.pool n m) in
      let answer : t.answer ≡ answered l col made = ap (λ (p : Claimed × Lent). p.0.answer) g in
      let ledger : t.ledger ≡ record_after l col made = ap (λ (p : Claimed × Lent). p.0.ledger) g in
      let column : b''.column ≡ column_after l col made = ap (λ (p : Claimed × Lent). p.1) g in
      let last : Event = record { call = made; reply = t.answer; transition = x' } in
      let lent : length (take long (drop (i * row_width) b'.answers)) ≡ row_width =
      length-take-le long _ (omega (arith, length-drop (i * row_width) b'.answers, w.for_answers, f.room)) ∙ omega arith in
      let whole : length (row_of t.answer x') ≡ row_width = ap length (sym is) ∙ wide ∙ lent in
      let trace = w.trace ++ (last ∷ []) in
      let full = full_snoc w.trace last w.full whole in
      let count : length trace ≡ i + 1 = length_snoc w.trace last ∙ omega arith in
      let rows : b''.answers ≡ replaced b.answers (rows_of trace) =
      put ∙ rw (is, w.rows) (rows_more b.answers w.trace last (i * row_width) w.full whole (omega arith)) in
      record {
        trace = trace;
        so_far =
            w.so_far
            ∙ ap (λ (y : List Call). behind w.trace (run l col y)) ahead
            ∙ behind_next w.trace l col made cs
            ∙ rw (pair, answer, ledger, column);
        rows = rows;
        full = full;
        count = count;
        left = left_next orders_column x.rows n i w.left h n' up;
        left_items = left_next items_column x.rows m i w.left_items h m' up-items;
        for_column = kept ∙ w.for_column;
        for_items = kept-items ∙ w.for_items;
        for_answers = ap length rows ∙ length_replaced b.answers (rows_of trace) (omega (arith, rows_length trace full, f.room));
      }

-- after the last call
pub finished : (r : Ledger) (x : Script) (b b' : Buffers) (l : Ledger) (n m i : ℕ) → Fit x b → Progress r x b b' l n m i
    → length x.rows / call_width ≤ i
    → Ran r (calls_of x) b b' l
unfolding run
finished r x b b' l n m i f w h =
    let t = w.trace in
    let cs = calls_of x in
    let over : length x.rows ≤ i * call_width = omega (arith, f.whole) in
    let none : drop (i * call_width) x.rows ≡ [] = drop_of_length-le x.rows over in
    let all_made : run r b.column cs ≡ record { trace = t; ledger = l; column = b'.column } = w.so_far ∙ rw (none, append-nil t) in
    let size : length (rows_of t) ≡ i * row_width = rows_length t w.full ∙ omega arith in
    let filled : length b.answers ≤ length (rows_of t) = omega (arith, f.room) in
    let no_more : drop (length (rows_of t)) b.answers ≡ [] = drop_of_length-le b.answers filled in
    let rows : b'.answers ≡ rows_of t = w.rows ∙ rw (no_more, append-nil (rows_of t)) in
    let calls : map (λ y. y.call) t ≡ cs = ap (λ (y : Run). map (λ z. z.call) y.trace) (sym all_made) ∙ run_calls r b.column cs in
    let seen : shown cs b'.answers ≡ t =
    rw (rows, ← calls, ← append-nil (rows_of t)) (read_back t [] w.full) in
    record {
      rows = rows ∙ ap (λ (y : Run). rows_of y.trace) (sym all_made);
      same_run = ap (λ (y : List Event). record { trace = y; ledger = l; column = b'.column }) seen ∙ sym all_made;
    }
