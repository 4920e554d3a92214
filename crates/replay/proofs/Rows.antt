-- Laws of the rows: which calls a script has, and an answer read back from its row.
use mathlib.Core.Path.{◌≡◌, refl, sym, ap, ◌∙◌}
use mathlib.Core.List.{List, [], ◌∷◌, ◌++◌, map, append_assoc, append-nil}
use Prim.Native.Nat.{ℕ, suc, ◌+◌, ◌-◌, ◌*◌, ◌/◌, ◌≤◌, ◌<◌}
use native.Mathlib.Omega.{arith}
use lib.ListN.{length, get_or, take, drop, set, length-append, length-set, drop_of_length-le}
use lib.Seq.{drop-cons, drop-drop, get_or-drop, drop-set-add, get_or-append-add, drop-append-add, length-take-le, take_at, drop_at}
use lib.Seq.{take-append_seam, drop-append_seam}
use Rattle.bounds.specs.Places.{copied}
use Rattle.bounds.proofs.Cells.{copied_same}
use Rattle.model.specs.Basics.{replaced}
use Rattle.model.specs.Entry.{order_of, item_of, Lent, columns}
use Rattle.model.specs.Model.{Call, peek, claim, void, claim_all, Event}
use Rattle.replay.specs.Rows.{call_width, orders_column, items_column, call_of, uses, next_of, left_of, calls_in, named_in}
use Rattle.replay.specs.Rows.{row_width, row_of, rows_of, shown}

-- ---- the script

pub calls_count : (rows : List ℕ) (pool : Lent) → length (calls_in rows pool) ≡ length rows / call_width
calls_count [] pool = refl
calls_count (k ∷ []) pool = refl
calls_count (k ∷ s ∷ []) pool = refl
calls_count (k ∷ s ∷ n ∷ []) pool = refl
calls_count (k ∷ s ∷ n ∷ m ∷ rows) pool = omega (arith, calls_count rows (left_of (uses k n) (uses k m) pool))

-- fewer numbers than a row
pub named_none : (c : ℕ) (rows : List ℕ) → length rows < call_width → named_in c rows ≡ 0
named_none c [] h = refl
named_none c (k ∷ []) h = refl
named_none c (k ∷ s ∷ []) h = refl
named_none c (k ∷ s ∷ n ∷ []) h = refl
named_none c (k ∷ s ∷ n ∷ m ∷ rows) h = absurd (omega (arith, h))

-- the row at a place, and those after it
module _ (rows : List ℕ) (i : ℕ) where
  abbrev pub which_at : ℕ
  which_at = get_or rows (i * call_width) 0

  abbrev pub serial_in : ℕ
  serial_in = get_or rows (i * call_width + 1) 0

  -- what it uses up, by the number in that column
  abbrev pub uses_at : (column : ℕ) → ℕ
  uses_at c = uses which_at (get_or rows (i * call_width + c) 0)

  module _ (h : i * call_width + call_width ≤ length rows) where
    abbrev row_then : List ℕ → List ℕ
    row_then l = which_at ∷ serial_in ∷ get_or rows (i * call_width + orders_column) 0 ∷ get_or rows (i * call_width + items_column) 0 ∷ l

    rows_next : drop (i * call_width) rows ≡ row_then (drop ((i + 1) * call_width) rows)
    rows_next =
        let n = i * call_width in
        let second : n + 1 ≡ suc n = omega arith in
        let third : n + 2 ≡ suc (suc n) = omega arith in
        let fourth : n + 3 ≡ suc (suc (suc n)) = omega arith in
        let after : (i + 1) * call_width ≡ suc (suc (suc (suc n))) = omega arith in
        rw (
          second,
          third,
          fourth,
          after,
          drop-cons rows n 0 (omega arith),
          drop-cons rows (suc n) 0 (omega arith),
          drop-cons rows (suc (suc n)) 0 (omega arith),
          drop-cons rows (suc (suc (suc n))) 0 (omega arith),
        )

    pub named_next : (c : ℕ) → named_in c (drop (i * call_width) rows) ≡ uses_at c + named_in c (drop ((i + 1) * call_width) rows)
    named_next c =
        let after = drop ((i + 1) * call_width) rows in
        let same : get_or (row_then after) c 0 ≡ get_or rows (i * call_width + c) 0 =
        ap (λ (l : List ℕ). get_or l c 0) (sym rows_next) ∙ get_or-drop (i * call_width) rows c 0 in
        ap (λ (l : List ℕ). named_in c l) rows_next ∙ ap (λ (n : ℕ). uses which_at n + named_in c after) same

    pub calls_next : (pool : Lent) (n m : ℕ)
        → calls_in (drop (i * call_width) rows) (left_of n m pool)
        ≡ call_of which_at serial_in (next_of (uses_at orders_column) (uses_at items_column) (left_of n m pool))
        ∷ calls_in (drop ((i + 1) * call_width) rows) (left_of (n + uses_at orders_column) (m + uses_at items_column) pool)
    calls_next pool n m =
        rw (rows_next, drop-drop (uses_at orders_column) n pool.orders, drop-drop (uses_at items_column) m pool.items)

-- every list of calls can be lent so, its second list too, with pools that fit
abbrev pub rows_for : List Call → List ℕ
rows_for [] = []
rows_for (peek ∷ cs) = 0 ∷ 0 ∷ 0 ∷ 0 ∷ rows_for cs
rows_for (claim s e ∷ cs) = 1 ∷ s ∷ 1 ∷ 1 ∷ rows_for cs
rows_for (void s ∷ cs) = 2 ∷ s ∷ 0 ∷ 0 ∷ rows_for cs
rows_for (claim_all s b ∷ cs) = 3 ∷ s ∷ length b.orders ∷ length b.items ∷ rows_for cs

abbrev pub pool_for : List Call → Lent
pool_for [] = columns [] []
pool_for (peek ∷ cs) = pool_for cs
pool_for (claim s e ∷ cs) = columns (order_of e ∷ (pool_for cs).orders) (item_of e ∷ (pool_for cs).items)
pool_for (void s ∷ cs) = pool_for cs
pool_for (claim_all s b ∷ cs) = columns (b.orders ++ (pool_for cs).orders) (b.items ++ (pool_for cs).items)

pub every_list : (cs : List Call) → calls_in (rows_for cs) (pool_for cs) ≡ cs
every_list [] = refl
every_list (peek ∷ cs) = ap (λ (l : List Call). Call.peek ∷ l) (every_list cs)
every_list (claim s e ∷ cs) = ap (λ (l : List Call). Call.claim s e ∷ l) (every_list cs)
every_list (void s ∷ cs) = ap (λ (l : List Call). Call.void s ∷ l) (every_list cs)
every_list (claim_all s b ∷ cs) =
    let rest = pool_for cs in
    rw (
      take-append_seam b.orders rest.orders,
      drop-append_seam b.orders rest.orders,
      take-append_seam b.items rest.items,
      drop-append_seam b.items rest.items,
      every_list cs,
    )

pub every_pool : (cs : List Call)
    → (length (pool_for cs).orders ≡ named_in orders_column (rows_for cs)) × (length (pool_for cs).items ≡ named_in items_column (rows_for cs))
every_pool [] = (refl, refl)
every_pool (peek ∷ cs) = let p = every_pool cs in (omega (arith, p.0), omega (arith, p.1))
every_pool (claim s e ∷ cs) = let p = every_pool cs in (omega (arith, p.0), omega (arith, p.1))
every_pool (void s ∷ cs) = let p = every_pool cs in (omega (arith, p.0), omega (arith, p.1))
every_pool (claim_all s b ∷ cs) =
    let p = every_pool cs in
    let rest = pool_for cs in
    (omega (arith, p.0, length-append b.orders rest.orders), omega (arith, p.1, length-append b.items rest.items))

-- ---- the answers

abbrev pub row : Event → List ℕ
row x = row_of x.reply x.transition

-- each event of a trace has a row of that width
abbrev pub Full : List Event → Type 0
Full [] = Unit
Full (x ∷ t) = (length (row x) ≡ row_width) × Full t

pub full_snoc : (t : List Event) (x : Event) → Full t → length (row x) ≡ row_width → Full (t ++ (x ∷ []))
full_snoc [] x f h = (h, tt)
full_snoc (y ∷ t) x f h = (f.0, full_snoc t x f.1 h)

pub rows_length : (t : List Event) → Full t → length (rows_of t) ≡ length t * row_width
rows_length [] f = refl
rows_length (x ∷ t) f = length-append (row x) (rows_of t) ∙ omega (arith, f.0, rows_length t f.1)

rows_snoc : (t : List Event) (x : Event) → rows_of (t ++ (x ∷ [])) ≡ rows_of t ++ row x
rows_snoc [] x = append-nil (row x)
rows_snoc (y ∷ t) x =
    ap (λ (l : List ℕ). row y ++ l) (rows_snoc t x) ∙ sym (append_assoc (row y) (rows_of t) (row x))

-- a row filled: three numbers, the pair at its end, and the cells copied between them
abbrev pub begun : List ℕ → (n e s gain : ℕ) → List ℕ
begun d n e s gain = set (set (set (set d 0 n) 1 e) 2 s) 27 gain

abbrev pub numbered : List ℕ → (n e s gain loss : ℕ) → List ℕ
numbered d n e s gain loss = set (begun d n e s gain) 28 loss

ended : (d : List ℕ) (gain loss : ℕ) → length d ≡ 26 → drop 24 (set (set d 24 gain) 25 loss) ≡ gain ∷ loss ∷ []
ended d gain loss h =
    let over : length d ≤ 26 = omega arith in
    drop-set-add 24 (set d 24 gain) 1 loss
    ∙ ap (λ (l : List ℕ). set l 1 loss) (drop-set-add 24 d 0 gain)
    ∙ rw (drop-cons d 24 0 (omega arith), drop-cons d 25 0 (omega arith), drop_of_length-le d over)

pub row_filled : (d : List ℕ) (n e s gain loss : ℕ) (m part : List ℕ) → length d ≡ row_width → length m ≡ 24
    → part ≡ copied m (take 24 (drop 3 (numbered d n e s gain loss)))
    → take 3 (numbered d n e s gain loss) ++ (part ++ drop 24 (drop 3 (numbered d n e s gain loss)))
    ≡ n ∷ e ∷ s ∷ (m ++ (gain ∷ loss ∷ []))
row_filled [] n e s gain loss m part h k p = absurd (omega (arith, h))
row_filled (x ∷ []) n e s gain loss m part h k p = absurd (omega (arith, h))
row_filled (x ∷ y ∷ []) n e s gain loss m part h k p = absurd (omega (arith, h))
row_filled (x ∷ y ∷ z ∷ d) n e s gain loss m part h k p =
    let y = set (set d 24 gain) 25 loss in
    let size : length y ≡ 26 = simp length-set (omega arith) in
    let cells : length (take 24 y) ≡ 24 = length-take-le 24 y (omega arith) in
    rw (p, copied_same m (take 24 y) (omega arith), ended d gain loss (omega arith))

-- a row behind those of a trace
pub rows_more : (d : List ℕ) (t : List Event) (x : Event) (at : ℕ) → Full t → length (row x) ≡ row_width → at ≡ length t * row_width
    → take at (replaced d (rows_of t)) ++ (row x ++ drop (at + row_width - at) (drop at (replaced d (rows_of t))))
    ≡ replaced d (rows_of (t ++ (x ∷ [])))
rows_more d t x at f h e =
    let l = rows_of t in
    let m = row x in
    let size : length l ≡ at = rows_length t f ∙ sym e in
    let wide : at + row_width - at ≡ length m = omega arith in
    rw (
      wide,
      take_at l (drop (length l) d) at size,
      drop_at l (drop (length l) d) at size,
      drop-drop (length m) (length l) d,
      rows_snoc t x,
      length-append l m,
      append_assoc l m (drop (length l + length m) d),
    )

-- what stands behind n numbers
module _ (m q : List ℕ) (n i : ℕ) (e : length m ≡ n) where
  get_d_behind : get_or (m ++ q) (n + i) 0 ≡ get_or q i 0
  get_d_behind = rw (← e) (get_or-append-add m q i 0)

  drop_behind : drop (n + i) (m ++ q) ≡ drop i q
  drop_behind = rw (← e) (drop-append-add m q i)

-- rows show the trace
pub read_back : (t : List Event) (rest : List ℕ) → Full t → shown (map (λ x. x.call) t) (rows_of t ++ rest) ≡ t
read_back [] rest f = refl
read_back (x ∷ t) rest f =
    let m = x.reply.composition in
    let pair = x.transition.gain ∷ x.transition.loss ∷ [] in
    let size : length m ≡ 24 = omega (arith, f.0, length-append m pair) in
    let q = rows_of t ++ rest in
    rw (
      append_assoc (m ++ pair) (rows_of t) rest,
      append_assoc m pair q,
      take_at m (pair ++ q) 24 size,
      get_d_behind m (pair ++ q) 24 0 size,
      get_d_behind m (pair ++ q) 24 1 size,
      drop_behind m (pair ++ q) 24 2 size,
      read_back t rest f.1,
    )
