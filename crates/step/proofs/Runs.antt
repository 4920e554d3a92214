-- A run goes on: the second of the two parts moves, and the composition is the next.
use mathlib.Core.Path.{◌≡◌, refl, sym, ap, ◌∙◌, subst}
use mathlib.Core.Bool.{Bool, true, false, cond, true≢false}
use mathlib.Core.List.{List, ◌++◌}
use Prim.Native.Nat.{ℕ, zero, suc, ◌+◌, ◌-◌, ◌*◌, ◌≤◌, ◌<◌, min}
use native.Mathlib.Nat.{le_refl, add-zero, zero-mul, one-mul, mul-le-mul_right}
use native.Mathlib.Omega.{arith}
use lib.Dec.{ltb}
use lib.ListN.{length, get_or, set, take, drop, length-set, length-take}
use lib.Seq.{take-append-le, take-take, take-set-lt, set-append_left, set-get_or, set-set, set_comm, get_or-set_same, get_or-set_other}
use borrow.Author.Tests.{lt-ltb, le-ltb, le-leb}
use Rattle.walsh.specs.Sums.{sum_to}
use Rattle.walsh.specs.Order.{is_odd, count_of}
use Rattle.walsh.specs.Serial.{serial_of}
use Rattle.walsh.specs.Step.{next_value}
use Rattle.walsh.proofs.Cases.{up_to_lem}
use Rattle.walsh.proofs.Serials.{composition_serial}
use Rattle.walsh.proofs.Successors.{successor_none}
use Rattle.bounds.specs.Places.{copied}
use Rattle.step.specs.Advance.{can_move, next_at, rest_at, other_of, turn_at, turn_of}
use Rattle.step.specs.Run.{InFront, values_left, sum_of, Running, BehindRun, moved_of, CanMove, shown, Asked, copies_from}
use Rattle.step.specs.Batch.{copies_of}
use Rattle.step.specs.Turn.{Begins}
use Rattle.step.specs.declared.PivotSums.{PivotSums}
use Rattle.step.specs.declared.batch.Front.{Front}
use Rattle.step.specs.declared.batch.Run.{Run}
use Rattle.step.proofs.Fronts.{part_none, sum_after, front_stays, passed_to, stops_at, other_left}
use Rattle.step.proofs.Turns.{part_stays}
use Rattle.step.proofs.Ways.{moving}

-- ---- numbers

-- a value with others after it can move
left_moves : (lo hi v more : ℕ) (falling : Bool) → 0 < more → more ≡ values_left lo hi falling v → cond falling (ltb lo v) (ltb v hi) ≡ true
left_moves lo hi v more true some l = lt-ltb lo v (omega arith)
left_moves lo hi v more false some l = lt-ltb v hi (omega arith)

-- and one with none after it cannot
left_stays : (lo hi v more : ℕ) (falling : Bool) → more ≡ 0 → more ≡ values_left lo hi falling v → cond falling (ltb lo v) (ltb v hi) ≡ false
left_stays lo hi v more true none l = le-ltb lo v (omega arith)
left_stays lo hi v more false none l = le-ltb v hi (omega arith)

-- what `run_of` computes
pub run_begins : (ms : List ℕ) (r : ℕ) (p : Front) (a b wa wb right lo hi m0 m1 v more : ℕ) (falling : Bool) → wa ≡ a → wb ≡ b
    → right ≡ r - (wa + wb) → falling ≡ is_odd right → (m0 ≡ get_or ms p.low 0) × (m0 ≤ 255) → lo ≡ wa + wb - m0
    → (m1 ≡ get_or ms p.high 0) × (m1 ≤ 255) → hi ≡ min m1 (wa + wb) → v ≡ b → more ≡ values_left lo hi falling v
    → Running ms r p (record { first = a; second = b; falling = falling; more = more })
run_begins ms r p a b wa wb right lo hi m0 m1 v more falling ea eb er ef (e0, b0) elo (e1, b1) ehi ev em =
    record {
      way = ef ∙ rw (er, ea, eb);
      bytes = (omega arith, omega arith);
      left = rw (em, elo, ehi, e0, e1, ev, ea, eb);
    }

-- a move of the second part: the same sum, and its next value
pub record MovesTo (ms : List ℕ) (r : ℕ) (p : Front) (x y : Run) : Type 0 where
  pub can : CanMove x
  pub running : Running ms r p y
  pub sum : sum_of y ≡ sum_of x
  pub second : y.second ≡ next_value x.falling x.second
  pub fits : x.first ≤ get_or ms p.low 0 → y.first ≤ get_or ms p.low 0
  pub differs : y.first ≡ x.first → ⊥

pub moves_to : (ms : List ℕ) (r : ℕ) (p : Front) (x : Run) → Running ms r p x → 0 < x.more → MovesTo ms r p x (moved_of x)
moves_to ms r p x run more = go x.falling refl
  where
    go : (b : Bool) → x.falling ≡ b → MovesTo ms r p x (moved_of x)
    go true e =
        let l : x.more ≡ x.second - (sum_of x - get_or ms p.low 0) = rw e at run.left in
        let same : x.first + 1 + (x.second - 1) ≡ sum_of x = omega arith in
        let way : true ≡ is_odd (r - sum_of x) = sym e ∙ run.way in
        let bytes = run.bytes in
        record {
          can = record { more = more; down = λ t. (omega arith, omega arith); up = λ t. absurd (true≢false (sym e ∙ t)) };
          running = rw e (record { way = rw same way; bytes = run.bytes; left = rw same (omega arith) });
          sum = rw e same;
          second = rw e;
          fits = λ h. rw e (omega arith);
          differs = λ q. let one : x.first + 1 ≡ x.first = rw e at q in omega arith;
        }
    go false e =
        let l : x.more ≡ min (get_or ms p.high 0) (sum_of x) - x.second = rw e at run.left in
        let same : x.first - 1 + (x.second + 1) ≡ sum_of x = omega arith in
        let way : false ≡ is_odd (r - sum_of x) = sym e ∙ run.way in
        let bytes = run.bytes in
        record {
          can = record { more = more; down = λ t. absurd (true≢false (sym t ∙ e)); up = λ t. (omega arith, omega arith) };
          running = rw e (record { way = rw same way; bytes = run.bytes; left = rw same (omega arith) });
          sum = rw e same;
          second = rw e;
          fits = λ h. rw e (omega arith);
          differs = λ q. let one : x.first - 1 ≡ x.first = rw e at q in omega arith;
        }

-- ---- the two parts over the others

module _ (p : Front) (x : Run) where
  pub shown_length : (g : List ℕ) → length (shown p x g) ≡ length g
  shown_length g = simp length-set

  -- their own values change nothing
  pub shown_own : (g : List ℕ) → x.first ≡ get_or g p.low 0 → x.second ≡ get_or g p.high 0 → shown p x g ≡ g
  shown_own g e f = rw (e, f, set-get_or g p.low 0) (set-get_or g p.high 0)

  module _ (apart : p.low < p.high) where
    pub shown_low : (g : List ℕ) → p.high < length g → get_or (shown p x g) p.low 0 ≡ x.first
    shown_low g l =
        get_or-set_other (set g p.low x.first) p.high p.low x.second 0 (λ e. omega arith)
        ∙ get_or-set_same g p.low x.first 0 (omega arith)

    shown_high : (g : List ℕ) → p.high < length g → get_or (shown p x g) p.high 0 ≡ x.second
    shown_high g l = get_or-set_same (set g p.low x.first) p.high x.second 0 (rw length-set l)

    -- the first n
    shown_taken : (g : List ℕ) (n : ℕ) → p.high < n → take n (shown p x g) ≡ shown p x (take n g)
    shown_taken g n l =
        take-set-lt n (set g p.low x.first) p.high x.second l
        ∙ ap (λ (h : List ℕ). set h p.high x.second) (take-set-lt n g p.low x.first (omega arith))

    shown_append : (g rest : List ℕ) → p.high < length g → shown p x (g ++ rest) ≡ shown p x g ++ rest
    shown_append g rest l =
        ap (λ (h : List ℕ). set h p.high x.second) (set-append_left g rest p.low x.first (omega arith))
        ∙ set-append_left (set g p.low x.first) rest p.high x.second (rw length-set l)

    -- over cells that were copied
    pub shown_copied : (cells out : List ℕ) → p.high < length cells → p.high < length out
        → shown p x (copied cells out) ≡ copied (shown p x cells) out
    unfolding copied
    shown_copied cells out h l =
        let k = min (length cells) (length out) in
        shown_append (take k cells) (drop k out) (simp length-take (omega arith))
        ∙ ap (λ (g : List ℕ). g ++ drop k out) (sym (shown_taken cells k (omega arith)))
        ∙ rw (shown_length cells)

    -- and the first n of what was copied
    pub shown_front : (cells out : List ℕ) (n : ℕ) → p.high < n → n ≤ length cells → n ≤ length out
        → take n (copied (shown p x cells) out) ≡ shown p x (take n cells)
    unfolding copied
    shown_front cells out n some h l =
        let k = min (length (shown p x cells)) (length out) in
        let size = shown_length cells in
        take-append-le n (take k (shown p x cells)) (drop k out) (simp length-take (omega (arith, size)))
        ∙ take-take n k (shown p x cells) (omega (arith, size))
        ∙ shown_taken cells n some

-- ---- whether the second of the two can move

module _ (ms : List ℕ) (r : ℕ) (p : Front) (inFront : InFront ms p) (x : Run) (parts : List ℕ) (run : Running ms r p x)
    (size : length (shown p x parts) ≡ length ms) (fits : (i : ℕ) → i < p.high → get_or (shown p x parts) i 0 ≤ get_or ms i 0) where
  abbrev g : List ℕ
  g = shown p x parts

  long : p.high < length parts
  long = omega (arith, shown_length p x parts, size, inFront.inside)

  first : get_or g p.low 0 ≡ x.first
  first = shown_low p x inFront.apart parts long

  second : get_or g p.high 0 ≡ x.second
  second = shown_high p x inFront.apart parts long

  -- only part `low` of those before part `high` has a bound
  between : sum_to ms p.high ≤ sum_to ms (suc p.low)
  between = omega (arith, inFront.between)

  sum : sum_to g (suc p.high) ≡ sum_of x
  sum =
      omega (
        arith,
        sum_after ms p.low p.high inFront.before between g fits p.high inFront.apart (omega arith),
        first,
        second,
      )

  stays : (i : ℕ) → i < p.high → can_move ms r g i ≡ false
  stays i l = front_stays ms p.low p.high inFront.before between g fits r i l

  abbrev lowest : ℕ
  lowest = sum_of x - get_or ms p.low 0

  abbrev highest : ℕ
  highest = min (get_or ms p.high 0) (sum_of x)

  can_high : can_move ms r g p.high ≡ cond x.falling (ltb lowest x.second) (ltb x.second highest)
  can_high = rw (sum, second, inFront.between, run.way)

  -- where it cannot, the search for the part that moves begins behind it
  pub run_behind : x.more ≡ 0 → (f : PivotSums) → BehindRun ms p x f → Begins ms r g f
  run_behind none f b =
      let still = can_high ∙ left_stays lowest highest x.second x.more x.falling none run.left in
      let next : p.high + 1 ≡ suc p.high = omega arith in
      rw b.at
      (record {
        some = omega arith;
        within = omega (arith, inFront.inside);
        left = rw next (omega (arith, b.left, inFront.between));
        sum = rw next (b.sum ∙ sym sum);
        small = (omega (arith, b.small, inFront.apart), omega (arith, b.small, inFront.apart));
        passed = passed_to ms r g p.high inFront.inside (up_to_lem (λ i. can_move ms r g i ≡ false) still stays);
      })

  -- where it can, both move
  module _ (more : 0 < x.more) where
    abbrev y : Run
    y = moved_of x

    to : MovesTo ms r p x y
    to = moves_to ms r p x run more

    can : can_move ms r g p.high ≡ true
    can = can_high ∙ left_moves lowest highest x.second x.more x.falling more run.left

    value : next_at r g p.high ≡ y.second
    value = rw (sum, second) (sym (to.second ∙ rw run.way))

    rest : rest_at r g p.high ≡ y.first
    rest = rw (value, sum) (omega (arith, to.sum))

    fitting : y.first ≤ sum_to ms p.high
    fitting = rw inFront.between (to.fits (omega (arith, first, fits p.low inFront.apart)))

    -- the second part at its next value
    abbrev moved : List ℕ
    moved = set g p.high y.second

    moved_same : (i : ℕ) → i < p.high → get_or moved i 0 ≡ get_or g i 0
    moved_same i l = get_or-set_other g p.high i y.second 0 (λ e. omega arith)

    other : other_of ms moved (p.high - 1) y.first (r - sum_to g (suc p.high) + y.second) ≡ record { part = suc p.low; value = y.first }
    other =
        let apart = inFront.apart in
        let back : suc (p.high - 1) ≡ p.high = omega arith in
        other_left ms moved p.low inFront.before (p.high - 1) y.first (r - sum_to g (suc p.high) + y.second) (omega arith)
        (subst (λ (k : ℕ). sum_to ms k ≤ sum_to ms (suc p.low)) (sym back) between) (omega (arith, fitting, inFront.between))
        (λ e. to.differs (e ∙ moved_same p.low apart ∙ first))
        (λ i a b. moved_same i (omega arith) ∙ part_none ms p.low p.high inFront.before between g fits i (omega arith) (λ e. omega arith))

    traded : set moved p.low y.first ≡ shown p y parts
    traded =
        let others : List ℕ = set parts p.low x.first in
        ap (λ (h : List ℕ). set h p.low y.first) (set-set others p.high x.second y.second)
        ∙ set_comm others p.high p.low y.second y.first (λ e. omega (arith, inFront.apart))
        ∙ ap (λ (h : List ℕ). set h p.high y.second) (set-set parts p.low x.first y.first)

    pub run_turns : shown p (moved_of x) parts ≡ turn_of ms r g
    unfolding turn_at
    run_turns =
        let at : suc p.low - 1 ≡ p.low = omega arith in
        rw (
          stops_at ms r g p.high (omega (arith, inFront.apart)) inFront.inside stays can,
          lt-ltb p.high (length ms) inFront.inside,
          rest,
          le-leb y.first (sum_to ms p.high) fitting,
          value,
          other,
          at,
        )
        (sym traded)

-- ---- one copy, or none; and fewer than two parts that are left have one composition

module _ (ms : List ℕ) (r : ℕ) (first : List ℕ) (c have : ℕ) (asked : Asked ms r first c have) where
  abbrev only : List ℕ
  only = take (length ms) first

  module _ (few : c ≤ 1) where
    copies : (k : ℕ) → k ≤ 1 → take (k * length ms) first ≡ copies_of ms r (serial_of ms r only) k
    unfolding copies_of
    copies zero l = rw (zero-mul (length ms))
    copies (suc zero) l = rw (one-mul (length ms), add-zero) (sym (composition_serial ms r only asked.valid))
    copies (suc (suc k)) l = absurd (omega arith)

    pub single_room : have ≤ 24
    single_room = omega (arith, asked.room, mul-le-mul_right (length ms) few, one-mul (length ms), asked.few)

    pub single_copies : take have first ≡ copies_from ms r first c
    single_copies = ap (λ (n : ℕ). take n first) asked.room ∙ copies c few

  module _ (low : ℕ) (before : sum_to ms low ≡ 0) (alone : sum_to ms (length ms) ≤ sum_to ms (suc low)) where
    last : serial_of ms r only ≡ count_of ms r
    last =
        let inside = moving ms r only asked.valid r (le_refl r) in
        (successor_none ms r only asked.valid).0
        (λ j l. part_stays ms r only j l (front_stays ms low (length ms) before alone only inside.fits r j l) inside)

    pub single_few : c ≤ 1
    single_few = omega (arith, asked.within, last)
