-- A walk as the code makes it: a single part, the turns of a loop over the values of a part, and the walk that each of them asks for.
use mathlib.Core.Path.{◌≡◌, refl, sym, ap, ◌∙◌, subst}
use mathlib.Core.List.{List, [], ◌∷◌, ◌++◌, append_assoc, append-nil}
use mathlib.Core.Bool.{true, false}
use Prim.Native.Nat.{ℕ, suc, ◌+◌, ◌-◌, ◌≤◌, ◌<◌, min}
use native.Mathlib.Numerals.{add-one}
use native.Mathlib.Omega.{arith}
use lib.ListN.{length, get_or, set, take, drop, length-append, length-drop, length-set, drop_of_length-le}
use lib.Seq.{take_all, take_at, drop_at, drop-drop, drop-cons, drop-set-lt, get_or-set_same, length-take-le}
use borrow.Rule.Slice.PartMut.{mid_of, put_mid}
use Rattle.walsh.specs.Sums.{sum_to}
use Rattle.walsh.specs.Order.{is_odd, least, most, part_value, part_choices, listing}
use Rattle.walsh.proofs.Listing.{listing_one}
use Rattle.listing.specs.Bytes.{begun}
use Rattle.listing.specs.Walks.{in_tray, walk_bytes, Walk, Walked}
use Rattle.listing.proofs.Trays.{turns_of, turn_of, turns_none, turns_next, turns_all, turns_within}

-- ---- a single part: "g1 is then r minus the rest"

set_first : (g : List ℕ) (v : ℕ) → 0 < length g → set g 0 v ≡ v ∷ drop 1 g
set_first [] v l = absurd (omega arith)
set_first (x ∷ g) v l = refl

module _ {ms : List ℕ} {parts room rest t : ℕ} {g out : List ℕ} (w : Walk ms parts room rest t g out) (one : parts ≡ 1) where
  single_some : 0 < length g
  single_some = omega (arith, w.some, w.within, w.size)

  single_bytes : walk_bytes ms parts rest t g ≡ set g 0 rest
  unfolding in_tray
  single_bytes =
      let fits : rest ≤ get_or ms 0 0 = omega (arith, w.reached, w.sum ∙ ap (sum_to ms) one) in
      ap (λ (k : ℕ). walk_bytes ms k rest t g) one
      ∙ ap (λ (gs : List (List ℕ)). in_tray gs (drop 1 g)) (listing_one ms rest t fits)
      ∙ append-nil (rest ∷ drop 1 g) ∙ sym (set_first g rest single_some)

  -- the composition has room
  pub single_room : length (set g 0 rest) ≤ length out
  single_room = omega (arith, w.long, ap length single_bytes)

  pub walked_single : {out' : List ℕ} → out' ≡ begun (set g 0 rest) out
      → Walked ms parts rest t g out (length (set g 0 rest)) (set g 0 rest) out'
  walked_single e =
      record {
        count = ap length (sym single_bytes);
        bytes = e ∙ ap (λ (b : List ℕ). begun b out) (sym single_bytes);
        ending = rw one (drop-set-lt 1 g 0 rest (omega arith));
      }

-- ---- the turns of a loop: the first i values of part k are done

pub record Turns (ms : List ℕ) (k rest t : ℕ) (g out : List ℕ) (i : ℕ) (g' out' : List ℕ) (at : ℕ) : Type 0 where
  pub size : length g' ≡ length g
  pub count : at ≡ length (turns_of ms k rest t (drop (suc k) g) i)
  pub bytes : out' ≡ begun (turns_of ms k rest t (drop (suc k) g) i) out
  pub ending : drop (suc k) g' ≡ drop (suc k) g

module _ {ms : List ℕ} {k rest t : ℕ} {g out : List ℕ} where
  pub turns_begin : Turns ms k rest t g out 0 g out 0
  turns_begin =
      let none = turns_none ms k rest t (drop (suc k) g) in
      record { size = refl; count = ap length (sym none); bytes = ap (λ (b : List ℕ). begun b out) (sym none); ending = refl }

  -- all values are done
  turns_end : {parts i : ℕ} {g' out' : List ℕ} {at : ℕ} → parts ≡ suc k → i ≡ part_choices ms k rest → Turns ms k rest t g out i g' out' at
      → Walked ms parts rest t g out at g' out'
  turns_end {parts} {i} e all done =
      let bytes : turns_of ms k rest t (drop (suc k) g) i ≡ walk_bytes ms (suc k) rest t g =
      ap (turns_of ms k rest t (drop (suc k) g)) all ∙ turns_all ms k rest t (drop (suc k) g) in
      rw e (record {
        count = done.count ∙ ap length bytes;
        bytes = done.bytes ∙ ap (λ (b : List ℕ). begun b out) bytes;
        ending = done.ending;
      })

-- another number that is the same
pub turns_at : {ms : List ℕ} {k rest t : ℕ} {g out : List ℕ} {i j : ℕ} {g' out' : List ℕ} {at : ℕ}
    → Turns ms k rest t g out i g' out' at → i ≡ j → Turns ms k rest t g out j g' out' at
turns_at {ms} {k} {rest} {t} {g} {out} {i} {j} {g'} {out'} {at} done e = subst (λ (n : ℕ). Turns ms k rest t g out n g' out' at) e done

-- what comes behind `at` is lent, and comes back begun with b
put_begun : (out ts b last out' : List ℕ) (at : ℕ) → out' ≡ begun ts out → at ≡ length ts → last ≡ begun b (mid_of at (length out' - at) out')
    → put_mid at (length out' - at) out' last ≡ begun (ts ++ b) out
put_begun out ts b last out' at e ea el =
    let front : take at out' ≡ ts = ap (take at) e ∙ take_at ts (drop (length ts) out) at (sym ea) in
    let behind : drop at out' ≡ drop (length ts) out = ap (drop at) e ∙ drop_at ts (drop (length ts) out) at (sym ea) in
    let size : length (drop at out') ≡ length out' - at = length-drop at out' in
    let mid : mid_of at (length out' - at) out' ≡ drop (length ts) out = take_all (length out' - at) (drop at out') (omega arith) ∙ behind in
    let post : drop (length out' - at) (drop at out') ≡ [] = drop_of_length-le (drop at out') {i = length out' - at} (omega arith) in
    let tail : last ≡ b ++ drop (length (ts ++ b)) out =
    el ∙ ap (λ (l : List ℕ). begun b l) mid ∙ ap (λ (l : List ℕ). b ++ l) (drop-drop (length b) (length ts) out
    ∙ ap (λ (n : ℕ). drop n out) (sym (length-append ts b))) in
    rw (front, post, append-nil, tail) (sym (append_assoc ts b (drop (length (ts ++ b)) out)))

-- part k is set to v
set_ending : (g : List ℕ) (k v : ℕ) → k < length g → drop k (set g k v) ≡ v ∷ drop (suc k) g
set_ending g k v l =
    drop-cons (set g k v) k 0 (omega (arith, length-set g k v)) ∙ rw (get_or-set_same g k v 0 l, drop-set-lt (suc k) g k v (omega arith))

-- a turn: value number i of part k is v, and the first i values are done
pub record Turn (ms : List ℕ) (k left rest t : ℕ) (g out : List ℕ) (i v : ℕ) (g' out' : List ℕ) (at : ℕ) : Type 0 where
  pub walk : Walk ms (suc k) (left + get_or ms k 0) rest t g out
  pub some : 0 < k
  pub number : i < part_choices ms k rest
  pub is : v ≡ part_value ms k rest t i
  pub low : rest ≤ left + v
  pub high : v ≤ most ms k rest
  pub done : Turns ms k rest t g out i g' out' at

module _ {ms : List ℕ} {k left rest t : ℕ} {g out : List ℕ} {i v : ℕ} {g' out' : List ℕ} {at : ℕ}
    (turn : Turn ms k left rest t g out i v g' out' at) where
  abbrev ending : List ℕ
  ending = drop (suc k) g

  inside : k < length g'
  inside = omega (arith, turn.walk.within, turn.walk.size, turn.done.size)

  -- what the walk over the shorter edition writes
  shorter : walk_bytes ms k (rest - v) (t + v) (set g' k v) ≡ turn_of ms k rest t ending v
  shorter = ap (in_tray (listing ms k (rest - v) (t + v))) (set_ending g' k v inside ∙ ap (λ (d : List ℕ). v ∷ d) turn.done.ending)

  room_left : length (turns_of ms k rest t ending i) + length (turn_of ms k rest t ending v) ≤ length out
  room_left = omega (arith, turns_within ms k rest t ending i v turn.is turn.number, turn.walk.long)

  pub turn_length : length out' ≡ length out
  turn_length =
      let ts : List ℕ = turns_of ms k rest t ending i in
      ap length turn.done.bytes ∙ length-append ts (drop (length ts) out) ∙ omega (arith, length-drop (length ts) out, room_left)

  pub turn_within : at ≤ length out'
  turn_within = omega (arith, turn.done.count, room_left, turn_length)

  pub walk_shorter : Walk ms k left (rest - v) (t + v) (set g' k v) (mid_of at (length out' - at) out')
  walk_shorter =
      let w = turn.walk in
      record {
        some = turn.some;
        within = omega (arith, w.within);
        size = length-set g' k v ∙ turn.done.size ∙ w.size;
        sum = omega (arith, w.sum);
        reached = omega (arith, turn.low);
        small = omega (arith, w.small, turn.high);
        long = omega (
          arith,
          ap length shorter,
          length-take-le (length out' - at) (drop at out') (omega (arith, length-drop at out')),
          room_left,
          turn_length,
          turn.done.count,
        );
      }

  module _ {written : ℕ} {h last : List ℕ}
      (made : Walked ms k (rest - v) (t + v) (set g' k v) (mid_of at (length out' - at) out') written h last) where
    pub turns_more : length h ≡ length (set g' k v) → Turns ms k rest t g out (suc i) h (put_mid at (length out' - at) out' last) (at + written)
    turns_more size =
        let ts : List ℕ = turns_of ms k rest t ending i in
        let b : List ℕ = turn_of ms k rest t ending v in
        let both : turns_of ms k rest t ending (suc i) ≡ ts ++ b = turns_next ms k rest t ending i v turn.is in
        let tail : last ≡ begun b (mid_of at (length out' - at) out') =
        made.bytes ∙ ap (λ (x : List ℕ). begun x (mid_of at (length out' - at) out')) shorter in
        record {
          size = size ∙ length-set g' k v ∙ turn.done.size;
          count = omega (arith, turn.done.count, made.count, ap length shorter, ap length both, length-append ts b);
          bytes = put_begun out ts b last out' at turn.done.bytes turn.done.count tail ∙ ap (λ (x : List ℕ). begun x out) (sym both);
          ending = ends;
        }
      where
        past : (xs : List ℕ) → drop 1 (drop k xs) ≡ drop (suc k) xs
        past xs = drop-drop 1 k xs ∙ ap (λ (n : ℕ). drop n xs) (add-one k)

        ends : drop (suc k) h ≡ drop (suc k) g
        ends = sym (past h) ∙ ap (drop 1) made.ending ∙ past (set g' k v) ∙ drop-set-lt (suc k) g' k v (omega arith) ∙ turn.done.ending

-- one turn fewer is left
pub turns_fewer : {i n : ℕ} → i < n → n - (i + 1) < n - i
turns_fewer l = omega arith

-- ---- the loops: what they know of part k throughout, and where they stand

-- part k is the last of more than one, and has the values lo..hi
pub record Part (ms : List ℕ) (parts rest t : ℕ) (g out : List ℕ) (k bound left lo hi : ℕ) : Type 0 where
  pub next : parts ≡ suc k
  pub some : 0 < k
  pub bound_is : bound ≡ get_or ms k 0
  pub walk : Walk ms (suc k) (left + bound) rest t g out
  pub lo_is : lo ≡ rest - left
  pub hi_is : hi ≡ min bound rest

module _ {ms : List ℕ} {parts room rest t : ℕ} {g out : List ℕ} (w : Walk ms parts room rest t g out) {k : ℕ} (more : parts ≡ 1 → ⊥)
    (k-is : k ≡ parts - 1) where
  next_part : parts ≡ suc k
  next_part = omega (arith, w.some)

  -- the bound is part of the sum
  pub bound_within : get_or ms k 0 ≤ room
  bound_within = omega (arith, w.sum ∙ ap (sum_to ms) next_part)

  pub part_begins : {bound left lo hi : ℕ} → bound ≡ get_or ms k 0 → left ≡ room - bound → lo ≡ rest - left → hi ≡ min bound rest
      → Part ms parts rest t g out k bound left lo hi
  part_begins {bound} {left} eb el elo ehi =
      let all : room ≡ left + bound = omega (arith, bound_within) in
      record {
        next = next_part;
        some = omega (arith, w.some);
        bound_is = eb;
        walk = rw (next_part, all) at w;
        lo_is = elo;
        hi_is = ehi;
      }

module _ {ms : List ℕ} {parts rest t : ℕ} {g out : List ℕ} {k bound left lo hi : ℕ} (p : Part ms parts rest t g out k bound left lo hi) where
  left_is : left ≡ sum_to ms k
  left_is = omega (arith, p.walk.sum, p.bound_is)

  lo_least : lo ≡ least ms k rest
  lo_least = p.lo_is ∙ ap (λ (n : ℕ). rest - n) left_is

  hi_most : hi ≡ most ms k rest
  hi_most = p.hi_is ∙ ap (λ (n : ℕ). min n rest) p.bound_is

  -- some value fits
  pub part_some : lo ≤ hi
  part_some = omega (arith, p.lo_is, p.hi_is, p.walk.reached)

  module _ {g' out' : List ℕ} {at v i : ℕ} (within : i < hi - lo + 1) (done : Turns ms k rest t g out i g' out' at) where
    turn : v ≡ part_value ms k rest t i → lo ≤ v → v ≤ hi → Turn ms k left rest t g out i v g' out' at
    turn is low high =
        record {
          walk = subst (λ (b : ℕ). Walk ms (suc k) (left + b) rest t g out) p.bound_is p.walk;
          some = p.some;
          number = rw (← lo_least, ← hi_most) (omega (arith, part_some));
          is = is;
          low = omega (arith, p.lo_is);
          high = omega (arith, hi_most);
          done = done;
        }

    -- "It rises by ones if t is even and falls by ones if t is odd."
    pub rising_turn : is_odd t ≡ false → v ≡ lo + i → Turn ms k left rest t g out i v g' out' at
    rising_turn even e = turn (rw (even, ← lo_least) e) (omega arith) (omega (arith, part_some))

    pub falling_turn : is_odd t ≡ true → v ≡ hi - i → Turn ms k left rest t g out i v g' out' at
    falling_turn odd e = turn (rw (odd, ← hi_most) e) (omega (arith, part_some)) (omega arith)

  -- all values are done
  pub part_done : {g' out' : List ℕ} {at i : ℕ} → Turns ms k rest t g out i g' out' at → i ≡ hi - lo + 1 → Walked ms parts rest t g out at g' out'
  part_done done e = turns_end p.next (e ∙ rw (← lo_least, ← hi_most) (omega (arith, part_some))) done
