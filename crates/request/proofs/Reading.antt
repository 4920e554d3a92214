-- What the loop of `read_line` keeps, and what it answers.
use mathlib.Core.Path.{◌≡◌, refl, sym, ap, ◌∙◌}
use mathlib.Core.Bool.{true, false}
use mathlib.Core.List.{List, [], ◌∷◌, ◌++◌, map, append_assoc}
use Rattle.std.specs.Prelude.{Option, Some, None}
use Prim.Native.Nat.{ℕ, suc, ◌+◌, ◌-◌, ◌*◌, ◌≤◌, ◌<◌}
use native.Mathlib.Numerals.{add-one}
use native.Mathlib.Omega.{arith}
use lib.ListN.{length, get_or, drop, set, replicate, length-append, length-drop, length-map, drop_of_length-le}
use lib.Seq.{drop-cons, get_or_at, set_at}
use Rattle.request.specs.Request.{held, request_cells}
use Rattle.request.specs.Scan.{grown_of, is_end, found, none, scan, line_of}
use Rattle.request.proofs.Scans.{scan_grow, scan_empty, scan_bad, scan_last, scan_next}

-- the least bytes of a number being read
abbrev width : Option ℕ → ℕ
width None = 0
width (Some v) = 1

-- the numbers before `at`, which stand in the cells
pub record Reading (s : List ℕ) (from : ℕ) (upper : List ℕ) (n : Option ℕ) (parts at : ℕ) : Type 0 where
  pub ns : List ℕ
  pub same : scan ns n (drop at s) ≡ scan [] None (drop from s)
  pub count : parts ≡ length ns
  pub cells : upper ≡ request_cells (map held ns)
  pub room : 2 * parts + width n ≤ at

map_snoc : (ns : List ℕ) (v : ℕ) → map held (ns ++ (v ∷ [])) ≡ map held ns ++ (held v ∷ [])
map_snoc [] v = refl
map_snoc (n ∷ ns) v = ap (λ (l : List ℕ). held n ∷ l) (map_snoc ns v)

cells_snoc : (ms : List ℕ) (x : ℕ) → length ms < 128 → set (request_cells ms) (length ms) x ≡ request_cells (ms ++ (x ∷ []))
unfolding request_cells
cells_snoc ms x h =
    let e : 128 - length ms ≡ suc (128 - (length ms + 1)) = omega arith in
    rw (e, length-append ms (x ∷ []))
    (set_at ms 0 (replicate (128 - (length ms + 1)) 0) x (length ms) refl ∙ sym (append_assoc ms (x ∷ []) (replicate (128 - (length ms + 1)) 0)))

pub reading_none : (s : List ℕ) (from : ℕ) (upper : List ℕ) → upper ≡ replicate 128 0 → Reading s from upper None 0 from
unfolding request_cells
reading_none s from upper e = record { ns = []; same = refl; count = refl; cells = e; room = omega arith }

module _ {s : List ℕ} {from : ℕ} {upper : List ℕ} {n : Option ℕ} {parts at : ℕ} (r : Reading s from upper n parts at) where
  -- nothing is left
  pub read_out : length s ≤ at → None ≡ line_of (length s) (scan [] None (drop from s))
  unfolding scan
  read_out h =
      let q : scan r.ns n (drop at s) ≡ none = rw (drop_of_length-le s h) in
      rw (← r.same, q)

  module _ (inside : at < length s) where
    here : (b : ℕ) → b ≡ get_or s at 0 → drop at s ≡ b ∷ drop (at + 1) s
    here b e = rw (e, add-one at) (drop-cons s at 0 inside)

    pub read_empty : (b : ℕ) → b ≡ get_or s at 0 → is_end b ≡ true → n ≡ None → None ≡ line_of (length s) (scan [] None (drop from s))
    read_empty b eb end e =
        let q : scan r.ns n (drop at s) ≡ none = rw (here b eb) (scan_empty r.ns n (drop (at + 1) s) b end e) in
        rw (← r.same, q)

    pub read_bad : (b : ℕ) → b ≡ get_or s at 0 → is_end b ≡ false → grown_of n b ≡ None
        → None ≡ line_of (length s) (scan [] None (drop from s))
    read_bad b eb end e =
        let q : scan r.ns n (drop at s) ≡ none = rw (here b eb) (scan_bad r.ns n (drop (at + 1) s) b end e) in
        rw (← r.same, q)

    pub read_grow : (b v : ℕ) → b ≡ get_or s at 0 → is_end b ≡ false → grown_of n b ≡ Some v → Reading s from upper (Some v) parts (at + 1)
    read_grow b v eb end g =
        record {
          ns = r.ns;
          same = sym (scan_grow r.ns n (drop (at + 1) s) b v end g) ∙ ap (scan r.ns n) (sym (here b eb)) ∙ r.same;
          count = r.count;
          cells = r.cells;
          room = omega (arith, r.room);
        }

    -- a number ends
    module _ (v x : ℕ) (ev : n ≡ Some v) (ex : x ≡ held v) where
      wide : width n ≡ 1
      wide = rw ev

      pub read_room : length s ≤ 256 → parts < 128
      read_room l = omega (arith, r.room, wide)

      stored : length s ≤ 256 → set upper parts x ≡ request_cells (map held (r.ns ++ (v ∷ [])))
      stored l =
          rw (r.cells, ex, map_snoc r.ns v, r.count, ← length-map r.ns held)
          (cells_snoc (map held r.ns) (held v) (omega (arith, read_room l, r.count, length-map r.ns held)))

      pub read_next : length s ≤ 256 → (b : ℕ) → b ≡ get_or s at 0 → is_end b ≡ true → (b ≡ 10 → ⊥)
          → Reading s from (set upper parts x) None (parts + 1) (at + 1)
      read_next l b eb end ten =
          record {
            ns = r.ns ++ (v ∷ []);
            same = sym (scan_next r.ns n (drop (at + 1) s) b v end ev ten) ∙ ap (scan r.ns n) (sym (here b eb)) ∙ r.same;
            count = omega (arith, r.count, length-append r.ns (v ∷ []));
            cells = stored l;
            room = omega (arith, r.room, wide);
          }

      pub read_last : length s ≤ 256 → (b : ℕ) → b ≡ get_or s at 0 → b ≡ 10
          → Some (record { parts = parts + 1; upper = set upper parts x; last = v; end = at + 1 }) ≡ line_of (length s) (scan [] None (drop from s))
      read_last l b eb ten =
          let q : scan r.ns n (drop at s) ≡ found (r.ns ++ (v ∷ [])) (drop (at + 1) s) =
          rw (here b eb, ten) (scan_last r.ns n (drop (at + 1) s) v ev) in
          let size : length (r.ns ++ (v ∷ [])) ≡ parts + 1 = omega (arith, r.count, length-append r.ns (v ∷ [])) in
          let last : get_or (r.ns ++ (v ∷ [])) (parts + 1 - 1) 0 ≡ v = get_or_at r.ns v [] 0 (parts + 1 - 1) (omega (arith, r.count)) in
          let end : length s - length (drop (at + 1) s) ≡ at + 1 = omega (arith, length-drop (at + 1) s) in
          rw (← r.same, q, stored l, size, last, end)
