-- What is read of a text is what it asks for, and no text asks for two listings.
use mathlib.Core.Path.{◌≡◌, refl, sym, ap, ◌∙◌}
use mathlib.Core.List.{List, [], ◌∷◌, ◌++◌, map, append_assoc, append-nil}
use Rattle.std.specs.Prelude.{Option, Some, None}
use Prim.Native.Nat.{ℕ, ◌-◌, ◌≤◌, ◌<◌}
use native.Mathlib.Omega.{arith}
use lib.ListN.{length, get_or, take, drop, replicate, length-append, length-map}
use lib.Seq.{drop_at}
use Rattle.request.specs.Text.{line}
use Rattle.request.specs.Request.{title, Asks, held, request_cells, refused, Parsed, asks, other}
use Rattle.request.specs.Scan.{Scanned, found, none, scan, line_found, line_of}
use Rattle.request.specs.declared.Request.{Request}
use Rattle.request.specs.declared.Line.{Line}
use Rattle.request.proofs.Scans.{Small, small_one, scan_complete, scan_sound}

-- ---- a text that asks for a listing is read

module _ {s ms : List ℕ} {r : ℕ} (q : Asks s ms r) where
  pub asks_title : take 6 s ≡ title
  asks_title = ap (take 6) q.is

  asks_long : 6 ≤ length s
  asks_long = omega (arith, ap length q.is, length-append title (line ms ++ line (r ∷ [])))

  pub asks_bounds : scan [] None (drop 6 s) ≡ found ms (line (r ∷ []))
  asks_bounds = ap (λ (l : List ℕ). scan [] None (drop 6 l)) q.is ∙ scan_complete ms (line (r ∷ [])) q.some q.small

  asks_total : (end : ℕ) → end ≡ length s - length (line (r ∷ [])) → scan [] None (drop end s) ≡ found (r ∷ []) []
  asks_total end e =
      let split : s ≡ (title ++ line ms) ++ line (r ∷ []) = q.is ∙ sym (append_assoc title (line ms) (line (r ∷ []))) in
      let size : length (title ++ line ms) ≡ end = omega (arith, ap length split, length-append (title ++ line ms) (line (r ∷ []))) in
      rw (split, drop_at (title ++ line ms) (line (r ∷ [])) end size)
      (ap (scan [] None) (sym (append-nil (line (r ∷ [])))) ∙ scan_complete (r ∷ []) [] (omega arith) (small_one r q.total))

-- no text asks for two
pub asks_once : {s ms ms' : List ℕ} {r r' : ℕ} → Asks s ms r → Asks s ms' r' → (ms ≡ ms') × (r ≡ r')
asks_once {s} {ms} {ms'} {r} {r'} q q' =
    let b : found ms (line (r ∷ [])) ≡ found ms' (line (r' ∷ [])) = sym (asks_bounds q) ∙ asks_bounds q' in
    let l : line (r ∷ []) ≡ line (r' ∷ []) = cc in
    let end : ℕ = length s - length (line (r ∷ [])) in
    let t : found (r ∷ []) [] ≡ found (r' ∷ []) [] = sym (asks_total q end refl) ∙ asks_total q' end (rw l) in
    (cc, cc)

-- ---- refused

abbrev AsksNone : List ℕ → Type 0
AsksNone s = (ms : List ℕ) (r : ℕ) → Asks s ms r → ⊥

-- the line that was found
same_line : {a b : Line} → ◌≡◌ {A = Option Line} (Some a) (Some b) → a ≡ b
same_line e = cc

no_line : {a : Line} → ◌≡◌ {A = Option Line} None (Some a) → ⊥
no_line e = cc

module _ (s : List ℕ) where
  pub refused_long : 256 < length s → Parsed s refused
  refused_long h = other (λ ms r q. omega (arith, q.size))

  pub refused_title : ((rest : List ℕ) → s ≡ title ++ rest → ⊥) → Parsed s refused
  refused_title h = other (λ ms r q. h _ q.is)

  -- the two lines behind the first
  pub refused_bounds : None ≡ line_of (length s) (scan [] None (drop 6 s)) → Parsed s refused
  refused_bounds e = other (λ ms r q. no_line (e ∙ ap (line_of (length s)) (asks_bounds q)))

  module _ (b : Line) (eb : Some b ≡ line_of (length s) (scan [] None (drop 6 s))) where
    bounds_of : (ms : List ℕ) (r : ℕ) → Asks s ms r → b ≡ line_found (length s) ms (line (r ∷ []))
    bounds_of ms r q = same_line (eb ∙ ap (line_of (length s)) (asks_bounds q))

    total_of : (ms : List ℕ) (r : ℕ) → Asks s ms r → line_of (length s) (scan [] None (drop b.end s)) ≡ Some (line_found (length s) (r ∷ []) [])
    total_of ms r q = ap (line_of (length s)) (asks_total q b.end (ap (λ (l : Line). l.end) (bounds_of ms r q)))

    pub refused_no_total : None ≡ line_of (length s) (scan [] None (drop b.end s)) → Parsed s refused
    refused_no_total e = other (λ ms r q. no_line (e ∙ total_of ms r q))

    module _ (t : Line) (et : Some t ≡ line_of (length s) (scan [] None (drop b.end s))) where
      the_total_of : (ms : List ℕ) (r : ℕ) → Asks s ms r → t ≡ line_found (length s) (r ∷ []) []
      the_total_of ms r q = same_line (et ∙ total_of ms r q)

      pub refused_total : (t.parts ≡ 1 → ⊥) → Parsed s refused
      refused_total h = other (λ ms r q. h (ap (λ (l : Line). l.parts) (the_total_of ms r q)))

      pub refused_behind : t.end < length s → Parsed s refused
      refused_behind h = other (λ ms r q. omega (arith, ap (λ (l : Line). l.end) (the_total_of ms r q)))

-- ---- accepted

-- a line was found
record Found (bs : List ℕ) (size : ℕ) (b : Line) : Type 0 where
  ns : List ℕ
  rest : List ℕ
  small : Small ns
  some : 0 < length ns
  is : bs ≡ line ns ++ rest
  line_is : b ≡ line_found size ns rest

found_line : (bs : List ℕ) (size : ℕ) (b : Line) → Some b ≡ line_of size (scan [] None bs) → Found bs size b
found_line bs size b e = go (scan [] None bs) refl
  where
    go : (x : Scanned) → scan [] None bs ≡ x → Found bs size b
    go (found ns rest) eq =
        let p = scan_sound bs ns rest eq in
        record { ns = ns; rest = rest; small = p.1; some = p.2; is = p.0; line_is = same_line (e ∙ ap (line_of size) eq) }
    go none eq = absurd (no_line (sym (e ∙ ap (line_of size) eq)))

only : (ns : List ℕ) → length ns ≡ 1 → ns ≡ get_or ns 0 0 ∷ []
only [] h = absurd (omega arith)
only (n ∷ []) h = refl
only (n ∷ m ∷ ns) h = absurd (omega arith)

empty : (l : List ℕ) → length l ≤ 0 → l ≡ []
empty [] h = refl
empty (x ∷ l) h = absurd (omega arith)

module _ (s : List ℕ) (size : length s ≤ 256) (first : s ≡ title ++ drop 6 s)
    (b : Line) (eb : Some b ≡ line_of (length s) (scan [] None (drop 6 s)))
    (t : Line) (et : Some t ≡ line_of (length s) (scan [] None (drop b.end s))) (one : t.parts ≡ 1) (last : length s ≤ t.end) where
  bounds : Found (drop 6 s) (length s) b
  bounds = found_line (drop 6 s) (length s) b eb

  total : Found (drop b.end s) (length s) t
  total = found_line (drop b.end s) (length s) t et

  split : s ≡ (title ++ line bounds.ns) ++ bounds.rest
  split = first ∙ ap (λ (l : List ℕ). title ++ l) bounds.is ∙ sym (append_assoc title (line bounds.ns) bounds.rest)

  start : drop b.end s ≡ bounds.rest
  start =
      ap (drop b.end) split
      ∙ drop_at (title ++ line bounds.ns) bounds.rest b.end
      (omega (arith, ap (λ (l : Line). l.end) bounds.line_is, ap length split, length-append (title ++ line bounds.ns) bounds.rest))

  the_total : total.ns ≡ t.last ∷ []
  the_total =
      let n : length total.ns ≡ 1 = sym (ap (λ (l : Line). l.parts) total.line_is) ∙ one in
      let l : t.last ≡ get_or total.ns 0 0 = ap (λ (l : Line). l.last) total.line_is ∙ rw n in
      only total.ns n ∙ ap (λ (x : ℕ). x ∷ []) (sym l)

  ends : bounds.rest ≡ line (t.last ∷ [])
  ends =
      let none : length total.rest ≤ 0 = omega (arith, ap (λ (l : Line). l.end) total.line_is, ap length first, length-append title (drop 6 s)) in
      sym start ∙ total.is ∙ rw (empty total.rest none, the_total) (append-nil (line (t.last ∷ [])))

  asked : Asks s bounds.ns t.last
  asked =
      record {
        size = size;
        some = bounds.some;
        small = bounds.small;
        total = rw the_total at total.small 0;
        is = split ∙ append_assoc title (line bounds.ns) bounds.rest ∙ ap (λ (l : List ℕ). title ++ (line bounds.ns ++ l)) ends;
      }

  pub taken : Parsed s (Some (record { parts = b.parts; upper = b.upper; total = t.last }))
  taken =
      let is : ◌≡◌ {A = Request} (record { parts = b.parts; upper = b.upper; total = t.last })
      (record { parts = length bounds.ns; upper = request_cells (map held bounds.ns); total = t.last }) =
      ap (λ (l : Line). record { parts = l.parts; upper = l.upper; total = t.last }) bounds.line_is in
      rw is (asks bounds.ns t.last asked)

abbrev pub asked_for : List ℕ → ℕ → Request
asked_for ms r = record { parts = length ms; upper = request_cells (map held ms); total = r }

pub no_request : {x : Request} {A : Type 0} → ◌≡◌ {A = Option Request} None (Some x) → A
no_request e = cc

-- the bounds are cells
pub parsed_few : {s : List ℕ} {x : Request} {y : Option Request} → Parsed s y → y ≡ Some x → x.parts ≤ length x.upper
unfolding request_cells
parsed_few {s} {x} (asks ms r q) e =
    let is : asked_for ms r ≡ x = cc in
    rw (← is) (omega (arith, length-map ms held, length-append (map held ms) (replicate (128 - length (map held ms)) 0)))
parsed_few (other h) e = absurd (no_request e)
