-- What is computed of a text is what it asks for, and what is answered to it.
use mathlib.Core.Path.{◌≡◌, refl, sym, ap, ◌∙◌}
use mathlib.Core.List.{List, [], ◌∷◌, map, append-nil}
use Rattle.std.specs.Prelude.{Option, Some, None}
use Prim.Native.Nat.{ℕ, ◌≤◌}
use native.Mathlib.Omega.{arith}
use lib.Dec.{ltb}
use lib.ListN.{length, take, drop, length-map, take-append-drop}
use lib.Seq.{take_at}
use borrow.Author.Tests.{le-ltb, ltb-false}
use Rattle.walsh.specs.Serial.{same}
use Rattle.walsh.proofs.Cases.{on_test}
use Rattle.walsh.proofs.Serials.{same_refl, same_eq}
use Rattle.request.specs.Text.{line}
use Rattle.request.specs.Request.{title, Asks, held, request_cells, Parsed, asks, other}
use Rattle.request.specs.Scan.{Scanned, found, none, scan}
use Rattle.request.specs.Asked.{Asked, wants, nothing, with_total, with_bounds, asked_of}
use Rattle.request.specs.declared.Request.{Request}
use Rattle.request.proofs.Scans.{small_one, scan_complete, scan_sound}
use Rattle.request.proofs.Requests.{asks_title, asks_bounds, asked_for, no_request}

pub asks_asked : {s ms : List ℕ} {r : ℕ} → Asks s ms r → asked_of s ≡ wants ms r
unfolding asked_of
asks_asked {s} {ms} {r} q =
    let total : scan [] None (line (r ∷ [])) ≡ found (r ∷ []) [] =
    ap (scan [] None) (sym (append-nil (line (r ∷ [])))) ∙ scan_complete (r ∷ []) [] (omega arith) (small_one r q.total) in
    rw (le-ltb 256 (length s) q.size, asks_title q, same_refl title, asks_bounds q, total)

-- ---- what is computed is asked for

no_wants : {ms : List ℕ} {r : ℕ} {A : Type 0} → nothing ≡ wants ms r → A
no_wants e = cc

module _ (s ms : List ℕ) (r : ℕ) (size : length s ≤ 256) (first : take 6 s ≡ title) where
  with_total_lem : (ns bs : List ℕ) (x : Scanned) → scan [] None (drop 6 s) ≡ found ns bs → scan [] None bs ≡ x → with_total ns x ≡ wants ms r
      → Asks s ms r
  with_total_lem ns bs (found [] cs) b t e = no_wants e
  with_total_lem ns bs (found (v ∷ []) []) b t e =
      let bounds = scan_sound (drop 6 s) ns bs b in
      let total = scan_sound bs (v ∷ []) [] t in
      let m : ns ≡ ms = cc in
      let k : v ≡ r = cc in
      let behind : bs ≡ line (r ∷ []) = total.0 ∙ append-nil (line (v ∷ [])) ∙ ap (λ (n : ℕ). line (n ∷ [])) k in
      record {
        size = size;
        some = rw m at bounds.2;
        small = rw m at bounds.1;
        total = rw k at (total.1 0);
        is = sym (take-append-drop 6 s) ∙ rw (first, bounds.0, behind, m);
      }
  with_total_lem ns bs (found (v ∷ []) (c ∷ cs)) b t e = no_wants e
  with_total_lem ns bs (found (v ∷ n ∷ vs) cs) b t e = no_wants e
  with_total_lem ns bs none b t e = no_wants e

  with_bounds_lem : (x : Scanned) → scan [] None (drop 6 s) ≡ x → with_bounds x ≡ wants ms r → Asks s ms r
  with_bounds_lem (found ns bs) b e = with_total_lem ns bs (scan [] None bs) b refl e
  with_bounds_lem none b e = no_wants e

pub asked_asks : (s ms : List ℕ) (r : ℕ) → asked_of s ≡ wants ms r → Asks s ms r
unfolding asked_of
asked_asks s ms r e =
    on_test (ltb 256 (length s))
    (λ t. no_wants (rw t at e))
    (λ t. on_test (same (take 6 s) title)
    (λ u. with_bounds_lem s ms r (ltb-false 256 (length s) t) (same_eq (take 6 s) title u) (scan [] None (drop 6 s)) refl (rw (t, u) at e))
    (λ u. no_wants (rw (t, u) at e)))

-- ---- nothing is asked for

pub asks_nothing : (s : List ℕ) → ((ms : List ℕ) (r : ℕ) → Asks s ms r → ⊥) → asked_of s ≡ nothing
asks_nothing s h = go (asked_of s) refl
  where
    go : (x : Asked) → asked_of s ≡ x → x ≡ nothing
    go (wants ms r) e = absurd (h ms r (asked_asks s ms r e))
    go nothing e = refl

-- ---- what is answered

cells_front : (ms : List ℕ) → take (length ms) (request_cells (map held ms)) ≡ map held ms
unfolding request_cells
cells_front ms = take_at (map held ms) _ (length ms) (length-map ms held)

-- an answer that accepts has the bounds, held as bytes, and the total
pub record Wanted (s : List ℕ) (x : Request) : Type 0 where
  pub bounds : List ℕ
  pub asked : asked_of s ≡ wants bounds x.total
  pub cells : take x.parts x.upper ≡ map held bounds

pub parsed_wanted : {s : List ℕ} {x : Request} {y : Option Request} → Parsed s y → y ≡ Some x → Wanted s x
parsed_wanted {s} {x} (asks ms r q) e =
    let is : asked_for ms r ≡ x = cc in
    rw (← is) (record { bounds = ms; asked = asks_asked q; cells = cells_front ms })
parsed_wanted (other h) e = no_request e

pub parsed_nothing : {s : List ℕ} {y : Option Request} → Parsed s y → y ≡ None → asked_of s ≡ nothing
parsed_nothing (asks ms r q) e = no_request (sym e)
parsed_nothing {s} (other h) e = asks_nothing s h
