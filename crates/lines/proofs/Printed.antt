-- What is printed, said by what a text asks for, and which page is answered to it.
use mathlib.Core.Path.{◌≡◌, refl, sym, ap}
use mathlib.Core.List.{List}
use Rattle.std.specs.Prelude.{Option, Some, None}
use Prim.Native.Nat.{ℕ}
use native.Mathlib.Omega.{arith}
use lib.ListN.{length, take}
use lib.Seq.{length-take-le, take_all}
use borrow.Author.Tests.{lt-ltb, ne_eqb}
use Rattle.walsh.proofs.Cases.{on_less}
use Rattle.walsh.specs.Order.{count_of}
use Rattle.bounds.specs.Refusal.{first_refusal}
use Rattle.request.specs.Text.{refusal_line}
use Rattle.request.specs.Request.{Asks, Parsed}
use Rattle.request.specs.Asked.{asked_of}
use Rattle.request.specs.declared.Request.{Request}
use Rattle.request.proofs.Asked.{asks_asked, asks_nothing, parsed_wanted, parsed_nothing}
use Rattle.lines.specs.Lines.{line_at, lines_of}
use Rattle.lines.specs.Printed.{Output, refusal, copies, list_checks, listed, output_of, text_of, printed}
use Rattle.lines.specs.Page.{line_in, lines_in}
use Rattle.lines.proofs.Fitting.{lines_one}
use Rattle.lines.proofs.Listed.{listed_copies}
use Rattle.lines.proofs.Held.{held_listed}

-- a text that asks for no listing: "22 .. checked before all others"
pub printed_other : (s : List ℕ) → ((ms : List ℕ) (r : ℕ) → Asks s ms r → ⊥) → printed s ≡ refusal_line 22
unfolding printed
printed_other s h = rw (asks_nothing s h)

-- one that asks for the bounds ms and the total r
module _ {s ms : List ℕ} {r : ℕ} (q : Asks s ms r) where
  -- "A refusal prints one line and no copy"
  pub printed_refused : ((first_refusal (list_checks ms r)).number ≡ 0 → ⊥) → printed s ≡ refusal_line (first_refusal (list_checks ms r)).number
  unfolding printed listed
  printed_refused ne = rw (asks_asked q, ne_eqb (first_refusal (list_checks ms r)).number 0 ne)

  -- "It prints one line for each copy"
  pub printed_copies : (first_refusal (list_checks ms r)).number ≡ 0 → printed s ≡ lines_of (line_at ms r) 1 (count_of ms r)
  unfolding printed
  printed_copies e = rw (asks_asked q, listed_copies ms r e)

-- "A longer slip is 22": whoever has read 257 bytes need read no more
pub printed_front : (s : List ℕ) → printed (take 257 s) ≡ printed s
unfolding printed asked_of
printed_front s =
    on_less 256 (length s)
    (λ l t. rw (t, lt-ltb 256 (length (take 257 s)) (omega (arith, length-take-le 257 s (omega arith)))))
    (λ l t. ap printed (take_all 257 s (omega arith)))

-- ---- line by line

pub text_lines : (o : Output) → text_of o ≡ lines_of (line_in o) 1 (lines_in o)
text_lines (refusal number) = sym (lines_one (line_in (refusal number)) 1)
text_lines (copies ms r) = refl

-- ---- what is answered

module _ {s : List ℕ} {y : Option Request} (p : Parsed s y) where
  pub output_other : y ≡ None → output_of s ≡ refusal 22
  output_other e = rw (parsed_nothing p e)

  pub output_asked : {x : Request} → y ≡ Some x → output_of s ≡ listed (take x.parts x.upper) x.total
  output_asked {x} e =
      let w = parsed_wanted p e in
      rw (w.asked, w.cells, held_listed w.bounds x.total)
