-- What is printed, a page at a time. A page is a part of the output that stands at the beginning of a buffer: whole lines, as many as have room.
use Rattle.std.specs.Prelude.{◌≡◌, refl, Option, Some, None, cond, List, [], ◌∷◌, ◌++◌, ℕ, suc, ◌+◌, ◌-◌, ◌≤◌, ◌<◌, eqb, ltb, length, take, drop, replicate}
use Rattle.walsh.specs.Order.{order, listing, count, count_of}
use Rattle.walsh.specs.Serial.{same, composition_of}
use Rattle.walsh.specs.Transition.{gain_from, transition_at}
use Rattle.walsh.specs.declared.Transition.{Transition}
use Rattle.bounds.specs.Refusal.{first_refusal}
use Rattle.bounds.specs.Edition.{first_outside}
use Rattle.bounds.specs.Places.{most_entries}
use Rattle.request.specs.Text.{digits_of, decimal, refusal_line}
use Rattle.request.specs.Scan.{scan, grown_of}
use Rattle.request.specs.Asked.{asked_of, example}
use Rattle.request.specs.declared.Request.{Request}
use Rattle.rank.specs.Locate.{Locates}
use Rattle.rank.specs.declared.Located.{Located}
use Rattle.lines.specs.Lines.{counts_then, pair_end, copy_line, line_at, lines_of, fitting}
use Rattle.lines.specs.Printed.{Output, refusal, copies, list_checks, listed, output_of}
use Rattle.lines.specs.Append.{Appended}
use Rattle.lines.specs.declared.Page.{Page}

-- the lines of an output are numbered from 1: in a listing the number is the serial
abbrev pub line_in : Output → ℕ → List ℕ
line_in (refusal number) k = refusal_line number
line_in (copies ms r) k = line_at ms r k

abbrev pub lines_in : Output → ℕ
lines_in (refusal number) = 1
lines_in (copies ms r) = count_of ms r

-- how many of the lines from line k to the last have room in so many bytes, and their text
abbrev pub taken : (ℕ → List ℕ) → ℕ → ℕ → ℕ → ℕ
taken line_of count k size = fitting line_of k (suc count - k) size

abbrev pub text : (ℕ → List ℕ) → ℕ → ℕ → ℕ → List ℕ
text line_of count k size = lines_of line_of k (taken line_of count k size)

-- the number itself, or none where there is no such line
abbrev pub or_none : ℕ → ℕ → Option ℕ
or_none count k = cond (ltb count k) None (Some k)

-- the page from line k on: where it ends, the number of the line at which the next page begins, none behind the last, and the bytes of the
-- buffer. Of line 0, and past the last, it is empty. Where line k has no room, it is empty and the next page begins at k again.
abbrev pub page_from : (ℕ → List ℕ) → ℕ → ℕ → List ℕ → Page × List ℕ
page_from line_of count k out =
    cond (eqb k 0)
    (record { next = None; end = 0 }, out) (
      record { next = or_none count (k + taken line_of count k (length out)); end = length (text line_of count k (length out)) },
      text line_of count k (length out) ++ drop (length (text line_of count k (length out))) out,
    )

unfoldable pub page_in : Output → ℕ → List ℕ → Page × List ℕ
page_in o k out = page_from (line_in o) (lines_in o) k out

-- the page of what is printed for the text s
unfoldable pub page_of : List ℕ → ℕ → List ℕ → Page × List ℕ
page_of s k out = page_in (output_of s) k out

-- the document's third and fourth line in a buffer of 32 bytes
the_page : page_of example 3 (replicate 32 0) ≡ (
  record { next = Some 5; end = 28 },
  51 ∷ 32 ∷ 48 ∷ 32 ∷ 50 ∷ 32 ∷ 49 ∷ 32 ∷ 43 ∷ 51 ∷ 32 ∷ 45 ∷ 49 ∷ 10
      ∷ 52 ∷ 32 ∷ 49 ∷ 32 ∷ 49 ∷ 32 ∷ 49 ∷ 32 ∷ 43 ∷ 49 ∷ 32 ∷ 45 ∷ 50 ∷ 10
      ∷ 0 ∷ 0 ∷ 0 ∷ 0 ∷ [],
)
unfolding page_of page_in fitting listed asked_of same scan grown_of first_refusal first_outside count_of count
    lines_of line_at copy_line counts_then pair_end transition_at gain_from composition_of order listing decimal digits_of
the_page = refl

-- what a caller writes of it
abbrev pub shown : List ℕ → ℕ → List ℕ → List ℕ
shown s k out = take (page_of s k out).0.end (page_of s k out).1

-- the texts of the pages from line k on, one behind the other: each call has the buffer as the one before it left it, and begins where that
-- one said, until one says that it was the last. That this ends, and what it gives, is proved in proofs/Pages.antt.
pub data Pages (s : List ℕ) : List ℕ → ℕ → List ℕ → Type 0 where
  last : {out : List ℕ} {k : ℕ} {all : List ℕ} → (page_of s k out).0.next ≡ None → all ≡ shown s k out → Pages s out k all
  more : {out : List ℕ} {k : ℕ} {all : List ℕ} (rest : List ℕ) (next : ℕ) → (page_of s k out).0.next ≡ Some next
      → Pages s (page_of s k out).1 next rest → all ≡ shown s k out ++ rest → Pages s out k all

-- ---- for the code: what is listed and where it begins, where it goes on, and what it has done then

-- nothing is refused, and y is N and the composition at line k
pub record Listed (ms : List ℕ) (r k : ℕ) (y : Located) : Type 0 where
  pub accepted : (first_refusal (list_checks ms r)).number ≡ 0
  pub located : Locates ms r k y

-- the text s asks for x, of which that is so
pub record Found (s : List ℕ) (k : ℕ) (x : Request) (y : Located) : Type 0 where
  pub output : output_of s ≡ copies (take x.parts x.upper) x.total
  pub listed : Listed (take x.parts x.upper) x.total k y

pub record Ready (ms : List ℕ) (r s count : ℕ) (parts : List ℕ) (x : Transition) : Type 0 where
  pub few : length ms ≤ 24
  pub small : count ≤ most_entries
  pub all : count ≡ count_of ms r
  pub low : 0 < s
  pub high : s ≤ count
  pub here : parts ≡ composition_of ms r s
  pub pair : x ≡ transition_at ms r s

pub record Filled (ms : List ℕ) (r s count : ℕ) (before after : List ℕ) (p : Page) : Type 0 where
  pub next : p.next ≡ or_none count (s + taken (line_at ms r) count s (length before))
  pub put : Appended before after 0 p.end (text (line_at ms r) count s (length before))
