-- Document 01, "Listing program" and "Refusals by place of checking", place 'slip': which bytes ask for a listing, and for which one. A reader
-- who believes this file and `Text` need not read `Scan`: that computes.
use Rattle.std.specs.Prelude.{◌≡◌, Option, Some, None, List, [], ◌∷◌, ◌++◌, map, ℕ, ◌-◌, ◌≤◌, ◌<◌, min, length, get_or, replicate}
use Rattle.request.specs.Text.{line}
use Rattle.request.specs.declared.Request.{Request}

-- "a line `mixes`"
abbrev pub title : List ℕ
title = 109 ∷ 105 ∷ 120 ∷ 101 ∷ 115 ∷ 10 ∷ []

-- "a line `mixes`; a line of ceilings ..; a line with the total"
abbrev pub render : List ℕ → ℕ → List ℕ
render ms r = title ++ (line ms ++ line (r ∷ []))

-- the bytes s ask for the ceilings ms and the total r
pub record Asks (s ms : List ℕ) (r : ℕ) : Type 0 where
  -- "a slip of at most 256 bytes"
  pub size : length s ≤ 256
  -- "a line of ceilings, at least one"
  pub some : 0 < length ms
  -- "Numbers are 0 to 999"
  pub small : (i : ℕ) → get_or ms i 0 ≤ 999
  pub total : r ≤ 999
  -- "and nothing follows"
  pub is : s ≡ render ms r

-- "a ceiling over 255 is 2 like any over 60": a byte holds it as 255
abbrev pub held : ℕ → ℕ
held m = min m 255

-- 128 cells; at most 124 ceilings fit into 256 bytes
unfoldable pub request_cells : List ℕ → List ℕ
request_cells ms = ms ++ replicate (128 - length ms) 0

abbrev pub accepted : List ℕ → ℕ → Option Request
accepted ms r = Some (record { parts = length ms; upper = request_cells (map held ms); total = r })

-- "22: not the form below", the one refusal that there is here
abbrev pub refused : Option Request
refused = None

-- what is answered to s: the ceilings and the total that it asks for, or 22 where it asks for none
pub data Parsed (s : List ℕ) : Option Request → Type 0 where
  asks : (ms : List ℕ) (r : ℕ) → Asks s ms r → Parsed s (accepted ms r)
  other : ((ms : List ℕ) (r : ℕ) → Asks s ms r → ⊥) → Parsed s refused
