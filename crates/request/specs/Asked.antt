-- What a text asks for, computed: the bounds and the total of which `Asks` speaks, or nothing where there are none (proofs/Asked.antt).
use Rattle.std.specs.Prelude.{◌≡◌, refl, None, cond, List, [], ◌∷◌, ℕ, ltb, length, take, drop}
use Rattle.walsh.specs.Serial.{same}
use Rattle.request.specs.Request.{title}
use Rattle.request.specs.Scan.{Scanned, found, none, scan, grown_of}

pub data Asked : Type 0 where
  wants : List ℕ → ℕ → Asked
  nothing : Asked

-- behind the bounds: a line with one number, the total, "and nothing follows"
abbrev pub with_total : List ℕ → Scanned → Asked
with_total ms (found [] bs) = nothing
with_total ms (found (r ∷ []) []) = wants ms r
with_total ms (found (r ∷ []) (b ∷ bs)) = nothing
with_total ms (found (r ∷ n ∷ ns) bs) = nothing
with_total ms none = nothing

-- behind the title: a line of bounds
abbrev pub with_bounds : Scanned → Asked
with_bounds (found ms bs) = with_total ms (scan [] None bs)
with_bounds none = nothing

unfoldable pub asked_of : List ℕ → Asked
asked_of s = cond (ltb 256 (length s)) nothing (cond (same (take 6 s) title) (with_bounds (scan [] None (drop 6 s))) nothing)

-- the document's slip, and the same with a space behind the total
abbrev pub example : List ℕ
example = 109 ∷ 105 ∷ 120 ∷ 101 ∷ 115 ∷ 10 ∷ 50 ∷ 32 ∷ 50 ∷ 32 ∷ 50 ∷ 10 ∷ 51 ∷ 10 ∷ []

the_request : asked_of example ≡ wants (2 ∷ 2 ∷ 2 ∷ []) 3
unfolding asked_of same scan grown_of
the_request = refl

no_request : asked_of (109 ∷ 105 ∷ 120 ∷ 101 ∷ 115 ∷ 10 ∷ 50 ∷ 32 ∷ 50 ∷ 32 ∷ 50 ∷ 10 ∷ 51 ∷ 32 ∷ 10 ∷ []) ≡ nothing
unfolding asked_of same scan grown_of
no_request = refl
