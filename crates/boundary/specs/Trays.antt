-- Document 02, (viii): the trays of whole editions, each with what is answered when it is lent for the list.
use Rattle.std.specs.Prelude.{List, [], ◌∷◌, ◌++◌, ℕ, ◌*◌, length, replicate}
use Rattle.walsh.specs.Order.{count_of, three_twos, seven}
use Rattle.listing.specs.Listing.{listing_of}
use Rattle.bounds.specs.declared.Refusal.{Refusal}

-- an edition, the bytes of the tray that is lent, and what is claimed: number, detail, and the tray afterwards
pub record Tray : Type 0 where
  pub bounds : List ℕ
  pub total : ℕ
  pub bytes : ℕ
  pub claim : List ℕ

-- compositions one behind the other
abbrev joined : List (List ℕ) → List ℕ
joined [] = []
joined (g ∷ gs) = g ++ joined gs

-- a tray lent for all compositions holds these, one behind the other
abbrev fills : List ℕ → ℕ → List (List ℕ) → Tray
fills ms r gs = record { bounds = ms; total = r; bytes = count_of ms r * length ms; claim = 0 ∷ 0 ∷ joined gs }

-- a tray of so many bytes is refused with this number, and keeps its bytes
abbrev unfilled : List ℕ → ℕ → ℕ → ℕ → Tray
unfilled ms r bytes number = record { bounds = ms; total = r; bytes = bytes; claim = number ∷ 0 ∷ replicate bytes 7 }

-- what the list answers of it
abbrev pub listed : Tray → List ℕ
listed x = let y : Refusal × List ℕ = listing_of x.bounds x.total (replicate x.bytes 7) in y.0.number ∷ y.0.detail ∷ y.1

unfoldable pub trays : List Tray
trays =
    -- copies A and D, one kind, a kind withdrawn, all kinds withdrawn
    fills three_twos 3 seven
    ∷ fills three_twos 5 ((2 ∷ 2 ∷ 1 ∷ []) ∷ (2 ∷ 1 ∷ 2 ∷ []) ∷ (1 ∷ 2 ∷ 2 ∷ []) ∷ [])
    ∷ fills (5 ∷ []) 5 ((5 ∷ []) ∷ [])
    ∷ fills (2 ∷ 0 ∷ 1 ∷ []) 2 ((2 ∷ 0 ∷ 0 ∷ []) ∷ (1 ∷ 0 ∷ 1 ∷ []) ∷ [])
    ∷ fills (0 ∷ 0 ∷ []) 0 ((0 ∷ 0 ∷ []) ∷ [])
    -- a byte more or less, a composition less, an empty tray: 13; the edition is checked first
    ∷ unfilled three_twos 3 22 13
    ∷ unfilled three_twos 3 20 13
    ∷ unfilled three_twos 3 18 13
    ∷ unfilled three_twos 3 0 13
    ∷ unfilled three_twos 7 21 4
    ∷ unfilled (replicate 25 1) 3 0 1
    ∷ []
