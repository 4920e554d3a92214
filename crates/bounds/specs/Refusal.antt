-- Document 01, "Refusals by place of checking": "Checked from top to bottom within each place; the places in this order."
-- A place is a list of checks. A call's checks are those of its places, joined by `++`, and the call answers the first that holds.
use Rattle.std.specs.Prelude.{Bool, cond, List, [], ◌∷◌, ℕ, eqb}
use Rattle.bounds.specs.declared.Refusal.{Refusal}

-- a row of the document's table: its number, whether it is to be given, and its detail
pub record Check : Type 0 where
  pub number : ℕ
  pub holds : Bool
  pub detail : ℕ

abbrev pub check : ℕ → Bool → ℕ → Check
check number holds detail = record { number = number; holds = holds; detail = detail }

abbrev pub refused : ℕ → ℕ → Refusal
refused number detail = record { number = number; detail = detail }

-- the number and the detail of the first check that holds; 0 and 0 where none does
unfoldable pub first_refusal : List Check → Refusal
first_refusal [] = refused 0 0
first_refusal (c ∷ cs) = cond c.holds (refused c.number c.detail) (first_refusal cs)

-- of two answers the accepted one where v refuses nothing, or else the refused one
abbrev pub decided : {A : Type 0} → Refusal → A → A → A
decided v accepted refused = cond (eqb v.number 0) accepted refused
