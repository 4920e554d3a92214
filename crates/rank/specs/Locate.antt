-- The composition of a serial as 24 cells, as the ledger, a step and a batch hold it (document 01, "Refusals by place of checking": "answer a mix
-- as 24 cells, those past n being 0"), together with N.
use Rattle.std.specs.Prelude.{◌≡◌, List, ℕ}
use Rattle.walsh.specs.Order.{count_of}
pub use Rattle.band.specs.Find.{clamp, nearest}
use Rattle.rank.specs.declared.Located.{Located}

-- N, and the cells of the serial of 1..N that is nearest to s
pub record Locates (ms : List ℕ) (r s : ℕ) (l : Located) : Type 0 where
  pub count : l.count ≡ count_of ms r
  pub cells : l.composition ≡ nearest ms r s
