-- What is given where a test holds.
use Rattle.std.specs.Prelude.{◌≡◌, Bool, true, false, Some, None}
use Rattle.std.specs.Bool.{then_some}
use Rattle.std.proofs.Common.{refl}

module _ {A : Type 0} where
  pub some_given : {b : Bool} {x y : A} → Some y ≡ then_some b x → (b ≡ true) × (y ≡ x)
  some_given {b = true} e = (refl, cc)
  some_given {b = false} e = cc

  pub none_given : {b : Bool} (x : A) → None ≡ then_some b x → b ≡ false
  none_given {b = true} x e = cc
  none_given {b = false} x e = refl
