-- Each tray of specs/Trays is answered as is claimed.
use Rattle.std.proofs.Common.{◌≡◌, refl, map}
use Rattle.walsh.specs.Order.{order, listing, count_of, count}
use Rattle.walsh.specs.Serial.{composition_of}
use Rattle.bounds.specs.Refusal.{first_refusal}
use Rattle.bounds.specs.Edition.{first_outside}
use Rattle.bounds.specs.Places.{filling}
use Rattle.step.specs.Batch.{copies_of}
use Rattle.listing.specs.Listing.{listing_of}
use Rattle.boundary.specs.Trays.{Tray, trays, listed}

pub all_trays : map listed trays ≡ map (λ (x : Tray). x.claim) trays
unfolding trays listing_of copies_of composition_of order listing count_of count first_refusal first_outside filling
all_trays = refl
