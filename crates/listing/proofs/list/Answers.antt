-- `listing::list` meets its contract: the laws of proofs/Whole at each return.
use Rattle.std.proofs.Common.{◌≡◌, refl, sym, ℕ, ◌*◌, length, take, replicate, length-take-le}
use Rattle.walsh.specs.Order.{count_of}
use Rattle.bounds.specs.Edition.{shape_checks, limit_checks, edition_checks}
use Rattle.bounds.proofs.Editions.{Shapely, edition_shapely}
use Rattle.bounds.proofs.Chains.{Accepts}
use Rattle.bounds.proofs.Reasons.{coded-number, accepted, coded-first, passed_on}
use Rattle.listing.proofs.Whole.{whole_walk, whole_walked, listing_edition, listing_lent, listing_room, listing_done}
use Rattle.listing.proofs.list.Goals as goal
use Rattle.listing.proofs.list.Goals.{In_ok-count, In_ok-check_copies}

pub returns-in_err-room : goal.returns-in_err-room
returns-in_err-room c =
    let a = c.args in
    rw (passed_on _ _ c.from_residual.ensures.1)
    (listing_edition _ _ _ (coded-first _ (shape_checks a.upper.now a.total) (limit_checks a.upper.now a.total) c.in_err-room.ensures.refusal)
    (coded-number _))

pub returns-in_err-count : goal.returns-in_err-count
returns-in_err-count c =
    rw (passed_on _ _ c.from_residual-in_err-count.ensures.1) (listing_edition _ _ _ c.in_err-count.ensures.refusal (coded-number _))

-- an accepted edition
accepts : (c : In_ok-count) → let a = c.args in Accepts (edition_checks a.upper.now a.total)
accepts c = accepted _ c.in_ok-count.ensures.refusal

shape_at : (c : In_ok-count) → let a = c.args in Shapely a.upper.now a.total
shape_at c = edition_shapely _ _ (accepts c)

pub returns-in_err-check_copies : goal.returns-in_err-check_copies
returns-in_err-check_copies c =
    rw (passed_on _ _ c.from_residual-in_err-check_copies.ensures.1)
    (listing_lent _ _ _ (accepts (goal.at.returns-in_err-check_copies c).In_ok-count) c.in_ok-count.ensures.count c.in_err-check_copies.ensures
    (coded-number _))

-- a tray of the right length
room_at : (c : In_ok-check_copies) →
    let a = c.args in
    length a.out.now ≡ count_of a.upper.now a.total * length a.upper.now
room_at c =
    listing_room _ _ c.args.out.now (accepts (goal.at.In_ok-check_copies c).In_ok-count) c.in_ok-count.ensures.count c.in_ok-check_copies.ensures refl

-- the cells for a composition
size_at : (c : In_ok-count) → let n = length c.args.upper.now in length (take n (replicate {A = ℕ} 24 0)) ≡ n
size_at c = length-take-le _ _ (shape_at c).few

pub rising-requires : goal.rising-requires
rising-requires c =
    let at = goal.at.rising-requires c in
    let edition = at.In_ok-count in
    (refl, whole_walk _ _ _ (size_at edition) _ (room_at at.In_ok-check_copies) _ c.in_ok-room.ensures.sum (shape_at edition))

pub returns : goal.returns
returns c =
    let at = goal.at.returns c in
    let edition = at.In_ok-count in
    listing_done _ _ _ (accepts edition) c.in_ok-count.ensures.count c.in_ok-check_copies.ensures refl
    (whole_walked _ _ _ (size_at edition) _ (room_at at.In_ok-check_copies) _ _ _ c.rising.ensures)

pub slice_bounds-g-end : goal.slice_bounds-g-end
slice_bounds-g-end c = (shape_at (goal.at.slice_bounds-g-end c).In_ok-count).few

pub slice_bounds-rising-end : goal.slice_bounds-rising-end
slice_bounds-rising-end c = sym (size_at (goal.at.slice_bounds-rising-end c).In_ok-count)
