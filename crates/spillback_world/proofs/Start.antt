-- From where the search of an amount that fits may start.
use Rattle.std.proofs.Common.{◌≡◌, ℕ, ◌+◌, ◌*◌, ◌<◌, arith}
use Rattle.road_net.specs.Joins.{part_between}

-- an amount whose product with the share is above that of the room has a part that is above it
pub too-much : (a before share room : ℕ) → (room + 1) * 1000 < a * share → room < part_between a before (before + share)
too-much a before share room more =
    let whole : a * (before + share) ≡ a * before + a * share = grind arith in
    omega (arith, whole, more)
