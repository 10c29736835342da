use Rattle.std.proofs.Common.{map, length}
use Rattle.std.proofs.lemmas.List.{length-map}
use Rattle.dp_certificate.specs.Proves.{key_of_entry}
use Rattle.pruned_dp.proofs.Orders.{all-steps, bounded-keys}
use Rattle.pruned_dp.proofs.bounded_in.Goals as goal

pub returns-clause-servings : goal.returns-clause-servings
returns-clause-servings g c entries bounded =
    all-steps _ _ _ _ _ (length (map key_of_entry entries)) (length entries) c.arrival_delay.ensures.steps
    (c.layered_in.ensures.servings (map key_of_entry entries) (bounded-keys c.args.i.now c.in_ok-limit.limit entries c.in_ok-limit.ensures.delay bounded))
    (length-map entries key_of_entry)
