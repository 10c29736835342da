use Rattle.net_parts.specs.Parts.{net_of}
use Rattle.road_net.proofs.FirstFaults.{refused}
use Rattle.road_net.proofs.join_parts.Goals as goal

pub returns-in_err-links : goal.returns-in_err-links
returns-in_err-links c =
    let both = refused (net_of c.args.parts) _ c.from_residual.result c.in_err-links.ensures c.from_residual.ensures.1 in
    record { joins = both.0; first = both.1 }
