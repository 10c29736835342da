use Rattle.std.proofs.Common.{◌<◌, refl, arith}
use Rattle.net_parts.specs.Parts.{net_of}
use Rattle.road_net.proofs.GreenLaws.{green-below}
use Rattle.road_net.proofs.greens.are_never_both.Goals as goal

pub returns : goal.returns
returns c =
    let below = green-below (net_of c.args.parts.now) c.requires.outline c.args.a in
    (λ _ k one other. c.loop-phase.invariant k (omega (arith, below k c.requires.first one, c.loop-phase-test.false)) one other, λ _. refl)
