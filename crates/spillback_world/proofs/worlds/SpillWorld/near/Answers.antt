use Rattle.std.proofs.Common.{◌∙◌, arith}
use Rattle.arrivals.specs.Amounts.{arriving_of}
use Rattle.net_simulator.specs.Worlds.{signs_by}
use Rattle.spillback_world.proofs.Sensing.{near-fits, near-gathered}
use Rattle.spillback_world.proofs.worlds.SpillWorld.near.Goals as goal

pub near_amount-requires-clause-fits : goal.near_amount-requires-clause-fits
near_amount-requires-clause-fits c =
    let world = c.requires.world in
    omega (
      arith,
      near-gathered c.args.net.now c.args.self.now _ _ _ _ c.args.gap c.args.link c.law_of_network.ensures c.self.view_is c.as_slice.ensures.value c.as_slice-2.ensures.value c.as_slice-3.ensures.value c.requires.link (arriving_of world.arrivals) world.store (signs_by world.lines) world.stands,
      near-fits c.args.net.now c.law_of_network.ensures c.args.self.now world c.args.gap c.args.link c.requires.link,
    )

pub returns : goal.returns
returns c arriving store shown stands =
    c.near_amount.ensures
    ∙ near-gathered c.args.net.now c.args.self.now _ _ _ _ c.args.gap c.args.link c.law_of_network.ensures c.self.view_is c.as_slice.ensures.value c.as_slice-2.ensures.value c.as_slice-3.ensures.value c.requires.link arriving store shown stands
