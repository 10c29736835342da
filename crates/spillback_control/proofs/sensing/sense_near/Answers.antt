use Rattle.std.proofs.Common.{ap, ◌∙◌, arith, length-set}
use Rattle.net_parts.specs.declared.drafts.Run.{Run}
use Rattle.arrivals.specs.Amounts.{arriving_of}
use Rattle.net_simulator.specs.Senses.{near_on}
use Rattle.net_simulator.specs.Worlds.{signs_by}
use Rattle.spillback_world.specs.Storage.{cumulative_in}
use Rattle.spillback_world.proofs.Sensing.{near-all-fits}
use Rattle.actuated.proofs.NearLaws.{amounts-of, more-near}
use Rattle.spillback_control.proofs.sensing.sense_near.Goals as goal

pub loop-link-preserved : goal.loop-link-preserved
loop-link-preserved c =
    let l = c.loop-link in
    let net = c.args.net.now in
    let w = c.args.world.now in
    record {
      count = length-set l.near l.link c.near.result ∙ l.invariant.count;
      are = λ arriving store shown stands. more-near (near_on net (cumulative_in net arriving store shown w.second) w.second net.run.gap) l.near l.link c.near.result (omega (arith, c.loop-link-test.true, c.links-link-end.ensures.value, l.invariant.count, c.requires.near))
          (c.near.ensures arriving store shown stands ∙ ap (λ (r : Run). near_on net (cumulative_in net arriving store shown w.second) w.second r.gap l.link) c.run.ensures.value) (l.invariant.are arriving store shown stands);
    }

pub returns-clause-amounts : goal.returns-clause-amounts
returns-clause-amounts c =
    let l = c.loop-link in
    let net = c.args.net.now in
    let w = c.args.world.now in
    let world = c.requires.world in
    amounts-of net (near_on net (cumulative_in net (arriving_of world.arrivals) world.store (signs_by world.lines) w.second) w.second net.run.gap) l.near (l.invariant.count ∙ c.requires.near)
    (λ k inside. l.invariant.are (arriving_of world.arrivals) world.store (signs_by world.lines) world.stands k (omega (arith, inside, c.loop-link-test.false, c.links-link-end.ensures.value)))
    (near-all-fits net c.links-link-end.ensures.network w world net.run.gap)
