use Rattle.std.proofs.Common.{sym, subst, ◌∙◌}
use Rattle.std.specs.List.Sorted.{IsStrictlyIncreasing}
use Rattle.road_net.specs.Network.{entry_links}
use Rattle.road_net.specs.Senses.{IsSensedOf}
use Rattle.arrivals.specs.Amounts.{arriving_of}
use Rattle.net_simulator.specs.Worlds.{signs_by}
use Rattle.net_simulator.proofs.Seeing.{below-names}
use Rattle.spillback_world.proofs.Sensing.{gathered, is-sensed}
use Rattle.spillback_world.proofs.worlds.SpillWorld.sense.Goals as goal

pub returns-clause-value : goal.returns-clause-value
returns-clause-value c arriving store shown stands =
    let below = below-names c.args.net.now c.entry_links.result.now (entry_links c.args.net.now c.args.node) c.entry_links.ensures.network c.entry_links.ensures.value (λ k d h. (c.entry_links.ensures.links.have k d h).0) in
    gathered c.args.net.now c.args.node c.args.self.now _ _ _ _ _ _ c.entry_links.ensures.network c.self.view_is c.as_slice.ensures.value c.as_slice-2.ensures.value c.as_slice-3.ensures.value c.entry_links.ensures.value (c.from_vec.ensures ∙ c.in_ok-links.ensures) below arriving store shown stands

pub returns-clause-sensed : goal.returns-clause-sensed
returns-clause-sensed c =
    let world = c.requires.world in
    let below = below-names c.args.net.now c.entry_links.result.now (entry_links c.args.net.now c.args.node) c.entry_links.ensures.network c.entry_links.ensures.value (λ k d h. (c.entry_links.ensures.links.have k d h).0) in
    let is = gathered c.args.net.now c.args.node c.args.self.now _ _ _ _ _ _ c.entry_links.ensures.network c.self.view_is c.as_slice.ensures.value c.as_slice-2.ensures.value c.as_slice-3.ensures.value c.entry_links.ensures.value (c.from_vec.ensures ∙ c.in_ok-links.ensures) below (arriving_of world.arrivals) world.store (signs_by world.lines) world.stands in
    let rising = subst IsStrictlyIncreasing c.entry_links.ensures.value c.entry_links.ensures.links.rising in
    subst (IsSensedOf c.args.net.now c.args.node) (sym is) (is-sensed c.args.net.now c.args.node c.args.self.now c.entry_links.ensures.network below rising world)
