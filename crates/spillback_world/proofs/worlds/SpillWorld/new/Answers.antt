use Rattle.std.proofs.Common.{ℕ, replicate, ap, ◌∙◌}
use Rattle.net_simulator.specs.LinkGreens.{never}
use Rattle.spillback_world.proofs.Sensing.{stands-new}
use Rattle.control_flow.specs.declared.greens.Sign.TheVariants.{Dark}
use Rattle.spillback_world.proofs.worlds.SpillWorld.new.Goals as goal

pub returns-clause-stands : goal.returns-clause-stands
returns-clause-stands c arriving store shown =
    stands-new c.args.net.now arriving store shown _ _ _ _ _ c.in_ok-links.ensures c.links.ensures.value
    (c.in_ok-signs.ensures ∙ ap (λ (n : ℕ). replicate n Dark) c.nodes.ensures.value) (c.in_ok-since.ensures ∙ ap (λ (n : ℕ). replicate n never) c.links-2.ensures.value) c.has_walks.ensures
