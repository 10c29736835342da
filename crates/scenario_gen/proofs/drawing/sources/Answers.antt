use Rattle.std.proofs.Common.{is_none}
use Rattle.net_parts.specs.Outline.{link_at}
use Rattle.scenario_gen.proofs.Loops.{filter-step}
use Rattle.scenario_gen.proofs.drawing.sources.Goals as goal

pub loop-link-preserved : goal.loop-link-preserved
loop-link-preserved c = filter-step (λ k. is_none (link_at c.args.net.now k).from) c.loop-link.link c.loop-link.entered.items c.push_source.new.entered.items c.loop-link.invariant c.in_ok-push_source.ensures
