use Rattle.std.proofs.Common.{All, subst, ◌∙◌, arith}
use Rattle.std.proofs.lemmas.List.{take_all}
use Rattle.std.proofs.lemmas.List.Elements.{All-more}
use Rattle.switch_rules.specs.Serving.{IsCluster}
use Rattle.schedule_meaning.proofs.instances.check_bounds.Goals as goal

pub loop-phase-preserved : goal.loop-phase-preserved
loop-phase-preserved c =
    All-more (All IsCluster) c.args.lists.now c.loop-phase.phase c.index-lists-phase.result (omega arith) c.loop-phase.invariant
    (subst (All IsCluster) (c.as_slice.ensures ∙ c.index-lists-phase.is) c.in_default.ensures.none)

pub returns-clause-ok : goal.returns-clause-ok
returns-clause-ok c = subst (All (All IsCluster)) (take_all c.loop-phase.phase c.args.lists.now (omega arith)) c.loop-phase.invariant
