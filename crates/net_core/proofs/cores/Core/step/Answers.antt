use Rattle.std.proofs.Common.{◌≡◌, ◌≢◌, ◌<◌, Bool, true, false, length, arith, subst, sym, ap, ◌∙◌}
use Rattle.std.proofs.lemmas.Bool.{false≢true}
use Rattle.intersection_actor.specs.Acting.{Acting}
use Rattle.intersection_actor.specs.declared.records.Want.{Want}
use Rattle.intersection_actor.specs.declared.records.Want.TheVariants.{Done}
use Rattle.net_parts.specs.declared.drafts.Run.{Run}
use Rattle.net_core.specs.Cores.{Course, HasNoTurn, MayStep}
use Rattle.net_core.proofs.Turns.{may-step, no-turn}
use Rattle.net_core.proofs.cores.Core.step.Goals as goal

-- a node that is not done wants something
wants-more : (a : Acting) (want : Want) (done : Bool) → want ≡ a.want → done ≡ false → (want ≡ Done → done ≡ true) → a.want ≢ Done
wants-more a want done is fresh over = λ e. false≢true (sym fresh ∙ over (is ∙ e))

pub returns-then-is_done-clause-fault : goal.returns-then-is_done-clause-fault
returns-then-is_done-clause-fault g c =
    let below : c.args.node < length c.self.inside.net.now.node_names = omega (arith, c.nodes.ensures.value) in
    let other : c.self.inside.parts.round ≢ c.self.inside.net.now.run.rounds = λ e. c.if-self-run.false (e ∙ sym (ap (λ (r : Run). r.rounds) c.run.ensures.value)) in
    subst (λ (course : Course). HasNoTurn course c.args.node) c.self.view_is
    (no-turn c.self.inside.net.now c.nodes.ensures.network c.self.inside.arrivals.now c.self.inside.parts c.self.inside.kept c.self.inside.spent c.self.invariant.sound c.if-self.false c.args.node c.index.result.now below c.index.ensures other (sym c.want.ensures ∙ c.is_done.ensures.0 c.if-is_done.true))

pub returns-in-Ok-clause-may : goal.returns-in-Ok-clause-may
returns-in-Ok-clause-may g c =
    subst (λ (course : Course). MayStep course c.args.node) c.self.view_is
    (may-step c.self.inside.net.now c.nodes.ensures.network c.self.inside.arrivals.now c.self.inside.parts c.self.inside.kept c.self.inside.spent c.self.invariant.sound c.if-self.false c.args.node c.index.result.now (omega (arith, c.nodes.ensures.value)) c.index.ensures (wants-more c.index.result.now c.want.result c.is_done.result c.want.ensures c.if-is_done.false c.is_done.ensures.1))

pub returns-in-Err-clause-fault : goal.returns-in-Err-clause-fault
returns-in-Err-clause-fault g c =
    subst (λ (course : Course). MayStep course c.args.node) c.self.view_is
    (may-step c.self.inside.net.now c.nodes.ensures.network c.self.inside.arrivals.now c.self.inside.parts c.self.inside.kept c.self.inside.spent c.self.invariant.sound c.if-self.false c.args.node c.index.result.now (omega (arith, c.nodes.ensures.value)) c.index.ensures (wants-more c.index.result.now c.want.result c.is_done.result c.want.ensures c.if-is_done.false c.is_done.ensures.1))
