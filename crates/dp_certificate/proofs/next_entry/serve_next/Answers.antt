use Rattle.std.proofs.Common.{get_or, ap, subst, sym, ◌∙◌, arith}
use Rattle.std.proofs.lemmas.Option.{slice_get_within}
use Rattle.switch_rules.specs.Serving.{IsServing, serving}
use Rattle.schedule_meaning.specs.Instances.{list_at}
use Rattle.dp_certificate.proofs.NextLaws.{few-listed, next-fit, next-bounds, next-served}
use Rattle.dp_certificate.proofs.Stages.{listed-cluster}
use Rattle.dp_certificate.proofs.next_entry.serve_next.Goals as goal

pub serve-requires-clause-cluster : goal.serve-requires-clause-cluster
serve-requires-clause-cluster g c = listed-cluster c.args.i.now c.args.phase (get_or c.args.entry.now.counts c.args.phase 0) c.args.cluster.now c.plan.ensures.instance c.requires.cluster

pub overflow_add-counts : goal.overflow_add-counts
overflow_add-counts g c =
    omega (
      arith,
      slice_get_within (list_at c.args.i.now.lists c.args.phase) (get_or c.args.entry.now.counts c.args.phase 0) c.args.cluster.now c.requires.cluster,
      few-listed c.args.i.now c.plan.ensures.instance c.args.phase,
    )

pub returns-clause-bounds : goal.returns-clause-bounds
returns-clause-bounds g c =
    next-bounds c.args.i.now c.args.entry.now c.args.phase c.args.cluster.now (c.in-Ok.served, c.in-Ok.next) c.plan.ensures.instance.plan.count.1 c.requires.entry (omega (arith, c.plan.ensures.instance.plan.count.1)) c.requires.cluster
    (subst (λ p. IsServing p (c.in-Ok.served, c.in-Ok.next)) c.plan.ensures.value c.in-Ok.ensures.bounds)

pub returns-clause-value : goal.returns-clause-value
returns-clause-value g c =
    next-fit c.args.i.now c.args.entry.now c.args.phase c.args.cluster.now (c.in-Ok.served, c.in-Ok.next) c.requires.cluster
    (ap (λ h. serving c.args.i.now.plan h c.args.phase c.args.cluster.now) (sym c.head_at-head.ensures) ∙ ap (λ p. serving p c.head_at-head.result c.args.phase c.args.cluster.now) (sym c.plan.ensures.value) ∙ sym c.serve.ensures.value ∙ c.in-Ok.is)

pub returns-clause-served : goal.returns-clause-served
returns-clause-served g c =
    next-served c.args.i.now c.args.entry.now c.args.phase c.args.cluster.now (c.in-Ok.served, c.in-Ok.next)
    (ap (λ h. serving c.args.i.now.plan h c.args.phase c.args.cluster.now) (sym c.head_at-head.ensures) ∙ ap (λ p. serving p c.head_at-head.result c.args.phase c.args.cluster.now) (sym c.plan.ensures.value) ∙ sym c.serve.ensures.value ∙ c.in-Ok.is)
