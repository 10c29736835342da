use Rattle.std.proofs.Common.{◌+◌, get_or, drop, subst}
use Rattle.std.proofs.lemmas.List.{drop_all}
use Rattle.schedule_meaning.proofs.Underway.{Lists, Lists-start, Lists-more, Lists-left, Lists-fits, Lists-next, Lists-end}
use Rattle.schedule_meaning.proofs.listing.list_servings.Goals as goal

pub loop-phase-init : goal.loop-phase-init
loop-phase-init g c = rw (c.count-2.ensures, c.head-head.ensures.value, c.in_ok-list.ensures.items) (Lists-start c.args.i.now c.args.seq.now c.plan.ensures.instance c.requires)

pub next_cluster-cluster-requires-clause-some : goal.next_cluster-cluster-requires-clause-some
next_cluster-cluster-requires-clause-some g c =
    let l = c.loop-phase in
    let seq = c.args.seq.now in
    Lists-left c.args.i.now seq l.left l.head l.list.items (get_or seq l.phase-index 0) (drop (l.phase-index + 1) seq)
    (Lists-more c.args.i.now seq l.left l.head l.list.items l.phase-index c.loop-phase-test.true l.invariant)

pub overflow_sub-left : goal.overflow_sub-left
overflow_sub-left g c =
    let l = c.loop-phase in
    let seq = c.args.seq.now in
    Lists-left c.args.i.now seq l.left l.head l.list.items (get_or seq l.phase-index 0) (drop (l.phase-index + 1) seq)
    (Lists-more c.args.i.now seq l.left l.head l.list.items l.phase-index c.loop-phase-test.true l.invariant)

pub unwrap-requires : goal.unwrap-requires
unwrap-requires g c =
    let l = c.loop-phase in
    let seq = c.args.seq.now in
    Lists-fits c.args.i.now seq l.left l.head l.list.items (get_or seq l.phase-index 0) (drop (l.phase-index + 1) seq) c.next_cluster-cluster.result.now c.plan-in-loop-phase.result.now c.serve.result
    (Lists-more c.args.i.now seq l.left l.head l.list.items l.phase-index c.loop-phase-test.true l.invariant) c.next_cluster-cluster.ensures.value c.serve.ensures.value c.plan-in-loop-phase.ensures.value

pub loop-phase-preserved : goal.loop-phase-preserved
loop-phase-preserved g c =
    let l = c.loop-phase in
    let seq = c.args.seq.now in
    rw c.in_ok-push.ensures.items
    (Lists-next c.args.i.now seq l.left l.head l.list.items (get_or seq l.phase-index 0) (drop (l.phase-index + 1) seq) c.next_cluster-cluster.result.now c.plan-in-loop-phase.result.now c.serve.result c.unwrap.result
    (Lists-more c.args.i.now seq l.left l.head l.list.items l.phase-index c.loop-phase-test.true l.invariant)
    c.next_cluster-cluster.ensures.value c.serve.ensures.value c.plan-in-loop-phase.ensures.value c.unwrap.ensures c.serve.ensures.bounds)

pub returns : goal.returns
returns g c =
    let l = c.loop-phase in
    Lists-end c.args.i.now c.args.seq.now l.left l.head l.list.items
    (subst (Lists c.args.i.now c.args.seq.now l.left l.head l.list.items) (drop_all l.phase-index c.args.seq.now c.loop-phase-test.false) l.invariant)
