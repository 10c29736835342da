use Rattle.std.proofs.Common.{◌≡◌, ◌+◌, ◌^◌, ◌<◌, Some, length, sym, subst, ◌∙◌, arith}
use Rattle.std.proofs.lemmas.List.{get_or_default}
use Rattle.std.specs.Prelude.{slice_get, slice_index}
use Rattle.schedule_meaning.specs.Instances.{list_at}
use Rattle.dp_certificate.specs.Certificates.{IsEntry}
use Rattle.forward_dp.specs.declared.rows.Row.{Row}
use Rattle.forward_dp.specs.Groups.{AreReachedBy, no_row}
use Rattle.forward_dp.proofs.Reaching.{arrives, kept-may, reached-more, reached-none, reached-start, waits-may}
use Rattle.forward_dp.proofs.groups.Reached.reach.Goals as goal
use Rattle.forward_dp.proofs.groups.Reached.reach.Goals.{in-Some+in_ok-take_in, in_default}

pub loop-row-init : goal.loop-row-init
loop-row-init g c = record { reached = reached-start c.args.i.now c.args.limit c.args.phase c.args.cluster.now c.args.source.now c.args.self.now c.requires.empty; remaining = c.new-remaining.ensures c.args.i.now; cost = omega arith }

pub serve_within-requires-clause-entry : goal.serve_within-requires-clause-entry
serve_within-requires-clause-entry g c =
    let n = c.loop-row.row-index in
    subst (λ (r : Row). IsEntry c.args.i.now r.entry) (get_or_default c.args.source.now n no_row _ c.loop-row-test.true ∙ sym c.row-item.is) (c.requires.source.entries n no_row c.loop-row-test.true)

pub serve_within-requires-clause-cluster : goal.serve_within-requires-clause-cluster
serve_within-requires-clause-cluster g c =
    let n = c.loop-row.row-index in
    let k = c.args.phase in
    subst (λ (r : Row). slice_get (list_at c.args.i.now.lists k) (slice_index r.entry.counts k) ≡ Some c.args.cluster.now) (get_or_default c.args.source.now n no_row _ c.loop-row-test.true ∙ sym c.row-item.is)
    (c.requires.source.next n no_row c.loop-row-test.true)

pub followed_by-order-requires : goal.followed_by-order-requires
followed_by-order-requires g c =
    let n = c.loop-row.row-index in
    record { few = subst (λ (r : Row). r.order < 4 ^ 40) (get_or_default c.args.source.now n no_row _ c.loop-row-test.true ∙ sym c.row-item.is) (c.requires.source.orders n no_row c.loop-row-test.true) }

pub take_in-requires-clause-kept : goal.take_in-requires-clause-kept
take_in-requires-clause-kept g c =
    let source = c.args.source.now in
    let n = c.loop-row.row-index in
    kept-may c.args.i.now c.args.limit c.args.phase c.args.cluster.now source n c.loop-row.self c.in-Some.served _
    (arrives c.args.i.now c.args.limit c.args.phase c.args.cluster.now source n _ c.in-Some.served c.in-Some.entry c.followed_by-order.result (get_or_default source n no_row _ c.loop-row-test.true ∙ sym c.row-item.is) c.loop-row-test.true c.in-Some.ensures.served c.in-Some.ensures.leads
    c.followed_by-order.ensures c.in-Some.ensures.bounds.reach c.in-Some.ensures.within)
    c.requires.source c.loop-row.invariant.reached

pub take_in-requires-clause-wait : goal.take_in-requires-clause-wait
take_in-requires-clause-wait g c =
    let source = c.args.source.now in
    let n = c.loop-row.row-index in
    waits-may c.args.i.now c.args.limit c.args.phase c.args.cluster.now source n c.in-Some.served _
    (arrives c.args.i.now c.args.limit c.args.phase c.args.cluster.now source n _ c.in-Some.served c.in-Some.entry c.followed_by-order.result (get_or_default source n no_row _ c.loop-row-test.true ∙ sym c.row-item.is) c.loop-row-test.true c.in-Some.ensures.served c.in-Some.ensures.leads
    c.followed_by-order.ensures c.in-Some.ensures.bounds.reach c.in-Some.ensures.within)
    c.requires.source.lawful c.requires.phase

pub loop-row-preserved : goal.loop-row-preserved
loop-row-preserved g c =
    let p = c.args.i.now in
    let k = c.args.phase in
    let cluster = c.args.cluster.now in
    let source = c.args.source.now in
    let n = c.loop-row.row-index in
    record {
      reached = elim c.match-serve_within.branch [
        | in-Some+in_ok-take_in w ↦
            subst (AreReachedBy p c.args.limit k cluster source (n + 1)) (sym w.self-is)
            (reached-more p c.args.limit k cluster source n c.loop-row.self w.take_in.new.self w.in-Some.served _
            (arrives p c.args.limit k cluster source n _ w.in-Some.served w.in-Some.entry w.followed_by-order.result (get_or_default source n no_row _ c.loop-row-test.true ∙ sym c.row-item.is) c.loop-row-test.true w.in-Some.ensures.served w.in-Some.ensures.leads
            w.followed_by-order.ensures w.in-Some.ensures.bounds.reach w.in-Some.ensures.within)
            c.loop-row.invariant.reached w.in_ok-take_in.ensures.kept w.in_ok-take_in.ensures.anew w.in_ok-take_in.ensures.fresh)
        | in_default w ↦
            subst (AreReachedBy p c.args.limit k cluster source (n + 1)) (sym w.self-is)
            (reached-none p c.args.limit k cluster source n c.loop-row.self _ (get_or_default source n no_row _ c.loop-row-test.true ∙ sym c.row-item.is) w.in_default.ensures.left c.loop-row.invariant.reached)
      ];
      remaining = c.serve_within.ensures.remaining;
      cost = omega (arith, c.loop-row.invariant.cost, c.serve_within.ensures.steps);
    }

pub returns-clause-reached : goal.returns-clause-reached
returns-clause-reached g c =
    let all : c.loop-row.row-index ≡ length c.args.source.now = omega arith in
    subst (λ n. AreReachedBy c.args.i.now c.args.limit c.args.phase c.args.cluster.now c.args.source.now n c.loop-row.self) all c.loop-row.invariant.reached
