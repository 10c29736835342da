use Rattle.std.proofs.Common.{◌≡◌, ◌+◌, ◌≤◌, All, List, OnOk, length, vec_capacity, vec_len, sym, ap, subst, ◌∙◌, arith}
use Rattle.std.proofs.lemmas.List.{length-map}
use Rattle.arrivals.specs.Amounts.{Amounts, AreArrivals}
use Rattle.link_boards.specs.Passes.{AreAllPasses, BoardsView, PassView}
use Rattle.intersection_actor.specs.Acting.{Acting}
use Rattle.net_parts.specs.Numbers.{Net}
use Rattle.node_rounds.specs.Rounds.{AreSamePasses, Between}
use Rattle.node_rounds.proofs.FreshPasses.{left-at}
use Rattle.node_rounds.proofs.Passes.{own-same, same-length}
use Rattle.node_rounds.proofs.Starting.{at-first}
use Rattle.node_rounds.proofs.ThreadRuns.{are-steps, is-run-of, merge-lawful}
use Rattle.runs.specs.Ending.{records_in}
use Rattle.runs.proofs.EndedRecords.{last-room}
use Rattle.net_threads.specs.Rounds.{AreAt}
use Rattle.net_threads.specs.Tasks.{actor_of, actors_in, pass_of, passes_in}
use Rattle.net_threads.proofs.TaskLists.{same-count}
use Rattle.net_threads.proofs.network_runs.run_in_threads.Goals as goal

pub run-rounds-requires-after_bounds : goal.run-rounds-requires-after_bounds
run-rounds-requires-after_bounds g c κs within =
    let made = c.in_ok-rounds.ensures in
    let r = c.in_ok-rounds.rounds in
    let refs = made.refs in
    record {
      at = record {
        arrivals = subst (λ (z : Net × Amounts). AreArrivals z.0 z.1) (λ i. (sym refs.0 i, sym refs.1 i)) c.requires.arrivals;
        links = subst (λ (z : Net × BoardsView). z.1.links ≡ length z.0.link_names) (λ i. (sym refs.0 i, sym refs.2 i)) c.requires.links;
        tasks = subst (λ (z : Net × BoardsView × List (Net × BoardsView)). All (λ (s : Net × BoardsView). (s.0 ≡ z.0) × (s.1 ≡ z.1)) z.2) (λ i. (sym refs.0 i, sym refs.2 i, sym c.trade.ensures.settings i)) made.of;
        between = subst (λ (z : Net × Amounts × BoardsView × List PassView × List Acting). Between z.0 z.1 z.2 0 z.3 z.4 r.world r.plans)
            (λ i. (sym refs.0 i, sym refs.1 i, sym refs.2 i, sym c.trade.ensures.passes.0 i, sym c.trade.ensures.actors i))
            (at-first c.args.net.now c.args.arrivals.now c.args.boards.now c.args.passes.now (actors_in r.nodes.all.items) r.world made.new made.second made.stands c.requires.nodes c.requires.passes c.requires.fresh
            (left-at c.args.net.now c.args.passes.now c.requires.left c.requires.nodes) r.plans made.plans made.capacity);
      };
      count = omega (arith, c.in_ok-pool.ensures, c.nodes-nodes.ensures.value, made.new.all, length-map r.nodes.all.items actor_of, same-count r.nodes.all.items c.trade.new.self.all.items c.trade.ensures.actors);
    }

pub trade-requires-2 : goal.trade-requires-2
trade-requires-2 g c =
    let old = c.in_ok-rounds.rounds.nodes.all.items in
    let new = c.trade.new.self.all.items in
    let out = c.run-rounds.result.0.nodes.all in
    omega (
      arith,
      ap length c.trade.ensures.passes.1,
      length-map old pass_of,
      same-count old new c.trade.ensures.actors,
      length-map new pass_of,
      same-length (passes_in new) (passes_in out.items) c.run-rounds.ensures.same.passes,
      length-map out.items pass_of,
      out.ok.0,
    )

pub returns-in_err-ended-clause-passes : goal.returns-in_err-ended-clause-passes
returns-in_err-ended-clause-passes g c =
    let out = passes_in c.run-rounds.result.0.nodes.all.items in
    subst (AreAllPasses c.args.boards.now) (sym c.trade-2.ensures.passes.1)
    (own-same c.args.boards.now c.args.passes.now out (subst (λ (l : List PassView). AreSamePasses l out) c.trade.ensures.passes.0 c.run-rounds.ensures.same.passes) c.requires.passes)

-- the rounds are over, for the passes and the actors that are left
over : (g : _) (c : goal.After-drop-world-inside-8 g) → Between c.args.net.now c.args.arrivals.now c.args.boards.now c.args.net.now.run.rounds c.trade-2.new.passes c.into_actors.result.items c.run-rounds.result.0.world c.run-rounds.result.0.plans
over g c =
    let o = c.run-rounds.result.0 in
    let same = c.run-rounds.ensures.same in
    let refs = c.in_ok-rounds.ensures.refs in
    let at : AreAt c.in_ok-rounds.rounds.net.now.run.rounds o = subst (λ r. OnOk r (AreAt c.in_ok-rounds.rounds.net.now.run.rounds o)) c.in_ok-ended.was c.run-rounds.ensures.at in
    subst (λ (z : Net × Amounts × BoardsView × Net × List PassView × List Acting). Between z.0 z.1 z.2 z.3.run.rounds z.4 z.5 o.world o.plans)
    (λ i. (
      (ap (λ x. x.now) same.net ∙ refs.0) i,
      (ap (λ x. x.now) same.arrivals ∙ refs.1) i,
      (ap (λ x. x.now) same.boards ∙ refs.2) i,
      refs.0 i,
      sym c.trade-2.ensures.passes.1 i,
      sym (c.into_actors.ensures ∙ c.trade-2.ensures.actors) i,
    )) at.between

pub record_of-requires-clause-plans : goal.record_of-requires-clause-plans
record_of-requires-clause-plans g c =
    let o = c.run-rounds.result.0 in
    let rounds = c.in_ok-rounds.rounds.net.now.run.rounds in
    let at : AreAt rounds o = subst (λ r. OnOk r (AreAt rounds o)) c.in_ok-ended.was c.run-rounds.ensures.at in
    subst (λ (l : List Acting). vec_len o.plans + length (records_in l) ≤ vec_capacity o.plans) (sym (c.into_actors.ensures ∙ c.trade-2.ensures.actors))
    (last-room o.net.now at.between.made rounds (actors_in o.nodes.all.items) at.between.all at.between.rests o.plans)

pub returns-clause-steps : goal.returns-clause-steps
returns-clause-steps g c = λ node. are-steps c.args.net.now c.nodes-nodes.ensures.network c.args.arrivals.now c.args.boards.now c.trade-2.new.passes c.into_actors.result.items c.run-rounds.result.0.world c.run-rounds.result.0.plans (over g c) c.record_of.result c.record_of.ensures node

pub returns-clause-lawful : goal.returns-clause-lawful
returns-clause-lawful g c = merge-lawful c.args.net.now c.nodes-nodes.ensures.network c.args.arrivals.now c.args.boards.now c.trade-2.new.passes c.into_actors.result.items c.run-rounds.result.0.world c.run-rounds.result.0.plans (over g c) c.law_of_merged_calls.ensures.lawful

pub returns-clause-run : goal.returns-clause-run
returns-clause-run g c =
    is-run-of c.args.net.now c.nodes-nodes.ensures.network c.args.arrivals.now c.args.boards.now c.trade-2.new.passes c.into_actors.result.items c.run-rounds.result.0.world c.run-rounds.result.0.plans (over g c)
    c.law_of_merged_calls.ensures.lawful c.law_of_merged_calls.ensures.stands c.law_of_runs.ensures.kept c.record_of.result c.record_of.ensures
