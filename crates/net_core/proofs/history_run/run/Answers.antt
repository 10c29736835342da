use Rattle.std.proofs.Common.{ℕ, List, sym, ap, subst, arith}
use Rattle.arrivals.specs.Amounts.{arriving_of}
use Rattle.histories.specs.Histories.{IsLawful}
use Rattle.runs.specs.Promises.{IsKeptRun}
use Rattle.net_core.specs.Cores.{Course}
use Rattle.net_core.proofs.Along.{gone-all, gone-more, no-fault}
use Rattle.net_core.proofs.history_run.run.Goals as goal

pub loop-node-init : goal.loop-node-init
loop-node-init g c = c.in_ok-core.ensures

pub out_of_memory-requires : goal.out_of_memory-requires
out_of_memory-requires g c =
    let net = c.args.net.now in
    let h : List ℕ = c.steps-steps.result.now in
    let place : ℕ = c.loop-node.node-index in
    let lawful : IsLawful net h = subst (IsLawful net) (sym c.steps-steps.ensures) c.requires.lawful in
    let way = c.law_of_histories.ensures.begins h place lawful (omega (arith, c.loop-node-test.true)) in
    no-fault net c.args.arrivals.now h c.law_of_network.ensures lawful place c.loop-node-test.true way.0 way.1 c.loop-node.core c.loop-node.invariant c.in-Err.fault c.in-Err.ensures.fault

pub loop-node-preserved : goal.loop-node-preserved
loop-node-preserved g c = gone-more c.args.net.now c.args.arrivals.now c.steps-steps.result.now c.loop-node.node-index c.loop-node.core c.step.new.self c.loop-node-test.true c.loop-node.invariant c.in-Ok.ensures.ok

pub finish-requires : goal.finish-requires
finish-requires g c =
    let h : List ℕ = c.steps-steps.result.now in
    let all = gone-all c.args.net.now c.args.arrivals.now h c.loop-node.node-index c.loop-node.core c.loop-node-test.false c.loop-node.invariant in
    record {
      fresh = ap (λ (x : Course). x.spent) all;
      lawful = subst (λ (x : Course). IsLawful x.net x.steps) (sym all) (subst (IsLawful c.args.net.now) (sym c.steps-steps.ensures) c.requires.lawful);
    }

pub returns : goal.returns
returns g c =
    let net = c.args.net.now in
    let arrivals = c.args.arrivals.now in
    let all = gone-all net arrivals c.steps-steps.result.now c.loop-node.node-index c.loop-node.core c.loop-node-test.false c.loop-node.invariant in
    subst (λ (h : List ℕ). IsKeptRun net (arriving_of arrivals) h c.finish.result) c.steps-steps.ensures (subst (λ (x : Course). IsKeptRun x.net (arriving_of x.arrivals) x.steps c.finish.result) all c.finish.ensures)
