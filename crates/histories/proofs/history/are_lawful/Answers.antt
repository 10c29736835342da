use Rattle.std.proofs.Common.{ℕ, ◌+◌, List, sym, subst, ◌∙◌, take, drop}
use Rattle.std.proofs.lemmas.Bool.{false≢true}
use Rattle.std.proofs.lemmas.List.{take_more}
use Rattle.histories.specs.Progress.{HasCome}
use Rattle.histories.proofs.HowFar.{at-err, at-ok, lawful-cut}
use Rattle.histories.proofs.history.are_lawful.Goals as goal

pub returns-then-is_err : goal.returns-then-is_err
returns-then-is_err c =
    let nodes : List ℕ = c.args.nodes.now in
    let i : ℕ = c.loop-node.node-index in (
      (λ t. absurd (false≢true t)),
      (λ all. absurd (
          at-err c.take.result _ c.take.ensures.stuck (sym c.is_err.ensures.value ∙ c.if-is_err.true) c.args.net.now (take i nodes) c.loop-node.invariant (drop (i + 1) nodes)
          (lawful-cut c.args.net.now nodes i c.loop-node-test.true all))),
    )

pub loop-node-preserved : goal.loop-node-preserved
loop-node-preserved c =
    let nodes : List ℕ = c.args.nodes.now in
    let i : ℕ = c.loop-node.node-index in
    subst (λ (l : List ℕ). HasCome c.args.net.now l c.take.new.self) (sym (take_more nodes i 0 c.loop-node-test.true))
    (at-ok c.take.result _ c.take.ensures.ok (sym c.is_err.ensures.value ∙ c.if-is_err.false) c.args.net.now (take i nodes) c.loop-node.invariant)
