use Rattle.std.proofs.Common.{sym, ◌∙◌}
use Rattle.std.proofs.lemmas.Bool.{false≢true}
use Rattle.phase_plan.specs.Phases.{IsMarkedAt}
use Rattle.control_flow.proofs.MarkLaws.{all-round}
use Rattle.control_flow.proofs.lawful_rows.are_marked_between.Goals as goal

pub returns-then-are_marked : goal.returns-then-are_marked
returns-then-are_marked c =
    let round = all-round (IsMarkedAt c.args.plan.now) c.args.plan.now c.args.leaving c.args.wanted c.count-count.result c.count-count.ensures.count c.if-leaving-wanted.false in (
      (λ t. round.0 (c.are_marked-else-leaving-wanted.ensures.0 c.if-are_marked.true, c.are_marked-then-are_marked.ensures.0 t)),
      (λ all. c.are_marked-then-are_marked.ensures.1 (round.1 all).1),
    )

pub returns-else-are_marked : goal.returns-else-are_marked
returns-else-are_marked c =
    let round = all-round (IsMarkedAt c.args.plan.now) c.args.plan.now c.args.leaving c.args.wanted c.count-count.result c.count-count.ensures.count c.if-leaving-wanted.false in (
      (λ t. absurd (false≢true (sym c.if-are_marked.false ∙ t))),
      (λ all. c.are_marked-else-leaving-wanted.ensures.1 (round.1 all).0),
    )
