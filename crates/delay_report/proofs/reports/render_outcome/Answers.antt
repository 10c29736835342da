use Rattle.std.proofs.lemmas.Result.{IfOk-weaker}
use Rattle.std.proofs.Common.{◌≡◌, ◌++◌, Vec, Global, ℕ, subst}
use Rattle.delay_report.specs.Reports.{outcome_records, records_text}
use Rattle.world_records.specs.Written.{HasWritten}
use Rattle.delay_report.proofs.RenderLaws.{nodes-exist, outcome-parts}
use Rattle.delay_report.proofs.reports.render_outcome.Goals as goal

pub write_plans-requires-clause-nodes : goal.write_plans-requires-clause-nodes
write_plans-requires-clause-nodes c = rw c.as_slice.ensures (nodes-exist c.args.net.now c.args.run.now c.requires)

pub returns : goal.returns
returns c =
    IfOk-weaker c.finish.result _ (λ (all : Vec ℕ Global). all.items ≡ c.args.text.items ++ records_text (outcome_records c.args.net.now c.args.run.now))
    (λ all says. says (c.args.text.items ++ records_text (outcome_records c.args.net.now c.args.run.now))
    (outcome-parts c.args.net.now c.args.run.now c.args.text.items c.as_slice.result.now c.as_slice-lines.result.now c.as_slice-links.result.now
    c.start-out.result c.write_plans.new.out c.write_shown.new.out c.as_slice.ensures c.as_slice-lines.ensures c.as_slice-links.ensures
    (subst (HasWritten c.start-out.result) c.in_ok-reserve.ensures.items c.start-out.ensures) c.in_ok-write_plans.ensures c.in_ok-write_shown.ensures.records))
    c.finish.ensures
