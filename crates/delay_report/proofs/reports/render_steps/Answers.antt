use Rattle.std.proofs.lemmas.Result.{IfOk-weaker}
use Rattle.std.proofs.Common.{◌≡◌, Vec, Global, ℕ, subst}
use Rattle.delay_report.specs.Reports.{records_text, steps_records}
use Rattle.world_records.specs.Written.{HasWritten}
use Rattle.delay_report.proofs.RenderLaws.{front-parts}
use Rattle.delay_report.proofs.reports.render_steps.Goals as goal

pub returns-clause-text : goal.returns-clause-text
returns-clause-text c =
    IfOk-weaker c.finish.result _ (λ (text : Vec ℕ Global). text.items ≡ records_text (steps_records c.args.net.now c.args.h.now))
    (λ text says. says (records_text (steps_records c.args.net.now c.args.h.now))
    (front-parts c.args.net.now c.args.h.now c.steps-2.result.now c.start-out.result c.write_header.new.out c.write_steps.new.out c.steps-2.ensures (subst (HasWritten c.start-out.result) c.in_ok-with_capacity.ensures.items c.start-out.ensures) c.in_ok-write_header.ensures c.in_ok-write_steps.ensures.records))
    c.finish.ensures
