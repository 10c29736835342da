use Rattle.std.proofs.lemmas.Result.{IfOk-weaker}
use Rattle.std.proofs.Common.{◌≡◌, ◌++◌, ℕ, List, Vec, Global, ap, sym, subst, ◌∙◌}
use Rattle.delay_report.specs.Reports.{outcome_records, records_text, report_text}
use Rattle.delay_report.specs.Texts.{IsHistoryText}
use Rattle.delay_report.proofs.RenderLaws.{both-parts}
use Rattle.delay_report.proofs.ReportLaws.{reads-back}
use Rattle.delay_report.proofs.reports.render.Goals as goal

pub returns-clause-text : goal.returns-clause-text
returns-clause-text c =
    let net = c.args.net.now in
    IfOk-weaker c.render_outcome.result (λ (text : Vec ℕ Global). text.items ≡ c.in_ok-steps.steps.items ++ records_text (outcome_records net c.args.run.now)) (λ (text : Vec ℕ Global). text.items ≡ report_text net c.args.run.now c.args.h.now)
    (λ text is. is ∙ ap (λ l. l ++ records_text (outcome_records net c.args.run.now)) c.in_ok-steps.ensures.text ∙ both-parts net c.args.run.now c.args.h.now)
    c.render_outcome.ensures

pub returns-clause-history : goal.returns-clause-history
returns-clause-history c =
    IfOk-weaker c.render_outcome.result (λ (text : Vec ℕ Global). text.items ≡ report_text c.args.net.now c.args.run.now c.args.h.now) (λ (text : Vec ℕ Global). IsHistoryText c.args.net.now text.items c.args.h.now)
    (λ text is. subst (λ (bytes : List ℕ). IsHistoryText c.args.net.now bytes c.args.h.now) (sym is) (reads-back c.args.net.now c.in_ok-steps.ensures.network c.args.run.now c.args.h.now c.requires.lawful))
    (returns-clause-text c)
