use Rattle.network_jobs.proofs.Planned.{all_planned}
use Rattle.network_jobs.proofs.instance.planned_text.Goals as goal

pub returns : goal.returns
returns c =
    let run = c.in_ok-run in
    all_planned (λ text. text.items) c.args.net.now c.args.arrivals.now c.args.h.now c.args.number c.args.round run.run' c.plan.result.now c.write_instance.result
    run.ensures.kept c.plan.ensures.among c.plan.ensures.node c.plan.ensures.round c.write_instance.ensures.lawful c.write_instance.ensures.text
