use Rattle.std.proofs.Common.{◌+◌, max, ap, ◌∙◌, arith}
use Rattle.phase_plan.specs.declared.Phase.{Phase}
use Rattle.waits.specs.Waits.{longest_intergreen}
use Rattle.waits.proofs.TableLaws.{fold-more}
use Rattle.waits.proofs.bounds.greatest_intergreen.Goals as goal

pub loop-phase-preserved : goal.loop-phase-preserved
loop-phase-preserved c =
    let own = c.longest_intergreen.ensures.value ∙ ap (λ (p : Phase). max (p.yellow + p.clear) c.args.look) c.phase.ensures.value in
    record {
      value = c.max-greatest.ensures ∙ ap (max c.loop-phase.greatest) own ∙ fold-more (λ most k. max most (longest_intergreen c.args.plan.now c.args.look k)) c.loop-phase.phase c.loop-phase.greatest c.loop-phase.invariant.value;
      bounds = (let p = c.phase.ensures.bounds in omega (arith, c.loop-phase.invariant.bounds, p.yellow, p.clear, c.requires, c.max-greatest.ensures, c.longest_intergreen.ensures.value));
    }
