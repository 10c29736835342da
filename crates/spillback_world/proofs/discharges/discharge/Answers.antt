use Rattle.std.proofs.Common.{subst, add-one, sym, arith}
use Rattle.spillback_world.specs.Steps.{HaveDischarged}
use Rattle.spillback_world.proofs.Discharging.{discharged-more, discharged-none}
use Rattle.spillback_world.proofs.discharges.discharge.Goals as goal

pub loop-l-init : goal.loop-l-init
loop-l-init c = discharged-none c.args.site.now.net.now c.args.site.now.store.now c.args.site.now.rates.now _ _ _ _ c.requires.links c.requires.held

pub loop-l-preserved : goal.loop-l-preserved
loop-l-preserved c =
    subst (λ n. HaveDischarged c.args.site.now.net.now c.args.site.now.store.now c.args.site.now.rates.now n c.args.leaving.now c.args.queues.now c.args.entering.now c.args.held.now c.discharge_link.new.leaving c.discharge_link.new.queues c.discharge_link.new.entering c.discharge_link.new.held) (sym (add-one c.loop-l.l))
    (discharged-more c.args.site.now.net.now c.args.site.now.store.now c.args.site.now.rates.now _ _ _ _ c.requires.left c.loop-l.l (omega (arith, c.loop-l-test.true, c.links-l-end.ensures)) _ _ _ _ c.loop-l.invariant _ _ _ _ c.discharge_link.ensures)
