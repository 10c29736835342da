use Rattle.std.proofs.Common.{subst}
use Rattle.dp_certificate.specs.Proves.{stage_of_entry}
use Rattle.forward_dp.specs.Completions.{IsBestBelow}
use Rattle.forward_dp.specs.declared.completions.Completion.TheVariants.{Never, Complete}
use Rattle.forward_dp.proofs.CompletedEntries.{bounds-here, entry-here, not-true}
use Rattle.forward_dp.proofs.Completing.{begin-complete, begin-never}
use Rattle.forward_dp.proofs.completions.before_any.Goals as goal

pub is_all_served-requires : goal.is_all_served-requires
is_all_served-requires c = (bounds-here c.args.i.now c.requires.lawful c.args.entries.now c.requires.whole c.args.place _ c.requires.place).counts

pub returns-then-is_all_served : goal.returns-then-is_all_served
returns-then-is_all_served c all =
    subst (λ e. IsBestBelow c.args.i.now all (stage_of_entry c.args.i.now e) 0 Complete) (entry-here c.args.i.now c.requires.lawful c.args.entries.now c.requires.whole c.args.place _ c.requires.place)
    (begin-complete c.args.i.now all _ (c.is_all_served.ensures.0 c.if-is_all_served.true))

pub returns-else-is_all_served : goal.returns-else-is_all_served
returns-else-is_all_served c all =
    subst (λ e. IsBestBelow c.args.i.now all (stage_of_entry c.args.i.now e) 0 Never) (entry-here c.args.i.now c.requires.lawful c.args.entries.now c.requires.whole c.args.place _ c.requires.place)
    (begin-never c.args.i.now all _ (not-true c.is_all_served.result c.if-is_all_served.false c.is_all_served.ensures.1))
