use Rattle.std.proofs.Common.{refl, ◌∙◌, arith}
use Rattle.delay_report.proofs.WalkLaws.{in-steps, in-taken, link-exists, own-is, own-few, round-is, some-own, step-is}
use Rattle.delay_report.proofs.steps.next_step.Goals as goal

pub index-requires : goal.index-requires
index-requires c = omega (arith, in-steps c.args.net.now c.args.nodes.now c.requires.lawful c.args.place c.requires.inside c.args.walk.now c.requires.stands, c.args.walk.now.steps.ok.0)

pub index-taken-requires : goal.index-taken-requires
index-taken-requires c = omega (arith, in-taken c.args.net.now c.args.nodes.now c.requires.lawful c.args.place c.requires.inside c.args.walk.now c.requires.stands, c.args.walk.now.taken.ok.0)

pub nonzero_div-result : goal.nonzero_div-result
nonzero_div-result c = some-own c.args.net.now c.args.nodes.now c.requires.lawful c.args.place c.requires.inside c.args.walk.now c.requires.stands c.as_slice-own.result.now c.index-taken.result.now (c.as_slice-own.ensures.value ∙ own-is c.args.net.now c.args.nodes.now c.requires.lawful c.args.place c.requires.inside c.args.walk.now c.requires.stands c.index.result.now c.index.ensures) c.index-taken.ensures

pub nonzero_rem-result : goal.nonzero_rem-result
nonzero_rem-result c = some-own c.args.net.now c.args.nodes.now c.requires.lawful c.args.place c.requires.inside c.args.walk.now c.requires.stands c.as_slice-own.result.now c.index-taken.result.now (c.as_slice-own.ensures.value ∙ own-is c.args.net.now c.args.nodes.now c.requires.lawful c.args.place c.requires.inside c.args.walk.now c.requires.stands c.index.result.now c.index.ensures) c.index-taken.ensures

pub offset_bounds-own-taken : goal.offset_bounds-own-taken
offset_bounds-own-taken c = omega (arith, some-own c.args.net.now c.args.nodes.now c.requires.lawful c.args.place c.requires.inside c.args.walk.now c.requires.stands c.as_slice-own.result.now c.index-taken.result.now (c.as_slice-own.ensures.value ∙ own-is c.args.net.now c.args.nodes.now c.requires.lawful c.args.place c.requires.inside c.args.walk.now c.requires.stands c.index.result.now c.index.ensures) c.index-taken.ensures, own-few c.args.net.now c.args.nodes.now c.requires.lawful c.args.place c.requires.inside c.args.walk.now c.requires.stands c.as_slice-own.result.now c.index-taken.result.now (c.as_slice-own.ensures.value ∙ own-is c.args.net.now c.args.nodes.now c.requires.lawful c.args.place c.requires.inside c.args.walk.now c.requires.stands c.index.result.now c.index.ensures) c.index-taken.ensures)

pub bounds-own-taken : goal.bounds-own-taken
bounds-own-taken c = omega (arith, some-own c.args.net.now c.args.nodes.now c.requires.lawful c.args.place c.requires.inside c.args.walk.now c.requires.stands c.as_slice-own.result.now c.index-taken.result.now (c.as_slice-own.ensures.value ∙ own-is c.args.net.now c.args.nodes.now c.requires.lawful c.args.place c.requires.inside c.args.walk.now c.requires.stands c.index.result.now c.index.ensures) c.index-taken.ensures)

pub returns-clause-round : goal.returns-clause-round
returns-clause-round c = round-is c.args.net.now c.args.nodes.now c.requires.lawful c.args.place c.requires.inside c.args.walk.now c.requires.stands c.as_slice-own.result.now c.index-taken.result.now (c.as_slice-own.ensures.value ∙ own-is c.args.net.now c.args.nodes.now c.requires.lawful c.args.place c.requires.inside c.args.walk.now c.requires.stands c.index.result.now c.index.ensures) c.index-taken.ensures _ refl

pub returns-clause-step : goal.returns-clause-step
returns-clause-step c = step-is c.args.net.now c.args.nodes.now c.requires.lawful c.args.place c.requires.inside c.args.walk.now c.requires.stands c.as_slice-own.result.now c.index-taken.result.now (c.as_slice-own.ensures.value ∙ own-is c.args.net.now c.args.nodes.now c.requires.lawful c.args.place c.requires.inside c.args.walk.now c.requires.stands c.index.result.now c.index.ensures) c.index-taken.ensures _ refl

pub returns-clause-link : goal.returns-clause-link
returns-clause-link c = link-exists c.args.net.now c.args.nodes.now c.requires.lawful c.args.place c.requires.inside c.args.walk.now c.requires.stands c.as_slice-own.result.now c.index-taken.result.now (c.as_slice-own.ensures.value ∙ own-is c.args.net.now c.args.nodes.now c.requires.lawful c.args.place c.requires.inside c.args.walk.now c.requires.stands c.index.result.now c.index.ensures) c.index-taken.ensures _ refl
