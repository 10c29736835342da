use Rattle.std.proofs.Common.{◌+◌, ◌<◌, ◌∷◌, [], length, get_or, set, sym, ap, ◌∙◌, subst, arith, OnOk}
use Rattle.delay_report.specs.Walks.{link_of}
use Rattle.world_records.specs.Written.{Adds}
use Rattle.delay_report.proofs.WalkLaws.{below, in-taken, made-few, made-is, published-record, stands-published, stands-read, taken-few, taken-is}
use Rattle.std.proofs.lemmas.Result.{on_ok_weaker}
use Rattle.delay_report.proofs.steps.write_step.Goals as goal

pub index_mut-requires : goal.index_mut-requires
index_mut-requires c = omega (arith, in-taken c.args.net.now c.args.nodes.now c.requires.lawful c.args.place c.requires.inside c.args.walk.now c.requires.stands, c.args.walk.now.taken.ok.0)

pub overflow_add-index_mut : goal.overflow_add-index_mut
overflow_add-index_mut c = omega (arith, taken-few c.args.net.now c.args.nodes.now c.requires.lawful c.args.place c.requires.inside c.args.walk.now c.requires.stands c.index_mut.result.now c.index_mut.ensures.value)

pub write_fields-requires-clause-node : goal.write_fields-requires-clause-node
write_fields-requires-clause-node c = below c.args.net.now c.args.nodes.now c.requires.lawful c.args.place c.requires.inside c.args.walk.now c.requires.stands

pub overflow_add-version : goal.overflow_add-version
overflow_add-version c = omega (arith, made-few c.args.net.now c.args.nodes.now c.requires.lawful c.args.place c.requires.inside c.args.walk.now c.requires.stands c.in-Publish.link c.index-in-Publish.result.now (subst (λ s. link_of s < length c.args.net.now.link_names) c.in-Publish.is c.next_step-round.ensures.link) c.index-in-Publish.ensures)

pub write_fields-requires-in-Publish-clause-node : goal.write_fields-requires-in-Publish-clause-node
write_fields-requires-in-Publish-clause-node c = below c.args.net.now c.args.nodes.now c.requires.lawful c.args.place c.requires.inside c.args.walk.now c.requires.stands

pub returns-in-Read-clause-stands : goal.returns-in-Read-clause-stands
returns-in-Read-clause-stands c = on_ok_weaker c.write_fields.result (λ adds. stands-read c.args.net.now c.args.nodes.now c.requires.lawful c.args.place c.requires.inside c.args.walk.now c.requires.stands _ (ap (λ k. set c.args.walk.now.taken.items (get_or c.args.nodes.now c.args.place 0) (k + 1)) (taken-is c.args.net.now c.args.nodes.now c.requires.lawful c.args.place c.requires.inside c.args.walk.now c.requires.stands c.index_mut.result.now c.index_mut.ensures.value)) c.in-Read.link (sym c.next_step-round.ensures.step ∙ c.in-Read.is)) c.write_fields.ensures

pub returns-in-Publish-clause-record : goal.returns-in-Publish-clause-record
returns-in-Publish-clause-record c =
    let same = published-record c.args.net.now c.args.nodes.now c.args.place c.next_step-round.result.0 c.in-Publish.link c.index-in-Publish.result.now c.next_step-round.ensures.round (sym c.next_step-round.ensures.step ∙ c.in-Publish.is) (made-is c.args.net.now c.args.nodes.now c.requires.lawful c.args.place c.requires.inside c.args.walk.now c.requires.stands c.in-Publish.link c.index-in-Publish.result.now (subst (λ s. link_of s < length c.args.net.now.link_names) c.in-Publish.is c.next_step-round.ensures.link) c.index-in-Publish.ensures) in
    subst (λ fields. OnOk c.write_fields-in-Publish.result (Adds c.args.out.now c.write_fields-in-Publish.new.out (fields ∷ []))) same c.write_fields-in-Publish.ensures

pub returns-in-Publish-clause-stands : goal.returns-in-Publish-clause-stands
returns-in-Publish-clause-stands c =
    let made = (made-is c.args.net.now c.args.nodes.now c.requires.lawful c.args.place c.requires.inside c.args.walk.now c.requires.stands c.in-Publish.link c.index-in-Publish.result.now (subst (λ s. link_of s < length c.args.net.now.link_names) c.in-Publish.is c.next_step-round.ensures.link) c.index-in-Publish.ensures) in
    on_ok_weaker c.write_fields-in-Publish.result (λ adds. stands-published c.args.net.now c.args.nodes.now c.requires.lawful c.args.place c.requires.inside c.args.walk.now c.requires.stands _ (ap (λ k. set c.args.walk.now.taken.items (get_or c.args.nodes.now c.args.place 0) (k + 1)) (taken-is c.args.net.now c.args.nodes.now c.requires.lawful c.args.place c.requires.inside c.args.walk.now c.requires.stands c.index_mut.result.now c.index_mut.ensures.value)) c.in-Publish.link _ (subst (λ s. link_of s < length c.args.net.now.link_names) c.in-Publish.is c.next_step-round.ensures.link) (sym c.next_step-round.ensures.step ∙ c.in-Publish.is) (ap (λ k. set c.args.walk.now.made.items c.in-Publish.link (k + 1)) made)) c.write_fields-in-Publish.ensures
