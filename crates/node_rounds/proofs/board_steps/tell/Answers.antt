use Rattle.std.proofs.Common.{refl, subst, sym, ◌∙◌}
use Rattle.node_rounds.specs.Nodes.{HasTold}
use Rattle.node_rounds.proofs.TellLaws.{among-more, call-left, goes-by, told-more, told-none, wants-link}
use Rattle.node_rounds.proofs.board_steps.tell.Goals as goal

pub loop-link-init : goal.loop-link-init
loop-link-init g c = record {
  told = told-none c.args.setting.now.net.now c.args.actor.now c.args.pass.now c.requires.want;
  of = c.requires.of;
  same = (refl, refl);
}

pub publish-requires-clause-want : goal.publish-requires-clause-want
publish-requires-clause-want g c κs within =
    wants-link c.args.setting.now.net.now c.exit_links-link-items.result.now c.loop-link.link-index _ c.loop-link-test.true c.number.result c.exit_links-link-items.ensures.value
    (goes-by c.args.setting.now.net.now _ c.link.result c.is_none.result c.link.ensures.value c.is_none.ensures c.if-is_none.false) c.args.actor.now c.loop-link.actor c.args.pass.now c.loop-link.pass
    (sym (c.number.ensures.value ∙ c.requires.number)) c.loop-link.invariant.told

pub publish-requires-clause-left : goal.publish-requires-clause-left
publish-requires-clause-left g c κs within =
    call-left c.args.setting.now.net.now c.exit_links-link-items.result.now c.loop-link.link-index _ c.loop-link-test.true c.number.result c.exit_links-link-items.ensures.value
    (goes-by c.args.setting.now.net.now _ c.link.result c.is_none.result c.link.ensures.value c.is_none.ensures c.if-is_none.false) c.args.actor.now c.loop-link.actor c.args.pass.now c.loop-link.pass
    (sym (c.number.ensures.value ∙ c.requires.number)) c.loop-link.invariant.told c.requires.left

pub loop-link-preserved : goal.loop-link-preserved
loop-link-preserved g c =
    let net = c.args.setting.now.net.now in
    let exits = c.exit_links-link-items.result.now in
    let k = c.loop-link.link-index in
    let i = c.loop-link.invariant in
    let goes_there = goes-by net _ c.link.result c.is_none.result c.link.ensures.value c.is_none.ensures c.if-is_none.false in
    let some = call-left net exits k _ c.loop-link-test.true c.number.result c.exit_links-link-items.ensures.value goes_there c.args.actor.now c.loop-link.actor c.args.pass.now c.loop-link.pass
    (sym (c.number.ensures.value ∙ c.requires.number)) i.told c.requires.left in
    let sent = c.in_ok-publish.ensures in
    record {
      told = subst (HasTold net c.args.actor.now c.publish.new.actor c.args.pass.now c.publish.new.pass) (sym (among-more net exits k _ c.loop-link-test.true goes_there))
          (told-more net c.args.actor.now c.loop-link.actor c.publish.new.actor c.args.pass.now c.loop-link.pass c.publish.new.pass _ _ i.told sent.sent some);
      of = sent.of;
      same = (sent.same.0 ∙ i.same.0, sent.same.1 ∙ i.same.1);
    }
