use Rattle.std.proofs.Common.{◌≡◌, length, sym, ◌∙◌, arith}
use Rattle.intersection_actor.specs.declared.records.Want.TheVariants.{Publish}
use Rattle.round_decisions.proofs.TellLaws.{all-published, fewer, inside, is-below, is-done, less-left, link-there, told-more, told-none}
use Rattle.round_decisions.proofs.node_turns.tell.Goals as goal

pub loop-link-init : goal.loop-link-init
loop-link-init c = record { told = told-none c.args.net.now c.args.actor.now c.args.boards.now.items c.requires.want; of = c.requires.of }

pub index_mut-requires : goal.index_mut-requires
index_mut-requires c =
    let wants : c.loop-link.actor.want ≡ Publish c.in-Publish.link = sym c.want.ensures ∙ c.in-Publish.is in
    omega (arith, c.loop-link.boards.ok.0, link-there c.args.net.now c.law_of_network.ensures c.args.actor.now c.loop-link.actor c.args.boards.now.items c.loop-link.boards.items c.requires.count c.loop-link.invariant.told c.in-Publish.link wants)

pub publish-requires-clause-below : goal.publish-requires-clause-below
publish-requires-clause-below c =
    let wants : c.loop-link.actor.want ≡ Publish c.in-Publish.link = sym c.want.ensures ∙ c.in-Publish.is in
    is-below c.args.net.now c.law_of_network.ensures c.args.actor.now c.loop-link.actor c.args.boards.now.items c.loop-link.boards.items c.requires.count c.loop-link.invariant.told c.in-Publish.link wants c.requires.below c.index_mut.result.now c.index_mut.ensures.value

pub loop-link-preserved : goal.loop-link-preserved
loop-link-preserved c =
    let wants : c.loop-link.actor.want ≡ Publish c.in-Publish.link = sym c.want.ensures ∙ c.in-Publish.is in
    record {
      told = told-more c.args.net.now c.law_of_network.ensures c.args.actor.now c.loop-link.actor c.args.boards.now.items c.loop-link.boards.items c.requires.count c.loop-link.invariant.told c.in-Publish.link wants c.publish.new.actor c.index_mut.result.now c.publish.new.board c.index_mut.ensures.value c.in_ok-publish.ensures.told c.in_ok-publish.ensures.board;
      of = c.in_ok-publish.ensures.of;
    }

pub loop-link-smaller : goal.loop-link-smaller
loop-link-smaller c =
    let wants : c.loop-link.actor.want ≡ Publish c.in-Publish.link = sym c.want.ensures ∙ c.in-Publish.is in
    less-left (length c.args.boards.now.items) c.in-Publish.link c.loop-link.actor.want c.publish.new.actor.want wants (inside c.args.net.now c.law_of_network.ensures c.args.actor.now c.loop-link.actor c.args.boards.now.items c.loop-link.boards.items c.requires.count c.loop-link.invariant.told c.in-Publish.link wants)
    (λ other e. fewer c.args.net.now c.law_of_network.ensures c.args.actor.now c.loop-link.actor c.args.boards.now.items c.loop-link.boards.items c.requires.count c.loop-link.invariant.told c.in-Publish.link wants c.publish.new.actor c.in_ok-publish.ensures.told other e)

pub returns : goal.returns
returns c =
    let net = c.args.net.now in
    let a = c.args.actor.now in
    let old = c.args.boards.now.items in
    let told = c.loop-link.invariant.told in
    record {
      boards = all-published net c.law_of_network.ensures a c.loop-link.actor old c.loop-link.boards.items c.requires.count told (λ link e. c.in_default.not-Publish link (c.want.ensures ∙ e));
      done = is-done net c.law_of_network.ensures a c.loop-link.actor old c.loop-link.boards.items c.requires.count told (λ link e. c.in_default.not-Publish link (c.want.ensures ∙ e));
      of = c.loop-link.invariant.of;
    }
