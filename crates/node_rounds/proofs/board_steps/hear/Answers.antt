use Rattle.std.proofs.Common.{◌≡◌, sym, ◌∙◌, arith}
use Rattle.intersection_actor.specs.declared.records.Want.TheVariants.{Read}
use Rattle.node_rounds.proofs.HearLaws.{call-left, heard-more, link-there}
use Rattle.node_rounds.proofs.board_steps.hear.Goals as goal

pub read-requires-clause-link : goal.read-requires-clause-link
read-requires-clause-link g c =
    let i = c.loop-link.invariant in
    let wants : c.loop-link.actor.want ≡ Read c.in-Read.link = sym c.want.ensures ∙ c.in-Read.is in
    let there = link-there c.args.actor.now c.loop-link.actor c.args.pass.now c.loop-link.pass i.heard c.in-Read.link wants c.args.setting.now.net.now c.law_of_network.ensures c.requires.begun.0 in
    omega (arith, there, c.requires.links)

pub loop-link-preserved : goal.loop-link-preserved
loop-link-preserved g c =
    let i = c.loop-link.invariant in
    let a = c.args.actor.now in
    let b = c.loop-link.actor in
    let p = c.args.pass.now in
    let q = c.loop-link.pass in
    let wants : c.loop-link.actor.want ≡ Read c.in-Read.link = sym c.want.ensures ∙ c.in-Read.is in
    let some = call-left a b p q i.heard c.in-Read.link wants c.args.setting.now.net.now c.law_of_network.ensures c.requires.begun.0 c.requires.left in
    let read = c.in_ok-read.ensures in
    record {
      heard = heard-more a b p q i.heard c.in-Read.link wants c.read.new.actor c.read.new.pass read.read some;
      of = read.of c.args.setting.now.net.now i.of;
      same = (read.same.0 ∙ i.same.0, read.same.1 ∙ i.same.1);
    }
