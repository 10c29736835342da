use Rattle.std.proofs.Common.{◌≡◌, sym, ◌∙◌, arith}
use Rattle.intersection_actor.specs.declared.records.Want.TheVariants.{Read}
use Rattle.round_decisions.proofs.HearLaws.{heard-more, heard-none, link-there}
use Rattle.round_decisions.proofs.node_turns.hear.Goals as goal

pub loop-link-init : goal.loop-link-init
loop-link-init c = record { heard = heard-none c.args.boards.now.items c.args.actor.now c.requires.want c.requires.there; of = λ net is. is }

pub index-requires : goal.index-requires
index-requires c =
    let wants : c.loop-link.actor.want ≡ Read c.in-Read.link = sym c.want.ensures ∙ c.in-Read.is in
    omega (arith, c.args.boards.now.ok.0, link-there c.args.boards.now.items c.args.actor.now c.loop-link.actor c.loop-link.invariant.heard c.in-Read.link wants)

pub loop-link-preserved : goal.loop-link-preserved
loop-link-preserved c =
    let wants : c.loop-link.actor.want ≡ Read c.in-Read.link = sym c.want.ensures ∙ c.in-Read.is in
    record {
      heard = heard-more c.args.boards.now.items c.args.actor.now c.loop-link.actor c.loop-link.invariant.heard c.in-Read.link wants c.index.result.now c.index.ensures c.read.new.actor c.in_ok-read.ensures.read;
      of = λ net is. c.in_ok-read.ensures.of net (c.loop-link.invariant.of net is);
    }
