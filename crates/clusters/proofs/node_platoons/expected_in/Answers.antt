use Rattle.std.proofs.Common.{◌∙◌, ap, subst, sym, arith, length}
use Rattle.clusters.specs.Steps.{IsAge}
use Rattle.clusters.specs.Options.{with_hold}
use Rattle.clusters.proofs.AskedLaws.{asked-expected, asked-sound, held-length}
use Rattle.clusters.proofs.SeenLaws.{written}
use Rattle.clusters.proofs.node_platoons.expected_in.Goals as goal

pub hold_in-requires : goal.hold_in-requires
hold_in-requires c =
    rw c.as_mut_slice.ensures.value
    (asked-sound c.asked_of-asked.result.age c.asked_of-asked.result.rate c.asked_of-asked.result.split c.args.net.now c.args.node c.args.phase c.args.sensed.now c.args.heard.now c.in_ok-list.list.items
    c.asked_of-asked.ensures.network c.requires.sensed.now c.requires.node c.requires.phase
    (subst IsAge (sym c.asked_of-asked.ensures.age) c.asked_of-asked.ensures.network.outline.run.age) c.in_ok-list.ensures).clusters

pub returns : goal.returns
returns c =
    let kept = c.hold_in.ensures ∙ ap (with_hold c.args.net.now c.args.head.now c.args.phase) c.as_mut_slice.ensures.value in
    asked-expected c.args.net.now c.args.node c.args.phase c.args.head.now c.args.sensed.now c.args.heard.now c.asked_of-asked.result.age c.asked_of-asked.result.rate c.asked_of-asked.result.split c.in_ok-list.list.items _
    c.asked_of-asked.ensures.age c.asked_of-asked.ensures.rate c.asked_of-asked.ensures.split c.in_ok-list.ensures
    (written c.in_ok-list.list.items c.hold_in.new.list c.in_ok-list.list.len (omega arith)
    (omega (arith, ap length kept, held-length c.args.net.now c.args.head.now c.args.phase c.in_ok-list.list.items)) ∙ kept)
