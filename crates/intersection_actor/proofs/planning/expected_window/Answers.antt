use Rattle.intersection_actor.proofs.LineLaws.{expected-made}
use Rattle.intersection_actor.proofs.planning.expected_window.Goals as goal

pub returns : goal.returns
returns c =
    let made = c.in_ok-lists.ensures in
    expected-made c.args.net.now c.args.node c.args.head.now c.args.sensed.now c.args.heard.now c.in_ok-lists.lists.items c.window.result made.platoons
    c.window.ensures.window (c.window.ensures.node c.args.net.now c.args.node c.args.sensed.now.now made.node) (c.window.ensures.clusters made.clusters)
