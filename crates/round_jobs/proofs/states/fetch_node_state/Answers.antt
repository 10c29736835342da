use Rattle.std.proofs.Common.{subst}
use Rattle.outside_world.specs.Shelf.{ShelfState}
use Rattle.scene_jobs.specs.Kinds.{NetworkText}
use Rattle.scene_jobs.specs.Meanings.{two_texts}
use Rattle.round_jobs.specs.Kinds.{NodeStateText, node_state_of}
use Rattle.commands.specs.Stops.{StopsAt}
use Rattle.commands.specs.declared.refusals.TextPlace.TheVariants.{First, Second}
use Rattle.commands.proofs.Stopping.{stopped, stops}
use Rattle.round_jobs.proofs.states.fetch_node_state.Goals as goal

pub returns-in_err-network-clause-refused : goal.returns-in_err-network-clause-refused
returns-in_err-network-clause-refused g c =
    let texts = two_texts (node_state_of c.args.node.now) c.args.net.now c.args.state.now in
    stopped texts _ _ c.from_residual.result c.in_err-network.field-0.0
    (stops texts First NetworkText c.args.net.now _ _ c.in_err-network.field-0.0 (λ here at. at) c.in_err-network.ensures.refused) c.from_residual.ensures.1

pub returns-in_err-value-clause-refused : goal.returns-in_err-value-clause-refused
returns-in_err-value-clause-refused g c =
    let read = c.in_ok-network in
    let kind = node_state_of c.args.node.now read.network in
    let texts = two_texts (node_state_of c.args.node.now) c.args.net.now c.args.state.now in
    let own = subst (λ n. StopsAt c.in_err-value.field-0.0 Second (NodeStateText read.network n) c.args.state.now (g.S.Shelf.state c.fetch.new.shelf) (g.S.Shelf.state c.fetch-2.new.shelf)) c.find_node-node.ensures.value c.in_err-value.ensures.refused in
    let stop = subst (λ (s : ShelfState). StopsAt c.in_err-value.field-0.0 Second kind c.args.state.now s (g.S.Shelf.state c.fetch-2.new.shelf)) read.ensures.ok own in
    stopped texts _ _ c.from_residual-in_err-value.result c.in_err-value.field-0.0
    (stops texts Second kind c.args.state.now _ _ c.in_err-value.field-0.0 (λ here at. (read.network, read.ensures.text, at)) stop) c.from_residual-in_err-value.ensures.1
