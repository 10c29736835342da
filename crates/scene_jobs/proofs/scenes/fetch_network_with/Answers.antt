use Rattle.std.proofs.Common.{subst}
use Rattle.outside_world.specs.Shelf.{ShelfState}
use Rattle.scene_jobs.specs.Kinds.{NetworkText}
use Rattle.commands.specs.Stops.{StopsAt}
use Rattle.commands.specs.Texts.{IsIn}
use Rattle.scene_jobs.specs.Meanings.{two_texts}
use Rattle.commands.specs.declared.refusals.TextPlace.TheVariants.{First, Second}
use Rattle.commands.proofs.Stopping.{stopped, stops}
use Rattle.scene_jobs.proofs.scenes.fetch_network_with.Goals as goal

pub returns-in_err-network-clause-refused : goal.returns-in_err-network-clause-refused
returns-in_err-network-clause-refused g c =
    let texts = two_texts g.K.TextKind.kind c.args.net.now c.args.second.now in
    stopped texts _ _ c.from_residual.result c.in_err-network.field-0.0
    (stops texts First NetworkText c.args.net.now _ _ c.in_err-network.field-0.0 (λ here at. at) c.in_err-network.ensures.refused) c.from_residual.ensures.1

pub returns-in_err-value-clause-refused : goal.returns-in_err-value-clause-refused
returns-in_err-value-clause-refused g c =
    let read = c.in_ok-network in
    let kind = g.K.TextKind.kind read.network in
    let texts = two_texts g.K.TextKind.kind c.args.net.now c.args.second.now in
    let stop = subst (λ (s : ShelfState). StopsAt c.in_err-value.field-0.0 Second kind c.args.second.now s (g.S.Shelf.state c.fetch-2.new.shelf)) read.ensures.ok c.in_err-value.ensures.refused in
    stopped texts _ _ c.from_residual-in_err-value.result c.in_err-value.field-0.0
    (stops texts Second kind c.args.second.now _ _ c.in_err-value.field-0.0 (λ here at. (read.network, read.ensures.text, at)) stop) c.from_residual-in_err-value.ensures.1

pub returns-clause-texts : goal.returns-clause-texts
returns-clause-texts g c =
    let read = c.in_ok-network in
    let other = c.in_ok-value in
    (read.ensures.text, (subst (λ (s : ShelfState). IsIn s.files c.args.second.now (g.K.TextKind.kind read.network) (g.K.TextKind.said read.network other.value)) read.ensures.ok other.ensures.text, tt))
