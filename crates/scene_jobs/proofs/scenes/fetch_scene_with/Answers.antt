use Rattle.std.proofs.Common.{subst}
use Rattle.arrivals.specs.Amounts.{arriving_of}
use Rattle.outside_world.specs.Shelf.{ShelfState}
use Rattle.commands.specs.Stops.{StopsAt}
use Rattle.commands.specs.Texts.{IsIn}
use Rattle.scene_jobs.specs.Meanings.{three_texts}
use Rattle.commands.specs.declared.refusals.TextPlace.TheVariants.{Third}
use Rattle.commands.proofs.Stopping.{stopped, stops}
use Rattle.scene_jobs.proofs.EarlyStops.{early_stops}
use Rattle.scene_jobs.proofs.scenes.fetch_scene_with.Goals as goal

pub returns-in_err-scene-clause-refused : goal.returns-in_err-scene-clause-refused
returns-in_err-scene-clause-refused g c =
    stopped (three_texts g.K.TextKind.kind c.args.net.now c.args.arr.now c.args.third.now) _ _ c.from_residual.result _
    (early_stops g.K.TextKind.kind _ _ c.args.net.now c.args.arr.now c.args.third.now _ c.in_err-scene.ensures.refused) c.from_residual.ensures.1

pub returns-in_err-value-clause-refused : goal.returns-in_err-value-clause-refused
returns-in_err-value-clause-refused g c =
    let made = c.in_ok-scene in
    let scene = made.scene in
    let kind = g.K.TextKind.kind scene.network in
    let texts = three_texts g.K.TextKind.kind c.args.net.now c.args.arr.now c.args.third.now in
    let stop = subst (λ (s : ShelfState). StopsAt c.in_err-value.field-0.0 Third kind c.args.third.now s (g.S.Shelf.state c.fetch.new.shelf)) made.ensures.ok c.in_err-value.ensures.refused in
    stopped texts _ _ c.from_residual-in_err-value.result c.in_err-value.field-0.0
    (stops texts Third kind c.args.third.now _ _ c.in_err-value.field-0.0 (λ here at. (scene.network, made.ensures.texts.0, (arriving_of scene.arrivals, made.ensures.texts.1.0, at))) stop) c.from_residual-in_err-value.ensures.1

pub returns-clause-texts : goal.returns-clause-texts
returns-clause-texts g c =
    let made = c.in_ok-scene in
    let read = c.in_ok-value in
    let texts = made.ensures.texts in
    (texts.0, (texts.1.0, (subst (λ (s : ShelfState). IsIn s.files c.args.third.now (g.K.TextKind.kind made.scene.network) (g.K.TextKind.said made.scene.network read.value)) made.ensures.ok read.ensures.text, tt)))
