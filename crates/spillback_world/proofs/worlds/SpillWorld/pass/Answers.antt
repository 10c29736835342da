use Rattle.std.proofs.Common.{ℕ, List, length, slice_index, slice_index_or, sym, ap, subst, ◌∙◌, arith}
use Rattle.std.proofs.lemmas.List.{with_items_is}
use Rattle.arrivals.specs.Amounts.{arriving_of}
use Rattle.control_flow.specs.declared.greens.Sign.TheVariants.{Dark}
use Rattle.net_simulator.specs.Worlds.{signs_by}
use Rattle.net_simulator.proofs.EveryWorld.{bounds-of}
use Rattle.net_simulator.proofs.LightLaws.{are-lit, lit-after}
use Rattle.net_simulator.proofs.Passing.{lights-parts}
use Rattle.spillback_world.specs.Worlds.{Stands}
use Rattle.spillback_world.specs.contracts.worlds.SpillWorld.{the_view}
use Rattle.spillback_world.proofs.worlds.SpillWorld.pass.Goals as goal

pub look-requires-clause-lit : goal.look-requires-clause-lit
look-requires-clause-lit g c =
    let shown = signs_by (g.T.Lights.lines c.args.lights.now) in
    let stands : Stands c.args.net.now (arriving_of c.args.arrivals.now) (slice_index c.args.store.now) shown (the_view c.self.inside) = subst (Stands c.args.net.now (arriving_of c.args.arrivals.now) (slice_index c.args.store.now) shown) (sym c.self.view_is) c.requires.stands in
    are-lit c.args.net.now shown c.self.inside.second c.as_mut_slice.result.now c.as_mut_slice-2.result.now
    (lights-parts c.args.net.now shown c.self.inside.second _ c.as_mut_slice.result.now _ c.as_mut_slice-2.result.now c.as_mut_slice.ensures.value c.as_mut_slice-2.ensures.value stands.lights)
    (bounds-of c.args.net.now c.law_of_network.ensures).ends

pub look-requires-clause-walks : goal.look-requires-clause-walks
look-requires-clause-walks g c = ap (λ w. w.walks) c.self.view_is ∙ c.requires.stands.shape.walks

pub pass_second-self-inside-requires-clause-signs : goal.pass_second-self-inside-requires-clause-signs
pass_second-self-inside-requires-clause-signs g c n h =
    let signs = c.as_slice.ensures.value ∙ with_items_is c.self.inside.signs c.look.new.signs (c.look.auto.signs ∙ ap length c.as_mut_slice.ensures.value ∙ sym c.self.inside.signs.ok.0) in
    ap (λ gs. slice_index_or gs n Dark) signs ∙ c.look.ensures.signs n h

pub pass_second-self-inside-requires-clause-since : goal.pass_second-self-inside-requires-clause-since
pass_second-self-inside-requires-clause-since g c l h =
    let shown = signs_by (g.T.Lights.lines c.args.lights.now) in
    let stands : Stands c.args.net.now (arriving_of c.args.arrivals.now) (slice_index c.args.store.now) shown (the_view c.self.inside) = subst (Stands c.args.net.now (arriving_of c.args.arrivals.now) (slice_index c.args.store.now) shown) (sym c.self.view_is) c.requires.stands in
    let since = c.as_slice-2.ensures.value ∙ with_items_is c.self.inside.since c.look.new.since (c.look.auto.since ∙ ap length c.as_mut_slice-2.ensures.value ∙ sym c.self.inside.since.ok.0) in
    ap (λ (fs : List ℕ). slice_index fs l) since
    ∙ lit-after c.args.net.now shown c.self.inside.second c.as_mut_slice.result.now c.as_mut_slice-2.result.now c.look.new.since
    (lights-parts c.args.net.now shown c.self.inside.second _ c.as_mut_slice.result.now _ c.as_mut_slice-2.result.now c.as_mut_slice.ensures.value c.as_mut_slice-2.ensures.value stands.lights)
    (let now = ap (λ w. w.second) c.self.view_is in omega (arith, now, c.requires.second)) c.look.ensures.since c.look.ensures.none l h
