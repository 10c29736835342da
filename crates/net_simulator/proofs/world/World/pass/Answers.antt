use Rattle.std.proofs.Common.{ℕ, ◌+◌, List, length, slice_index, slice_index_or, refl, sym, ap, subst, ◌∙◌, arith}
use Rattle.std.proofs.lemmas.List.{with_items_is}
use Rattle.arrivals.specs.Amounts.{arriving_of}
use Rattle.net_simulator.specs.Worlds.{Stands, signs_by}
use Rattle.net_simulator.specs.contracts.world.World.{the_view}
use Rattle.net_simulator.proofs.EveryWorld.{bounds-of}
use Rattle.net_simulator.proofs.LightLaws.{are-lit, lit-after}
use Rattle.net_simulator.proofs.Passing.{lights-parts, stands-parts}
use Rattle.net_simulator.proofs.world.World.pass.Goals as goal
use Rattle.control_flow.specs.declared.greens.Sign.TheVariants.{Dark}

pub look-requires-clause-lit : goal.look-requires-clause-lit
look-requires-clause-lit g c =
    let shown = signs_by (g.T.Lights.lines c.args.lights.now) in
    let stands : Stands c.args.net.now (arriving_of c.args.arrivals.now) shown (the_view c.self.inside) = subst (Stands c.args.net.now (arriving_of c.args.arrivals.now) shown) (sym c.self.view_is) c.requires.stands in
    are-lit c.args.net.now shown c.self.inside.second c.as_mut_slice.result.now c.as_mut_slice-2.result.now
    (lights-parts c.args.net.now shown c.self.inside.second _ c.as_mut_slice.result.now _ c.as_mut_slice-2.result.now c.as_mut_slice.ensures.value c.as_mut_slice-2.ensures.value stands.lights)
    (bounds-of c.args.net.now c.law_of_network.ensures).ends

pub look-requires-clause-walks : goal.look-requires-clause-walks
look-requires-clause-walks g c = ap (λ w. w.walks) c.self.view_is ∙ c.requires.stands.shape.walks

pub pass_second-self-inside-requires-clause-signs : goal.pass_second-self-inside-requires-clause-signs
pass_second-self-inside-requires-clause-signs g c n h =
    let signs = c.as_slice.ensures.value ∙ with_items_is c.self.inside.signs c.look.new.signs (c.look.auto.signs ∙ ap length c.as_mut_slice.ensures.value ∙ sym c.self.inside.signs.ok.0) in
    ap (λ gs. slice_index_or gs n Dark) signs ∙ c.look.ensures.signs n h

pub pass_second-self-inside-requires-clause-since : goal.pass_second-self-inside-requires-clause-since
pass_second-self-inside-requires-clause-since g c l h =
    let shown = signs_by (g.T.Lights.lines c.args.lights.now) in
    let stands : Stands c.args.net.now (arriving_of c.args.arrivals.now) shown (the_view c.self.inside) = subst (Stands c.args.net.now (arriving_of c.args.arrivals.now) shown) (sym c.self.view_is) c.requires.stands in
    let since = c.as_slice-2.ensures.value ∙ with_items_is c.self.inside.since c.look.new.since (c.look.auto.since ∙ ap length c.as_mut_slice-2.ensures.value ∙ sym c.self.inside.since.ok.0) in
    ap (λ (fs : List ℕ). slice_index fs l) since
    ∙ lit-after c.args.net.now shown c.self.inside.second c.as_mut_slice.result.now c.as_mut_slice-2.result.now c.look.new.since
    (lights-parts c.args.net.now shown c.self.inside.second _ c.as_mut_slice.result.now _ c.as_mut_slice-2.result.now c.as_mut_slice.ensures.value c.as_mut_slice-2.ensures.value stands.lights)
    (let now = ap (λ w. w.second) c.self.view_is in omega (arith, now, c.requires.second)) c.look.ensures.since c.look.ensures.none l h

pub pass_second-self-inside-requires-clause-stands : goal.pass_second-self-inside-requires-clause-stands
pass_second-self-inside-requires-clause-stands g c =
    let long = c.look.auto.signs ∙ ap length c.as_mut_slice.ensures.value in
    let many = c.look.auto.since ∙ ap length c.as_mut_slice-2.ensures.value in
    let signs = c.as_slice.ensures.value ∙ with_items_is c.self.inside.signs c.look.new.signs (long ∙ sym c.self.inside.signs.ok.0) in
    let since = c.as_slice-2.ensures.value ∙ with_items_is c.self.inside.since c.look.new.since (many ∙ sym c.self.inside.since.ok.0) in
    record {
      long = ap length signs ∙ long ∙ ap (λ w. length w.signs) c.self.view_is ∙ c.requires.stands.shape.signs;
      many = ap length since ∙ many ∙ ap (λ w. length w.since) c.self.view_is ∙ c.requires.stands.shape.since;
      signs = c.self.inside.signs.items;
      since = c.self.inside.since.items;
      stands = stands-parts c.args.net.now (arriving_of c.args.arrivals.now) (signs_by (g.T.Lights.lines c.args.lights.now)) (the_view c.self.inside) c.args.self.now c.self.inside.signs.items c.self.inside.since.items
          c.as_mut_slice-3.result.now c.as_mut_slice-4.result.now c.as_mut_slice-5.result.now c.as_mut_slice-6.result.now c.as_mut_slice-8.result.now
          c.self.view_is refl refl c.as_mut_slice-3.ensures.value c.as_mut_slice-4.ensures.value c.as_mut_slice-5.ensures.value c.as_mut_slice-6.ensures.value c.as_mut_slice-8.ensures.value c.requires.stands;
    }

pub returns-clause-stands : goal.returns-clause-stands
returns-clause-stands g c =
    let p = c.pass_second-self-inside in
    let w = c.self.inside in
    stands-parts c.args.net.now (arriving_of c.args.arrivals.now) (signs_by (g.T.Lights.lines c.args.lights.now))
    (record { second = w.second + 1; signs = c.as_slice.result.now; since = c.as_slice-2.result.now; queues = p.new.queues; recent = p.new.recent; waits = p.new.waits; stood = p.new.stood; counts = p.new.counts; totals = p.result; walks = w.walks })
    (record { second = w.second + 1; signs = c.as_slice.result.now; since = c.as_slice-2.result.now; queues = p.new.queues; recent = p.new.recent; waits = p.new.waits; stood = p.new.stood; counts = p.new.counts; totals = p.result; walks = w.walks })
    _ _ _ _ _ _ _ refl
    (sym c.as_slice.ensures.value)
    (sym c.as_slice-2.ensures.value)
    (with_items_is w.queues p.new.queues (p.auto.queues ∙ ap length c.as_mut_slice-3.ensures.value ∙ sym w.queues.ok.0))
    (with_items_is w.recent p.new.recent (p.auto.recent ∙ ap length c.as_mut_slice-4.ensures.value ∙ sym w.recent.ok.0))
    (with_items_is w.waits p.new.waits (p.auto.waits ∙ ap length c.as_mut_slice-5.ensures.value ∙ sym w.waits.ok.0))
    (with_items_is w.stood p.new.stood (p.auto.stood ∙ ap length c.as_mut_slice-6.ensures.value ∙ sym w.stood.ok.0))
    (with_items_is w.counts p.new.counts (p.auto.counts ∙ ap length c.as_mut_slice-8.ensures.value ∙ sym w.counts.ok.0))
    p.ensures.stands
