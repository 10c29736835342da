use Rattle.std.proofs.Common.{◌≡◌, ◌+◌, ◌-◌, ◌*◌, length, slice_index, refl, sym, ap, ◌∙◌, arith}
use Rattle.arrivals.specs.Amounts.{arriving_of}
use Rattle.net_simulator.specs.LinkSeconds.{waits_at}
use Rattle.net_simulator.specs.Worlds.{signs_by}
use Rattle.net_simulator.proofs.Passing.{few-of, seen-by}
use Rattle.std.proofs.lemmas.List.{with_items_is}
use Rattle.spillback_world.specs.Steps.{state_of}
use Rattle.spillback_world.specs.Worlds.{SpillState}
use Rattle.spillback_world.proofs.Passing.{are-held, delay-most, entering-held, left-of, outside-fits, room-entered, room-left, stands-next, stands-seen, stood-small, waits-held}
use Rattle.spillback_world.proofs.Sources.{sources-of}
use Rattle.spillback_world.proofs.worlds.pass_second.Goals as goal

pub reach_ends-out-requires-clause-there : goal.reach_ends-out-requires-clause-there
reach_ends-out-requires-clause-there g c =
    let stands = stands-seen c.args.moment.now.net.now (arriving_of c.args.moment.now.arrivals.now) (slice_index c.args.moment.now.store.now) (signs_by (g.T.Lights.lines c.args.moment.now.lights.now)) (state_of c.args.links.now c.args.moment.now.second c.requires.stands.signs c.requires.stands.since c.args.moment.now.walks c.args.moment.now.totals)
    c.as_mut_slice-queues.result.now c.as_mut_slice-recent.result.now c.as_mut_slice-waits.result.now c.args.links.now.stood.items c.as_mut_slice-outside.result.now c.as_mut_slice-held.result.now
    c.as_mut_slice-queues.ensures.value c.as_mut_slice-recent.ensures.value c.as_mut_slice-waits.ensures.value refl c.as_mut_slice-outside.ensures.value c.as_mut_slice-held.ensures.value c.requires.stands.stands in
    waits-held c.args.moment.now.net.now c.links-all.ensures.network (arriving_of c.args.moment.now.arrivals.now) c.args.moment.now.store.now (signs_by (g.T.Lights.lines c.args.moment.now.lights.now)) (few-of c.args.moment.now.net.now c.links-all.ensures.network c.args.moment.now.arrivals.now c.requires.arrivals) (sources-of c.args.moment.now.net.now c.args.moment.now.arrivals.now c.requires.arrivals) _ stands

pub discharge-requires-clause-links : goal.discharge-requires-clause-links
discharge-requires-clause-links g c =
    let s = c.requires.stands.stands.shape in
    record {
      store = c.requires.store;
      leaving = c.reach_ends-out.auto.leaving ∙ ap length c.as_mut_slice-leaving.ensures.value ∙ c.requires.scratch.leaving ∙ s.queues;
      queues = c.reach_ends-out.auto.queues ∙ ap length c.as_mut_slice-queues.ensures.value ∙ s.queues;
      entering = c.clear.auto.amounts ∙ ap length c.as_mut_slice-entering.ensures.value ∙ c.requires.scratch.entering ∙ s.queues;
      held = c.reach_ends-out.auto.held ∙ ap length c.as_mut_slice-held.ensures.value ∙ s.held;
      rates = c.serve.auto.rates ∙ ap length c.as_mut_slice-rates.ensures.value ∙ c.requires.scratch.rates ∙ s.queues;
    }

pub discharge-requires-clause-left : goal.discharge-requires-clause-left
discharge-requires-clause-left g c =
    left-of c.args.moment.now.net.now (waits_at c.args.moment.now.net.now c.as_mut_slice-queues.result.now c.as_mut_slice-recent.result.now c.args.moment.now.second)
    c.reach_ends-out.new.queues c.reach_ends-out.new.leaving c.reach_ends-out.ensures.leaving c.reach_ends-out.ensures.queues

pub returns-clause-scratch : goal.returns-clause-scratch
returns-clause-scratch g c =
    let s = c.requires.stands.stands.shape in
    let d = c.discharge.ensures.links in
    let links = c.args.links.now in
    let queues = ap length (with_items_is links.queues c.discharge.new.queues (omega (arith, d.queues, s.queues, links.queues.ok.0))) ∙ d.queues in
    record {
      leaving = ap length (with_items_is links.leaving c.discharge.new.leaving (omega (arith, d.leaving, c.requires.scratch.leaving, s.queues, links.leaving.ok.0))) ∙ d.leaving ∙ sym queues;
      entering = ap length (with_items_is links.entering c.discharge.new.entering (omega (arith, d.entering, c.requires.scratch.entering, s.queues, links.entering.ok.0))) ∙ d.entering ∙ sym queues;
      rates = ap length (with_items_is links.rates c.serve.new.rates (omega (arith, d.rates, c.requires.scratch.rates, s.queues, links.rates.ok.0))) ∙ d.rates ∙ sym queues;
    }

pub reach_ends-out-requires-clause-leaving : goal.reach_ends-out-requires-clause-leaving
reach_ends-out-requires-clause-leaving g c = ap length c.as_mut_slice-leaving.ensures.value ∙ c.requires.scratch.leaving ∙ c.requires.stands.stands.shape.queues

pub reach_ends-out-requires-clause-queues : goal.reach_ends-out-requires-clause-queues
reach_ends-out-requires-clause-queues g c = ap length c.as_mut_slice-queues.ensures.value ∙ c.requires.stands.stands.shape.queues

pub reach_ends-out-requires-clause-held : goal.reach_ends-out-requires-clause-held
reach_ends-out-requires-clause-held g c = ap length c.as_mut_slice-held.ensures.value ∙ c.requires.stands.stands.shape.held

pub reach_ends-out-requires-clause-recent : goal.reach_ends-out-requires-clause-recent
reach_ends-out-requires-clause-recent g c = ap length c.as_mut_slice-recent.ensures.value ∙ c.requires.stands.stands.shape.recent

pub serve-requires-clause-rates : goal.serve-requires-clause-rates
serve-requires-clause-rates g c = ap length c.as_mut_slice-rates.ensures.value ∙ c.requires.scratch.rates ∙ c.requires.stands.stands.shape.queues

pub serve-requires-clause-waits : goal.serve-requires-clause-waits
serve-requires-clause-waits g c = ap length c.as_mut_slice-waits.ensures.value ∙ c.requires.stands.stands.shape.waits

pub let_in-come-requires-clause-store : goal.let_in-come-requires-clause-store
let_in-come-requires-clause-store g c = c.requires.store ∙ sym c.links-all.ensures.value

pub let_in-come-requires-clause-outside : goal.let_in-come-requires-clause-outside
let_in-come-requires-clause-outside g c = ap length c.as_mut_slice-outside.ensures.value ∙ c.requires.stands.stands.shape.outside ∙ sym c.links-all.ensures.value

pub let_in-come-requires-clause-held : goal.let_in-come-requires-clause-held
let_in-come-requires-clause-held g c = c.discharge.ensures.links.held ∙ sym c.links-all.ensures.value

pub let_in-come-requires-clause-entering : goal.let_in-come-requires-clause-entering
let_in-come-requires-clause-entering g c = c.discharge.ensures.links.entering ∙ sym c.links-all.ensures.value

pub let_in-come-requires-clause-there : goal.let_in-come-requires-clause-there
let_in-come-requires-clause-there g c l h = entering-held c.args.moment.now.net.now c.args.moment.now.store.now c.discharge.new.queues c.discharge.new.entering c.discharge.new.held c.discharge.ensures.are l (rw (← c.links-all.ensures.value) h)

pub let_in-come-requires-clause-within : goal.let_in-come-requires-clause-within
let_in-come-requires-clause-within g c l h = c.discharge.ensures.are.within l (rw (← c.links-all.ensures.value) h)

pub discharge-requires-clause-held : goal.discharge-requires-clause-held
discharge-requires-clause-held g c =
    let stands = stands-seen c.args.moment.now.net.now (arriving_of c.args.moment.now.arrivals.now) (slice_index c.args.moment.now.store.now) (signs_by (g.T.Lights.lines c.args.moment.now.lights.now)) (state_of c.args.links.now c.args.moment.now.second c.requires.stands.signs c.requires.stands.since c.args.moment.now.walks c.args.moment.now.totals)
    c.as_mut_slice-queues.result.now c.as_mut_slice-recent.result.now c.as_mut_slice-waits.result.now c.args.links.now.stood.items c.as_mut_slice-outside.result.now c.as_mut_slice-held.result.now
    c.as_mut_slice-queues.ensures.value c.as_mut_slice-recent.ensures.value c.as_mut_slice-waits.ensures.value refl c.as_mut_slice-outside.ensures.value c.as_mut_slice-held.ensures.value c.requires.stands.stands in
    are-held c.args.moment.now.net.now c.links-all.ensures.network (arriving_of c.args.moment.now.arrivals.now) c.args.moment.now.store.now (signs_by (g.T.Lights.lines c.args.moment.now.lights.now)) (few-of c.args.moment.now.net.now c.links-all.ensures.network c.args.moment.now.arrivals.now c.requires.arrivals) (sources-of c.args.moment.now.net.now c.args.moment.now.arrivals.now c.requires.arrivals) _ stands c.args.moment.now.signs.now c.args.moment.now.since.now c.serve.new.rates c.reach_ends-out.new.leaving c.reach_ends-out.new.queues c.clear.new.amounts c.reach_ends-out.new.held (record { leaving = c.reach_ends-out.ensures.leaving; queues = c.reach_ends-out.ensures.queues; held = c.reach_ends-out.ensures.held; none = rw c.links-all.ensures.value at c.clear.ensures; serves = c.serve.ensures })

pub let_in-come-requires-clause-fits : goal.let_in-come-requires-clause-fits
let_in-come-requires-clause-fits g c l h =
    let stands = stands-seen c.args.moment.now.net.now (arriving_of c.args.moment.now.arrivals.now) (slice_index c.args.moment.now.store.now) (signs_by (g.T.Lights.lines c.args.moment.now.lights.now)) (state_of c.args.links.now c.args.moment.now.second c.requires.stands.signs c.requires.stands.since c.args.moment.now.walks c.args.moment.now.totals)
    c.as_mut_slice-queues.result.now c.as_mut_slice-recent.result.now c.as_mut_slice-waits.result.now c.args.links.now.stood.items c.as_mut_slice-outside.result.now c.as_mut_slice-held.result.now
    c.as_mut_slice-queues.ensures.value c.as_mut_slice-recent.ensures.value c.as_mut_slice-waits.ensures.value refl c.as_mut_slice-outside.ensures.value c.as_mut_slice-held.ensures.value c.requires.stands.stands in
    let fits = outside-fits c.args.moment.now.net.now c.links-all.ensures.network (arriving_of c.args.moment.now.arrivals.now) c.args.moment.now.store.now (signs_by (g.T.Lights.lines c.args.moment.now.lights.now)) (few-of c.args.moment.now.net.now c.links-all.ensures.network c.args.moment.now.arrivals.now c.requires.arrivals) (sources-of c.args.moment.now.net.now c.args.moment.now.arrivals.now c.requires.arrivals) _ stands l (omega (arith, h, c.links-all.ensures.value)) in
    omega (arith, fits)

pub remember-requires-clause-fits : goal.remember-requires-clause-fits
remember-requires-clause-fits g c l h =
    let stands = stands-seen c.args.moment.now.net.now (arriving_of c.args.moment.now.arrivals.now) (slice_index c.args.moment.now.store.now) (signs_by (g.T.Lights.lines c.args.moment.now.lights.now)) (state_of c.args.links.now c.args.moment.now.second c.requires.stands.signs c.requires.stands.since c.args.moment.now.walks c.args.moment.now.totals)
    c.as_mut_slice-queues.result.now c.as_mut_slice-recent.result.now c.as_mut_slice-waits.result.now c.as_mut_slice.result.now c.as_mut_slice-outside.result.now c.as_mut_slice-held.result.now
    c.as_mut_slice-queues.ensures.value c.as_mut_slice-recent.ensures.value c.as_mut_slice-waits.ensures.value c.as_mut_slice.ensures.value c.as_mut_slice-outside.ensures.value c.as_mut_slice-held.ensures.value c.requires.stands.stands in
    stood-small c.args.moment.now.net.now c.links-all.ensures.network (arriving_of c.args.moment.now.arrivals.now) c.args.moment.now.store.now (signs_by (g.T.Lights.lines c.args.moment.now.lights.now)) (few-of c.args.moment.now.net.now c.links-all.ensures.network c.args.moment.now.arrivals.now c.requires.arrivals) (sources-of c.args.moment.now.net.now c.args.moment.now.arrivals.now c.requires.arrivals) _ stands c.requires.second l (omega (arith, h, c.links-all.ensures.value))

pub overflow_add-entered : goal.overflow_add-entered
overflow_add-entered g c =
    let stands = stands-seen c.args.moment.now.net.now (arriving_of c.args.moment.now.arrivals.now) (slice_index c.args.moment.now.store.now) (signs_by (g.T.Lights.lines c.args.moment.now.lights.now)) (state_of c.args.links.now c.args.moment.now.second c.requires.stands.signs c.requires.stands.since c.args.moment.now.walks c.args.moment.now.totals)
    c.as_mut_slice-queues.result.now c.as_mut_slice-recent.result.now c.as_mut_slice-waits.result.now c.as_mut_slice.result.now c.as_mut_slice-outside.result.now c.as_mut_slice-held.result.now
    c.as_mut_slice-queues.ensures.value c.as_mut_slice-recent.ensures.value c.as_mut_slice-waits.ensures.value c.as_mut_slice.ensures.value c.as_mut_slice-outside.ensures.value c.as_mut_slice-held.ensures.value c.requires.stands.stands in
    let room = room-entered c.args.moment.now.net.now c.links-all.ensures.network (arriving_of c.args.moment.now.arrivals.now) c.args.moment.now.store.now (signs_by (g.T.Lights.lines c.args.moment.now.lights.now)) (few-of c.args.moment.now.net.now c.links-all.ensures.network c.args.moment.now.arrivals.now c.requires.arrivals) (sources-of c.args.moment.now.net.now c.args.moment.now.arrivals.now c.requires.arrivals) _ stands c.args.moment.now.signs.now c.args.moment.now.since.now c.serve.new.rates c.reach_ends-out.new.leaving c.reach_ends-out.new.queues c.clear.new.amounts c.reach_ends-out.new.held (record { leaving = c.reach_ends-out.ensures.leaving; queues = c.reach_ends-out.ensures.queues; held = c.reach_ends-out.ensures.held; none = rw c.links-all.ensures.value at c.clear.ensures; serves = c.serve.ensures }) c.requires.second c.requires.since (seen-by c.args.moment.now.signs.now (length c.args.moment.now.net.now.node_names) (g.T.Lights.lines c.args.moment.now.lights.now) c.args.moment.now.second c.requires.signs) c.discharge.new.leaving c.discharge.new.queues c.discharge.new.entering c.discharge.new.held c.discharge.ensures in
    let come = rw c.links-all.ensures.value at c.let_in-come.ensures.all in
    omega (arith, room, come)

pub overflow_add-left : goal.overflow_add-left
overflow_add-left g c =
    let stands = stands-seen c.args.moment.now.net.now (arriving_of c.args.moment.now.arrivals.now) (slice_index c.args.moment.now.store.now) (signs_by (g.T.Lights.lines c.args.moment.now.lights.now)) (state_of c.args.links.now c.args.moment.now.second c.requires.stands.signs c.requires.stands.since c.args.moment.now.walks c.args.moment.now.totals)
    c.as_mut_slice-queues.result.now c.as_mut_slice-recent.result.now c.as_mut_slice-waits.result.now c.as_mut_slice.result.now c.as_mut_slice-outside.result.now c.as_mut_slice-held.result.now
    c.as_mut_slice-queues.ensures.value c.as_mut_slice-recent.ensures.value c.as_mut_slice-waits.ensures.value c.as_mut_slice.ensures.value c.as_mut_slice-outside.ensures.value c.as_mut_slice-held.ensures.value c.requires.stands.stands in
    let room = room-entered c.args.moment.now.net.now c.links-all.ensures.network (arriving_of c.args.moment.now.arrivals.now) c.args.moment.now.store.now (signs_by (g.T.Lights.lines c.args.moment.now.lights.now)) (few-of c.args.moment.now.net.now c.links-all.ensures.network c.args.moment.now.arrivals.now c.requires.arrivals) (sources-of c.args.moment.now.net.now c.args.moment.now.arrivals.now c.requires.arrivals) _ stands c.args.moment.now.signs.now c.args.moment.now.since.now c.serve.new.rates c.reach_ends-out.new.leaving c.reach_ends-out.new.queues c.clear.new.amounts c.reach_ends-out.new.held (record { leaving = c.reach_ends-out.ensures.leaving; queues = c.reach_ends-out.ensures.queues; held = c.reach_ends-out.ensures.held; none = rw c.links-all.ensures.value at c.clear.ensures; serves = c.serve.ensures }) c.requires.second c.requires.since (seen-by c.args.moment.now.signs.now (length c.args.moment.now.net.now.node_names) (g.T.Lights.lines c.args.moment.now.lights.now) c.args.moment.now.second c.requires.signs) c.discharge.new.leaving c.discharge.new.queues c.discharge.new.entering c.discharge.new.held c.discharge.ensures in
    let less = room-left c.args.moment.now.net.now c.links-all.ensures.network (arriving_of c.args.moment.now.arrivals.now) c.args.moment.now.store.now (signs_by (g.T.Lights.lines c.args.moment.now.lights.now)) (few-of c.args.moment.now.net.now c.links-all.ensures.network c.args.moment.now.arrivals.now c.requires.arrivals) (sources-of c.args.moment.now.net.now c.args.moment.now.arrivals.now c.requires.arrivals) _ stands c.args.moment.now.signs.now c.args.moment.now.since.now c.serve.new.rates c.reach_ends-out.new.leaving c.reach_ends-out.new.queues c.clear.new.amounts c.reach_ends-out.new.held (record { leaving = c.reach_ends-out.ensures.leaving; queues = c.reach_ends-out.ensures.queues; held = c.reach_ends-out.ensures.held; none = rw c.links-all.ensures.value at c.clear.ensures; serves = c.serve.ensures }) c.requires.second c.requires.since (seen-by c.args.moment.now.signs.now (length c.args.moment.now.net.now.node_names) (g.T.Lights.lines c.args.moment.now.lights.now) c.args.moment.now.second c.requires.signs) c.discharge.new.leaving c.discharge.new.queues c.discharge.new.entering c.discharge.new.held c.discharge.ensures in
    omega (arith, room, less, c.reach_ends-out.ensures.out)

pub overflow_sub-result : goal.overflow_sub-result
overflow_sub-result g c =
    let stands = stands-seen c.args.moment.now.net.now (arriving_of c.args.moment.now.arrivals.now) (slice_index c.args.moment.now.store.now) (signs_by (g.T.Lights.lines c.args.moment.now.lights.now)) (state_of c.args.links.now c.args.moment.now.second c.requires.stands.signs c.requires.stands.since c.args.moment.now.walks c.args.moment.now.totals)
    c.as_mut_slice-queues.result.now c.as_mut_slice-recent.result.now c.as_mut_slice-waits.result.now c.as_mut_slice.result.now c.as_mut_slice-outside.result.now c.as_mut_slice-held.result.now
    c.as_mut_slice-queues.ensures.value c.as_mut_slice-recent.ensures.value c.as_mut_slice-waits.ensures.value c.as_mut_slice.ensures.value c.as_mut_slice-outside.ensures.value c.as_mut_slice-held.ensures.value c.requires.stands.stands in
    let less = room-left c.args.moment.now.net.now c.links-all.ensures.network (arriving_of c.args.moment.now.arrivals.now) c.args.moment.now.store.now (signs_by (g.T.Lights.lines c.args.moment.now.lights.now)) (few-of c.args.moment.now.net.now c.links-all.ensures.network c.args.moment.now.arrivals.now c.requires.arrivals) (sources-of c.args.moment.now.net.now c.args.moment.now.arrivals.now c.requires.arrivals) _ stands c.args.moment.now.signs.now c.args.moment.now.since.now c.serve.new.rates c.reach_ends-out.new.leaving c.reach_ends-out.new.queues c.clear.new.amounts c.reach_ends-out.new.held (record { leaving = c.reach_ends-out.ensures.leaving; queues = c.reach_ends-out.ensures.queues; held = c.reach_ends-out.ensures.held; none = rw c.links-all.ensures.value at c.clear.ensures; serves = c.serve.ensures }) c.requires.second c.requires.since (seen-by c.args.moment.now.signs.now (length c.args.moment.now.net.now.node_names) (g.T.Lights.lines c.args.moment.now.lights.now) c.args.moment.now.second c.requires.signs) c.discharge.new.leaving c.discharge.new.queues c.discharge.new.entering c.discharge.new.held c.discharge.ensures in
    let come = rw c.links-all.ensures.value at c.let_in-come.ensures.all in
    omega (arith, less, come, c.reach_ends-out.ensures.out)

pub overflow_add-result-2 : goal.overflow_add-result-2
overflow_add-result-2 g c =
    let stands = stands-seen c.args.moment.now.net.now (arriving_of c.args.moment.now.arrivals.now) (slice_index c.args.moment.now.store.now) (signs_by (g.T.Lights.lines c.args.moment.now.lights.now)) (state_of c.args.links.now c.args.moment.now.second c.requires.stands.signs c.requires.stands.since c.args.moment.now.walks c.args.moment.now.totals)
    c.as_mut_slice-queues.result.now c.as_mut_slice-recent.result.now c.as_mut_slice-waits.result.now c.as_mut_slice.result.now c.as_mut_slice-outside.result.now c.as_mut_slice-held.result.now
    c.as_mut_slice-queues.ensures.value c.as_mut_slice-recent.ensures.value c.as_mut_slice-waits.ensures.value c.as_mut_slice.ensures.value c.as_mut_slice-outside.ensures.value c.as_mut_slice-held.ensures.value c.requires.stands.stands in
    let most = delay-most c.args.moment.now.net.now c.links-all.ensures.network (arriving_of c.args.moment.now.arrivals.now) c.args.moment.now.store.now (signs_by (g.T.Lights.lines c.args.moment.now.lights.now)) (few-of c.args.moment.now.net.now c.links-all.ensures.network c.args.moment.now.arrivals.now c.requires.arrivals) (sources-of c.args.moment.now.net.now c.args.moment.now.arrivals.now c.requires.arrivals) _ stands in
    let few = c.links-all.ensures.network.outline.link_count.1 in
    omega (arith, most, few, c.links-all.ensures.value, c.sum-outside.ensures.most, c.sum.ensures.most)

pub returns-clause-whole : goal.returns-clause-whole
returns-clause-whole g c =
    let stands = stands-seen c.args.moment.now.net.now (arriving_of c.args.moment.now.arrivals.now) (slice_index c.args.moment.now.store.now) (signs_by (g.T.Lights.lines c.args.moment.now.lights.now)) (state_of c.args.links.now c.args.moment.now.second c.requires.stands.signs c.requires.stands.since c.args.moment.now.walks c.args.moment.now.totals)
    c.as_mut_slice-queues.result.now c.as_mut_slice-recent.result.now c.as_mut_slice-waits.result.now c.as_mut_slice.result.now c.as_mut_slice-outside.result.now c.as_mut_slice-held.result.now
    c.as_mut_slice-queues.ensures.value c.as_mut_slice-recent.ensures.value c.as_mut_slice-waits.ensures.value c.as_mut_slice.ensures.value c.as_mut_slice-outside.ensures.value c.as_mut_slice-held.ensures.value c.requires.stands.stands in
    let less = room-left c.args.moment.now.net.now c.links-all.ensures.network (arriving_of c.args.moment.now.arrivals.now) c.args.moment.now.store.now (signs_by (g.T.Lights.lines c.args.moment.now.lights.now)) (few-of c.args.moment.now.net.now c.links-all.ensures.network c.args.moment.now.arrivals.now c.requires.arrivals) (sources-of c.args.moment.now.net.now c.args.moment.now.arrivals.now c.requires.arrivals) _ stands c.args.moment.now.signs.now c.args.moment.now.since.now c.serve.new.rates c.reach_ends-out.new.leaving c.reach_ends-out.new.queues c.clear.new.amounts c.reach_ends-out.new.held (record { leaving = c.reach_ends-out.ensures.leaving; queues = c.reach_ends-out.ensures.queues; held = c.reach_ends-out.ensures.held; none = rw c.links-all.ensures.value at c.clear.ensures; serves = c.serve.ensures }) c.requires.second c.requires.since (seen-by c.args.moment.now.signs.now (length c.args.moment.now.net.now.node_names) (g.T.Lights.lines c.args.moment.now.lights.now) c.args.moment.now.second c.requires.signs) c.discharge.new.leaving c.discharge.new.queues c.discharge.new.entering c.discharge.new.held c.discharge.ensures in
    let come = rw c.links-all.ensures.value at c.let_in-come.ensures.all in
    omega (arith, less, come, c.reach_ends-out.ensures.out)

pub returns-clause-stands : goal.returns-clause-stands
returns-clause-stands g c =
    let stands = stands-seen c.args.moment.now.net.now (arriving_of c.args.moment.now.arrivals.now) (slice_index c.args.moment.now.store.now) (signs_by (g.T.Lights.lines c.args.moment.now.lights.now)) (state_of c.args.links.now c.args.moment.now.second c.requires.stands.signs c.requires.stands.since c.args.moment.now.walks c.args.moment.now.totals)
    c.as_mut_slice-queues.result.now c.as_mut_slice-recent.result.now c.as_mut_slice-waits.result.now c.as_mut_slice.result.now c.as_mut_slice-outside.result.now c.as_mut_slice-held.result.now
    c.as_mut_slice-queues.ensures.value c.as_mut_slice-recent.ensures.value c.as_mut_slice-waits.ensures.value c.as_mut_slice.ensures.value c.as_mut_slice-outside.ensures.value c.as_mut_slice-held.ensures.value c.requires.stands.stands in
    let s = c.requires.stands.stands.shape in
    let queues : length c.discharge.new.queues ≡ length c.args.moment.now.net.now.link_names = c.discharge.ensures.links.queues in
    let recent : length c.let_in-come.new.recent ≡ length c.args.moment.now.net.now.link_names * 128 = c.let_in-come.auto.recent ∙ ap length c.as_mut_slice-recent.ensures.value ∙ s.recent in
    let waits : length c.remember.new.waits ≡ length c.args.moment.now.net.now.link_names * 128 = c.remember.auto.waits ∙ ap length c.as_mut_slice-waits.ensures.value ∙ s.waits in
    let stood : length c.remember.new.stood ≡ length c.args.moment.now.net.now.link_names = c.remember.auto.stood ∙ ap length c.as_mut_slice.ensures.value ∙ s.stood in
    let outside : length c.let_in-come.new.outside ≡ length c.args.moment.now.net.now.link_names = c.let_in-come.auto.outside ∙ ap length c.as_mut_slice-outside.ensures.value ∙ s.outside in
    let held : length c.let_in-come.new.held ≡ length c.args.moment.now.net.now.link_names = c.let_in-come.auto.held ∙ c.discharge.ensures.links.held in
    let v : SpillState = record {
      second = c.args.moment.now.second + 1;
      signs = c.args.moment.now.signs.now;
      since = c.args.moment.now.since.now;
      walks = c.args.moment.now.walks;
      queues = c.discharge.new.queues;
      recent = c.let_in-come.new.recent;
      waits = c.remember.new.waits;
      stood = c.remember.new.stood;
      outside = c.let_in-come.new.outside;
      held = c.let_in-come.new.held;
      totals = record {
        entered = c.args.moment.now.totals.entered + c.let_in-come.result;
        left = c.args.moment.now.totals.left + c.reach_ends-out.result;
        on = (c.args.moment.now.totals.entered + c.let_in-come.result) - (c.args.moment.now.totals.left + c.reach_ends-out.result);
        outside = c.sum-outside.result;
        delay = c.args.moment.now.totals.delay + (c.sum.result + c.sum-outside.result);
      };
    } in
    stands-seen c.args.moment.now.net.now (arriving_of c.args.moment.now.arrivals.now) (slice_index c.args.moment.now.store.now) (signs_by (g.T.Lights.lines c.args.moment.now.lights.now)) v _ _ _ _ _ _
    (with_items_is c.args.links.now.queues c.discharge.new.queues (omega (arith, queues, s.queues, c.args.links.now.queues.ok.0)))
    (with_items_is c.args.links.now.recent c.let_in-come.new.recent (omega (arith, recent, s.recent, c.args.links.now.recent.ok.0)))
    (with_items_is c.args.links.now.waits c.remember.new.waits (omega (arith, waits, s.waits, c.args.links.now.waits.ok.0)))
    (with_items_is c.args.links.now.stood c.remember.new.stood (omega (arith, stood, s.stood, c.args.links.now.stood.ok.0)))
    (with_items_is c.args.links.now.outside c.let_in-come.new.outside (omega (arith, outside, s.outside, c.args.links.now.outside.ok.0)))
    (with_items_is c.args.links.now.held c.let_in-come.new.held (omega (arith, held, s.held, c.args.links.now.held.ok.0)))
    (stands-next c.args.moment.now.net.now c.links-all.ensures.network (arriving_of c.args.moment.now.arrivals.now) c.args.moment.now.store.now (signs_by (g.T.Lights.lines c.args.moment.now.lights.now)) (few-of c.args.moment.now.net.now c.links-all.ensures.network c.args.moment.now.arrivals.now c.requires.arrivals) (sources-of c.args.moment.now.net.now c.args.moment.now.arrivals.now c.requires.arrivals) _ stands c.args.moment.now.signs.now c.args.moment.now.since.now c.serve.new.rates c.reach_ends-out.new.leaving c.reach_ends-out.new.queues c.clear.new.amounts c.reach_ends-out.new.held (record { leaving = c.reach_ends-out.ensures.leaving; queues = c.reach_ends-out.ensures.queues; held = c.reach_ends-out.ensures.held; none = rw c.links-all.ensures.value at c.clear.ensures; serves = c.serve.ensures }) c.requires.second c.requires.since (seen-by c.args.moment.now.signs.now (length c.args.moment.now.net.now.node_names) (g.T.Lights.lines c.args.moment.now.lights.now) c.args.moment.now.second c.requires.signs) c.discharge.new.leaving c.discharge.new.queues c.discharge.new.entering c.discharge.new.held c.discharge.ensures
    v
    (record {
      outside = rw c.links-all.ensures.value at c.let_in-come.ensures.outside;
      held = rw c.links-all.ensures.value at c.let_in-come.ensures.held;
      here = rw c.links-all.ensures.value at c.let_in-come.ensures.here;
      others = c.let_in-come.ensures.others;
      remembers = rw c.links-all.ensures.value at c.remember.ensures.here;
      remembers_others = c.remember.ensures.others;
      stands = rw c.links-all.ensures.value at c.remember.ensures.stood;
    })
    refl refl refl refl
    (record { signs = c.requires.nodes; since = c.requires.links; walks = s.walks; queues = queues; recent = recent; waits = waits; stood = stood; outside = outside; held = held })
    (let come = rw c.links-all.ensures.value at c.let_in-come.ensures.all in omega (arith, come))
    (omega (arith, c.reach_ends-out.ensures.out))
    refl
    (rw c.links-all.ensures.value at c.sum-outside.ensures.all)
    (let one = rw c.links-all.ensures.value at c.sum.ensures.all in let two = rw c.links-all.ensures.value at c.sum-outside.ensures.all in omega (arith, one, two)))
