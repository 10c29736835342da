use Rattle.std.proofs.Common.{ℕ, ◌+◌, ◌-◌, slice_index, refl, arith}
use Rattle.arrivals.specs.Amounts.{arriving_of}
use Rattle.net_simulator.proofs.Passing.{few-of, room-leave, room-enter, leaves-now, counts-small, standing-small, stands-next, room-entered, room-left, delay-most}
use Rattle.net_simulator.specs.Steps.{goes_at}
use Rattle.net_simulator.proofs.world.pass_second.Goals as goal

pub arrive-arriving-requires-clause-fits : goal.arrive-arriving-requires-clause-fits
arrive-arriving-requires-clause-fits g c =
    room-leave c.args.moment.now.net.now c.links-links.ensures.network (arriving_of c.args.moment.now.arrivals.now) (g.T.Lights.lines c.args.moment.now.lights.now) (few-of c.args.moment.now.net.now c.links-links.ensures.network c.args.moment.now.arrivals.now c.requires.arrivals) _ c.requires.stands.stands c.args.recent.now (λ l y other. refl)

pub discharge-out-requires-clause-fits : goal.discharge-out-requires-clause-fits
discharge-out-requires-clause-fits g c =
    let goes : ℕ → ℕ = goes_at c.args.moment.now.net.now c.args.moment.now.signs.now c.args.moment.now.since.now c.args.waits.now c.arrive-arriving.new.queues c.args.moment.now.second in
    let leaves = leaves-now c.args.moment.now.net.now c.links-links.ensures.network (arriving_of c.args.moment.now.arrivals.now) (g.T.Lights.lines c.args.moment.now.lights.now) (few-of c.args.moment.now.net.now c.links-links.ensures.network c.args.moment.now.arrivals.now c.requires.arrivals) _ c.requires.stands.stands c.args.moment.now.signs.now c.args.moment.now.since.now c.arrive-arriving.new.recent c.arrive-arriving.new.queues goes c.requires.second c.requires.signs c.requires.since c.arrive-arriving.ensures.others c.arrive-arriving.ensures.queues (λ l h. refl) in
    room-enter c.args.moment.now.net.now c.links-links.ensures.network (arriving_of c.args.moment.now.arrivals.now) (g.T.Lights.lines c.args.moment.now.lights.now) (few-of c.args.moment.now.net.now c.links-links.ensures.network c.args.moment.now.arrivals.now c.requires.arrivals) _ c.requires.stands.stands c.arrive-arriving.new.recent goes leaves c.arrive-arriving.ensures.here

pub remember-requires-clause-fits : goal.remember-requires-clause-fits
remember-requires-clause-fits g c = rw c.links-links.ensures.value (standing-small c.args.moment.now.net.now c.links-links.ensures.network (arriving_of c.args.moment.now.arrivals.now) (g.T.Lights.lines c.args.moment.now.lights.now) (few-of c.args.moment.now.net.now c.links-links.ensures.network c.args.moment.now.arrivals.now c.requires.arrivals) _ c.requires.stands.stands c.requires.second)

pub count-waiting-requires-clause-fits : goal.count-waiting-requires-clause-fits
count-waiting-requires-clause-fits g c = rw c.links-links.ensures.value (counts-small c.args.moment.now.net.now c.links-links.ensures.network (arriving_of c.args.moment.now.arrivals.now) (g.T.Lights.lines c.args.moment.now.lights.now) (few-of c.args.moment.now.net.now c.links-links.ensures.network c.args.moment.now.arrivals.now c.requires.arrivals) _ c.requires.stands.stands)

pub overflow_add-entered : goal.overflow_add-entered
overflow_add-entered g c =
    let room = room-entered c.args.moment.now.net.now c.links-links.ensures.network (arriving_of c.args.moment.now.arrivals.now) (g.T.Lights.lines c.args.moment.now.lights.now) (few-of c.args.moment.now.net.now c.links-links.ensures.network c.args.moment.now.arrivals.now c.requires.arrivals) _ c.requires.stands.stands in
    omega (arith, room, c.arrive-arriving.ensures.all)

pub overflow_sub-result : goal.overflow_sub-result
overflow_sub-result g c =
    let leaves = leaves-now c.args.moment.now.net.now c.links-links.ensures.network (arriving_of c.args.moment.now.arrivals.now) (g.T.Lights.lines c.args.moment.now.lights.now) (few-of c.args.moment.now.net.now c.links-links.ensures.network c.args.moment.now.arrivals.now c.requires.arrivals) _ c.requires.stands.stands c.args.moment.now.signs.now c.args.moment.now.since.now c.arrive-arriving.new.recent c.arrive-arriving.new.queues (slice_index c.discharge-out.new.leaving) c.requires.second c.requires.signs c.requires.since c.arrive-arriving.ensures.others c.arrive-arriving.ensures.queues c.discharge-out.ensures.leaving in
    let room = room-left c.args.moment.now.net.now c.links-links.ensures.network (arriving_of c.args.moment.now.arrivals.now) (g.T.Lights.lines c.args.moment.now.lights.now) (few-of c.args.moment.now.net.now c.links-links.ensures.network c.args.moment.now.arrivals.now c.requires.arrivals) _ c.requires.stands.stands c.discharge-out.new.leaving leaves in
    omega (arith, room, c.arrive-arriving.ensures.all, c.discharge-out.ensures.out)

pub overflow_add-left : goal.overflow_add-left
overflow_add-left g c =
    let room = room-entered c.args.moment.now.net.now c.links-links.ensures.network (arriving_of c.args.moment.now.arrivals.now) (g.T.Lights.lines c.args.moment.now.lights.now) (few-of c.args.moment.now.net.now c.links-links.ensures.network c.args.moment.now.arrivals.now c.requires.arrivals) _ c.requires.stands.stands in
    let leaves = leaves-now c.args.moment.now.net.now c.links-links.ensures.network (arriving_of c.args.moment.now.arrivals.now) (g.T.Lights.lines c.args.moment.now.lights.now) (few-of c.args.moment.now.net.now c.links-links.ensures.network c.args.moment.now.arrivals.now c.requires.arrivals) _ c.requires.stands.stands c.args.moment.now.signs.now c.args.moment.now.since.now c.arrive-arriving.new.recent c.arrive-arriving.new.queues (slice_index c.discharge-out.new.leaving) c.requires.second c.requires.signs c.requires.since c.arrive-arriving.ensures.others c.arrive-arriving.ensures.queues c.discharge-out.ensures.leaving in
    let less = room-left c.args.moment.now.net.now c.links-links.ensures.network (arriving_of c.args.moment.now.arrivals.now) (g.T.Lights.lines c.args.moment.now.lights.now) (few-of c.args.moment.now.net.now c.links-links.ensures.network c.args.moment.now.arrivals.now c.requires.arrivals) _ c.requires.stands.stands c.discharge-out.new.leaving leaves in
    omega (arith, room, c.arrive-arriving.ensures.all, less, c.discharge-out.ensures.out)

pub overflow_add-result : goal.overflow_add-result
overflow_add-result g c =
    let most = delay-most c.args.moment.now.net.now c.links-links.ensures.network (arriving_of c.args.moment.now.arrivals.now) (g.T.Lights.lines c.args.moment.now.lights.now) (few-of c.args.moment.now.net.now c.links-links.ensures.network c.args.moment.now.arrivals.now c.requires.arrivals) _ c.requires.stands.stands in
    let few = c.links-links.ensures.network.outline.link_count.1 in
    omega (arith, most, few, c.links-links.ensures.value, c.count-waiting.ensures.most)

pub returns-clause-whole : goal.returns-clause-whole
returns-clause-whole g c =
    let leaves = leaves-now c.args.moment.now.net.now c.links-links.ensures.network (arriving_of c.args.moment.now.arrivals.now) (g.T.Lights.lines c.args.moment.now.lights.now) (few-of c.args.moment.now.net.now c.links-links.ensures.network c.args.moment.now.arrivals.now c.requires.arrivals) _ c.requires.stands.stands c.args.moment.now.signs.now c.args.moment.now.since.now c.arrive-arriving.new.recent c.arrive-arriving.new.queues (slice_index c.discharge-out.new.leaving) c.requires.second c.requires.signs c.requires.since c.arrive-arriving.ensures.others c.arrive-arriving.ensures.queues c.discharge-out.ensures.leaving in
    let room = room-left c.args.moment.now.net.now c.links-links.ensures.network (arriving_of c.args.moment.now.arrivals.now) (g.T.Lights.lines c.args.moment.now.lights.now) (few-of c.args.moment.now.net.now c.links-links.ensures.network c.args.moment.now.arrivals.now c.requires.arrivals) _ c.requires.stands.stands c.discharge-out.new.leaving leaves in
    omega (arith, room, c.arrive-arriving.ensures.all, c.discharge-out.ensures.out)

pub returns-clause-stands : goal.returns-clause-stands
returns-clause-stands g c =
    stands-next c.args.moment.now.net.now c.links-links.ensures.network (arriving_of c.args.moment.now.arrivals.now) (g.T.Lights.lines c.args.moment.now.lights.now) (few-of c.args.moment.now.net.now c.links-links.ensures.network c.args.moment.now.arrivals.now c.requires.arrivals) _ c.requires.stands.stands c.arrive-arriving.new.recent c.arrive-arriving.new.queues c.discharge-out.new.leaving
    (record {
      second = c.args.moment.now.second + 1;
      signs = c.args.moment.now.signs.now;
      since = c.args.moment.now.since.now;
      queues = c.settle.new.queues;
      recent = c.discharge-out.new.recent;
      waits = c.remember.new.waits;
      stood = c.remember.new.stood;
      counts = c.count-waiting.new.counts;
      totals = record {
        entered = c.args.moment.now.totals.entered + c.arrive-arriving.result;
        left = c.args.moment.now.totals.left + c.discharge-out.result;
        on = (c.args.moment.now.totals.entered + c.arrive-arriving.result) - (c.args.moment.now.totals.left + c.discharge-out.result);
        delay = c.args.moment.now.totals.delay + c.count-waiting.result;
      };
      walks = c.args.moment.now.walks;
    })
    c.requires.second refl
    (let s = c.requires.stands.stands.shape in record { signs = c.requires.stands.long; since = c.requires.stands.many; queues = omega arith; recent = omega arith; waits = omega arith; stood = omega arith; counts = omega arith; walks = s.walks })
    c.requires.signs
    c.requires.since
    (record {
      arrives = c.arrive-arriving.ensures.here;
      arrives-others = c.arrive-arriving.ensures.others;
      gathers = c.arrive-arriving.ensures.queues;
      leaves = c.discharge-out.ensures.leaving;
      queues = rw c.links-links.ensures.value at c.settle.ensures;
      enters = c.discharge-out.ensures.here;
      enters-others = c.discharge-out.ensures.others;
      remembers = rw c.links-links.ensures.value at c.remember.ensures.here;
      remembers-others = c.remember.ensures.others;
      stands = rw c.links-links.ensures.value at c.remember.ensures.stood;
      counts = rw c.links-links.ensures.value at c.count-waiting.ensures.counts;
      entered = omega (arith, c.arrive-arriving.ensures.all);
      left = omega (arith, c.discharge-out.ensures.out);
      delay = let all = rw c.links-links.ensures.value at c.count-waiting.ensures.waits in omega (arith, all);
      on = refl;
    })
