use Rattle.std.proofs.Common.{ap, get_or, length, subst, sym, ◌+◌, ◌-◌, arith}
use Rattle.net_parts.specs.declared.roads.Link.{Link}
use Rattle.outflow.proofs.ServedLaws.{IsFilling, clear-after, filling-all, filling-more, filling-none, found-fit, listed, no_served, phase-below, phases-few, platoon-found, platoon-there, serving-late, zeros}
use Rattle.outflow.proofs.exit_flow.fill_exit_flow.Goals as goal

pub loop-i-init : goal.loop-i-init
loop-i-init c =
    subst (λ amounts. IsFilling c.args.net.now c.args.node c.args.exit c.args.now c.args.window.now.lists c.args.servings.now.phases.now c.args.servings.now.served.now (zeros 4) amounts 0)
    (sym c.requires.amounts)
    (filling-none c.args.net.now c.args.node c.args.exit c.args.now c.args.window.now.lists c.args.servings.now.phases.now c.args.servings.now.served.now c.requires.served)

pub bounds-taken-k : goal.bounds-taken-k
bounds-taken-k c = omega (arith, phases-few c.args.net.now c.args.node c.args.now c.args.window.now.lists c.link-travel.ensures.network c.requires.node c.requires.platoons, phase-below c.args.net.now c.args.node c.args.exit c.args.now c.args.window.now.lists c.args.servings.now.phases.now c.args.servings.now.served.now c.loop-i.taken c.loop-i.amounts c.loop-i.i c.requires.platoons c.loop-i.invariant (omega arith))

pub bounds-as_slice-k : goal.bounds-as_slice-k
bounds-as_slice-k c = omega (arith, ap length c.as_slice.ensures, phase-below c.args.net.now c.args.node c.args.exit c.args.now c.args.window.now.lists c.args.servings.now.phases.now c.args.servings.now.served.now c.loop-i.taken c.loop-i.amounts c.loop-i.i c.requires.platoons c.loop-i.invariant (omega arith))

pub returns-in_default : goal.returns-in_default
returns-in_default c =
    absurd (platoon-there c.args.net.now c.args.node c.args.exit c.args.now c.args.window.now.lists c.args.servings.now.phases.now c.args.servings.now.served.now c.loop-i.taken c.loop-i.amounts c.loop-i.i c.as_slice-in-loop-i.result.now c.requires.platoons c.loop-i.invariant (omega arith)
    (listed c.args.window.now.lists c.as_slice.result.now (get_or c.args.servings.now.phases.now c.loop-i.i 0) c.index-as_slice-k.result c.as_slice-in-loop-i.result.now c.as_slice.ensures (phase-below c.args.net.now c.args.node c.args.exit c.args.now c.args.window.now.lists c.args.servings.now.phases.now c.args.servings.now.served.now c.loop-i.taken c.loop-i.amounts c.loop-i.i c.requires.platoons c.loop-i.invariant (omega arith)) c.index-as_slice-k.is c.as_slice-in-loop-i.ensures) c.in_default.ensures)

pub overflow_add-taken : goal.overflow_add-taken
overflow_add-taken c = omega (arith, c.loop-i.invariant.few (get_or c.args.servings.now.phases.now c.loop-i.i 0))

pub bounds-taken-k-in-loop-i : goal.bounds-taken-k-in-loop-i
bounds-taken-k-in-loop-i c = omega (arith, phases-few c.args.net.now c.args.node c.args.now c.args.window.now.lists c.link-travel.ensures.network c.requires.node c.requires.platoons, phase-below c.args.net.now c.args.node c.args.exit c.args.now c.args.window.now.lists c.args.servings.now.phases.now c.args.servings.now.served.now c.loop-i.taken c.loop-i.amounts c.loop-i.i c.requires.platoons c.loop-i.invariant (omega arith))

pub bounds-taken-k-in-loop-i-2 : goal.bounds-taken-k-in-loop-i-2
bounds-taken-k-in-loop-i-2 c = omega (arith, phases-few c.args.net.now c.args.node c.args.now c.args.window.now.lists c.link-travel.ensures.network c.requires.node c.requires.platoons, phase-below c.args.net.now c.args.node c.args.exit c.args.now c.args.window.now.lists c.args.servings.now.phases.now c.args.servings.now.served.now c.loop-i.taken c.loop-i.amounts c.loop-i.i c.requires.platoons c.loop-i.invariant (omega arith))

pub overflow_sub-first : goal.overflow_sub-first
overflow_sub-first c = omega (arith, serving-late c.args.net.now c.args.node c.args.exit c.args.now c.args.window.now.lists c.args.servings.now.phases.now c.args.servings.now.served.now c.loop-i.taken c.loop-i.amounts c.loop-i.i c.requires.platoons c.loop-i.invariant (omega arith))

pub add_platoon-requires-clause-links : goal.add_platoon-requires-clause-links
add_platoon-requires-clause-links c =
    (found-fit c.args.net.now c.args.node c.args.exit c.args.now c.args.window.now.lists c.args.servings.now.phases.now c.args.servings.now.served.now c.loop-i.taken c.loop-i.amounts c.loop-i.i c.in-Some.platoon.now c.requires.platoons c.loop-i.invariant (omega arith) c.link-travel.ensures.network c.requires.node
    (platoon-found c.args.net.now c.args.node c.args.exit c.args.now c.args.window.now.lists c.args.servings.now.phases.now c.args.servings.now.served.now c.loop-i.taken c.loop-i.amounts c.loop-i.i c.as_slice-in-loop-i.result.now c.in-Some.platoon.now c.requires.platoons c.loop-i.invariant (omega arith)
    (listed c.args.window.now.lists c.as_slice.result.now (get_or c.args.servings.now.phases.now c.loop-i.i 0) c.index-as_slice-k.result c.as_slice-in-loop-i.result.now c.as_slice.ensures (phase-below c.args.net.now c.args.node c.args.exit c.args.now c.args.window.now.lists c.args.servings.now.phases.now c.args.servings.now.served.now c.loop-i.taken c.loop-i.amounts c.loop-i.i c.requires.platoons c.loop-i.invariant (omega arith)) c.index-as_slice-k.is c.as_slice-in-loop-i.ensures) c.in-Some.ensures)).links

pub add_platoon-requires-clause-few : goal.add_platoon-requires-clause-few
add_platoon-requires-clause-few c =
    (found-fit c.args.net.now c.args.node c.args.exit c.args.now c.args.window.now.lists c.args.servings.now.phases.now c.args.servings.now.served.now c.loop-i.taken c.loop-i.amounts c.loop-i.i c.in-Some.platoon.now c.requires.platoons c.loop-i.invariant (omega arith) c.link-travel.ensures.network c.requires.node
    (platoon-found c.args.net.now c.args.node c.args.exit c.args.now c.args.window.now.lists c.args.servings.now.phases.now c.args.servings.now.served.now c.loop-i.taken c.loop-i.amounts c.loop-i.i c.as_slice-in-loop-i.result.now c.in-Some.platoon.now c.requires.platoons c.loop-i.invariant (omega arith)
    (listed c.args.window.now.lists c.as_slice.result.now (get_or c.args.servings.now.phases.now c.loop-i.i 0) c.index-as_slice-k.result c.as_slice-in-loop-i.result.now c.as_slice.ensures (phase-below c.args.net.now c.args.node c.args.exit c.args.now c.args.window.now.lists c.args.servings.now.phases.now c.args.servings.now.served.now c.loop-i.taken c.loop-i.amounts c.loop-i.i c.requires.platoons c.loop-i.invariant (omega arith)) c.index-as_slice-k.is c.as_slice-in-loop-i.ensures) c.in-Some.ensures)).few

pub add_platoon-requires-clause-small : goal.add_platoon-requires-clause-small
add_platoon-requires-clause-small c =
    (found-fit c.args.net.now c.args.node c.args.exit c.args.now c.args.window.now.lists c.args.servings.now.phases.now c.args.servings.now.served.now c.loop-i.taken c.loop-i.amounts c.loop-i.i c.in-Some.platoon.now c.requires.platoons c.loop-i.invariant (omega arith) c.link-travel.ensures.network c.requires.node
    (platoon-found c.args.net.now c.args.node c.args.exit c.args.now c.args.window.now.lists c.args.servings.now.phases.now c.args.servings.now.served.now c.loop-i.taken c.loop-i.amounts c.loop-i.i c.as_slice-in-loop-i.result.now c.in-Some.platoon.now c.requires.platoons c.loop-i.invariant (omega arith)
    (listed c.args.window.now.lists c.as_slice.result.now (get_or c.args.servings.now.phases.now c.loop-i.i 0) c.index-as_slice-k.result c.as_slice-in-loop-i.result.now c.as_slice.ensures (phase-below c.args.net.now c.args.node c.args.exit c.args.now c.args.window.now.lists c.args.servings.now.phases.now c.args.servings.now.served.now c.loop-i.taken c.loop-i.amounts c.loop-i.i c.requires.platoons c.loop-i.invariant (omega arith)) c.index-as_slice-k.is c.as_slice-in-loop-i.ensures) c.in-Some.ensures)).small

pub add_platoon-requires-clause-none : goal.add_platoon-requires-clause-none
add_platoon-requires-clause-none c = λ k le.
    clear-after c.args.net.now c.args.node c.args.exit c.args.now c.args.window.now.lists c.args.servings.now.phases.now c.args.servings.now.served.now c.loop-i.taken c.loop-i.amounts c.loop-i.i k c.link-travel.result.travel c.requires.platoons c.loop-i.invariant (omega arith) (ap (λ (l : Link). l.travel) c.link-travel.ensures.value) le

pub loop-i-preserved : goal.loop-i-preserved
loop-i-preserved c =
    (filling-more c.args.net.now c.args.node c.args.exit c.args.now c.args.window.now.lists c.args.servings.now.phases.now c.args.servings.now.served.now c.loop-i.taken c.loop-i.amounts c.add_platoon.new.amounts c.loop-i.i
    ((get_or c.args.servings.now.served.now c.loop-i.i no_served).start + c.link-travel.result.travel - c.args.now) no_served c.in-Some.platoon.now
    c.requires.platoons c.loop-i.invariant (omega arith) (phases-few c.args.net.now c.args.node c.args.now c.args.window.now.lists c.link-travel.ensures.network c.requires.node c.requires.platoons)
    (platoon-found c.args.net.now c.args.node c.args.exit c.args.now c.args.window.now.lists c.args.servings.now.phases.now c.args.servings.now.served.now c.loop-i.taken c.loop-i.amounts c.loop-i.i c.as_slice-in-loop-i.result.now c.in-Some.platoon.now c.requires.platoons c.loop-i.invariant (omega arith)
    (listed c.args.window.now.lists c.as_slice.result.now (get_or c.args.servings.now.phases.now c.loop-i.i 0) c.index-as_slice-k.result c.as_slice-in-loop-i.result.now c.as_slice.ensures (phase-below c.args.net.now c.args.node c.args.exit c.args.now c.args.window.now.lists c.args.servings.now.phases.now c.args.servings.now.served.now c.loop-i.taken c.loop-i.amounts c.loop-i.i c.requires.platoons c.loop-i.invariant (omega arith)) c.index-as_slice-k.is c.as_slice-in-loop-i.ensures) c.in-Some.ensures)
    (omega (arith, serving-late c.args.net.now c.args.node c.args.exit c.args.now c.args.window.now.lists c.args.servings.now.phases.now c.args.servings.now.served.now c.loop-i.taken c.loop-i.amounts c.loop-i.i c.requires.platoons c.loop-i.invariant (omega arith), ap (λ (l : Link). l.travel) c.link-travel.ensures.value))
    (omega arith)
    c.add_platoon.ensures.near
    (λ k le lt. c.add_platoon.ensures.far k le (omega arith))
    c.link-travel.ensures.network c.requires.node)

pub returns : goal.returns
returns c = filling-all c.args.net.now c.args.node c.args.exit c.args.now c.args.window.now.lists c.args.servings.now.phases.now c.args.servings.now.served.now c.loop-i.taken c.loop-i.amounts c.loop-i.i c.requires.platoons c.requires.served c.loop-i.invariant (omega arith) c.link-travel.ensures.network
