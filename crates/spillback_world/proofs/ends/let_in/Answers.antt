use Rattle.std.proofs.Common.{◌≡◌, ℕ, ◌+◌, ◌-◌, ◌<◌, min, length, slice_index, ap, add-one, ◌∙◌, inl, inr, arith}
use Rattle.std.proofs.lemmas.Bool.Decides.{eqb_tells}
use Rattle.road_net.specs.Totals.{total}
use Rattle.arrivals.specs.Amounts.{arriving_of}
use Rattle.spillback_world.specs.Filling.{room_of}
use Rattle.spillback_world.specs.Steps.{comes_of}
use Rattle.spillback_world.proofs.Setting.{first-more, rest-still}
use Rattle.spillback_world.proofs.ends.let_in.Goals as goal

pub loop-l-preserved : goal.loop-l-preserved
loop-l-preserved c =
    let l = c.loop-l in
    let gate = c.args.gate.now in
    let store = gate.store.now in
    let come : ℕ → ℕ = arriving_of gate.arrivals.now gate.second in
    let comes : ℕ → ℕ = comes_of store c.args.held.now c.args.outside.now come in
    let amount : ℕ = c.min-amount.result in
    let waits : ℕ = slice_index l.outside l.l + c.next_amount-arriving.result.0 in
    let comes_now : c.next_amount-arriving.result.0 ≡ come l.l = c.next_amount-arriving.ensures.amount ∙ l.invariant.coming l.l (omega arith) in
    let inside : l.l < length l.outside = omega (arith, c.loop-l-test.true, c.requires.outside, l.auto.outside) in
    let there : l.l < length l.held = omega (arith, c.loop-l-test.true, c.requires.held, l.auto.held) in
    let all : waits ≡ slice_index c.args.outside.now l.l + come l.l = ap (λ q. q + c.next_amount-arriving.result.0) (l.invariant.waiting l.l (omega arith)) ∙ ap (λ a. slice_index c.args.outside.now l.l + a) comes_now in
    let room : c.room.result ≡ room_of store c.args.held.now l.l = c.room.ensures ∙ ap (λ h. slice_index store l.l - h) (l.invariant.holding l.l (omega arith)) in
    let is : amount ≡ comes l.l = c.min-amount.ensures ∙ ap (λ w. min w c.room.result) all ∙ ap (min (slice_index c.args.outside.now l.l + come l.l)) room in
    record {
      rising = c.next_amount-arriving.ensures.rising;
      coming = λ k h. c.next_amount-arriving.ensures.later k (omega (arith, h)) ∙ l.invariant.coming k (omega (arith, h));
      outside = first-more (λ k. slice_index c.args.outside.now k + come k - comes k) l.outside l.l (waits - amount) inside (ap (λ w. w - amount) all ∙ ap (λ a. slice_index c.args.outside.now l.l + come l.l - a) is) l.invariant.outside;
      held = first-more (λ k. slice_index c.args.held.now k + comes k) l.held l.l (slice_index l.held l.l + amount) there (ap (λ h. h + amount) (l.invariant.holding l.l (omega arith)) ∙ ap (λ a. slice_index c.args.held.now l.l + a) is) l.invariant.held;
      here = λ k h. elim (eqb_tells k l.l) [
        | inl p ↦ rw p.1 (c.put.ensures.here ∙ ap (λ a. slice_index c.args.entering.now l.l + a) is)
        | inr q ↦ let ne = q.1 in c.put.ensures.links k gate.second ne ∙ l.invariant.here k (omega (arith, h))
      ];
      others = λ k y other. c.put.ensures.seconds k y other ∙ l.invariant.others k y other;
      waiting = rest-still (slice_index c.args.outside.now) l.outside l.l (waits - amount) l.invariant.waiting;
      holding = rest-still (slice_index c.args.held.now) l.held l.l (slice_index l.held l.l + amount) l.invariant.holding;
      all = omega (arith, l.invariant.all, is, ap (total comes) (add-one l.l));
      most = omega (arith, l.invariant.most);
    }
