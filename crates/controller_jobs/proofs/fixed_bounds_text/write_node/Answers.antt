use Rattle.std.proofs.Common.{ℕ, ◌<◌, List, Option, Result, length, get_or, ap, subst, ◌∙◌, ◌∷◌, [], arith}
use Rattle.std.proofs.lemmas.List.FromFn.{get_or-map-range_with_len, length-map-range_with_len}
use Rattle.world_records.specs.Written.{Adds}
use Rattle.world_records.proofs.WrittenLaws.{adds-next, adds-numbers}
use Rattle.net_parts.specs.Outline.{plan_at}
use Rattle.fixed_plans.specs.FixedBounds.{fixed_bounds}
use Rattle.fixed_plans.specs.Reds.{fixed_red}
use Rattle.waits.specs.Bounds.{phase_bounds}
use Rattle.waits.specs.declared.bounds.NoBound.{NoBound}
use Rattle.waits.specs.declared.bounds.PhaseBounds.{PhaseBounds}
use Rattle.controller_jobs.specs.Bounds.{fixed_record}
use Rattle.controller_jobs.proofs.fixed_bounds_text.write_node.Goals as goal

pub index-own-requires : goal.index-own-requires
index-own-requires c =
    omega (
      arith,
      c.loop-phase-test.true,
      c.count-phase-end.ensures.count,
      ap length c.plan.ensures.value,
      c.in_ok-fixed.fixed.ok.0,
      ap length c.in_ok-fixed.ensures,
      length-map-range_with_len (fixed_bounds c.args.net.now c.args.plan.now c.args.node) 0 (length (plan_at c.args.net.now c.args.node)),
    )

pub index-red-requires : goal.index-red-requires
index-red-requires c =
    omega (
      arith,
      c.loop-phase-test.true,
      c.count-phase-end.ensures.count,
      ap length c.plan.ensures.value,
      c.in_ok-reds.reds.ok.0,
      ap length c.in_ok-reds.ensures,
      length-map-range_with_len (fixed_red c.args.net.now c.args.plan.now c.args.node) 0 (length (plan_at c.args.net.now c.args.node)),
    )

pub loop-phase-preserved : goal.loop-phase-preserved
loop-phase-preserved c =
    let net = c.args.net.now in
    let k = c.loop-phase.phase in
    let under = fixed_bounds net c.args.plan.now c.args.node in
    let own : Result ℕ NoBound = c.index-own.result.now in
    let below : k < length (plan_at net c.args.node) = omega (arith, c.loop-phase-test.true, c.count-phase-end.ensures.count, ap length c.plan.ensures.value) in
    let is = c.index-own.ensures ∙ ap (λ (l : List (Result ℕ NoBound)). get_or l k own) c.in_ok-fixed.ensures ∙ get_or-map-range_with_len under 0 (length (plan_at net c.args.node)) k k own below (omega arith) in
    let red_of = fixed_red net c.args.plan.now c.args.node in
    let red : Option ℕ = c.index-red.result.now in
    let red_is = c.index-red.ensures ∙ ap (λ (l : List (Option ℕ)). get_or l k red) c.in_ok-reds.ensures ∙ get_or-map-range_with_len red_of 0 (length (plan_at net c.args.node)) k k red below (omega arith) in
    let same = ap (λ (b : PhaseBounds). fixed_record net b own red) c.phase_bounds.ensures.value ∙ ap (λ (f : Result ℕ NoBound). fixed_record net (phase_bounds net c.args.node k) f red) is
    ∙ ap (fixed_record net (phase_bounds net c.args.node k) (under k)) red_is in
    adds-next (λ n. fixed_record net (phase_bounds net c.args.node n) (fixed_bounds net c.args.plan.now c.args.node n) (fixed_red net c.args.plan.now c.args.node n)) k c.args.out.now c.loop-phase.out c.write_bounds.new.out c.loop-phase.invariant
    (subst (λ (r : List (List ℕ)). Adds c.loop-phase.out c.write_bounds.new.out (r ∷ [])) same c.in_ok-write_bounds.ensures)

pub returns : goal.returns
returns c =
    let net = c.args.net.now in
    adds-numbers (λ k. fixed_record net (phase_bounds net c.args.node k) (fixed_bounds net c.args.plan.now c.args.node k) (fixed_red net c.args.plan.now c.args.node k)) c.loop-phase.phase (length (plan_at net c.args.node)) c.args.out.now c.loop-phase.out
    (omega (arith, ap length c.plan.ensures.value)) c.loop-phase.invariant
