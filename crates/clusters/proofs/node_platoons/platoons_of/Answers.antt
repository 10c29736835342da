use Rattle.std.proofs.Common.{◌≡◌, Vec, Global, ℕ, ◌≤◌, ◌∙◌, ap, length, replicate, subst, sym, arith}
use Rattle.std.proofs.lemmas.List.{length-replicate, take-replicate}
use Rattle.std.proofs.lemmas.Result.{IfOk-weaker}
use Rattle.phase_plan.specs.Phases.{phase_at}
use Rattle.net_parts.specs.declared.drafts.Run.{Run}
use Rattle.clusters.specs.Platoons.{streams_of, together}
use Rattle.clusters.specs.Steps.{ArePlatoonsAsked, AreStreams}
use Rattle.clusters.specs.declared.vehicle_groups.Platoon.{Platoon}
use Rattle.clusters.proofs.AskedLaws.{asked-made}
use Rattle.clusters.proofs.PlatoonLaws.{streams-exist, streams-sound}
use Rattle.clusters.proofs.node_platoons.platoons_of.Goals as goal

pub together-requires-clause-none : goal.together-requires-clause-none
together-requires-clause-none c =
    let z : ℕ = 0 in
    let short : c.run-run.result.look ≤ 180 = omega (arith, ap (λ (run : Run). run.look) c.run-run.ensures.value, c.run-run.ensures.network.outline.run.look.1) in
    let first = take-replicate c.run-run.result.look 180 z short in
    first ∙ ap (λ n. replicate n z) (sym (ap length first ∙ length-replicate c.run-run.result.look z))

pub together-requires-clause-streams : goal.together-requires-clause-streams
together-requires-clause-streams c =
    let z : ℕ = 0 in
    let short : c.run-run.result.look ≤ 180 = omega (arith, ap (λ (run : Run). run.look) c.run-run.ensures.value, c.run-run.ensures.network.outline.run.look.1) in
    let first = take-replicate c.run-run.result.look 180 z short in
    subst (λ n. AreStreams n c.as_slice.result.now) (sym (ap length first ∙ length-replicate c.run-run.result.look z))
    (rw c.as_slice.ensures
    (streams-sound c.args.net.now c.args.node c.args.phase c.args.sensed.now c.args.heard.now c.phase_links.result.now c.in_ok-streams.streams c.run-run.result.look
    c.plan.ensures.network c.requires.node c.requires.phase c.phase_links.ensures.value (ap (λ (r : Run). r.look) c.run-run.ensures.value) c.in_ok-streams.ensures))

pub gather_platoons-requires-clause-links : goal.gather_platoons-requires-clause-links
gather_platoons-requires-clause-links c =
    streams-exist c.args.net.now c.args.node c.args.phase c.args.sensed.now c.args.heard.now c.phase_links.result.now c.in_ok-streams.streams
    c.plan.ensures.network c.requires.node c.requires.phase c.phase_links.ensures.value c.in_ok-streams.ensures

pub gather_platoons-requires-clause-streams : goal.gather_platoons-requires-clause-streams
gather_platoons-requires-clause-streams c =
    let z : ℕ = 0 in
    let short : c.run-run.result.look ≤ 180 = omega (arith, ap (λ (run : Run). run.look) c.run-run.ensures.value, c.run-run.ensures.network.outline.run.look.1) in
    let look : length c.together.new.series ≡ c.run-run.result.look =
    c.together.auto.series ∙ ap length (take-replicate c.run-run.result.look 180 z short) ∙ length-replicate c.run-run.result.look z in
    rw look
    (streams-sound c.args.net.now c.args.node c.args.phase c.args.sensed.now c.args.heard.now c.phase_links.result.now c.in_ok-streams.streams c.run-run.result.look
    c.plan.ensures.network c.requires.node c.requires.phase c.phase_links.ensures.value (ap (λ (r : Run). r.look) c.run-run.ensures.value) c.in_ok-streams.ensures)

pub returns : goal.returns
returns c =
    let z : ℕ = 0 in
    let short : c.run-run.result.look ≤ 180 = omega (arith, ap (λ (run : Run). run.look) c.run-run.ensures.value, c.run-run.ensures.network.outline.run.look.1) in
    let look : length c.together.new.series ≡ c.run-run.result.look =
    c.together.auto.series ∙ ap length (take-replicate c.run-run.result.look 180 z short) ∙ length-replicate c.run-run.result.look z in
    let brings = c.together.ensures ∙ ap (λ n. together c.as_slice.result.now n) (sym c.together.auto.series) ∙ ap (λ ss. together ss (length c.together.new.series)) c.as_slice.ensures in
    IfOk-weaker c.gather_platoons.result _ (λ (list : Vec Platoon Global). ArePlatoonsAsked c.args.asked.age c.args.asked.rate c.args.asked.split c.args.net.now c.args.node c.args.phase c.args.sensed.now c.args.heard.now list.items)
    (λ list are.
    asked-made c.args.asked.age c.args.asked.rate c.args.asked.split c.args.net.now c.args.node c.args.phase c.args.sensed.now c.args.heard.now list.items c.run-run.result.gap (length c.together.new.series) _ c.phase-times.result.now c.together.new.series c.in_ok-streams.streams
    (ap (λ (run : Run). run.gap) c.run-run.ensures.value) (look ∙ ap (λ (run : Run). run.look) c.run-run.ensures.value) (c.phase-times.ensures.value ∙ ap (λ p. phase_at p c.args.phase) c.plan.ensures.value)
    (c.in_ok-streams.ensures ∙ ap (streams_of c.args.net.now c.args.sensed.now c.args.heard.now) c.phase_links.ensures.value)
    brings c.first_in_green.ensures.value are)
    c.gather_platoons.ensures
