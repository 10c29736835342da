use Rattle.std.proofs.Common.{ℕ, ◌*◌, length, refl, ap, ◌∙◌, arith}
use Rattle.std.proofs.lemmas.List.{get_or-replicate, length-replicate}
use Rattle.net_simulator.specs.Counts.{no_totals}
use Rattle.net_simulator.specs.LinkGreens.{never}
use Rattle.net_simulator.proofs.Passing.{stands-new, zeros}
use Rattle.net_simulator.proofs.world.World.new.Goals as goal
use Rattle.control_flow.specs.declared.greens.Sign.TheVariants.{Dark}

pub returns-clause-stands : goal.returns-clause-stands
returns-clause-stands c arriving shown =
    let links = c.links-links.ensures.value in
    stands-new c.args.net.now arriving shown _ refl
    (record {
      signs = ap length c.in_ok-signs.ensures ∙ length-replicate _ Dark ∙ c.nodes.ensures.value;
      since = ap length c.in_ok-since.ensures ∙ length-replicate _ never ∙ links;
      queues = ap length c.in_ok-queues.ensures ∙ length-replicate _ 0 ∙ links;
      recent = ap length c.in_ok-recent.ensures ∙ length-replicate _ 0 ∙ ap (λ (n : ℕ). n * 128) links;
      waits = ap length c.in_ok-waits.ensures ∙ length-replicate _ 0 ∙ ap (λ (n : ℕ). n * 128) links;
      stood = ap length c.in_ok-stood.ensures ∙ length-replicate _ 0 ∙ links;
      counts = ap length c.in_ok-counts.ensures ∙ length-replicate _ no_totals ∙ links;
      walks = c.has_walks.ensures;
    })
    (λ k. rw c.in_ok-queues.ensures (zeros _ k 0))
    (λ k. rw c.in_ok-recent.ensures (zeros _ k 0))
    (λ k. rw c.in_ok-waits.ensures (zeros _ k 0))
    (λ k. rw c.in_ok-stood.ensures (zeros _ k 0))
    (λ k. rw c.in_ok-counts.ensures (zeros _ k no_totals))
    refl
    (λ k. rw c.in_ok-signs.ensures (zeros _ k Dark))
    (λ k h. rw c.in_ok-since.ensures (get_or-replicate _ k never 0 (omega (arith, h, links))))
