-- The links of phases: those that they serve, and those that they name also.
use Rattle.std.proofs.Common.{◌≡◌, ℕ, List, Some, refl, ap, ◌∙◌}
use Rattle.std.proofs.lemmas.Option.{same_Some}
use Rattle.foundation.specs.Options.{◌>>=◌, each}
use Rattle.foundation.proofs.OptionLaws.{bind-some}
use Rattle.net_parts.specs.declared.drafts.DraftNode.{DraftNode}
use Rattle.net_parts.specs.declared.drafts.DraftPhase.{DraftPhase}
use Rattle.net_parts.specs.Numbers.{number_of, phases_of, also_of}
use Rattle.net_build.specs.Stages.{phase_greens_of, greens_of}

-- of phases, and from their two lists
pub phase-parts : (links : List (List ℕ)) (ps : List DraftPhase) (lists : List (List ℕ) × List (List ℕ)) → phase_greens_of links ps ≡ Some lists
    → (each (λ (p : DraftPhase). each (number_of links) p.links) ps ≡ Some lists.0) × (each (λ (p : DraftPhase). each (number_of links) p.also) ps ≡ Some lists.1)
unfolding phase_greens_of
phase-parts links ps lists is =
    let (serves, all, rest) = bind-some (each (λ (p : DraftPhase). each (number_of links) p.links) ps) (λ serves. each (λ (p : DraftPhase). each (number_of links) p.also) ps >>= λ also. Some (serves, also)) lists is in
    let (also, further, last) = bind-some (each (λ (p : DraftPhase). each (number_of links) p.also) ps) (λ also. Some (serves, also)) lists rest in
    let same = same_Some _ _ last in
    (all ∙ ap (λ r. Some r.0) same, further ∙ ap (λ r. Some r.1) same)

pub phase-whole : (links : List (List ℕ)) (ps : List DraftPhase) (serves also : List (List ℕ)) → each (λ (p : DraftPhase). each (number_of links) p.links) ps ≡ Some serves → each (λ (p : DraftPhase). each (number_of links) p.also) ps ≡ Some also
    → phase_greens_of links ps ≡ Some (serves, also)
unfolding phase_greens_of
phase-whole links ps serves also is are = rw (is, are) refl

-- the same of nodes
pub greens-parts : (links : List (List ℕ)) (ns : List DraftNode) (lists : List (List (List ℕ)) × List (List (List ℕ))) → greens_of links ns ≡ Some lists
    → (each (phases_of links) ns ≡ Some lists.0) × (each (also_of links) ns ≡ Some lists.1)
unfolding greens_of
greens-parts links ns lists is =
    let (serves, all, rest) = bind-some (each (phases_of links) ns) (λ serves. each (also_of links) ns >>= λ also. Some (serves, also)) lists is in
    let (also, further, last) = bind-some (each (also_of links) ns) (λ also. Some (serves, also)) lists rest in
    let same = same_Some _ _ last in
    (all ∙ ap (λ r. Some r.0) same, further ∙ ap (λ r. Some r.1) same)

pub greens-whole : (links : List (List ℕ)) (ns : List DraftNode) (serves also : List (List (List ℕ))) → each (phases_of links) ns ≡ Some serves → each (also_of links) ns ≡ Some also → greens_of links ns ≡ Some (serves, also)
unfolding greens_of
greens-whole links ns serves also is are = rw (is, are) refl
