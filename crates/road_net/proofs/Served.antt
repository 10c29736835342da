-- The links that the phases of a network serve.
use Rattle.std.proofs.Common.{◌≡◌, ◌≢◌, ℕ, ◌<◌, List, [], length, get_or, Some, IfSome, AllPairs, Contains, refl, ap, ◌∙◌, sym, arith}
use Rattle.std.proofs.lemmas.List.{get_or_default}
use Rattle.net_parts.specs.Numbers.{Net, no_link, phase_of}
use Rattle.road_net.specs.Joins.{IsPhased}
use Rattle.net_parts.specs.Outline.{IsOutline, phases_at, phase_links_at, plan_at, link_at}
use Rattle.road_net.specs.Network.{IsJoined, IsServed}
use Rattle.road_net.proofs.Serving.{named-here, named-there, named-once}

module _ (net : Net) (ok : IsOutline net) (joined : IsJoined net) where
  in_nodes : (n : ℕ) → n < length net.node_names → n < length net.phase_links
  in_nodes n h = omega (arith, ok.phases_count)

  in_phases : (n k : ℕ) → n < length net.node_names → k < length (plan_at net n) → k < length (phases_at net n)
  in_phases n k h g = omega (arith, ok.phase_counts n h)

  exists : (n k i : ℕ) → n < length net.node_names → k < length (plan_at net n) → i < length (phase_links_at net n k) → get_or (phase_links_at net n k) i 0 < length net.links
  exists n k i h g f = omega (arith, (ok.phase_links n [] (in_nodes n h) k [] (in_phases n k h g)).exist i 0 f, ok.road_count)

  ends_within : (l : ℕ) → l < length net.links → IfSome (link_at net l).to (λ m. m < length net.phase_links)
  ends_within l h = rw ok.phases_count (ok.links l no_link h).to

  served-phase_links : (n k i : ℕ) → n < length net.node_names → k < length (plan_at net n) → i < length (phase_links_at net n k)
      → ((link_at net (get_or (phase_links_at net n k) i 0)).to ≡ Some n) × ((link_at net (get_or (phase_links_at net n k) i 0)).phase ≡ k)
  served-phase_links n k i h g f =
      let l : ℕ = get_or (phase_links_at net n k) i 0 in
      let here = exists n k i h g f in
      let (ends, phase) = named-here net.phase_links l n k i (in_nodes n h) (in_phases n k h g) f refl (link_at net l).to (ends_within l here) (joined.phases l here) in
      (ends, ok.phases l here ∙ phase)

  served-differ : (n k : ℕ) → n < length net.node_names → k < length (plan_at net n) → AllPairs (λ a b. a ≢ b) (phase_links_at net n k)
  served-differ n k h g i j d less f same =
      let list : List ℕ = phase_links_at net n k in
      let before : i < length list = omega arith in
      let l : ℕ = get_or list i 0 in
      let second : get_or list j 0 ≡ l = get_or_default list j 0 d f ∙ sym same ∙ get_or_default list i d 0 before in
      let here = exists n k i h g before in
      named-once net.phase_links l n k i j (in_nodes n h) (in_phases n k h g) less f refl second (link_at net l).to (joined.phases l here)

  served-entries : (l n : ℕ) → l < length net.link_names → (link_at net l).to ≡ Some n → ((link_at net l).phase < length (plan_at net n)) × Contains (phase_links_at net n (link_at net l).phase) l
  served-entries l n h ends =
      let here : l < length net.links = omega (arith, ok.road_count) in
      let phased : IsPhased net.phase_links l (Some n) = rw ends at (joined.phases l here) in
      let (inside, there) = named-there net.phase_links l n phased in
      let phase : (link_at net l).phase ≡ phase_of net.phase_links l (Some n) = ok.phases l here ∙ ap (phase_of net.phase_links l) ends in
      let node : n < length net.node_names = rw ends at (ok.links l no_link here).to in
      (rw phase (omega (arith, inside, ok.phase_counts n node)), rw phase there)

  pub served : IsServed net
  served = record { phase_links = served-phase_links; differ = served-differ; entries = served-entries }
