-- What a node has heard in a round is what stands at the places of its readings.
use Rattle.std.proofs.Common.{◌≡◌, ℕ, ◌<◌, true, false, drop, List, [], ◌∷◌, Option, Some, None, All, length, map, get_or, is_some, refl, sym, ap, subst, ◌∙◌, inl, inr, arith}
use Rattle.std.specs.Prelude.{Contains, IfSome, unwrap_or}
use Rattle.std.specs.List.Sorted.{IsStrictlyIncreasing}
use Rattle.std.proofs.lemmas.Bool.{cases_lt}
use Rattle.std.proofs.lemmas.List.{get_or_default, get_or-map, length-map}
use Rattle.std.proofs.lemmas.List.Elements.{All-filter, All-get_or, filter_passes}
use Rattle.std.proofs.lemmas.List.Kept.{AllPairs-from_increasing, IsStrictlyIncreasing-filter}
use Rattle.board_model.specs.declared.boards.Heard.{Heard}
use Rattle.histories.specs.Histories.{version_at}
use Rattle.histories.specs.Steps.{board_steps, publisher}
use Rattle.intersection_actor.specs.Acting.{reading}
use Rattle.intersection_actor.specs.Commits.{Commitment}
use Rattle.intersection_actor.specs.declared.records.Want.TheVariants.{Read, Commit}
use Rattle.net_parts.specs.Numbers.{Net, no_link}
use Rattle.net_parts.specs.Outline.{IsLink, link_at}
use Rattle.net_parts.specs.declared.roads.Link.{Link}
use Rattle.road_net.specs.Joins as joins
use Rattle.road_net.specs.Joins.{links_of_node, node_at}
use Rattle.road_net.specs.Network.{IsNetwork, entry_links, heard_links}
use Rattle.road_net.proofs.AtSide.{links_of_node-are}
use Rattle.runs.specs.Runs.{AllCommit, HearAlong, hearing}
use Rattle.runs.proofs.Places.{StandsAt, read-step}

-- the links at a side of a node rise, and have the node at that side
pub rise-at : (side : _) (links : List Link) (n : ℕ) → IsStrictlyIncreasing (links_of_node side links n)
rise-at side links n = (links_of_node-are side n links).rising

pub have-at : (side : _) (links : List Link) (n : ℕ) → All (λ l. (l < length links) × (node_at side (joins.link_at links l) ≡ Some n)) (links_of_node side links n)
have-at side links n = (links_of_node-are side n links).have

entry-rise : (net : Net) (n : ℕ) → IsStrictlyIncreasing (entry_links net n)
entry-rise net n = search (rise-at)

entry-have : (net : Net) (n : ℕ) → All (λ l. (l < length net.links) × ((link_at net l).to ≡ Some n)) (entry_links net n)
entry-have net n = search (have-at)

-- the links on which a node hears another one rise
heard-rise : (net : Net) (n : ℕ) → IsStrictlyIncreasing (heard_links net n)
heard-rise net n = IsStrictlyIncreasing-filter (λ l. is_some (link_at net l).from) (entry_links net n) (entry-rise net n)

-- so they differ
pub heard-once : (net : Net) (n i j : ℕ) → i < length (heard_links net n) → j < length (heard_links net n) → get_or (heard_links net n) i 0 ≡ get_or (heard_links net n) j 0 → i ≡ j
heard-once net n i j first second same =
    let up = AllPairs-from_increasing (heard_links net n) (heard-rise net n) in
    elim (cases_lt i j) [
      | inl less ↦ absurd (omega (arith, up i j 0 less second, same))
      | inr more ↦ elim (cases_lt j i) [
        | inl less ↦ absurd (omega (arith, up j i 0 less first, same))
        | inr none ↦ omega arith
      ]
    ]

-- the ends of such a link: the node hears another one there
pub record Ends (net : Net) (n link : ℕ) : Type 0 where
  pub teller : ℕ
  pub below : teller < length net.node_names
  pub exists : link < length net.links
  pub from : (link_at net link).from ≡ Some teller
  pub to : (link_at net link).to ≡ Some n
  pub tells : publisher net link ≡ teller

pub heard-ends : (net : Net) (n q : ℕ) → IsNetwork net → q < length (heard_links net n) → Ends net n (get_or (heard_links net n) q 0)
heard-ends net n q network inside =
    let link : ℕ = get_or (heard_links net n) q 0 in
    let comes : is_some (link_at net link).from ≡ true = All-get_or (λ l. is_some (link_at net l).from ≡ true) (heard_links net n) q 0 inside (filter_passes (λ l. is_some (link_at net l).from) (entry_links net n)) in
    let at : (link < length net.links) × ((link_at net link).to ≡ Some n) = All-get_or (λ l. (l < length net.links) × ((link_at net l).to ≡ Some n)) (heard_links net n) q 0 inside (All-filter (λ l. is_some (link_at net l).from) (λ l. (l < length net.links) × ((link_at net l).to ≡ Some n)) (entry_links net n) (entry-have net n)) in
    let is : IsLink (length net.node_names) (link_at net link) = All-get_or (IsLink (length net.node_names)) net.links link no_link at.0 network.outline.links in
    by link (link_at net link).from refl comes is.from at
  where
    by : (link : ℕ) (o : Option ℕ) → (link_at net link).from ≡ o → is_some o ≡ true → IfSome o (λ k. k < length net.node_names) → (link < length net.links) × ((link_at net link).to ≡ Some n) → Ends net n link
    by link None e comes below at = absurd (let f : false ≡ true = comes in cc)
    by link (Some f) e comes below at = record { teller = f; below = below; exists = at.0; from = e; to = at.1; tells = ap (λ (o : Option ℕ). unwrap_or o 0) e }

module _ (net : Net) (arriving : ℕ → ℕ → ℕ) (h : List ℕ) (heard : ℕ → ℕ → List Heard) (made : ℕ → ℕ → Commitment) (rounds : ℕ) (commits : AllCommit net arriving heard made rounds) (along : HearAlong net h heard made) where
  -- a node has heard as much as it hears in a round
  pub heard-count : (r n : ℕ) → r < rounds → n < length net.node_names → length (heard r n) ≡ length (heard_links net n)
  heard-count r n less below = sym (length-map (heard r n) (λ (x : Heard). x.link)) ∙ ap length (commits r n less below).links

  pub heard-at : (r n q place : ℕ) → r < rounds → n < length net.node_names → q < length (heard_links net n) → StandsAt net h r n q place
      → (d : Heard) → get_or (heard r n) q d ≡ hearing net made (get_or (heard_links net n) q 0) (version_at (board_steps net) h (get_or (heard_links net n) q 0) place)
  heard-at r n q place less below inside at d =
      let l : ℕ = get_or (heard_links net n) q 0 in
      let x : Heard = hearing net made l (version_at (board_steps net) h l place) in
      let there : Contains (heard r n) x = subst (λ m. Contains (heard r m) x) at.node_there (subst (λ s. Contains (heard s (get_or h place 0)) x) at.round_is (along place l at.inside (at.step_is ∙ read-step net n q inside))) in
      let k : ℕ = there.0 in
      let links : map (λ (y : Heard). y.link) (heard r n) ≡ heard_links net n = (commits r n less below).links in
      let long : length (heard r n) ≡ length (heard_links net n) = heard-count r n less below in
      let own : get_or (heard_links net n) k 0 ≡ l = ap (λ ls. get_or ls k 0) (sym links) ∙ get_or-map (λ (y : Heard). y.link) (heard r n) k x 0 there.1 ∙ ap (λ (y : Heard). y.link) there.2 in
      let same : k ≡ q = heard-once net n k q (let b = there.1 in omega arith) inside own in
      get_or_default (heard r n) q d x (omega arith) ∙ ap (λ j. get_or (heard r n) j x) (sym same) ∙ there.2

-- what wants to read has links left, and what does not has none
pub reading-more : (links : List ℕ) (link : ℕ) → reading links ≡ Read link → links ≡ link ∷ drop 1 links
reading-more [] link e = absurd (never e)
  where
    never : Commit ≡ Read link → ⊥
    never e = cc
reading-more (l ∷ links) link e = ap (λ k. k ∷ links) (same e)
  where
    same : Read l ≡ Read link → l ≡ link
    same e = cc
