-- The numbers of a draft within its bounds.
use Rattle.std.proofs.Common.{◌≡◌, ℕ, ◌<◌, ◌≤◌, false, List, [], ◌∷◌, length, get_or, All, Option, Some, None, IfSome, refl, ◌∙◌, sym, subst, arith}
use Rattle.std.specs.Bool.{⊤}
use Rattle.std.proofs.lemmas.List.{length-map, get_or-map, get_or_default}
use Rattle.std.proofs.lemmas.List.Elements.{All-map, All-weaker}
use Rattle.std.proofs.lemmas.Option.{same_Some}
use Rattle.phase_plan.specs.Phases.{IsOwnRing}
use Rattle.foundation.specs.Options.{each}
use Rattle.foundation.proofs.OptionLaws.{bind-some}
use Rattle.foundation.proofs.EachLaws.{each-length, each-at, each-All}
use Rattle.net_parts.specs.declared.drafts.Draft.{Draft}
use Rattle.net_parts.specs.declared.drafts.DraftNode.{DraftNode}
use Rattle.net_parts.specs.declared.drafts.DraftPhase.{DraftPhase}
use Rattle.net_parts.specs.declared.drafts.DraftLink.{DraftLink}
use Rattle.net_parts.specs.declared.drafts.DraftTurn.{DraftTurn}
use Rattle.net_parts.specs.declared.drafts.DraftYield.{DraftYield}
use Rattle.net_parts.specs.declared.drafts.DraftConflict.{DraftConflict}
use Rattle.net_parts.specs.declared.roads.Link.{Link}
use Rattle.net_parts.specs.declared.roads.Turn.{Turn}
use Rattle.net_parts.specs.Bounds.{IsName, IsBounded, IsBoundedNode, IsBoundedPhase, IsBoundedLink, IsBoundedTurn, HasYieldBounds}
use Rattle.net_parts.specs.Numbers.{Net, no_link, AreDistinct, number_of, number_if, yield_names, yield_sat, phase_of, plan_of, phases_of, also_of, link_of, turn_of, turns_of, yields_of, conflict_of, node_names, link_names, numbered}
use Rattle.net_parts.specs.Outline.{IsOutline, IsLink, AreTurns, ArePhaseLinks, IsYieldSat, phases_at, also_at, plan_at, link_at, yields_at}
use Rattle.net_parts.proofs.OutlineLaws.{counts-most}
use Rattle.net_parts.proofs.DraftParts.{IsNumbered, numbered-parts, number_of-within, number_if-within, number_of-own}
use Rattle.net_build.proofs.Plans.{IsOwnRing-from_bounds, count-not_one}

anything : {X : Type 0} (xs : List X) → All (λ _. ⊤) xs
anything xs k d h = tt

-- numbers of names, of which there are few
names-bounds : (links names : List (List ℕ)) (numbers : List ℕ) → length names ≤ 16 → each (number_of links) names ≡ Some numbers → ArePhaseLinks (length links) numbers
names-bounds links names numbers few is = record {
  count = rw (each-length (number_of links) names numbers is) few;
  exist = each-All (number_of links) (λ _. ⊤) (λ l. l < length links) (λ name n _ h. number_of-within links name n h) names numbers (anything names) is;
}

-- the links of a phase, of a node
phase_links-bounds : (links : List (List ℕ)) (p : DraftPhase) (numbers : List ℕ) → IsBoundedPhase p → each (number_of links) p.links ≡ Some numbers → ArePhaseLinks (length links) numbers
phase_links-bounds links p numbers bounds is = names-bounds links p.links numbers bounds.links is

also_links-bounds : (links : List (List ℕ)) (p : DraftPhase) (numbers : List ℕ) → IsBoundedPhase p → each (number_of links) p.also ≡ Some numbers → ArePhaseLinks (length links) numbers
also_links-bounds links p numbers bounds is = names-bounds links p.also numbers bounds.also is

phases-bounds : (links : List (List ℕ)) (n : DraftNode) (lists : List (List ℕ)) → IsBoundedNode n → phases_of links n ≡ Some lists → All (ArePhaseLinks (length links)) lists
phases-bounds links n lists bounds is = each-All (λ (p : DraftPhase). each (number_of links) p.links) IsBoundedPhase (ArePhaseLinks (length links)) (phase_links-bounds links) n.phases lists bounds.phases is

also-bounds : (links : List (List ℕ)) (n : DraftNode) (lists : List (List ℕ)) → IsBoundedNode n → also_of links n ≡ Some lists → All (ArePhaseLinks (length links)) lists
also-bounds links n lists bounds is = each-All (λ (p : DraftPhase). each (number_of links) p.also) IsBoundedPhase (ArePhaseLinks (length links)) (also_links-bounds links) n.phases lists bounds.phases is

also-count : (links : List (List ℕ)) (n : DraftNode) (lists : List (List ℕ)) → also_of links n ≡ Some lists → length lists ≡ length n.phases
also-count links n lists is = each-length (λ (p : DraftPhase). each (number_of links) p.also) n.phases lists is

phases-count : (links : List (List ℕ)) (n : DraftNode) (lists : List (List ℕ)) → phases_of links n ≡ Some lists → length lists ≡ length n.phases
phases-count links n lists is = each-length (λ (p : DraftPhase). each (number_of links) p.links) n.phases lists is

-- the phases of a node are at most 4
pub phases-few : (links : List (List ℕ)) (nodes : List DraftNode) (lists : List (List (List ℕ))) → All IsBoundedNode nodes → each (phases_of links) nodes ≡ Some lists → All (λ phases. length phases ≤ 4) lists
phases-few links nodes lists bounds is = each-All (phases_of links) IsBoundedNode (λ phases. length phases ≤ 4) (λ n phases ok h. rw (phases-count links n phases h) ok.own.count.1) nodes lists bounds is

-- the links to which a link gives way, and its discharge then
given-sat : (links : List (List ℕ)) (given : Option DraftYield) (most : ℕ) (numbers : List ℕ) → IfSome given (HasYieldBounds most) → each (number_of links) (yield_names given) ≡ Some numbers → IsYieldSat numbers (yield_sat given)
given-sat links None most numbers ok is = subst (λ ns. IsYieldSat ns 0) (same_Some _ _ is) refl
given-sat links (Some given) most [] ok is = absurd (omega (arith, each-length (number_of links) given.links [] is, ok.count.0))
given-sat links (Some given) most (n ∷ ns) ok is = ok.sat.0

given-most : (given : Option DraftYield) (most : ℕ) → IfSome given (HasYieldBounds most) → yield_sat given ≤ most
given-most None most ok = omega arith
given-most (Some given) most ok = ok.sat.1

given-few : (given : Option DraftYield) (most : ℕ) → IfSome given (HasYieldBounds most) → length (yield_names given) ≤ 16
given-few None most ok = omega arith
given-few (Some given) most ok = ok.count.1

yields-bounds : (links : List (List ℕ)) (x : DraftLink) (numbers : List ℕ) → IsBoundedLink x → yields_of links x ≡ Some numbers → ArePhaseLinks (length links) numbers
yields-bounds links x numbers bounds is = names-bounds links (yield_names x.yields) numbers (given-few x.yields x.sat bounds.own.yields) is

module _ (nodes links : List (List ℕ)) (phase_links : List (List (List ℕ))) where
  -- a link by numbers
  road-bounds : (x : DraftLink) (l : Link) → IsBoundedLink x → link_of nodes links phase_links x ≡ Some l → IsLink (length nodes) l
  unfolding link_of
  road-bounds x l bounds is =
      let (from, comes, rest) = bind-some (number_if nodes x.from) _ l is in
      let (to, ends, more) = bind-some (number_if nodes x.to) _ l rest in
      let (link, its, last) = bind-some (number_of links x.name) _ l more in
      rw (← same_Some _ _ last) (record { from = number_if-within nodes x.from from comes; to = number_if-within nodes x.to to ends; travel = bounds.own.travel; sat = bounds.own.sat; weight = bounds.own.weight; yield_sat = given-most x.yields x.sat bounds.own.yields; walk = bounds.own.walk })

  -- its phase
  road-phase : (x : DraftLink) (l : Link) (k : ℕ) → number_of links x.name ≡ Some k → link_of nodes links phase_links x ≡ Some l → l.phase ≡ phase_of phase_links k l.to
  unfolding link_of
  road-phase x l k own is =
      let (from, comes, rest) = bind-some (number_if nodes x.from) _ l is in
      let (to, ends, more) = bind-some (number_if nodes x.to) _ l rest in
      let (link, its, last) = bind-some (number_of links x.name) _ l more in
      let same : link ≡ k = same_Some _ _ (sym its ∙ own) in
      rw (← same_Some _ _ last, same)

  -- its discharge where it gives way
  road-yield : (x : DraftLink) (l : Link) → link_of nodes links phase_links x ≡ Some l → l.yield_sat ≡ yield_sat x.yields
  unfolding link_of
  road-yield x l is =
      let (from, comes, rest) = bind-some (number_if nodes x.from) _ l is in
      let (to, ends, more) = bind-some (number_if nodes x.to) _ l rest in
      let (link, its, last) = bind-some (number_of links x.name) _ l more in
      rw (← same_Some _ _ last) refl

turn-exit : (links : List (List ℕ)) (x : DraftTurn) (t : Turn) → turn_of links x ≡ Some t → (t.exit < length links) × (t.share ≡ x.share)
unfolding turn_of
turn-exit links x t is =
    let (exit, at, last) = bind-some (number_of links x.exit) _ t is in
    rw (← same_Some _ _ last) (number_of-within links x.exit exit at, refl)

turns-bounds : (links : List (List ℕ)) (x : DraftLink) (ts : List Turn) → IsBoundedLink x → turns_of links x ≡ Some ts → AreTurns (length links) ts
turns-bounds links x ts bounds is = record {
  count = rw (each-length (turn_of links) x.turns ts is) bounds.own.count;
  exits = each-All (turn_of links) IsBoundedTurn (λ t. t.exit < length links) (λ d t _ h. (turn-exit links d t h).0) x.turns ts bounds.turns is;
  shares = each-All (turn_of links) IsBoundedTurn (λ t. t.share ≤ 1000) (λ d t ok h. rw (turn-exit links d t h).1 ok) x.turns ts bounds.turns is;
}

conflict-bounds : (links : List (List ℕ)) (x : DraftConflict) (c : ℕ × ℕ) → conflict_of links x ≡ Some c → (c.0 < length links) × (c.1 < length links)
unfolding conflict_of
conflict-bounds links x c is =
    let (a, first, rest) = bind-some (number_of links x.a) _ c is in
    let (b, second, last) = bind-some (number_of links x.b) _ c rest in
    rw (← same_Some _ _ last) (number_of-within links x.a a first, number_of-within links x.b b second)

abbrev no_node : DraftNode
no_node = record { name = []; phases = []; free_ring = false }

abbrev no_draft_link : DraftLink
no_draft_link = record { name = []; from = None; to = None; travel = 0; sat = 0; weight = 0; yields = None; walk = None; turns = [] }

module _ (d : Draft) (net : Net) (bounds : IsBounded d) (nodes_differ : AreDistinct (node_names d)) (links_differ : AreDistinct (link_names d)) (is : IsNumbered d net) where
  node_total : length net.node_names ≡ length d.nodes
  node_total = rw (is.nodes, length-map)

  link_total : length net.link_names ≡ length d.links
  link_total = rw (is.names, length-map)

  outline-phases : (n : ℕ) → n < length net.node_names → length (phases_at net n) ≡ length (plan_at net n)
  outline-phases n h =
      let inside : n < length d.nodes = omega (arith, node_total) in
      let listed = phases-count (link_names d) (get_or d.nodes n no_node) (phases_at net n) (each-at (phases_of (link_names d)) d.nodes net.phase_links n no_node [] is.phase_links inside) in
      let planned : plan_at net n ≡ plan_of (get_or d.nodes n no_node) = rw (is.plans, get_or-map plan_of d.nodes n no_node [] inside) in
      listed ∙ sym (rw (planned, length-map))

  outline-also : (n : ℕ) → n < length net.node_names → length (also_at net n) ≡ length (plan_at net n)
  outline-also n h =
      let inside : n < length d.nodes = omega (arith, node_total) in
      let planned : plan_at net n ≡ plan_of (get_or d.nodes n no_node) = rw (is.plans, get_or-map plan_of d.nodes n no_node [] inside) in
      let listed = also-count (link_names d) (get_or d.nodes n no_node) (also_at net n) (each-at (also_of (link_names d)) d.nodes net.also_links n no_node [] is.also_links inside) in
      listed ∙ sym (rw (planned, length-map))

  outline-given : (l : ℕ) → l < length net.link_names → IsYieldSat (yields_at net l) (link_at net l).yield_sat
  outline-given l h =
      let inside : l < length d.links = omega (arith, link_total) in
      let x : DraftLink = get_or d.links l no_draft_link in
      let bounded = bounds.links l no_draft_link inside in
      let road = each-at (link_of (node_names d) (link_names d) net.phase_links) d.links net.links l no_draft_link no_link is.links inside in
      let given = each-at (yields_of (link_names d)) d.links net.yields l no_draft_link [] is.yields inside in
      rw (road-yield (node_names d) (link_names d) net.phase_links x (link_at net l) road) (given-sat (link_names d) x.yields x.sat (yields_at net l) bounded.own.yields given)

  outline-own : (l : ℕ) → l < length net.links → (link_at net l).phase ≡ phase_of net.phase_links l (link_at net l).to
  outline-own l h =
      let inside : l < length d.links = omega (arith, each-length (link_of (node_names d) (link_names d) net.phase_links) d.links net.links is.links) in
      let named : get_or (link_names d) l [] ≡ (get_or d.links l no_draft_link).name = get_or-map (λ x. x.name) d.links l no_draft_link [] inside in
      let listed : l < length (link_names d) = simp length-map inside in
      let own : number_of (link_names d) (get_or d.links l no_draft_link).name ≡ Some l = rw (← named) (number_of-own (link_names d) links_differ l listed) in
      road-phase (node_names d) (link_names d) net.phase_links (get_or d.links l no_draft_link) (link_at net l) l own (each-at (link_of (node_names d) (link_names d) net.phase_links) d.links net.links l no_draft_link no_link is.links inside)

  outline-from : IsOutline net
  outline-from = record {
    run = rw is.run bounds.run;
    node_count = rw node_total (bounds.counts.nodes.0, (counts-most d bounds.counts).0);
    link_count = rw link_total (bounds.counts.links.0, (counts-most d bounds.counts).1);
    node_names = rw is.nodes (All-map IsName (λ n. n.name) d.nodes (All-weaker IsBoundedNode (λ n. IsName n.name) (λ n ok. ok.own.name) d.nodes bounds.nodes));
    nodes_differ = rw is.nodes nodes_differ;
    link_names = rw is.names (All-map IsName (λ l. l.name) d.links (All-weaker IsBoundedLink (λ l. IsName l.name) (λ l ok. ok.own.name) d.links bounds.links));
    links_differ = rw is.names links_differ;
    plan_count = rw (is.plans, length-map) (sym node_total);
    plans = rw is.plans (All-map IsOwnRing plan_of d.nodes (All-weaker IsBoundedNode (λ n. IsOwnRing (plan_of n)) (λ n ok. IsOwnRing-from_bounds n.phases ok.own.count.0 ok.own.count.1 (count-not_one n.free_ring _ ok.own.ring) ok.phases) d.nodes bounds.nodes));
    phases_count = each-length (phases_of (link_names d)) d.nodes net.phase_links is.phase_links ∙ sym node_total;
    phase_counts = outline-phases;
    phase_links = rw is.names (each-All (phases_of (link_names d)) IsBoundedNode (All (ArePhaseLinks (length (link_names d)))) (phases-bounds (link_names d)) d.nodes net.phase_links bounds.nodes is.phase_links);
    also_count = each-length (also_of (link_names d)) d.nodes net.also_links is.also_links ∙ sym node_total;
    also_counts = outline-also;
    also_links = rw is.names (each-All (also_of (link_names d)) IsBoundedNode (All (ArePhaseLinks (length (link_names d)))) (also-bounds (link_names d)) d.nodes net.also_links bounds.nodes is.also_links);
    road_count = each-length (link_of (node_names d) (link_names d) net.phase_links) d.links net.links is.links ∙ sym link_total;
    links = rw is.nodes (each-All (link_of (node_names d) (link_names d) net.phase_links) IsBoundedLink (IsLink (length (node_names d))) (road-bounds (node_names d) (link_names d) net.phase_links) d.links net.links bounds.links is.links);
    phases = outline-own;
    turn_count = each-length (turns_of (link_names d)) d.links net.turns is.turns ∙ sym link_total;
    turns = rw is.names (each-All (turns_of (link_names d)) IsBoundedLink (AreTurns (length (link_names d))) (turns-bounds (link_names d)) d.links net.turns bounds.links is.turns);
    yield_count = each-length (yields_of (link_names d)) d.links net.yields is.yields ∙ sym link_total;
    yields = rw is.names (each-All (yields_of (link_names d)) IsBoundedLink (ArePhaseLinks (length (link_names d))) (yields-bounds (link_names d)) d.links net.yields bounds.links is.yields);
    yield_sats = outline-given;
    conflict_count = rw (each-length (conflict_of (link_names d)) d.conflicts net.conflicts is.conflicts) (counts-most d bounds.counts).2;
    conflicts = rw is.names (each-All (conflict_of (link_names d)) (λ _. ⊤) (λ c. (c.0 < length (link_names d)) × (c.1 < length (link_names d))) (λ x c _ h. conflict-bounds (link_names d) x c h) d.conflicts net.conflicts (anything d.conflicts) is.conflicts);
  }

pub outline : (d : Draft) (net : Net) → IsBounded d → AreDistinct (node_names d) → AreDistinct (link_names d) → numbered d ≡ Some net → IsOutline net
outline d net bounds nodes_differ links_differ h = outline-from d net bounds nodes_differ links_differ (numbered-parts d net h)
