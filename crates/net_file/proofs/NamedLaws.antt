-- With numbers for its names, the draft of a network is that network.
use Rattle.std.proofs.Common.{◌≡◌, ◌≢◌, ℕ, zero, suc, ◌<◌, ◌≤◌, ◌==◌, ◌⊎◌, inl, inr, Bool, true, false, true≢false, count_by, List, [], ◌∷◌, length, get_or, map, All, Option, Some, None, IfSome, option_map, zero-add, refl, sym, ap, ◌∙◌, subst, arith}
use Rattle.std.proofs.lemmas.List.{length-map}
use Rattle.std.proofs.lemmas.List.FromFn.{length-map-range_with_len}
use Rattle.std.proofs.lemmas.List.Elements.{All-map}
use Rattle.foundation.specs.Options.{each}
use Rattle.phase_plan.specs.Phases.{IsOwnRing, is_free, is_unmarked, no_phase}
use Rattle.net_parts.specs.declared.drafts.Draft.{Draft}
use Rattle.net_parts.specs.declared.drafts.DraftNode.{DraftNode}
use Rattle.net_parts.specs.declared.drafts.DraftPhase.{DraftPhase}
use Rattle.net_parts.specs.declared.drafts.DraftLink.{DraftLink}
use Rattle.net_parts.specs.declared.roads.Turn.{Turn}
use Rattle.net_parts.specs.Bounds.{IsBounded, IsBoundedNode, IsBoundedPhase, IsBoundedLink, IsBoundedTurn, IsUnmarkedCount, HasYieldBounds}
use Rattle.net_parts.specs.Numbers.{Net, AreDistinct, no_link, number_of, number_if, yield_names, yield_sat, plan_of, phases_of, also_of, link_of, turn_of, turns_of, yields_of, conflict_of, roads_of, node_names, link_names, numbered}
use Rattle.net_parts.specs.Outline.{IsOutline, IsLink, AreTurns, ArePhaseLinks, IsYieldSat, also_at, link_at, turns_at, yields_at, plan_at, phases_at}
use Rattle.net_parts.specs.Parts.{IsNetOf}
use Rattle.net_parts.specs.Limits.{limits}
use Rattle.net_parts.specs.declared.limits.Limits.{Limits}
use Rattle.net_file.specs.Upgrade.{IsSmall}
use Rattle.net_parts.proofs.DraftParts.{IsNumbered, number_of-own}
use Rattle.net_file.specs.ByNames.{name_in, AreNumbers, yield_by_names, phase_by_names, node_by_names, turn_by_names, link_by_names, conflict_by_names, draft_by_names}
use Rattle.net_file.proofs.ReadingLaws.{each-range, each-own, map-range, All-range, count_by-map}

module _ (names : List (List ℕ)) (differ : AreDistinct names) where
  -- numbers by their names
  numbers-own : (numbers : List ℕ) → AreNumbers names numbers → each (number_of names) (map (name_in names) numbers) ≡ Some numbers
  numbers-own = each-own (λ n. n < length names) (number_of names) (name_in names) (number_of-own names differ)

  number_if-own : (number : Option ℕ) → IfSome number (λ n. n < length names) → number_if names (option_map (name_in names) number) ≡ Some number
  number_if-own None h = refl
  number_if-own (Some n) h = rw (number_of-own names differ n h) refl

  turn-own : (t : Turn) → t.exit < length names → turn_of names (turn_by_names names t) ≡ Some t
  unfolding turn_of
  turn-own t h = rw (number_of-own names differ t.exit h) refl

  conflict-own : (c : ℕ × ℕ) → (c.0 < length names) × (c.1 < length names) → conflict_of names (conflict_by_names names c) ≡ Some c
  unfolding conflict_of
  conflict-own c h = rw (number_of-own names differ c.0 h.0, number_of-own names differ c.1 h.1) refl

-- the network of a draft is made of its parts
numbered-from : (d : Draft) (net : Net) → IsNumbered d net → numbered d ≡ Some net
unfolding numbered roads_of
numbered-from d net is =
    rw (is.phase_links, is.also_links, is.links, is.turns, is.yields, is.conflicts)
    (λ i. Some (record { run = sym is.run i; node_names = sym is.nodes i; plans = sym is.plans i; phase_links = net.phase_links; also_links = net.also_links; link_names = sym is.names i; links = net.links; turns = net.turns; yields = net.yields; conflicts = net.conflicts }))

-- a yield by names, and its bounds
yields-named : (names : List (List ℕ)) (ns : List ℕ) (sat : ℕ) → yield_names (yield_by_names names ns sat) ≡ map (name_in names) ns
yields-named names [] sat = refl
yields-named names (n ∷ ns) sat = refl

given-own : (names : List (List ℕ)) (ns : List ℕ) (sat : ℕ) → IsYieldSat ns sat → yield_sat (yield_by_names names ns sat) ≡ sat
given-own names [] sat is = sym is
given-own names (n ∷ ns) sat is = refl

given-bounded : (names : List (List ℕ)) (ns : List ℕ) (sat most : ℕ) → IsYieldSat ns sat → sat ≤ most → length ns ≤ 16 → IfSome (yield_by_names names ns sat) (HasYieldBounds most)
given-bounded names [] sat most is few short = tt
given-bounded names (n ∷ ns) sat most is few short = record { count = (omega arith, omega (arith, length-map ns (name_in names), short)); sat = (is, few) }

-- how many phases of a ring are unmarked, where the file says version 3, or else where the ring is not free
count-of_ring : (third : Bool) (count : ℕ) → count ≢ 1 → (third ≡ true) ⊎ ((count == 0) ≡ false) → IsUnmarkedCount third count
count-of_ring third zero not_one may = inr (elim may [ inl is ↦ is | inr filled ↦ absurd (true≢false filled) ], refl)
count-of_ring third (suc zero) not_one may = absurd (not_one refl)
count-of_ring third (suc (suc n)) not_one may = inl (omega arith)

-- a count of a network, where the file says version 3, or else where the network is not great
count-within : (of : Limits → ℕ) (third : Bool) (count : ℕ) → (third ≡ true) ⊎ (count ≤ of (limits false)) → count ≤ of (limits true) → count ≤ of (limits third)
count-within of true count may most = most
count-within of false count may most = elim may [ inl is ↦ absurd (true≢false (sym is)) | inr few ↦ few ]

module _ (net : Net) (ok : IsOutline net) (third : Bool) (rings : (third ≡ true) ⊎ All (λ plan. is_free plan ≡ false) net.plans) (small : (third ≡ true) ⊎ IsSmall net) where
  -- the links of the phases of a node
  lists-numbers : (n : ℕ) → n < length net.node_names → All (ArePhaseLinks (length net.link_names)) (phases_at net n)
  lists-numbers n h = let inside : n < length net.phase_links = omega (arith, ok.phases_count) in ok.phase_links n [] inside

  also-numbers : (n : ℕ) → n < length net.node_names → All (ArePhaseLinks (length net.link_names)) (also_at net n)
  also-numbers n h = let inside : n < length net.also_links = omega (arith, ok.also_count) in ok.also_links n [] inside

  phase-own : (n k : ℕ) → n < length net.node_names → k < length (plan_at net n) → each (number_of net.link_names) (phase_by_names net.link_names (plan_at net n) (phases_at net n) (also_at net n) k).links ≡ Some (get_or (phases_at net n) k [])
  phase-own n k h below =
      let inside : k < length (phases_at net n) = omega (arith, ok.phase_counts n h) in
      numbers-own net.link_names ok.links_differ (get_or (phases_at net n) k []) (lists-numbers n h k [] inside).exist

  further-own : (n k : ℕ) → n < length net.node_names → k < length (plan_at net n) → each (number_of net.link_names) (phase_by_names net.link_names (plan_at net n) (phases_at net n) (also_at net n) k).also ≡ Some (get_or (also_at net n) k [])
  further-own n k h below =
      let inside : k < length (also_at net n) = omega (arith, ok.also_counts n h) in
      numbers-own net.link_names ok.links_differ (get_or (also_at net n) k []) (also-numbers n h k [] inside).exist

  phases-own : (n : ℕ) → n < length net.node_names → phases_of net.link_names (node_by_names net third n) ≡ Some (phases_at net n)
  unfolding node_by_names
  phases-own n h = each-range (λ (p : DraftPhase). each (number_of net.link_names) p.links) (phase_by_names net.link_names (plan_at net n) (phases_at net n) (also_at net n)) 0 (length (plan_at net n)) (phases_at net n) [] (ok.phase_counts n h) (λ k below. rw zero-add (phase-own n k h below))

  -- the times of its phases
  plan-own : (n : ℕ) → plan_of (node_by_names net third n) ≡ plan_at net n
  unfolding node_by_names
  plan-own n = map-range (λ (p : DraftPhase). p.phase) (phase_by_names net.link_names (plan_at net n) (phases_at net n) (also_at net n)) (length (plan_at net n)) (plan_at net n) no_phase refl (λ k below. refl)

  -- the further links of its phases
  also-own : (n : ℕ) → n < length net.node_names → also_of net.link_names (node_by_names net third n) ≡ Some (also_at net n)
  unfolding node_by_names
  also-own n h = each-range (λ (p : DraftPhase). each (number_of net.link_names) p.also) (phase_by_names net.link_names (plan_at net n) (phases_at net n) (also_at net n)) 0 (length (plan_at net n)) (also_at net n) [] (ok.also_counts n h) (λ k below. rw zero-add (further-own n k h below))

  node-name : (n : ℕ) → (node_by_names net third n).name ≡ name_in net.node_names n
  unfolding node_by_names
  node-name n = refl

  node-free : (n : ℕ) → (node_by_names net third n).free_ring ≡ third
  unfolding node_by_names
  node-free n = refl

  -- a link and its turns
  road : (l : ℕ) → l < length net.link_names → IsLink (length net.node_names) (link_at net l)
  road l h = let inside : l < length net.links = omega (arith, ok.road_count) in ok.links l no_link inside

  link-name : (l : ℕ) → (link_by_names net l).name ≡ name_in net.link_names l
  unfolding link_by_names
  link-name l = refl

  link-own : (l : ℕ) → l < length net.link_names → link_of net.node_names net.link_names net.phase_links (link_by_names net l) ≡ Some (link_at net l)
  unfolding link_of link_by_names
  link-own l h =
      let inside : l < length net.links = omega (arith, ok.road_count) in
      let its = link_at net l in
      rw (number_if-own net.node_names ok.nodes_differ its.from (road l h).from, number_if-own net.node_names ok.nodes_differ its.to (road l h).to, number_of-own net.link_names ok.links_differ l h)
      (λ i. Some (record { from = its.from; to = its.to; travel = its.travel; sat = its.sat; weight = its.weight; phase = sym (ok.phases l inside) i; yield_sat = given-own net.link_names (yields_at net l) its.yield_sat (ok.yield_sats l h) i; walk = its.walk }))

  turning : (l : ℕ) → l < length net.link_names → AreTurns (length net.link_names) (turns_at net l)
  turning l h = let inside : l < length net.turns = omega (arith, ok.turn_count) in ok.turns l [] inside

  turns-own : (l : ℕ) → l < length net.link_names → turns_of net.link_names (link_by_names net l) ≡ Some (turns_at net l)
  unfolding link_by_names
  turns-own l h = each-own (λ t. t.exit < length net.link_names) (turn_of net.link_names) (turn_by_names net.link_names) (turn-own net.link_names ok.links_differ) (turns_at net l) (turning l h).exits

  giving : (l : ℕ) → l < length net.link_names → ArePhaseLinks (length net.link_names) (yields_at net l)
  giving l h = let inside : l < length net.yields = omega (arith, ok.yield_count) in ok.yields l [] inside

  yields-own : (l : ℕ) → l < length net.link_names → yields_of net.link_names (link_by_names net l) ≡ Some (yields_at net l)
  unfolding link_by_names
  yields-own l h = ap (each (number_of net.link_names)) (yields-named net.link_names (yields_at net l) (link_at net l).yield_sat) ∙ numbers-own net.link_names ok.links_differ (yields_at net l) (giving l h).exist

  -- the names of the draft
  node_names-own : node_names (draft_by_names net third) ≡ net.node_names
  unfolding draft_by_names
  node_names-own = map-range (λ (n : DraftNode). n.name) (node_by_names net third) (length net.node_names) net.node_names [] refl (λ k h. node-name k)

  link_names-own : link_names (draft_by_names net third) ≡ net.link_names
  unfolding draft_by_names
  link_names-own = map-range (λ (l : DraftLink). l.name) (link_by_names net) (length net.link_names) net.link_names [] refl (λ k h. link-name k)

  -- its parts by number
  lists-own : each (phases_of net.link_names) (draft_by_names net third).nodes ≡ Some net.phase_links
  unfolding draft_by_names
  lists-own = each-range (phases_of net.link_names) (node_by_names net third) 0 (length net.node_names) net.phase_links [] ok.phases_count (λ k h. rw zero-add (phases-own k h))

  plans-own : map plan_of (draft_by_names net third).nodes ≡ net.plans
  unfolding draft_by_names
  plans-own = map-range plan_of (node_by_names net third) (length net.node_names) net.plans [] ok.plan_count (λ k h. plan-own k)

  all_also-own : each (also_of net.link_names) (draft_by_names net third).nodes ≡ Some net.also_links
  unfolding draft_by_names
  all_also-own = each-range (also_of net.link_names) (node_by_names net third) 0 (length net.node_names) net.also_links [] ok.also_count (λ k h. rw zero-add (also-own k h))

  links-own : each (link_of net.node_names net.link_names net.phase_links) (draft_by_names net third).links ≡ Some net.links
  unfolding draft_by_names
  links-own = each-range (link_of net.node_names net.link_names net.phase_links) (link_by_names net) 0 (length net.link_names) net.links no_link ok.road_count (λ k h. rw zero-add (link-own k h))

  all_turns-own : each (turns_of net.link_names) (draft_by_names net third).links ≡ Some net.turns
  unfolding draft_by_names
  all_turns-own = each-range (turns_of net.link_names) (link_by_names net) 0 (length net.link_names) net.turns [] ok.turn_count (λ k h. rw zero-add (turns-own k h))

  all_yields-own : each (yields_of net.link_names) (draft_by_names net third).links ≡ Some net.yields
  unfolding draft_by_names
  all_yields-own = each-range (yields_of net.link_names) (link_by_names net) 0 (length net.link_names) net.yields [] ok.yield_count (λ k h. rw zero-add (yields-own k h))

  conflicts-own : each (conflict_of net.link_names) (draft_by_names net third).conflicts ≡ Some net.conflicts
  unfolding draft_by_names
  conflicts-own = each-own (λ c. (c.0 < length net.link_names) × (c.1 < length net.link_names)) (conflict_of net.link_names) (conflict_by_names net.link_names) (conflict-own net.link_names ok.links_differ) net.conflicts ok.conflicts

  run-own : (draft_by_names net third).run ≡ net.run
  unfolding draft_by_names
  run-own = refl

  parts-own : IsNumbered (draft_by_names net third) net
  parts-own =
      let d = draft_by_names net third in
      let links : net.link_names ≡ link_names d = sym link_names-own in
      let nodes : net.node_names ≡ node_names d = sym node_names-own in
      record {
        run = sym run-own;
        nodes = nodes;
        plans = sym plans-own;
        phase_links = subst (λ (names : List (List ℕ)). each (phases_of names) d.nodes ≡ Some net.phase_links) links lists-own;
        also_links = subst (λ (names : List (List ℕ)). each (also_of names) d.nodes ≡ Some net.also_links) links all_also-own;
        names = links;
        links = subst (λ (names : List (List ℕ)). each (link_of names (link_names d) net.phase_links) d.links ≡ Some net.links) nodes (subst (λ (names : List (List ℕ)). each (link_of net.node_names names net.phase_links) d.links ≡ Some net.links) links links-own);
        turns = subst (λ (names : List (List ℕ)). each (turns_of names) d.links ≡ Some net.turns) links all_turns-own;
        yields = subst (λ (names : List (List ℕ)). each (yields_of names) d.links ≡ Some net.yields) links all_yields-own;
        conflicts = subst (λ (names : List (List ℕ)). each (conflict_of names) d.conflicts ≡ Some net.conflicts) links conflicts-own;
      }

  -- it is within the bounds of drafts
  plan-ok : (n : ℕ) → n < length net.node_names → IsOwnRing (plan_at net n)
  plan-ok n h = let inside : n < length net.plans = omega (arith, ok.plan_count) in ok.plans n [] inside

  -- its ring is free in version 3 alone
  plan-free : (n : ℕ) → n < length net.node_names → (third ≡ true) ⊎ (is_free (plan_at net n) ≡ false)
  plan-free n h =
      let inside : n < length net.plans = omega (arith, ok.plan_count) in
      elim rings [ inl is ↦ inl is | inr none ↦ inr (none n [] inside) ]

  phase-bounded : (n k : ℕ) → n < length net.node_names → k < length (plan_at net n) → IsBoundedPhase (phase_by_names net.link_names (plan_at net n) (phases_at net n) (also_at net n) k)
  phase-bounded n k h below =
      let inside : k < length (phases_at net n) = omega (arith, ok.phase_counts n h) in
      record {
        phase = (plan-ok n h).ring.phases k no_phase below;
        links = rw length-map (lists-numbers n h k [] inside).count;
        also = let named : k < length (also_at net n) = omega (arith, ok.also_counts n h) in rw length-map (also-numbers n h k [] named).count;
      }

  phases-count : (n : ℕ) → length (node_by_names net third n).phases ≡ length (plan_at net n)
  unfolding node_by_names
  phases-count n = length-map-range_with_len (phase_by_names net.link_names (plan_at net n) (phases_at net n) (also_at net n)) 0 (length (plan_at net n))

  phases-bounded : (n : ℕ) → n < length net.node_names → All IsBoundedPhase (node_by_names net third n).phases
  unfolding node_by_names
  phases-bounded n h = All-range IsBoundedPhase (phase_by_names net.link_names (plan_at net n) (phases_at net n) (also_at net n)) (length (plan_at net n)) (λ k below. phase-bounded n k h below)

  node-bounded : (n : ℕ) → n < length net.node_names → IsBoundedNode (node_by_names net third n)
  node-bounded n h =
      let plan = plan-ok n h in
      record {
        own = record {
          name = rw (node-name n) (ok.node_names n [] h);
          count = rw (phases-count n) plan.ring.count;
          ring = rw (node-free n, ← count_by-map is_unmarked (λ (p : DraftPhase). p.phase) (node_by_names net third n).phases, plan-own n) (count-of_ring third (count_by is_unmarked (plan_at net n)) plan.marks (plan-free n h));
        };
        phases = phases-bounded n h;
      }

  link-bounded : (l : ℕ) → l < length net.link_names → IsBoundedLink (link_by_names net l)
  unfolding link_by_names
  link-bounded l h = record {
    own = record { name = ok.link_names l [] h; travel = (road l h).travel; sat = (road l h).sat; weight = (road l h).weight; count = rw length-map (turning l h).count; yields = given-bounded net.link_names (yields_at net l) (link_at net l).yield_sat (link_at net l).sat (ok.yield_sats l h) (road l h).yield_sat (giving l h).count; walk = (road l h).walk };
    turns = All-map IsBoundedTurn (turn_by_names net.link_names) (turns_at net l) (turning l h).shares;
  }

  -- its counts are those that such a file may have
  nodes-within : length net.node_names ≤ (limits third).nodes
  nodes-within = count-within (λ (l : Limits). l.nodes) third (length net.node_names) (elim small [ inl is ↦ inl is | inr few ↦ inr few.nodes ]) ok.node_count.1

  links-within : length net.link_names ≤ (limits third).links
  links-within = count-within (λ (l : Limits). l.links) third (length net.link_names) (elim small [ inl is ↦ inl is | inr few ↦ inr few.links ]) ok.link_count.1

  conflicts-within : length net.conflicts ≤ (limits third).conflicts
  conflicts-within = count-within (λ (l : Limits). l.conflicts) third (length net.conflicts) (elim small [ inl is ↦ inl is | inr few ↦ inr few.conflicts ]) ok.conflict_count

  rounds-within : net.run.rounds ≤ (limits third).rounds
  rounds-within = count-within (λ (l : Limits). l.rounds) third net.run.rounds (elim small [ inl is ↦ inl is | inr few ↦ inr few.rounds ]) ok.run.rounds.1

  bounded : IsBounded (draft_by_names net third)
  unfolding draft_by_names
  bounded = record {
    counts = record {
      nodes = rw (length-map-range_with_len (node_by_names net third) 0 (length net.node_names)) (ok.node_count.0, nodes-within);
      links = rw (length-map-range_with_len (link_by_names net) 0 (length net.link_names)) (ok.link_count.0, links-within);
      conflicts = rw length-map conflicts-within;
    };
    run = ok.run;
    rounds = rounds-within;
    nodes = All-range IsBoundedNode (node_by_names net third) (length net.node_names) node-bounded;
    links = All-range IsBoundedLink (link_by_names net) (length net.link_names) link-bounded;
  }

  -- The draft is within its bounds, and the network is the draft with numbers for names.
  pub named : IsBounded (draft_by_names net third) × IsNetOf (draft_by_names net third) net
  named = (
    bounded,
    record {
      node_names = rw node_names-own ok.nodes_differ;
      link_names = rw link_names-own ok.links_differ;
      numbers = numbered-from (draft_by_names net third) net parts-own;
    },
  )
