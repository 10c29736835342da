-- The draft of a network by numbers. No public clause names these definitions.
use Rattle.std.specs.Prelude.{ℕ, ◌<◌, Bool, List, [], ◌∷◌, Option, Some, None, length, map, option_map, slice_index_or, All}
use Rattle.std.specs.List.{range_with_len}
use Rattle.phase_plan.specs.declared.Phase.{Phase}
use Rattle.phase_plan.specs.Phases.{phase_at}
use Rattle.net_parts.specs.declared.drafts.Draft.{Draft}
use Rattle.net_parts.specs.declared.drafts.DraftNode.{DraftNode}
use Rattle.net_parts.specs.declared.drafts.DraftPhase.{DraftPhase}
use Rattle.net_parts.specs.declared.drafts.DraftLink.{DraftLink}
use Rattle.net_parts.specs.declared.drafts.DraftTurn.{DraftTurn}
use Rattle.net_parts.specs.declared.drafts.DraftYield.{DraftYield}
use Rattle.net_parts.specs.declared.drafts.DraftConflict.{DraftConflict}
use Rattle.net_parts.specs.declared.roads.Turn.{Turn}
use Rattle.net_parts.specs.Numbers.{Net}
use Rattle.net_parts.specs.Outline.{link_at, turns_at, yields_at, plan_at, phases_at, also_at}

-- the name of a number
abbrev pub name_in : List (List ℕ) → ℕ → List ℕ
name_in names number = slice_index_or names number []

-- these are numbers of the names
abbrev pub AreNumbers : List (List ℕ) → List ℕ → Type 0
AreNumbers names numbers = All (λ number. number < length names) numbers

-- a phase of a plan, with the names of its links
abbrev pub phase_by_names : List (List ℕ) → List Phase → List (List ℕ) → List (List ℕ) → ℕ → DraftPhase
phase_by_names names plan lists also k =
    record {
      phase = phase_at plan k;
      links = map (name_in names) (slice_index_or lists k []);
      also = map (name_in names) (slice_index_or also k []);
    }

-- the node with this number, in a file of version 3 or of another one
unfoldable pub node_by_names : Net → Bool → ℕ → DraftNode
node_by_names net third n =
    record {
      name = name_in net.node_names n;
      free_ring = third;
      phases = map (phase_by_names net.link_names (plan_at net n) (phases_at net n) (also_at net n))
          (range_with_len 0 (length (plan_at net n)));
    }

-- a turn
abbrev pub turn_by_names : List (List ℕ) → Turn → DraftTurn
turn_by_names names turn = record { exit = name_in names turn.exit; share = turn.share }

-- the links to which a link gives way, where there are any, and its discharge then
abbrev pub yield_by_names : List (List ℕ) → List ℕ → ℕ → Option DraftYield
yield_by_names names [] sat = None
yield_by_names names (n ∷ ns) sat = Some (record { links = map (name_in names) (n ∷ ns); sat = sat })

-- the link with this number
unfoldable pub link_by_names : Net → ℕ → DraftLink
link_by_names net l = record {
  name = name_in net.link_names l;
  from = option_map (name_in net.node_names) (link_at net l).from;
  to = option_map (name_in net.node_names) (link_at net l).to;
  travel = (link_at net l).travel;
  sat = (link_at net l).sat;
  weight = (link_at net l).weight;
  yields = yield_by_names net.link_names (yields_at net l) (link_at net l).yield_sat;
  walk = (link_at net l).walk;
  turns = map (turn_by_names net.link_names) (turns_at net l);
}

-- a conflict
abbrev pub conflict_by_names : List (List ℕ) → ℕ × ℕ → DraftConflict
conflict_by_names names pair = record { a = name_in names pair.0; b = name_in names pair.1 }

-- the draft with the names of the network for its numbers, in a file of version 3 or of another one
unfoldable pub draft_by_names : Net → Bool → Draft
draft_by_names net third = record {
  run = net.run;
  nodes = map (node_by_names net third) (range_with_len 0 (length net.node_names));
  links = map (link_by_names net) (range_with_len 0 (length net.link_names));
  conflicts = map (conflict_by_names net.link_names) net.conflicts;
  great = third;
}
