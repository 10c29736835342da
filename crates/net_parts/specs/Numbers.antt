-- A network by numbers: nodes and links are numbered from 0 in the order of the file, and numbers stand for their names.
use Rattle.std.specs.Prelude.{◌≢◌, ℕ, ◌==◌, Bool, List, [], Option, Some, None, map, position, unwrap_or, slice_index_or, AllPairs}
use Rattle.std.specs.List.{list_any}
use Rattle.std.specs.Str.{bytes_eq}
use Rattle.phase_plan.specs.declared.Phase.{Phase}
use Rattle.foundation.specs.Options.{◌>>=◌, each}
use Rattle.net_parts.specs.declared.drafts.Run.{Run}
use Rattle.net_parts.specs.declared.drafts.Draft.{Draft}
use Rattle.net_parts.specs.declared.drafts.DraftNode.{DraftNode}
use Rattle.net_parts.specs.declared.drafts.DraftLink.{DraftLink}
use Rattle.net_parts.specs.declared.drafts.DraftTurn.{DraftTurn}
use Rattle.net_parts.specs.declared.drafts.DraftYield.{DraftYield}
use Rattle.net_parts.specs.declared.drafts.DraftConflict.{DraftConflict}
use Rattle.net_parts.specs.declared.roads.Link.{Link}
use Rattle.net_parts.specs.declared.roads.Turn.{Turn}

-- The lists have one place for each node, link or conflict. `phase_links` has for each node the links that each of its phases serves, and
-- `also_links` the further ones that are green in it; `yields` has for each link those to which it gives way.
pub record Net : Type 0 where
  pub run : Run
  pub node_names : List (List ℕ)
  pub plans : List (List Phase)
  pub phase_links : List (List (List ℕ))
  pub also_links : List (List (List ℕ))
  pub link_names : List (List ℕ)
  pub links : List Link
  pub turns : List (List Turn)
  pub yields : List (List ℕ)
  pub conflicts : List (ℕ × ℕ)

-- what stands where there is no link
abbrev pub no_link : Link
no_link = record { from = None; to = None; travel = 0; sat = 0; weight = 0; phase = 0; yield_sat = 0; walk = None }

-- no two names are the same
abbrev pub AreDistinct : List (List ℕ) → Type 0
AreDistinct names = AllPairs (λ a b. a ≢ b) names

-- the number of a name
abbrev pub number_of : List (List ℕ) → List ℕ → Option ℕ
number_of names name = position (bytes_eq name) names

-- the number of a name that may be absent
abbrev pub number_if : List (List ℕ) → Option (List ℕ) → Option (Option ℕ)
number_if names None = Some None
number_if names (Some name) = do
  number ← number_of names name
  Some (Some number)

-- whether a list of links has this one
abbrev pub has_link : ℕ → List ℕ → Bool
has_link link links = list_any (λ l. l == link) links

-- the phase of a link at the node where it ends: the first that names it; 0 where there is none
abbrev pub phase_of : List (List (List ℕ)) → ℕ → Option ℕ → ℕ
phase_of phase_links link None = 0
phase_of phase_links link (Some node) = unwrap_or (position (has_link link) (slice_index_or phase_links node [])) 0

-- the links of each phase of a node
abbrev pub phases_of : List (List ℕ) → DraftNode → Option (List (List ℕ))
phases_of links node = each (λ p. each (number_of links) p.links) node.phases

-- the further links of each phase of a node
abbrev pub also_of : List (List ℕ) → DraftNode → Option (List (List ℕ))
also_of links node = each (λ p. each (number_of links) p.also) node.phases

-- the names of the links to which a link gives way
abbrev pub yield_names : Option DraftYield → List (List ℕ)
yield_names None = []
yield_names (Some given) = given.links

-- the greatest discharge of a link while one of those to which it gives way is busy; 0 where it gives way to none
abbrev pub yield_sat : Option DraftYield → ℕ
yield_sat None = 0
yield_sat (Some given) = given.sat

-- a link by numbers
unfoldable pub link_of : List (List ℕ) → List (List ℕ) → List (List (List ℕ)) → DraftLink → Option Link
link_of nodes links phase_links l = do
  from ← number_if nodes l.from
  to ← number_if nodes l.to
  link ← number_of links l.name
  Some (record {
    from = from;
    to = to;
    travel = l.travel;
    sat = l.sat;
    weight = l.weight;
    phase = phase_of phase_links link to;
    yield_sat = yield_sat l.yields;
    walk = l.walk;
  })

-- a turn by numbers
unfoldable pub turn_of : List (List ℕ) → DraftTurn → Option Turn
turn_of links t = do
  exit ← number_of links t.exit
  Some (record { exit = exit; share = t.share })

-- the turns of a link
abbrev pub turns_of : List (List ℕ) → DraftLink → Option (List Turn)
turns_of links l = each (turn_of links) l.turns

-- the links to which a link gives way
abbrev pub yields_of : List (List ℕ) → DraftLink → Option (List ℕ)
yields_of links l = each (number_of links) (yield_names l.yields)

-- the links, the turns of each, and those to which each gives way
unfoldable pub roads_of : List (List ℕ) → List (List ℕ) → List (List (List ℕ)) → List DraftLink
    → Option (List Link × List (List Turn) × List (List ℕ))
roads_of nodes links phase_links ls = do
  roads ← each (link_of nodes links phase_links) ls
  turns ← each (turns_of links) ls
  yields ← each (yields_of links) ls
  Some (roads, turns, yields)

-- a conflict by numbers
unfoldable pub conflict_of : List (List ℕ) → DraftConflict → Option (ℕ × ℕ)
conflict_of links c = do
  a ← number_of links c.a
  b ← number_of links c.b
  Some (a, b)

-- the names of the nodes of a draft, in order
abbrev pub node_names : Draft → List (List ℕ)
node_names d = map (λ n. n.name) d.nodes

-- the names of the links of a draft, in order
abbrev pub link_names : Draft → List (List ℕ)
link_names d = map (λ l. l.name) d.links

-- the phases of a node
abbrev pub plan_of : DraftNode → List Phase
plan_of n = map (λ p. p.phase) n.phases

-- the draft with numbers for names, where each name that it uses is the name of a node or a link
unfoldable pub numbered : Draft → Option Net
numbered d = do
  phase_links ← each (phases_of (link_names d)) d.nodes
  also_links ← each (also_of (link_names d)) d.nodes
  roads ← roads_of (node_names d) (link_names d) phase_links d.links
  conflicts ← each (conflict_of (link_names d)) d.conflicts
  Some (record {
    run = d.run;
    node_names = node_names d;
    plans = map plan_of d.nodes;
    phase_links = phase_links;
    also_links = also_links;
    link_names = link_names d;
    links = roads.0;
    turns = roads.1;
    yields = roads.2;
    conflicts = conflicts;
  })
