-- The parts of a network by number, and how many there are.
use Rattle.std.specs.Prelude.{◌≡◌, ℕ, ◌*◌, ◌<◌, ◌≤◌, ◌==◌, Bool, false, ◌||◌, List, [], ◌∷◌, Option, Some, None, IfSome, length, max, slice_index_or, All}
use Rattle.std.specs.Option.{option_map, option_map_or}
use Rattle.net_parts.specs.Limits.{most_conflicts, most_links, most_nodes, most_sat, most_travel, small_seconds}
use Rattle.phase_plan.specs.declared.Phase.{Phase}
use Rattle.phase_plan.specs.Phases.{IsOwnRing}
use Rattle.net_parts.specs.declared.roads.Link.{Link}
use Rattle.net_parts.specs.declared.roads.Turn.{Turn}
use Rattle.net_parts.specs.Bounds.{IsName, IsRun, HasWalkBounds}
use Rattle.net_parts.specs.Numbers.{Net, AreDistinct, has_link, no_link, phase_of}

-- the link with this number
abbrev pub link_at : Net → ℕ → Link
link_at net l = slice_index_or net.links l no_link

-- the first seconds of a green in which alone a link is green, where it has a walk
abbrev pub walk_at : Net → ℕ → Option ℕ
walk_at net l = option_map (λ walk. walk.seconds) (link_at net l).walk

-- the seconds that who enters a link with a walk needs to be over; 0 where it has no walk
abbrev pub cross_at : Net → ℕ → ℕ
cross_at net l = option_map_or (λ walk. walk.cross) (link_at net l).walk 0

-- the turns at the end of a link
abbrev pub turns_at : Net → ℕ → List Turn
turns_at net l = slice_index_or net.turns l []

-- the plan of a node
abbrev pub plan_at : Net → ℕ → List Phase
plan_at net n = slice_index_or net.plans n []

-- the links of each phase of a node, phase by phase
abbrev pub phases_at : Net → ℕ → List (List ℕ)
phases_at net n = slice_index_or net.phase_links n []

-- the links of phase k of a node
abbrev pub phase_links_at : Net → ℕ → ℕ → List ℕ
phase_links_at net n k = slice_index_or (phases_at net n) k []

-- the further links of each phase of a node, phase by phase
abbrev pub also_at : Net → ℕ → List (List ℕ)
also_at net n = slice_index_or net.also_links n []

-- the further links that are green in phase k of a node, beside those that it serves
abbrev pub also_links_at : Net → ℕ → ℕ → List ℕ
also_links_at net n k = slice_index_or (also_at net n) k []

-- the links to which a link gives way
abbrev pub yields_at : Net → ℕ → List ℕ
yields_at net l = slice_index_or net.yields l []

-- Whether a link that ends at this node, if it ends at one, is green in phase k there: the phase is its home, or names it also. One
-- that ends at no node never is.
abbrev pub is_green_to : Net → ℕ → ℕ → Option ℕ → Bool
is_green_to net l k None = false
is_green_to net l k (Some n) = ((link_at net l).phase == k) || has_link l (also_links_at net n k)

-- whether a link is green in phase k of the node where it ends: the greens of a link are its home and the phases that name it also
abbrev pub is_green_in : Net → ℕ → ℕ → Bool
is_green_in net l k = is_green_to net l k (link_at net l).to

-- no phase names a further link, so that each link has at most one green, its home
abbrev pub HasNoOverlaps : Net → Type 0
HasNoOverlaps net = (n k : ℕ) → also_links_at net n k ≡ []

-- the name of a node
abbrev pub node_name_at : Net → ℕ → List ℕ
node_name_at net n = slice_index_or net.node_names n []

-- the name of a link
abbrev pub link_name_at : Net → ℕ → List ℕ
link_name_at net l = slice_index_or net.link_names l []

-- a second in a file of a network is below this: the seconds of its run, and 18,000 at the least
abbrev pub known_seconds : Net → ℕ
known_seconds net = max small_seconds (net.run.rounds * net.run.step)

-- a link of a network with this number of nodes
pub record IsLink (nodes : ℕ) (l : Link) : Type 0 where
  pub from : IfSome l.from (λ n. n < nodes)
  pub to : IfSome l.to (λ n. n < nodes)
  pub travel : (1 ≤ l.travel) × (l.travel ≤ most_travel)
  pub sat : (1 ≤ l.sat) × (l.sat ≤ most_sat)
  pub weight : (1 ≤ l.weight) × (l.weight ≤ 20)
  pub yield_sat : l.yield_sat ≤ l.sat
  pub walk : IfSome l.walk HasWalkBounds

-- turns into a network of this number of links
pub record AreTurns (links : ℕ) (turns : List Turn) : Type 0 where
  pub count : length turns ≤ 16
  pub exits : All (λ t. t.exit < links) turns
  pub shares : All (λ t. t.share ≤ 1000) turns

-- the links that a phase serves or names also, or to which a link gives way, in a network of this number of links
pub record ArePhaseLinks (links : ℕ) (numbers : List ℕ) : Type 0 where
  pub count : length numbers ≤ 16
  pub exist : All (λ l. l < links) numbers

-- where a link gives way to these, its discharge then is at least 1; it is 0 where there is none
abbrev pub IsYieldSat : List ℕ → ℕ → Type 0
IsYieldSat [] sat = sat ≡ 0
IsYieldSat (_ ∷ _) sat = 1 ≤ sat

-- The counts and bounds of a network: every list has its place for each node or link, and numbers are those of nodes and links.
pub record IsOutline (net : Net) : Type 0 where
  pub run : IsRun net.run
  pub node_count : (1 ≤ length net.node_names) × (length net.node_names ≤ most_nodes)
  pub link_count : (1 ≤ length net.link_names) × (length net.link_names ≤ most_links)
  pub node_names : All IsName net.node_names
  pub nodes_differ : AreDistinct net.node_names
  pub link_names : All IsName net.link_names
  pub links_differ : AreDistinct net.link_names
  pub plan_count : length net.plans ≡ length net.node_names
  pub plans : All IsOwnRing net.plans
  pub phases_count : length net.phase_links ≡ length net.node_names
  pub phase_counts : (n : ℕ) → n < length net.node_names → length (phases_at net n) ≡ length (plan_at net n)
  pub phase_links : All (λ phases. All (ArePhaseLinks (length net.link_names)) phases) net.phase_links
  pub also_count : length net.also_links ≡ length net.node_names
  pub also_counts : (n : ℕ) → n < length net.node_names → length (also_at net n) ≡ length (plan_at net n)
  pub also_links : All (λ phases. All (ArePhaseLinks (length net.link_names)) phases) net.also_links
  pub road_count : length net.links ≡ length net.link_names
  pub links : All (IsLink (length net.node_names)) net.links
  pub phases : (l : ℕ) → l < length net.links → (link_at net l).phase ≡ phase_of net.phase_links l (link_at net l).to
  pub turn_count : length net.turns ≡ length net.link_names
  pub turns : All (AreTurns (length net.link_names)) net.turns
  pub yield_count : length net.yields ≡ length net.link_names
  pub yields : All (ArePhaseLinks (length net.link_names)) net.yields
  pub yield_sats : (l : ℕ) → l < length net.link_names → IsYieldSat (yields_at net l) (link_at net l).yield_sat
  pub conflict_count : length net.conflicts ≤ most_conflicts
  pub conflicts : All (λ c. (c.0 < length net.link_names) × (c.1 < length net.link_names)) net.conflicts
