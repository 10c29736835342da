-- How the parts of a network are joined.
use Rattle.std.specs.Prelude.{◌≡◌, ◌≢◌, ℕ, suc, ◌+◌, ◌-◌, ◌*◌, ◌/◌, ◌≤◌, ◌<◌, ◌==◌, Bool, false, if◌then◌else◌, List, [], ◌∷◌, Option, Some, None, IsSome, IsTrue, IfSome, MatchOption, EachIndex, map, position, length, take, sum_by, count_by, slice_index_or, All, AllPairs, Contains}
use Rattle.std.specs.List.{concat}
use Rattle.std.specs.List.Sorted.{IsStrictlyIncreasing}
use Rattle.std.specs.Option.{option_map_or}
use Rattle.net_parts.specs.declared.roads.Link.{Link}
use Rattle.net_parts.specs.declared.roads.Turn.{Turn}
use Rattle.road_net.specs.declared.joins.Side.{Side}
use Rattle.road_net.specs.declared.joins.Side.TheVariants.{From, To}
use Rattle.net_parts.specs.Numbers.{Net, no_link, has_link}
use Rattle.net_parts.specs.Outline.{phase_links_at, also_links_at, plan_at, yields_at, is_green_in}
use Rattle.phase_plan.specs.Phases.{phase_at}

-- the link with this number
abbrev pub link_at : List Link → ℕ → Link
link_at links l = slice_index_or links l no_link

-- a link comes from a node or ends at one, and not both at the same
abbrev pub HasEnds : Link → Type 0
HasEnds l = l.from ≢ l.to

-- the node at a side of a link
abbrev pub node_at : Side → Link → Option ℕ
node_at From l = l.from
node_at To l = l.to

-- whether this is the node
abbrev pub is_node : ℕ → Option ℕ → Bool
is_node node None = false
is_node node (Some n) = n == node

-- the numbers of the links that have the node at this side, rising; the first link of the list has the number `first`
abbrev pub links_from : Side → ℕ → ℕ → List Link → List ℕ
links_from side node first [] = []
links_from side node first (l ∷ ls) =
    if is_node node (node_at side l) then first ∷ links_from side node (suc first) ls
    else links_from side node (suc first) ls

-- the numbers of all links of a network that have the node at this side, rising
abbrev pub links_of_node : Side → List Link → ℕ → List ℕ
links_of_node side links node = links_from side node 0 links

-- the links that have the node at this side, and no others, rising
pub record AreLinksAt (side : Side) (links : List Link) (node : ℕ) (numbers : List ℕ) : Type 0 where
  pub have : All (λ l. (l < length links) × (node_at side (link_at links l) ≡ Some node)) numbers
  pub all : (l : ℕ) → l < length links → node_at side (link_at links l) ≡ Some node → Contains numbers l
  pub rising : IsStrictlyIncreasing numbers

-- at most 16 links end at a node
abbrev pub HasFewEntries : List Link → ℕ → Type 0
HasFewEntries links node = length (links_of_node To links node) ≤ 16

-- at most 16 links end at each of this number of nodes
abbrev pub HaveFewEntries : List Link → ℕ → Type 0
HaveFewEntries links nodes = (node : ℕ) → node < nodes → HasFewEntries links node

-- the share of a turn, in thousandths
abbrev pub share_of : Turn → ℕ
share_of t = t.share

-- the turns of a link that ends at the node: they leave it by links that differ, and their shares are the whole
pub record IsShareTable (links : List Link) (turns : List Turn) (node : ℕ) : Type 0 where
  pub leave : All (λ t. (link_at links t.exit).from ≡ Some node) turns
  pub differ : AllPairs (λ s t. s.exit ≢ t.exit) turns
  pub whole : sum_by share_of turns ≡ 1000

-- the turns of a link are as they must be: where it ends at a node they are a table of its shares, and else there are none
abbrev pub HasShares : List Link → List Turn → Option ℕ → Type 0
HasShares links turns to = MatchOption to (turns ≡ []) (IsShareTable links turns)

-- all links that phases name, phase by phase
abbrev pub named_links : List (List (List ℕ)) → List ℕ
named_links phase_links = concat (map concat phase_links)

-- how often phases name a link
abbrev pub times_named : List (List (List ℕ)) → ℕ → ℕ
times_named phase_links link = count_by (λ l. l == link) (named_links phase_links)

-- a link that ends at a node is named once, in a phase of that node; one that ends at no node is not named
abbrev pub IsPhased : List (List (List ℕ)) → ℕ → Option ℕ → Type 0
IsPhased phase_links link to =
    MatchOption to (times_named phase_links link ≡ 0)
    (λ node. (times_named phase_links link ≡ 1)
    × IsSome (position (has_link link) (slice_index_or phase_links node [])))

-- two links have no green in common: there is no phase in which both are green
abbrev pub AreNeverBoth : Net → ℕ → ℕ → Type 0
AreNeverBoth net a b = (k : ℕ) → IsTrue (is_green_in net a k) → IsTrue (is_green_in net b k) → ⊥

-- the links of a conflict differ, end at one node, and have no green in common
pub record IsConflict (net : Net) (c : ℕ × ℕ) : Type 0 where
  pub differ : c.0 ≢ c.1
  pub ends : IsSome (link_at net.links c.0).to
  pub node : (link_at net.links c.0).to ≡ (link_at net.links c.1).to
  pub apart : AreNeverBoth net c.0 c.1

-- a phase of a node that names a link also is one of the node where it ends, and names it once, as served or as green also
pub record IsFurther (net : Net) (l n k : ℕ) : Type 0 where
  pub ends : (link_at net.links l).to ≡ Some n
  pub once : count_by (λ m. m == l) (phase_links_at net n k) + count_by (λ m. m == l) (also_links_at net n k) ≡ 1

-- each phase that names the link with this number also is one of the node where it ends, and names it once
abbrev pub IsAlso : Net → ℕ → Type 0
IsAlso net l = (n k : ℕ) → IsTrue (has_link l (also_links_at net n k)) → IsFurther net l n k

-- a link may give way to another one that ends at its node and has a green in common with it
pub record GivesWay (net : Net) (l other : ℕ) : Type 0 where
  pub differ : other ≢ l
  pub node : (link_at net.links other).to ≡ (link_at net.links l).to
  pub shared : ¬ AreNeverBoth net l other

-- the link with this number gives way only to links to which it may, and twice to none
pub record IsYield (net : Net) (l : ℕ) : Type 0 where
  pub each : All (GivesWay net l) (yields_at net l)
  pub differ : AllPairs (λ a b. a ≢ b) (yields_at net l)

-- each green of a link at a node has at least these seconds
abbrev pub HasLongGreens : Net → ℕ → ℕ → ℕ → Type 0
HasLongGreens net l seconds n = (k : ℕ) → IsTrue (is_green_in net l k) → seconds ≤ (phase_at (plan_at net n) k).least

-- a link with a walk ends at a node, and who enters at the end of the walk is over before the least green ends
abbrev pub IsWalk : Net → ℕ → Type 0
IsWalk net l =
    IfSome (link_at net.links l).walk
    (λ walk. MatchOption (link_at net.links l).to ⊥ (HasLongGreens net l (walk.seconds + walk.cross)))

-- the conflict at this place
abbrev pub conflict_at : List (ℕ × ℕ) → ℕ → ℕ × ℕ
conflict_at conflicts place = slice_index_or conflicts place (0, 0)

-- the link with this number has its ends
abbrev pub HasEndsAt : List Link → ℕ → Type 0
HasEndsAt links l = HasEnds (link_at links l)

-- the link with this number has turns as it must
abbrev pub HasSharesAt : List Link → List (List Turn) → ℕ → Type 0
HasSharesAt links turns l = HasShares links (slice_index_or turns l []) (link_at links l).to

-- phases name the link with this number as they must
abbrev pub IsPhasedAt : List Link → List (List (List ℕ)) → ℕ → Type 0
IsPhasedAt links phase_links l = IsPhased phase_links l (link_at links l).to

-- the pair at this place can be a conflict
abbrev pub IsConflictAt : Net → ℕ → Type 0
IsConflictAt net place = IsConflict net (conflict_at net.conflicts place)

-- each link has turns as it must
abbrev pub AreShared : List Link → List (List Turn) → Type 0
AreShared links turns = EachIndex links (HasSharesAt links turns)

-- phases name each link as they must
abbrev pub ArePhased : List Link → List (List (List ℕ)) → Type 0
ArePhased links phase_links = EachIndex links (IsPhasedAt links phase_links)

-- the lists are those of the links that have each node at this side
pub record AreByNode (side : Side) (links : List Link) (nodes : ℕ) (lists : List (List ℕ)) : Type 0 where
  pub count : length lists ≡ nodes
  pub each : (n : ℕ) → n < nodes → slice_index_or lists n [] ≡ links_of_node side links n

-- the shares of the first k turns together, in thousandths
abbrev pub shares_to : List Turn → ℕ → ℕ
shares_to turns k = sum_by share_of (take k turns)

-- the part of an amount that lies between two shares, in thousandths: what is up to `through`, less what is up to `before`
abbrev pub part_between : ℕ → ℕ → ℕ → ℕ
part_between amount before through = amount * through / 1000 - amount * before / 1000

-- the part of an amount that makes the turn with the number k: what the turns up to it get, less what those before it get
abbrev pub part : List Turn → ℕ → ℕ → ℕ
part turns amount k = part_between amount (shares_to turns k) (shares_to turns (k + 1))

-- the part of an amount that turns into the link `exit`; 0 where no turn leads there
abbrev pub split_of : List Turn → ℕ → ℕ → ℕ
split_of turns amount exit = option_map_or (part turns amount) (position (λ t. t.exit == exit) turns) 0

-- what is true of the turns of each link: their shares are at most the whole, and the part of an amount that turns into the
-- exit of one of them is the part of that turn
pub record AreParts (turns : List Turn) : Type 0 where
  pub shares : (k : ℕ) → shares_to turns k ≤ 1000
  pub each : (amount k : ℕ) (d : Turn) → k < length turns
      → split_of turns amount (slice_index_or turns k d).exit ≡ part turns amount k
