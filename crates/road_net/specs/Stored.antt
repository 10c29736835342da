-- What the fields of the code stand for, and what its steps answer. No public clause names these.
use Rattle.std.specs.Prelude.{◌≡◌, ℕ, ◌<◌, ◌≤◌, ◌==◌, if◌then◌else◌, List, [], ◌∷◌, ◌++◌, Option, Result, Ok, Err, length, count_by, slice_index_or}
use Rattle.foundation.specs.Firsts.{IsFirstWithout}
use Rattle.net_parts.specs.declared.faults.NetFault.{NetFault}
use Rattle.net_parts.specs.declared.faults.NetFault.TheVariants.{NoMemory, Clash}
use Rattle.net_parts.specs.declared.parts.Parts.{Parts}
use Rattle.road_net.specs.declared.NodeLinks.{NodeLinks}
use Rattle.road_net.specs.declared.joins.Side.TheVariants.{From, To}
use Rattle.net_parts.specs.Numbers.{Net}
use Rattle.net_parts.specs.Parts.{net_of}
use Rattle.road_net.specs.FirstFaults.{IsJoinFault}
use Rattle.road_net.specs.Joins.{is_node, AreByNode, conflict_at}
use Rattle.road_net.specs.Network.{IsNetwork, IsJoined}

-- a network with the lists of links of each node
pub record IsStored (parts : Parts) (entry_links exit_links : List (List ℕ)) : Type 0 where
  pub network : IsNetwork (net_of parts)
  pub entries : AreByNode To parts.links.items (length parts.node_names) entry_links
  pub exits : AreByNode From parts.links.items (length parts.node_names) exit_links

-- the lists of links of each node, where the parts are joined as they have to be; a fault is the first of their joins
abbrev pub Links : Parts → Result NodeLinks NetFault → Type 0
Links parts (Ok links) = IsStored parts links.entry.items links.exit.items
Links parts (Err fault) = IsJoinFault (net_of parts) fault

-- the parts pass the tests of their joins; a fault is the first of their joins
abbrev pub Passes : Net → Result (Unit {0}) NetFault → Type 0
Passes net (Ok _) = IsJoined net
Passes net (Err fault) = IsJoinFault net fault

-- A test of all numbers below the count answers Ok where the fact holds of each. A fault is out of memory, or the one that
-- names the first number of which the fact does not hold.
abbrev pub TestsEach : (ℕ → NetFault) → (ℕ → Type 0) → ℕ → Result (Unit {0}) NetFault → Type 0
TestsEach fault_at fact count (Ok _) = (k : ℕ) → k < count → fact k
TestsEach fault_at fact count (Err NoMemory) = Unit {0}
TestsEach fault_at fact count (Err fault) = (number : ℕ) × (fault ≡ fault_at number) × IsFirstWithout fact count number

-- the fault that names the conflict at this place
abbrev pub clash_at : List (ℕ × ℕ) → ℕ → NetFault
clash_at conflicts place = Clash (conflict_at conflicts place).0 (conflict_at conflicts place).1

-- the list of links of this node is not too long
abbrev pub HasFewAt : List (List ℕ) → ℕ → Type 0
HasFewAt lists node = length (slice_index_or lists node []) ≤ 16

-- the number is at the end of the list of this node, and no other list has changed
pub record IsPushedAt (node : Option ℕ) (number : ℕ) (old new : List (List ℕ)) : Type 0 where
  pub count : length new ≡ length old
  pub each : (n : ℕ) → n < length old
      → slice_index_or new n [] ≡ slice_index_or old n [] ++ (if is_node n node then number ∷ [] else [])

-- how often each of this number of links is among those that are named
pub record AreTimes (named : List ℕ) (links : ℕ) (times : List ℕ) : Type 0 where
  pub count : length times ≡ links
  pub each : (l : ℕ) → l < links → slice_index_or times l 0 ≡ count_by (λ m. m == l) named
