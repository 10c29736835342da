-- The first fault of a network, from the tests of its joins.
use Rattle.std.proofs.Common.{◌≡◌, ℕ, ◌<◌, length, Result, Ok, Err, IfErr, IsErrAnd, List, All, refl, subst, sym}
use Rattle.std.proofs.lemmas.Result.{err_from_is_err_and}
use Rattle.foundation.specs.Firsts.{IsFirstWithout}
use Rattle.foundation.proofs.ListLaws.{All-each}
use Rattle.net_parts.specs.declared.faults.NetFault.{NetFault}
use Rattle.net_parts.specs.declared.faults.NetFault.TheVariants.{NoMemory, Ends, Crowd, Shares, Phaseless, Also, Clash, Yields, Walk}
use Rattle.net_parts.specs.declared.roads.Link.{Link}
use Rattle.net_parts.specs.declared.roads.Turn.{Turn}
use Rattle.net_parts.specs.Numbers.{Net, no_link}
use Rattle.net_parts.specs.declared.parts.Parts.{Parts}
use Rattle.net_parts.specs.FirstFaults.{Refuses}
use Rattle.net_parts.specs.Parts.{net_of}
use Rattle.road_net.specs.declared.NodeLinks.{NodeLinks}
use Rattle.road_net.specs.FirstFaults.{IsHomed, IsJoinFault}
use Rattle.road_net.specs.Stored.{TestsEach, clash_at, HasFewAt}
use Rattle.road_net.specs.Joins.{HasEnds, HasEndsAt, HaveFewEntries, AreByNode, HasSharesAt, AreShared, IsPhasedAt, ArePhased, IsAlso, IsConflict, IsConflictAt, IsYield, IsWalk}
use Rattle.road_net.specs.Network.{IsJoined, Joins}
use Rattle.road_net.specs.Stored.{Links, Passes}
use Rattle.road_net.specs.declared.joins.Side.TheVariants.{To}
use Rattle.road_net.proofs.Joining.{few-entries, crowded}

module _ (net : Net) where
  -- the fault of a test, where each of its faults is one of the joins
  pub fault-from : (fault_at : ℕ → NetFault) (fact : ℕ → Type 0) (count : ℕ) → ((k : ℕ) → IsFirstWithout fact count k → IsJoinFault net (fault_at k)) → (fault : NetFault) → TestsEach fault_at fact count (Err fault) → IsJoinFault net fault
  fault-from fault_at fact count joins NoMemory h = tt
  fault-from fault_at fact count joins _ h = subst (IsJoinFault net) (sym h.1) (joins h.0 h.2)

  -- a network with a fault of its joins is not joined
  pub fault-refuses : (fault : NetFault) → IsJoinFault net fault → Refuses fault (IsJoined net → ⊥)
  fault-refuses NoMemory h = tt
  fault-refuses (Ends link) h = λ joined. h.here (joined.ends link no_link h.below)
  fault-refuses (Crowd node) h = λ joined. h.1.here (joined.entries node h.1.below)
  fault-refuses (Shares link) h = λ joined. h.2.here (joined.shares link h.2.below)
  fault-refuses (Phaseless link) h = λ joined. h.3.here (joined.phases link h.3.below)
  fault-refuses (Also link) h = λ joined. h.1.here (joined.also link h.1.below)
  fault-refuses (Clash a b) h = λ joined. h.2.first.here (joined.conflicts h.2.place (0, 0) h.2.first.below)
  fault-refuses (Yields link) h = λ joined. h.3.here (joined.yields link h.3.below)
  fault-refuses (Walk link) h = λ joined. h.4.here (joined.walks link h.4.below)
  fault-refuses _ h = absurd h

  -- what is answered at a fault of the joins
  pub refused : (fault : NetFault) (result : Result Net NetFault) → IsJoinFault net fault → IsErrAnd result (λ named. named ≡ fault) → Joins net result × IfErr result (IsJoinFault net)
  refused fault result h is =
      let p = err_from_is_err_and result is in
      rw (p.1, p.2) (fault-refuses fault h, h)

-- a fault of the joins is what is answered in place of the links of each node
pub blamed : (parts : Parts) (fault : NetFault) (result : Result NodeLinks NetFault) → IsJoinFault (net_of parts) fault → IsErrAnd result (λ named. named ≡ fault) → Links parts result
blamed parts fault result h is =
    let p = err_from_is_err_and result is in
    rw (p.1, p.2) h

-- and it is what a test of the joins answers
pub halted : (net : Net) (fault : NetFault) (result : Result (Unit {0}) NetFault) → IsJoinFault net fault → IsErrAnd result (λ named. named ≡ fault) → Passes net result
halted net fault result h is =
    let p = err_from_is_err_and result is in
    rw (p.1, p.2) h

-- The tests one after another. What each was given is that of the network, and `lists` are those of the links that end
-- at each node.
module _ (net : Net) (links : List Link) (links_are : links ≡ net.links) where
  pub ends-fault : (fault : NetFault) → TestsEach Ends (HasEndsAt links) (length links) (Err fault) → IsJoinFault net fault
  ends-fault fault h = fault-from net Ends (HasEndsAt links) (length links) (λ k first. rw links_are at first) fault h

module _ (net : Net) (lists : List (List ℕ)) (by_node : AreByNode To net.links (length net.node_names) lists) (ends : (k : ℕ) → k < length net.links → HasEndsAt net.links k) where
  have_ends : All HasEnds net.links
  have_ends = All-each HasEnds net.links no_link ends

  pub entries-fault : (seen : List (List ℕ)) → seen ≡ lists → (fault : NetFault) → TestsEach Crowd (HasFewAt seen) (length seen) (Err fault) → IsJoinFault net fault
  entries-fault seen are fault h =
      fault-from net Crowd (HasFewAt seen) (length seen) (λ k first. (have_ends, crowded net.links (length net.node_names) k lists by_node (rw are at first))) fault h

  module _ (short : (k : ℕ) → k < length lists → HasFewAt lists k) where
    have_few : HaveFewEntries net.links (length net.node_names)
    have_few = few-entries net.links (length net.node_names) lists by_node short

    pub shares-fault : (links : List Link) (turns : List (List Turn)) → links ≡ net.links → turns ≡ net.turns → (fault : NetFault) → TestsEach Shares (HasSharesAt links turns) (length links) (Err fault) → IsJoinFault net fault
    shares-fault links turns links_are turns_are fault h =
        fault-from net Shares (HasSharesAt links turns) (length links) (λ k first. (have_ends, have_few, rw (links_are, turns_are) at first)) fault h

    module _ (shares : AreShared net.links net.turns) where
      pub phases-fault : (links : List Link) (phase_links : List (List (List ℕ))) → links ≡ net.links → phase_links ≡ net.phase_links → (fault : NetFault) → TestsEach Phaseless (IsPhasedAt links phase_links) (length links) (Err fault) → IsJoinFault net fault
      phases-fault links phase_links links_are phases_are fault h =
          fault-from net Phaseless (IsPhasedAt links phase_links) (length links) (λ k first. (have_ends, have_few, shares, rw (links_are, phases_are) at first)) fault h

      -- a network that passes all of these
      pub homed : ArePhased net.links net.phase_links → IsHomed net
      homed phases = record { ends = have_ends; entries = have_few; shares = shares; phases = phases }

-- the tests after these
module _ (net : Net) (homed : IsHomed net) where
  pub also-fault : (fault : NetFault) → TestsEach Also (IsAlso net) (length net.links) (Err fault) → IsJoinFault net fault
  also-fault fault h = fault-from net Also (IsAlso net) (length net.links) (λ k first. (homed, first)) fault h

  module _ (also : (k : ℕ) → k < length net.links → IsAlso net k) where
    pub conflicts-fault : (fault : NetFault) → TestsEach (clash_at net.conflicts) (IsConflictAt net) (length net.conflicts) (Err fault) → IsJoinFault net fault
    conflicts-fault fault h =
        fault-from net (clash_at net.conflicts) (IsConflictAt net) (length net.conflicts) (λ k first. (homed, also, record { place = k; there = refl; first = first })) fault h

    module _ (conflicts : (k : ℕ) → k < length net.conflicts → IsConflictAt net k) where
      are_conflicts : All (IsConflict net) net.conflicts
      are_conflicts = All-each (IsConflict net) net.conflicts (0, 0) conflicts

      pub yields-fault : (fault : NetFault) → TestsEach Yields (IsYield net) (length net.links) (Err fault) → IsJoinFault net fault
      yields-fault fault h = fault-from net Yields (IsYield net) (length net.links) (λ k first. (homed, also, are_conflicts, first)) fault h

      module _ (yields : (k : ℕ) → k < length net.links → IsYield net k) where
        walks-fault : (fault : NetFault) → TestsEach Walk (IsWalk net) (length net.links) (Err fault) → IsJoinFault net fault
        walks-fault fault h = fault-from net Walk (IsWalk net) (length net.links) (λ k first. (homed, also, are_conflicts, yields, first)) fault h

        -- the last of them
        pub walks-last : (result : Result (Unit {0}) NetFault) → TestsEach Walk (IsWalk net) (length net.links) result → Passes net result
        walks-last (Ok _) h = record { ends = homed.ends; entries = homed.entries; shares = homed.shares; phases = homed.phases; also = also; conflicts = are_conflicts; yields = yields; walks = h }
        walks-last (Err fault) h = walks-fault fault h
