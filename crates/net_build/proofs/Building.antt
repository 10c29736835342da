-- The faults of a draft, from those of the steps that number and join it.
use Rattle.std.proofs.Common.{◌≡◌}
use Rattle.net_parts.specs.declared.drafts.Draft.{Draft}
use Rattle.net_parts.specs.declared.faults.NetFault.{NetFault}
use Rattle.net_parts.specs.declared.faults.NetFault.TheVariants.{NoMemory, NotToml, Shape, Bound, Twice, Unknown, Ends, Crowd, Shares, Phaseless, Also, Clash, Yields, Walk}
use Rattle.net_parts.specs.Bounds.{IsBounded}
use Rattle.net_parts.specs.FirstFaults.{FailsBounds, FailsNumbers, Refuses}
use Rattle.net_parts.specs.Numbers.{Net}
use Rattle.net_parts.specs.Parts.{IsNetOf}
use Rattle.road_net.specs.FirstFaults.{IsJoinFault, IsNumbersOf, IsDraftFault}
use Rattle.road_net.specs.Network.{IsNetworkOf}

module _ (d : Draft) where
  -- a draft with no numbers for its names has no network
  pub numbers-none : (fault : NetFault) → Refuses fault ((net : Net) → IsNetOf d net → ⊥) → Refuses fault ((net : Net) → IsNetworkOf d net → ⊥)
  numbers-none NoMemory h = tt
  numbers-none NotToml h = h
  numbers-none (Shape place) h = h
  numbers-none _ h = λ net of. h net (record { node_names = of.node_names; link_names = of.link_names; numbers = of.numbers })

  pub IsDraftFault-bounds : (fault : NetFault) → FailsBounds d fault → IsDraftFault d fault
  IsDraftFault-bounds (Bound place) h = h
  IsDraftFault-bounds _ h = absurd h

  pub IsDraftFault-numbers : (fault : NetFault) → IsBounded d → FailsNumbers d fault → IsDraftFault d fault
  IsDraftFault-numbers NoMemory bounds h = tt
  IsDraftFault-numbers (Twice place) bounds h = (bounds, h)
  IsDraftFault-numbers (Unknown place) bounds h = (bounds, h.0, h.1, h.2)
  IsDraftFault-numbers _ bounds h = absurd h

  pub IsDraftFault-joins : (net : Net) → IsNumbersOf d net → (fault : NetFault) → IsJoinFault net fault → IsDraftFault d fault
  IsDraftFault-joins net is NoMemory h = tt
  IsDraftFault-joins net is (Ends link) h = record { net = net; numbers = is; holds = h }
  IsDraftFault-joins net is (Crowd node) h = record { net = net; numbers = is; holds = h }
  IsDraftFault-joins net is (Shares link) h = record { net = net; numbers = is; holds = h }
  IsDraftFault-joins net is (Phaseless link) h = record { net = net; numbers = is; holds = h }
  IsDraftFault-joins net is (Also link) h = record { net = net; numbers = is; holds = h }
  IsDraftFault-joins net is (Clash a b) h = record { net = net; numbers = is; holds = h }
  IsDraftFault-joins net is (Yields link) h = record { net = net; numbers = is; holds = h }
  IsDraftFault-joins net is (Walk link) h = record { net = net; numbers = is; holds = h }
  IsDraftFault-joins net is _ h = absurd h
