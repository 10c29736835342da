-- The network of a draft by numbers, and what the fields of the code stand for.
use Rattle.std.specs.Prelude.{◌≡◌, Some}
use Rattle.net_parts.specs.declared.drafts.Draft.{Draft}
use Rattle.net_parts.specs.declared.parts.Parts.{Parts}
use Rattle.net_parts.specs.Numbers.{Net, AreDistinct, numbered, node_names, link_names}

-- the parts as a network
abbrev pub net_of : Parts → Net
net_of p =
    record {
      run = p.run;
      node_names = p.node_names;
      plans = p.plans.items;
      phase_links = p.phase_links.items;
      also_links = p.also_links.items;
      link_names = p.link_names;
      links = p.links.items;
      turns = p.turns.items;
      yields = p.yields.items;
      conflicts = p.conflicts.items;
    }

-- the network is the draft with numbers for names, no two of which are the same
pub record IsNetOf (d : Draft) (net : Net) : Type 0 where
  pub node_names : AreDistinct (node_names d)
  pub link_names : AreDistinct (link_names d)
  pub numbers : numbered d ≡ Some net
