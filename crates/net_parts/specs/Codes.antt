-- The codes of faults of a network.
use Rattle.std.specs.Prelude.{ℕ, ◌+◌, List, [], ◌∷◌, ◌++◌, codes}
use Rattle.std.specs.Fmt.{decimal}
use Rattle.net_parts.specs.declared.faults.NetFault.{NetFault}
use Rattle.net_parts.specs.declared.faults.NetFault.TheVariants as net
use Rattle.net_parts.specs.declared.faults.Section.{Section}
use Rattle.net_parts.specs.declared.faults.Section.TheVariants as part
use Rattle.net_parts.specs.declared.faults.Place.{Place}

-- the name of a section of a network's file
abbrev pub part_name : Section → List ℕ
part_name part.Top = codes "top"
part_name part.Run = codes "run"
part_name part.Node = codes "node"
part_name part.Phase = codes "phase"
part_name part.Link = codes "link"
part_name part.Turn = codes "turn"
part_name part.Conflict = codes "conflict"

-- a place of a network's file: the section, the number of the node, link or conflict, and that of the phase or turn within it
abbrev pub place_text : Place → List ℕ
place_text place = part_name place.part ++ 32 ∷ decimal place.item ++ 32 ∷ decimal place.sub

-- the code of a fault of a network: a place, or a link or node by its number, from 1; `NoMemory` has none
abbrev pub net_code : NetFault → List ℕ
net_code net.NoMemory = []
net_code net.NotToml = codes "toml"
net_code (net.Shape place) = codes "shape " ++ place_text place
net_code (net.Bound place) = codes "bound " ++ place_text place
net_code (net.Twice place) = codes "twice " ++ place_text place
net_code (net.Unknown place) = codes "unknown " ++ place_text place
net_code (net.Ends link) = codes "ends " ++ decimal (link + 1)
net_code (net.Crowd node) = codes "crowd " ++ decimal (node + 1)
net_code (net.Shares link) = codes "shares " ++ decimal (link + 1)
net_code (net.Phaseless link) = codes "phaseless " ++ decimal (link + 1)
net_code (net.Also link) = codes "also " ++ decimal (link + 1)
net_code (net.Yields link) = codes "yields " ++ decimal (link + 1)
net_code (net.Walk link) = codes "walk " ++ decimal (link + 1)
net_code (net.Clash a b) = codes "clash " ++ decimal (a + 1) ++ 32 ∷ decimal (b + 1)
