-- What a reading of the file says of its fault.
use Rattle.net_parts.specs.declared.faults.NetFault.{NetFault}
use Rattle.net_parts.specs.declared.faults.NetFault.TheVariants.{NoMemory, Shape}
use Rattle.net_parts.specs.declared.faults.Place.{Place}

-- the fact holds, unless the fault is out of memory
abbrev pub Unless : NetFault → Type 0 → Type 0
Unless NoMemory fact = Unit {0}
Unless _ fact = fact

-- A table can be refused with the fault. Unless it is out of memory, the fact holds.
abbrev pub Misses : NetFault → Type 0 → Type 0
Misses NoMemory fact = Unit {0}
Misses (Shape place) fact = fact
Misses _ fact = ⊥

-- The fault is `Shape` of a place of which this holds, or out of memory.
abbrev pub Blames : NetFault → (Place → Type 0) → Type 0
Blames NoMemory P = Unit {0}
Blames (Shape place) P = P place
Blames _ P = ⊥
