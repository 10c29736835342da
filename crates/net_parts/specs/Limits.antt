-- How great the numbers of a network, and of a run of it, may be.
use Rattle.std.specs.Prelude.{ℕ, Bool, true, false}
use Rattle.net_parts.specs.declared.limits.Limits.{Limits}

-- nodes of a network
abbrev pub most_nodes : ℕ
most_nodes = 1024

-- links of a network
abbrev pub most_links : ℕ
most_links = 8192

-- conflicts of a network
abbrev pub most_conflicts : ℕ
most_conflicts = 32768

-- seconds from the begin of a link to its end
abbrev pub most_travel : ℕ
most_travel = 120

-- what leaves a link in a second, in thousandths of a vehicle
abbrev pub most_sat : ℕ
most_sat = 5000

-- seconds that a planning looks ahead
abbrev pub most_look : ℕ
most_look = 180

-- rounds of a run
abbrev pub most_rounds : ℕ
most_rounds = 17280

-- seconds of a run: a day
abbrev pub most_seconds : ℕ
most_seconds = 86400

-- a second in a file of a network may be any below this, however short its run is
abbrev pub small_seconds : ℕ
small_seconds = 18000

-- what enters a network in all, in thousandths of a vehicle
abbrev pub most_of_all : ℕ
most_of_all = 2000000000

-- how many nodes, links, conflicts and rounds there may be: of a great network, or of one that is not
abbrev pub limits : Bool → Limits
limits true = record { nodes = most_nodes; links = most_links; conflicts = most_conflicts; rounds = most_rounds }
limits false = record { nodes = 64; links = 320; conflicts = 1024; rounds = 600 }
