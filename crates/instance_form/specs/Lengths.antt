-- How many bytes an instance's text has at most.
use Rattle.std.specs.Prelude.{ℕ}

-- the line of a cluster: a word and five numbers
abbrev pub most_cluster_bytes : ℕ
most_cluster_bytes = 67

-- all other lines together
abbrev pub most_other_bytes : ℕ
most_other_bytes = 500
