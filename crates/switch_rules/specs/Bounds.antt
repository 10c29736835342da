-- The bounds that the rules of serving keep, and on which the crates above rest.
use Rattle.std.specs.Prelude.{ℕ}

-- clusters are served from heads whose time is spent by this second
abbrev pub latest_time : ℕ
latest_time = 104000

-- clusters arrive, and the green of an instance's head begins, by this second
abbrev pub latest_arrival : ℕ
latest_arrival = 100000

-- no cluster has more thousandths of a vehicle
abbrev pub greatest_size : ℕ
greatest_size = 20000000

-- no link has a greater weight
abbrev pub greatest_weight : ℕ
greatest_weight = 20

-- no cluster has a greater load
abbrev pub greatest_load : ℕ
greatest_load = 400000000

-- by this second every fit serving has ended
abbrev pub latest_finish : ℕ
latest_finish = 103840

-- no fit serving costs more: the greatest load that waits for an hour
abbrev pub greatest_cost : ℕ
greatest_cost = 1440000000000

-- an instance has no more clusters
abbrev pub most_clusters : ℕ
most_clusters = 40

-- nor do its servings cost more together
abbrev pub greatest_delay : ℕ
greatest_delay = 57600000000000

-- a table has no more entries: one for each place of each order, and the first
abbrev pub most_entries : ℕ
most_entries = 2000001

-- an instance can be served in no more orders
abbrev pub most_orders : ℕ
most_orders = 50000
