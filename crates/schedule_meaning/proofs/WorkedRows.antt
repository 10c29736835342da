-- Small schedules, worked out by hand and computed here from the definitions.
use Rattle.std.proofs.Common.{◌≡◌, ℕ, ◌+◌, true, false, List, [], ◌∷◌, length, Some, None, Ok, Err, refl, ◌∙◌}
use Rattle.phase_plan.specs.Phases.{switch_time}
use Rattle.phase_plan.specs.declared.Phase.{Phase}
use Rattle.switch_rules.specs.Serving.{serving}
use Rattle.switch_rules.specs.Orders.{orders, mixtures}
use Rattle.switch_rules.specs.declared.Cluster.{Cluster}
use Rattle.switch_rules.specs.declared.Head.{Head}
use Rattle.switch_rules.specs.declared.Unfit.TheVariants.{TooLong, TooLate}
use Rattle.switch_rules.proofs.Counting.{length-orders_of}
use Rattle.schedule_meaning.specs.Instances.{Problem, counts_of}
use Rattle.schedule_meaning.specs.Timing.{timed, timing, delay_of}
use Rattle.schedule_meaning.specs.Best.{IsBest}
use Rattle.schedule_meaning.specs.Choice.{best_after}
use Rattle.schedule_meaning.specs.declared.planners.Answer.{Answer}
use Rattle.schedule_meaning.specs.declared.planners.Answer.TheVariants.{Plan, NoPlan}
use Rattle.schedule_meaning.proofs.Choosing.{search-best}

-- a phase whose clusters may wait so long
abbrev waiting_at_most : ℕ → Phase
waiting_at_most wait = record { least = 5; greatest = 30; yellow = 3; clear = 2; loss = 2; wait = wait; skip = false }

abbrev usual : Phase
usual = waiting_at_most 120

abbrev loaded : ℕ → ℕ → ℕ → ℕ → Cluster
loaded size load arr len = record { size = size; load = load; arr = arr; len = len }

-- its load is its size
abbrev cluster : ℕ → ℕ → ℕ → Cluster
cluster size arr len = loaded size size arr len

-- a green that goes on: its phase, since when, and up to when its time is spent
abbrev head : ℕ → ℕ → ℕ → Head
head phase since at = record { phase = phase; since = since; at = at; fresh = false }

abbrev fresh_head : Head
fresh_head = record { phase = 0; since = 10; at = 10; fresh = true }

-- two usual phases with these clusters, the first green from second 0 on
abbrev two_phases : List Cluster → List Cluster → Problem
two_phases first second = record { plan = usual ∷ usual ∷ []; head = head 0 0 0; lists = first ∷ second ∷ [] }

-- what is found along all orders
abbrev found : Problem → Answer
found p = best_after p [] NoPlan (orders (counts_of p.lists))

-- the time of a switch, on a ring of two and on one of three

abbrev three : List Phase
three = usual ∷ usual ∷ usual ∷ []

to_the_next : switch_time three 0 1 ≡ 5
to_the_next = refl

past_one : switch_time three 0 2 ≡ 15
past_one = refl

past_the_end : switch_time three 2 1 ≡ 15
past_the_end = refl

round_the_ring : switch_time three 0 0 ≡ 25
round_the_ring = refl

round_a_ring_of_two : switch_time (usual ∷ usual ∷ []) 0 0 ≡ 15
round_a_ring_of_two = refl

-- a cluster of each phase: the one whose green stands goes first

abbrev crossing : Problem
crossing = two_phases (cluster 4000 0 8 ∷ []) (cluster 2000 3 4 ∷ [])

crossing-orders : orders (counts_of crossing.lists) ≡ (0 ∷ 1 ∷ []) ∷ (1 ∷ 0 ∷ []) ∷ []
crossing-orders = refl

crossing-standing_first : timed crossing (0 ∷ 1 ∷ []) ≡ Some (
  record { green = 0; start = 0; finish = 8; cost = 0; kept = true }
      ∷ record { green = 13; start = 15; finish = 19; cost = 24000; kept = false } ∷ [],
  head 1 13 19,
)
crossing-standing_first = refl

crossing-other_first : timed crossing (1 ∷ 0 ∷ []) ≡ Some (
  record { green = 10; start = 12; finish = 16; cost = 18000; kept = false }
      ∷ record { green = 21; start = 23; finish = 31; cost = 92000; kept = false } ∷ [],
  head 0 21 31,
)
crossing-other_first = refl

crossing-delay : delay_of crossing (0 ∷ 1 ∷ []) ≡ Some 24000
crossing-delay = refl

crossing-other_delay : delay_of crossing (1 ∷ 0 ∷ []) ≡ Some 110000
crossing-other_delay = refl

crossing-found : found crossing ≡ Plan (0 ∷ 1 ∷ []) 24000
crossing-found = refl

crossing-best : IsBest crossing (Plan (0 ∷ 1 ∷ []) 24000)
crossing-best = search-best crossing

-- it is not timed where a phase is named twice, is unknown, or is left out

crossing-twice : timed crossing (0 ∷ 0 ∷ []) ≡ None
crossing-twice = refl

crossing-unknown : timed crossing (0 ∷ 2 ∷ []) ≡ None
crossing-unknown = refl

crossing-left_out : timed crossing (0 ∷ []) ≡ None
crossing-left_out = refl

crossing-too_many : timed crossing (0 ∷ 1 ∷ 1 ∷ []) ≡ None
crossing-too_many = refl

-- the same clusters where a second of the other one's wait counts twenty times: the other one goes first

abbrev weighted : Problem
weighted = two_phases (loaded 4000 4000 0 8 ∷ []) (loaded 2000 40000 3 4 ∷ [])

weighted-standing_first : delay_of weighted (0 ∷ 1 ∷ []) ≡ Some 480000
weighted-standing_first = refl

weighted-other_first : delay_of weighted (1 ∷ 0 ∷ []) ≡ Some (360000 + 92000)
weighted-other_first = refl

weighted-found : found weighted ≡ Plan (1 ∷ 0 ∷ []) 452000
weighted-found = refl

-- two orders of one delay: the lexicographically first is the best

abbrev tied : Problem
tied = two_phases (cluster 3000 0 8 ∷ []) (cluster 23000 3 4 ∷ [])

tied-first : delay_of tied (0 ∷ 1 ∷ []) ≡ Some 276000
tied-first = refl

tied-second : delay_of tied (1 ∷ 0 ∷ []) ≡ Some 276000
tied-second = refl

tied-found : found tied ≡ Plan (0 ∷ 1 ∷ []) 276000
tied-found = refl

-- a cluster waits too long in either order: no plan

abbrev impatient : Problem
impatient = record { plan = waiting_at_most 20 ∷ waiting_at_most 10 ∷ []; head = head 0 0 0; lists = crossing.lists }

impatient-first : timed impatient (0 ∷ 1 ∷ []) ≡ None
impatient-first = refl

impatient-second : timed impatient (1 ∷ 0 ∷ []) ≡ None
impatient-second = refl

impatient-too_late : serving impatient.plan (head 0 0 8) 1 (cluster 2000 3 4) ≡ Err TooLate
impatient-too_late = refl

impatient-found : found impatient ≡ NoPlan
impatient-found = refl

impatient-none : IsBest impatient NoPlan
impatient-none = search-best impatient

-- the longest wait that is allowed: 12 and 9 seconds

impatient-just : delay_of (record { plan = usual ∷ waiting_at_most 12 ∷ []; head = head 0 0 0; lists = crossing.lists }) (0 ∷ 1 ∷ []) ≡ Some 24000
impatient-just = refl

-- green waits for clusters that come later

abbrev later : Problem
later = two_phases (cluster 1000 50 2 ∷ []) (cluster 1000 20 2 ∷ [])

later-as_they_come : timing later (1 ∷ 0 ∷ []) ≡ Some (0, head 0 50 52)
later-as_they_come = refl

later-other : delay_of later (0 ∷ 1 ∷ []) ≡ Some 42000
later-other = refl

later-found : found later ≡ Plan (1 ∷ 0 ∷ []) 0
later-found = refl

-- a green that is filled to its last second, and one that a second cluster does not fit

abbrev filled : Problem
filled = two_phases (cluster 1000 0 20 ∷ cluster 1000 20 10 ∷ []) []

filled-kept : timed filled (0 ∷ 0 ∷ []) ≡ Some (
  record { green = 0; start = 0; finish = 20; cost = 0; kept = true }
      ∷ record { green = 0; start = 20; finish = 30; cost = 0; kept = true } ∷ [],
  head 0 0 30,
)
filled-kept = refl

filled-found : found filled ≡ Plan (0 ∷ 0 ∷ []) 0
filled-found = refl

abbrev overfull : Problem
overfull = two_phases (cluster 1000 0 20 ∷ cluster 1000 20 15 ∷ []) []

overfull-round : timed overfull (0 ∷ 0 ∷ []) ≡ Some (
  record { green = 0; start = 0; finish = 20; cost = 0; kept = true }
      ∷ record { green = 35; start = 37; finish = 52; cost = 17000; kept = false } ∷ [],
  head 0 35 52,
)
overfull-round = refl

overfull-found : found overfull ≡ Plan (0 ∷ 0 ∷ []) 17000
overfull-found = refl

-- nothing to serve: the empty sequence

abbrev empty : Problem
empty = two_phases [] []

empty-orders : orders (counts_of empty.lists) ≡ [] ∷ []
empty-orders = refl

empty-timing : timing empty [] ≡ Some (0, head 0 0 0)
empty-timing = refl

empty-found : found empty ≡ Plan [] 0
empty-found = refl

-- the start-up loss of a fresh green is paid by a cluster that waits already

fresh-waits : serving (usual ∷ usual ∷ []) fresh_head 0 (cluster 1000 10 4)
    ≡ Ok (record { green = 10; start = 12; finish = 16; cost = 2000; kept = true }, head 0 10 16)
fresh-waits = refl

fresh-comes : serving (usual ∷ usual ∷ []) fresh_head 0 (cluster 1000 11 4)
    ≡ Ok (record { green = 10; start = 11; finish = 15; cost = 0; kept = true }, head 0 10 15)
fresh-comes = refl

-- in a new green too: by one that comes as the green begins, and not by one that comes a second later

anew-waits : serving (usual ∷ usual ∷ []) (head 0 0 0) 1 (cluster 1000 10 4)
    ≡ Ok (record { green = 10; start = 12; finish = 16; cost = 2000; kept = false }, head 1 10 16)
anew-waits = refl

anew-comes : serving (usual ∷ usual ∷ []) (head 0 0 0) 1 (cluster 1000 11 4)
    ≡ Ok (record { green = 11; start = 11; finish = 15; cost = 0; kept = false }, head 1 11 15)
anew-comes = refl

-- a new green that is filled to its last second, and one second more

anew-filled : serving (usual ∷ usual ∷ []) (head 0 0 0) 1 (cluster 1000 0 28)
    ≡ Ok (record { green = 10; start = 12; finish = 40; cost = 12000; kept = false }, head 1 10 40)
anew-filled = refl

anew-too_long : serving (usual ∷ usual ∷ []) (head 0 0 0) 1 (cluster 1000 0 29) ≡ Err TooLong
anew-too_long = refl

-- in a switch the least green, the yellow and the clear time are the old phase's, loss and greatest green the new one's

abbrev slow : Phase
slow = record { least = 7; greatest = 20; yellow = 4; clear = 2; loss = 1; wait = 9; skip = false }

unlike-switch : serving (slow ∷ usual ∷ []) (head 0 0 0) 1 (cluster 1000 0 28)
    ≡ Ok (record { green = 13; start = 15; finish = 43; cost = 15000; kept = false }, head 1 13 43)
unlike-switch = refl

-- a cluster that is too long and too late is called too long

too_long-first : serving (waiting_at_most 1 ∷ waiting_at_most 1 ∷ []) (head 0 0 0) 1 (cluster 1000 0 29) ≡ Err TooLong
too_long-first = refl

-- longer than any green

abbrev endless : Problem
endless = two_phases (cluster 1000 0 40 ∷ []) []

endless-too_long : serving endless.plan endless.head 0 (cluster 1000 0 40) ≡ Err TooLong
endless-too_long = refl

endless-found : found endless ≡ NoPlan
endless-found = refl

-- the least cost of a prefix is no guide: the dearer prefix leaves a green that the last cluster still fits

abbrev deceptive : Problem
deceptive = two_phases (cluster 1000 0 10 ∷ cluster 1000 30 8 ∷ cluster 1000 41 12 ∷ []) (cluster 6000 0 4 ∷ [])

abbrev without_the_last : Problem
without_the_last = two_phases (cluster 1000 0 10 ∷ cluster 1000 30 8 ∷ []) (cluster 6000 0 4 ∷ [])

deceptive-orders : orders (counts_of deceptive.lists) ≡ (0 ∷ 0 ∷ 0 ∷ 1 ∷ []) ∷ (0 ∷ 0 ∷ 1 ∷ 0 ∷ []) ∷ (0 ∷ 1 ∷ 0 ∷ 0 ∷ []) ∷ (1 ∷ 0 ∷ 0 ∷ 0 ∷ []) ∷ []
deceptive-orders = refl

cheap_prefix : timing without_the_last (1 ∷ 0 ∷ 0 ∷ []) ≡ Some (98000, head 0 21 41)
cheap_prefix = refl

dear_prefix : timing without_the_last (0 ∷ 1 ∷ 0 ∷ []) ≡ Some (102000, head 0 30 38)
dear_prefix = refl

cheap_prefix-then : delay_of deceptive (1 ∷ 0 ∷ 0 ∷ 0 ∷ []) ≡ Some 115000
cheap_prefix-then = refl

dear_prefix-then : delay_of deceptive (0 ∷ 1 ∷ 0 ∷ 0 ∷ []) ≡ Some 102000
dear_prefix-then = refl

deceptive-found : found deceptive ≡ Plan (0 ∷ 1 ∷ 0 ∷ 0 ∷ []) 102000
deceptive-found = refl

deceptive-best : IsBest deceptive (Plan (0 ∷ 1 ∷ 0 ∷ 0 ∷ []) 102000)
deceptive-best = search-best deceptive

-- how many orders there are

nine_and_nine : mixtures (9 ∷ 9 ∷ []) ≡ 48620
nine_and_nine = refl

ten_and_nine : mixtures (10 ∷ 9 ∷ []) ≡ 92378
ten_and_nine = refl

nine_and_nine-orders : length (orders (9 ∷ 9 ∷ [])) ≡ 48620
nine_and_nine-orders = length-orders_of 18 (9 ∷ 9 ∷ []) refl ∙ nine_and_nine

ten_and_nine-orders : length (orders (10 ∷ 9 ∷ [])) ≡ 92378
ten_and_nine-orders = length-orders_of 19 (10 ∷ 9 ∷ []) refl ∙ ten_and_nine
