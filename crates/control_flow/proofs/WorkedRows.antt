-- Small timelines, worked out by hand and computed here from the definitions.
use Rattle.std.proofs.Common.{◌≡◌, ◌==◌, ℕ, true, false, List, [], ◌∷◌, Some, None, Ok, refl}
use Rattle.phase_plan.specs.declared.Phase.{Phase}
use Rattle.phase_plan.specs.Phases.{passed_numbers, switch_time}
use Rattle.switch_rules.specs.Serving.{head_after, serving}
use Rattle.switch_rules.specs.declared.Cluster.{Cluster}
use Rattle.switch_rules.specs.declared.Head.{Head}
use Rattle.switch_rules.specs.declared.Served.{Served}
use Rattle.control_flow.specs.declared.greens.Green.{Green}
use Rattle.control_flow.specs.declared.greens.Colour.TheVariants as colours
use Rattle.control_flow.specs.declared.greens.Sign.TheVariants as signs
use Rattle.control_flow.specs.Signs.{sign_at}
use Rattle.control_flow.specs.Greens.{green_at, standing, colour_at, head_at, spliced, end_of}
use Rattle.control_flow.specs.Timelines.{line_of, rotation_of, stops_at, turned}
use Rattle.control_flow.specs.Recalls.{recalled}

abbrev usual : Phase
usual = record { least = 5; greatest = 30; yellow = 3; clear = 2; loss = 2; wait = 120; skip = false }

abbrev two : List Phase
two = usual ∷ usual ∷ []

abbrev three : List Phase
three = usual ∷ usual ∷ usual ∷ []

abbrev cluster : ℕ → ℕ → ℕ → Cluster
cluster size arr len = record { size = size; load = size; arr = arr; len = len }

abbrev head : ℕ → ℕ → ℕ → Head
head phase since at = record { phase = phase; since = since; at = at; fresh = false }

abbrev green : ℕ → ℕ → ℕ → Green
green phase from to = record { phase = phase; from = from; to = to }

-- a cluster of each phase, the other phase first

abbrev first_served : Served
first_served = record { green = 20; start = 20; finish = 22; cost = 0; kept = false }

abbrev second_served : Served
second_served = record { green = 50; start = 50; finish = 52; cost = 0; kept = false }

first_fit : serving two (head 0 0 0) 1 (cluster 1000 20 2) ≡ Ok (first_served, head_after 1 first_served)
first_fit = refl

second_fit : serving two (head_after 1 first_served) 0 (cluster 1000 50 2) ≡ Ok (second_served, head_after 0 second_served)
second_fit = refl

other_first : line_of two (head 0 0 0) (1 ∷ 0 ∷ []) (first_served ∷ second_served ∷ []) 60 ≡ green 0 0 15 ∷ green 1 20 45 ∷ green 0 50 80 ∷ []
other_first = refl

-- no clusters: the green is held, then the ring turns

held : line_of two (head 0 0 0) [] [] 39 ≡ green 0 0 30 ∷ green 1 35 40 ∷ []
held = refl

held_longer : line_of two (head 0 0 0) [] [] 40 ≡ green 0 0 30 ∷ green 1 35 40 ∷ green 0 45 50 ∷ []
held_longer = refl

-- a late cluster: what is early is rested in all-red

abbrev late_served : Served
late_served = record { green = 60; start = 60; finish = 62; cost = 0; kept = false }

late_fit : serving two (head 0 0 0) 1 (cluster 1000 60 2) ≡ Ok (late_served, head_after 1 late_served)
late_fit = refl

abbrev late : List Green
late = green 0 0 30 ∷ green 1 60 90 ∷ []

late-line : line_of two (head 0 0 0) (1 ∷ []) (late_served ∷ []) 60 ≡ late
late-line = refl

late-yellow : colour_at two late 0 32 ≡ colours.Yellow
late-yellow = refl

late-red : colour_at two late 0 33 ≡ colours.Red
late-red = refl

late-rest : colour_at two late 1 59 ≡ colours.Red
late-rest = refl

late-green : colour_at two late 1 60 ≡ colours.Green
late-green = refl

late-nothing : green_at late 59 ≡ None
late-nothing = refl

late-standing : standing late 89 ≡ Some (1, 60)
late-standing = refl

late-on : sign_at late 29 ≡ signs.On 0 0
late-on = refl

late-change : sign_at late 30 ≡ signs.Change 0 1
late-change = refl

late-changing : sign_at late 59 ≡ signs.Change 0 1
late-changing = refl

late-next : sign_at late 60 ≡ signs.On 1 60
late-next = refl

late-dark : sign_at late 90 ≡ signs.Dark
late-dark = refl

early-dark : sign_at (green 1 5 10 ∷ []) 4 ≡ signs.Dark
early-dark = refl

-- the head in the green, in the start-up loss of one, and before one

late-start : head_at two late 1 ≡ Some (record { phase = 0; since = 0; at = 1; fresh = true })
late-start = refl

late-in : head_at two late 29 ≡ Some (head 0 0 29)
late-in = refl

late-before : head_at two late 30 ≡ Some (record { phase = 1; since = 60; at = 60; fresh = true })
late-before = refl

late-begin : head_at two late 61 ≡ Some (record { phase = 1; since = 60; at = 61; fresh = true })
late-begin = refl

late-moving : head_at two late 62 ≡ Some (head 1 60 62)
late-moving = refl

late-over : head_at two late 90 ≡ None
late-over = refl

late-end : end_of late ≡ 90
late-end = refl

-- a green that goes on is one row

abbrev third_served : Served
third_served = record { green = 0; start = 20; finish = 22; cost = 0; kept = true }

third_fit : serving two (head 0 0 0) 0 (cluster 1000 20 2) ≡ Ok (third_served, head_after 0 third_served)
third_fit = refl

goes_on : line_of two (head 0 0 0) (0 ∷ []) (third_served ∷ []) 30 ≡ green 0 0 30 ∷ green 1 35 40 ∷ []
goes_on = refl

-- the ring passes phases on the way, each for its least green

passing_one : passed_numbers three 0 2 ≡ 1 ∷ []
passing_one = refl

passing_the_end : passed_numbers three 2 1 ≡ 0 ∷ []
passing_the_end = refl

passing_round : passed_numbers three 1 1 ≡ 2 ∷ 0 ∷ []
passing_round = refl

abbrev round_served : Served
round_served = record { green = 60; start = 60; finish = 62; cost = 0; kept = false }

round_fit : serving three (head 1 10 12) 1 (cluster 1000 60 2) ≡ Ok (round_served, head_after 1 round_served)
round_fit = refl

round : line_of three (head 1 10 12) (1 ∷ []) (round_served ∷ []) 60 ≡ green 1 10 35 ∷ green 2 40 45 ∷ green 0 50 55 ∷ green 1 60 90 ∷ []
round = refl

-- the ring leaves out a marked phase

abbrev marked : List Phase
marked = usual ∷ record usual { skip = true } ∷ usual ∷ []

switch_past : switch_time marked 0 2 ≡ 5
switch_past = refl

switch_to : switch_time marked 0 1 ≡ 5
switch_to = refl

switch_round : switch_time marked 0 0 ≡ 15
switch_round = refl

switch_round_to : switch_time marked 2 1 ≡ 15
switch_round_to = refl

switch_round_from : switch_time marked 1 1 ≡ 25
switch_round_from = refl

turns_past : rotation_of marked (head 0 0 0) 20 ≡ green 0 0 5 ∷ green 2 10 15 ∷ green 0 20 25 ∷ []
turns_past = refl

-- a head in a marked phase: the ring turns from there to the next unmarked one
turns_from_marked : rotation_of marked (head 1 0 0) 20 ≡ green 1 0 5 ∷ green 2 10 15 ∷ green 0 20 25 ∷ []
turns_from_marked = refl

-- a cluster of a marked phase has its green, and the ring passes the others after it
passed_to_marked : passed_numbers marked 0 1 ≡ []
passed_to_marked = refl

passed_from_marked : passed_numbers marked 1 1 ≡ 2 ∷ 0 ∷ []
passed_from_marked = refl

-- a free ring: directly to a later phase, and to a second green of the same phase by all others

abbrev free : List Phase
free = record usual { skip = true } ∷ record usual { skip = true } ∷ record usual { skip = true } ∷ []

abbrev direct_served : Served
direct_served = record { green = 20; start = 20; finish = 22; cost = 0; kept = false }

direct_fit : serving free (head 0 0 0) 2 (cluster 1000 20 2) ≡ Ok (direct_served, head_after 2 direct_served)
direct_fit = refl

abbrev again_served : Served
again_served = record { green = 60; start = 60; finish = 62; cost = 0; kept = false }

again_fit : serving free (head_after 2 direct_served) 2 (cluster 1000 60 2) ≡ Ok (again_served, head_after 2 again_served)
again_fit = refl

free_line : line_of free (head 0 0 0) (2 ∷ 2 ∷ []) (direct_served ∷ again_served ∷ []) 60
    ≡ green 0 0 15 ∷ green 2 20 35 ∷ green 0 40 45 ∷ green 1 50 55 ∷ green 2 60 90 ∷ []
free_line = refl

-- with no plan it turns as if no phase were marked, and where one is called it goes there, and then to the next one
free_turns : rotation_of free (head 2 0 0) 20 ≡ green 2 0 5 ∷ green 0 10 15 ∷ green 1 20 25 ∷ []
free_turns = refl

free_called : turned free (stops_at free (0 ∷ 0 ∷ 1 ∷ [])) (head 0 0 0) 5 25 ≡ green 0 0 5 ∷ green 2 10 15 ∷ green 0 20 25 ∷ green 2 30 35 ∷ []
free_called = refl

-- a recalled phase alone has no mark, in a free ring too
abbrev one_recalled : List Phase
one_recalled = record usual { skip = true } ∷ usual ∷ record usual { skip = true } ∷ []

free_recalled : recalled free (λ k. k == 1) ≡ one_recalled
free_recalled = refl

-- it is not passed, neither on the way to another phase nor from one to itself; nobody else is green on the way
recalled_line : line_of one_recalled (head 0 0 0) (2 ∷ 2 ∷ []) (direct_served ∷ again_served ∷ []) 60
    ≡ green 0 0 5 ∷ green 1 10 15 ∷ green 2 20 45 ∷ green 1 50 55 ∷ green 2 60 90 ∷ []
recalled_line = refl

-- from it to itself the ring turns as if none were marked, and with no plan from it to the one after it
recalled_again : passed_numbers one_recalled 1 1 ≡ 2 ∷ 0 ∷ []
recalled_again = refl

recalled_turns : rotation_of one_recalled (head 1 0 0) 20 ≡ green 1 0 5 ∷ green 2 10 15 ∷ green 1 20 25 ∷ []
recalled_turns = refl

free_uncalled : recalled free (λ k. k == 3) ≡ free
free_uncalled = refl

marked_recalled : recalled marked (λ k. k == 1) ≡ three
marked_recalled = refl

marked_uncalled : recalled marked (λ k. k == 0) ≡ marked
marked_uncalled = refl

-- with no plan

turns : rotation_of two (head 0 0 0) 20 ≡ green 0 0 5 ∷ green 1 10 15 ∷ green 0 20 25 ∷ []
turns = refl

turns_from_later : rotation_of two (head 1 10 27) 20 ≡ green 1 10 27 ∷ []
turns_from_later = refl

-- a splice

spliced_early : spliced (green 0 0 30 ∷ green 1 35 40 ∷ []) (green 0 0 5 ∷ green 1 10 40 ∷ []) ≡ green 0 0 5 ∷ green 1 10 40 ∷ []
spliced_early = refl

spliced_late : spliced (green 0 0 30 ∷ green 1 35 40 ∷ green 0 45 50 ∷ []) (green 1 35 65 ∷ []) ≡ green 0 0 30 ∷ green 1 35 65 ∷ []
spliced_late = refl
