-- What a network file says: its table, as `toml` reads it, and the draft that it stands for.
use Rattle.std.specs.Prelude.{codes, ℕ, ◌-◌, ◌^◌, ◌≤◌, ◌==◌, nat_lt, ℤ, pos, negsuc, Bool, true, false, ◌&&◌, if◌then◌else◌, List, [], ◌∷◌, Option, Some, None, is_some, option_map, IfSome}
use Rattle.std.specs.List.{list_any}
use Rattle.std.specs.Str.{bytes_eq}
use Rattle.toml.specs.Data.{Data, Items, no_items, item, Members, no_members, member, get_member, as_str, as_integer, as_bool, as_array, as_table}
use Rattle.foundation.specs.Options.{◌>>=◌, each}
use Rattle.phase_plan.specs.declared.Phase.{Phase}
use Rattle.net_parts.specs.declared.drafts.Run.{Run}
use Rattle.net_parts.specs.declared.drafts.Draft.{Draft}
use Rattle.net_parts.specs.declared.drafts.DraftNode.{DraftNode}
use Rattle.net_parts.specs.declared.drafts.DraftPhase.{DraftPhase}
use Rattle.net_parts.specs.declared.drafts.DraftLink.{DraftLink}
use Rattle.net_parts.specs.declared.drafts.DraftTurn.{DraftTurn}
use Rattle.net_parts.specs.declared.drafts.DraftYield.{DraftYield}
use Rattle.net_parts.specs.declared.drafts.DraftConflict.{DraftConflict}
use Rattle.net_parts.specs.declared.roads.Walk.{Walk}

-- a whole number of the file; one that is no u32 stands as the greatest u32, which is out of every bound
abbrev pub field_of : ℤ → ℕ
field_of (pos n) = if nat_lt n (2 ^ 32) then n else 2 ^ 32 - 1
field_of (negsuc n) = 2 ^ 32 - 1

-- the elements of an array
abbrev pub list_of : Items → List Data
list_of no_items = []
list_of (item d ds) = d ∷ list_of ds

-- each key of a table is one of these
abbrev pub has_only : List (List ℕ) → Members → Bool
has_only keys no_members = true
has_only keys (member key d ms) = list_any (bytes_eq key) keys && has_only keys ms

-- the table, where it has no key beside these
unfoldable pub only : List (List ℕ) → Members → Option Members
only keys ms = if has_only keys ms then Some ms else None

-- the whole number at a key; nothing, here and below, where the key is absent or has another kind
unfoldable pub number_at : List ℕ → Members → Option ℕ
number_at key ms = do
  d ← get_member key ms
  z ← as_integer d
  Some (field_of z)

-- the text at a key
unfoldable pub text_at : List ℕ → Members → Option (List ℕ)
text_at key ms = do
  d ← get_member key ms
  as_str d

-- the table at a key
unfoldable pub table_at : List ℕ → Members → Option Members
table_at key ms = do
  d ← get_member key ms
  as_table d

-- the elements of the array at a key
unfoldable pub list_at : List ℕ → Members → Option (List Data)
list_at key ms = do
  d ← get_member key ms
  ds ← as_array d
  Some (list_of ds)

-- a text that may be absent
abbrev pub text_if : Option Data → Option (Option (List ℕ))
text_if None = Some None
text_if (Some d) = do
  text ← as_str d
  Some (Some text)

-- the text at a key that may be absent
unfoldable pub optional_text_at : List ℕ → Members → Option (Option (List ℕ))
optional_text_at key ms = text_if (get_member key ms)

-- a truth value that may be absent, where the file need not be complete; an absent one is false
abbrev pub flag_if : Bool → Option Data → Option Bool
flag_if complete None = if complete then None else Some false
flag_if complete (Some d) = as_bool d

-- the truth value at a key that may be absent where the file need not be complete; an absent one is false
unfoldable pub flag_at : Bool → List ℕ → Members → Option Bool
flag_at complete key ms = flag_if complete (get_member key ms)

-- a weight that may be absent, where the file need not be complete; an absent one is 1
abbrev pub weight_if : Bool → Option Data → Option ℕ
weight_if complete None = if complete then None else Some 1
weight_if complete (Some d) = do
  z ← as_integer d
  Some (field_of z)

-- the weight at a key that may be absent where the file need not be complete; an absent one is 1
unfoldable pub weight_at : Bool → List ℕ → Members → Option ℕ
weight_at complete key ms = weight_if complete (get_member key ms)

-- a whole number that may be absent
abbrev pub number_if : Option Data → Option (Option ℕ)
number_if None = Some None
number_if (Some d) = do
  z ← as_integer d
  Some (Some (field_of z))

-- the whole number at a key that may be absent
unfoldable pub optional_number_at : List ℕ → Members → Option (Option ℕ)
optional_number_at key ms = number_if (get_member key ms)

-- an array that may be absent; an absent one is empty
abbrev pub list_if : Option Data → Option (List Data)
list_if None = Some []
list_if (Some d) = do
  ds ← as_array d
  Some (list_of ds)

-- the elements of the array at a key that may be absent
unfoldable pub optional_list_at : List ℕ → Members → Option (List Data)
optional_list_at key ms = list_if (get_member key ms)

-- an array that may be absent
abbrev pub array_if : Option Data → Option (Option (List Data))
array_if None = Some None
array_if (Some d) = do
  ds ← as_array d
  Some (Some (list_of ds))

-- the elements of the array at a key that may be absent, where it is there
unfoldable pub array_at : List ℕ → Members → Option (Option (List Data))
array_at key ms = array_if (get_member key ms)

-- the keys of a run
unfoldable pub run_keys : List (List ℕ)
run_keys =
    codes "step" ∷ codes "look" ∷ codes "gap" ∷ codes "rounds" ∷ codes "split" ∷ codes "age" ∷ codes "hold"
    ∷ codes "recall" ∷ codes "act_step" ∷ codes "rate" ∷ []

-- the run of a table that has its keys and no other, each of its kind, as all tables below must; `split`, `age`, `hold`,
-- `recall`, `act_step` and `rate` may be absent in every file
unfoldable pub run_of : Members → Option Run
run_of ms = do
  ms ← only run_keys ms
  step ← number_at (codes "step") ms
  look ← number_at (codes "look") ms
  gap ← number_at (codes "gap") ms
  rounds ← number_at (codes "rounds") ms
  split ← flag_at false (codes "split") ms
  age ← optional_number_at (codes "age") ms
  hold ← optional_number_at (codes "hold") ms
  recall ← optional_number_at (codes "recall") ms
  act_step ← optional_number_at (codes "act_step") ms
  rate ← optional_number_at (codes "rate") ms
  Some (record {
    step = step;
    look = look;
    gap = gap;
    rounds = rounds;
    split = split;
    age = age;
    hold = hold;
    recall = recall;
    act_step = act_step;
    rate = rate;
  })

-- whether a file says version 3, and so may name further greens of phases, yields and walks, have free rings and the counts of a
-- great network
abbrev pub is_third : Option ℕ → Bool
is_third None = false
is_third (Some version) = version == 3

-- the keys that a phase has in every file
unfoldable pub phase_keys : List (List ℕ)
phase_keys =
    codes "least" ∷ codes "greatest" ∷ codes "yellow" ∷ codes "clear" ∷ codes "loss" ∷ codes "wait" ∷ codes "links"
    ∷ codes "skip" ∷ []

-- the keys of a phase in a file of this version
unfoldable pub phase_keys_in : Option ℕ → List (List ℕ)
phase_keys_in version = if is_third version then codes "also" ∷ phase_keys else phase_keys

-- a phase as it is in the file, the names of its links not yet read
pub record PhaseForm : Type 0 where
  pub phase : Phase
  pub links : List Data
  pub also : List Data

-- the own form of a phase, in a file of this version; one that says its version must be complete, here and below
unfoldable pub phase_form : Option ℕ → Data → Option PhaseForm
phase_form version d = do
  ms ← as_table d
  ms ← only (phase_keys_in version) ms
  least ← number_at (codes "least") ms
  greatest ← number_at (codes "greatest") ms
  yellow ← number_at (codes "yellow") ms
  clear ← number_at (codes "clear") ms
  loss ← number_at (codes "loss") ms
  wait ← number_at (codes "wait") ms
  skip ← flag_at (is_some version) (codes "skip") ms
  links ← list_at (codes "links") ms
  also ← optional_list_at (codes "also") ms
  Some (record {
    phase = record {
      least = least;
      greatest = greatest;
      yellow = yellow;
      clear = clear;
      loss = loss;
      wait = wait;
      skip = skip;
    };
    links = links;
    also = also;
  })

-- a phase with the names of its links
unfoldable pub phase_of : Option ℕ → Data → Option DraftPhase
phase_of version d = do
  form ← phase_form version d
  links ← each as_str form.links
  also ← each as_str form.also
  Some (record { phase = form.phase; links = links; also = also })

-- a node as it is in the file, its phases not yet read
pub record NodeForm : Type 0 where
  pub name : List ℕ
  pub phases : List Data

-- the own form of a node
unfoldable pub node_form : Data → Option NodeForm
node_form d = do
  ms ← as_table d
  ms ← only (codes "name" ∷ codes "phase" ∷ []) ms
  name ← text_at (codes "name") ms
  phases ← list_at (codes "phase") ms
  Some (record { name = name; phases = phases })

-- a node with its phases, whose ring may be free in a file of version 3
unfoldable pub node_of : Option ℕ → Data → Option DraftNode
node_of version d = do
  node ← node_form d
  phases ← each (phase_of version) node.phases
  Some (record { name = node.name; phases = phases; free_ring = is_third version })

-- a turn
unfoldable pub turn_of : Data → Option DraftTurn
turn_of d = do
  ms ← as_table d
  ms ← only (codes "exit" ∷ codes "share" ∷ []) ms
  exit ← text_at (codes "exit") ms
  share ← number_at (codes "share") ms
  Some (record { exit = exit; share = share })

-- a link as it is in the file, its turns not yet read
pub record LinkForm : Type 0 where
  pub name : List ℕ
  pub from : Option (List ℕ)
  pub to : Option (List ℕ)
  pub travel : ℕ
  pub sat : ℕ
  pub weight : ℕ
  pub yields : Option (List Data × ℕ)
  pub walk : Option Walk
  pub turns : List Data

-- what stands at two keys of which a table has both or neither
abbrev pub both_or_neither : {X Y : Type 0} → Option X → Option Y → Option (Option (X × Y))
both_or_neither None None = Some None
both_or_neither (Some x) (Some y) = Some (Some (x, y))
both_or_neither _ _ = None

-- the links to which a link gives way, their names not yet read, and its discharge then
unfoldable pub yields_at : Members → Option (Option (List Data × ℕ))
yields_at ms = do
  links ← array_at (codes "yields") ms
  sat ← optional_number_at (codes "yield_sat") ms
  both_or_neither links sat

-- the walk of a link
unfoldable pub walk_at : Members → Option (Option Walk)
walk_at ms = do
  seconds ← optional_number_at (codes "walk") ms
  cross ← optional_number_at (codes "cross") ms
  walk ← both_or_neither seconds cross
  Some (option_map (λ w. record { seconds = w.0; cross = w.1 }) walk)

-- the keys that a link has in every file
unfoldable pub link_keys : List (List ℕ)
link_keys = codes "name" ∷ codes "from" ∷ codes "to" ∷ codes "travel" ∷ codes "sat" ∷ codes "weight" ∷ codes "turn" ∷ []

-- the keys of a link in a file of this version
unfoldable pub link_keys_in : Option ℕ → List (List ℕ)
link_keys_in version =
    if is_third version then codes "yields" ∷ codes "yield_sat" ∷ codes "walk" ∷ codes "cross" ∷ link_keys
    else link_keys

-- the own form of a link, in a file of this version
unfoldable pub link_form : Option ℕ → Data → Option LinkForm
link_form version d = do
  ms ← as_table d
  ms ← only (link_keys_in version) ms
  name ← text_at (codes "name") ms
  travel ← number_at (codes "travel") ms
  sat ← number_at (codes "sat") ms
  weight ← weight_at (is_some version) (codes "weight") ms
  from ← optional_text_at (codes "from") ms
  to ← optional_text_at (codes "to") ms
  yields ← yields_at ms
  walk ← walk_at ms
  turns ← optional_list_at (codes "turn") ms
  Some (record {
    name = name;
    from = from;
    to = to;
    travel = travel;
    sat = sat;
    weight = weight;
    yields = yields;
    walk = walk;
    turns = turns;
  })

-- the links to which a link gives way, by their names
abbrev pub yield_of : Option (List Data × ℕ) → Option (Option DraftYield)
yield_of None = Some None
yield_of (Some given) = do
  links ← each as_str given.0
  Some (Some (record { links = links; sat = given.1 }))

-- a link with the names of those to which it gives way, its turns not yet read
unfoldable pub link_own : Option ℕ → Data → Option (LinkForm × Option DraftYield)
link_own version d = do
  link ← link_form version d
  yields ← yield_of link.yields
  Some (link, yields)

-- a link with its turns
unfoldable pub link_of : Option ℕ → Data → Option DraftLink
link_of version d = do
  own ← link_own version d
  turns ← each turn_of own.0.turns
  Some (record {
    name = own.0.name;
    from = own.0.from;
    to = own.0.to;
    travel = own.0.travel;
    sat = own.0.sat;
    weight = own.0.weight;
    yields = own.1;
    walk = own.0.walk;
    turns = turns;
  })

-- a conflict
unfoldable pub conflict_of : Data → Option DraftConflict
conflict_of d = do
  ms ← as_table d
  ms ← only (codes "a" ∷ codes "b" ∷ []) ms
  a ← text_at (codes "a") ms
  b ← text_at (codes "b") ms
  Some (record { a = a; b = b })

-- the table of the whole file, the tables in it not yet read
pub record TopForm : Type 0 where
  pub version : Option ℕ
  pub run : Members
  pub nodes : List Data
  pub links : List Data
  pub conflicts : List Data

-- the own form of the whole file
unfoldable pub top_form : Members → Option TopForm
top_form ms = do
  ms ← only (codes "run" ∷ codes "node" ∷ codes "link" ∷ codes "conflict" ∷ codes "version" ∷ []) ms
  version ← optional_number_at (codes "version") ms
  run ← table_at (codes "run") ms
  nodes ← list_at (codes "node") ms
  links ← list_at (codes "link") ms
  conflicts ← optional_list_at (codes "conflict") ms
  Some (record { version = version; run = run; nodes = nodes; links = links; conflicts = conflicts })

-- the draft that the file's table stands for
unfoldable pub draft_of : Members → Option Draft
draft_of ms = do
  top ← top_form ms
  run ← run_of top.run
  nodes ← each (node_of top.version) top.nodes
  links ← each (link_of top.version) top.links
  conflicts ← each conflict_of top.conflicts
  Some (record { run = run; nodes = nodes; links = links; conflicts = conflicts; great = is_third top.version })

-- the file has no version, or it is 2 or 3
abbrev pub IsKnown : Option ℕ → Type 0
IsKnown None = Unit {0}
IsKnown (Some version) = (2 ≤ version) × (version ≤ 3)

-- the version of the file, where it has one, is known
abbrev pub HasKnownVersion : Members → Type 0
HasKnownVersion ms = IfSome (top_form ms) (λ top. IsKnown top.version)
