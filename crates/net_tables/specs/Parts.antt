-- The keys of a table in the groups in which the reader takes them. No public clause names these.
use Rattle.std.specs.Prelude.{codes, ℕ, false, List, [], ◌∷◌, Option, Some, is_some}
use Rattle.toml.specs.Data.{Data, Members}
use Rattle.foundation.specs.Options.{◌>>=◌}
use Rattle.phase_plan.specs.declared.Phase.{Phase}
use Rattle.net_tables.specs.Table.{TopForm, PhaseForm, LinkForm, table_at, number_at, optional_number_at, flag_at, weight_at, text_at, optional_text_at, list_at, optional_list_at, yields_at, walk_at}
use Rattle.net_parts.specs.declared.drafts.Run.{Run}

-- the whole numbers at two keys
unfoldable pub numbers_at : List ℕ → List ℕ → Members → Option (ℕ × ℕ)
numbers_at first second ms = do
  a ← number_at first ms
  b ← number_at second ms
  Some (a, b)

-- the whole numbers at two keys that may be absent
unfoldable pub optional_numbers_at : List ℕ → List ℕ → Members → Option (Option ℕ × Option ℕ)
optional_numbers_at first second ms = do
  a ← optional_number_at first ms
  b ← optional_number_at second ms
  Some (a, b)

-- the keys of the whole file
unfoldable pub top_keys : List (List ℕ)
top_keys = codes "run" ∷ codes "node" ∷ codes "link" ∷ codes "conflict" ∷ codes "version" ∷ []

-- the nodes, the links and the conflicts of the whole file
unfoldable pub top_lists : Members → Option (List Data × List Data × List Data)
top_lists ms = do
  nodes ← list_at (codes "node") ms
  links ← list_at (codes "link") ms
  conflicts ← optional_list_at (codes "conflict") ms
  Some (nodes, links, conflicts)

-- what the whole file has at its keys
unfoldable pub top_fields : Members → Option TopForm
top_fields ms = do
  version ← optional_number_at (codes "version") ms
  run ← table_at (codes "run") ms
  lists ← top_lists ms
  Some (record { version = version; run = run; nodes = lists.0; links = lists.1; conflicts = lists.2 })

-- what a run has at its keys
unfoldable pub run_fields : Members → Option Run
run_fields ms = do
  ahead ← numbers_at (codes "step") (codes "look") ms
  course ← numbers_at (codes "gap") (codes "rounds") ms
  split ← flag_at false (codes "split") ms
  limits ← optional_numbers_at (codes "age") (codes "hold") ms
  further ← optional_numbers_at (codes "recall") (codes "act_step") ms
  rate ← optional_number_at (codes "rate") ms
  Some (record {
    step = ahead.0;
    look = ahead.1;
    gap = course.0;
    rounds = course.1;
    split = split;
    age = limits.0;
    hold = limits.1;
    recall = further.0;
    act_step = further.1;
    rate = rate;
  })

-- the times and the mark of a phase
unfoldable pub phase_times : Option ℕ → Members → Option Phase
phase_times version ms = do
  green ← numbers_at (codes "least") (codes "greatest") ms
  change ← numbers_at (codes "yellow") (codes "clear") ms
  cost ← numbers_at (codes "loss") (codes "wait") ms
  skip ← flag_at (is_some version) (codes "skip") ms
  Some (record {
    least = green.0;
    greatest = green.1;
    yellow = change.0;
    clear = change.1;
    loss = cost.0;
    wait = cost.1;
    skip = skip;
  })

-- what a phase has at its keys
unfoldable pub phase_fields : Option ℕ → Members → Option PhaseForm
phase_fields version ms = do
  phase ← phase_times version ms
  links ← list_at (codes "links") ms
  also ← optional_list_at (codes "also") ms
  Some (record { phase = phase; links = links; also = also })

-- the numbers of a link
unfoldable pub link_numbers : Option ℕ → Members → Option (ℕ × ℕ × ℕ)
link_numbers version ms = do
  flow ← numbers_at (codes "travel") (codes "sat") ms
  weight ← weight_at (is_some version) (codes "weight") ms
  Some (flow.0, flow.1, weight)

-- the names of the nodes that a link comes from and ends at
unfoldable pub link_ends : Members → Option (Option (List ℕ) × Option (List ℕ))
link_ends ms = do
  from ← optional_text_at (codes "from") ms
  to ← optional_text_at (codes "to") ms
  Some (from, to)

-- what a link has at its keys
unfoldable pub link_fields : Option ℕ → Members → Option LinkForm
link_fields version ms = do
  name ← text_at (codes "name") ms
  numbers ← link_numbers version ms
  ends ← link_ends ms
  yields ← yields_at ms
  walk ← walk_at ms
  turns ← optional_list_at (codes "turn") ms
  Some (record {
    name = name;
    from = ends.0;
    to = ends.1;
    travel = numbers.0;
    sat = numbers.1;
    weight = numbers.2;
    yields = yields;
    walk = walk;
    turns = turns;
  })
