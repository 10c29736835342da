-- The pass of the task at a place, while tasks change one after another.
use Rattle.std.proofs.Common.{◌≡◌, ℕ, ◌+◌, ◌<◌, ◌≤◌, List, All, length, max, take, get_or, set, ap, sym, ◌∙◌, arith}
use Rattle.std.proofs.lemmas.List.{length-map}
use Rattle.atomic_table.specs.Seated.{TableId}
use Rattle.link_boards.specs.Passes.{PassView, highest, raised}
use Rattle.link_boards.proofs.MeetLaws.{highest-step, partly, partly-get, partly-step}
use Rattle.node_rounds.proofs.Passes.{at-most-highest}
use Rattle.net_threads.specs.Tasks.{actors_in, pass_of, passes_in}
use Rattle.net_threads.specs.declared.node_tasks.NodeTask.{NodeTask}
use Rattle.net_threads.proofs.TaskLists.{pass-at, pass-set, same-count}
use Rattle.runs.proofs.Mixed.{mixed, mixed-get, mixed-step}

-- d is the task at place k of `now`, and `old` are the tasks before the first change; end is their number
module _ {P S G Ready : Type 0} (old now : List (NodeTask P S G Ready)) (k end' : ℕ) (d : NodeTask P S G Ready) (at : d ≡ get_or now k d) (actors : actors_in now ≡ actors_in old) (less : k < end') (count : end' ≡ length old) where
  abbrev all : List PassView
  all = passes_in old

  inside : k < length now
  inside = omega (arith, less, count, same-count old now actors)

  there : k < length all
  there = omega (arith, less, count, length-map old pass_of)

  -- where the passes are as they were
  module _ (passes : passes_in now ≡ all) where
    here : pass_of d ≡ get_or all k (pass_of d)
    here = pass-at now k d d at inside ∙ ap (λ l. get_or l k (pass_of d)) passes

    pub same-boards : (boards : TableId) → All (λ (p : PassView). p.boards ≡ boards) all → (pass_of d).boards ≡ boards
    same-boards boards own = ap (λ (p : PassView). p.boards) here ∙ own k (pass_of d) there

    pub most-known : (known next : ℕ) → known ≤ highest all → next ≡ max known (pass_of d).known → next ≤ highest all
    most-known known next most is = (let h = at-most-highest all k (pass_of d) there in let e = ap (λ (p : PassView). p.known) here in omega (arith, most, is, h, e))

    pub all-known : (known next : ℕ) → highest (take k all) ≤ known → next ≡ max known (pass_of d).known → highest (take (k + 1) all) ≤ next
    all-known known next least is = (let h = highest-step all k (pass_of d) (pass_of d) there here in omega (arith, least, is, h))

  -- where those before the place have heard a meeting
  module _ (known : ℕ) (passes : passes_in now ≡ partly (raised known) all k) where
    here-partly : pass_of d ≡ get_or all k (pass_of d)
    here-partly = pass-at now k d d at inside ∙ ap (λ l. get_or l k (pass_of d)) passes ∙ partly-get (raised known) all k (pass_of d)

    pub partly-boards : (boards : TableId) → All (λ (p : PassView). p.boards ≡ boards) all → (pass_of d).boards ≡ boards
    partly-boards boards own = ap (λ (p : PassView). p.boards) here-partly ∙ own k (pass_of d) there

    pub partly-heard : (t : NodeTask P S G Ready) → pass_of t ≡ raised known (pass_of d) → passes_in (set now k t) ≡ partly (raised known) all (k + 1)
    partly-heard t is = pass-set now k d t at (raised known (pass_of d)) is ∙ ap (λ l. set l k (raised known (pass_of d))) passes ∙ partly-step (raised known) all k (pass_of d) (pass_of d) there here-partly

  -- where those before the place have traded their passes
  module _ (given : List PassView) (same : length given ≡ length old) where
    long : length given ≡ length all
    long = same ∙ sym (length-map old pass_of)

    pub trades-own : (passes : List PassView) (p : PassView) (t : NodeTask P S G Ready) → passes_in now ≡ mixed given all k → passes ≡ mixed all given k → p ≡ get_or passes k p → pass_of t ≡ p → passes_in (set now k t) ≡ mixed given all (k + 1)
    trades-own passes p t taken left is new =
        pass-set now k d t at p new ∙ ap (λ l. set l k p) taken
        ∙ mixed-step given all k p p long (omega (arith, there, long)) (is ∙ ap (λ l. get_or l k p) left ∙ mixed-get all given k p (sym long))

    pub trades-other : (passes : List PassView) (q : PassView) → passes_in now ≡ mixed given all k → passes ≡ mixed all given k → q ≡ pass_of d → set passes k q ≡ mixed all given (k + 1)
    trades-other passes q taken left new =
        (λ i. set (left i) k (new i))
        ∙ mixed-step all given k (pass_of d) (pass_of d) (sym long) there (pass-at now k d d at inside ∙ ap (λ l. get_or l k (pass_of d)) taken ∙ mixed-get given all k (pass_of d) long)
