use Rattle.std.proofs.Common.{ℕ, ◌+◌, ◌-◌, ◌||◌, Bool, List, ◌++◌, filter, ap, ◌∙◌}
use Rattle.std.specs.List.{range_with_len}
use Rattle.phase_plan.specs.Phases.{is_unmarked_at}
use Rattle.control_flow.specs.Timelines.{shortest_greens}
use Rattle.control_flow.proofs.MakingLaws.{shortest-both}
use Rattle.control_flow.proofs.RingLaws.{passed-later, passed-on}
use Rattle.control_flow.proofs.timelines.pass.Goals as goal

pub returns-in_ok-add_shortest : goal.returns-in_ok-add_shortest
returns-in_ok-add_shortest c =
    c.in_ok-add_shortest.ensures.rows
    ∙ ap (λ (ks : List ℕ). c.args.rows.now.items ++ shortest_greens c.args.plan.now c.args.from ks) (passed-later c.args.plan.now c.args.leaving c.args.wanted c.passes_all-all.result c.passes_all-all.ensures c.if-leaving-wanted.true)

pub returns-in_ok-add_shortest-2 : goal.returns-in_ok-add_shortest-2
returns-in_ok-add_shortest-2 c =
    let plan = c.args.plan.now in
    let s : ℕ = c.args.leaving in
    let j : ℕ = c.args.wanted in
    let all : Bool = c.passes_all-all.result in
    let test : ℕ → Bool = λ k. is_unmarked_at plan k || all in
    let first = c.in_ok-from.ensures in
    shortest-both plan c.args.from c.in_ok-from.from (filter test (range_with_len (s + 1) (c.count.result - (s + 1)))) (filter test (range_with_len 0 (j - 0))) c.args.rows.now.items _ _ first.rows first.behind c.in_ok-add_shortest-2.ensures.rows
    ∙ ap (λ (ks : List ℕ). c.args.rows.now.items ++ shortest_greens plan c.args.from ks) (passed-on plan s j c.count.result all c.passes_all-all.ensures c.count.ensures.count c.if-leaving-wanted.false)
