use Rattle.std.proofs.Common.{ℕ, List, [], ◌++◌, Option, Bor, refl, ap, ◌∙◌, subst}
use Rattle.std.specs.Option.{option_map_or}
use Rattle.round_jobs.specs.Gathering.{HasDecided}
use Rattle.round_jobs.specs.Requests.{names_in}
use Rattle.round_jobs.proofs.GatherLaws.{decided-more, first-refused}
use Rattle.round_jobs.proofs.answers.nodes.Goals as goal

pub loop-left-init : goal.loop-left-init
loop-left-init c = record { before = []; parts = []; are = refl; each = tt; whole = c.new-all.ensures.items }

pub returns-in-Err-clause-refused : goal.returns-in-Err-clause-refused
returns-in-Err-clause-refused c =
    let has = subst (λ (left : Option (Bor (List ℕ))). HasDecided c.args.net.now c.args.text.now (names_in c.args.names.now) (option_map_or (λ others. names_in others.now) left []) c.loop-left.all.items) c.in-Some.is c.loop-left.invariant in
    let split = subst (λ (names : List (List ℕ)). HasDecided c.args.net.now c.args.text.now (names_in c.args.names.now) names c.loop-left.all.items) c.split_name.ensures.names has in
    first-refused c.args.net.now c.args.text.now (names_in c.args.names.now) c.split_name.result.0.now (option_map_or (λ others. names_in others.now) c.split_name.result.1 []) c.loop-left.all.items c.in-Err.why split c.in-Err.ensures.refused

pub loop-left-preserved : goal.loop-left-preserved
loop-left-preserved c =
    let has = subst (λ (left : Option (Bor (List ℕ))). HasDecided c.args.net.now c.args.text.now (names_in c.args.names.now) (option_map_or (λ others. names_in others.now) left []) c.loop-left.all.items) c.in-Some.is c.loop-left.invariant in
    let split = subst (λ (names : List (List ℕ)). HasDecided c.args.net.now c.args.text.now (names_in c.args.names.now) names c.loop-left.all.items) c.split_name.ensures.names has in
    decided-more c.args.net.now c.args.text.now (names_in c.args.names.now) c.split_name.result.0.now (option_map_or (λ others. names_in others.now) c.split_name.result.1 []) c.in-Ok.part.items c.loop-left.all.items c.extend_from_slice.new.self.items split c.in-Ok.ensures.ok
    (c.in_ok-extend_from_slice.ensures.items ∙ ap (λ (part : List ℕ). c.loop-left.all.items ++ part) c.deref.ensures.value)
