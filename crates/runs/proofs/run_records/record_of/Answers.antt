use Rattle.std.proofs.Common.{◌≡◌, List, [], ◌∷◌, length, map, refl, ap, ◌∙◌}
use Rattle.std.proofs.lemmas.List.{length-map}
use Rattle.intersection_actor.specs.Acting.{Acting, without_records}
use Rattle.runs.specs.Ending.{lines_in}
use Rattle.runs.proofs.run_records.record_of.Goals as goal

-- actors without their records have the same lines
lines-without : (actors : List Acting) → lines_in (map without_records actors) ≡ lines_in actors
lines-without [] = refl
lines-without (a ∷ actors) = ap (λ l. a.line ∷ l) (lines-without actors)

pub totals_of-timelines-requires-clause-actors : goal.totals_of-timelines-requires-clause-actors
totals_of-timelines-requires-clause-actors c = ap length c.move_records.ensures.actors ∙ length-map c.args.actors.all.items without_records ∙ c.requires.actors

pub returns : goal.returns
returns c = record {
  plans = c.from_vec.ensures ∙ c.move_records.ensures.plans;
  timelines = c.totals_of-timelines.ensures.timelines ∙ ap lines_in c.move_records.ensures.actors ∙ lines-without c.args.actors.all.items;
  links = c.totals_of-timelines.ensures.links;
  totals = c.totals_of-timelines.ensures.totals;
}
