use Rattle.std.proofs.Common.{◌++◌, length, ap, ◌∙◌, arith}
use Rattle.runs.specs.Ending.{lines_in}
use Rattle.runs.proofs.run_records.totals_of.Goals as goal

pub push_timelines-requires : goal.push_timelines-requires
push_timelines-requires c = omega (arith, c.requires.actors, c.requires.capacity.timelines, ap length c.requires.capacity.no_timelines, c.args.empty.timelines.ok.0)

pub returns : goal.returns
returns c = record {
  timelines = c.from_vec.ensures ∙ c.push_timelines.ensures ∙ ap (λ l. l ++ lines_in c.args.actors.all.items) c.requires.capacity.no_timelines;
  links = c.from_vec-2.ensures ∙ c.push_totals.ensures;
  totals = c.totals.ensures.value;
}
