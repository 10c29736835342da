-- The sides of a link. No public clause names these definitions.
use Rattle.std.specs.Prelude.{ℕ, Bool, is_some}
use Rattle.net_parts.specs.Numbers.{Net}
use Rattle.net_parts.specs.Outline.{link_at}
use Rattle.histories.specs.declared.steps.BoardStep.{BoardStep}
use Rattle.histories.specs.declared.steps.BoardStep.TheVariants.{Read, Publish}
use Rattle.histories.specs.declared.steps.Side.{Side}
use Rattle.histories.specs.declared.steps.Side.TheVariants.{Begin, End}

-- whether a link has a node at a side
abbrev pub has_node : Net → Side → ℕ → Bool
has_node net Begin link = is_some (link_at net link).from
has_node net End link = is_some (link_at net link).to

-- the step on a link that has a node at this side, by the node at the other
abbrev pub step_across : Side → ℕ → BoardStep
step_across Begin link = Read link
step_across End link = Publish link
