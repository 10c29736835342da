-- The fields of a record that tells a plan.
use Rattle.std.specs.Prelude.{ℕ, List, ◌∷◌, ◌++◌}
use Rattle.std.specs.Fmt.{decimal}
use Rattle.intersection_actor.specs.declared.records.Used.{Used}
use Rattle.net_parts.specs.Numbers.{Net}
use Rattle.net_parts.specs.Outline.{link_name_at}

-- a version that a plan used
abbrev pub used_text : Net → Used → List ℕ
used_text net used = link_name_at net used.link ++ 61 ∷ decimal used.version
