-- Which version of the text says given phases and clusters.
use Rattle.std.specs.Prelude.{Bool, not, ◌==◌, List, if◌then◌else◌}
use Rattle.std.specs.List.{list_any}
use Rattle.phase_plan.specs.declared.Marks.{Marks}
use Rattle.phase_plan.specs.declared.Marks.TheVariants as marked
use Rattle.phase_plan.specs.declared.Phase.{Phase}
use Rattle.switch_rules.specs.declared.Cluster.{Cluster}
use Rattle.instance_form.specs.declared.form.Version.{Version}
use Rattle.instance_form.specs.declared.form.Version.TheVariants.{One, Two, Three, Four, Five}

-- some phase is marked
abbrev pub has_marks : List Phase → Bool
has_marks plan = list_any (λ p. p.skip) plan

-- a cluster has another load than its size
abbrev pub is_loaded : Cluster → Bool
is_loaded c = not (c.load == c.size)

-- some cluster of a list has another load than its size
abbrev pub has_load : List Cluster → Bool
has_load list = list_any is_loaded list

-- some cluster of these lists has another load than its size
abbrev pub has_loads : List (List Cluster) → Bool
has_loads lists = list_any has_load lists

-- what the version says of the marks: 4 that all phases have one, and 5 that all but one have
abbrev pub marks_said : Version → Marks
marks_said One = marked.Fewer
marks_said Two = marked.Fewer
marks_said Three = marked.Fewer
marks_said Four = marked.All
marks_said Five = marked.AllButOne

-- the least version that says these phases and clusters, of which so many are said to be marked
abbrev pub version_of : Marks → List Phase → List (List Cluster) → Version
version_of marked.All plan lists = Four
version_of marked.AllButOne plan lists = Five
version_of marked.Fewer plan lists = if has_loads lists then Three else (if has_marks plan then Two else One)
