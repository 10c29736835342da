-- The one text of an intersection's instance.
use Rattle.std.specs.Prelude.{◌≡◌, ℕ, ◌+◌, ◌^◌, ◌<◌, ◌≤◌, Bool, true, false, List, [], ◌∷◌, ◌++◌, length, map, sum_by, All, codes}
use Rattle.std.specs.List.{flat_map, concat}
use Rattle.std.specs.Fmt.{decimal}
pub use Rattle.text_lines.specs.Lines.{line}
pub use Rattle.instance_form.specs.Versions.{version_of}
use Rattle.phase_plan.specs.declared.Marks.{Marks}
use Rattle.phase_plan.specs.declared.Marks.TheVariants as marked
use Rattle.phase_plan.specs.declared.Phase.{Phase}
use Rattle.phase_plan.specs.Phases.{HasU32Times, is_free, marks_of}
use Rattle.switch_rules.specs.declared.Head.{Head}
use Rattle.switch_rules.specs.declared.Cluster.{Cluster}
use Rattle.instance_form.specs.declared.form.Version.{Version}
use Rattle.instance_form.specs.declared.form.Version.TheVariants.{One, Two, Three, Four, Five}

-- the line that says the version
abbrev pub first_line : Version → List ℕ
first_line One = line (codes "instance 1" ∷ [])
first_line Two = line (codes "instance 2" ∷ [])
first_line Three = line (codes "instance 3" ∷ [])
first_line Four = line (codes "instance 4" ∷ [])
first_line Five = line (codes "instance 5" ∷ [])

-- the line that says how many phases there are
abbrev pub count_line : ℕ → List ℕ
count_line count = line (codes "phases" ∷ decimal count ∷ [])

-- the times of a phase, in the order of its line
abbrev pub phase_numbers : Phase → List ℕ
phase_numbers p = p.least ∷ p.greatest ∷ p.yellow ∷ p.clear ∷ p.loss ∷ p.wait ∷ []

-- whether a pass of the ring may leave a phase out
abbrev pub mark : Bool → List ℕ
mark true = codes "skip"
mark false = codes "ring"

-- the line of a phase; version 1 does not say the mark
abbrev pub phase_line : Version → Phase → List ℕ
phase_line One p = line (codes "phase" ∷ map decimal (phase_numbers p))
phase_line Two p = line (codes "phase" ∷ (map decimal (phase_numbers p) ++ mark p.skip ∷ []))
phase_line Three p = line (codes "phase" ∷ (map decimal (phase_numbers p) ++ mark p.skip ∷ []))
phase_line Four p = line (codes "phase" ∷ (map decimal (phase_numbers p) ++ mark p.skip ∷ []))
phase_line Five p = line (codes "phase" ∷ (map decimal (phase_numbers p) ++ mark p.skip ∷ []))

-- whether the start-up loss is not yet spent
abbrev pub freshness : Bool → List ℕ
freshness true = codes "fresh"
freshness false = codes "kept"

-- the line of a head
abbrev pub head_line : Head → List ℕ
head_line h = line (codes "head" ∷ decimal h.phase ∷ decimal h.since ∷ decimal h.at ∷ freshness h.fresh ∷ [])

-- the numbers of a cluster, in the order of its line; versions 3, 4 and 5 alone say the load
abbrev pub cluster_numbers : Version → Cluster → List ℕ
cluster_numbers One c = c.size ∷ c.arr ∷ c.len ∷ []
cluster_numbers Two c = c.size ∷ c.arr ∷ c.len ∷ []
cluster_numbers Three c = c.size ∷ c.load ∷ c.arr ∷ c.len ∷ []
cluster_numbers Four c = c.size ∷ c.load ∷ c.arr ∷ c.len ∷ []
cluster_numbers Five c = c.size ∷ c.load ∷ c.arr ∷ c.len ∷ []

-- the line of a cluster of this phase
abbrev pub cluster_line : Version → ℕ → Cluster → List ℕ
cluster_line v phase c = line (codes "cluster" ∷ map decimal (phase ∷ cluster_numbers v c))

-- the clusters of each phase, from this phase on
abbrev pub cluster_lines : Version → ℕ → List (List Cluster) → List ℕ
cluster_lines v phase [] = []
cluster_lines v phase (list ∷ lists) = flat_map (cluster_line v phase) list ++ cluster_lines v (phase + 1) lists

-- the phases of a plan, the head and the clusters of each phase, line by line
unfoldable pub form_text : Version → List Phase → Head → List (List Cluster) → List ℕ
form_text v plan head lists = concat (
    first_line v ∷
    count_line (length plan) ∷
    flat_map (phase_line v) plan ∷
    head_line head ∷
    cluster_lines v 0 lists ∷
    line (codes "end" ∷ []) ∷ [])

-- the text of these in the least version that says them, of which so many are said to be marked
unfoldable pub whole_text : Marks → List Phase → Head → List (List Cluster) → List ℕ
whole_text marks plan head lists = form_text (version_of marks plan lists) plan head lists

-- the text of an instance, which says how many of its phases are marked
abbrev pub instance_text : List Phase → Head → List (List Cluster) → List ℕ
instance_text plan head lists = whole_text (marks_of plan) plan head lists

-- the numbers of a head and of a cluster are below their types' limits
pub record IsWritableHead (h : Head) : Type 0 where
  pub phase : h.phase < 2 ^ 8
  pub since : h.since < 2 ^ 32
  pub at : h.at < 2 ^ 32

pub record IsWritableCluster (c : Cluster) : Type 0 where
  pub size : c.size < 2 ^ 32
  pub load : c.load < 2 ^ 32
  pub arr : c.arr < 2 ^ 32
  pub len : c.len < 2 ^ 32

-- what has a text: two to four phases, with a list of clusters for each
pub record HasText (plan : List Phase) (h : Head) (lists : List (List Cluster)) : Type 0 where
  pub count : (2 ≤ length plan) × (length plan ≤ 4)
  pub each : length lists ≡ length plan
  pub phases : All HasU32Times plan
  pub head : IsWritableHead h
  pub clusters : All (All IsWritableCluster) lists

-- where all phases are said to be marked, they are
abbrev pub IsMarkedWhere : Marks → List Phase → Type 0
IsMarkedWhere marks plan = marks ≡ marked.All → is_free plan ≡ true

-- how many lines the text has
abbrev pub line_count : List Phase → List (List Cluster) → ℕ
line_count plan lists = length plan + sum_by (λ list. length list) lists + 4
