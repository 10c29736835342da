-- No public clause names these: reading an instance's text from the front of the bytes, with the number of the first line that has
-- not the form of its place.
use Rattle.std.specs.Prelude.{◌≡◌, ℕ, zero, suc, ◌+◌, ◌-◌, Bool, true, List, [], ◌∷◌, length, sum_by, if◌then◌else◌, Result, Ok, Err, codes}
use Rattle.std.specs.Option.{ok_or}
pub use Rattle.foundation.specs.Results.{◌>>=◌}
use Rattle.text_lines.specs.Many.{many_at}
use Rattle.text_lines.specs.Fields.{literal_at}
use Rattle.phase_plan.specs.declared.Marks.{Marks}
use Rattle.phase_plan.specs.declared.Phase.{Phase}
use Rattle.switch_rules.specs.declared.Head.{Head}
use Rattle.switch_rules.specs.declared.Cluster.{Cluster}
use Rattle.instance_form.specs.declared.form.Form.{Form}
use Rattle.instance_form.specs.declared.form.Version.{Version}
use Rattle.instance_form.specs.declared.form.Version.TheVariants.{One, Two, Three, Four, Five}
use Rattle.instance_form.specs.declared.form.FormFault.{FormFault}
use Rattle.instance_form.specs.declared.form.FormFault.TheVariants.{Line, NoMemory}
use Rattle.instance_form.specs.Versions.{has_marks, has_loads, marks_said}
use Rattle.instance_form.specs.Lines.{version_line_at, count_line_at, phase_line_at, head_line_at, cluster_line_at}

-- a form without where it lies in memory
pub record Parts : Type 0 where
  pub marks : Marks
  pub plan : List Phase
  pub head : Head
  pub lists : List (List Cluster)

abbrev pub parts_of : Form → Parts
parts_of form = record { marks = form.marks; plan = form.phases.items; head = form.head; lists = form.lists.items }

-- what a function returned, seen by view, is what reading gives, unless memory ran out
abbrev pub Fails : {Y : Type 0} → FormFault → Result Y ℕ → Type 0
Fails (Line n) read = read ≡ Err n
Fails NoMemory read = Unit {0}

abbrev pub Gives : {X Y : Type 0} → (X → Y) → Result X FormFault → Result Y ℕ → Type 0
Gives view (Ok x) read = read ≡ Ok (view x)
Gives view (Err e) read = Fails e read

-- this many lines of phases, the first with this number
unfoldable pub phases_at : Version → ℕ → ℕ → List ℕ → Result (List Phase × List ℕ) ℕ
phases_at v zero line bytes = Ok ([], bytes)
phases_at v (suc count) line bytes = do
  first ← ok_or (phase_line_at v bytes) line
  others ← phases_at v count (line + 1) first.1
  Ok (first.0 ∷ others.0, others.1)

-- these can be all phases of a text: in version 2 one of them is marked
abbrev pub can_be_all : Version → List Phase → Bool
can_be_all One plan = true
can_be_all Two plan = has_marks plan
can_be_all Three plan = true
can_be_all Four plan = true
can_be_all Five plan = true

-- the lines of all phases; the last of them is at fault where they can't be all
unfoldable pub plan_at : Version → ℕ → ℕ → List ℕ → Result (List Phase × List ℕ) ℕ
plan_at v count line bytes = do
  plan ← phases_at v count line bytes
  if can_be_all v plan.0 then Ok plan else Err (line + count - 1)

-- the lines of clusters of this many phases, from this one on
unfoldable pub lists_at : Version → ℕ → ℕ → List ℕ → List (List Cluster) × List ℕ
lists_at v zero phase bytes = ([], bytes)
lists_at v (suc count) phase bytes =
    let list = many_at (cluster_line_at v phase) (length bytes) bytes in
    let others = lists_at v count (phase + 1) list.1 in
    (list.0 ∷ others.0, others.1)

-- the first two lines, the first with this number: the version, and how many phases there are
unfoldable pub opening_at : ℕ → List ℕ → Result (Version × ℕ × List ℕ) ℕ
opening_at line bytes = do
  version ← ok_or (version_line_at bytes) line
  count ← ok_or (count_line_at version.1) (line + 1)
  Ok (version.0, count.0, count.1)

-- a text may end after these clusters: in version 3 one of them has another load than its size
abbrev pub may_end : Version → List (List Cluster) → Bool
may_end One lists = true
may_end Two lists = true
may_end Three lists = has_loads lists
may_end Four lists = true
may_end Five lists = true

-- the last line, with this number, after these lists
unfoldable pub closing_at : Version → List (List Cluster) → ℕ → List ℕ → Result (List ℕ) ℕ
closing_at v lists line bytes = if may_end v lists then ok_or (literal_at (codes "end\n") bytes) line else Err line

-- a whole text, whose first line has this number; the number of the line after it, and the bytes from there
unfoldable pub form_at : ℕ → List ℕ → Result (Parts × ℕ × List ℕ) ℕ
form_at line bytes = do
  first ← opening_at line bytes
  plan ← plan_at first.0 first.1 (line + 2) first.2
  head ← ok_or (head_line_at plan.1) (line + 2 + first.1)
  lists ← Ok (lists_at first.0 first.1 0 head.1)
  rest ← closing_at first.0 lists.0 (line + 2 + first.1 + 1 + sum_by (λ list. length list) lists.0) lists.1
  Ok (
    record { marks = marks_said first.0; plan = plan.0; head = head.0; lists = lists.0 },
    line + 2 + first.1 + 1 + sum_by (λ list. length list) lists.0 + 1,
    rest,
  )
