-- Which line of bytes is the first that has not the form of its place.
use Rattle.std.specs.Prelude.{◌≡◌, ℕ, List, ◌++◌}
use Rattle.text_lines.specs.Lines.{IsFirstFaultyLine}
pub use Rattle.text_lines.specs.Lines.{line_feeds}
use Rattle.phase_plan.specs.declared.Marks.{Marks}
use Rattle.phase_plan.specs.declared.Phase.{Phase}
use Rattle.switch_rules.specs.declared.Head.{Head}
use Rattle.switch_rules.specs.declared.Cluster.{Cluster}
use Rattle.instance_form.specs.declared.form.FormFault.{FormFault}
use Rattle.instance_form.specs.declared.form.FormFault.TheVariants.{Line, NoMemory}
use Rattle.instance_form.specs.InstanceText.{HasText, IsMarkedWhere, whole_text}

-- some form's text begins with these bytes
pub record BeginsText (front : List ℕ) : Type 0 where
  pub marks : Marks
  pub plan : List Phase
  pub head : Head
  pub lists : List (List Cluster)
  pub rest : List ℕ
  pub fits : HasText plan head lists
  pub ring : IsMarkedWhere marks plan
  pub text : whole_text marks plan head lists ≡ front ++ rest

-- some form's text with bytes after it begins with these bytes
pub record BeginsFront (front : List ℕ) : Type 0 where
  pub marks : Marks
  pub plan : List Phase
  pub head : Head
  pub lists : List (List Cluster)
  pub after : List ℕ
  pub rest : List ℕ
  pub fits : HasText plan head lists
  pub ring : IsMarkedWhere marks plan
  pub text : whole_text marks plan head lists ++ after ≡ front ++ rest

-- line n is the first that has not the form of its place; the first line has the number first
abbrev pub IsFirstFault : (List ℕ → Type 0) → ℕ → ℕ → List ℕ → Type 0
IsFirstFault Begins first n bytes = IsFirstFaultyLine BeginsText Begins first n bytes

-- a fault that names a line names the first that has not the form of its place
abbrev pub IsFaultOf : (List ℕ → Type 0) → ℕ → List ℕ → FormFault → Type 0
IsFaultOf Begins first bytes (Line n) = IsFirstFault Begins first n bytes
IsFaultOf Begins first bytes NoMemory = Unit {0}
