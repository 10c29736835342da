-- What reading an instance's text answers.
use Rattle.std.specs.Prelude.{◌≡◌, ℕ, List}
use Rattle.phase_plan.specs.declared.Marks.{Marks}
use Rattle.phase_plan.specs.declared.Phase.{Phase}
use Rattle.switch_rules.specs.declared.Head.{Head}
use Rattle.switch_rules.specs.declared.Cluster.{Cluster}
use Rattle.instance_form.specs.declared.form.Form.{Form}
use Rattle.instance_form.specs.InstanceText.{HasText, IsMarkedWhere, whole_text}
use Rattle.instance_form.specs.declared.form.FormFault.{FormFault}
use Rattle.instance_form.specs.declared.form.FormFault.TheVariants.{Line, NoMemory}

-- the lines of a form are some text's
pub record IsWritableForm (form : Form) : Type 0 where
  pub fits : HasText form.phases.items form.head form.lists.items
  pub ring : IsMarkedWhere form.marks form.phases.items

-- the one text of a form
abbrev pub text_of : Form → List ℕ
text_of form = whole_text form.marks form.phases.items form.head form.lists.items

-- the form has these phases, this head and these lists, and says this of its ring
pub record HasParts (form : Form) (marks : Marks) (plan : List Phase) (h : Head)
    (lists : List (List Cluster)) : Type 0 where
  pub ring : form.marks ≡ marks
  pub phases : form.phases.items ≡ plan
  pub head : form.head ≡ h
  pub each : form.lists.items ≡ lists

-- the fault is out of memory
abbrev pub IsOutOfMemory : FormFault → Type 0
IsOutOfMemory (Line n) = ⊥
IsOutOfMemory NoMemory = Unit {0}
