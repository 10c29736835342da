-- Why bytes are no instance's text.
use Rattle.std.specs.Prelude.{◌≡◌, ℕ, List}
use Rattle.phase_plan.specs.Phases.{IsOwnRing, IsOwnRingFault, IsPlan, IsPlanFault, IsRingOfOne, IsRingOfOneFault}
use Rattle.phase_plan.specs.declared.Marks.{Marks}
use Rattle.phase_plan.specs.declared.Marks.TheVariants as marked
use Rattle.phase_plan.specs.declared.Phase.{Phase}
use Rattle.phase_plan.specs.declared.PlanFault.{PlanFault}
use Rattle.instance_form.specs.InstanceText.{HasText, IsMarkedWhere, instance_text, whole_text}
use Rattle.instance_form.specs.Faults.{BeginsText, IsFaultOf}
use Rattle.instance_form.specs.declared.form.FormFault.{FormFault}
use Rattle.instance_form.specs.declared.form.FormFault.TheVariants as form
use Rattle.schedule_meaning.specs.Instances.{Problem}
use Rattle.schedule_meaning.specs.Faults.{IsInstanceFault}
use Rattle.schedule_meaning.specs.declared.texts.TextFault.{TextFault}
use Rattle.schedule_meaning.specs.declared.texts.TextFault.TheVariants.{Line, Plan, Instance, NoMemory}

-- the fault is out of memory
abbrev pub IsOutOfMemory : TextFault → Type 0
IsOutOfMemory (Line n) = ⊥
IsOutOfMemory (Plan fault) = ⊥
IsOutOfMemory (Instance fault) = ⊥
IsOutOfMemory NoMemory = Unit {0}

-- a fault of the lines, passed on
abbrev pub of_form : FormFault → TextFault
of_form (form.Line n) = Line n
of_form form.NoMemory = NoMemory

-- the bytes are the text of this
abbrev pub IsInstanceText : List ℕ → Problem → Type 0
IsInstanceText bytes p = HasText p.plan p.head p.lists × (bytes ≡ instance_text p.plan p.head p.lists)

-- the bytes have the form of a text, and this is what they say, and how many phases they say to be marked
pub record IsFormText (bytes : List ℕ) (marks : Marks) (p : Problem) : Type 0 where
  pub fits : HasText p.plan p.head p.lists
  pub ring : IsMarkedWhere marks p.plan
  pub text : bytes ≡ whole_text marks p.plan p.head p.lists

-- the phases of a plan, of which so many are said to be marked
abbrev pub IsPlanWhere : Marks → List Phase → Type 0
IsPlanWhere marked.Fewer plan = IsPlan plan
IsPlanWhere marked.All plan = IsOwnRing plan
IsPlanWhere marked.AllButOne plan = IsRingOfOne plan

-- why these phases, of which so many are said to be marked, are no plan
abbrev pub IsPlanFaultWhere : Marks → List Phase → PlanFault → Type 0
IsPlanFaultWhere marked.Fewer plan fault = IsPlanFault plan fault
IsPlanFaultWhere marked.All plan fault = IsOwnRingFault plan fault
IsPlanFaultWhere marked.AllButOne plan fault = IsRingOfOneFault plan fault

-- why bytes are no instance's text: they have not the form of a text, and this is the first line that has not the form
-- of its place; or else the fault of the phases; or else that of the instance
abbrev pub IsTextFault : List ℕ → TextFault → Type 0
IsTextFault bytes (Line n) =
    IsFaultOf BeginsText 1 bytes (form.Line n) × ((marks : Marks) (p : Problem) → ¬ IsFormText bytes marks p)
IsTextFault bytes (Plan fault) =
    (marks : Marks) × (p : Problem) × IsFormText bytes marks p × IsPlanFaultWhere marks p.plan fault
IsTextFault bytes (Instance fault) =
    (marks : Marks) × (p : Problem) × IsFormText bytes marks p × IsPlanWhere marks p.plan × IsInstanceFault p fault
IsTextFault bytes NoMemory = Unit {0}
