-- The codes of faults of an instance and of its text.
use Rattle.std.specs.Prelude.{ℕ, List, [], ◌∷◌, ◌++◌, codes}
use Rattle.std.specs.Fmt.{decimal}
use Rattle.phase_plan.specs.Codes.{plan_code}
use Rattle.schedule_meaning.specs.declared.faults.InstanceFault.{InstanceFault}
use Rattle.schedule_meaning.specs.declared.faults.InstanceFault.TheVariants.{HeadPhase, HeadTime, ListCount, ClusterBound, Order, Many}
use Rattle.schedule_meaning.specs.declared.texts.TextFault.{TextFault}
use Rattle.schedule_meaning.specs.declared.texts.TextFault.TheVariants.{Line, Plan, Instance, NoMemory}

-- the code of a fault of the instance: of a cluster its phase, from 0, and its place in the phase's list, from 1
abbrev pub instance_code : InstanceFault → List ℕ
instance_code HeadPhase = codes "head phase"
instance_code HeadTime = codes "head time"
instance_code ListCount = codes "lists"
instance_code (ClusterBound phase place) = codes "cluster " ++ decimal phase ++ 32 ∷ decimal place
instance_code (Order phase place) = codes "order " ++ decimal phase ++ 32 ∷ decimal place
instance_code Many = codes "many"

-- the code of a fault of an instance's text: the first line that has not its form, from 1, or else that of the phases, or else that of
-- the instance; `NoMemory` has none
abbrev pub text_code : TextFault → List ℕ
text_code (Line n) = codes "line " ++ decimal n
text_code (Plan fault) = plan_code fault
text_code (Instance fault) = instance_code fault
text_code NoMemory = []
