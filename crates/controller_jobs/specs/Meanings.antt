-- What the commands mean that run a network under other controllers than the planners, or under several, or tell how long it makes wait.
use Rattle.std.specs.Prelude.{◌≡◌, ℕ, List}
use Rattle.net_parts.specs.Numbers.{Net}
use Rattle.commands.specs.Meanings.{Meaning}
use Rattle.commands.specs.declared.refusals.Named.{Named}
use Rattle.commands.specs.declared.refusals.Named.TheVariants.{Node, Round, Factor}
use Rattle.scene_jobs.specs.Kinds.{ArrivalsText}
use Rattle.scene_jobs.specs.Meanings.{over_network, over_network_with, over_scene, over_scene_with, two_texts}
use Rattle.controller_jobs.specs.Bounds.{bounds_text, fixed_bounds_text}
use Rattle.controller_jobs.specs.Controllers.{BringTooMuch, IsActuatedReport, IsComparison, IsComparisonWith, IsFixedReport, IsScaleTable, factors}
use Rattle.controller_jobs.specs.Kinds.{PlanText, StoreText}
use Rattle.controller_jobs.specs.Storages.{IsSpillReport, IsSpillTable}

-- `actuate NET ARR`
abbrev pub actuate_meaning : List ℕ → List ℕ → Meaning
actuate_meaning = over_scene IsActuatedReport

-- `fixed NET ARR PLAN`
abbrev pub fixed_meaning : List ℕ → List ℕ → List ℕ → Meaning
fixed_meaning = over_scene_with PlanText IsFixedReport

-- `compare NET ARR`
abbrev pub compare_meaning : List ℕ → List ℕ → Meaning
compare_meaning = over_scene IsComparison

-- `compare NET ARR PLAN`
abbrev pub compare_fixed_meaning : List ℕ → List ℕ → List ℕ → Meaning
compare_fixed_meaning = over_scene_with PlanText IsComparisonWith

-- a factor of `scale` cannot be had: scaled by one of them, the arrivals bring more than arrivals may
abbrev pub MissesFactor : Net → (ℕ → ℕ → ℕ) → List ℕ → Named → Type 0
MissesFactor net arriving all Factor = BringTooMuch net arriving all
MissesFactor net arriving all Node = ⊥
MissesFactor net arriving all Round = ⊥

-- `scale NET ARR FROM TO STEP`
abbrev pub scale_meaning : List ℕ → List ℕ → ℕ → ℕ → ℕ → Meaning
scale_meaning net arr first last step = record {
  texts = two_texts ArrivalsText net arr;
  writes = λ said bytes. IsScaleTable said.0 said.1.0 first last step bytes;
  against = λ said. ⊥;
  rejects = λ said bytes. ⊥;
  misses = λ said what. MissesFactor said.0 said.1.0 (factors first last step) what;
}

-- `spill NET ARR STORE`
abbrev pub spill_meaning : List ℕ → List ℕ → List ℕ → Meaning
spill_meaning = over_scene_with StoreText IsSpillTable

-- `spill NET ARR STORE actuated`
abbrev pub spill_actuated_meaning : List ℕ → List ℕ → List ℕ → Meaning
spill_actuated_meaning = over_scene_with StoreText IsSpillReport

-- `bounds NET`
abbrev pub bounds_meaning : List ℕ → Meaning
bounds_meaning = over_network (λ net bytes. bytes ≡ bounds_text net)

-- `bounds NET PLAN`
abbrev pub bounds_fixed_meaning : List ℕ → List ℕ → Meaning
bounds_fixed_meaning = over_network_with PlanText (λ net rows bytes. bytes ≡ fixed_bounds_text net rows)
