-- The kinds of texts that say a fixed plan or a store.
use Rattle.std.specs.Prelude.{◌≢◌, ℕ, List}
use Rattle.fixed_plans.specs.Codes.{fixed_code}
use Rattle.fixed_plans.specs.Faults as plans
use Rattle.fixed_plans.specs.Faults.{IsPlanText}
use Rattle.fixed_plans.specs.declared.faults.FixedFault.{FixedFault}
use Rattle.fixed_plans.specs.declared.faults.FixedFault.TheVariants as plan
use Rattle.fixed_plans.specs.declared.rows.FixedRow.{FixedRow}
use Rattle.spillback_world.specs.Codes.{store_code}
use Rattle.spillback_world.specs.StoreTexts as stores
use Rattle.spillback_world.specs.StoreTexts.{IsStoreText}
use Rattle.spillback_world.specs.declared.store_faults.StoreFault.{StoreFault}
use Rattle.spillback_world.specs.declared.store_faults.StoreFault.TheVariants as store
use Rattle.net_parts.specs.Numbers.{Net}
use Rattle.commands.specs.Kinds.{Kind}

-- the first fault of a text that is to say a fixed plan
abbrev pub IsBadPlan : Net → List ℕ → FixedFault → Type 0
IsBadPlan net text fault = plans.IsTextFault net text fault × (fault ≢ plan.NoMemory)

-- the kind of texts that say a fixed plan of a network, its rows
abbrev pub PlanText : Net → Kind
PlanText net =
    record {
      Said = List FixedRow;
      Fault = FixedFault;
      is_text = IsPlanText net;
      is_fault = IsBadPlan net;
      code = fixed_code;
    }

-- the first fault of a text that is to say a store
abbrev pub IsBadStore : Net → List ℕ → StoreFault → Type 0
IsBadStore net text fault = stores.IsTextFault net text fault × (fault ≢ store.NoMemory)

-- the kind of texts that say a store, how much each link of a network can hold
abbrev pub StoreText : Net → Kind
StoreText net =
    record {
      Said = List ℕ;
      Fault = StoreFault;
      is_text = IsStoreText net;
      is_fault = IsBadStore net;
      code = store_code;
    }
