-- Why a word that names a node decides nothing. No public clause names anything here.
use Rattle.std.specs.Prelude.{ℕ, List}
use Rattle.net_parts.specs.Numbers.{Net}
use Rattle.commands.specs.declared.refusals.Refusal.{Refusal}
use Rattle.commands.specs.declared.refusals.Refusal.TheVariants as refusal
use Rattle.round_jobs.specs.Meanings.{MissesNode}

-- why this node decided nothing: there is no such node; or memory ran out
abbrev pub IsUndecided : Net → List ℕ → Refusal → Type 0
IsUndecided net node (refusal.Missing what) = MissesNode net node what
IsUndecided net node refusal.NoMemory = Unit {0}
IsUndecided net node _ = ⊥
