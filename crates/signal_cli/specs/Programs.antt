-- How the program ends, whatever its words are.
use Rattle.std.specs.Prelude.{◌≡◌, ◌≢◌, ◌↔◌, ℕ, List, [], ◌∷◌, codes}
use Rattle.command_words.specs.Calls.{Call, IsCall}
use Rattle.commands.specs.Outcome.{Outcome, Outside}
use Rattle.commands.specs.Refusals.{Says}
use Rattle.commands.specs.declared.refusals.Refusal.TheVariants as refusal
use Rattle.commands.specs.declared.status.Status.{Status}
use Rattle.commands.specs.declared.status.Status.TheVariants.{Usage}
use Rattle.outside_world.specs.Source.{SourceState}
use Rattle.round_jobs.specs.Serving.{Serves}
use Rattle.signal_cli.specs.Meanings.{meaning_of}

-- the words of `serve` with the name of a network's file
abbrev pub serve_words : List ℕ → List (List ℕ)
serve_words net = codes "serve" ∷ net ∷ []

-- how a call that is not of `serve` ends: other words than those of a command are refused and touch nothing, and a command ends as it means
pub record EndsAsCalled (words : List (List ℕ)) (old new : Outside) (status : Status) : Type 0 where
  pub usage : (status ≡ Usage) ↔ ((call : Call) → ¬ IsCall words call)
  pub unused : status ≡ Usage → (new.shelf ≡ old.shelf) × (new.out ≡ old.out) × Says refusal.Usage old.err new.err
  pub called : status ≢ Usage → (call : Call) × IsCall words call
  pub outcome : (call : Call) → IsCall words call → Outcome (meaning_of call) old new status

-- How the program ends, where its source was `from` and is `to`: it serves a network where its words are those of `serve`; else it ends as the
-- words say, and takes nothing from the source.
pub record Ends (words : List (List ℕ)) (old new : Outside) (from to : SourceState) (status : Status) : Type 0 where
  pub served : (net : List ℕ) → words ≡ serve_words net → Serves net old new from to status
  pub called : ((net : List ℕ) → words ≢ serve_words net) → EndsAsCalled words old new status × (to ≡ from)
