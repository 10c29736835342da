-- What the commands over a report mean.
use Rattle.std.specs.Prelude.{◌≡◌, ℕ, List}
use Rattle.audit.specs.Audits.{IsClean, IsWhy}
use Rattle.audit.specs.declared.findings.AuditWhy.{AuditWhy}
use Rattle.audit.specs.declared.sheet.Sheet.{Sheet}
use Rattle.net_parts.specs.Numbers.{Net}
use Rattle.net_simulator.specs.Shown.{cumulative_of_lines}
use Rattle.net_simulator.specs.Sums.{end_of_run}
use Rattle.net_simulator.specs.Worlds.{line_in}
use Rattle.queue_series.specs.Series.{IsSeries}
use Rattle.signal_safety.specs.Safe.{IsSafe}
use Rattle.commands.specs.Meanings.{Meaning, accepted_line}
use Rattle.scene_jobs.specs.Meanings.{three_texts}
use Rattle.audit_jobs.specs.Kinds.{SheetText}
use Rattle.audit_jobs.specs.Verdicts.{unclean_line}

-- the verdict on a sheet that is clean, under whose greens the network is safe
abbrev pub IsAcceptance : Net → (ℕ → ℕ → ℕ) → Sheet → List ℕ → Type 0
IsAcceptance net arriving sheet bytes =
    IsClean net arriving sheet × IsSafe net (line_in sheet.lines) × (bytes ≡ accepted_line)

-- the queues under the greens of a sheet that is clean, under which the network is safe
abbrev pub AreQueues : Net → (ℕ → ℕ → ℕ) → Sheet → List ℕ → Type 0
AreQueues net arriving sheet bytes =
    IsClean net arriving sheet × IsSafe net (line_in sheet.lines)
    × IsSeries net (cumulative_of_lines net arriving sheet.lines) (end_of_run net) bytes

-- the verdict on a sheet that is not clean
abbrev pub IsRejection : Net → (ℕ → ℕ → ℕ) → Sheet → List ℕ → Type 0
IsRejection net arriving sheet bytes =
    (why : AuditWhy) × (¬ IsClean net arriving sheet) × IsWhy net arriving sheet why × (bytes ≡ unclean_line net why)

-- a command that writes this of a clean sheet, and whose verdict goes against any other
abbrev pub over_sheet : (Net → (ℕ → ℕ → ℕ) → Sheet → List ℕ → Type 0) → List ℕ → List ℕ → List ℕ → Meaning
over_sheet writes net arr report = record {
  texts = three_texts SheetText net arr report;
  writes = λ said bytes. writes said.0 said.1.0 said.1.1.0 bytes;
  against = λ said. ¬ IsClean said.0 said.1.0 said.1.1.0;
  rejects = λ said bytes. IsRejection said.0 said.1.0 said.1.1.0 bytes;
  misses = λ said what. ⊥;
}

-- `audit NET ARR REPORT`, and `queues NET ARR REPORT`
abbrev pub audit_meaning : List ℕ → List ℕ → List ℕ → Meaning
audit_meaning = over_sheet IsAcceptance

abbrev pub queues_meaning : List ℕ → List ℕ → List ℕ → Meaning
queues_meaning = over_sheet AreQueues
