use Rattle.std.proofs.Common.{◌≡◌, All, length, take}
use Rattle.certificate_form.proofs.writing.law_of_entries.Given as goal

abbrev pub invariant-loop-entry : goal.invariant-loop-entry
invariant-loop-entry l = All (λ e. length e.counts ≡ 4) (take l.entry-index l.entries)
