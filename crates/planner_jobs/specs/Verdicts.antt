-- The lines that `check` writes where a certificate does not prove its answer.
use Rattle.std.specs.Prelude.{ℕ, List, [], ◌∷◌, ◌++◌, codes}
use Rattle.std.specs.Fmt.{decimal}
use Rattle.switch_rules.specs.declared.Unfit.{Unfit}
use Rattle.switch_rules.specs.declared.Unfit.TheVariants.{TooLong, TooLate}
use Rattle.schedule_meaning.specs.declared.faults.SeqFault.{SeqFault}
use Rattle.schedule_meaning.specs.declared.faults.SeqFault.TheVariants as sequence
use Rattle.cert_checker.specs.declared.Why.{Why}
use Rattle.cert_checker.specs.declared.Why.TheVariants.{Sequence, Delay, NoRoot, Open, Cheaper}

-- why a serving is unfit
abbrev pub unfit_name : Unfit → List ℕ
unfit_name TooLong = codes "long"
unfit_name TooLate = codes "late"

-- a fault of the claimed sequence: places from 1, phases from 0
abbrev pub sequence_text : SeqFault → List ℕ
sequence_text (sequence.Phase place) = codes "phase " ++ decimal place
sequence_text (sequence.WrongCount phase) = codes "count " ++ decimal phase
sequence_text (sequence.Unfit place why) = codes "unfit " ++ decimal place ++ 32 ∷ unfit_name why

-- why a certificate does not prove its answer: entries from 1, phases from 0
abbrev pub why_text : Why → List ℕ
why_text (Sequence fault) = codes "sequence " ++ sequence_text fault
why_text (Delay said is) = codes "delay " ++ decimal said ++ 32 ∷ decimal is
why_text NoRoot = codes "root"
why_text (Open entry phase) = codes "open " ++ decimal entry ++ 32 ∷ decimal phase
why_text (Cheaper entry) = codes "cheaper " ++ decimal entry

-- what is written for a certificate that does not prove its answer
abbrev pub rejected_line : Why → List ℕ
rejected_line why = codes "rejected " ++ why_text why ++ 10 ∷ []
