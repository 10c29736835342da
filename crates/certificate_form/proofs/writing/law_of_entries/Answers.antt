use Rattle.std.proofs.Common.{◌≡◌, All, List, length, subst, arith}
use Rattle.std.proofs.lemmas.List.{take_all}
use Rattle.std.proofs.lemmas.List.Elements.{All-more}
use Rattle.dp_certificate.specs.declared.Entry.{Entry}
use Rattle.certificate_form.proofs.writing.law_of_entries.Goals as goal

pub loop-entry-preserved : goal.loop-entry-preserved
loop-entry-preserved c = All-more (λ (e : Entry). length e.counts ≡ 4) c.args.entries.now c.loop-entry.entry-index _ (omega arith) c.loop-entry.invariant c.law_of_counts.ensures

pub returns : goal.returns
returns c = subst (λ (es : List Entry). All (λ (e : Entry). length e.counts ≡ 4) es) (take_all c.loop-entry.entry-index c.args.entries.now (omega arith)) c.loop-entry.invariant
