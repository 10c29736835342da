use Rattle.std.proofs.Common.{◌∙◌, ◌≡◌, Some, ap, subst, sym, ◌-◌, ◌≤◌, arith}
use Rattle.dp_certificate.specs.Certificates.{entry_at}
use Rattle.dp_certificate.specs.NextEntry.{stage_of_next}
use Rattle.dp_certificate.specs.Prefixes.{stage_after}
use Rattle.dp_certificate.specs.Proves.{stage_of_entry}
use Rattle.dp_certificate.specs.declared.Entry.{Entry}
use Rattle.forward_dp.specs.Completions.{IsAfter}
use Rattle.forward_dp.proofs.CompletedEntries.{after-is, bounds-here, entry-here, rises}
use Rattle.forward_dp.proofs.completions.place_after.Goals as goal

pub next_after-requires-clause-entry : goal.next_after-requires-clause-entry
next_after-requires-clause-entry g c = bounds-here c.args.i.now c.requires.lawful c.args.entries.now c.requires.whole c.args.place _ c.requires.place

pub overflow_sub-result : goal.overflow_sub-result
overflow_sub-result g c =
    let here = entry-here c.args.i.now c.requires.lawful c.args.entries.now c.requires.whole c.args.place _ c.requires.place in
    let leads = subst (λ (e : Entry). stage_after c.args.i.now (stage_of_entry c.args.i.now e) c.args.phase ≡ Some (stage_of_next c.in_ok-next.next)) here (sym c.in_ok-next.ensures.value) in
    subst (λ (e : Entry). e.delay ≤ c.in_ok-next.next.delay) (sym here)
    (rises c.args.i.now c.requires.lawful c.args.entries.now c.requires.whole c.args.place c.requires.place c.args.phase c.in_ok-next.next leads (omega (arith, c.in_ok-next.ensures.bounds.delay)) c.place_of-there.result c.place_of-there.ensures)

pub returns-clause-some : goal.returns-clause-some
returns-clause-some g c =
    let here = entry-here c.args.i.now c.requires.lawful c.args.entries.now c.requires.whole c.args.place _ c.requires.place in
    let leads = subst (λ (e : Entry). stage_after c.args.i.now (stage_of_entry c.args.i.now e) c.args.phase ≡ Some (stage_of_next c.in_ok-next.next)) here (sym c.in_ok-next.ensures.value) in
    subst (λ (e : Entry). IsAfter c.args.i.now c.args.entries.now c.args.place c.args.phase c.place_of-there.result (c.in_ok-next.next.delay - e.delay)) (sym here)
    (after-is c.args.i.now c.requires.lawful c.args.entries.now c.requires.whole c.args.place c.requires.place c.args.phase c.in_ok-next.next leads (omega (arith, c.in_ok-next.ensures.bounds.delay)) c.place_of-there.result c.place_of-there.ensures)
