use Rattle.std.proofs.Common.{◌≤◌, All, Contains, take, inl, inr, subst, sym, arith}
use Rattle.std.proofs.lemmas.List.{take_all}
use Rattle.std.proofs.lemmas.List.Elements.{All-more, All-weaker, Contains-get_or}
use Rattle.dp_certificate.specs.declared.Entry.{Entry}
use Rattle.parallel_dp.proofs.ways.cheapest.Goals as goal

pub loop-entry-preserved : goal.loop-entry-preserved
loop-entry-preserved c =
    let entries = c.args.entries.now in
    let now = c.cheaper-best.result in
    record {
      among = elim c.cheaper-best.ensures.either [
        | inl e ↦ subst (Contains entries) (sym e) c.loop-entry.invariant.among
        | inr e ↦ subst (Contains entries) (sym e) (Contains-get_or entries c.loop-entry.entry-index _ c.loop-entry-test.true)
      ];
      least = All-more (λ (e : Entry). now.delay ≤ e.delay) entries c.loop-entry.entry-index _ c.loop-entry-test.true
          (All-weaker (λ (e : Entry). c.loop-entry.best.delay ≤ e.delay) (λ (e : Entry). now.delay ≤ e.delay) (λ e h. omega (arith, h, c.cheaper-best.ensures.first)) (take c.loop-entry.entry-index entries) c.loop-entry.invariant.least)
          c.cheaper-best.ensures.second;
    }

pub returns-clause-least : goal.returns-clause-least
returns-clause-least c = subst (All (λ (e : Entry). c.loop-entry.best.delay ≤ e.delay)) (take_all c.loop-entry.entry-index c.args.entries.now (omega arith)) c.loop-entry.invariant.least
