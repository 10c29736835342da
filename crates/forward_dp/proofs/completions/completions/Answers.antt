use Rattle.std.proofs.Common.{[], ◌∷◌, ◌∙◌, ◌+◌, ◌-◌, ◌*◌, ◌≤◌, ℕ, length, ap, sym, subst, length-append, arith}
use Rattle.dp_certificate.specs.Certificates.{entry_at}
use Rattle.dp_certificate.specs.Proves.{stage_of_entry}
use Rattle.forward_dp.specs.Completions.{AreCompletions, IsCompletion}
use Rattle.forward_dp.proofs.CompletedEntries.{completions-more, fewer-servings}
use Rattle.forward_dp.proofs.completions.completions.Goals as goal

pub cheapest-completion-requires-clause-later : goal.cheapest-completion-requires-clause-later
cheapest-completion-requires-clause-later g c = subst (AreCompletions c.args.i.now c.args.entries.now) (sym c.as_slice.ensures.value) c.loop-place.invariant.all

pub loop-place-preserved : goal.loop-place-preserved
loop-place-preserved g c =
    let now : IsCompletion c.args.i.now c.loop-place.all.items (stage_of_entry c.args.i.now (entry_at c.args.entries.now (c.loop-place.place - 1))) c.cheapest-completion.result =
    subst (λ xs. IsCompletion c.args.i.now xs (stage_of_entry c.args.i.now (entry_at c.args.entries.now (c.loop-place.place - 1))) c.cheapest-completion.result) c.as_slice.ensures.value c.cheapest-completion.ensures.completion in
    record {
      all =
          subst (AreCompletions c.args.i.now c.args.entries.now) (sym c.in_ok-push.ensures.items)
          (completions-more c.args.i.now c.args.entries.now c.loop-place.all.items c.cheapest-completion.result (c.loop-place.place - 1) (omega (arith, c.loop-place.invariant.count)) c.loop-place.invariant.all now);
      count = omega (arith, ap length c.in_ok-push.ensures.items, length-append c.loop-place.all.items (c.cheapest-completion.result ∷ []), c.loop-place.invariant.count);
      steps = fewer-servings c.cheapest-completion.new.steps c.loop-place.steps (length c.args.i.now.plan) c.loop-place.place _ (omega arith) c.cheapest-completion.ensures.servings c.loop-place.invariant.steps;
    }
