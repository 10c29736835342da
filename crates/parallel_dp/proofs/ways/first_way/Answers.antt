use Rattle.std.proofs.Common.{◌≡◌, ℕ, ◌+◌, List, length, inl, inr, subst, ap, arith}
use Rattle.std.proofs.lemmas.Bool.{cases_lt}
use Rattle.schedule_meaning.specs.Instances.{Problem}
use Rattle.dp_certificate.specs.declared.Entry.{Entry}
use Rattle.parallel_dp.specs.Ways.{LeadsInto, NoneLeads}
use Rattle.parallel_dp.proofs.ways.first_way.Goals as goal

-- no phase below the next one leads there either
none-more : (p : Problem) (ways : List Entry) (e : Entry) (n : ℕ) → NoneLeads p ways e n → ((x : Entry) → LeadsInto p ways e n x → ⊥) → NoneLeads p ways e (n + 1)
none-more p ways e n before here k x below leads =
    elim (cases_lt k n) [
      | inl less ↦ before k x less leads
      | inr more ↦ let same : k ≡ n = omega arith in here x (subst (λ (j : ℕ). LeadsInto p ways e j x) same leads)
    ]

pub loop-phase-init : goal.loop-phase-init
loop-phase-init g c k x below leads = absurd (omega arith)

pub returns-in-Some-clause-some : goal.returns-in-Some-clause-some
returns-in-Some-clause-some g c = record { phase = omega (arith, ap length c.plan.ensures.value); leads = c.in-Some.ensures.some; first = c.loop-phase.invariant }

pub loop-phase-preserved : goal.loop-phase-preserved
loop-phase-preserved g c = none-more c.args.i.now c.args.ways.now c.args.entry.now c.loop-phase.phase c.loop-phase.invariant c.in_default.ensures.none

pub returns-clause-none : goal.returns-clause-none
returns-clause-none g c k x below = c.loop-phase.invariant k x (omega (arith, ap length c.plan.ensures.value))
