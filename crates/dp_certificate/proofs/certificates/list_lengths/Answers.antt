use Rattle.std.proofs.Common.{◌≡◌, ℕ, ◌+◌, ◌<◌, List, [], length, length-set, get_or, set, ap, sym, ◌∙◌, inl, inr, arith}
use Rattle.std.proofs.lemmas.Bool.{cases_eq, cases_lt}
use Rattle.std.proofs.lemmas.List.{get_or-set_other, get_or-set_same, get_or_past}
use Rattle.phase_plan.specs.declared.Phase.{Phase}
use Rattle.switch_rules.specs.declared.Cluster.{Cluster}
use Rattle.schedule_meaning.specs.Instances.{list_at}
use Rattle.dp_certificate.proofs.NextLaws.{few-listed}
use Rattle.dp_certificate.proofs.certificates.list_lengths.Goals as goal

each-more : (lists : List (List Cluster)) (lengths : List ℕ) (n v : ℕ) → n < length lengths → v ≡ length (list_at lists n) → ((k : ℕ) → k < n → get_or lengths k 0 ≡ length (list_at lists k))
    → (k : ℕ) → k < n + 1 → get_or (set lengths n v) k 0 ≡ length (list_at lists k)
each-more lists lengths n v inside is each k h = elim (cases_eq k n) [
  | inl same ↦ ap (λ j. get_or (set lengths n v) j 0) same ∙ get_or-set_same lengths n v 0 inside ∙ is ∙ ap (λ j. length (list_at lists j)) (sym same)
  | inr other ↦ get_or-set_other lengths n k v 0 other ∙ each k (omega arith)
]

pub overflow_cast-lengths : goal.overflow_cast-lengths
overflow_cast-lengths c = omega (arith, few-listed c.args.i.now c.plan.ensures.instance c.loop-phase.phase, ap (length {A = Cluster}) c.list.ensures.value)

pub loop-phase-preserved : goal.loop-phase-preserved
loop-phase-preserved c = record {
  places = length-set c.loop-phase.lengths c.loop-phase.phase (length c.list.result.now) ∙ c.loop-phase.invariant.places;
  each = each-more c.args.i.now.lists c.loop-phase.lengths c.loop-phase.phase (length c.list.result.now) (omega (arith, c.loop-phase.invariant.places, c.count-phase-end.ensures.count, c.plan.ensures.instance.plan.count.1, ap (length {A = Phase}) c.plan.ensures.value)) (ap (length {A = Cluster}) c.list.ensures.value) c.loop-phase.invariant.each;
  others = λ k h. get_or-set_other c.loop-phase.lengths c.loop-phase.phase k (length c.list.result.now) 0 (λ e. omega arith) ∙ c.loop-phase.invariant.others k (omega arith);
}

pub returns : goal.returns
returns c = record {
  places = c.loop-phase.invariant.places;
  each = λ k. elim (cases_lt k c.loop-phase.phase) [
    | inl h ↦ c.loop-phase.invariant.each k h
    | inr h ↦ c.loop-phase.invariant.others k h ∙ sym (ap length (get_or_past c.args.i.now.lists k [] (omega (arith, c.count-phase-end.ensures.count, c.plan.ensures.instance.lists, ap (length {A = Phase}) c.plan.ensures.value))))
  ];
}
