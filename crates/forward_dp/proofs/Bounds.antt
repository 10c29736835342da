-- The bounds of stages that fit prefixes lead to.
use Rattle.std.proofs.Common.{◌≡◌, ℕ, suc, ◌+◌, ◌*◌, ◌≤◌, ◌<◌, ◌&&◌, ◌==◌, List, [], ◌∷◌, length, sum, get_or, Some, refl, sym, ap, subst, ◌∙◌, length-set, arith}
use Rattle.std.proofs.lemmas.Bool.{ne_eqb}
use Rattle.std.proofs.lemmas.List.Sums.{sum_by-cons}
use Rattle.std.proofs.lemmas.Option.{slice_get_within}
use Rattle.phase_plan.specs.Phases.{no_phase}
use Rattle.switch_rules.specs.Bounds.{greatest_cost, latest_time}
use Rattle.switch_rules.specs.Serving.{IsHead}
use Rattle.schedule_meaning.specs.Instances.{Problem, IsInstance, list_at, counts_of}
use Rattle.schedule_meaning.proofs.Sequences.{get_or-counts, under-way-start}
use Rattle.dp_certificate.specs.Prefixes.{Stage, stage_after, stage_from, first_stage, stage_of}
use Rattle.dp_certificate.proofs.Servings.{serving-keeps}
use Rattle.dp_certificate.proofs.Stages.{behind, from-begins, listed-cluster, listed-phase, more-within, none-counted, some-same, step-begins, sum-one_more}

-- a stage within its bounds, after this many servings
pub record IsStage (p : Problem) (served : ℕ) (s : Stage) : Type 0 where
  pub places : length s.counts ≡ 4
  pub counts : (k : ℕ) → get_or s.counts k 0 ≤ length (list_at p.lists k)
  pub total : sum s.counts ≡ served
  pub head : IsHead p.plan s.head
  pub reach : s.head.at ≤ latest_time
  pub fresh : s.head.fresh ≡ ((served == 0) && p.head.fresh)
  pub delay : s.delay ≤ greatest_cost * served

-- a step keeps the bounds
pub stage-after-bounds : (p : Problem) → IsInstance p → (n : ℕ) (s t : Stage) (k : ℕ) → IsStage p n s → stage_after p s k ≡ Some t → IsStage p (n + 1) t
stage-after-bounds p lawful n s t k stage e = step-begins p s t k e (λ c r ec er same.
    let inside : k < length p.plan = omega (arith, listed-phase p k (get_or s.counts k 0) c ec, lawful.lists) in
    let place : k < length s.counts = omega (arith, lawful.plan.count.1, stage.places) in
    let kept = serving-keeps p.plan s.head k c inside (lawful.plan.phases k no_phase inside) stage.head (listed-cluster p k (get_or s.counts k 0) c lawful ec) r er in
    let within : IsStage p (n + 1) (behind s k r) = record {
      places = length-set s.counts k (get_or s.counts k 0 + 1) ∙ stage.places;
      counts = more-within p s.counts k place (slice_get_within (list_at p.lists k) (get_or s.counts k 0) c ec) stage.counts;
      total = omega (arith, sum-one_more s.counts k place, stage.total);
      head = kept.0.head;
      reach = omega (arith, kept.0.finish);
      fresh = kept.1 ∙ sym (ap (λ b. b && p.head.fresh) (ne_eqb (n + 1) 0 (λ e. omega arith)));
      delay = omega (arith, kept.0.cost, stage.delay);
    } in
    subst (IsStage p (n + 1)) same within)

-- the first stage is within its bounds
pub first-bounds : (p : Problem) → IsInstance p → IsStage p 0 (first_stage p)
first-bounds p lawful = record {
  places = refl;
  counts = λ k. omega (arith, none-counted k);
  total = refl;
  head = lawful.head;
  reach = (under-way-start p lawful).reach;
  fresh = refl;
  delay = omega arith;
}

pub from-bounds : (p : Problem) → IsInstance p → (u : List ℕ) (n m : ℕ) (s t : Stage) → m ≡ n + length u → IsStage p n s → stage_from p s u ≡ Some t → IsStage p m t
from-bounds p lawful [] n m s t count stage e =
    let there : IsStage p n t = subst (IsStage p n) (some-same s t e) stage in
    subst (λ i. IsStage p i t) (let same : n ≡ m = omega arith in same) there
from-bounds p lawful (k ∷ u) n m s t count stage e = from-begins p s t k u e (λ next en rest.
    from-bounds p lawful u (n + 1) m next t (omega arith) (stage-after-bounds p lawful n s next k stage en) rest)

pub stage-bounds : (p : Problem) → IsInstance p → (u : List ℕ) (s : Stage) → stage_of p u ≡ Some s → IsStage p (length u) s
stage-bounds p lawful u s e = from-bounds p lawful u 0 (length u) (first_stage p) s (omega arith) (first-bounds p lawful) e

-- a list of numbers none of which is above its counterpart
pub sum-le : (xs ys : List ℕ) → ((k : ℕ) → get_or xs k 0 ≤ get_or ys k 0) → sum xs ≤ sum ys
sum-le [] ys h = omega arith
sum-le (x ∷ xs) [] h = omega (arith, sum_by-cons (λ n. n) x xs, h 0, sum-le xs [] (λ k. h (suc k)))
sum-le (x ∷ xs) (y ∷ ys) h = omega (arith, sum_by-cons (λ n. n) x xs, sum_by-cons (λ n. n) y ys, h 0, sum-le xs ys (λ k. h (suc k)))

-- no more is served than there is
pub stage-few : (p : Problem) → IsInstance p → (n : ℕ) (s : Stage) → IsStage p n s → n ≤ sum (counts_of p.lists)
stage-few p lawful n s stage = omega (arith, stage.total, sum-le s.counts (counts_of p.lists) (λ k. omega (arith, stage.counts k, get_or-counts p.lists k)))
