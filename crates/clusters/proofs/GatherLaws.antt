-- A series is cut run by run.
use Rattle.std.proofs.Common.{◌≡◌, ℕ, ◌+◌, ◌-◌, ◌<◌, ◌≤◌, List, [], ◌∷◌, ◌++◌, All, length, map, refl, sym, ap, subst, ◌∙◌, inl, inr, arith}
use Rattle.std.specs.List.{concat}
use Rattle.std.proofs.lemmas.List.{map-append, append-nil}
use Rattle.std.proofs.lemmas.List.Elements.{All-push}
use Rattle.std.proofs.lemmas.Bool.{cases_lt}
use Rattle.road_net.proofs.Ends.{concat-push}
use Rattle.clusters.specs.declared.vehicle_groups.Part.{Part}
use Rattle.clusters.specs.declared.vehicle_groups.Platoon.{Platoon}
use Rattle.clusters.specs.Cuts.{filled_from, filled, first_of, last_of, IsCutBy, IsRun, CannotJoin, run_at}
use Rattle.clusters.specs.Platoons.{ArePlatoonsBy, platoon_of, platoon_within, together}
use Rattle.clusters.specs.Steps.{IsEmpty, IsNext, IsRunUpTo, IsClosed}
use Rattle.clusters.proofs.ListLaws.{get_or-push-at, get_or-push-other, length-push}
use Rattle.clusters.proofs.CutLaws.{filled-append, filled-none}

-- a run that spans what one of its first second may
abbrev pub IsRunBy : ℕ → ℕ → (ℕ → ℕ) → List ℕ → List ℕ → Type 0
IsRunBy gap rate span series run = IsRun gap rate (span (first_of run)) series run

-- a second that could not have joined it
abbrev pub CannotJoinBy : ℕ → ℕ → (ℕ → ℕ) → List ℕ → List ℕ → ℕ → Type 0
CannotJoinBy gap rate span series run x = CannotJoin gap rate (span (first_of run)) series run x

-- The runs of the seconds before `from`, and their platoons.
pub record IsGathering (load : Part → ℕ) (gap rate : ℕ) (span : ℕ → ℕ) (now : ℕ) (series : List ℕ) (streams : List Part) (platoons : List Platoon) (from : ℕ) : Type 0 where
  pub runs : List (List ℕ)
  pub within : from ≤ length series
  pub all : concat runs ≡ filled_from series 0 from
  pub each : All (IsRunBy gap rate span series) runs
  pub apart : (k : ℕ) → k + 1 < length runs → CannotJoinBy gap rate span series (run_at runs k) (first_of (run_at runs (k + 1)))
  pub closed : (k x : ℕ) → k + 1 ≡ length runs → IsNext series from x → CannotJoinBy gap rate span series (run_at runs k) x
  pub made : platoons ≡ map (platoon_of load now streams) runs

pub gathering-none : (load : Part → ℕ) (gap rate : ℕ) (span : ℕ → ℕ) (now : ℕ) (series : List ℕ) (streams : List Part) → IsGathering load gap rate span now series streams [] 0
unfolding filled_from
gathering-none load gap rate span now series streams = record {
  runs = [];
  within = omega arith;
  all = refl;
  each = λ k d lt. absurd (omega arith);
  apart = λ k lt. absurd (omega arith);
  closed = λ k x e next. absurd (omega arith);
  made = refl;
}

pub gathering-more : (load : Part → ℕ) (gap rate : ℕ) (span : ℕ → ℕ) (now : ℕ) (series : List ℕ) (streams : List Part) (platoons more : List Platoon) (from first end most : ℕ) (platoon : Platoon)
    → IsGathering load gap rate span now series streams platoons from → IsNext series from first → most ≡ span first → IsRunUpTo gap rate most series first end → IsClosed gap rate most series first end
    → platoon ≡ platoon_within load now streams first end → more ≡ platoons ++ platoon ∷ [] → IsGathering load gap rate span now series streams more end
gathering-more load gap rate span now series streams platoons more from first end most platoon h next m run closed is pushed =
    let r : List ℕ = filled_from series first (end - first) in
    let runs : List (List ℕ) = h.runs in
    let some : first < end = run.some in
    let after : from ≤ first = next.from in
    let spans : most ≡ span (first_of (filled_from series first (end - first))) = m ∙ ap span (sym run.begins) in
    let empty : filled_from series from (first - from) ≡ [] = filled-none series from (first - from) (λ k lo hi. next.before k lo (omega arith)) in
    let cut : filled_from series 0 end ≡ filled_from series 0 from ++ r =
    let total : end ≡ from + ((first - from) + (end - first)) = omega arith in
    let zero_from : 0 + from ≡ from = omega arith in
    let back : from + (first - from) ≡ first = omega arith in
    ap (filled_from series 0) total
    ∙ filled-append series 0 from ((first - from) + (end - first))
    ∙ ap (λ s. filled_from series 0 from ++ filled_from series s ((first - from) + (end - first))) zero_from
    ∙ ap (λ ys. filled_from series 0 from ++ ys)
    (filled-append series from (first - from) (end - first) ∙ ap (λ ys. ys ++ filled_from series (from + (first - from)) (end - first)) empty
    ∙ ap (λ s. filled_from series s (end - first)) back) in
    record {
      runs = runs ++ r ∷ [];
      within = run.there;
      all = concat-push runs r ∙ ap (λ ys. ys ++ r) h.all ∙ sym cut;
      each = All-push (IsRunBy gap rate span series) runs r h.each (subst (λ n. IsRun gap rate n series (filled_from series first (end - first))) spans run.run);
      apart = λ k lt. elim (cases_lt (k + 1) (length runs)) [
        | inl below ↦ rw (get_or-push-other runs r [] k (omega arith), get_or-push-other runs r [] (k + 1) below) (h.apart k below)
        | inr past ↦
            let at : k + 1 ≡ length runs = omega (arith, length-push runs r) in
            rw (get_or-push-other runs r [] k (omega arith), get_or-push-at runs r [] (k + 1) at, run.begins) (h.closed k first at next)
      ];
      closed = λ k x e later.
          let at : k ≡ length runs = omega (arith, length-push runs r) in
          rw (get_or-push-at runs r [] k at) (elim (closed x later) [
            | inl far ↦ inl (omega (arith, run.ends))
            | inr (inl long) ↦ inr (inl (omega (arith, run.begins, spans)))
            | inr (inr below) ↦ inr (inr below)
          ]);
      made =
          pushed ∙ ap (λ ps. ps ++ platoon ∷ []) h.made
          ∙ ap (λ p. map (platoon_of load now streams) runs ++ p ∷ []) (is ∙ sym (ap (λ f. platoon_within load now streams f (last_of r + 1)) run.begins ∙ ap (platoon_within load now streams first) run.ends))
          ∙ sym (map-append (platoon_of load now streams) runs (r ∷ []));
    }

pub gathering-all : (load : Part → ℕ) (gap rate : ℕ) (span : ℕ → ℕ) (now look : ℕ) (series : List ℕ) (streams : List Part) (platoons : List Platoon) (from : ℕ)
    → IsGathering load gap rate span now series streams platoons from → IsEmpty series from (length series) → series ≡ together streams look
    → ArePlatoonsBy load gap rate span now look streams platoons
gathering-all load gap rate span now look series streams platoons from h empty brings =
    let le : from ≤ length series = h.within in
    let rest : filled_from series from (length series - from) ≡ [] = filled-none series from (length series - from) (λ k lo hi. empty k lo (omega arith)) in
    let whole : filled series ≡ filled_from series 0 from =
    let total : length series ≡ from + (length series - from) = omega arith in
    let zero_from : 0 + from ≡ from = omega arith in
    ap (filled_from series 0) total
    ∙ filled-append series 0 from (length series - from)
    ∙ ap (λ s. filled_from series 0 from ++ filled_from series s (length series - from)) zero_from
    ∙ ap (λ ys. filled_from series 0 from ++ ys) rest
    ∙ append-nil (filled_from series 0 from) in
    record {
      runs = h.runs;
      cut = subst (λ xs. IsCutBy gap rate span xs h.runs) brings (record { all = h.all ∙ sym whole; each = h.each; apart = h.apart });
      each = h.made;
    }
