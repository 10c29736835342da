-- What a sequence that is timed serves, one serving after another.
use Rattle.std.proofs.Common.{◌≡◌, ℕ, ◌-◌, ◌<◌, ◌==◌, List, [], ◌∷◌, length, sum, get_or, All, Option, Some, None, Ok, Err, refl, sym, ap, subst, ◌∙◌, inl, inr, arith}
use Rattle.std.specs.Option.{option_map, option_and_then}
use Rattle.std.proofs.lemmas.Bool.{cases_lt}
use Rattle.std.proofs.lemmas.List.{get_or_past}
use Rattle.std.proofs.lemmas.Option.{slice_get_within, get_or_from_slice_get, same_Some, cond_some}
use Rattle.foundation.proofs.OptionLaws.{option-cases}
use Rattle.foundation.proofs.ResultLaws.{result-cases}
use Rattle.phase_plan.specs.Phases.{IsRing}
use Rattle.phase_plan.specs.declared.Phase.{Phase}
use Rattle.phase_plan.proofs.RingLaws.{phase-bounds}
use Rattle.switch_rules.specs.Orders.{one_less}
use Rattle.switch_rules.specs.Sequences.{AreNextServings, IsNextServing, list_at, next_cluster, timed_from}
use Rattle.switch_rules.specs.Serving.{IsCluster, IsHead, head_after, serving}
use Rattle.switch_rules.specs.declared.Head.{Head}
use Rattle.switch_rules.specs.declared.Served.{Served}
use Rattle.switch_rules.specs.declared.Cluster.{Cluster}
use Rattle.switch_rules.specs.declared.Unfit.{Unfit}
use Rattle.switch_rules.proofs.ServingLaws.{serving-keeps}

bind-some : {A B : Type 0} (g : A → B) (o : Option A) → option_and_then (λ x. Some (g x)) o ≡ option_map g o
bind-some g None = refl
bind-some g (Some x) = refl

module _ (plan : List Phase) (lists : List (List Cluster)) where
  module _ (left : List ℕ) (head : Head) (k : ℕ) (ks : List ℕ) where
    -- where a phase has no cluster left, nothing is timed
    pub timed-missing : next_cluster lists left k ≡ None → timed_from plan lists left head (k ∷ ks) ≡ None
    timed-missing e = rw e refl

    -- nor where a serving is unfit
    pub timed-unfit : (c : Cluster) (why : Unfit) → next_cluster lists left k ≡ Some c → serving plan head k c ≡ Err why → timed_from plan lists left head (k ∷ ks) ≡ None
    timed-unfit c why e f = rw e (rw f refl)

    -- a fit serving stands before what follows it
    pub timed-fit : (c : Cluster) (s : Served × Head) → next_cluster lists left k ≡ Some c → serving plan head k c ≡ Ok s
        → timed_from plan lists left head (k ∷ ks) ≡ option_map (λ rest. (s.0 ∷ rest.0, rest.1)) (timed_from plan lists (one_less left k) s.1 ks)
    timed-fit c s e f = rw e (rw f (bind-some (λ (rest : List Served × Head). (s.0 ∷ rest.0, rest.1)) (timed_from plan lists (one_less left k) s.1 ks)))

    -- a sequence that is timed begins with a fit serving of the next cluster, and its rest is timed
    pub timed-begins : {P : Type 0} (t : List Served × Head) → timed_from plan lists left head (k ∷ ks) ≡ Some t
        → ((c : Cluster) (s : Served × Head) (rest : List Served × Head) → next_cluster lists left k ≡ Some c → serving plan head k c ≡ Ok s → timed_from plan lists (one_less left k) s.1 ks ≡ Some rest → P) → P
    timed-begins t e use_it =
        option-cases (next_cluster lists left k) (λ none. let gone = timed-missing none in absurd (cc)) (λ c ec.
        result-cases (serving plan head k c)
        (λ s es. option-cases (timed_from plan lists (one_less left k) s.1 ks)
        (λ none. let fit = timed-fit c s ec es ∙ ap (option_map (λ (rest : List Served × Head). (s.0 ∷ rest.0, rest.1))) none in absurd (cc))
        (λ rest er. use_it c s rest ec es er))
        (λ why ew. let gone = timed-unfit c why ec ew in absurd (cc)))

-- a cluster that is next is one that is left
pub next-left : (lists : List (List Cluster)) (left : List ℕ) (k : ℕ) (c : Cluster) → next_cluster lists left k ≡ Some c → 0 < get_or left k 0
next-left lists left k c e = omega (arith, slice_get_within (list_at lists k) (length (list_at lists k) - get_or left k 0) c e)

-- a phase that has a next cluster has a list, and that cluster is as all clusters are
pub next-within : (P : Cluster → Type 0) (lists : List (List Cluster)) (left : List ℕ) (k : ℕ) (c : Cluster) → All (All P) lists → next_cluster lists left k ≡ Some c → (k < length lists) × P c
next-within P lists left k c all e =
    let list = list_at lists k in
    let index = length list - get_or left k 0 in
    let inside : index < length list = slice_get_within list index c e in
    let listed : k < length lists = elim (cases_lt k (length lists)) [
      | inl below ↦ below
      | inr past ↦ absurd (omega (arith, inside, ap length (get_or_past lists k [] past)))
    ] in
    (listed, subst P (get_or_from_slice_get list index c c e) (all k [] listed index c inside))

-- the servings of a sequence that is timed are those of the next clusters
pub timed-next : (plan : List Phase) (lists : List (List Cluster)) → IsRing plan → length lists ≡ length plan → All (All IsCluster) lists → (ks left : List ℕ) (head : Head) (t : List Served × Head) → IsHead plan head
    → timed_from plan lists left head ks ≡ Some t → AreNextServings plan lists left head ks t.0
timed-next plan lists p each bounds [] left head t h e =
    let over : ([], head) ≡ t = (cond_some (sum left == 0) ([], head) t e).1 in
    subst (λ (r : List Served × Head). AreNextServings plan lists left head [] r.0) over tt
timed-next plan lists p each bounds (k ∷ ks) left head t h e = timed-begins plan lists left head k ks t e (λ c s rest ec es er.
    let within = next-within IsCluster lists left k c bounds ec in
    let below : k < length plan = omega (arith, each, within.0) in
    let keeps = serving-keeps plan head k c s.0 s.1 below (phase-bounds plan k p below) h within.1 es in
    let one : IsNextServing plan lists left head k s.0 = record { cluster = c; next = ec; fit = es ∙ ap (λ (n : Head). Ok (s.0, n)) keeps.behind } in
    let others = timed-next plan lists p each bounds ks (one_less left k) (head_after k s.0) rest (subst (IsHead plan) keeps.behind keeps.bounds.head)
    (subst (λ (n : Head). timed_from plan lists (one_less left k) n ks ≡ Some rest) keeps.behind er) in
    let whole : List Served × Head = (s.0 ∷ rest.0, rest.1) in
    let both : Some t ≡ Some whole = sym e ∙ timed-fit plan lists left head k ks c s ec es ∙ ap (option_map (λ (r : List Served × Head). (s.0 ∷ r.0, r.1))) er in
    let same : t ≡ whole = same_Some t whole both in
    subst (λ (r : List Served × Head). AreNextServings plan lists left head (k ∷ ks) r.0) (sym same) (one, others))

-- the same of a list of what the sequence serves
pub listed-next : (plan : List Phase) (lists : List (List Cluster)) → IsRing plan → length lists ≡ length plan → All (All IsCluster) lists → (ks left : List ℕ) (head : Head) (list : List Served) → IsHead plan head
    → option_map (λ t. t.0) (timed_from plan lists left head ks) ≡ Some list → AreNextServings plan lists left head ks list
listed-next plan lists p each bounds ks left head list h e =
    option-cases (timed_from plan lists left head ks)
    (λ none. let gone = ap (option_map (λ (t : List Served × Head). t.0)) none in absurd (cc))
    (λ t et.
    let both : Some t.0 ≡ Some list = sym (ap (option_map (λ (r : List Served × Head). r.0)) et) ∙ e in
    subst (AreNextServings plan lists left head ks) (same_Some t.0 list both) (timed-next plan lists p each bounds ks left head t h et))
