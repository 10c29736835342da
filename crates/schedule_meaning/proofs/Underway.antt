-- Listing what a feasible sequence serves.
use Rattle.std.specs.Prelude.{unwrap_or}
use Rattle.std.proofs.Common.{◌++◌, ◌≡◌, ◌≢◌, ℕ, ◌+◌, ◌<◌, ◌==◌, List, [], ◌∷◌, sum, get_or, length, drop, Option, Some, None, Result, Ok, IsOk, IfOk, append_assoc, append-nil, subst, refl, sym, ap, ◌∙◌, arith}
use Rattle.std.specs.Option.{option_map}
use Rattle.std.proofs.lemmas.Option.{cond_some}
use Rattle.phase_plan.specs.declared.Phase.{Phase}
use Rattle.switch_rules.specs.Serving.{serving, IsServing}
use Rattle.switch_rules.specs.Orders.{one_less}
use Rattle.switch_rules.specs.declared.Head.{Head}
use Rattle.switch_rules.specs.declared.Served.{Served}
use Rattle.switch_rules.specs.declared.Cluster.{Cluster}
use Rattle.switch_rules.specs.declared.Unfit.{Unfit}
use Rattle.schedule_meaning.specs.Instances.{Problem, IsInstance, counts_of}
use Rattle.schedule_meaning.specs.Timing.{next_cluster, timed_from, timed, timing, total_cost, IsUnderWay}
use Rattle.schedule_meaning.proofs.Sequences.{option-cases, result-cases, timed-begins, timed-fit, timed-unfit, next-left, drop-next, under-way-start, under-way-fit}

-- a feasible sequence on its way: what it has served so far, and that the rest of it is timed
pub record Lists (p : Problem) (sequence left : List ℕ) (head : Head) (list : List Served) (rest : List ℕ) : Type 0 where
  pub way : IsUnderWay p left head 0
  pub tail : List Served × Head
  pub follows : timed_from p left head rest ≡ Some tail
  pub whole : timed p sequence ≡ Some (list ++ tail.0, tail.1)

pub Lists-start : (p : Problem) (sequence : List ℕ) → IsInstance p → timing p sequence ≢ None → Lists p sequence (counts_of p.lists) p.head [] sequence
Lists-start p sequence lawful some =
    option-cases (timed p sequence)
    (λ none. absurd (some (ap (option_map (λ (t : List Served × Head). (total_cost t.0, t.1))) none)))
    (λ t e. record { way = under-way-start p lawful; tail = t; follows = e; whole = e })

-- where it names a further phase
pub Lists-more : (p : Problem) (sequence left : List ℕ) (head : Head) (list : List Served) (i : ℕ) → i < length sequence → Lists p sequence left head list (drop i sequence) → Lists p sequence left head list (get_or sequence i 0 ∷ drop (i + 1) sequence)
Lists-more p sequence left head list i inside so_far = subst (Lists p sequence left head list) (drop-next sequence i inside) so_far

-- the phase that it names next has a cluster left, and that is fit
pub Lists-left : (p : Problem) (sequence left : List ℕ) (head : Head) (list : List Served) (k : ℕ) (ks : List ℕ) → Lists p sequence left head list (k ∷ ks) → 0 < get_or left k 0
Lists-left p sequence left head list k ks so_far = timed-begins p left head k ks so_far.tail so_far.follows (λ c s rest ec es er. next-left p.lists left k c ec)

pub Lists-fits : (p : Problem) (sequence left : List ℕ) (head : Head) (list : List Served) (k : ℕ) (ks : List ℕ) (c : Cluster) (plan : List Phase) (r : Result (Served × Head) Unfit) → Lists p sequence left head list (k ∷ ks)
    → next_cluster p.lists left k ≡ Some c → r ≡ serving plan head k c → plan ≡ p.plan → IsOk r
Lists-fits p sequence left head list k ks c plan r so_far ec er same =
    let told : r ≡ serving p.plan head k c = er ∙ ap (λ plan. serving plan head k c) same in
    result-cases r
    (λ s es. subst IsOk (sym es) refl)
    (λ why ew. let gone = timed-unfit p left head k ks c why ec (sym told ∙ ew) in let some = so_far.follows in absurd (cc))

less-spent : (p : Problem) (left : List ℕ) (head : Head) (spent : ℕ) → IsUnderWay p left head spent → IsUnderWay p left head 0
less-spent p left head spent way = record { head = way.head; reach = way.reach; lists = way.lists; left = way.left; delay = omega (arith, way.delay) }

-- after that serving it is on its way still
pub Lists-next : (p : Problem) (sequence left : List ℕ) (head : Head) (list : List Served) (k : ℕ) (ks : List ℕ) (c : Cluster) (plan : List Phase) (r : Result (Served × Head) Unfit) (s : Served × Head) → Lists p sequence left head list (k ∷ ks)
    → next_cluster p.lists left k ≡ Some c → r ≡ serving plan head k c → plan ≡ p.plan → r ≡ Ok s → IfOk r (λ s. IsServing plan s) → Lists p sequence (one_less left k) s.1 (list ++ s.0 ∷ []) ks
Lists-next p sequence left head list k ks c plan r s so_far ec er same ok bounds =
    let es : serving p.plan head k c ≡ Ok s = ap (λ plan. serving plan head k c) (sym same) ∙ sym er ∙ ok in
    let fit : IsServing p.plan s = subst (λ plan. IsServing plan s) same (subst (λ r. IfOk r (λ s. IsServing plan s)) ok bounds) in
    let some = Lists-left p sequence left head list k ks so_far in
    let before = λ (rest : List Served × Head). let t : List Served × Head = (s.0 ∷ rest.0, rest.1) in t in
    let first : Some so_far.tail ≡ option_map before (timed_from p (one_less left k) s.1 ks) = sym so_far.follows ∙ timed-fit p left head k ks c s ec es in
    option-cases (timed_from p (one_less left k) s.1 ks)
    (λ none. let gone = first ∙ ap (option_map before) none in absurd (cc))
    (λ rest er.
    let both : Some so_far.tail ≡ Some (before rest) = first ∙ ap (option_map before) er in
    let tail : so_far.tail ≡ before rest = ap (λ (o : Option (List Served × Head)). unwrap_or o so_far.tail) both in
    record {
      way = less-spent p (one_less left k) s.1 (0 + s.0.cost) (under-way-fit p left head 0 k s so_far.way some fit);
      tail = rest;
      follows = er;
      whole = so_far.whole
          ∙ ap (λ (t : List Served × Head). let o : Option (List Served × Head) = Some (list ++ t.0, t.1) in o) tail
          ∙ ap (λ (l : List Served). let o : Option (List Served × Head) = Some (l, rest.1) in o) (sym (append_assoc list (s.0 ∷ []) rest.0));
    })

-- and at its end all that it serves is listed
pub Lists-end : (p : Problem) (sequence left : List ℕ) (head : Head) (list : List Served) → Lists p sequence left head list [] → option_map (λ t. t.0) (timed p sequence) ≡ Some list
Lists-end p sequence left head list so_far =
    let over : so_far.tail ≡ ([], head) = sym (cond_some (sum left == 0) ([], head) so_far.tail so_far.follows).1 in
    ap (option_map (λ (t : List Served × Head). t.0)) so_far.whole
    ∙ ap (λ (t : List Served × Head). let o : Option (List Served) = Some (list ++ t.0) in o) over
    ∙ ap (λ (l : List Served). let o : Option (List Served) = Some l in o) (append-nil list)
