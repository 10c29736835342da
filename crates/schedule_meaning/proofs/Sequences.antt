use Rattle.std.specs.Prelude.{unwrap_or}
use Rattle.std.proofs.Common.{◌++◌, take, ◌≡◌, ◌≢◌, ℕ, zero, suc, ◌+◌, ◌-◌, ◌^◌, ◌<◌, ◌≤◌, ◌==◌, true, false, cond, eqb, List, [], ◌∷◌, length, sum, get_or, drop, All, Option, Some, None, Ok, Err, eq-eqb, add-one, drop-cons, refl, sym, ap, ◌∙◌, inl, inr, arith}
use Rattle.std.specs.Option.{option_map}
use Rattle.std.proofs.Math.ListN.{get_or-map}
use Rattle.std.proofs.lemmas.List.{length-map}
use Rattle.std.proofs.lemmas.List.{get_or-set_same, get_or-set_other, get_or_past, take_more}
use Rattle.std.proofs.lemmas.Bool.{cases_Bool, cases_eq, cases_lt, eqb-true}
use Rattle.std.proofs.lemmas.Bool.Decides.{nat_tests}
use Rattle.std.proofs.lemmas.List.Sums.{sum_by-cons, sum-map, get_or-le-sum_by}
use Rattle.std.proofs.lemmas.Option.{cond_some}
pub use Rattle.foundation.proofs.OptionLaws.{option-cases}
pub use Rattle.foundation.proofs.ResultLaws.{result-cases}
use Rattle.phase_plan.specs.Phases.{IsPhase, IsRing, phase_at, no_phase}
use Rattle.phase_plan.specs.declared.Phase.{Phase}
use Rattle.switch_rules.specs.Serving.{serving, IsServing}
use Rattle.switch_rules.specs.Orders.{one_less}
use Rattle.switch_rules.specs.declared.Head.{Head}
use Rattle.switch_rules.specs.declared.Served.{Served}
use Rattle.switch_rules.specs.declared.Cluster.{Cluster}
use Rattle.switch_rules.specs.declared.Unfit.{Unfit}
pub use Rattle.switch_rules.proofs.SequenceLaws.{next-left}
use Rattle.switch_rules.proofs.SequenceLaws as sequences
use Rattle.switch_rules.proofs.Counting.{count-le-sum, sum-one_less, length-one_less}
use Rattle.schedule_meaning.specs.Instances.{Problem, IsInstance, list_at, counts_of}
use Rattle.schedule_meaning.specs.Faults.{reached_from}
use Rattle.schedule_meaning.specs.Timing.{next_cluster, timed_from, timed, timing, times_of, total_cost, onward, IsUnderWay}

-- the counts are the lengths of the lists
pub get_or-counts : (lists : List (List Cluster)) (k : ℕ) → get_or (counts_of lists) k 0 ≡ length (list_at lists k)
get_or-counts lists k = get_or-map length lists k []

-- few clusters make short lists
pub short-lists : (lists : List (List Cluster)) → sum (counts_of lists) ≤ 40 → All (λ list. length list < 2 ^ 32) lists
short-lists lists few = λ k d h. omega (arith, get_or-le-sum_by length lists k d h, sum-map length lists)

module _ (p : Problem) (left : List ℕ) (head : Head) (k : ℕ) (ks : List ℕ) where
  -- where a phase has no cluster left, nothing is timed
  pub timed-missing : next_cluster p.lists left k ≡ None → timed_from p left head (k ∷ ks) ≡ None
  timed-missing e = sequences.timed-missing p.plan p.lists left head k ks e

  -- nor where a serving is unfit
  pub timed-unfit : (c : Cluster) (why : Unfit) → next_cluster p.lists left k ≡ Some c → serving p.plan head k c ≡ Err why → timed_from p left head (k ∷ ks) ≡ None
  timed-unfit c why e f = sequences.timed-unfit p.plan p.lists left head k ks c why e f

  -- a fit serving stands before what follows it
  pub timed-fit : (c : Cluster) (s : Served × Head) → next_cluster p.lists left k ≡ Some c → serving p.plan head k c ≡ Ok s → timed_from p left head (k ∷ ks) ≡ option_map (λ rest. (s.0 ∷ rest.0, rest.1)) (timed_from p (one_less left k) s.1 ks)
  timed-fit c s e f = sequences.timed-fit p.plan p.lists left head k ks c s e f

-- the delay goes on from serving to serving
pub onward-fit : (delay : ℕ) (s : Served) (t : Option (List Served × Head)) → option_map (onward delay) (option_map (λ rest. (s ∷ rest.0, rest.1)) t) ≡ option_map (onward (delay + s.cost)) t
onward-fit delay s None = refl
onward-fit delay s (Some r) =
    let e : delay + total_cost (s ∷ r.0) ≡ delay + s.cost + total_cost r.0 = omega (arith, sum_by-cons (λ (x : Served). x.cost) s r.0) in
    ap (λ (n : ℕ). let x : Option (ℕ × Head) = Some (n, r.1) in x) e

past-none : (left : List ℕ) (j : ℕ) → 0 < get_or left j 0 → j < length left
past-none [] j h = absurd (omega arith)
past-none (n ∷ left) zero h = omega arith
past-none (n ∷ left) (suc j) h = omega (arith, past-none left j h)

-- what is left of a phase after one of phase j is taken
get_or-one_less : (left : List ℕ) (j k : ℕ) → 0 < get_or left j 0 → cond (eqb j k) 1 0 + get_or (one_less left j) k 0 ≡ get_or left k 0
get_or-one_less left j k h = elim (cases_eq k j) [
  | inl same ↦
      let taken : get_or (one_less left j) k 0 ≡ get_or left j 0 - 1 = ap (λ x. get_or (one_less left j) x 0) same ∙ get_or-set_same left j (get_or left j 0 - 1) 0 (past-none left j h) in
      let at : get_or left k 0 ≡ get_or left j 0 = ap (λ x. get_or left x 0) same in
      grind (arith, nat_tests)
  | inr other ↦
      let kept : get_or (one_less left j) k 0 ≡ get_or left k 0 = get_or-set_other left j k (get_or left j 0 - 1) 0 other in
      grind (arith, nat_tests)
]

-- a sequence that is timed begins with a fit serving of the next cluster, and its rest is timed
pub timed-begins : {P : Type 0} (p : Problem) (left : List ℕ) (head : Head) (k : ℕ) (ks : List ℕ) (t : List Served × Head) → timed_from p left head (k ∷ ks) ≡ Some t
    → ((c : Cluster) (s : Served × Head) (rest : List Served × Head) → next_cluster p.lists left k ≡ Some c → serving p.plan head k c ≡ Ok s → timed_from p (one_less left k) s.1 ks ≡ Some rest → P) → P
timed-begins p left head k ks t e use_it = sequences.timed-begins p.plan p.lists left head k ks t e use_it

-- a sequence that is timed names each phase as often as it has clusters left
pub times-timed : (p : Problem) (left : List ℕ) (head : Head) (ks : List ℕ) (t : List Served × Head) → timed_from p left head ks ≡ Some t → (k : ℕ) → times_of k ks ≡ get_or left k 0
times-timed p left head [] t e k = omega (arith, count-le-sum left k, eqb-true (sum left) 0 (cond_some (sum left == 0) ([], head) t e).0)
times-timed p left head (j ∷ js) t e k = timed-begins p left head j js t e (λ c s rest ec es er.
    sum_by-cons (λ x. cond (x == k) 1 0) j js
    ∙ ap (λ n. cond (j == k) 1 0 + n) (times-timed p (one_less left j) s.1 js rest er k)
    ∙ get_or-one_less left j k (next-left p.lists left j c ec))

-- where a sequence does not name a phase as often as that, nothing is timed
pub none-unless : {X : Type 0} (o : Option X) → ((x : X) → o ≡ Some x → ⊥) → o ≡ None
none-unless None h = refl
none-unless (Some x) h = absurd (h x refl)

phase-bounds : (plan : List Phase) (k : ℕ) → IsRing plan → k < length plan → IsPhase (phase_at plan k)
phase-bounds plan k h inside = h.phases k no_phase inside

-- a sequence from an instance's head is on its way
pub under-way-start : (p : Problem) → IsInstance p → IsUnderWay p (counts_of p.lists) p.head 0
under-way-start p i = record {
  head = i.head;
  reach = omega (arith, i.head.within, i.since, (phase-bounds p.plan p.head.phase i.plan i.head.phase).greatest.1);
  lists = length-map p.lists length;
  left = λ k. omega (arith, get_or-counts p.lists k);
  delay = omega (arith, i.few);
}

-- and stays so with each fit serving
pub under-way-fit : (p : Problem) (left : List ℕ) (head : Head) (delay : ℕ) (j : ℕ) (s : Served × Head) → IsUnderWay p left head delay → 0 < get_or left j 0 → IsServing p.plan s → IsUnderWay p (one_less left j) s.1 (delay + s.0.cost)
under-way-fit p left head delay j s way some fit = record {
  head = fit.head;
  reach = omega (arith, fit.finish);
  lists = length-one_less left j ∙ way.lists;
  left = λ k. omega (arith, get_or-one_less left j k some, way.left k);
  delay = omega (arith, fit.cost, way.delay, sum-one_less left j some);
}

-- what a sequence names is left, and one less of it after its first place
pub named-left : (left : List ℕ) (j : ℕ) (js : List ℕ) → ((k : ℕ) → times_of k (j ∷ js) ≡ get_or left k 0) → 0 < get_or left j 0
named-left left j js h =
    let e = sum_by-cons (λ x. cond (x == j) 1 0) j js in
    let same : (j == j) ≡ true = eq-eqb j j refl in
    let one = ap (λ b. let n : ℕ = cond b 1 0 in n) same in
    omega (arith, h j, e, one)

pub named-after : (left : List ℕ) (j : ℕ) (js : List ℕ) → ((k : ℕ) → times_of k (j ∷ js) ≡ get_or left k 0) → (k : ℕ) → times_of k js ≡ get_or (one_less left j) k 0
named-after left j js h k = omega (arith, h k, sum_by-cons (λ x. cond (x == k) 1 0) j js, get_or-one_less left j k (named-left left j js h))

-- a phase of which something is left is one of the plan
pub left-phase : (left : List ℕ) (j : ℕ) → 0 < get_or left j 0 → j < length left
left-phase left j h = past-none left j h

-- where nothing is left of any phase, nothing is left
pub none-left : (left : List ℕ) → ((k : ℕ) → get_or left k 0 ≡ 0) → sum left ≡ 0
none-left [] h = refl
none-left (n ∷ left) h = sum_by-cons (λ x. x) n left ∙ omega (arith, h 0, none-left left (λ k. h (suc k)))

-- the delay of a sequence is that so far with that of what follows: at the start, after each fit serving, and at the end
pub timing-start : (p : Problem) (sequence : List ℕ) → timing p sequence ≡ option_map (onward 0) (timed p sequence)
timing-start p sequence = start (timed p sequence)
  where
    start : (t : Option (List Served × Head)) → option_map (λ (t : List Served × Head). (total_cost t.0, t.1)) t ≡ option_map (onward 0) t
    start None = refl
    start (Some t) = ap (λ (n : ℕ). let x : Option (ℕ × Head) = Some (n, t.1) in x) (omega arith)

pub timing-fit : (p : Problem) (left : List ℕ) (head : Head) (k : ℕ) (ks : List ℕ) (c : Cluster) (s : Served × Head) (delay : ℕ) → next_cluster p.lists left k ≡ Some c → serving p.plan head k c ≡ Ok s
    → option_map (onward delay) (timed_from p left head (k ∷ ks)) ≡ option_map (onward (delay + s.0.cost)) (timed_from p (one_less left k) s.1 ks)
timing-fit p left head k ks c s delay e f = ap (option_map (onward delay)) (timed-fit p left head k ks c s e f) ∙ onward-fit delay s.0 (timed_from p (one_less left k) s.1 ks)

pub timing-end : (p : Problem) (left : List ℕ) (head : Head) (delay : ℕ) → sum left ≡ 0 → option_map (onward delay) (timed_from p left head []) ≡ Some (delay, head)
timing-end p left head delay h =
    let over : (sum left == 0) ≡ true = eq-eqb (sum left) 0 h in
    ap (λ b. option_map (onward delay) (cond b (Some ([], head)) None)) over
    ∙ ap (λ (n : ℕ). let x : Option (ℕ × Head) = Some (n, head) in x) (omega arith)

-- a number that stands in a sequence is named in it
pub times-at : (sequence : List ℕ) (i : ℕ) → i < length sequence → 1 ≤ times_of (get_or sequence i 0) sequence
times-at sequence i h =
    let v = get_or sequence i 0 in
    let named : (v == v) ≡ true = eq-eqb v v refl in
    let one = ap (λ b. let n : ℕ = cond b 1 0 in n) named in
    omega (arith, one, get_or-le-sum_by (λ x. cond (x == v) 1 0) sequence i 0 h)

eqb-false_from : (x k : ℕ) → (x ≡ k → ⊥) → eqb x k ≡ false
eqb-false_from x k other = elim (cases_Bool (eqb x k)) [ inl same ↦ absurd (other (eqb-true x k same)) | inr differ ↦ differ ]

-- a number above all of a sequence is not named
pub times-above : (n k : ℕ) (sequence : List ℕ) → All (λ x. x < n) sequence → n ≤ k → times_of k sequence ≡ 0
times-above n k [] all h = refl
times-above n k (x ∷ sequence) all h =
    let below : x < n = all 0 0 (omega arith) in
    let other : (x == k) ≡ false = eqb-false_from x k (λ e. omega arith) in
    sum_by-cons (λ y. cond (y == k) 1 0) x sequence
    ∙ omega (arith, ap (λ b. let n : ℕ = cond b 1 0 in n) other, times-above n k sequence (λ i d inside. all (suc i) d (omega arith)) h)

-- a sequence that names a phase otherwise than as often as it has clusters is not timed
pub not-timed : (p : Problem) (sequence : List ℕ) (k : ℕ) → times_of k sequence ≢ length (list_at p.lists k) → timed p sequence ≡ None
not-timed p sequence k other = none-unless (timed p sequence) (λ t e. other (times-timed p (counts_of p.lists) p.head sequence t e k ∙ get_or-counts p.lists k))

-- nor one that names a number that is no phase
pub unknown-not-timed : (p : Problem) (sequence : List ℕ) (i : ℕ) → IsInstance p → i < length sequence → length p.plan ≤ get_or sequence i 0 → timed p sequence ≡ None
unknown-not-timed p sequence i lawful inside above =
    let past : list_at p.lists (get_or sequence i 0) ≡ [] = get_or_past p.lists (get_or sequence i 0) [] (omega (arith, lawful.lists)) in
    not-timed p sequence (get_or sequence i 0) (λ e. omega (arith, times-at sequence i inside, ap length past))

-- the counts that each phase of the plan is named by are those of all numbers
pub times-all : (p : Problem) (sequence : List ℕ) → IsInstance p → All (λ x. x < length p.plan) sequence → ((k : ℕ) → k < length p.lists → times_of k sequence ≡ length (list_at p.lists k)) → (k : ℕ) → times_of k sequence ≡ get_or (counts_of p.lists) k 0
times-all p sequence lawful all named k = elim (cases_lt k (length p.lists)) [
  | inl inside ↦ named k inside ∙ sym (get_or-counts p.lists k)
  | inr past ↦ times-above (length p.plan) k sequence all (omega (arith, lawful.lists)) ∙ sym (get_or_past (counts_of p.lists) k 0 (omega (arith, length-map p.lists length)))
]

pub drop-next : (sequence : List ℕ) (i : ℕ) → i < length sequence → drop i sequence ≡ get_or sequence i 0 ∷ drop (i + 1) sequence
drop-next sequence i h = rw add-one (drop-cons sequence i 0 h)

-- what is reached goes on with a fit serving, and ends with a cluster that is missing or unfit
reached-fit : (p : Problem) (left : List ℕ) (head : Head) (k : ℕ) (ks : List ℕ) (c : Cluster) (s : Served × Head) → next_cluster p.lists left k ≡ Some c → serving p.plan head k c ≡ Ok s → reached_from p left head (k ∷ ks) ≡ reached_from p (one_less left k) s.1 ks
reached-fit p left head k ks c s e f = rw e (rw f refl)

reached-missing : (p : Problem) (left : List ℕ) (head : Head) (k : ℕ) (ks : List ℕ) → next_cluster p.lists left k ≡ None → reached_from p left head (k ∷ ks) ≡ None
reached-missing p left head k ks e = rw e refl

reached-unfit : (p : Problem) (left : List ℕ) (head : Head) (k : ℕ) (ks : List ℕ) (c : Cluster) (why : Unfit) → next_cluster p.lists left k ≡ Some c → serving p.plan head k c ≡ Err why → reached_from p left head (k ∷ ks) ≡ None
reached-unfit p left head k ks c why e f = rw e (rw f refl)

pub reached-push : (p : Problem) (left : List ℕ) (head : Head) (ks : List ℕ) (now : List ℕ) (h : Head) (k : ℕ) (c : Cluster) (s : Served × Head) → reached_from p left head ks ≡ Some (now, h) → next_cluster p.lists now k ≡ Some c → serving p.plan h k c ≡ Ok s
    → reached_from p left head (ks ++ k ∷ []) ≡ Some (one_less now k, s.1)
reached-push p left head [] now h k c s e f g =
    let first : left ≡ now = ap (λ (o : Option (List ℕ × Head)). (unwrap_or o (left, head)).0) e in
    let second : head ≡ h = ap (λ (o : Option (List ℕ × Head)). (unwrap_or o (left, head)).1) e in
    reached-fit p left head k [] c s (ap (λ l. next_cluster p.lists l k) first ∙ f) (ap (λ x. serving p.plan x k c) second ∙ g)
    ∙ ap (λ (l : List ℕ). let o : Option (List ℕ × Head) = Some (one_less l k, s.1) in o) first
reached-push p left head (j ∷ js) now h k c s e f g =
    option-cases (next_cluster p.lists left j) (λ none. let gone = reached-missing p left head j js none in absurd (cc)) (λ d ed.
    result-cases (serving p.plan head j d)
    (λ r er.
    reached-fit p left head j (js ++ k ∷ []) d r ed er
    ∙ reached-push p (one_less left j) r.1 js now h k c s (sym (reached-fit p left head j js d r ed er) ∙ e) f g)
    (λ why ew. let gone = reached-unfit p left head j js d why ed ew in absurd (cc)))

pub take-next : (sequence : List ℕ) (i : ℕ) → i < length sequence → take (i + 1) sequence ≡ take i sequence ++ get_or sequence i 0 ∷ []
take-next sequence i h = take_more sequence i 0 h
