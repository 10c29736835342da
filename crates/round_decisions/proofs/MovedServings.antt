-- What is served of clusters, and the best answer, moved by some seconds.
use Rattle.std.proofs.Common.{◌≡◌, ℕ, ◌+◌, ◌-◌, ◌*◌, ◌<◌, ◌≤◌, Bool, true, false, List, [], ◌∷◌, All, Option, Some, None, Result, Ok, Err, IfSome, length, map, max, sum, refl, sym, ap, subst, ◌∙◌, arith}
use Rattle.std.specs.Prelude.{◌==◌, ◌&&◌, if◌then◌else◌, nat_le, nat_lt, slice_get, slice_index}
use Rattle.std.specs.Option.{option_map}
use Rattle.std.specs.Result.{result_ok}
use Rattle.std.proofs.lemmas.List.{length-map}
use Rattle.std.proofs.lemmas.List.Elements.{All-weaker}
use Rattle.std.proofs.lemmas.List.Sums.{sum_by-cons}
use Rattle.std.proofs.lemmas.Option.{none-some, same_Some, slice_get-map}
use Rattle.std.proofs.Math.ListN.{get_or-map}
use Rattle.foundation.specs.Options.{◌>>=◌}
use Rattle.intersection_actor.specs.Commits.{AreServedBy}
use Rattle.phase_plan.specs.Phases.{phase_at, switch_time}
use Rattle.phase_plan.specs.declared.Phase.{Phase}
use Rattle.schedule_meaning.specs.Best.{IsBest}
use Rattle.schedule_meaning.specs.Instances.{Problem, counts_of}
use Rattle.schedule_meaning.specs.Timing.{delay_of, timed, total_cost}
use Rattle.schedule_meaning.specs.declared.planners.Answer.{Answer}
use Rattle.schedule_meaning.specs.declared.planners.Answer.TheVariants.{Plan, NoPlan}
use Rattle.switch_rules.specs.Orders.{one_less, orders}
use Rattle.switch_rules.specs.Sequences.{list_at, next_cluster, timed_from}
use Rattle.switch_rules.specs.Serving.{earliest_end, earliest_green, goes_on, served_anew, served_from, serving, start_in_green}
use Rattle.switch_rules.specs.declared.Cluster.{Cluster}
use Rattle.switch_rules.specs.declared.Head.{Head}
use Rattle.switch_rules.specs.declared.Served.{Served}
use Rattle.switch_rules.specs.declared.Unfit.{Unfit}
use Rattle.switch_rules.specs.declared.Unfit.TheVariants.{TooLong, TooLate}
use Rattle.round_decisions.specs.Origins.{moved_cluster, moved_head, moved_problem}
use Rattle.round_decisions.proofs.MovedLines.{end-moved, le-moved, le-same, lt-same, moved_served}

module _ (d : ℕ) where
  abbrev moved_pair : Served × Head → Served × Head
  moved_pair s = (moved_served d s.0, moved_head d s.1)

  abbrev moved_result : Result (Served × Head) Unfit → Result (Served × Head) Unfit
  moved_result (Ok s) = Ok (moved_pair s)
  moved_result (Err e) = Err e

  served-moved : (p : Phase) (j : ℕ) (c : Cluster) (green start : ℕ) (kept : Bool) (g s : ℕ) → g ≡ green + d → s ≡ start + d → served_from p j (moved_cluster d c) g s kept ≡ moved_result (served_from p j c green start kept)
  served-moved p j c green start kept g s eg es =
      let long : nat_lt (g + p.greatest) (s + c.len) ≡ nat_lt (green + p.greatest) (start + c.len) = lt-same (g + p.greatest) (s + c.len) (green + p.greatest) (start + c.len) (λ h. omega (arith, h, eg, es)) (λ h. omega (arith, h, eg, es)) in
      let waits : s - (c.arr + d) ≡ start - c.arr = omega (arith, es) in
      let ends : s + c.len ≡ start + c.len + d = omega (arith, es) in
      (λ i. if long i then Err TooLong else (if nat_lt p.wait (waits i) then Err TooLate
      else Ok (record { green = eg i; start = es i; finish = ends i; cost = c.load * waits i; kept = kept }, record { phase = j; since = eg i; at = ends i; fresh = false })))
      ∙ pick (nat_lt (green + p.greatest) (start + c.len)) (nat_lt p.wait (start - c.arr))
    where
      pick : (b w : Bool) → (if b then Err TooLong else (if w then Err TooLate
          else Ok (record { green = green + d; start = start + d; finish = start + c.len + d; cost = c.load * (start - c.arr); kept = kept }, record { phase = j; since = green + d; at = start + c.len + d; fresh = false })))
          ≡ moved_result (if b then Err TooLong else (if w then Err TooLate
          else Ok (record { green = green; start = start; finish = start + c.len; cost = c.load * (start - c.arr); kept = kept }, record { phase = j; since = green; at = start + c.len; fresh = false })))
      pick true w = refl
      pick false true = refl
      pick false false = refl

  start-moved : (p : Phase) (head : Head) (c : Cluster) → start_in_green p (moved_head d head) (moved_cluster d c) ≡ start_in_green p head c + d
  start-moved p head c =
      ap (λ b. if head.fresh && b then max (head.at + d) (head.since + d + p.loss) else max (c.arr + d) (head.at + d)) (le-moved d c.arr head.at)
      ∙ pick (head.fresh && nat_le c.arr head.at)
    where
      pick : (b : Bool) → (if b then max (head.at + d) (head.since + d + p.loss) else max (c.arr + d) (head.at + d)) ≡ (if b then max head.at (head.since + p.loss) else max c.arr head.at) + d
      pick true = omega arith
      pick false = omega arith

  goes-moved : (p : Phase) (head : Head) (j : ℕ) (c : Cluster) → goes_on p (moved_head d head) j (moved_cluster d c) ≡ goes_on p head j c
  goes-moved p head j c = ap (λ b. (j == head.phase) && b) (by (start_in_green p head c) (start_in_green p (moved_head d head) (moved_cluster d c)) (start-moved p head c))
    where
      by : (s t : ℕ) → t ≡ s + d → nat_le (t + c.len) (head.since + d + p.greatest) ≡ nat_le (s + c.len) (head.since + p.greatest)
      by s t e = le-same (t + c.len) (head.since + d + p.greatest) (s + c.len) (head.since + p.greatest) (λ h. omega (arith, h, e)) (λ h. omega (arith, h, e))

  anew-moved : (p : Phase) (j : ℕ) (c : Cluster) (earliest e : ℕ) → e ≡ earliest + d → served_anew p j (moved_cluster d c) e ≡ moved_result (served_anew p j c earliest)
  anew-moved p j c earliest e same =
      ap (λ b. if b then served_from p j (moved_cluster d c) e (e + p.loss) false else served_from p j (moved_cluster d c) (c.arr + d) (c.arr + d) false)
      (le-same (c.arr + d) e c.arr earliest (λ h. omega (arith, h, same)) (λ h. omega (arith, h, same)))
      ∙ pick (nat_le c.arr earliest)
    where
      pick : (b : Bool) → (if b then served_from p j (moved_cluster d c) e (e + p.loss) false else served_from p j (moved_cluster d c) (c.arr + d) (c.arr + d) false)
          ≡ moved_result (if b then served_from p j c earliest (earliest + p.loss) false else served_from p j c c.arr c.arr false)
      pick true = served-moved p j c earliest (earliest + p.loss) false e (e + p.loss) same (omega (arith, same))
      pick false = served-moved p j c c.arr c.arr false (c.arr + d) (c.arr + d) refl refl

  green-moved : (plan : List Phase) (head : Head) (j : ℕ) → earliest_green plan (moved_head d head) j ≡ earliest_green plan head j + d
  green-moved plan head j = by (earliest_end plan head) (switch_time plan head.phase j) (earliest_end plan (moved_head d head)) (end-moved d plan head)
    where
      by : (e s f : ℕ) → f ≡ e + d → f + s ≡ e + s + d
      by e s f same = omega (arith, same)

  serving-moved : (plan : List Phase) (head : Head) (j : ℕ) (c : Cluster) → serving plan (moved_head d head) j (moved_cluster d c) ≡ moved_result (serving plan head j c)
  serving-moved plan head j c =
      ap (λ b. if b then served_from (phase_at plan j) j (moved_cluster d c) (head.since + d) (start_in_green (phase_at plan j) (moved_head d head) (moved_cluster d c)) true else served_anew (phase_at plan j) j (moved_cluster d c) (earliest_green plan (moved_head d head) j)) (goes-moved (phase_at plan j) head j c)
      ∙ pick (goes_on (phase_at plan j) head j c)
    where
      pick : (b : Bool) → (if b then served_from (phase_at plan j) j (moved_cluster d c) (head.since + d) (start_in_green (phase_at plan j) (moved_head d head) (moved_cluster d c)) true else served_anew (phase_at plan j) j (moved_cluster d c) (earliest_green plan (moved_head d head) j))
          ≡ moved_result (if b then served_from (phase_at plan j) j c head.since (start_in_green (phase_at plan j) head c) true else served_anew (phase_at plan j) j c (earliest_green plan head j))
      pick true = served-moved (phase_at plan j) j c head.since (start_in_green (phase_at plan j) head c) true (head.since + d) (start_in_green (phase_at plan j) (moved_head d head) (moved_cluster d c)) refl (start-moved (phase_at plan j) head c)
      pick false = anew-moved (phase_at plan j) j c (earliest_green plan head j) (earliest_green plan (moved_head d head) j) (green-moved plan head j)

  -- sequences
  abbrev pub moved_lists : List (List Cluster) → List (List Cluster)
  moved_lists lists = map (λ list. map (moved_cluster d) list) lists

  list-moved : (lists : List (List Cluster)) (k : ℕ) → list_at (moved_lists lists) k ≡ map (moved_cluster d) (list_at lists k)
  list-moved lists k = get_or-map (λ (list : List Cluster). map (moved_cluster d) list) lists k []

  next-moved : (lists : List (List Cluster)) (left : List ℕ) (k : ℕ) → next_cluster (moved_lists lists) left k ≡ option_map (moved_cluster d) (next_cluster lists left k)
  next-moved lists left k =
      ap (λ (l : List Cluster). slice_get l (length l - slice_index left k)) (list-moved lists k)
      ∙ ap (λ n. slice_get (map (moved_cluster d) (list_at lists k)) (n - slice_index left k)) (length-map (list_at lists k) (moved_cluster d))
      ∙ slice_get-map (moved_cluster d) (list_at lists k) (length (list_at lists k) - slice_index left k)

  abbrev moved_timed : List Served × Head → List Served × Head
  moved_timed t = (map (moved_served d) t.0, moved_head d t.1)

  from-timed : (plan : List Phase) (lists : List (List Cluster)) (left : List ℕ) (head : Head) (ks : List ℕ) → timed_from plan (moved_lists lists) left (moved_head d head) ks ≡ option_map moved_timed (timed_from plan lists left head ks)
  from-timed plan lists left head [] = pick (sum left == 0)
    where
      pick : (b : Bool) → (if b then Some ([], moved_head d head) else None) ≡ option_map moved_timed (if b then Some ([], head) else None)
      pick true = refl
      pick false = refl
  from-timed plan lists left head (k ∷ ks) =
      ap (λ o. o >>= λ c. result_ok (serving plan (moved_head d head) k c) >>= λ served. timed_from plan (moved_lists lists) (one_less left k) served.1 ks >>= λ rest. Some (served.0 ∷ rest.0, rest.1)) (next-moved lists left k)
      ∙ of (next_cluster lists left k) (λ h. from-timed plan lists (one_less left k) h ks)
    where
      rests : (served : Served × Head) (o : Option (List Served × Head)) → (option_map moved_timed o >>= λ rest. Some (moved_served d served.0 ∷ rest.0, rest.1)) ≡ option_map moved_timed (o >>= λ rest. Some (served.0 ∷ rest.0, rest.1))
      rests served None = refl
      rests served (Some rest) = refl

      serves : ((h : Head) → timed_from plan (moved_lists lists) (one_less left k) (moved_head d h) ks ≡ option_map moved_timed (timed_from plan lists (one_less left k) h ks)) → (r : Result (Served × Head) Unfit)
          → (result_ok (moved_result r) >>= λ served. timed_from plan (moved_lists lists) (one_less left k) served.1 ks >>= λ rest. Some (served.0 ∷ rest.0, rest.1))
          ≡ option_map moved_timed (result_ok r >>= λ served. timed_from plan lists (one_less left k) served.1 ks >>= λ rest. Some (served.0 ∷ rest.0, rest.1))
      serves next (Err e) = refl
      serves next (Ok served) = ap (λ o. o >>= λ rest. Some (moved_served d served.0 ∷ rest.0, rest.1)) (next served.1) ∙ rests served (timed_from plan lists (one_less left k) served.1 ks)

      of : (o : Option Cluster) → ((h : Head) → timed_from plan (moved_lists lists) (one_less left k) (moved_head d h) ks ≡ option_map moved_timed (timed_from plan lists (one_less left k) h ks))
          → (option_map (moved_cluster d) o >>= λ c. result_ok (serving plan (moved_head d head) k c) >>= λ served. timed_from plan (moved_lists lists) (one_less left k) served.1 ks >>= λ rest. Some (served.0 ∷ rest.0, rest.1))
          ≡ option_map moved_timed (o >>= λ c. result_ok (serving plan head k c) >>= λ served. timed_from plan lists (one_less left k) served.1 ks >>= λ rest. Some (served.0 ∷ rest.0, rest.1))
      of None next = refl
      of (Some c) next = ap (λ r. result_ok r >>= λ served. timed_from plan (moved_lists lists) (one_less left k) served.1 ks >>= λ rest. Some (served.0 ∷ rest.0, rest.1)) (serving-moved plan head k c) ∙ serves next (serving plan head k c)

  counts-moved : (lists : List (List Cluster)) → counts_of (moved_lists lists) ≡ counts_of lists
  counts-moved [] = refl
  counts-moved (list ∷ lists) = λ i. length-map list (moved_cluster d) i ∷ counts-moved lists i

  timed-moved : (p : Problem) (s : List ℕ) → timed (moved_problem d p) s ≡ option_map moved_timed (timed p s)
  timed-moved p s = ap (λ left. timed_from p.plan (moved_lists p.lists) left (moved_head d p.head) s) (counts-moved p.lists) ∙ from-timed p.plan p.lists (counts_of p.lists) p.head s

  costs-moved : (ss : List Served) → total_cost (map (moved_served d) ss) ≡ total_cost ss
  costs-moved [] = refl
  costs-moved (s ∷ ss) = sum_by-cons (λ (x : Served). x.cost) (moved_served d s) (map (moved_served d) ss) ∙ ap (λ n. s.cost + n) (costs-moved ss) ∙ sym (sum_by-cons (λ (x : Served). x.cost) s ss)

  delay-moved : (p : Problem) (s : List ℕ) → delay_of (moved_problem d p) s ≡ delay_of p s
  delay-moved p s = ap (option_map (λ (t : List Served × Head). total_cost t.0)) (timed-moved p s) ∙ by (timed p s)
    where
      by : (o : Option (List Served × Head)) → option_map (λ (t : List Served × Head). total_cost t.0) (option_map moved_timed o) ≡ option_map (λ (t : List Served × Head). total_cost t.0) o
      by None = refl
      by (Some t) = ap Some (costs-moved t.0)

  -- the best answer is the same
  pub best-moved : (p : Problem) (answer : Answer) → IsBest p answer → IsBest (moved_problem d p) answer
  best-moved p (Plan sequence delay) is = record {
    feasible = delay-moved p sequence ∙ is.feasible;
    before = is.before;
    after = is.after;
    among = ap orders (counts-moved p.lists) ∙ is.among;
    first = All-weaker (λ s. IfSome (delay_of p s) (λ n. delay < n)) (λ s. IfSome (delay_of (moved_problem d p) s) (λ n. delay < n)) (λ s h. subst (λ o. IfSome o (λ n. delay < n)) (sym (delay-moved p s)) h) is.before is.first;
    least = All-weaker (λ s. IfSome (delay_of p s) (λ n. delay ≤ n)) (λ s. IfSome (delay_of (moved_problem d p) s) (λ n. delay ≤ n)) (λ s h. subst (λ o. IfSome o (λ n. delay ≤ n)) (sym (delay-moved p s)) h) is.after is.least;
  }
  best-moved p NoPlan is = subst (All (λ s. delay_of (moved_problem d p) s ≡ None)) (sym (ap orders (counts-moved p.lists)))
      (All-weaker (λ s. delay_of p s ≡ None) (λ s. delay_of (moved_problem d p) s ≡ None) (λ s none. delay-moved p s ∙ none) (orders (counts_of p.lists)) is)

  pub served-by-moved : (p : Problem) (answer : Answer) (served : List Served) → AreServedBy p answer served → AreServedBy (moved_problem d p) answer (map (moved_served d) served)
  served-by-moved p (Plan sequence delay) served are = ap (option_map (λ (t : List Served × Head). t.0)) (timed-moved p sequence) ∙ by (timed p sequence) are
    where
      by : (o : Option (List Served × Head)) → option_map (λ (t : List Served × Head). t.0) o ≡ Some served → option_map (λ (t : List Served × Head). t.0) (option_map moved_timed o) ≡ Some (map (moved_served d) served)
      by None e = absurd (none-some served e)
      by (Some t) e = ap (λ l. Some (map (moved_served d) l)) (same_Some t.0 served e)
  served-by-moved p NoPlan served none = ap (map (moved_served d)) none
