use Rattle.std.proofs.Common.{◌≡◌, ◌≢◌, ◌==◌, ◌∙◌, ℕ, true, false, cond, count_by, refl, ◌+◌, ◌*◌, ◌^◌, ◌<◌, ◌≤◌, Bool, List, [], ◌∷◌, ◌++◌, length, map, sum, sum_by, get_or, All, Result, Ok, Err, IfOk, sym, ap, subst, length-append, zero, suc, arith}
use Rattle.std.specs.List.{flat_map, concat, join_with_byte}
use Rattle.std.specs.Fmt.{decimal}
use Rattle.std.specs.Prelude.{codes}
use Rattle.std.proofs.lemmas.List.Concat.{flat_map-cons}
use Rattle.std.proofs.lemmas.Bool.{eqb-false, eqb-true, ne_eqb}
use Rattle.std.proofs.lemmas.List.Sums.{sum-map}
use Rattle.phase_plan.specs.declared.Marks.{Marks}
use Rattle.phase_plan.specs.declared.Marks.TheVariants as marked
use Rattle.phase_plan.specs.declared.Phase.{Phase}
use Rattle.switch_rules.specs.declared.Head.{Head}
use Rattle.switch_rules.specs.declared.Cluster.{Cluster}
use Rattle.instance_form.specs.declared.form.Version.{Version}
use Rattle.instance_form.specs.InstanceText.{version_of, line, first_line, count_line, phase_line, head_line, cluster_numbers, cluster_line, cluster_lines, form_text, instance_text, whole_text, HasText, IsMarkedWhere, IsWritableCluster}
use Rattle.phase_plan.specs.Phases.{HasU32Times, IsPhase, IsRing, is_unmarked, marks_of, no_phase}
use Rattle.switch_rules.specs.Serving.{IsCluster}
use Rattle.instance_form.specs.Lengths.{most_cluster_bytes, most_other_bytes}
use Rattle.instance_form.proofs.LengthLaws.{text-le}
use Rattle.schedule_meaning.specs.Instances.{Problem, IsInstance, counts_of}
use Rattle.schedule_meaning.specs.Texts.{IsInstanceText, IsPlanWhere}

-- a list is no longer than what has at least one element for each of its own
longer-flat_map : {X A : Type 0} (f : X → List A) → ((x : X) → 1 ≤ length (f x)) → (xs : List X) → length xs ≤ length (flat_map f xs)
longer-flat_map f h [] = omega arith
longer-flat_map f h (x ∷ xs) = omega (arith, ap length (flat_map-cons f x xs), length-append (f x) (flat_map f xs), h x, longer-flat_map f h xs)

line-some : (words : List (List ℕ)) → 1 ≤ length (line words)
line-some words = omega (arith, length-append (join_with_byte 32 words) (10 ∷ []))

-- each cluster has a line, so a list is no longer than the text
lists-le-lines : (v : Version) (k : ℕ) (lists : List (List Cluster)) (i : ℕ) (d : List Cluster) → i < length lists → length (get_or lists i d) ≤ length (cluster_lines v k lists)
lists-le-lines v k [] i d h = absurd (omega arith)
lists-le-lines v k (list ∷ lists) zero d h =
    omega (arith, length-append (flat_map (cluster_line v k) list) (cluster_lines v (k + 1) lists), longer-flat_map (cluster_line v k) (λ c. line-some (codes "cluster" ∷ map decimal (k ∷ cluster_numbers v c))) list)
lists-le-lines v k (list ∷ lists) (suc i) d h =
    omega (arith, length-append (flat_map (cluster_line v k) list) (cluster_lines v (k + 1) lists), lists-le-lines v (k + 1) lists i d (omega arith))

longer-concat : (before : List (List ℕ)) (xs : List ℕ) (after : List (List ℕ)) → length xs ≤ length (concat (before ++ xs ∷ after))
longer-concat [] xs after = omega (arith, length-append xs (concat after))
longer-concat (b ∷ before) xs after = omega (arith, length-append b (concat (before ++ xs ∷ after)), longer-concat before xs after)

below : (a b c d n : ℕ) → a ≤ b → b ≤ c → d ≡ c → d < n → a < n
below a b c d n f g e h = omega arith

pub lists-below-text : (marks : Marks) (plan : List Phase) (h : Head) (lists : List (List Cluster)) (bytes : List ℕ) → bytes ≡ whole_text marks plan h lists → length bytes < 2 ^ 32 → All (λ list. length list < 2 ^ 32) lists
unfolding whole_text form_text
lists-below-text marks plan h lists bytes e short = λ i d inside.
    let v = version_of marks plan lists in
    below (length (get_or lists i d)) (length (cluster_lines v 0 lists)) (length (whole_text marks plan h lists)) (length bytes) (2 ^ 32) (lists-le-lines v 0 lists i d inside)
    (longer-concat (first_line v ∷ count_line (length plan) ∷ flat_map (phase_line v) plan ∷ head_line h ∷ []) (cluster_lines v 0 lists) (line (codes "end" ∷ []) ∷ []))
    (ap length e) short

-- as many phases of a plan are marked as are said to be
pub marks-are : (marks : Marks) (plan : List Phase) → IsMarkedWhere marks plan → IsPlanWhere marks plan → marks_of plan ≡ marks
marks-are marked.All plan ring law = ap (λ (b : Bool). cond b marked.All (cond (count_by is_unmarked plan == 1) marked.AllButOne marked.Fewer)) (ring refl)
marks-are marked.AllButOne plan ring law = ap (λ (n : ℕ). cond (n == 0) marked.All (cond (n == 1) marked.AllButOne marked.Fewer)) law.marks
marks-are marked.Fewer plan ring law =
    ap (λ (b : Bool). cond b marked.All (cond (count_by is_unmarked plan == 1) marked.AllButOne marked.Fewer)) (ne_eqb (count_by is_unmarked plan) 0 (λ e. omega (arith, law.ring, e)))
    ∙ ap (λ (b : Bool). cond b marked.AllButOne marked.Fewer) (ne_eqb (count_by is_unmarked plan) 1 (λ e. omega (arith, law.ring, e)))

-- and the plan of an instance is one with its marks
pub plan-where : (plan : List Phase) → IsRing plan → IsPlanWhere (marks_of plan) plan
plan-where plan law = by (count_by is_unmarked plan == 0) (count_by is_unmarked plan == 1) refl refl
  where
    by : (all but_one : Bool) → (count_by is_unmarked plan == 0) ≡ all → (count_by is_unmarked plan == 1) ≡ but_one → IsPlanWhere (cond all marked.All (cond but_one marked.AllButOne marked.Fewer)) plan
    by true but_one e f = record { ring = law; marks = λ one. omega (arith, eqb-true (count_by is_unmarked plan) 0 e, one) }
    by false true e f = record { ring = law; marks = eqb-true (count_by is_unmarked plan) 1 f }
    by false false e f =
        let some : count_by is_unmarked plan ≢ 0 = eqb-false (count_by is_unmarked plan) 0 e in
        let others : count_by is_unmarked plan ≢ 1 = eqb-false (count_by is_unmarked plan) 1 f in
        record { count = law.count; phases = law.phases; ring = omega arith }

pub form-plan : (marks : Marks) (plan : List Phase) (p : Problem) → marks ≡ marks_of p.plan → plan ≡ p.plan → IsInstance p → IsPlanWhere marks plan
form-plan marks plan p said same law = subst (λ (m : Marks). IsPlanWhere m plan) (sym said) (subst (IsPlanWhere (marks_of p.plan)) (sym same) (plan-where p.plan law.plan))

-- an instance has a text

phase-fits : (p : Phase) → IsPhase p → HasU32Times p
phase-fits p h = record {
  least = omega (arith, h.least);
  greatest = omega (arith, h.greatest);
  yellow = omega (arith, h.yellow);
  clear = omega (arith, h.clear);
  loss = omega (arith, h.loss);
  wait = omega (arith, h.wait);
}

cluster-fits : (c : Cluster) → IsCluster c → IsWritableCluster c
cluster-fits c h = record { size = omega (arith, h.size); load = omega (arith, h.size, h.load); arr = omega (arith, h.arr); len = omega (arith, h.len) }

pub has-text : (p : Problem) → IsInstance p → HasText p.plan p.head p.lists
has-text p h = record {
  count = h.plan.count;
  each = h.lists;
  phases = λ i d inside. phase-fits (get_or p.plan i d) (h.plan.phases i d inside);
  head = record { phase = omega (arith, h.head.phase, h.plan.count); since = omega (arith, h.since); at = omega (arith, h.head.within, h.since, (h.plan.phases p.head.phase no_phase h.head.phase).greatest) };
  clusters = λ i d inside. λ j e within. cluster-fits (get_or (get_or p.lists i d) j e) (h.clusters i d inside j e within);
}

-- the text of an instance has fewer than 2^32 bytes
short-text : (bytes : List ℕ) (p : Problem) → IsInstanceText bytes p → sum (counts_of p.lists) ≤ 40 → length bytes < 2 ^ 32
short-text bytes p is_text few =
    fits (length bytes) (length (instance_text p.plan p.head p.lists)) (sum_by (λ list. length list) p.lists) (sum (counts_of p.lists)) (ap length is_text.1) (text-le (marks_of p.plan) p.plan p.head p.lists is_text.0) (sum-map length p.lists) few
  where
    fits : (n m c s : ℕ) → n ≡ m → m ≤ most_cluster_bytes * c + most_other_bytes → s ≡ c → s ≤ 40 → n < 2 ^ 32
    fits n m c s e f g h = omega arith

pub short-texts : {X E : Type 0} (bytes : X → List ℕ) (p : Problem) (r : Result X E) → IfOk r (λ x. IsInstanceText (bytes x) p) → sum (counts_of p.lists) ≤ 40 → IfOk r (λ x. length (bytes x) < 2 ^ 32)
short-texts bytes p (Ok x) is_text few = short-text (bytes x) p is_text few
short-texts bytes p (Err e) is_text few = tt
