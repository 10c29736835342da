-- How long an instance's text is.
use Rattle.std.specs.Prelude.{codes}
use Rattle.std.proofs.Common.{◌≡◌, ℕ, ◌+◌, ◌*◌, ◌^◌, ◌<◌, ◌≤◌, suc, Bool, true, false, List, [], ◌∷◌, ◌++◌, length, map, sum_by, All, length-append, lit≤, arith}
use Rattle.std.specs.List.{flat_map, concat, join_with_byte}
use Rattle.std.specs.Fmt.{decimal}
use Rattle.std.proofs.lemmas.Fmt.{length-decimal-le}
use Rattle.std.proofs.lemmas.List.Concat.{length-flat_map}
use Rattle.std.proofs.lemmas.List.Sums.{sum_by-le, sum_by-cons}
use Rattle.phase_plan.specs.Phases.{HasU32Times}
use Rattle.phase_plan.specs.declared.Marks.{Marks}
use Rattle.phase_plan.specs.declared.Phase.{Phase}
use Rattle.switch_rules.specs.declared.Head.{Head}
use Rattle.switch_rules.specs.declared.Cluster.{Cluster}
use Rattle.instance_form.specs.declared.form.Version.{Version}
use Rattle.instance_form.specs.declared.form.Version.TheVariants.{One, Two, Three, Four, Five}
use Rattle.instance_form.specs.InstanceText.{line, version_of, first_line, count_line, mark, phase_numbers, phase_line, freshness, head_line, cluster_numbers, cluster_line, cluster_lines, form_text, whole_text, IsWritableHead, IsWritableCluster, HasText}
use Rattle.instance_form.specs.Lengths.{most_cluster_bytes, most_other_bytes}

-- no word has more than ten bytes
abbrev AreShort : List (List ℕ) → Type 0
AreShort [] = Unit {0}
AreShort (word ∷ words) = (length word ≤ 10) × AreShort words

joined-le : (words : List (List ℕ)) → AreShort words → length (join_with_byte 32 words) ≤ 11 * length words
joined-le [] short = omega arith
joined-le (word ∷ []) short = let first = short.0 in omega arith
joined-le (word ∷ next ∷ words) short =
    let first = short.0 in
    omega (arith, length-append word (32 ∷ join_with_byte 32 (next ∷ words)), joined-le (next ∷ words) short.1)

line-le : (words : List (List ℕ)) → AreShort words → length (line words) ≤ 11 * length words + 1
line-le words short = omega (arith, length-append (join_with_byte 32 words) (10 ∷ []), joined-le words short)

digits-le : (n : ℕ) → n < 2 ^ 32 → length (decimal n) ≤ 10
digits-le n small = length-decimal-le 10 n (omega arith) (omega arith) (omega arith)

mark-le : (skip : Bool) → length (mark skip) ≤ 10
mark-le true = lit≤ tt
mark-le false = lit≤ tt

times-short : (p : Phase) (ends : List (List ℕ)) → HasU32Times p → AreShort ends → AreShort (codes "phase" ∷ (map decimal (phase_numbers p) ++ ends))
times-short p ends h short = (lit≤ tt, (digits-le p.least h.least, (digits-le p.greatest h.greatest, (digits-le p.yellow h.yellow, (digits-le p.clear h.clear, (digits-le p.loss h.loss, (digits-le p.wait h.wait, short)))))))

phase_line-le : (v : Version) (p : Phase) → HasU32Times p → length (phase_line v p) ≤ 89
phase_line-le One p h = omega (arith, line-le (codes "phase" ∷ map decimal (phase_numbers p)) (times-short p [] h tt))
phase_line-le Two p h = line-le (codes "phase" ∷ (map decimal (phase_numbers p) ++ mark p.skip ∷ [])) (times-short p (mark p.skip ∷ []) h (mark-le p.skip, tt))
phase_line-le Three p h = line-le (codes "phase" ∷ (map decimal (phase_numbers p) ++ mark p.skip ∷ [])) (times-short p (mark p.skip ∷ []) h (mark-le p.skip, tt))
phase_line-le Four p h = line-le (codes "phase" ∷ (map decimal (phase_numbers p) ++ mark p.skip ∷ [])) (times-short p (mark p.skip ∷ []) h (mark-le p.skip, tt))
phase_line-le Five p h = line-le (codes "phase" ∷ (map decimal (phase_numbers p) ++ mark p.skip ∷ [])) (times-short p (mark p.skip ∷ []) h (mark-le p.skip, tt))

fresh-le : (b : Bool) → length (freshness b) ≤ 10
fresh-le true = lit≤ tt
fresh-le false = lit≤ tt

count_line-le : (n : ℕ) → n < 2 ^ 32 → length (count_line n) ≤ 23
count_line-le n h = line-le (codes "phases" ∷ decimal n ∷ []) (lit≤ tt, (digits-le n h, tt))

head_line-le : (h : Head) → IsWritableHead h → length (head_line h) ≤ 56
head_line-le h fits = line-le (codes "head" ∷ decimal h.phase ∷ decimal h.since ∷ decimal h.at ∷ freshness h.fresh ∷ [])
    (lit≤ tt, (digits-le h.phase (omega (arith, fits.phase)), (digits-le h.since fits.since, (digits-le h.at fits.at, (fresh-le h.fresh, tt)))))

span-short : (c : Cluster) → IsWritableCluster c → AreShort (map decimal (c.arr ∷ c.len ∷ []))
span-short c h = (digits-le c.arr h.arr, (digits-le c.len h.len, tt))

cluster_line-le : (v : Version) (k : ℕ) (c : Cluster) → k < 2 ^ 32 → IsWritableCluster c → length (cluster_line v k c) ≤ most_cluster_bytes
cluster_line-le One k c small h = omega (arith, line-le (codes "cluster" ∷ map decimal (k ∷ cluster_numbers One c)) (lit≤ tt, (digits-le k small, (digits-le c.size h.size, span-short c h))))
cluster_line-le Two k c small h = omega (arith, line-le (codes "cluster" ∷ map decimal (k ∷ cluster_numbers Two c)) (lit≤ tt, (digits-le k small, (digits-le c.size h.size, span-short c h))))
cluster_line-le Three k c small h = line-le (codes "cluster" ∷ map decimal (k ∷ cluster_numbers Three c)) (lit≤ tt, (digits-le k small, (digits-le c.size h.size, (digits-le c.load h.load, span-short c h))))
cluster_line-le Four k c small h = line-le (codes "cluster" ∷ map decimal (k ∷ cluster_numbers Four c)) (lit≤ tt, (digits-le k small, (digits-le c.size h.size, (digits-le c.load h.load, span-short c h))))
cluster_line-le Five k c small h = line-le (codes "cluster" ∷ map decimal (k ∷ cluster_numbers Five c)) (lit≤ tt, (digits-le k small, (digits-le c.size h.size, (digits-le c.load h.load, span-short c h))))

phase_lines-le : (v : Version) (plan : List Phase) → All HasU32Times plan → length (flat_map (phase_line v) plan) ≤ length plan * 89
phase_lines-le v plan fits =
    omega (arith, length-flat_map (phase_line v) plan, sum_by-le (λ p. length (phase_line v p)) 89 plan (λ i d inside. phase_line-le v _ (fits i d inside)))

list_lines-le : (v : Version) (k : ℕ) (list : List Cluster) → k < 2 ^ 32 → All IsWritableCluster list → length (flat_map (cluster_line v k) list) ≤ length list * most_cluster_bytes
list_lines-le v k list small fits =
    omega (arith, length-flat_map (cluster_line v k) list, sum_by-le (λ c. length (cluster_line v k c)) most_cluster_bytes list (λ i d inside. cluster_line-le v k _ small (fits i d inside)))

cluster_lines-le : (v : Version) (k : ℕ) (lists : List (List Cluster)) → k + length lists < 2 ^ 32 → All (All IsWritableCluster) lists → length (cluster_lines v k lists) ≤ most_cluster_bytes * sum_by (λ list. length list) lists
cluster_lines-le v k [] small fits = omega arith
cluster_lines-le v k (list ∷ lists) small fits =
    omega (
      arith,
      length-append (flat_map (cluster_line v k) list) (cluster_lines v (k + 1) lists),
      sum_by-cons (λ (list : List Cluster). length list) list lists,
      list_lines-le v k list (omega arith) (fits 0 [] (omega arith)),
      cluster_lines-le v (k + 1) lists (omega arith) (λ i d inside. fits (suc i) d (omega arith)),
    )

first_line-le : (v : Version) → length (first_line v) ≤ 12
first_line-le One = lit≤ tt
first_line-le Two = lit≤ tt
first_line-le Three = lit≤ tt
first_line-le Four = lit≤ tt
first_line-le Five = lit≤ tt

added : (opening count phases head clusters closing n c : ℕ) → opening ≤ 12 → count ≤ 23 → phases ≤ n * 89 → head ≤ 56 → clusters ≤ most_cluster_bytes * c → closing ≤ 4 → n ≤ 4
    → opening + (count + (phases + (head + (clusters + (closing + 0))))) ≤ most_cluster_bytes * c + most_other_bytes
added opening count phases head clusters closing n c a b d e f g h = omega arith

six : (a b c d e f : List ℕ) → length (concat (a ∷ b ∷ c ∷ d ∷ e ∷ f ∷ [])) ≡ length a + (length b + (length c + (length d + (length e + (length f + 0)))))
six a b c d e f = simp length-append

-- how many bytes a text has at most
pub text-le : (marks : Marks) (plan : List Phase) (h : Head) (lists : List (List Cluster)) → HasText plan h lists → length (whole_text marks plan h lists) ≤ most_cluster_bytes * sum_by (λ list. length list) lists + most_other_bytes
unfolding whole_text form_text
text-le marks plan h lists fits =
    let v = version_of marks plan lists in
    let few : length plan ≤ 4 = fits.count.1 in
    omega (
      arith,
      six (first_line v) (count_line (length plan)) (flat_map (phase_line v) plan) (head_line h) (cluster_lines v 0 lists) (line (codes "end" ∷ [])),
      added (length (first_line v)) (length (count_line (length plan))) (length (flat_map (phase_line v) plan)) (length (head_line h)) (length (cluster_lines v 0 lists)) 4 (length plan) (sum_by (λ list. length list) lists)
          (first_line-le v) (count_line-le (length plan) (omega arith)) (phase_lines-le v plan fits.phases) (head_line-le h fits.head) (cluster_lines-le v 0 lists (omega (arith, fits.each)) fits.clusters) (lit≤ tt) few,
    )
