-- How each text goes on after what was read.
use Rattle.std.proofs.Common.{◌≡◌, ℕ, zero, suc, ◌+◌, ◌^◌, ◌<◌, ◌≤◌, ◌⊎◌, List, [], ◌∷◌, ◌++◌, length, Some, None, refl, sym, ap, subst, ◌∙◌, inl, inr, append_assoc, length-append, arith}
use Rattle.std.specs.Prelude.{codes}
use Rattle.std.specs.List.{flat_map, AllByRecursion}
use Rattle.std.proofs.lemmas.Option.{same_Some}
use Rattle.foundation.proofs.OptionLaws.{none-and-some}
use Rattle.foundation.proofs.ResultLaws.{same_Ok}
use Rattle.text_lines.specs.Many.{many_at}
use Rattle.text_lines.proofs.ManyLaws.{many_rest}
use Rattle.phase_plan.specs.declared.Marks.{Marks}
use Rattle.phase_plan.specs.declared.Phase.{Phase}
use Rattle.switch_rules.specs.declared.Head.{Head}
use Rattle.switch_rules.specs.declared.Cluster.{Cluster}
use Rattle.instance_form.specs.declared.form.Version.{Version}
use Rattle.instance_form.specs.Faults.{BeginsFront}
use Rattle.instance_form.specs.InstanceText.{version_of, first_line, count_line, phase_line, head_line, cluster_line, cluster_lines, whole_text, HasText}
use Rattle.instance_form.specs.Lines.{version_line_at, phase_line_at, cluster_line_at}
use Rattle.instance_form.specs.Reading.{opening_at, phases_at, lists_at}
use Rattle.instance_form.proofs.LineLaws.{IsSaidPhase, IsSaidCluster, version_again, phase_again, cluster_takes, cluster_again, cluster_other, cluster_end}
use Rattle.instance_form.proofs.VersionLaws.{Says, says_own}
use Rattle.instance_form.proofs.FormLaws.{opening_again, phases_again, clusters_take, later_lines, regrouped_form}
use Rattle.instance_form.proofs.Begins.{opening, opening-append}

-- the lines after the first two
abbrev pub after_count : Version → List Phase → Head → List (List Cluster) → List ℕ → List ℕ
after_count v plan h lists after = flat_map (phase_line v) plan ++ (head_line h ++ (cluster_lines v 0 lists ++ (codes "end\n" ++ after)))

-- a text line by line, in its own version
pub own_lines : (marks : Marks) (plan : List Phase) (h : Head) (lists : List (List Cluster)) (after : List ℕ) → whole_text marks plan h lists ++ after ≡ first_line (version_of marks plan lists) ++ (count_line (length plan) ++ after_count (version_of marks plan lists) plan h lists after)
unfolding whole_text
own_lines marks plan h lists after = regrouped_form (version_of marks plan lists) plan h lists after

-- after the first line: the text has this version
pub after_version : (v : Version) (g : BeginsFront (first_line v)) → (version_of g.marks g.plan g.lists ≡ v) × (count_line (length g.plan) ++ after_count (version_of g.marks g.plan g.lists) g.plan g.head g.lists g.after ≡ g.rest)
after_version v g =
    let w = version_of g.marks g.plan g.lists in
    let tail = count_line (length g.plan) ++ after_count w g.plan g.head g.lists g.after in
    let same = same_Some (w, tail) (v, g.rest) (sym (version_again w tail) ∙ ap version_line_at (sym (own_lines g.marks g.plan g.head g.lists g.after) ∙ g.text) ∙ version_again v g.rest) in
    (ap (λ (p : Version × List ℕ). p.0) same, ap (λ (p : Version × List ℕ). p.1) same)

-- after the opening: its phases are as many, and the rest is what follows
pub record AfterOpening (v : Version) (n : ℕ) (T : List ℕ) : Type 0 where
  pub plan : List Phase
  pub head : Head
  pub lists : List (List Cluster)
  pub after : List ℕ
  pub fits : HasText plan head lists
  pub says : Says v plan lists
  pub len : length plan ≡ n
  pub text : after_count v plan head lists after ≡ T

pub after_opening : (v : Version) (n : ℕ) (g : BeginsFront (opening v n)) → 2 ≤ n → n ≤ 4 → AfterOpening v n g.rest
after_opening v n g low high =
    let w = version_of g.marks g.plan g.lists in
    let tail : Version → List ℕ = λ u. after_count u g.plan g.head g.lists g.after in
    let e : first_line w ++ (count_line (length g.plan) ++ tail w) ≡ first_line v ++ (count_line n ++ g.rest) = sym (own_lines g.marks g.plan g.head g.lists g.after) ∙ g.text ∙ opening-append v n g.rest in
    let same = same_Ok (w, length g.plan, tail w) (v, n, g.rest)
    (sym (opening_again w 0 (length g.plan) (tail w) g.fits.count.0 g.fits.count.1) ∙ ap (opening_at 0) e ∙ opening_again v 0 n g.rest low high) in
    let is : w ≡ v = ap (λ (p : Version × ℕ × List ℕ). p.0) same in
    record {
      plan = g.plan;
      head = g.head;
      lists = g.lists;
      after = g.after;
      fits = g.fits;
      says = subst (λ u. Says u g.plan g.lists) is (says_own g.marks g.plan g.head g.lists g.fits g.ring);
      len = ap (λ (p : Version × ℕ × List ℕ). p.1) same;
      text = ap tail (sym is) ∙ ap (λ (p : Version × ℕ × List ℕ). p.2) same;
    }

-- the same text, seen from a part of its front on
abbrev pub seen_from : (A T : List ℕ) (F : List ℕ) (g : BeginsFront F) → F ++ g.rest ≡ A ++ T → BeginsFront A
seen_from A T F g e = record { marks = g.marks; plan = g.plan; head = g.head; lists = g.lists; after = g.after; rest = T; fits = g.fits; ring = g.ring; text = g.text ∙ e }

-- the same after what follows the opening
pub after_more : (v : Version) (n : ℕ) (X : List ℕ) (g : BeginsFront (opening v n ++ X)) → 2 ≤ n → n ≤ 4 → AfterOpening v n (X ++ g.rest)
after_more v n X g low high = after_opening v n (seen_from (opening v n) (X ++ g.rest) (opening v n ++ X) g (append_assoc (opening v n) X g.rest)) low high

-- the next phase of a text that has more than these
pub record NextPhase (v : Version) (ps qs : List Phase) (T : List ℕ) : Type 0 where
  pub phase : Phase
  pub more : List Phase
  pub after : List ℕ
  pub said : IsSaidPhase v phase
  pub parts : T ≡ phase_line v phase ++ after
  pub whole : qs ≡ ps ++ phase ∷ more

pub next_phase : (v : Version) (ps qs : List Phase) (tail T : List ℕ) → length ps < length qs → AllByRecursion (IsSaidPhase v) ps → AllByRecursion (IsSaidPhase v) qs → flat_map (phase_line v) qs ++ tail ≡ flat_map (phase_line v) ps ++ T
    → NextPhase v ps qs T
next_phase v ps [] tail T few said all e = absurd (omega arith)
next_phase v [] (q ∷ qs) tail T few said all e =
    record { phase = q; more = qs; after = flat_map (phase_line v) qs ++ tail; said = all.0; parts = sym e ∙ append_assoc (phase_line v q) (flat_map (phase_line v) qs) tail; whole = refl }
next_phase v (p ∷ ps) (q ∷ qs) tail T few said all e =
    let A = flat_map (phase_line v) ps ++ T in
    let B = flat_map (phase_line v) qs ++ tail in
    let joined : phase_line v q ++ B ≡ phase_line v p ++ A = sym (append_assoc (phase_line v q) (flat_map (phase_line v) qs) tail) ∙ e ∙ append_assoc (phase_line v p) (flat_map (phase_line v) ps) T in
    let same = same_Some (q, B) (p, A) (sym (phase_again v q B all.0) ∙ ap (phase_line_at v) joined ∙ phase_again v p A said.0) in
    let is : q ≡ p = ap (λ (x : Phase × List ℕ). x.0) same in
    let next = next_phase v ps qs tail T (omega arith) said.1 all.1 (ap (λ (x : Phase × List ℕ). x.1) same) in
    let whole = next.whole in
    record { phase = next.phase; more = next.more; after = next.after; said = next.said; parts = next.parts; whole = cc }

-- after all phases
pub after_phases : (v : Version) (n : ℕ) (ps : List Phase) (T : List ℕ) → AllByRecursion (IsSaidPhase v) ps → length ps ≡ n → (a : AfterOpening v n (flat_map (phase_line v) ps ++ T))
    → head_line a.head ++ (cluster_lines v 0 a.lists ++ (codes "end\n" ++ a.after)) ≡ T
after_phases v n ps T said len a =
    let tail = head_line a.head ++ (cluster_lines v 0 a.lists ++ (codes "end\n" ++ a.after)) in
    let count : length a.plan ≡ length ps = a.len ∙ sym len in
    let same = same_Ok (a.plan, tail) (ps, T)
    (sym (phases_again v a.plan 0 tail a.says.phases) ∙ ap (λ k. phases_at v k 0 (flat_map (phase_line v) a.plan ++ tail)) count ∙ ap (phases_at v (length ps) 0) a.text ∙ phases_again v ps 0 T said) in
    ap (λ (x : List Phase × List ℕ). x.1) same

-- ---- how the clusters go on

-- lists that were read from bytes, each up to where none of its phase follows
abbrev pub Reads : Version → ℕ → List ℕ → List (List Cluster) → List ℕ → Type 0
Reads v k bytes [] R = bytes ≡ R
Reads v k bytes (cs ∷ ls) R = (mid : List ℕ) × (bytes ≡ flat_map (cluster_line v k) cs ++ mid) × (cluster_line_at v k mid ≡ None) × Reads v (k + 1) mid ls R

shorter : (v : Version) (k : ℕ) (bytes : List ℕ) (x : Cluster × List ℕ) → cluster_line_at v k bytes ≡ Some x → length x.1 < length bytes
shorter v k bytes x h =
    let t = cluster_takes v k bytes x h in
    let joined = length-append (cluster_line v k x.0) x.1 in
    omega (arith, ap length t.spelled, joined)

-- reading of one phase's clusters stops only where none follows
stops : (v : Version) (most k : ℕ) (bytes : List ℕ) → length bytes ≤ most → cluster_line_at v k (many_at (cluster_line_at v k) most bytes).1 ≡ None
stops v most k bytes le = many_rest (cluster_line_at v k) (shorter v k) most bytes le

pub lists_read : (v : Version) (n k : ℕ) (bytes : List ℕ) → Reads v k bytes (lists_at v n k bytes).0 (lists_at v n k bytes).1
unfolding lists_at
lists_read v zero k bytes = refl
lists_read v (suc n) k bytes =
    let list = many_at (cluster_line_at v k) (length bytes) bytes in
    (list.1, (clusters_take v (length bytes) k bytes).spelled, stops v (length bytes) k bytes (omega arith), lists_read v n (k + 1) list.1)

-- a cluster's line of an earlier phase is followed by no later phase's
only_empty : (v : Version) (k j : ℕ) (ls : List (List Cluster)) (mid R T : List ℕ) (c : Cluster) (t : List ℕ) → k < j → j + length ls ≤ 2 ^ 8 → IsSaidCluster v c → Reads v j mid ls R → cluster_lines v j ls ++ T ≡ cluster_line v k c ++ t
    → (mid ≡ R) × (T ≡ cluster_line v k c ++ t)
only_empty v k j [] mid R T c t lt few said read e = (read, e)
only_empty v k j ([] ∷ ls) mid R T c t lt few said read e =
    let more = only_empty v k (j + 1) ls read.0 R T c t (omega arith) (omega arith) said read.3 e in
    (read.1 ∙ more.0, more.1)
only_empty v k j ((d ∷ ds) ∷ ls) mid R T c t lt few said read e =
    let tail = flat_map (cluster_line v j) ds in
    let regrouped : cluster_lines v j ((d ∷ ds) ∷ ls) ++ T ≡ cluster_line v j d ++ (tail ++ (cluster_lines v (j + 1) ls ++ T)) =
    append_assoc (cluster_line v j d ++ tail) (cluster_lines v (j + 1) ls) T ∙ append_assoc (cluster_line v j d) tail (cluster_lines v (j + 1) ls ++ T) in
    absurd (none-and-some (cluster_line_at v k (cluster_line v k c ++ t)) (c, t)
    (ap (cluster_line_at v k) (sym e ∙ regrouped) ∙ cluster_other v k j d (tail ++ (cluster_lines v (j + 1) ls ++ T)) (omega arith) (omega arith)) (cluster_again v k c t (omega arith) said))

-- two runs of one phase's clusters: they are the same, or the longer one goes on with a cluster
heads : (v : Version) (k : ℕ) (cs ds : List Cluster) (A B : List ℕ) → k < 2 ^ 8 → AllByRecursion (IsSaidCluster v) cs → AllByRecursion (IsSaidCluster v) ds → cluster_line_at v k B ≡ None → flat_map (cluster_line v k) ds ++ B ≡ flat_map (cluster_line v k) cs ++ A
    → ((ds ≡ cs) × (B ≡ A)) ⊎ ((c : Cluster) × (t : List ℕ) × IsSaidCluster v c × (A ≡ cluster_line v k c ++ t))
heads v k [] [] A B k_lt said all none e = inl (refl, e)
heads v k [] (d ∷ ds) A B k_lt said all none e = inr (d, flat_map (cluster_line v k) ds ++ B, all.0, sym e ∙ append_assoc (cluster_line v k d) (flat_map (cluster_line v k) ds) B)
heads v k (c ∷ cs) [] A B k_lt said all none e =
    let joined = e ∙ append_assoc (cluster_line v k c) (flat_map (cluster_line v k) cs) A in
    absurd (none-and-some (cluster_line_at v k B) (c, flat_map (cluster_line v k) cs ++ A) none (ap (cluster_line_at v k) joined ∙ cluster_again v k c (flat_map (cluster_line v k) cs ++ A) k_lt said.0))
heads v k (c ∷ cs) (d ∷ ds) A B k_lt said all none e =
    let X = flat_map (cluster_line v k) cs ++ A in
    let Y = flat_map (cluster_line v k) ds ++ B in
    let joined : cluster_line v k d ++ Y ≡ cluster_line v k c ++ X = sym (append_assoc (cluster_line v k d) (flat_map (cluster_line v k) ds) B) ∙ e ∙ append_assoc (cluster_line v k c) (flat_map (cluster_line v k) cs) A in
    let same = same_Some (d, Y) (c, X) (sym (cluster_again v k d Y k_lt all.0) ∙ ap (cluster_line_at v k) joined ∙ cluster_again v k c X k_lt said.0) in
    let is : d ≡ c = ap (λ (x : Cluster × List ℕ). x.0) same in
    elim (heads v k cs ds A B k_lt said.1 all.1 none (ap (λ (x : Cluster × List ℕ). x.1) same)) [
      | inl p ↦ let others = p.0 in inl (cc, p.1)
      | inr more ↦ inr more
    ]

-- a cluster's line with which a text goes on, and the bytes do not
pub record NextCluster (v : Version) (R T : List ℕ) : Type 0 where
  pub phase : ℕ
  pub cluster : Cluster
  pub after : List ℕ
  pub below : phase < 2 ^ 8
  pub said : IsSaidCluster v cluster
  pub parts : T ≡ cluster_line v phase cluster ++ after
  pub none : cluster_line_at v phase R ≡ None

-- a text goes on with its last line after the same lists, or with a cluster that does not follow in the bytes
pub next_cluster : (v : Version) (ls ms : List (List Cluster)) (k : ℕ) (bytes R T x : List ℕ) → k + length ls ≤ 2 ^ 8 → length ms ≡ length ls → AllByRecursion (AllByRecursion (IsSaidCluster v)) ls → AllByRecursion (AllByRecursion (IsSaidCluster v)) ms
    → Reads v k bytes ls R → cluster_lines v k ms ++ (codes "end\n" ++ x) ≡ cluster_lines v k ls ++ T
    → ((ms ≡ ls) × (T ≡ codes "end\n" ++ x)) ⊎ NextCluster v R T
next_cluster v [] [] k bytes R T x few len said all read e = inl (refl, sym e)
next_cluster v [] (m ∷ ms) k bytes R T x few len said all read e = absurd (omega arith)
next_cluster v (l ∷ ls) [] k bytes R T x few len said all read e = absurd (omega arith)
next_cluster v (l ∷ ls) (m ∷ ms) k bytes R T x few len said all read e =
    let A = cluster_lines v (k + 1) ls ++ T in
    let B = cluster_lines v (k + 1) ms ++ (codes "end\n" ++ x) in
    let joined : flat_map (cluster_line v k) m ++ B ≡ flat_map (cluster_line v k) l ++ A =
    sym (append_assoc (flat_map (cluster_line v k) m) (cluster_lines v (k + 1) ms) (codes "end\n" ++ x)) ∙ e ∙ append_assoc (flat_map (cluster_line v k) l) (cluster_lines v (k + 1) ls) T in
    let none = later_lines v k (k + 1) ms (codes "end\n" ++ x) (omega arith) (omega arith) (cluster_end v k x) in
    elim (heads v k l m A B (omega arith) said.0 all.0 none joined) [
      | inl same ↦ elim (next_cluster v ls ms (k + 1) read.0 R T x (omega arith) (omega arith) said.1 all.1 read.3 same.1) [
        | inl end ↦ let first = same.0 in let others = end.0 in inl (cc, end.1)
        | inr more ↦ inr more
      ]
      | inr more ↦
          let empty = only_empty v k (k + 1) ls read.0 R T more.0 more.1 (omega arith) (omega arith) more.2 read.3 more.3 in
          inr (record { phase = k; cluster = more.0; after = more.1; below = omega arith; said = more.2; parts = empty.1; none = ap (cluster_line_at v k) (sym empty.0) ∙ read.2 })
    ]
