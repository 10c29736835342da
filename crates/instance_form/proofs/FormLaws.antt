-- Reading a whole text: where it fails at the last line, what it takes, and that what was written is read.
use Rattle.std.proofs.Common.{◌≡◌, ℕ, zero, suc, ◌+◌, ◌-◌, ◌^◌, ◌<◌, ◌≤◌, List, [], ◌∷◌, ◌++◌, length, Option, None, Bool, true, false, cond, Result, Ok, Err, refl, sym, ap, subst, ◌∙◌, append_assoc, arith}
use Rattle.std.specs.Prelude.{codes, sum_by, IfOk, MatchResult}
use Rattle.std.specs.Borrow.{Bor}
use Rattle.std.specs.List.{flat_map, concat, AllByRecursion}
use Rattle.std.specs.Option.{ok_or}
use Rattle.std.proofs.lemmas.List.{append-nil, length-append}
use Rattle.foundation.proofs.ResultLaws.{then_ok, same_Ok, no_Err, some_from_ok}
use Rattle.text_lines.specs.Many.{many_at}
use Rattle.text_lines.proofs.ManyLaws.{TakesMany, many_take, many_again, few_texts}
use Rattle.text_lines.proofs.Units.{literal_takes, literal_again}
use Rattle.text_lines.specs.Fields.{literal_at}
use Rattle.phase_plan.specs.declared.Marks.{Marks}
use Rattle.phase_plan.specs.declared.Phase.{Phase}
use Rattle.switch_rules.specs.declared.Head.{Head}
use Rattle.switch_rules.specs.declared.Cluster.{Cluster}
use Rattle.instance_form.specs.declared.form.Form.{Form}
use Rattle.instance_form.specs.declared.form.FormFault.{FormFault}
use Rattle.instance_form.specs.declared.form.FormFault.TheVariants.{Line, NoMemory}
use Rattle.instance_form.specs.declared.form.Version.{Version}
use Rattle.instance_form.specs.Versions.{marks_said}
use Rattle.instance_form.specs.Lines.{version_line_at, count_line_at, phase_line_at, head_line_at, cluster_line_at}
use Rattle.instance_form.specs.Answers.{HasParts, IsOutOfMemory}
use Rattle.instance_form.specs.InstanceText.{version_of, first_line, count_line, phase_line, head_line, cluster_line, cluster_lines, form_text, whole_text, line_count, HasText, IsMarkedWhere}
use Rattle.instance_form.proofs.LineLaws.{IsSaidPhase, IsSaidCluster, version_takes, version_again, count_takes, count_again, phase_takes, phase_again, head_takes, head_again, cluster_takes, cluster_again, cluster_other, cluster_end}
use Rattle.instance_form.proofs.VersionLaws.{Says, said_again, text_of_version, said_ring, says_own, said_has_text}
use Rattle.instance_form.specs.Reading.{◌>>=◌, Fails, Gives, Parts, parts_of, opening_at, phases_at, plan_at, lists_at, closing_at, form_at, can_be_all, may_end}

-- what fails, fails whatever comes after it
fails_along : {A B : Type 0} (e : FormFault) (read : Result A ℕ) (f : A → Result B ℕ) → Fails e read → Fails e (read >>= f)
fails_along (Line n) read f h = ap (λ r. r >>= f) h
fails_along NoMemory read f h = tt

pub closing_fails : (e : FormFault) (line : ℕ) (bytes : List ℕ) (first : Version × ℕ × List ℕ) (plan : List Phase × List ℕ) (head : Head × List ℕ) (lists : List (List Cluster) × List ℕ)
    → opening_at line bytes ≡ Ok first → plan_at first.0 first.1 (line + 2) first.2 ≡ Ok plan → ok_or (head_line_at plan.1) (line + 2 + first.1) ≡ Ok head → lists_at first.0 first.1 0 head.1 ≡ lists
    → Fails e (closing_at first.0 lists.0 (line + 2 + first.1 + 1 + sum_by (λ list. length list) lists.0) lists.1) → Fails e (form_at line bytes)
unfolding form_at
closing_fails e line bytes first plan head lists a b c d h = rw (a, b, c, d) (fails_along e _ _ h)

-- ---- the opening

pub opening_takes : (line : ℕ) (bytes : List ℕ) (x : Version × ℕ × List ℕ) → opening_at line bytes ≡ Ok x → (2 ≤ x.1) × (x.1 ≤ 4) × (bytes ≡ first_line x.0 ++ (count_line x.1 ++ x.2))
unfolding opening_at
opening_takes line bytes x e =
    then_ok (ok_or (version_line_at bytes) line) e (λ version a e1.
    then_ok (ok_or (count_line_at version.1) (line + 1)) e1 (λ number b e2.
    let first = version_takes bytes version (some_from_ok (version_line_at bytes) line version a) in
    let count = count_takes version.1 number (some_from_ok (count_line_at version.1) (line + 1) number b) in
    subst (λ (y : Version × ℕ × List ℕ). (2 ≤ y.1) × (y.1 ≤ 4) × (bytes ≡ first_line y.0 ++ (count_line y.1 ++ y.2))) (same_Ok (version.0, number.0, number.1) x e2)
    (count.small.0, count.small.1, first ∙ ap (λ (y : List ℕ). first_line version.0 ++ y) count.spelled)))

pub opening_again : (v : Version) (line n : ℕ) (rest : List ℕ) → 2 ≤ n → n ≤ 4 → opening_at line (first_line v ++ (count_line n ++ rest)) ≡ Ok (v, n, rest)
unfolding opening_at
opening_again v line n rest low high = rw (version_again v (count_line n ++ rest), count_again n rest low high) refl

-- ---- the phases

pub phases_take : (v : Version) (n line : ℕ) (bytes : List ℕ) (x : List Phase × List ℕ) → phases_at v n line bytes ≡ Ok x → (bytes ≡ flat_map (phase_line v) x.0 ++ x.1) × (length x.0 ≡ n) × AllByRecursion (IsSaidPhase v) x.0
unfolding phases_at
phases_take v zero line bytes x e =
    subst (λ (y : List Phase × List ℕ). (bytes ≡ flat_map (phase_line v) y.0 ++ y.1) × (length y.0 ≡ 0) × AllByRecursion (IsSaidPhase v) y.0) (same_Ok ([], bytes) x e) (refl, refl, tt)
phases_take v (suc n) line bytes x e =
    then_ok (ok_or (phase_line_at v bytes) line) e (λ first a e1.
    then_ok (phases_at v n (line + 1) first.1) e1 (λ others b e2.
    let one = phase_takes v bytes first (some_from_ok (phase_line_at v bytes) line first a) in
    let more = phases_take v n (line + 1) first.1 others b in
    subst (λ (y : List Phase × List ℕ). (bytes ≡ flat_map (phase_line v) y.0 ++ y.1) × (length y.0 ≡ suc n) × AllByRecursion (IsSaidPhase v) y.0) (same_Ok (first.0 ∷ others.0, others.1) x e2)
    (one.spelled ∙ ap (λ (y : List ℕ). phase_line v first.0 ++ y) more.0 ∙ sym (append_assoc (phase_line v first.0) (flat_map (phase_line v) others.0) others.1), ap suc more.1, (one.small, more.2))))

pub phases_again : (v : Version) (ps : List Phase) (line : ℕ) (rest : List ℕ) → AllByRecursion (IsSaidPhase v) ps → phases_at v (length ps) line (flat_map (phase_line v) ps ++ rest) ≡ Ok (ps, rest)
unfolding phases_at
phases_again v [] line rest said = refl
phases_again v (p ∷ ps) line rest said =
    let regrouped : flat_map (phase_line v) (p ∷ ps) ++ rest ≡ phase_line v p ++ (flat_map (phase_line v) ps ++ rest) = append_assoc (phase_line v p) (flat_map (phase_line v) ps) rest in
    ap (phases_at v (suc (length ps)) line) regrouped ∙ rw (phase_again v p (flat_map (phase_line v) ps ++ rest) said.0, phases_again v ps (line + 1) rest said.1) refl

-- a choice that is there
chosen_ok : {A : Type 0} (b : Bool) (x : A) (n : ℕ) (y : A) → cond b (Ok x) (Err n) ≡ Ok y → (b ≡ true) × (x ≡ y)
chosen_ok true x n y e = (refl, same_Ok x y e)
chosen_ok false x n y e = absurd cc

-- all phases, that can be all
pub plan_takes : (v : Version) (n line : ℕ) (bytes : List ℕ) (x : List Phase × List ℕ) → plan_at v n line bytes ≡ Ok x → (phases_at v n line bytes ≡ Ok x) × (can_be_all v x.0 ≡ true)
unfolding plan_at
plan_takes v n line bytes x e =
    then_ok (phases_at v n line bytes) e (λ plan a e1.
    let t = chosen_ok (can_be_all v plan.0) plan (line + n - 1) x e1 in
    subst (λ (y : List Phase × List ℕ). (phases_at v n line bytes ≡ Ok y) × (can_be_all v y.0 ≡ true)) t.1 (a, t.0))

pub plan_again : (v : Version) (ps : List Phase) (line : ℕ) (rest : List ℕ) → AllByRecursion (IsSaidPhase v) ps → can_be_all v ps ≡ true → plan_at v (length ps) line (flat_map (phase_line v) ps ++ rest) ≡ Ok (ps, rest)
unfolding plan_at
plan_again v ps line rest said whole = rw (phases_again v ps line rest said, whole) refl

-- ---- the last line

pub closing_takes : (v : Version) (lists : List (List Cluster)) (line : ℕ) (bytes rest : List ℕ) → closing_at v lists line bytes ≡ Ok rest → (may_end v lists ≡ true) × (bytes ≡ codes "end\n" ++ rest)
unfolding closing_at
closing_takes v lists line bytes rest e = by_test (may_end v lists) e
  where
    by_test : (b : Bool) → cond b (ok_or (literal_at (codes "end\n") bytes) line) (Err line) ≡ Ok rest → (b ≡ true) × (bytes ≡ codes "end\n" ++ rest)
    by_test true h = (refl, literal_takes (codes "end\n") bytes rest (some_from_ok (literal_at (codes "end\n") bytes) line rest h))
    by_test false h = absurd cc

closing_again : (v : Version) (lists : List (List Cluster)) (line : ℕ) (rest : List ℕ) → may_end v lists ≡ true → closing_at v lists line (codes "end\n" ++ rest) ≡ Ok rest
unfolding closing_at
closing_again v lists line rest ends = rw (ends, literal_again (codes "end\n") rest) refl

-- ---- the clusters of one phase

-- the clusters that are read, each with its line
pub clusters_take : (v : Version) (most k : ℕ) (bytes : List ℕ) → TakesMany (cluster_line v k) (IsSaidCluster v) bytes (many_at (cluster_line_at v k) most bytes)
clusters_take v most k bytes = many_take (cluster_line_at v k) (cluster_line v k) (IsSaidCluster v) (λ bytes x h. let one = cluster_takes v k bytes x h in (one.spelled, one.small)) most bytes

-- each line has a byte
few_lines : (v : Version) (k : ℕ) (cs : List Cluster) (rest : List ℕ) → length cs ≤ length (flat_map (cluster_line v k) cs ++ rest)
few_lines v k cs rest = few_texts (cluster_line v k) (λ c. omega (arith, length-append {A = ℕ})) cs rest

clusters_again : (v : Version) (cs : List Cluster) (k : ℕ) (rest : List ℕ) → k < 2 ^ 8 → AllByRecursion (IsSaidCluster v) cs → cluster_line_at v k rest ≡ None
    → many_at (cluster_line_at v k) (length (flat_map (cluster_line v k) cs ++ rest)) (flat_map (cluster_line v k) cs ++ rest) ≡ (cs, rest)
clusters_again v cs k rest k_lt fits none =
    many_again (cluster_line_at v k) (cluster_line v k) (IsSaidCluster v) (λ c after h. cluster_again v k c after k_lt h) cs (length (flat_map (cluster_line v k) cs ++ rest)) rest (few_lines v k cs rest) fits none

-- ---- the clusters of each phase

pub record TakesLists (v : Version) (n k : ℕ) (bytes : List ℕ) (x : List (List Cluster) × List ℕ) : Type 0 where
  pub spelled : bytes ≡ cluster_lines v k x.0 ++ x.1
  pub each : length x.0 ≡ n
  pub small : AllByRecursion (AllByRecursion (IsSaidCluster v)) x.0

pub lists_take : (v : Version) (n k : ℕ) (bytes : List ℕ) → TakesLists v n k bytes (lists_at v n k bytes)
unfolding lists_at
lists_take v zero k bytes = record { spelled = refl; each = refl; small = tt }
lists_take v (suc n) k bytes =
    let list = many_at (cluster_line_at v k) (length bytes) bytes in
    let others = lists_at v n (k + 1) list.1 in
    let one = clusters_take v (length bytes) k bytes in
    let more = lists_take v n (k + 1) list.1 in
    record {
      spelled = one.spelled ∙ ap (λ (y : List ℕ). flat_map (cluster_line v k) list.0 ++ y) more.spelled ∙ sym (append_assoc (flat_map (cluster_line v k) list.0) (cluster_lines v (k + 1) others.0) others.1);
      each = ap suc more.each;
      small = (one.small, more.small);
    }

-- the lines of later phases' clusters begin with none of this phase's
pub later_lines : (v : Version) (k j : ℕ) (ls : List (List Cluster)) (rest : List ℕ) → k < j → j + length ls ≤ 2 ^ 8 → cluster_line_at v k rest ≡ None → cluster_line_at v k (cluster_lines v j ls ++ rest) ≡ None
later_lines v k j [] rest lt few none = none
later_lines v k j ([] ∷ ls) rest lt few none = later_lines v k (j + 1) ls rest (omega arith) (omega arith) none
later_lines v k j ((c ∷ cs) ∷ ls) rest lt few none =
    let tail = flat_map (cluster_line v j) cs in
    let regrouped : cluster_lines v j ((c ∷ cs) ∷ ls) ++ rest ≡ cluster_line v j c ++ (tail ++ (cluster_lines v (j + 1) ls ++ rest)) =
    append_assoc (cluster_line v j c ++ tail) (cluster_lines v (j + 1) ls) rest ∙ append_assoc (cluster_line v j c) tail (cluster_lines v (j + 1) ls ++ rest) in
    ap (cluster_line_at v k) regrouped ∙ cluster_other v k j c (tail ++ (cluster_lines v (j + 1) ls ++ rest)) (omega arith) (omega arith)

lists_again : (v : Version) (ls : List (List Cluster)) (k : ℕ) (rest : List ℕ) → k + length ls ≤ 2 ^ 8 → AllByRecursion (AllByRecursion (IsSaidCluster v)) ls → ((j : ℕ) → cluster_line_at v j rest ≡ None)
    → lists_at v (length ls) k (cluster_lines v k ls ++ rest) ≡ (ls, rest)
unfolding lists_at
lists_again v [] k rest few fits none = refl
lists_again v (cs ∷ ls) k rest few fits none =
    let tail = cluster_lines v (k + 1) ls ++ rest in
    let bytes = flat_map (cluster_line v k) cs ++ tail in
    let regrouped : cluster_lines v k (cs ∷ ls) ++ rest ≡ bytes = append_assoc (flat_map (cluster_line v k) cs) (cluster_lines v (k + 1) ls) rest in
    let first : many_at (cluster_line_at v k) (length bytes) bytes ≡ (cs, tail) = clusters_again v cs k tail (omega arith) fits.0 (later_lines v k (k + 1) ls rest (omega arith) (omega arith) (none k)) in
    let more : lists_at v (length ls) (k + 1) tail ≡ (ls, rest) = lists_again v ls (k + 1) rest (omega arith) fits.1 none in
    let with_more : List Cluster × List ℕ → List (List Cluster) × List ℕ = λ l. (l.0 ∷ (lists_at v (length ls) (k + 1) l.1).0, (lists_at v (length ls) (k + 1) l.1).1) in
    ap (lists_at v (suc (length ls)) k) regrouped ∙ ap with_more first ∙ ap (λ (m : List (List Cluster) × List ℕ). (cs ∷ m.0, m.1)) more

-- ---- the whole text

-- what is read and where it was read from
pub record TakesForm (line : ℕ) (bytes : List ℕ) (x : Parts × ℕ × List ℕ) : Type 0 where
  pub fits : HasText x.0.plan x.0.head x.0.lists
  pub ring : IsMarkedWhere x.0.marks x.0.plan
  pub spelled : bytes ≡ whole_text x.0.marks x.0.plan x.0.head x.0.lists ++ x.2
  pub next : x.1 ≡ line + line_count x.0.plan x.0.lists

six_parts : (a b c d e f rest : List ℕ) → concat (a ∷ b ∷ c ∷ d ∷ e ∷ f ∷ []) ++ rest ≡ a ++ (b ++ (c ++ (d ++ (e ++ (f ++ rest)))))
six_parts a b c d e f rest = simp (append_assoc, append-nil)

-- the parts of a text, one after another
pub regrouped_form : (v : Version) (plan : List Phase) (h : Head) (lists : List (List Cluster)) (rest : List ℕ)
    → form_text v plan h lists ++ rest ≡ first_line v ++ (count_line (length plan) ++ (flat_map (phase_line v) plan ++ (head_line h ++ (cluster_lines v 0 lists ++ (codes "end\n" ++ rest)))))
unfolding form_text
regrouped_form v plan h lists rest = six_parts (first_line v) (count_line (length plan)) (flat_map (phase_line v) plan) (head_line h) (cluster_lines v 0 lists) (codes "end\n") rest

pub form_takes : (line : ℕ) (bytes : List ℕ) (x : Parts × ℕ × List ℕ) → form_at line bytes ≡ Ok x → TakesForm line bytes x
unfolding form_at
form_takes line bytes x e =
    then_ok (opening_at line bytes) e (λ first h0 e0.
    then_ok (plan_at first.0 first.1 (line + 2) first.2) e0 (λ plan h1 e1.
    then_ok (ok_or (head_line_at plan.1) (line + 2 + first.1)) e1 (λ head h2 e2.
    let v = first.0 in
    let read = lists_at v first.1 0 head.1 in
    let number = line + 2 + first.1 + 1 + sum_by (λ list. length list) read.0 in
    then_ok (closing_at v read.0 number read.1) e2 (λ rest h3 e3.
    let opening = opening_takes line bytes first h0 in
    let whole = plan_takes v first.1 (line + 2) first.2 plan h1 in
    let phases = phases_take v first.1 (line + 2) first.2 plan whole.0 in
    let one = head_takes plan.1 head (some_from_ok (head_line_at plan.1) (line + 2 + first.1) head h2) in
    let lists = lists_take v first.1 0 head.1 in
    let last = closing_takes v read.0 number read.1 rest h3 in
    let says : Says v plan.0 read.0 = record { phases = phases.2; clusters = lists.small; whole = whole.1; ends = last.0 } in
    let low : 2 ≤ length plan.0 = omega (arith, opening.0, phases.1) in
    let high : length plan.0 ≤ 4 = omega (arith, opening.1, phases.1) in
    subst (TakesForm line bytes) (same_Ok (record { marks = marks_said v; plan = plan.0; head = head.0; lists = read.0 }, number + 1, rest) x e3) (record {
      fits = said_has_text v plan.0 head.0 read.0 low high (lists.each ∙ sym phases.1) one.small says;
      ring = said_ring v plan.0 phases.2;
      spelled = rw (text_of_version v plan.0 head.0 read.0 says, regrouped_form v plan.0 head.0 read.0 rest, phases.1) (opening.2
          ∙ ap (λ (y : List ℕ). first_line v ++ (count_line first.1 ++ y)) (phases.0
          ∙ ap (λ (y : List ℕ). flat_map (phase_line v) plan.0 ++ y) (one.spelled
          ∙ ap (λ (y : List ℕ). head_line head.0 ++ y) (lists.spelled
          ∙ ap (λ (y : List ℕ). cluster_lines v 0 read.0 ++ y) last.1))));
      next = omega (arith, phases.1);
    })))))

-- a text of a version that says all of it is read as what it says
form_again_in : (v : Version) (line : ℕ) (plan : List Phase) (h : Head) (lists : List (List Cluster)) (rest : List ℕ) → HasText plan h lists → Says v plan lists
    → form_at line (form_text v plan h lists ++ rest) ≡ Ok (record { marks = marks_said v; plan = plan; head = h; lists = lists }, line + line_count plan lists, rest)
unfolding form_at
form_again_in v line plan h lists rest fits says =
    let last = codes "end\n" ++ rest in
    let clusters = cluster_lines v 0 lists ++ last in
    let head = head_line h ++ clusters in
    let phases = flat_map (phase_line v) plan ++ head in
    let first : opening_at line (form_text v plan h lists ++ rest) ≡ Ok (v, length plan, phases) =
    ap (opening_at line) (regrouped_form v plan h lists rest) ∙ opening_again v line (length plan) phases fits.count.0 fits.count.1 in
    let read_plan : plan_at v (length plan) (line + 2) phases ≡ Ok (plan, head) = plan_again v plan (line + 2) head says.phases says.whole in
    let read_head : ok_or (head_line_at head) (line + 2 + length plan) ≡ Ok (h, clusters) = ap (λ (o : Option (Head × List ℕ)). ok_or o (line + 2 + length plan)) (head_again h clusters fits.head) in
    let many = fits.count in
    let each = fits.each in
    let read_lists : lists_at v (length plan) 0 clusters ≡ (lists, last) = ap (λ n. lists_at v n 0 clusters) (sym fits.each) ∙ lists_again v lists 0 last (omega arith) says.clusters (λ j. cluster_end v j rest) in
    let number = line + 2 + length plan + 1 + sum_by (λ list. length list) lists in
    let next : number + 1 ≡ line + line_count plan lists = omega arith in
    rw (first, read_plan, read_head, read_lists, closing_again v lists number rest says.ends, next) refl

pub form_again : (line : ℕ) (marks : Marks) (plan : List Phase) (h : Head) (lists : List (List Cluster)) (rest : List ℕ) → HasText plan h lists → IsMarkedWhere marks plan
    → form_at line (whole_text marks plan h lists ++ rest) ≡ Ok (record { marks = marks; plan = plan; head = h; lists = lists }, line + line_count plan lists, rest)
unfolding whole_text
form_again line marks plan h lists rest fits ring =
    form_again_in (version_of marks plan lists) line plan h lists rest fits (says_own marks plan h lists fits ring)
    ∙ ap (λ (b : Marks). Ok (record { marks = b; plan = plan; head = h; lists = lists }, line + line_count plan lists, rest)) (said_again marks plan lists)

-- ---- what the readers answer

-- a form, a line's number and bytes, as contracts see them
abbrev front_seen : Form × ℕ × Bor (List ℕ) → Parts × ℕ × List ℕ
front_seen x = (parts_of x.0, x.1, x.2.now)

pub front_takes : (line : ℕ) (bytes : List ℕ) (r : Result (Form × ℕ × Bor (List ℕ)) FormFault) → Gives (λ x. (parts_of x.0, x.1, x.2.now)) r (form_at line bytes) → IfOk r (λ x. TakesForm line bytes (parts_of x.0, x.1, x.2.now))
front_takes line bytes (Ok x) given = form_takes line bytes (front_seen x) given
front_takes line bytes (Err e) given = tt

pub front_only : (line : ℕ) (bytes : List ℕ) (r : Result (Form × ℕ × Bor (List ℕ)) FormFault) → Gives (λ x. (parts_of x.0, x.1, x.2.now)) r (form_at line bytes)
    → (marks : Marks) (plan : List Phase) (h : Head) (lists : List (List Cluster)) (rest : List ℕ) → HasText plan h lists → IsMarkedWhere marks plan → bytes ≡ whole_text marks plan h lists ++ rest
    → MatchResult r (λ x. HasParts x.0 marks plan h lists × (x.2.now ≡ rest)) IsOutOfMemory
front_only line bytes (Ok x) given marks plan h lists rest fits ring e =
    let same = same_Ok (front_seen x) (record { marks = marks; plan = plan; head = h; lists = lists }, line + line_count plan lists, rest) (sym given ∙ ap (form_at line) e ∙ form_again line marks plan h lists rest fits ring) in (
      record {
        ring = ap (λ (y : Parts × ℕ × List ℕ). y.0.marks) same;
        phases = ap (λ (y : Parts × ℕ × List ℕ). y.0.plan) same;
        head = ap (λ (y : Parts × ℕ × List ℕ). y.0.head) same;
        each = ap (λ (y : Parts × ℕ × List ℕ). y.0.lists) same;
      },
      ap (λ (y : Parts × ℕ × List ℕ). y.2) same,
    )
front_only line bytes (Err (Line n)) given marks plan h lists rest fits ring e =
    let again : form_at line bytes ≡ Ok (record { marks = marks; plan = plan; head = h; lists = lists }, line + line_count plan lists, rest) = ap (form_at line) e ∙ form_again line marks plan h lists rest fits ring in
    no_Err again given
front_only line bytes (Err NoMemory) given marks plan h lists rest fits ring e = tt

-- Each text is that of one form, and none begins another.
pub text_once : (marks theirs : Marks) (plan others : List Phase) (h g : Head) (lists queues : List (List Cluster)) (x y : List ℕ) → HasText plan h lists → IsMarkedWhere marks plan → HasText others g queues → IsMarkedWhere theirs others
    → whole_text marks plan h lists ++ x ≡ whole_text theirs others g queues ++ y → (marks ≡ theirs) × (plan ≡ others) × (h ≡ g) × (lists ≡ queues) × (x ≡ y)
text_once marks theirs plan others h g lists queues x y fits ring fits' ring' e =
    let same = same_Ok (record { marks = marks; plan = plan; head = h; lists = lists }, 0 + line_count plan lists, x) (record { marks = theirs; plan = others; head = g; lists = queues }, 0 + line_count others queues, y)
    (sym (form_again 0 marks plan h lists x fits ring) ∙ ap (form_at 0) e ∙ form_again 0 theirs others g queues y fits' ring') in (
      ap (λ (z : Parts × ℕ × List ℕ). z.0.marks) same,
      ap (λ (z : Parts × ℕ × List ℕ). z.0.plan) same,
      ap (λ (z : Parts × ℕ × List ℕ). z.0.head) same,
      ap (λ (z : Parts × ℕ × List ℕ). z.0.lists) same,
      ap (λ (z : Parts × ℕ × List ℕ). z.2) same,
    )
