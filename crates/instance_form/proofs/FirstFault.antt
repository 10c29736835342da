-- Each fault of reading a text is the first line that has not the form of its place.
use Rattle.std.proofs.Common.{◌≡◌, ℕ, zero, suc, ◌+◌, ◌-◌, ◌^◌, ◌<◌, ◌≤◌, Bool, true, false, cond, ◌||◌, List, [], ◌∷◌, ◌++◌, length, None, Result, Ok, Err, refl, sym, ap, subst, ◌∙◌, inl, inr, append_assoc, arith}
use Rattle.std.specs.Prelude.{codes, sum_by, IfErr}
use Rattle.std.specs.Borrow.{Bor}
use Rattle.std.specs.List.{flat_map, AllByRecursion}
use Rattle.std.specs.Option.{ok_or}
use Rattle.std.proofs.lemmas.Bool.{or_parts}
use Rattle.std.proofs.lemmas.List.{append-nil, length-append}
use Rattle.std.proofs.lemmas.List.Concat.{flat_map-append}
use Rattle.std.proofs.lemmas.List.Folds.{list_any-append}
use Rattle.std.proofs.lemmas.Option.{same_Some}
use Rattle.foundation.proofs.OptionLaws.{none-and-some}
use Rattle.foundation.proofs.ResultLaws.{on_err, none_from_err, same_Err, no_Err, some_from_ok}
use Rattle.text_lines.specs.Lines.{line_feeds}
use Rattle.text_lines.proofs.Feeds.{spread, next_line, line_feeds-nil, line_feeds-append, line_feeds_once}
use Rattle.text_lines.proofs.FirstLine.{faulty-number}
use Rattle.text_lines.proofs.Units.{literal_again}
use Rattle.text_lines.specs.Fields.{literal_at}
use Rattle.phase_plan.specs.declared.Marks.{Marks}
use Rattle.phase_plan.specs.declared.Phase.{Phase}
use Rattle.switch_rules.specs.declared.Head.{Head}
use Rattle.switch_rules.specs.declared.Cluster.{Cluster}
use Rattle.instance_form.specs.declared.form.Form.{Form}
use Rattle.instance_form.specs.declared.form.Version.{Version}
use Rattle.instance_form.specs.declared.form.Version.TheVariants.{One, Two, Three, Four, Five}
use Rattle.instance_form.specs.declared.form.FormFault.{FormFault}
use Rattle.instance_form.specs.declared.form.FormFault.TheVariants.{Line, NoMemory}
use Rattle.instance_form.specs.Faults.{BeginsText, BeginsFront, IsFirstFault, IsFaultOf}
use Rattle.instance_form.specs.Versions.{has_marks}
use Rattle.instance_form.specs.InstanceText.{version_of, first_line, count_line, phase_line, head_line, cluster_line, cluster_lines, whole_text, line_count, IsMarkedWhere, IsWritableHead, HasText}
use Rattle.instance_form.specs.Lines.{version_line_at, count_line_at, phase_line_at, head_line_at, cluster_line_at}
use Rattle.instance_form.specs.Reading.{Gives, Parts, parts_of, opening_at, phases_at, plan_at, lists_at, closing_at, form_at, can_be_all, may_end}
use Rattle.instance_form.proofs.LineLaws.{IsSaidPhase, IsSaidCluster, version_takes, version_again, count_again, phase_takes, phase_again, head_takes, head_again, cluster_again}
use Rattle.instance_form.proofs.VersionLaws.{Says, says_own}
use Rattle.instance_form.proofs.FormLaws.{opening_takes, phases_take, plan_takes, lists_take, text_once}
use Rattle.instance_form.proofs.FaultLaws.{NextOfText, fault_from, first_is_line, last_is_line, count_is_line, phase_is_line, head_is_line, cluster_is_line, feeds_in_phases}
use Rattle.instance_form.proofs.Begins.{opening, opening-append, feeds_in_opening, body, body-append, feeds_in_body, begins_body, begins_plan, begins_phases, begins_first, begins_none}
use Rattle.instance_form.proofs.GoesOn.{after_count, own_lines, after_version, AfterOpening, after_opening, after_more, seen_from, next_phase, after_phases, Reads, lists_read, next_cluster}

no_phase_at : (v : Version) (R u : List ℕ) (p : Phase) → phase_line_at v R ≡ None → IsSaidPhase v p → R ≡ phase_line v p ++ u → ⊥
no_phase_at v R u p none said e = none-and-some (phase_line_at v R) (p, u) none (ap (phase_line_at v) e ∙ phase_again v p u said)

no_head_at : (R u : List ℕ) (h : Head) → head_line_at R ≡ None → IsWritableHead h → R ≡ head_line h ++ u → ⊥
no_head_at R u h none fits e = none-and-some (head_line_at R) (h, u) none (ap head_line_at e ∙ head_again h u fits)

no_cluster_at : (v : Version) (k : ℕ) (R u : List ℕ) (c : Cluster) → cluster_line_at v k R ≡ None → k < 2 ^ 8 → IsSaidCluster v c → R ≡ cluster_line v k c ++ u → ⊥
no_cluster_at v k R u c none k_lt said e = none-and-some (cluster_line_at v k R) (c, u) none (ap (cluster_line_at v k) e ∙ cluster_again v k c u k_lt said)

no_literal_at : (text R u : List ℕ) → literal_at text R ≡ None → R ≡ text ++ u → ⊥
no_literal_at text R u none e = none-and-some (literal_at text R) u none (ap (literal_at text) e ∙ literal_again text u)

at_number : (first m n : ℕ) (bytes : List ℕ) → m ≡ n → IsFirstFault BeginsFront first m bytes → IsFirstFault BeginsFront first n bytes
at_number first m n bytes e fault = faulty-number BeginsText BeginsFront first bytes m n e fault

-- ---- the first two lines

first_line_fault : (first n : ℕ) (bytes : List ℕ) → version_line_at bytes ≡ None → first ≡ n → IsFirstFault BeginsFront first n bytes
first_line_fault first n bytes none is =
    at_number first (first + line_feeds []) n bytes (omega (arith, line_feeds-nil)) (fault_from first bytes [] bytes refl begins_none (λ g.
    let v = version_of g.marks g.plan g.lists in
    record {
      text = first_line v;
      after = count_line (length g.plan) ++ after_count v g.plan g.head g.lists g.after;
      is_line = first_is_line v;
      parts = sym g.text ∙ own_lines g.marks g.plan g.head g.lists g.after;
      apart = λ u e. none-and-some (version_line_at bytes) (v, u) none (ap version_line_at e ∙ version_again v u);
    }))

count_line_fault : (v : Version) (first n : ℕ) (bytes rest : List ℕ) → bytes ≡ first_line v ++ rest → count_line_at rest ≡ None → first + 1 ≡ n → IsFirstFault BeginsFront first n bytes
count_line_fault v first n bytes rest spelled none is =
    at_number first (first + line_feeds (first_line v)) n bytes (omega (arith, line_feeds_once (first_line v) (first_is_line v))) (fault_from first bytes (first_line v) rest spelled (begins_first v) (λ g.
    record {
      text = count_line (length g.plan);
      after = after_count (version_of g.marks g.plan g.lists) g.plan g.head g.lists g.after;
      is_line = count_is_line (length g.plan) g.fits.count.1;
      parts = sym (after_version v g).1;
      apart = λ u e. none-and-some (count_line_at rest) (length g.plan, u) none (ap count_line_at e ∙ count_again (length g.plan) u g.fits.count.0 g.fits.count.1);
    }))

opening_fault : (first n : ℕ) (bytes : List ℕ) → opening_at first bytes ≡ Err n → IsFirstFault BeginsFront first n bytes
unfolding opening_at
opening_fault first n bytes e =
    on_err (ok_or (version_line_at bytes) first) e (λ h.
    let none = none_from_err (version_line_at bytes) first n h in
    first_line_fault first n bytes none.0 none.1)
    (λ version a h.
    on_err (ok_or (count_line_at version.1) (first + 1)) h (λ k.
    let none = none_from_err (count_line_at version.1) (first + 1) n k in
    count_line_fault version.0 first n bytes version.1 (version_takes bytes version (some_from_ok (version_line_at bytes) first version a)) none.0 none.1)
    (λ count b k. absurd (no_Err {A = Version × ℕ × List ℕ} refl k)))

-- ---- the phases

-- the phases before the one that is none
record PhasesFail (v : Version) (count line n : ℕ) (bytes : List ℕ) : Type 0 where
  pub read : List Phase
  pub rest : List ℕ
  pub few : length read < count
  pub number : line + length read ≡ n
  pub spelled : bytes ≡ flat_map (phase_line v) read ++ rest
  pub none : phase_line_at v rest ≡ None
  pub said : AllByRecursion (IsSaidPhase v) read

phases_fail_at : (v : Version) (count line : ℕ) (bytes : List ℕ) (n : ℕ) → phases_at v count line bytes ≡ Err n → PhasesFail v count line n bytes
unfolding phases_at
phases_fail_at v zero line bytes n e = absurd (no_Err {A = List Phase × List ℕ} refl e)
phases_fail_at v (suc count) line bytes n e =
    on_err (ok_or (phase_line_at v bytes) line) e (λ h.
    let none = none_from_err (phase_line_at v bytes) line n h in
    record { read = []; rest = bytes; few = omega arith; number = omega (arith, none.1); spelled = refl; none = none.0; said = tt })
    (λ first a h.
    on_err (phases_at v count (line + 1) first.1) h (λ k.
    let one = phase_takes v bytes first (some_from_ok (phase_line_at v bytes) line first a) in
    let more = phases_fail_at v count (line + 1) first.1 n k in
    let few = more.few in
    let number = more.number in
    record {
      read = first.0 ∷ more.read;
      rest = more.rest;
      few = omega arith;
      number = omega arith;
      spelled = one.spelled ∙ ap (λ (y : List ℕ). phase_line v first.0 ++ y) more.spelled ∙ sym (append_assoc (phase_line v first.0) (flat_map (phase_line v) more.read) more.rest);
      none = more.none;
      said = (one.small, more.said);
    })
    (λ others b k. absurd (no_Err {A = List Phase × List ℕ} refl k)))

-- bytes that begin with the opening and with these phases
after_opening_and : (v : Version) (count : ℕ) (bytes rest R : List ℕ) (ps : List Phase) → bytes ≡ first_line v ++ (count_line count ++ rest) → rest ≡ flat_map (phase_line v) ps ++ R → bytes ≡ (opening v count ++ flat_map (phase_line v) ps) ++ R
after_opening_and v count bytes rest R ps spelled phases =
    spelled ∙ sym (opening-append v count rest) ∙ ap (λ (y : List ℕ). opening v count ++ y) phases ∙ sym (append_assoc (opening v count) (flat_map (phase_line v) ps) R)

feeds_before : (v : Version) (count : ℕ) (ps : List Phase) → count ≤ 4 → AllByRecursion (IsSaidPhase v) ps → line_feeds (opening v count ++ flat_map (phase_line v) ps) ≡ 2 + length ps
feeds_before v count ps high said = line_feeds-append (opening v count) (flat_map (phase_line v) ps) ∙ omega (arith, feeds_in_opening v count high, feeds_in_phases v ps said)

phase_line_fault : (v : Version) (first n count : ℕ) (bytes rest : List ℕ) → 2 ≤ count → count ≤ 4 → bytes ≡ first_line v ++ (count_line count ++ rest) → PhasesFail v count (first + 2) n rest → IsFirstFault BeginsFront first n bytes
phase_line_fault v first n count bytes rest low high spelled fail =
    let ps = fail.read in
    let F = opening v count ++ flat_map (phase_line v) ps in
    let few = fail.few in
    let number = fail.number in
    at_number first (first + line_feeds F) n bytes (omega (arith, feeds_before v count ps high fail.said)) (fault_from first bytes F fail.rest (after_opening_and v count bytes rest fail.rest ps spelled fail.spelled)
    (begins_phases v count ps low high few fail.said) (λ g.
    let a = after_more v count (flat_map (phase_line v) ps) g low high in
    let len = a.len in
    let next = next_phase v ps a.plan (head_line a.head ++ (cluster_lines v 0 a.lists ++ (codes "end\n" ++ a.after))) g.rest (omega arith) fail.said a.says.phases a.text in
    record {
      text = phase_line v next.phase;
      after = next.after;
      is_line = phase_is_line v next.phase next.said;
      parts = next.parts;
      apart = λ u e. no_phase_at v fail.rest u next.phase fail.none next.said e;
    }))

-- a list that has an element has a last one
split_last : (ps : List Phase) → 1 ≤ length ps → (front : List Phase) × (last : Phase) × (ps ≡ front ++ last ∷ [])
split_last [] some = absurd (omega arith)
split_last (p ∷ []) some = ([], p, refl)
split_last (p ∷ q ∷ ps) some = let more = split_last (q ∷ ps) (omega arith) in (p ∷ more.0, more.1, ap (λ (xs : List Phase). p ∷ xs) more.2)

said_parts : (v : Version) (xs ys : List Phase) → AllByRecursion (IsSaidPhase v) (xs ++ ys) → AllByRecursion (IsSaidPhase v) xs × AllByRecursion (IsSaidPhase v) ys
said_parts v [] ys said = (tt, said)
said_parts v (x ∷ xs) ys said = let more = said_parts v xs ys said.1 in ((said.0, more.0), more.1)

-- of phases that are none of them marked the last one is not, where all of them are to have a mark
last_mark : (front : List Phase) (q : Phase) (more : List Phase) → has_marks front ≡ false → length more ≡ 0 → has_marks (front ++ q ∷ more) ≡ true → q.skip ≡ true
last_mark front q [] none few some = by_parts (has_marks front) q.skip none (sym (list_any-append (λ (p : Phase). p.skip) front (q ∷ [])) ∙ some)
  where
    by_parts : (a b : Bool) → a ≡ false → (a || (b || false)) ≡ true → b ≡ true
    by_parts true b h e = absurd cc
    by_parts false true h e = refl
    by_parts false false h e = absurd cc
last_mark front q (p ∷ more) none few some = absurd (omega arith)

-- the line of the last phase after those before it
last_apart : (text : Phase → List ℕ) (front : List Phase) (last : Phase) (rest : List ℕ) → flat_map text (front ++ last ∷ []) ++ rest ≡ flat_map text front ++ (text last ++ rest)
last_apart text front last rest = simp (flat_map-append, append_assoc, append-nil)

-- a text goes on with a marked phase where the last one is not, nor is one before it
marked_next : (count : ℕ) (front : List Phase) (last : Phase) (R T : List ℕ) → AfterOpening Two count (flat_map (phase_line Two) front ++ T) → length front + 1 ≡ count → AllByRecursion (IsSaidPhase Two) front → IsSaidPhase Two last
    → has_marks front ≡ false → last.skip ≡ false → NextOfText T (phase_line Two last ++ R)
marked_next count front last R T a len said one none plain =
    let len_a = a.len in
    let next = next_phase Two front a.plan (head_line a.head ++ (cluster_lines Two 0 a.lists ++ (codes "end\n" ++ a.after))) T (omega arith) said a.says.phases a.text in
    let long = length-append front (next.phase ∷ next.more) in
    let as_long = ap length next.whole in
    let marked : next.phase.skip ≡ true = last_mark front next.phase next.more none (omega arith) (ap has_marks (sym next.whole) ∙ a.says.whole) in
    record {
      text = phase_line Two next.phase;
      after = next.after;
      is_line = phase_is_line Two next.phase next.said;
      parts = next.parts;
      apart = λ u f.
          let same = same_Some (last, R) (next.phase, u) (sym (phase_again Two last R one) ∙ ap (phase_line_at Two) f ∙ phase_again Two next.phase u next.said) in
          let wrong : false ≡ true = sym plain ∙ ap (λ (x : Phase × List ℕ). x.0.skip) same ∙ marked in
          absurd cc;
    }

-- the last phase is not marked, and none before it is
marks_fault : (first n count : ℕ) (bytes rest R : List ℕ) (front : List Phase) (last : Phase) → 2 ≤ count → count ≤ 4 → bytes ≡ first_line Two ++ (count_line count ++ rest) → rest ≡ flat_map (phase_line Two) (front ++ last ∷ []) ++ R
    → length (front ++ last ∷ []) ≡ count → AllByRecursion (IsSaidPhase Two) (front ++ last ∷ []) → has_marks (front ++ last ∷ []) ≡ false → first + 2 + count - 1 ≡ n → IsFirstFault BeginsFront first n bytes
marks_fault first n count bytes rest R front last low high spelled phases len said none is =
    let both = said_parts Two front (last ∷ []) said in
    let unmarked = or_parts (has_marks front) (has_marks (last ∷ [])) (sym (list_any-append (λ (p : Phase). p.skip) front (last ∷ [])) ∙ none) in
    let plain = (or_parts last.skip false unmarked.1).0 in
    let long = length-append front (last ∷ []) in
    let before = flat_map (phase_line Two) front in
    let F = opening Two count ++ before in
    let here = phase_line Two last ++ R in
    at_number first (first + line_feeds F) n bytes (omega (arith, feeds_before Two count front high both.0))
    (fault_from first bytes F here (after_opening_and Two count bytes rest here front spelled (phases ∙ last_apart (phase_line Two) front last R)) (begins_phases Two count front low high (omega arith) both.0)
    (λ g. marked_next count front last R g.rest (after_more Two count before g low high) (omega arith) both.0 both.1.0 unmarked.0 plain))

-- phases that can't be all
whole_fault : (v : Version) (first n count : ℕ) (bytes rest R : List ℕ) (ps : List Phase) → 2 ≤ count → count ≤ 4 → bytes ≡ first_line v ++ (count_line count ++ rest) → rest ≡ flat_map (phase_line v) ps ++ R → length ps ≡ count
    → AllByRecursion (IsSaidPhase v) ps → can_be_all v ps ≡ false → first + 2 + count - 1 ≡ n → IsFirstFault BeginsFront first n bytes
whole_fault One first n count bytes rest R ps low high spelled phases len said none is = absurd cc
whole_fault Two first n count bytes rest R ps low high spelled phases len said none is =
    let last = split_last ps (omega arith) in
    marks_fault first n count bytes rest R last.0 last.1 low high spelled (subst (λ (qs : List Phase). rest ≡ flat_map (phase_line Two) qs ++ R) last.2 phases) (ap length (sym last.2) ∙ len) (subst (AllByRecursion (IsSaidPhase Two)) last.2 said)
    (ap has_marks (sym last.2) ∙ none) is
whole_fault Three first n count bytes rest R ps low high spelled phases len said none is = absurd cc
whole_fault Four first n count bytes rest R ps low high spelled phases len said none is = absurd cc
whole_fault Five first n count bytes rest R ps low high spelled phases len said none is = absurd cc

-- a choice that is not there
chosen_err : {A : Type 0} (b : Bool) (x : A) (m n : ℕ) → cond b (Ok x) (Err m) ≡ Err n → (b ≡ false) × (m ≡ n)
chosen_err {A} true x m n e = absurd (no_Err {A = A} refl e)
chosen_err {A} false x m n e = (refl, same_Err {A = A} m n e)

plan_fault : (v : Version) (first n count : ℕ) (bytes rest : List ℕ) → 2 ≤ count → count ≤ 4 → bytes ≡ first_line v ++ (count_line count ++ rest) → plan_at v count (first + 2) rest ≡ Err n → IsFirstFault BeginsFront first n bytes
unfolding plan_at
plan_fault v first n count bytes rest low high spelled e =
    on_err (phases_at v count (first + 2) rest) e (λ h. phase_line_fault v first n count bytes rest low high spelled (phases_fail_at v count (first + 2) rest n h)) (λ plan h f.
    let t = phases_take v count (first + 2) rest plan h in
    let none = chosen_err (can_be_all v plan.0) plan (first + 2 + count - 1) n f in
    whole_fault v first n count bytes rest plan.1 plan.0 low high spelled t.0 t.1 t.2 none.0 none.1)

-- ---- the head

head_line_fault : (v : Version) (first n count : ℕ) (bytes rest R : List ℕ) (ps : List Phase) → 2 ≤ count → count ≤ 4 → bytes ≡ first_line v ++ (count_line count ++ rest) → rest ≡ flat_map (phase_line v) ps ++ R → length ps ≡ count
    → AllByRecursion (IsSaidPhase v) ps → can_be_all v ps ≡ true → head_line_at R ≡ None → first + 2 + count ≡ n → IsFirstFault BeginsFront first n bytes
head_line_fault v first n count bytes rest R ps low high spelled phases len said whole none is =
    let F = opening v count ++ flat_map (phase_line v) ps in
    at_number first (first + line_feeds F) n bytes (omega (arith, feeds_before v count ps high said)) (fault_from first bytes F R (after_opening_and v count bytes rest R ps spelled phases)
    (begins_plan v count ps low high len said whole) (λ g.
    let a = after_more v count (flat_map (phase_line v) ps) g low high in
    record {
      text = head_line a.head;
      after = cluster_lines v 0 a.lists ++ (codes "end\n" ++ a.after);
      is_line = head_is_line a.head a.fits.head;
      parts = sym (after_phases v count ps g.rest said len a);
      apart = λ u e. no_head_at R u a.head none a.fits.head e;
    }))

-- ---- the last line

-- no last line is read where there is none, or where it may not be yet
closing_fails_at : (v : Version) (lists : List (List Cluster)) (line n : ℕ) (bytes : List ℕ) → closing_at v lists line bytes ≡ Err n → (line ≡ n) × (may_end v lists ≡ true → literal_at (codes "end\n") bytes ≡ None)
unfolding closing_at
closing_fails_at v lists line n bytes e = by_test (may_end v lists) e
  where
    by_test : (b : Bool) → cond b (ok_or (literal_at (codes "end\n") bytes) line) (Err line) ≡ Err n → (line ≡ n) × (b ≡ true → literal_at (codes "end\n") bytes ≡ None)
    by_test true h = let none = none_from_err (literal_at (codes "end\n") bytes) line n h in (none.1, λ ends. none.0)
    by_test false h = (same_Err {A = List ℕ} line n h, λ ends. absurd cc)

last_line_fault : (v : Version) (first n count : ℕ) (bytes R : List ℕ) (ps : List Phase) (h : Head) (lists : List (List Cluster)) (clusters : List ℕ) → 2 ≤ count → count ≤ 4
    → bytes ≡ first_line v ++ (count_line count ++ (flat_map (phase_line v) ps ++ (head_line h ++ (cluster_lines v 0 lists ++ R)))) → length ps ≡ count → length lists ≡ count → AllByRecursion (IsSaidPhase v) ps → can_be_all v ps ≡ true → IsWritableHead h
    → AllByRecursion (AllByRecursion (IsSaidCluster v)) lists → Reads v 0 clusters lists R → (may_end v lists ≡ true → literal_at (codes "end\n") R ≡ None) → first + 2 + count + 1 + sum_by (λ list. length list) lists ≡ n
    → IsFirstFault BeginsFront first n bytes
last_line_fault v first n count bytes R ps h lists clusters low high spelled len each said whole small all read none is =
    let F = body v count ps h lists in
    let parts : bytes ≡ F ++ R = spelled ∙ sym (opening-append v count (flat_map (phase_line v) ps ++ (head_line h ++ (cluster_lines v 0 lists ++ R)))) ∙ sym (body-append v count ps h lists R) in
    at_number first (first + line_feeds F) n bytes (omega (arith, feeds_in_body v count ps h lists high (omega arith) said small all))
    (fault_from first bytes F R parts (begins_body v count ps h lists low high len each said whole small all) (λ g. follows g))
  where
    go_on : (plan : List Phase) (k : Head) (queues : List (List Cluster)) (x T : List ℕ) → HasText plan k queues → Says v plan queues → length plan ≡ count
        → head_line k ++ (cluster_lines v 0 queues ++ (codes "end\n" ++ x)) ≡ head_line h ++ (cluster_lines v 0 lists ++ T) → NextOfText T R
    go_on plan k queues x T has says same e =
        let X = cluster_lines v 0 queues ++ (codes "end\n" ++ x) in
        let Y = cluster_lines v 0 lists ++ T in
        let heads_same = same_Some (k, X) (h, Y) (sym (head_again k X has.head) ∙ ap head_line_at e ∙ head_again h Y small) in
        let as_many : length queues ≡ length lists = has.each ∙ same ∙ sym each in
        elim (next_cluster v lists queues 0 clusters R T x (omega arith) as_many all says.clusters read (ap (λ (y : Head × List ℕ). y.1) heads_same)) [
          | inl end ↦
              let ends : may_end v lists ≡ true = ap (may_end v) (sym end.0) ∙ says.ends in
              record { text = codes "end\n"; after = x; is_line = last_is_line; parts = end.1; apart = λ u f. no_literal_at (codes "end\n") R u (none ends) f }
          | inr p ↦ record {
            text = cluster_line v p.phase p.cluster;
            after = p.after;
            is_line = cluster_is_line v p.phase p.cluster p.below p.said;
            parts = p.parts;
            apart = λ u f. no_cluster_at v p.phase R u p.cluster p.none p.below p.said f;
          }
        ]

    follows : (g : BeginsFront (body v count ps h lists)) → NextOfText g.rest R
    follows g =
        let clusters_on = cluster_lines v 0 lists ++ g.rest in
        let T = flat_map (phase_line v) ps ++ (head_line h ++ clusters_on) in
        let a : AfterOpening v count T = after_opening v count (seen_from (opening v count) T (body v count ps h lists) g (body-append v count ps h lists g.rest)) low high in
        go_on a.plan a.head a.lists a.after g.rest a.fits a.says a.len (after_phases v count ps (head_line h ++ clusters_on) said len a)

-- ---- the whole text

-- Each fault of reading is the first line that has not the form of its place.
pub form_fault : (first n : ℕ) (bytes : List ℕ) → form_at first bytes ≡ Err n → IsFirstFault BeginsFront first n bytes
unfolding form_at
form_fault first n bytes e =
    on_err (opening_at first bytes) e (opening_fault first n bytes) (λ start h0 e0.
    let v = start.0 in
    let count = start.1 in
    let open_text = opening_takes first bytes start h0 in
    on_err (plan_at v count (first + 2) start.2) e0 (plan_fault v first n count bytes start.2 open_text.0 open_text.1 open_text.2) (λ plan h1 e1.
    let all_phases = plan_takes v count (first + 2) start.2 plan h1 in
    let phases = phases_take v count (first + 2) start.2 plan all_phases.0 in
    on_err (ok_or (head_line_at plan.1) (first + 2 + count)) e1 (λ h.
    let none = none_from_err (head_line_at plan.1) (first + 2 + count) n h in
    head_line_fault v first n count bytes start.2 plan.1 plan.0 open_text.0 open_text.1 open_text.2 phases.0 phases.1 phases.2 all_phases.1 none.0 none.1) (λ head h2 e2.
    let one = head_takes plan.1 head (some_from_ok (head_line_at plan.1) (first + 2 + count) head h2) in
    let read = lists_at v count 0 head.1 in
    let lists = lists_take v count 0 head.1 in
    let number = first + 2 + count + 1 + sum_by (λ list. length list) read.0 in
    let spelled : bytes ≡ first_line v ++ (count_line count ++ (flat_map (phase_line v) plan.0 ++ (head_line head.0 ++ (cluster_lines v 0 read.0 ++ read.1)))) =
    open_text.2 ∙ ap (λ (y : List ℕ). first_line v ++ (count_line count ++ y)) (phases.0 ∙ ap (λ (y : List ℕ). flat_map (phase_line v) plan.0 ++ y) (one.spelled ∙ ap (λ (y : List ℕ). head_line head.0 ++ y) lists.spelled)) in
    on_err (closing_at v read.0 number read.1) e2 (λ h.
    let none = closing_fails_at v read.0 number n read.1 h in
    last_line_fault v first n count bytes read.1 plan.0 head.0 read.0 head.1 open_text.0 open_text.1 spelled phases.1 lists.each phases.2 all_phases.1 one.small lists.small (lists_read v count 0 head.1) none.1 none.0)
    (λ rest h3 e3. absurd (no_Err {A = Parts × ℕ × List ℕ} refl e3)))))

-- ---- what the readers answer

pub front_fault : (first : ℕ) (bytes : List ℕ) (r : Result (Form × ℕ × Bor (List ℕ)) FormFault) → Gives (λ x. (parts_of x.0, x.1, x.2.now)) r (form_at first bytes) → IfErr r (IsFaultOf BeginsFront first bytes)
front_fault first bytes (Ok x) given = tt
front_fault first bytes (Err (Line n)) given = form_fault first n bytes given
front_fault first bytes (Err NoMemory) given = tt

-- a line with which no text goes on, whatever follows that text, is none of a text alone
pub fault_alone : (first : ℕ) (bytes : List ℕ) (e : FormFault) → IsFaultOf BeginsFront first bytes e → IsFaultOf BeginsText first bytes e
fault_alone first bytes (Line n) fault = record {
  front = fault.front;
  rest = fault.rest;
  parts = fault.parts;
  number = fault.number;
  begins = fault.begins;
  ends = λ longer more e feeds g. fault.ends longer more e feeds (record { marks = g.marks; plan = g.plan; head = g.head; lists = g.lists; after = []; rest = g.rest; fits = g.fits; ring = g.ring; text = append-nil (whole_text g.marks g.plan g.head g.lists) ∙ g.text });
}
fault_alone first bytes NoMemory fault = tt

-- a text has as many line feeds as lines
pub feeds_in_text : (marks : Marks) (plan : List Phase) (h : Head) (lists : List (List Cluster)) → HasText plan h lists → IsMarkedWhere marks plan → line_feeds (whole_text marks plan h lists) ≡ line_count plan lists
feeds_in_text marks plan h lists fits ring =
    let v = version_of marks plan lists in
    let n = length plan in
    let count = fits.count in
    let each = fits.each in
    let says = says_own marks plan h lists fits ring in
    let tail = flat_map (phase_line v) plan ++ (head_line h ++ (cluster_lines v 0 lists ++ codes "end\n")) in
    let whole : whole_text marks plan h lists ≡ body v n plan h lists ++ codes "end\n" =
    sym (append-nil (whole_text marks plan h lists)) ∙ own_lines marks plan h lists [] ∙ sym (opening-append v n tail) ∙ sym (body-append v n plan h lists (codes "end\n")) in
    let feeds = feeds_in_body v n plan h lists fits.count.1 (omega arith) says.phases fits.head says.clusters in
    ap line_feeds whole ∙ line_feeds-append (body v n plan h lists) (codes "end\n") ∙ omega (arith, feeds, line_feeds_once (codes "end\n") last_is_line)

-- no text goes on from another
no_longer : (marks : Marks) (plan : List Phase) (h : Head) (lists : List (List Cluster)) (longer mid : List ℕ) (g : BeginsText longer) → HasText plan h lists → IsMarkedWhere marks plan → longer ≡ whole_text marks plan h lists ++ mid → line_feeds mid ≡ 1 → ⊥
no_longer marks plan h lists longer mid g fits ring e one =
    let text = whole_text g.marks g.plan g.head g.lists in
    let on = spread longer (whole_text marks plan h lists) mid g.rest e in
    let once = text_once g.marks marks g.plan plan g.head h g.lists lists [] (mid ++ g.rest) g.fits g.ring fits ring (append-nil text ∙ g.text ∙ on) in
    omega (arith, one, ap line_feeds once.4, line_feeds-append mid g.rest, line_feeds-nil)

-- Nothing follows the last line.
pub trailing_fault : (marks : Marks) (plan : List Phase) (h : Head) (lists : List (List Cluster)) (bytes rest : List ℕ) (n : ℕ) → HasText plan h lists → IsMarkedWhere marks plan → bytes ≡ whole_text marks plan h lists ++ rest → n ≡ 1 + line_count plan lists → IsFirstFault BeginsText 1 n bytes
trailing_fault marks plan h lists bytes rest n fits ring spelled is =
    let F = whole_text marks plan h lists in
    let feeds = feeds_in_text marks plan h lists fits ring in
    record {
      front = F;
      rest = rest;
      parts = spelled;
      number = omega (arith, feeds, is);
      begins = record { marks = marks; plan = plan; head = h; lists = lists; rest = []; fits = fits; ring = ring; text = sym (append-nil F) };
      ends = λ longer more e more_feeds g.
          let p = next_line F rest longer more (sym spelled ∙ e) (omega (arith, more_feeds, feeds, is)) in
          no_longer marks plan h lists longer p.0 g fits ring p.1 p.3;
    }
