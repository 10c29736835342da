-- What was read up to a line begins some text.
use Rattle.std.proofs.Common.{◌≡◌, ℕ, suc, ◌+◌, ◌-◌, ◌^◌, ◌<◌, ◌≤◌, Bool, true, false, ◌||◌, zero, List, [], ◌∷◌, ◌++◌, length, refl, sym, ap, subst, ◌∙◌, append_assoc, arith}
use Rattle.std.specs.Prelude.{codes, replicate, sum_by}
use Rattle.std.specs.List.{flat_map, AllByRecursion}
use Rattle.std.proofs.Math.Bool.{or-true}
use Rattle.std.proofs.lemmas.List.{append-nil, length-append, length-replicate}
use Rattle.std.proofs.lemmas.List.Concat.{flat_map-append}
use Rattle.std.proofs.lemmas.List.Folds.{list_any-append}
use Rattle.text_lines.specs.Lines.{line_feeds}
use Rattle.text_lines.proofs.Feeds.{line_feeds-append, line_feeds_once}
use Rattle.phase_plan.specs.declared.Phase.{Phase}
use Rattle.switch_rules.specs.declared.Head.{Head}
use Rattle.switch_rules.specs.declared.Cluster.{Cluster}
use Rattle.instance_form.specs.declared.form.Version.{Version}
use Rattle.instance_form.specs.declared.form.Version.TheVariants.{One, Two, Three, Four, Five}
use Rattle.instance_form.specs.Versions.{is_loaded, has_load, has_loads, marks_said}
use Rattle.instance_form.specs.Reading.{can_be_all, may_end}
use Rattle.instance_form.specs.Faults.{BeginsText}
use Rattle.instance_form.specs.InstanceText.{first_line, count_line, phase_line, head_line, cluster_line, cluster_lines, form_text, IsWritableHead}
use Rattle.instance_form.proofs.LineLaws.{IsSaidMark, IsSaidPhase, IsSaidLoad, IsSaidCluster}
use Rattle.instance_form.proofs.VersionLaws.{Says, text_of_version, said_ring, said_has_text}
use Rattle.instance_form.proofs.FormLaws.{regrouped_form}
use Rattle.instance_form.proofs.FaultLaws.{first_is_line, count_is_line, head_is_line, feeds_in_phases, feeds_in_lists}

-- ---- what goes on

-- a phase for each version; in versions 2 and 4 it is marked
abbrev mark_for : Version → Bool
mark_for One = false
mark_for Two = true
mark_for Three = false
mark_for Four = true
mark_for Five = false

abbrev pub no_phase : Version → Phase
no_phase v = record { least = 0; greatest = 0; yellow = 0; clear = 0; loss = 0; wait = 0; skip = mark_for v }

said_mark : (v : Version) → IsSaidMark v (mark_for v)
said_mark One = refl
said_mark Two = tt
said_mark Three = tt
said_mark Four = refl
said_mark Five = tt

said_no_phase : (v : Version) → IsSaidPhase v (no_phase v)
said_no_phase v = record {
  fits = record { least = omega arith; greatest = omega arith; yellow = omega arith; clear = omega arith; loss = omega arith; wait = omega arith };
  mark = said_mark v;
}

said_phases : (v : Version) (n : ℕ) → AllByRecursion (IsSaidPhase v) (replicate n (no_phase v))
said_phases v zero = tt
said_phases v (suc n) = (said_no_phase v, said_phases v n)

no_head : Head
no_head = record { phase = 0; since = 0; at = 0; fresh = false }

writable_no_head : IsWritableHead no_head
unfolding no_head
writable_no_head = record { phase = omega arith; since = omega arith; at = omega arith }

-- a cluster for each version; in version 3 its load is not its size
abbrev load_for : Version → ℕ
load_for One = 0
load_for Two = 0
load_for Three = 1
load_for Four = 0
load_for Five = 0

abbrev no_cluster : Version → Cluster
no_cluster v = record { size = 0; load = load_for v; arr = 0; len = 0 }

small_load : (v : Version) → load_for v < 2 ^ 32
small_load One = omega arith
small_load Two = omega arith
small_load Three = omega arith
small_load Four = omega arith
small_load Five = omega arith

said_load : (v : Version) → IsSaidLoad v 0 (load_for v)
said_load One = refl
said_load Two = refl
said_load Three = tt
said_load Four = tt
said_load Five = tt

said_no_cluster : (v : Version) → IsSaidCluster v (no_cluster v)
said_no_cluster v = record {
  fits = record { size = omega arith; load = small_load v; arr = omega arith; len = omega arith };
  load = said_load v;
}

-- no clusters for each of this many phases
said_no_lists : (v : Version) (n : ℕ) → AllByRecursion (AllByRecursion (IsSaidCluster v)) (replicate n [])
said_no_lists v zero = tt
said_no_lists v (suc n) = (tt, said_no_lists v n)

all-append : {A : Type 0} (P : A → Type 0) (xs ys : List A) → AllByRecursion P xs → AllByRecursion P ys → AllByRecursion P (xs ++ ys)
all-append P [] ys a b = b
all-append P (x ∷ xs) ys a b = (a.0, all-append P xs ys a.1 b)

-- ---- one cluster more

-- the lists with one more cluster at the end of the last
with_last : List (List Cluster) → Cluster → List (List Cluster)
with_last [] c = []
with_last (list ∷ []) c = (list ++ c ∷ []) ∷ []
with_last (list ∷ next ∷ lists) c = list ∷ with_last (next ∷ lists) c

last-length : (lists : List (List Cluster)) (c : Cluster) → length (with_last lists c) ≡ length lists
unfolding with_last
last-length [] c = refl
last-length (list ∷ []) c = refl
last-length (list ∷ next ∷ lists) c = ap suc (last-length (next ∷ lists) c)

last-said : (v : Version) (lists : List (List Cluster)) (c : Cluster) → AllByRecursion (AllByRecursion (IsSaidCluster v)) lists → IsSaidCluster v c → AllByRecursion (AllByRecursion (IsSaidCluster v)) (with_last lists c)
unfolding with_last
last-said v [] c said one = tt
last-said v (list ∷ []) c said one = (all-append (IsSaidCluster v) list (c ∷ []) said.0 (one, tt), tt)
last-said v (list ∷ next ∷ lists) c said one = (said.0, last-said v (next ∷ lists) c said.1 one)

last-loads : (lists : List (List Cluster)) (c : Cluster) → 1 ≤ length lists → has_load (c ∷ []) ≡ true → has_loads (with_last lists c) ≡ true
unfolding with_last
last-loads [] c some one = absurd (omega arith)
last-loads (list ∷ []) c some one =
    let loads : has_load (list ++ c ∷ []) ≡ true = list_any-append is_loaded list (c ∷ []) ∙ ap (λ b. has_load list || b) one ∙ or-true (has_load list) in
    ap (λ b. b || false) loads
last-loads (list ∷ next ∷ lists) c some one = rw (last-loads (next ∷ lists) c (omega arith) one) (or-true (has_load list))

last-ends : (v : Version) (lists : List (List Cluster)) → 1 ≤ length lists → may_end v (with_last lists (no_cluster v)) ≡ true
last-ends One lists some = refl
last-ends Two lists some = refl
last-ends Three lists some = last-loads lists (no_cluster Three) some refl
last-ends Four lists some = refl
last-ends Five lists some = refl

-- it is one line more
last-line : (v : Version) (k : ℕ) (lists : List (List Cluster)) (c : Cluster) → 1 ≤ length lists → (j : ℕ) × (cluster_lines v k (with_last lists c) ≡ cluster_lines v k lists ++ cluster_line v j c)
unfolding with_last
last-line v k [] c some = absurd (omega arith)
last-line v k (list ∷ []) c some = (k, simp (flat_map-append, append-nil))
last-line v k (list ∷ next ∷ lists) c some =
    let more = last-line v (k + 1) (next ∷ lists) c (omega arith) in
    (more.0, ap (λ (y : List ℕ). flat_map (cluster_line v k) list ++ y) more.1 ∙ sym (append_assoc (flat_map (cluster_line v k) list) (cluster_lines v (k + 1) (next ∷ lists)) (cluster_line v more.0 c)))

-- ---- the front up to a line

pub opening : Version → ℕ → List ℕ
opening v n = first_line v ++ count_line n

pub opening-append : (v : Version) (n : ℕ) (rest : List ℕ) → opening v n ++ rest ≡ first_line v ++ (count_line n ++ rest)
unfolding opening
opening-append v n rest = append_assoc (first_line v) (count_line n) rest

pub feeds_in_opening : (v : Version) (n : ℕ) → n ≤ 4 → line_feeds (opening v n) ≡ 2
unfolding opening
feeds_in_opening v n le = line_feeds-append (first_line v) (count_line n) ∙ omega (arith, line_feeds_once (first_line v) (first_is_line v), line_feeds_once (count_line n) (count_is_line n le))

-- all that a form says, up to the last line
pub body : (v : Version) (n : ℕ) (plan : List Phase) (h : Head) (lists : List (List Cluster)) → List ℕ
body v n plan h lists = (opening v n ++ flat_map (phase_line v) plan) ++ (head_line h ++ cluster_lines v 0 lists)

pub body-append : (v : Version) (n : ℕ) (plan : List Phase) (h : Head) (lists : List (List Cluster)) (rest : List ℕ)
    → body v n plan h lists ++ rest ≡ opening v n ++ (flat_map (phase_line v) plan ++ (head_line h ++ (cluster_lines v 0 lists ++ rest)))
unfolding body
body-append v n plan h lists rest =
    append_assoc (opening v n ++ flat_map (phase_line v) plan) (head_line h ++ cluster_lines v 0 lists) rest
    ∙ append_assoc (opening v n) (flat_map (phase_line v) plan) ((head_line h ++ cluster_lines v 0 lists) ++ rest)
    ∙ ap (λ (y : List ℕ). opening v n ++ (flat_map (phase_line v) plan ++ y)) (append_assoc (head_line h) (cluster_lines v 0 lists) rest)

-- what stands between the opening and the last line
pub feeds_in_body : (v : Version) (n : ℕ) (ps : List Phase) (h : Head) (lists : List (List Cluster)) → n ≤ 4 → length lists ≤ 4 → AllByRecursion (IsSaidPhase v) ps → IsWritableHead h → AllByRecursion (AllByRecursion (IsSaidCluster v)) lists
    → line_feeds (body v n ps h lists) ≡ 2 + length ps + 1 + sum_by (λ list. length list) lists
unfolding body
feeds_in_body v n ps h lists high few said small clusters =
    let whole = line_feeds-append (opening v n ++ flat_map (phase_line v) ps) (head_line h ++ cluster_lines v 0 lists) in
    let left = line_feeds-append (opening v n) (flat_map (phase_line v) ps) in
    let right = line_feeds-append (head_line h) (cluster_lines v 0 lists) in
    let one = line_feeds_once (head_line h) (head_is_line h small) in
    let each = feeds_in_lists v 0 lists (omega arith) clusters in
    omega (arith, whole, left, right, one, each, feeds_in_opening v n high, feeds_in_phases v ps said)

-- a text that goes on with one cluster, which lets it end
pub begins_body : (v : Version) (n : ℕ) (plan : List Phase) (h : Head) (lists : List (List Cluster)) → 2 ≤ n → n ≤ 4 → length plan ≡ n → length lists ≡ n → AllByRecursion (IsSaidPhase v) plan → can_be_all v plan ≡ true → IsWritableHead h
    → AllByRecursion (AllByRecursion (IsSaidCluster v)) lists → BeginsText (body v n plan h lists)
begins_body v n plan h lists low high len each said whole small clusters =
    let more = with_last lists (no_cluster v) in
    let line = last-line v 0 lists (no_cluster v) (omega arith) in
    let one = cluster_line v line.0 (no_cluster v) in
    let phases = flat_map (phase_line v) plan in
    let says : Says v plan more = record { phases = said; clusters = last-said v lists (no_cluster v) clusters (said_no_cluster v); whole = whole; ends = last-ends v lists (omega arith) } in
    let as_many = last-length lists (no_cluster v) in
    let tail = phases ++ (head_line h ++ (cluster_lines v 0 lists ++ (one ++ codes "end\n"))) in
    record {
      marks = marks_said v;
      plan = plan;
      head = h;
      lists = more;
      rest = one ++ codes "end\n";
      fits = said_has_text v plan h more (omega arith) (omega arith) (omega arith) small says;
      ring = said_ring v plan said;
      text = text_of_version v plan h more says ∙ sym (append-nil (form_text v plan h more)) ∙ regrouped_form v plan h more []
          ∙ ap (λ (y : List ℕ). first_line v ++ (count_line (length plan) ++ (phases ++ (head_line h ++ (y ++ codes "end\n"))))) line.1
          ∙ ap (λ (y : List ℕ). first_line v ++ (count_line (length plan) ++ (phases ++ (head_line h ++ y)))) (append_assoc (cluster_lines v 0 lists) one (codes "end\n"))
          ∙ ap (λ k. first_line v ++ (count_line k ++ tail)) len
          ∙ sym (opening-append v n tail) ∙ sym (body-append v n plan h lists (one ++ codes "end\n"));
    }

-- a front of what begins a text begins it
begins_front : (F more : List ℕ) → BeginsText (F ++ more) → BeginsText F
begins_front F more b = record { marks = b.marks; plan = b.plan; head = b.head; lists = b.lists; rest = more ++ b.rest; fits = b.fits; ring = b.ring; text = b.text ∙ append_assoc F more b.rest }

-- all phases
pub begins_plan : (v : Version) (n : ℕ) (ps : List Phase) → 2 ≤ n → n ≤ 4 → length ps ≡ n → AllByRecursion (IsSaidPhase v) ps → can_be_all v ps ≡ true → BeginsText (opening v n ++ flat_map (phase_line v) ps)
unfolding body
begins_plan v n ps low high len said whole =
    let lists : List (List Cluster) = replicate n [] in
    begins_front (opening v n ++ flat_map (phase_line v) ps) (head_line no_head ++ cluster_lines v 0 lists) (begins_body v n ps no_head lists low high len (length-replicate n []) said whole writable_no_head (said_no_lists v n))

-- fewer phases than all
few_whole : (v : Version) (ps : List Phase) (m : ℕ) → can_be_all v (ps ++ replicate (suc m) (no_phase v)) ≡ true
few_whole One ps m = refl
few_whole Two ps m = list_any-append (λ (p : Phase). p.skip) ps (replicate (suc m) (no_phase Two)) ∙ or-true _
few_whole Three ps m = refl
few_whole Four ps m = refl
few_whole Five ps m = refl

pub begins_phases : (v : Version) (n : ℕ) (ps : List Phase) → 2 ≤ n → n ≤ 4 → length ps < n → AllByRecursion (IsSaidPhase v) ps → BeginsText (opening v n ++ flat_map (phase_line v) ps)
begins_phases v n ps low high few said =
    let m = n - length ps - 1 in
    let more = replicate (suc m) (no_phase v) in
    let len : length (ps ++ more) ≡ n = length-append ps more ∙ omega (arith, length-replicate (suc m) (no_phase v)) in
    let all = all-append (IsSaidPhase v) ps more said (said_phases v (suc m)) in
    let joined : opening v n ++ flat_map (phase_line v) (ps ++ more) ≡ (opening v n ++ flat_map (phase_line v) ps) ++ flat_map (phase_line v) more =
    ap (λ (y : List ℕ). opening v n ++ y) (flat_map-append (phase_line v) ps more) ∙ sym (append_assoc (opening v n) (flat_map (phase_line v) ps) (flat_map (phase_line v) more)) in
    begins_front (opening v n ++ flat_map (phase_line v) ps) (flat_map (phase_line v) more) (subst BeginsText joined (begins_plan v n (ps ++ more) low high len all (few_whole v ps m)))

pub begins_first : (v : Version) → BeginsText (first_line v)
unfolding opening
begins_first v = begins_front (first_line v) (count_line 2 ++ []) (subst BeginsText (append_assoc (first_line v) (count_line 2) []) (begins_phases v 2 [] (omega arith) (omega arith) (omega arith) tt))

pub begins_none : BeginsText []
begins_none = begins_front [] (first_line One) (begins_first One)
