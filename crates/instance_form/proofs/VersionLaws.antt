-- The version of a text is the least that says its phases and clusters.
use Rattle.std.proofs.Common.{◌≡◌, ◌==◌, ℕ, ◌≤◌, Bool, true, false, not, cond, eqb, List, [], ◌∷◌, length, count_by, refl, ap, arith}
use Rattle.std.specs.List.{All, AllByRecursion}
use Rattle.std.proofs.lemmas.Bool.{or_parts, not-false, eqb-true, eq-eqb}
use Rattle.std.proofs.lemmas.List.Elements.{All-from_recursion, recursion_from_All, All-weaker}
use Rattle.std.proofs.lemmas.List.Sums.{sum_by-cons}
use Rattle.phase_plan.specs.Phases.{HasU32Times, is_unmarked, marks_of}
use Rattle.phase_plan.specs.declared.Marks.{Marks}
use Rattle.phase_plan.specs.declared.Marks.TheVariants as marked
use Rattle.phase_plan.specs.declared.Phase.{Phase}
use Rattle.switch_rules.specs.declared.Head.{Head}
use Rattle.switch_rules.specs.declared.Cluster.{Cluster}
use Rattle.instance_form.specs.declared.form.Version.{Version}
use Rattle.instance_form.specs.declared.form.Version.TheVariants.{One, Two, Three, Four, Five}
use Rattle.instance_form.specs.Versions.{has_marks, has_load, has_loads, marks_said, version_of}
use Rattle.instance_form.specs.Reading.{can_be_all, may_end}
use Rattle.instance_form.specs.InstanceText.{form_text, whole_text, IsMarkedWhere, IsWritableHead, IsWritableCluster, HasText}
use Rattle.instance_form.proofs.LineLaws.{IsSaidMark, IsSaidPhase, IsSaidLoad, IsSaidCluster}

-- the text of this version says all of these phases and clusters, and is no text without one of them
pub record Says (v : Version) (plan : List Phase) (lists : List (List Cluster)) : Type 0 where
  pub phases : AllByRecursion (IsSaidPhase v) plan
  pub clusters : AllByRecursion (AllByRecursion (IsSaidCluster v)) lists
  pub whole : can_be_all v plan ≡ true
  pub ends : may_end v lists ≡ true

-- ---- the version of phases and clusters says them

unmarked : (plan : List Phase) → has_marks plan ≡ false → AllByRecursion HasU32Times plan → AllByRecursion (IsSaidPhase One) plan
unmarked [] none fits = tt
unmarked (p ∷ ps) none fits =
    let t = or_parts p.skip (has_marks ps) none in
    (record { fits = fits.0; mark = t.0 }, unmarked ps t.1 fits.1)

marked_phases : (v : Version) → ((skip : Bool) → IsSaidMark v skip) → (plan : List Phase) → AllByRecursion HasU32Times plan → AllByRecursion (IsSaidPhase v) plan
marked_phases v says [] fits = tt
marked_phases v says (p ∷ ps) fits = (record { fits = fits.0; mark = says p.skip }, marked_phases v says ps fits.1)

unloaded_list : (v : Version) → ((size load : ℕ) → load ≡ size → IsSaidLoad v size load) → (list : List Cluster) → has_load list ≡ false → AllByRecursion IsWritableCluster list → AllByRecursion (IsSaidCluster v) list
unloaded_list v says [] none fits = tt
unloaded_list v says (c ∷ cs) none fits =
    let t = or_parts _ (has_load cs) none in
    (record { fits = fits.0; load = says c.size c.load (eqb-true c.load c.size (not-false (eqb c.load c.size) t.0)) }, unloaded_list v says cs t.1 fits.1)

unloaded : (v : Version) → ((size load : ℕ) → load ≡ size → IsSaidLoad v size load) → (lists : List (List Cluster)) → has_loads lists ≡ false → AllByRecursion (AllByRecursion IsWritableCluster) lists
    → AllByRecursion (AllByRecursion (IsSaidCluster v)) lists
unloaded v says [] none fits = tt
unloaded v says (cs ∷ ls) none fits =
    let t = or_parts (has_load cs) (has_loads ls) none in
    (unloaded_list v says cs t.0 fits.0, unloaded v says ls t.1 fits.1)

loaded_list : (v : Version) → ((size load : ℕ) → IsSaidLoad v size load) → (list : List Cluster) → AllByRecursion IsWritableCluster list → AllByRecursion (IsSaidCluster v) list
loaded_list v says [] fits = tt
loaded_list v says (c ∷ cs) fits = (record { fits = fits.0; load = says c.size c.load }, loaded_list v says cs fits.1)

loaded : (v : Version) → ((size load : ℕ) → IsSaidLoad v size load) → (lists : List (List Cluster)) → AllByRecursion (AllByRecursion IsWritableCluster) lists → AllByRecursion (AllByRecursion (IsSaidCluster v)) lists
loaded v says [] fits = tt
loaded v says (cs ∷ ls) fits = (loaded_list v says cs fits.0, loaded v says ls fits.1)

-- where none is unmarked, all are marked
all_marked : (plan : List Phase) → count_by is_unmarked plan ≡ 0 → AllByRecursion HasU32Times plan → AllByRecursion (IsSaidPhase Four) plan
all_marked [] none fits = tt
all_marked (p ∷ ps) none fits =
    let parts = sum_by-cons (λ (q : Phase). cond (is_unmarked q) 1 0) p ps in
    (record { fits = fits.0; mark = by p.skip (omega (arith, none, parts)) }, all_marked ps (omega (arith, none, parts)) fits.1)
  where
    by : (b : Bool) → ◌≡◌ {A = ℕ} (cond (not b) 1 0) 0 → b ≡ true
    by true e = refl
    by false e = absurd (omega (arith, e))

pub own_version : (marks : Marks) (plan : List Phase) (lists : List (List Cluster)) → AllByRecursion HasU32Times plan → IsMarkedWhere marks plan → AllByRecursion (AllByRecursion IsWritableCluster) lists → Says (version_of marks plan lists) plan lists
own_version marked.All plan lists fits ring small =
    record { phases = all_marked plan (eqb-true (count_by is_unmarked plan) 0 (ring refl)) fits; clusters = loaded Four (λ size load. tt) lists small; whole = refl; ends = refl }
own_version marked.AllButOne plan lists fits ring small =
    record { phases = marked_phases Five (λ skip. tt) plan fits; clusters = loaded Five (λ size load. tt) lists small; whole = refl; ends = refl }
own_version marked.Fewer plan lists fits ring small = by_tests (has_loads lists) (has_marks plan) refl refl
  where
    by_tests : (loads marks : Bool) → has_loads lists ≡ loads → has_marks plan ≡ marks → Says (cond loads Three (cond marks Two One)) plan lists
    by_tests true marks l m = record { phases = marked_phases Three (λ skip. tt) plan fits; clusters = loaded Three (λ size load. tt) lists small; whole = refl; ends = l }
    by_tests false true l m = record { phases = marked_phases Two (λ skip. tt) plan fits; clusters = unloaded Two (λ size load e. e) lists l small; whole = m; ends = refl }
    by_tests false false l m = record { phases = unmarked plan m fits; clusters = unloaded One (λ size load e. e) lists l small; whole = refl; ends = refl }

-- it says how many are marked
pub said_again : (marks : Marks) (plan : List Phase) (lists : List (List Cluster)) → marks_said (version_of marks plan lists) ≡ marks
said_again marked.All plan lists = refl
said_again marked.AllButOne plan lists = refl
said_again marked.Fewer plan lists = by_tests (has_loads lists) (has_marks plan)
  where
    by_tests : (loads marks : Bool) → marks_said (cond loads Three (cond marks Two One)) ≡ marked.Fewer
    by_tests true marks = refl
    by_tests false true = refl
    by_tests false false = refl

-- ---- and no other version does

no_marks : (plan : List Phase) → AllByRecursion (IsSaidPhase One) plan → has_marks plan ≡ false
no_marks [] said = refl
no_marks (p ∷ ps) said = rw said.0.mark (no_marks ps said.1)

no_load : (v : Version) → ((size load : ℕ) → IsSaidLoad v size load → load ≡ size) → (list : List Cluster) → AllByRecursion (IsSaidCluster v) list → has_load list ≡ false
no_load v says [] said = refl
no_load v says (c ∷ cs) said = rw (eq-eqb c.load c.size (says c.size c.load said.0.load)) (no_load v says cs said.1)

no_loads : (v : Version) → ((size load : ℕ) → IsSaidLoad v size load → load ≡ size) → (lists : List (List Cluster)) → AllByRecursion (AllByRecursion (IsSaidCluster v)) lists → has_loads lists ≡ false
no_loads v says [] said = refl
no_loads v says (cs ∷ ls) said = rw (no_load v says cs said.0) (no_loads v says ls said.1)

pub no_other_version : (v : Version) (plan : List Phase) (lists : List (List Cluster)) → Says v plan lists → version_of (marks_said v) plan lists ≡ v
no_other_version One plan lists says = rw (no_loads One (λ size load e. e) lists says.clusters, no_marks plan says.phases) refl
no_other_version Two plan lists says = rw (no_loads Two (λ size load e. e) lists says.clusters, says.whole) refl
no_other_version Three plan lists says = rw says.ends refl
no_other_version Four plan lists says = refl
no_other_version Five plan lists says = refl

-- the text of phases and clusters that a version says is their one text
pub text_of_version : (v : Version) (plan : List Phase) (h : Head) (lists : List (List Cluster)) → Says v plan lists → whole_text (marks_said v) plan h lists ≡ form_text v plan h lists
unfolding whole_text
text_of_version v plan h lists says = ap (λ w. form_text w plan h lists) (no_other_version v plan lists says)

-- where a version says that all phases are marked, they are
none_unmarked : (plan : List Phase) → AllByRecursion (IsSaidPhase Four) plan → count_by is_unmarked plan ≡ 0
none_unmarked [] said = refl
none_unmarked (p ∷ ps) said =
    omega (arith, sum_by-cons (λ (q : Phase). cond (is_unmarked q) 1 0) p ps, ap {B = ℕ} (λ b. cond (not b) 1 0) said.0.mark, none_unmarked ps said.1)

pub said_ring : (v : Version) (plan : List Phase) → AllByRecursion (IsSaidPhase v) plan → IsMarkedWhere (marks_said v) plan
said_ring One plan said e = absurd cc
said_ring Two plan said e = absurd cc
said_ring Three plan said e = absurd cc
said_ring Four plan said e = eq-eqb (count_by is_unmarked plan) 0 (none_unmarked plan said)
said_ring Five plan said e = absurd cc

-- phases that are said to be marked as they are
pub own-marks : (plan : List Phase) → IsMarkedWhere (marks_of plan) plan
own-marks plan = by (count_by is_unmarked plan == 0) (count_by is_unmarked plan == 1)
  where
    by : (all but_one : Bool) → cond all marked.All (cond but_one marked.AllButOne marked.Fewer) ≡ marked.All → all ≡ true
    by true but_one e = refl
    by false true e = absurd cc
    by false false e = absurd cc

-- ---- what has a text

-- lists whose elements are all so, within lists
all_within : {A : Type 0} (P : A → Type 0) (xss : List (List A)) → AllByRecursion (AllByRecursion P) xss → AllByRecursion (All P) xss
all_within P [] h = tt
all_within P (xs ∷ xss) h = (All-from_recursion P xs h.0, all_within P xss h.1)

recursion_within : {A : Type 0} (P : A → Type 0) (xss : List (List A)) → AllByRecursion (All P) xss → AllByRecursion (AllByRecursion P) xss
recursion_within P [] h = tt
recursion_within P (xs ∷ xss) h = (recursion_from_All P xs h.0, recursion_within P xss h.1)

-- a form that has a text is said by its version
pub says_own : (marks : Marks) (plan : List Phase) (h : Head) (lists : List (List Cluster)) → HasText plan h lists → IsMarkedWhere marks plan → Says (version_of marks plan lists) plan lists
says_own marks plan h lists fits ring = own_version marks plan lists (recursion_from_All HasU32Times plan fits.phases) ring (recursion_within IsWritableCluster lists (recursion_from_All (All IsWritableCluster) lists fits.clusters))

-- and what a version says has a text
pub said_has_text : (v : Version) (plan : List Phase) (h : Head) (lists : List (List Cluster)) → 2 ≤ length plan → length plan ≤ 4 → length lists ≡ length plan → IsWritableHead h → Says v plan lists → HasText plan h lists
said_has_text v plan h lists low high each small says = record {
  count = (low, high);
  each = each;
  phases = All-weaker (IsSaidPhase v) HasU32Times (λ p said. said.fits) plan (All-from_recursion (IsSaidPhase v) plan says.phases);
  head = small;
  clusters = All-weaker (All (IsSaidCluster v)) (All IsWritableCluster) (λ cs said. All-weaker (IsSaidCluster v) IsWritableCluster (λ c one. one.fits) cs said) lists
      (All-from_recursion (All (IsSaidCluster v)) lists (all_within (IsSaidCluster v) lists says.clusters));
}
