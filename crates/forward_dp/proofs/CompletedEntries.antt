-- The completions of the entries of a whole table, and the answer that they give.
use Rattle.std.proofs.Common.{◌≡◌, ℕ, zero, suc, ◌+◌, ◌-◌, ◌*◌, ◌^◌, ◌<◌, ◌≤◌, ◌⊎◌, Bool, true, false, List, [], ◌∷◌, ◌++◌, length, get_or, sum, All, Contains, Option, Some, None, IfSome, refl, sym, ap, subst, ◌∙◌, inl, inr, append_assoc, length-append, arith}
use Rattle.std.specs.Prelude.{option_and_then}
use Rattle.std.proofs.lemmas.Bool.{cases_eq, cases_lt}
use Rattle.std.proofs.lemmas.List.{append-nil, get_or_append_left, get_or_default}
use Rattle.std.proofs.lemmas.Option.{none-some}
use Rattle.schedule_meaning.specs.Best.{IsBest}
use Rattle.schedule_meaning.specs.Instances.{Problem, IsInstance, counts_of, list_at}
use Rattle.schedule_meaning.specs.Timing.{delay_of}
use Rattle.schedule_meaning.specs.declared.planners.Answer.{Answer}
use Rattle.schedule_meaning.specs.declared.planners.Answer.TheVariants.{Plan, NoPlan}
use Rattle.schedule_meaning.proofs.Sequences.{get_or-counts, option-cases}
use Rattle.dp_certificate.specs.Certificates.{IsBefore, IsEntry, digits_of, entry_at, no_entry}
use Rattle.dp_certificate.specs.NextEntry.{stage_of_next}
use Rattle.dp_certificate.specs.Places.{IsPlace}
use Rattle.dp_certificate.specs.Prefixes.{Key, Stage, first_stage, key_of, one_more, stage_after, stage_of}
use Rattle.dp_certificate.specs.Proves.{HasEntry, key_of_entry, stage_of_entry}
use Rattle.dp_certificate.specs.Whole.{IsOfPrefix, IsWhole}
use Rattle.dp_certificate.specs.declared.Entry.{Entry}
use Rattle.dp_certificate.proofs.KeyPlaces.{before-both, before-itself, digits_of_key, entry-there, rise-far}
use Rattle.dp_certificate.proofs.Stages.{delay-of-stage, ends-delay, stage-after-phase, stage-alike, stage-push}
use Rattle.forward_dp.specs.Completions.{AreCompletions, BeginsBelow, Completes, Follows, IsAfter, IsBestBelow, IsBetter, IsCheapest, IsCompletion, IsFollowed, IsNever, completion_at, cost_of}
use Rattle.forward_dp.specs.Numbers.{order_number}
use Rattle.forward_dp.specs.declared.completions.Completion.{Completion}
use Rattle.forward_dp.specs.declared.completions.Completion.TheVariants.{Never, Complete, By}
use Rattle.forward_dp.proofs.Bounds.{IsStage, first-bounds, stage-bounds, sum-le}
use Rattle.forward_dp.proofs.Completing.{begins-all, completes-few, step-best, with_delay}
use Rattle.forward_dp.proofs.OrderLaws.{best-none, best-plan}
use Rattle.forward_dp.proofs.RowLaws.{entry-stage, step-counts}
use Rattle.forward_dp.proofs.Wholes.{entry-bounds}

-- counts are before those with one more of a phase
counts-before : (cs : List ℕ) (k : ℕ) (us vs : List ℕ) → k < length cs → IsBefore (cs ++ us) (one_more cs k ++ vs)
counts-before [] k us vs h = absurd (omega arith)
counts-before (c ∷ cs) zero us vs h = inl (omega arith)
counts-before (c ∷ cs) (suc k) us vs h = inr (refl, counts-before cs k us vs (omega arith))

if-holds : {X : Type 0} (P : X → Type 0) (o : Option X) (x : X) → o ≡ Some x → IfSome o P → P x
if-holds P o x e h = subst (λ o. IfSome o P) e h

pub not-true : (b : Bool) {X : Type 0} → b ≡ false → (X → b ≡ true) → X → ⊥
not-true b e f x = (let t = f x in absurd (cc))

module _ (p : Problem) (lawful : IsInstance p) (entries : List Entry) (table : IsWhole p entries) where
  -- each entry is that of a prefix
  pub entry-led : (place : ℕ) → place < length entries → (u : List ℕ) × (stage_of p u ≡ Some (stage_of_entry p (entry_at entries place)))
  entry-led place inside =
      let e = entry_at entries place in
      let o : IsOfPrefix p e = table.each place no_entry inside in
      let same : stage_of_entry p e ≡ o.stage = entry-stage p lawful o.prefix o.stage e o.leads o.key ∙ ap (with_delay o.stage) o.delay in
      (o.prefix, o.leads ∙ ap (λ (s : Stage). let x : Option Stage = Some s in x) (sym same))

  pub entry-here : (place : ℕ) (d : Entry) → place < length entries → get_or entries place d ≡ entry_at entries place
  entry-here place d inside = get_or_default entries place d no_entry inside

  pub bounds-here : (place : ℕ) (d : Entry) → place < length entries → IsEntry p (get_or entries place d)
  bounds-here place d inside = entry-bounds p lawful (get_or entries place d) (table.each place d inside)

  -- where the entry is that is next after one
  module _ (place : ℕ) (inside : place < length entries) (k : ℕ) (x : Entry) (leads : stage_after p (stage_of_entry p (entry_at entries place)) k ≡ Some (stage_of_next x)) (few : x.delay ≤ 60000000000000) (there : ℕ) (is : IsPlace entries x there) where
    next-led : (u : List ℕ) × (stage_of p u ≡ Some (stage_of_next x))
    next-led =
        let led = entry-led place inside in
        (led.0 ++ k ∷ [], stage-push p (first_stage p) led.0 k ∙ ap (option_and_then (λ s. stage_after p s k)) led.1 ∙ leads)

    found : (there < length entries) × (key_of_entry (entry_at entries there) ≡ key_of_entry x) × ((entry_at entries there).delay ≤ x.delay)
    found =
        let led = next-led in
        entry-there entries x there x.delay table.rising is (if-holds (λ s. HasEntry entries (key_of s) s.delay) (stage_of p led.0) (stage_of_next x) led.1 (table.all led.0))

    ahead : IsBefore (digits_of (entry_at entries place)) (digits_of x)
    ahead =
        let e = entry_at entries place in
        let led = entry-led place inside in
        let b : IsStage p (length led.0) (stage_of_entry p e) = stage-bounds p lawful led.0 (stage_of_entry p e) led.1 in
        let inside_k : k < length e.counts = omega (arith, b.places, stage-after-phase p lawful (stage_of_entry p e) (stage_of_next x) k leads, lawful.plan.count.1) in
        let counts : one_more e.counts k ≡ x.counts = step-counts p (stage_of_entry p e) (stage_of_next x) k leads in
        subst (λ cs. IsBefore (digits_of e) (cs ++ x.phase ∷ x.since ∷ x.at ∷ [])) counts (counts-before e.counts k (e.phase ∷ e.since ∷ e.at ∷ []) (x.phase ∷ x.since ∷ x.at ∷ []) inside_k)

    later : place < there
    later =
        let same : digits_of (entry_at entries there) ≡ digits_of x = ap digits_of_key found.1 in
        elim (cases_lt place there) [
          | inl less ↦ less
          | inr up ↦
              absurd (elim (cases_eq there place) [
                | inl equal ↦ before-itself (digits_of x) (subst (λ ds. IsBefore ds (digits_of x)) (ap (λ n. digits_of (entry_at entries n)) (sym equal) ∙ same) ahead)
                | inr other ↦
                    before-itself (digits_of x) (before-both (digits_of x) (digits_of (entry_at entries place)) (digits_of x)
                    (subst (λ ds. IsBefore ds (digits_of (entry_at entries place))) same (rise-far entries table.rising there place (omega arith) inside)) ahead)
              ])
        ]

    pub rises : (entry_at entries place).delay ≤ x.delay
    rises = (let one = stage-alike p (stage_of_entry p (entry_at entries place)) 0 k (stage_of_next x) leads in omega (arith, one.1))

    pub after-is : IsAfter p entries place k there (x.delay - (entry_at entries place).delay)
    after-is = record {
      next = stage_of_next x;
      leads = leads;
      rise = omega (arith, rises);
      few = omega (arith, few);
      later = later;
      within = found.0;
      key = found.1;
    }

  -- ---- one entry

  module _ (place : ℕ) (inside : place < length entries) (all : List Completion) (count : length all + place + 1 ≡ length entries) (are : AreCompletions p entries all) (k there cost : ℕ) (after : IsAfter p entries place k there cost) where
    there-completion : IsCompletion p all (with_delay after.next (entry_at entries there).delay) (completion_at all (length entries - 1 - there))
    there-completion =
        let led = entry-led place inside in
        let leads : stage_of p (led.0 ++ k ∷ []) ≡ Some after.next = stage-push p (first_stage p) led.0 k ∙ ap (option_and_then (λ s. stage_after p s k)) led.1 ∙ after.leads in
        let back : length entries - 1 - (length entries - 1 - there) ≡ there = omega (arith, after.within) in
        let here = are (length entries - 1 - there) (omega (arith, after.later, after.within)) in
        subst (λ s. IsCompletion p all s (completion_at all (length entries - 1 - there)))
        (ap (λ n. stage_of_entry p (entry_at entries n)) back ∙ entry-stage p lawful (led.0 ++ k ∷ []) after.next (entry_at entries there) leads after.key) here

    pub after-small : IfSome (cost_of (completion_at all (length entries - 1 - there))) (λ left. cost + left < 2 ^ 64)
    after-small = if-small (completion_at all (length entries - 1 - there)) there-completion
      where
        if-small : (c : Completion) → IsCompletion p all (with_delay after.next (entry_at entries there).delay) c → IfSome (cost_of c) (λ left. cost + left < 2 ^ 64)
        if-small c (inl never) = subst (λ o. IfSome o (λ left. cost + left < 2 ^ 64)) (sym never.value) tt
        if-small c (inr cheap) =
            let led = entry-led there after.within in
            let next_led = entry-led place inside in
            let leads : stage_of p (next_led.0 ++ k ∷ []) ≡ Some after.next = stage-push p (first_stage p) next_led.0 k ∙ ap (option_and_then (λ s. stage_after p s k)) next_led.1 ∙ after.leads in
            let b : IsStage p (length led.0) (stage_of_entry p (entry_at entries there)) = stage-bounds p lawful led.0 (stage_of_entry p (entry_at entries there)) led.1 in
            let same : stage_of_entry p (entry_at entries there) ≡ with_delay after.next (entry_at entries there).delay = entry-stage p lawful (next_led.0 ++ k ∷ []) after.next (entry_at entries there) leads after.key in
            let little = completes-few p lawful (length led.0) (with_delay after.next (entry_at entries there).delay) (subst (IsStage p (length led.0)) same b) cheap.rest cheap.cost cheap.completes in
            subst (λ o. IfSome o (λ left. cost + left < 2 ^ 64)) (sym cheap.value) (omega (arith, little.0, after.few))

    pub step-entry : (best result : Completion) → IsBetter best k cost (length entries - 1 - there) (completion_at all (length entries - 1 - there)) result → IsBestBelow p all (stage_of_entry p (entry_at entries place)) k best → IsBestBelow p all (stage_of_entry p (entry_at entries place)) (k + 1) result
    step-entry best result better so =
        let led = entry-led place inside in
        step-best p lawful (length led.0) (stage_of_entry p (entry_at entries place)) (stage-bounds p lawful led.0 (stage_of_entry p (entry_at entries place)) led.1) k after.next after.leads cost after.rise all (entry_at entries there).delay
        (length entries - 1 - there) (omega (arith, after.later, after.within)) (completion_at all (length entries - 1 - there)) refl best result better there-completion so

-- ---- one completion more

follows-more : (all : List Completion) (x c : Completion) (rest : List ℕ) (cost : ℕ) → Follows all c rest cost → Follows (all ++ x ∷ []) c rest cost
follows-more all x Never rest cost f = f
follows-more all x Complete [] cost f = f
follows-more all x Complete (k ∷ ks) cost f = f
follows-more all x (By own phase next) [] cost f = f
follows-more all x (By own phase next) (k ∷ ks) cost f = (
  f.0,
  f.1,
  omega (arith, f.2, length-append all (x ∷ [])),
  f.3,
  subst (λ c. Follows (all ++ x ∷ []) c ks f.3) (sym (get_or_append_left all (x ∷ []) Never next f.2)) (follows-more all x (completion_at all next) ks f.3 f.4),
)

best-more : (p : Problem) (all : List Completion) (x : Completion) (s : Stage) (n : ℕ) (c : Completion) → IsBestBelow p all s n c → IsBestBelow p (all ++ x ∷ []) s n c
best-more p all x s n c (inl never) = inl never
best-more p all x s n c (inr cheap) = inr (record { rest = cheap.rest; cost = cheap.cost; value = cheap.value; follows = follows-more all x c cheap.rest cheap.cost cheap.follows; completes = cheap.completes; begins = cheap.begins; least = cheap.least })

last-one : (all : List Completion) (x : Completion) → completion_at (all ++ x ∷ []) (length all) ≡ x
last-one [] x = refl
last-one (y ∷ all) x = last-one all x

pub completions-more : (p : Problem) (entries : List Entry) (all : List Completion) (x : Completion) (place : ℕ) → length all + place + 1 ≡ length entries → AreCompletions p entries all → IsCompletion p all (stage_of_entry p (entry_at entries place)) x → AreCompletions p entries (all ++ x ∷ [])
completions-more p entries all x place count are is far inside = elim (cases_lt far (length all)) [
  | inl less ↦
      subst (IsCompletion p (all ++ x ∷ []) (stage_of_entry p (entry_at entries (length entries - 1 - far)))) (sym (get_or_append_left all (x ∷ []) Never far less))
      (best-more p all x (stage_of_entry p (entry_at entries (length entries - 1 - far))) (length p.plan) (completion_at all far) (are far less))
  | inr up ↦
      let last : far ≡ length all = omega (arith, inside, length-append all (x ∷ [])) in
      let at : place ≡ length entries - 1 - far = omega (arith, count, last) in
      subst (IsCompletion p (all ++ x ∷ []) (stage_of_entry p (entry_at entries (length entries - 1 - far)))) (sym (ap (completion_at (all ++ x ∷ [])) last ∙ last-one all x))
      (subst (λ n. IsCompletion p (all ++ x ∷ []) (stage_of_entry p (entry_at entries n)) x) at (best-more p all x (stage_of_entry p (entry_at entries place)) (length p.plan) x is))
]

-- ---- the first stage

module _ (p : Problem) (lawful : IsInstance p) (entries : List Entry) (table : IsWhole p entries) (root : Entry) (key : key_of_entry root ≡ key_of (first_stage p)) (place : ℕ) (is : IsPlace entries root place) where
  root-found : (place < length entries) × (key_of_entry (entry_at entries place) ≡ key_of_entry root) × ((entry_at entries place).delay ≤ 0)
  root-found = entry-there entries root place 0 table.rising is (subst (λ k. HasEntry entries k 0) (sym key) (table.all []))

  pub root-inside : place < length entries
  root-inside = root-found.0

  root-stage : stage_of_entry p (entry_at entries place) ≡ first_stage p
  root-stage =
      let none : (entry_at entries place).delay ≡ 0 = omega (arith, root-found.2) in
      entry-stage p lawful [] (first_stage p) (entry_at entries place) refl (root-found.1 ∙ key) ∙ ap (with_delay (first_stage p)) none

  pub first-completion : (all : List Completion) → length all ≡ length entries → AreCompletions p entries all → IsCompletion p all (first_stage p) (completion_at all (length entries - 1 - place))
  first-completion all count are =
      let back : length entries - 1 - (length entries - 1 - place) ≡ place = omega (arith, root-inside) in
      subst (λ s. IsCompletion p all s (completion_at all (length entries - 1 - place))) (ap (λ n. stage_of_entry p (entry_at entries n)) back ∙ root-stage) (are (length entries - 1 - place) (omega (arith, root-inside, count)))

-- ---- following completions

-- the phases so far and those to come are all of them
pub record IsFollowing (all : List Completion) (first here : Completion) (sequence : List ℕ) (done most : ℕ) : Type 0 where
  pub whole : List ℕ
  pub cost : ℕ
  pub follows : Follows all first whole cost
  pub rest : List ℕ
  pub left : ℕ
  pub ahead : Follows all here rest left
  pub parts : whole ≡ sequence ++ rest
  pub few : done + length rest ≤ most

pub start : (all : List Completion) (first : Completion) (most : ℕ) → IsFollowed all first most → IsFollowing all first first [] 0 most
start all first most f = record { whole = f.rest; cost = f.cost; follows = f.follows; rest = f.rest; left = f.cost; ahead = f.follows; parts = refl; few = omega (arith, f.few) }

pub one-more : (all : List Completion) (first : Completion) (sequence : List ℕ) (done most own phase next : ℕ) → IsFollowing all first (By own phase next) sequence done most → (next < length all) × IsFollowing all first (completion_at all next) (sequence ++ phase ∷ []) (done + 1) most
one-more all first sequence done most own phase next f = more f.rest f.ahead f.parts f.few
  where
    more : (rest : List ℕ) → Follows all (By own phase next) rest f.left → f.whole ≡ sequence ++ rest → done + length rest ≤ most → (next < length all) × IsFollowing all first (completion_at all next) (sequence ++ phase ∷ []) (done + 1) most
    more [] a e few = absurd a
    more (k ∷ ks) a e few = (
      a.2,
      record {
        whole = f.whole;
        cost = f.cost;
        follows = f.follows;
        rest = ks;
        left = a.3;
        ahead = a.4;
        parts = e ∙ ap (λ n. sequence ++ n ∷ ks) (sym a.1) ∙ sym (append_assoc sequence (phase ∷ []) ks);
        few = omega arith;
      },
    )

to-end : (all : List Completion) (first here : Completion) (sequence : List ℕ) (done most : ℕ) (f : IsFollowing all first here sequence done most) → f.rest ≡ [] → (cost : ℕ) × Follows all first sequence cost
to-end all first here sequence done most f none = (f.cost, subst (λ xs. Follows all first xs f.cost) (f.parts ∙ ap (λ xs. sequence ++ xs) none ∙ append-nil sequence) f.follows)

pub ends-after : (all : List Completion) (first here : Completion) (sequence : List ℕ) (done most : ℕ) → most ≤ done → IsFollowing all first here sequence done most → (cost : ℕ) × Follows all first sequence cost
ends-after all first here sequence done most past f = to-end all first here sequence done most f (none f.rest (omega (arith, f.few)))
  where
    none : (xs : List ℕ) → length xs ≤ 0 → xs ≡ []
    none [] h = refl
    none (x ∷ xs) h = absurd (omega arith)

pub ends-complete : (all : List Completion) (first here : Completion) (sequence : List ℕ) (done most : ℕ) → ((own phase next : ℕ) → here ≡ By own phase next → ⊥) → IsFollowing all first here sequence done most → (cost : ℕ) × Follows all first sequence cost
ends-complete all first here sequence done most other f = to-end all first here sequence done most f (none here f.rest other f.ahead)
  where
    none : (c : Completion) (xs : List ℕ) → ((own phase next : ℕ) → c ≡ By own phase next → ⊥) → Follows all c xs f.left → xs ≡ []
    none Never xs o a = absurd a
    none Complete [] o a = refl
    none Complete (k ∷ ks) o a = absurd a
    none (By own phase next) xs o a = absurd (o own phase next refl)

-- completions give one sequence
follows-one : (all : List Completion) (c : Completion) (xs ys : List ℕ) (m n : ℕ) → Follows all c xs m → Follows all c ys n → xs ≡ ys
follows-one all Never xs ys m n a b = absurd a
follows-one all Complete [] [] m n a b = refl
follows-one all Complete [] (y ∷ ys) m n a b = absurd b
follows-one all Complete (x ∷ xs) ys m n a b = absurd a
follows-one all (By own phase next) [] ys m n a b = absurd a
follows-one all (By own phase next) (x ∷ xs) [] m n a b = absurd b
follows-one all (By own phase next) (x ∷ xs) (y ∷ ys) m n a b = ap (λ k. k ∷ xs) (sym a.1 ∙ b.1) ∙ ap (λ ks. y ∷ ks) (follows-one all (completion_at all next) xs ys a.3 b.3 a.4 b.4)

-- ---- the answer

completes-delay : (p : Problem) → IsInstance p → (s : List ℕ) (d : ℕ) → delay_of p s ≡ Some d → Completes p (first_stage p) s d
completes-delay p lawful s d e = let there = ends-delay p lawful s d e in record { end = there.end; leads = there.leads; delay = there.delay; all = there.all }

pub no-answer : (p : Problem) (all : List Completion) (c : Completion) → IsInstance p → cost_of c ≡ None → IsCompletion p all (first_stage p) c → IsBest p NoPlan
no-answer p all c lawful value (inl never) = best-none p (λ s. option-cases (delay_of p s) (λ none. none) (λ d e. absurd (never.none s d (completes-delay p lawful s d e) (begins-all p lawful (first_stage p) s d (completes-delay p lawful s d e)))))
no-answer p all c lawful value (inr cheap) = absurd (none-some cheap.cost (sym value ∙ cheap.value))

if-each : {X : Type 0} (P : X → Type 0) (o : Option X) → ((x : X) → o ≡ Some x → P x) → IfSome o P
if-each P None h = tt
if-each P (Some x) h = h x refl

delay-of-completes : (p : Problem) → IsInstance p → (rest : List ℕ) (cost : ℕ) → Completes p (first_stage p) rest cost → delay_of p rest ≡ Some cost
delay-of-completes p lawful rest cost c =
    let b : IsStage p (length rest) c.end = stage-bounds p lawful rest c.end c.leads in
    delay-of-stage p lawful rest c.end c.leads (total c.end.counts c.all (length rest) b.total) ∙ ap (λ n. let o : Option ℕ = Some n in o) (omega (arith, c.delay))
  where
    total : (cs : List ℕ) → ((k : ℕ) → get_or cs k 0 ≡ length (list_at p.lists k)) → (n : ℕ) → sum cs ≡ n → n ≡ sum (counts_of p.lists)
    total cs full n is =
        let same : (k : ℕ) → get_or cs k 0 ≡ get_or (counts_of p.lists) k 0 = λ k. full k ∙ sym (get_or-counts p.lists k) in
        omega (arith, is, sum-le cs (counts_of p.lists) (λ k. omega (arith, same k)), sum-le (counts_of p.lists) cs (λ k. omega (arith, same k)))

pub some-answer : (p : Problem) (all : List Completion) (c : Completion) (delay : ℕ) (sequence : List ℕ) (cost : ℕ) → IsInstance p → cost_of c ≡ Some delay → Follows all c sequence cost → IsCompletion p all (first_stage p) c → IsBest p (Plan sequence delay)
some-answer p all c delay sequence cost lawful value follows (inl never) = absurd (none-some delay (sym never.value ∙ value))
some-answer p all c delay sequence cost lawful value follows (inr cheap) =
    let same_cost : cheap.cost ≡ delay = one-value cheap.cost delay (sym cheap.value ∙ value) in
    let same : cheap.rest ≡ sequence = follows-one all c cheap.rest sequence cheap.cost cost cheap.follows follows in
    subst (λ xs. IsBest p (Plan xs delay)) same (subst (λ d. IsBest p (Plan cheap.rest d)) same_cost (best-plan p cheap.rest cheap.cost (omega (arith, lawful.lists, lawful.plan.count.1)) (delay-of-completes p lawful cheap.rest cheap.cost cheap.completes)
    (λ s. if-each (λ e. (cheap.cost < e) ⊎ ((cheap.cost ≡ e) × (order_number cheap.rest ≤ order_number s))) (delay_of p s) (λ d e. cheap.least s d (completes-delay p lawful s d e) (begins-all p lawful (first_stage p) s d (completes-delay p lawful s d e))))))
  where
    one-value : (a b : ℕ) → Some a ≡ Some b → a ≡ b
    one-value a b e = cc

-- what is to be followed has few phases
pub followed : (p : Problem) (all : List Completion) (c : Completion) (delay : ℕ) → IsInstance p → cost_of c ≡ Some delay → IsCompletion p all (first_stage p) c → IsFollowed all c 40
followed p all c delay lawful value (inl never) = absurd (none-some delay (sym never.value ∙ value))
followed p all c delay lawful value (inr cheap) = record {
  rest = cheap.rest;
  cost = cheap.cost;
  follows = cheap.follows;
  few = (let little = completes-few p lawful 0 (first_stage p) (first-bounds p lawful) cheap.rest cheap.cost cheap.completes in omega (arith, little.1));
}

-- servings for one place more
pub fewer-servings : (new old phases place most : ℕ) → 0 < place → new ≤ old + phases → old + phases * place ≤ most → new + phases * (place - 1) ≤ most
fewer-servings new old phases zero most some now before = absurd (omega arith)
fewer-servings new old phases (suc place) most some now before =
    let back : suc place - 1 ≡ place = omega arith in
    subst (λ n. new + phases * n ≤ most) (sym back) (omega (arith, now, before))

pub none-value : {X : Type 0} (o v : Option X) → ((x : X) → o ≡ Some x → ⊥) → o ≡ v → v ≡ None
none-value None v none e = sym e
none-value (Some x) v none e = absurd (none x refl)
