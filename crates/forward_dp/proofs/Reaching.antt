-- What the first rows of a source reach, row by row, and all of them in the end.
use Rattle.std.proofs.Common.{◌≡◌, ℕ, ◌+◌, ◌-◌, ◌*◌, ◌<◌, ◌≤◌, ◌⊎◌, Bool, true, false, List, ◌++◌, length, get_or, Contains, Option, Some, IfSome, Result, Ok, refl, sym, ap, subst, ◌∙◌, inl, inr, arith}
use Rattle.std.proofs.lemmas.Bool.{cases_eq, cases_lt, cases_Bool}
use Rattle.std.proofs.lemmas.Option.{none-some, same_Some}
use Rattle.phase_plan.specs.Phases.{phase_at}
use Rattle.switch_rules.specs.Serving.{serving}
use Rattle.switch_rules.specs.declared.Cluster.{Cluster}
use Rattle.switch_rules.specs.declared.Head.{Head}
use Rattle.switch_rules.specs.declared.Served.{Served}
use Rattle.switch_rules.specs.declared.Unfit.{Unfit}
use Rattle.dp_certificate.proofs.Servings.{ok-same}
use Rattle.dp_certificate.proofs.Stages.{step-begins}
use Rattle.schedule_meaning.specs.Instances.{Problem, IsInstance}
use Rattle.phase_plan.specs.Phases.{no_phase}
use Rattle.dp_certificate.specs.Prefixes.{Stage, stage_after}
use Rattle.dp_certificate.specs.declared.Entry.{Entry}
use Rattle.dp_certificate.specs.Certificates.{head_of}
use Rattle.dp_certificate.specs.NextEntry.{stage_of_next}
use Rattle.dp_certificate.specs.Limits.{IsWithin}
use Rattle.dp_certificate.specs.Proves.{stage_of_entry}
use Rattle.forward_dp.specs.Greens.{IsNewGreen, IsShaped}
use Rattle.forward_dp.specs.Groups.{AreJoined, AreMade, AreReachedBy, HasPlaced, IsArrival, IsEmpty, IsSource, no_row, row_at}
use Rattle.forward_dp.specs.Rows.{AreBestOf, AreLater, AreRisingPlaces, AreUpTo, HasRow, IsNoWorse, IsOffered, IsPlaced, row_in, time_of}
use Rattle.forward_dp.specs.declared.groups.Reached.{Reached}
use Rattle.forward_dp.specs.declared.rows.Row.{Row}
use Rattle.forward_dp.proofs.Keeping.{best-more, no-worse-trans}
use Rattle.forward_dp.proofs.Shapes.{kept-rises, new-rises, new-same, serving-shapes}

if-some : {X : Type 0} (P : X → Type 0) (o : Option X) (x : X) → o ≡ Some x → IfSome o P → P x
if-some P o x e h = subst (λ o. IfSome o P) e h

-- what is reached is shaped by how it is served
arrival-shape : (p : Problem) (limit : Option ℕ) (k : ℕ) (cluster : Cluster) (source : List Row) (n : ℕ) (kept : Bool) (c : Row) (a : IsArrival p limit k cluster source n kept c)
    → IsShaped (phase_at p.plan k) (stage_of_entry p (row_at source a.place).entry).head k cluster (a.served, head_of c.entry false)
arrival-shape p limit k cluster source n kept c a = serving-shapes p.plan (stage_of_entry p (row_at source a.place).entry).head k cluster (a.served, head_of c.entry false) a.serves

-- one more row of the source
arrival-wider : (p : Problem) (limit : Option ℕ) (k : ℕ) (cluster : Cluster) (source : List Row) (n : ℕ) (kept : Bool) (c : Row) → IsArrival p limit k cluster source n kept c → IsArrival p limit k cluster source (n + 1) kept c
arrival-wider p limit k cluster source n kept c a = record { place = a.place; first = omega (arith, a.first); inside = a.inside; served = a.served; serves = a.serves; on = a.on; leads = a.leads; order = a.order; reach = a.reach; within = a.within }

-- what the first n + 1 rows reach is reached from the first n, or from the last of them
arrival-last : {P : Type 0} (p : Problem) (limit : Option ℕ) (k : ℕ) (cluster : Cluster) (source : List Row) (n : ℕ) (kept : Bool) (c : Row) (a : IsArrival p limit k cluster source (n + 1) kept c)
    → (IsArrival p limit k cluster source n kept c → P) → (a.place ≡ n → P) → P
arrival-last p limit k cluster source n kept c a old last = elim (cases_lt a.place n) [
  | inl less ↦ old (record { place = a.place; first = less; inside = a.inside; served = a.served; serves = a.serves; on = a.on; leads = a.leads; order = a.order; reach = a.reach; within = a.within })
  | inr other ↦ last (omega (arith, a.first))
]

some-inside : {X : Type 0} (x y : X) → Some x ≡ Some y → x ≡ y
some-inside x y e = same_Some x y e

-- rows with one stage and one order
same-row : (c d : Row) → stage_of_next c.entry ≡ stage_of_next d.entry → c.order ≡ d.order → c ≡ d
same-row c d e o =
    ap (λ (s : Stage). let r : Row = record { entry = record { counts = s.counts; phase = s.head.phase; since = s.head.since; at = s.head.at; delay = s.delay }; order = c.order } in r) e
    ∙ ap (λ n. let r : Row = record { entry = d.entry; order = n } in r) o

-- the row at a place reaches one row alone
one-arrival : (p : Problem) (limit : Option ℕ) (k : ℕ) (cluster : Cluster) (source : List Row) (n m : ℕ) (kept other : Bool) (c d : Row) (a : IsArrival p limit k cluster source n kept c) (b : IsArrival p limit k cluster source m other d) → a.place ≡ b.place → c ≡ d
one-arrival p limit k cluster source n m kept other c d a b same =
    same-row c d (some-inside (stage_of_next c.entry) (stage_of_next d.entry) (sym a.leads ∙ ap (λ i. stage_after p (stage_of_entry p (row_at source i).entry) k) same ∙ b.leads))
    (a.order ∙ ap (λ i. (row_at source i).order * 4 + k) same ∙ sym b.order)

ok-inside : (x y : Served × Head) → (let o : Result (Served × Head) Unfit = Ok x in o ≡ Ok y) → x ≡ y
ok-inside x y e = ok-same x y (Ok y) (sym e) refl

-- and in one way alone
one-way : (p : Problem) (limit : Option ℕ) (k : ℕ) (cluster : Cluster) (source : List Row) (n m : ℕ) (kept other : Bool) (c d : Row) (a : IsArrival p limit k cluster source n kept c) (b : IsArrival p limit k cluster source m other d) → a.place ≡ b.place → kept ≡ other
one-way p limit k cluster source n m kept other c d a b same =
    let one : (let o : Result (Served × Head) Unfit = Ok (a.served, head_of c.entry false) in o ≡ Ok (b.served, head_of d.entry false)) = sym a.serves ∙ ap (λ i. serving p.plan (stage_of_entry p (row_at source i).entry).head k cluster) same ∙ b.serves in
    sym a.on ∙ ap (λ (x : Served × Head). x.0.kept) (ok-inside (a.served, head_of c.entry false) (b.served, head_of d.entry false) one) ∙ b.on

true-false : true ≡ false → ⊥
true-false e = absurd (cc)

best-same : (C D : Row → Type 0) (xs : List Row) → AreBestOf C xs → ((r : Row) → C r → D r) → ((r : Row) → D r → C r) → AreBestOf D xs
best-same C D xs best wider only = record { from = λ k d h. wider (get_or xs k d) (best.from k d h); all = λ r h. best.all r (only r h) }

-- a row after which nothing can be served that is within the limit
pub reached-none : (p : Problem) (limit : Option ℕ) (k : ℕ) (cluster : Cluster) (source : List Row) (n : ℕ) (reached : Reached) (row : Row) → row_at source n ≡ row → IfSome (stage_after p (stage_of_entry p row.entry) k) (λ s. ¬ IsWithin p limit s)
    → AreReachedBy p limit k cluster source n reached → AreReachedBy p limit k cluster source (n + 1) reached
reached-none p limit k cluster source n reached row at left h =
    let gone : (kept : Bool) (c : Row) → IsArrival p limit k cluster source (n + 1) kept c → IsArrival p limit k cluster source n kept c = λ kept c a. arrival-last p limit k cluster source n kept c a (λ old. old) (λ last.
    absurd (if-some (λ s. ¬ IsWithin p limit s) (stage_after p (stage_of_entry p row.entry) k) (stage_of_next c.entry) (ap (λ (r : Row). stage_after p (stage_of_entry p r.entry) k) (sym at) ∙ ap (λ i. stage_after p (stage_of_entry p (row_at source i).entry) k) (sym last) ∙ a.leads) left a.within)) in
    record {
      kept_later = h.kept_later;
      kept_best = best-same (IsArrival p limit k cluster source n true) (IsArrival p limit k cluster source (n + 1) true) reached.kept.items h.kept_best (arrival-wider p limit k cluster source n true) (gone true);
      new_from = λ w r e. (arrival-wider p limit k cluster source n false r (h.new_from w r e).0, (h.new_from w r e).1);
      new_all = λ c a. h.new_all c (gone false c a);
      fresh = h.fresh;
    }

-- what is reached from the row at place n, served so
pub record ArrivesBy (p : Problem) (limit : Option ℕ) (k : ℕ) (cluster : Cluster) (source : List Row) (n : ℕ) (served : Served) (c : Row) : Type 0 where
  pub arrival : IsArrival p limit k cluster source (n + 1) served.kept c
  pub at : arrival.place ≡ n
  pub by : arrival.served ≡ served

-- what is reached from the next row
pub arrives : (p : Problem) (limit : Option ℕ) (k : ℕ) (cluster : Cluster) (source : List Row) (n : ℕ) (row : Row) (served : Served) (entry : Entry) (m : ℕ) → row_at source n ≡ row → n < length source
    → serving p.plan (stage_of_entry p row.entry).head k cluster ≡ Ok (served, head_of entry false) → Some (stage_of_next entry) ≡ stage_after p (stage_of_entry p row.entry) k → m ≡ row.order * 4 + k → entry.at ≤ 104000 → IsWithin p limit (stage_of_next entry)
    → ArrivesBy p limit k cluster source n served (record { entry = entry; order = m })
arrives p limit k cluster source n row served entry m at inside serves leads is reach within = record {
  arrival = record {
    place = n;
    first = omega arith;
    inside = inside;
    served = served;
    serves = ap (λ (r : Row). serving p.plan (stage_of_entry p r.entry).head k cluster) at ∙ serves;
    on = refl;
    leads = ap (λ (r : Row). stage_after p (stage_of_entry p r.entry) k) at ∙ sym leads;
    order = is ∙ ap (λ (r : Row). r.order * 4 + k) (sym at);
    reach = reach;
    within = within;
  };
  at = refl;
  by = refl;
}

-- a green that goes on is no earlier than those before it
kept-up : (p : Problem) (limit : Option ℕ) (k : ℕ) (cluster : Cluster) (source : List Row) (n : ℕ) (reached : Reached) (c : Row) (a : IsArrival p limit k cluster source (n + 1) true c) → a.place ≡ n → IsSource p k cluster source → AreReachedBy p limit k cluster source n reached → AreUpTo (time_of c) reached.kept.items
kept-up p limit k cluster source n reached c a at is h i d inside =
    let r = get_or reached.kept.items i d in
    let b : IsArrival p limit k cluster source n true r = h.kept_best.from i d inside in
    let x = stage_of_entry p (row_at source b.place).entry in
    let y = stage_of_entry p (row_at source a.place).entry in
    let earlier : b.place < a.place = omega (arith, b.first, at) in
    let on_b = (arrival-shape p limit k cluster source n true r b).kept b.on in
    let on_a = (arrival-shape p limit k cluster source (n + 1) true c a).kept a.on in
    let rise : time_of (row_at source b.place) < time_of (row_at source a.place) = is.later b.place a.place no_row earlier a.inside (sym on_b.phase ∙ on_a.phase) in
    let small_b = (is.entries b.place no_row b.inside).reach in
    let small_a = (is.entries a.place no_row a.inside).reach in
    let small_r = b.reach in
    kept-rises (phase_at p.plan k) x.head y.head k cluster (head_of r.entry false) (head_of c.entry false) (is.fresh b.place a.place no_row earlier a.inside) (omega arith) (omega arith) (omega arith) (omega arith) on_b on_a

-- how long the cluster waits
arrival-waits : (p : Problem) (limit : Option ℕ) (k : ℕ) (cluster : Cluster) (source : List Row) (n : ℕ) (kept : Bool) (c : Row) (a : IsArrival p limit k cluster source n kept c) → IsInstance p → k < length p.plan → (cluster.arr ≤ a.served.start) × (a.served.start - cluster.arr ≤ 3600)
arrival-waits p limit k cluster source n kept c a lawful inside =
    let shape = arrival-shape p limit k cluster source n kept c a in
    let waited = shape.waited in
    (shape.arrived, omega (arith, (lawful.plan.phases k no_phase inside).wait.1))

-- a row that goes on is taken in
reached-kept : (p : Problem) (limit : Option ℕ) (k : ℕ) (cluster : Cluster) (source : List Row) (n : ℕ) (reached now : Reached) (c : Row) (a : IsArrival p limit k cluster source (n + 1) true c) → a.place ≡ n → AreReachedBy p limit k cluster source n reached
    → AreLater now.kept.items → AreBestOf (λ r. Contains reached.kept.items r ⊎ (r ≡ c)) now.kept.items → now.greens ≡ reached.greens → now.fresh.items ≡ reached.fresh.items → AreReachedBy p limit k cluster source (n + 1) now
reached-kept p limit k cluster source n reached now c a at h later best same fresh = record {
  kept_later = later;
  kept_best = best-more (IsArrival p limit k cluster source n true) (IsArrival p limit k cluster source (n + 1) true) reached.kept.items now.kept.items c h.kept_best best a (arrival-wider p limit k cluster source n true)
      (λ r b. arrival-last p limit k cluster source n true r b (λ old. inl old) (λ last. inr (one-arrival p limit k cluster source (n + 1) (n + 1) true true r c b a (last ∙ sym at))));
  new_from = λ w r e. (let was = h.new_from w r (ap (λ ps. row_in ps w) (sym same) ∙ e) in (arrival-wider p limit k cluster source n false r was.0, was.1));
  new_all = λ r b. subst (λ ps. HasPlaced ps (time_of r) r.entry.delay r.order) (sym same) (h.new_all r (arrival-last p limit k cluster source n false r b (λ old. old) (λ last.
      absurd (true-false (one-way p limit k cluster source (n + 1) (n + 1) true false c r a b (at ∙ sym last))))));
  fresh = fresh ∙ h.fresh;
}

module _ (p : Problem) (limit : Option ℕ) (k : ℕ) (cluster : Cluster) (source : List Row) (n : ℕ) (reached now : Reached) (c : Row) (a : IsArrival p limit k cluster source (n + 1) false c) (at : a.place ≡ n) (h : AreReachedBy p limit k cluster source n reached) (w : ℕ) (shape : IsNewGreen (phase_at p.plan k) cluster w (head_of c.entry false)) (offered : IsOffered reached.greens now.greens w c) where
  Found : ℕ → Row → Type 0
  Found v r = IsArrival p limit k cluster source (n + 1) false r × IsNewGreen (phase_at p.plan k) cluster v (head_of r.entry false)

  was-found : (v : ℕ) (r : Row) → row_in reached.greens v ≡ Some r → Found v r
  unfolding Found
  was-found v r e = (let was = h.new_from v r e in (arrival-wider p limit k cluster source n false r was.0, was.1))

  stays-found : Found w offered.stays
  unfolding Found
  stays-found = elim offered.from [
    | inl e ↦ subst (λ (r : Row). IsArrival p limit k cluster source (n + 1) false r × IsNewGreen (phase_at p.plan k) cluster w (head_of r.entry false)) (sym e) (a, shape)
    | inr e ↦ was-found w offered.stays e
  ]

  now-found : (v : ℕ) (r : Row) → row_in now.greens v ≡ Some r → IsArrival p limit k cluster source (n + 1) false r × IsNewGreen (phase_at p.plan k) cluster v (head_of r.entry false)
  unfolding Found
  now-found v r e = elim (cases_eq v w) [
    | inl same ↦
        let is : offered.stays ≡ r = same_Some offered.stays r (sym offered.there ∙ ap (row_in now.greens) (sym same) ∙ e) in
        subst (λ (r : Row). IsArrival p limit k cluster source (n + 1) false r × IsNewGreen (phase_at p.plan k) cluster v (head_of r.entry false)) is (subst (λ i. IsArrival p limit k cluster source (n + 1) false offered.stays × IsNewGreen (phase_at p.plan k) cluster i (head_of offered.stays.entry false)) (sym same) stays-found)
    | inr other ↦ was-found v r (sym (offered.others v other) ∙ e)
  ]

  -- a row with this wait has the time of the one that stays
  same-time : (r : Row) → IsNewGreen (phase_at p.plan k) cluster w (head_of r.entry false) → time_of offered.stays ≡ time_of r
  unfolding Found
  same-time r g = new-same (phase_at p.plan k) cluster w (head_of offered.stays.entry false) (head_of r.entry false) stays-found.1 g

  now-placed : (r : Row) → IsArrival p limit k cluster source (n + 1) false r → HasPlaced now.greens (time_of r) r.entry.delay r.order
  unfolding Found
  now-placed r b = arrival-last p limit k cluster source n false r b
      (λ old.
      let x = h.new_all r old in
      elim (cases_eq x.place w) [
        | inl same ↦
            let there : row_in reached.greens w ≡ Some x.row = ap (row_in reached.greens) (sym same) ∙ x.there in
            let better : IsNoWorse offered.stays x.row.entry.delay x.row.order = if-some (λ r. IsNoWorse offered.stays r.entry.delay r.order) (row_in reached.greens w) x.row there offered.keeps in
            record {
              place = w;
              row = offered.stays;
              there = offered.there;
              time_is = same-time x.row (was-found w x.row there).1 ∙ x.time_is;
              no_worse = no-worse-trans offered.stays x.row r.entry.delay r.order better x.no_worse;
            }
        | inr other ↦ record { place = x.place; row = x.row; there = offered.others x.place other ∙ x.there; time_is = x.time_is; no_worse = x.no_worse }
      ])
      (λ last.
      let is : c ≡ r = one-arrival p limit k cluster source (n + 1) (n + 1) false false c r a b (at ∙ sym last) in
      record {
        place = w;
        row = offered.stays;
        there = offered.there;
        time_is = same-time c shape ∙ ap time_of is;
        no_worse = subst (λ (r : Row). IsNoWorse offered.stays r.entry.delay r.order) is offered.no_worse;
      })

  reached-new : now.kept.items ≡ reached.kept.items → now.fresh.items ≡ reached.fresh.items → AreReachedBy p limit k cluster source (n + 1) now
  reached-new same fresh = record {
    kept_later = subst AreLater (sym same) h.kept_later;
    kept_best = subst (AreBestOf (IsArrival p limit k cluster source (n + 1) true)) (sym same) (best-same (IsArrival p limit k cluster source n true) (IsArrival p limit k cluster source (n + 1) true) reached.kept.items h.kept_best (arrival-wider p limit k cluster source n true)
        (λ r b. arrival-last p limit k cluster source n true r b (λ old. old) (λ last. absurd (true-false (one-way p limit k cluster source (n + 1) (n + 1) true false r c b a (last ∙ sym at))))));
    new_from = now-found;
    new_all = now-placed;
    fresh = fresh ∙ h.fresh;
  }

-- the arrival, where it is known how it is served
arrival-kept : (p : Problem) (limit : Option ℕ) (k : ℕ) (cluster : Cluster) (source : List Row) (n : ℕ) (served : Served) (c : Row) (kept : Bool) (r : ArrivesBy p limit k cluster source n served c) → served.kept ≡ kept → (a : IsArrival p limit k cluster source (n + 1) kept c) × (a.place ≡ n) × (a.served ≡ served)
arrival-kept p limit k cluster source n served c kept r on =
    let a = r.arrival in
    (record { place = a.place; first = a.first; inside = a.inside; served = a.served; serves = a.serves; on = a.on ∙ on; leads = a.leads; order = a.order; reach = a.reach; within = a.within }, r.at, r.by)

-- what the next row reaches is taken in
pub reached-more : (p : Problem) (limit : Option ℕ) (k : ℕ) (cluster : Cluster) (source : List Row) (n : ℕ) (reached now : Reached) (served : Served) (c : Row) → ArrivesBy p limit k cluster source n served c → AreReachedBy p limit k cluster source n reached
    → (served.kept ≡ true → AreLater now.kept.items × AreBestOf (λ r. Contains reached.kept.items r ⊎ (r ≡ c)) now.kept.items × (now.greens ≡ reached.greens))
    → (served.kept ≡ false → IsOffered reached.greens now.greens (served.start - cluster.arr) c × (now.kept.items ≡ reached.kept.items)) → now.fresh.items ≡ reached.fresh.items → AreReachedBy p limit k cluster source (n + 1) now
reached-more p limit k cluster source n reached now served c r h kept anew fresh = elim (cases_Bool served.kept) [
  | inl on ↦ (let b = arrival-kept p limit k cluster source n served c true r on in reached-kept p limit k cluster source n reached now c b.0 b.1 h (kept on).0 (kept on).1 (kept on).2 fresh)
  | inr off ↦
      let b = arrival-kept p limit k cluster source n served c false r off in
      let shape : IsNewGreen (phase_at p.plan k) cluster (served.start - cluster.arr) (head_of c.entry false) = subst (λ (s : Served). IsNewGreen (phase_at p.plan k) cluster (s.start - cluster.arr) (head_of c.entry false)) b.2 ((arrival-shape p limit k cluster source (n + 1) false c b.0).anew b.0.on) in
      reached-new p limit k cluster source n reached now c b.0 b.1 h (served.start - cluster.arr) shape (anew off).0 (anew off).1 fresh
]

-- it may be taken in
pub kept-may : (p : Problem) (limit : Option ℕ) (k : ℕ) (cluster : Cluster) (source : List Row) (n : ℕ) (reached : Reached) (served : Served) (c : Row) → ArrivesBy p limit k cluster source n served c → IsSource p k cluster source → AreReachedBy p limit k cluster source n reached
    → served.kept ≡ true → AreLater reached.kept.items × AreUpTo (time_of c) reached.kept.items
kept-may p limit k cluster source n reached served c r is h on = (let b = arrival-kept p limit k cluster source n served c true r on in (h.kept_later, kept-up p limit k cluster source n reached c b.0 b.1 is h))

pub waits-may : (p : Problem) (limit : Option ℕ) (k : ℕ) (cluster : Cluster) (source : List Row) (n : ℕ) (served : Served) (c : Row) → ArrivesBy p limit k cluster source n served c → IsInstance p → k < length p.plan → (cluster.arr ≤ served.start) × (served.start - cluster.arr ≤ 3600)
waits-may p limit k cluster source n served c r lawful inside = subst (λ (s : Served). (cluster.arr ≤ s.start) × (s.start - cluster.arr ≤ 3600)) r.by (arrival-waits p limit k cluster source (n + 1) served.kept c r.arrival lawful inside)

-- nothing is reached at the start
pub reached-start : (p : Problem) (limit : Option ℕ) (k : ℕ) (cluster : Cluster) (source : List Row) (reached : Reached) → IsEmpty reached → AreReachedBy p limit k cluster source 0 reached
reached-start p limit k cluster source reached empty = record {
  kept_later = subst AreLater (sym empty.kept) (λ i j d h inside. absurd (omega arith));
  kept_best = subst (AreBestOf (IsArrival p limit k cluster source 0 true)) (sym empty.kept) (record { from = λ i d inside. absurd (omega arith); all = λ r a. absurd (omega (arith, a.first)) });
  new_from = λ w r e. absurd (none-some r (sym (empty.greens w) ∙ e));
  new_all = λ r a. absurd (omega (arith, a.first));
  fresh = empty.fresh;
}

-- new greens rise with their waits
pub reached-rising : (p : Problem) (limit : Option ℕ) (k : ℕ) (cluster : Cluster) (source : List Row) (n : ℕ) (reached : Reached) → AreReachedBy p limit k cluster source n reached → AreRisingPlaces reached.greens
reached-rising p limit k cluster source n reached h v w a b less ea eb = new-rises (phase_at p.plan k) cluster v w (head_of a.entry false) (head_of b.entry false) (h.new_from v a ea).1 (h.new_from w b eb).1 less

-- and what is joined is made
pub joined-made : (p : Problem) (limit : Option ℕ) (k : ℕ) (cluster : Cluster) (source : List Row) (reached : Reached) (old new : List Row) → AreReachedBy p limit k cluster source (length source) reached → AreJoined reached old new → AreMade p limit k cluster source old new
joined-made p limit k cluster source reached old new h j = record {
  made = j.made;
  is = j.is;
  later = j.later;
  best = record {
    from = λ i d inside. elim (j.best.from i d inside) [
      | inl placed ↦ (false, (h.new_from placed.0 (get_or j.made i d) placed.1).0)
      | inr among ↦ (true, subst (IsArrival p limit k cluster source (length source) true) among.2 (h.kept_best.from among.0 (get_or j.made i d) among.1))
    ];
    all = λ c a. arrived c a.0 a.1;
  };
}
  where
    by : (c x : Row) → (IsPlaced reached.greens x ⊎ Contains reached.kept.items x) → time_of x ≡ time_of c → IsNoWorse x c.entry.delay c.order → HasRow j.made (time_of c) c.entry.delay c.order
    by c x there time better =
        let y = j.best.all x there in
        record { row = y.row; among = y.among; time_is = y.time_is ∙ time; no_worse = no-worse-trans y.row x c.entry.delay c.order y.no_worse better }

    arrived : (c : Row) (kept : Bool) → IsArrival p limit k cluster source (length source) kept c → HasRow j.made (time_of c) c.entry.delay c.order
    arrived c true a = (let x = h.kept_best.all c a in by c x.row (inr x.among) x.time_is x.no_worse)
    arrived c false a = (let x = h.new_all c a in by c x.row (inl (x.place, x.there)) x.time_is x.no_worse)

-- what is drained and what goes on, merged after others, is joined
pub joined : (reached : Reached) (left right old new fresh : List Row) → left ≡ fresh → right ≡ reached.kept.items → AreBestOf (IsPlaced reached.greens) fresh
    → (merged : List Row) × (new ≡ old ++ merged) × AreLater merged × AreBestOf (λ c. Contains left c ⊎ Contains right c) merged → AreJoined reached old new
joined reached left right old new fresh is_left is_right drained m = record {
  made = m.0;
  is = m.1;
  later = m.2;
  best = record {
    from = λ i d inside. elim (m.3.from i d inside) [
      | inl among ↦ (let there : Contains fresh (get_or m.0 i d) = subst (λ xs. Contains xs (get_or m.0 i d)) is_left among in inl (subst (IsPlaced reached.greens) there.2 (drained.from there.0 (get_or m.0 i d) there.1)))
      | inr among ↦ inr (subst (λ xs. Contains xs (get_or m.0 i d)) is_right among)
    ];
    all = λ c h. elim h [
      | inl placed ↦
          let x = drained.all c placed in
          let y = m.3.all x.row (inl (subst (λ xs. Contains xs x.row) (sym is_left) x.among)) in
          record { row = y.row; among = y.among; time_is = y.time_is ∙ x.time_is; no_worse = no-worse-trans y.row x.row c.entry.delay c.order y.no_worse x.no_worse }
      | inr among ↦ m.3.all c (inr (subst (λ xs. Contains xs c) (sym is_right) among))
    ];
  };
}

-- a row of the source that leads somewhere reaches a row
pub arrival-of : (p : Problem) (limit : Option ℕ) (k : ℕ) (cluster : Cluster) (source : List Row) (place : ℕ) (t : Stage) → IsSource p k cluster source → place < length source → stage_after p (stage_of_entry p (row_at source place).entry) k ≡ Some t → t.head.fresh ≡ false → t.head.at ≤ 104000 → IsWithin p limit t
    → (kept : Bool) × IsArrival p limit k cluster source (length source) kept (record { entry = record { counts = t.counts; phase = t.head.phase; since = t.head.since; at = t.head.at; delay = t.delay }; order = (row_at source place).order * 4 + k })
arrival-of p limit k cluster source place t is inside e stale reach within =
    let from = row_at source place in
    step-begins p (stage_of_entry p from.entry) t k e (λ c r ec er same.
    let one : c ≡ cluster = same_Some c cluster (sym ec ∙ is.next place no_row inside) in
    let there : (let o : Result (Served × Head) Unfit = Ok (r.0, r.1) in o ≡ Ok (r.0, record { phase = t.head.phase; since = t.head.since; at = t.head.at; fresh = false })) =
    ap (λ (h : Head). let o : Result (Served × Head) Unfit = Ok (r.0, h) in o) (ap (λ (x : Stage). x.head) same ∙ ap (λ b. record { phase = t.head.phase; since = t.head.since; at = t.head.at; fresh = b }) stale) in (
      r.0.kept,
      record {
        place = place;
        first = inside;
        inside = inside;
        served = r.0;
        serves = ap (serving p.plan (stage_of_entry p from.entry).head k) (sym one) ∙ er ∙ there;
        on = refl;
        leads = e ∙ ap (λ b. let o : Option Stage = Some (record { counts = t.counts; head = record { phase = t.head.phase; since = t.head.since; at = t.head.at; fresh = b }; delay = t.delay }) in o) stale;
        order = refl;
        reach = reach;
        within = within;
      },
    ))

-- what is reached has the green of its phase
pub arrival-phase : (p : Problem) (limit : Option ℕ) (k : ℕ) (cluster : Cluster) (source : List Row) (n : ℕ) (kept : Bool) (c : Row) → IsArrival p limit k cluster source n kept c → c.entry.phase ≡ k
arrival-phase p limit k cluster source n kept c a = (arrival-shape p limit k cluster source n kept c a).phase
