-- What is next after entries by one phase, entry by entry; and by all phases.
use Rattle.std.specs.List.{insert}
use Rattle.std.specs.List.Sorted.{IsPermutation}
use Rattle.std.specs.Option.{option_map}
use Rattle.std.proofs.Common.{◌≡◌, ℕ, zero, suc, ◌+◌, ◌-◌, ◌*◌, ◌<◌, ◌≤◌, ◌⊎◌, List, [], ◌∷◌, length, set, All, Contains, Option, Some, None, refl, sym, ap, subst, ◌∙◌, inl, inr, arith}
use Rattle.std.proofs.Math.Nat.{mul-le-mul_right}
use Rattle.std.proofs.lemmas.Bool.{cases_eq, cases_lt}
use Rattle.std.proofs.lemmas.List.{get_or-set_other, get_or-set_same, get_or_default, length-set}
use Rattle.std.proofs.lemmas.List.Edits.{get_or-insert_above, get_or-insert_at, get_or-insert_below, length-insert}
use Rattle.std.proofs.lemmas.List.Elements.{All-cons, All-contains, All-set, All-weaker, Contains-get_or}
use Rattle.std.proofs.lemmas.List.Sorted.{All-permutation, Contains-permutation, IsPermutation-insert}
use Rattle.std.proofs.lemmas.Option.{none-some}
use Rattle.schedule_meaning.specs.Instances.{Problem, IsInstance}
use Rattle.dp_certificate.specs.Certificates.{AreRising, IsBefore, digits_of, entry_at, no_entry}
use Rattle.dp_certificate.specs.NextEntry.{stage_of_next}
use Rattle.dp_certificate.specs.Places.{IsPlace}
use Rattle.dp_certificate.specs.Prefixes.{Key, Stage, key_of, stage_after}
use Rattle.dp_certificate.specs.Proves.{HasEntry, key_of_entry, stage_of_entry}
use Rattle.dp_certificate.specs.declared.Entry.{Entry}
use Rattle.dp_certificate.proofs.Stages.{some-same, stage-after-phase}
use Rattle.parallel_dp.specs.Joins.{IsCoveredBy, Precedes}
use Rattle.parallel_dp.specs.Next.{AreReachedBy, HasKeyAt, HasNoKeyAt, IsPutInEither, IsReachedBy}
use Rattle.parallel_dp.specs.Pieces.{AreLeastOf, IsJoinOf, IsNextOf, IsOf, IsOfEither, IsReachedFrom}
use Rattle.parallel_dp.proofs.Rising.{same-digits}

-- ---- one entry put among others

only-one : (e x : Entry) → Contains (e ∷ []) x → x ≡ e
only-one e x (zero, inside, at) = sym at
only-one e x (suc k, inside, at) = absurd (omega arith)

-- of a list that has all of another, and one more entry
with-one : (xs new : List Entry) (e : Entry) → AreRising new → All (IsOfEither xs (e ∷ [])) new → ((x : Entry) → Contains xs x → IsCoveredBy new x) → IsCoveredBy new e → IsJoinOf xs (e ∷ []) new
with-one xs new e rising each old one = record { rising = rising; each = each; all = covers }
  where
    covers : (x : Entry) → IsOfEither xs (e ∷ []) x → HasEntry new (key_of_entry x) x.delay
    covers x (inl h) = old x h
    covers x (inr h) = subst (IsCoveredBy new) (sym (only-one e x h)) one

-- where no entry has its key
pub put_new : (xs : List Entry) (e : Entry) (place : ℕ) → AreRising xs → IsPlace xs e place → HasNoKeyAt xs e place → IsJoinOf xs (e ∷ []) (insert xs place e)
put_new xs e place rising at free = with-one xs (insert xs place e) e rises each old (has (0, omega arith, refl))
  where
    moved : IsPermutation (e ∷ xs) (insert xs place e)
    moved = IsPermutation-insert xs place e

    has : {x : Entry} → Contains (e ∷ xs) x → IsCoveredBy (insert xs place e) x
    has {x} h = record { entry = x; among = Contains-permutation (e ∷ xs) (insert xs place e) x moved h; key_is = refl; delay = omega arith }

    old : (x : Entry) → Contains xs x → IsCoveredBy (insert xs place e) x
    old x h = has (suc h.0, omega (arith, h.1), h.2)

    each : All (IsOfEither xs (e ∷ [])) (insert xs place e)
    each = All-permutation (IsOfEither xs (e ∷ [])) (e ∷ xs) (insert xs place e) moved (All-cons (IsOfEither xs (e ∷ [])) e xs (inr (0, omega arith, refl)) (λ k d inside. inl (Contains-get_or xs k d inside)))

    rises : AreRising (insert xs place e)
    rises k inside = elim (cases_lt (k + 1) place) [
      | inl less ↦
          subst (λ x. Precedes x (entry_at (insert xs place e) (k + 1))) (sym (get_or-insert_below xs place e no_entry k (omega arith) at.within))
          (subst (Precedes (entry_at xs k)) (sym (get_or-insert_below xs place e no_entry (k + 1) less at.within)) (rising k (omega (arith, at.within))))
      | inr up ↦ elim (cases_eq (k + 1) place) [
        | inl here ↦
            let last : k ≡ place - 1 = omega arith in
            subst (λ x. Precedes x (entry_at (insert xs place e) (k + 1))) (sym (get_or-insert_below xs place e no_entry k (omega arith) at.within))
            (subst (Precedes (entry_at xs k)) (sym (ap (entry_at (insert xs place e)) here ∙ get_or-insert_at xs place e no_entry at.within))
            (subst (λ n. Precedes (entry_at xs n) e) (sym last) (at.below (omega arith))))
        | inr past ↦ elim (cases_eq k place) [
          | inl there ↦
              let long = length-insert xs place e at.within in
              subst (λ x. Precedes x (entry_at (insert xs place e) (k + 1))) (sym (ap (entry_at (insert xs place e)) there ∙ get_or-insert_at xs place e no_entry at.within))
              (subst (Precedes e) (sym (get_or-insert_above xs place e no_entry k (omega arith) at.within)) (subst (λ n. Precedes e (entry_at xs n)) (sym there) (free (omega (arith, inside, long)))))
          | inr later ↦
              let long = length-insert xs place e at.within in
              let back : k ≡ k - 1 + 1 = omega arith in
              subst (λ x. Precedes x (entry_at (insert xs place e) (k + 1))) (sym (ap (entry_at (insert xs place e)) back ∙ get_or-insert_above xs place e no_entry (k - 1) (omega arith) at.within))
              (subst (Precedes (entry_at xs (k - 1))) (sym (get_or-insert_above xs place e no_entry k (omega arith) at.within))
              (subst (λ n. Precedes (entry_at xs (k - 1)) (entry_at xs n)) (sym back) (rising (k - 1) (omega (arith, inside, long)))))
        ]
      ]
    ]

-- where an entry has its key
pub put_same : (xs : List Entry) (e c : Entry) (place : ℕ) → AreRising xs → HasKeyAt xs e place → (c ≡ entry_at xs place) ⊎ (c ≡ e) → c.delay ≤ (entry_at xs place).delay → c.delay ≤ e.delay → IsJoinOf xs (e ∷ []) (set xs place c)
put_same xs e c place rising at from less_old less_new = with-one xs (set xs place c) e rises each old new
  where
    key : key_of_entry c ≡ key_of_entry e
    key = elim from [ inl is ↦ ap key_of_entry is ∙ at.same | inr is ↦ ap key_of_entry is ]

    stays : entry_at (set xs place c) place ≡ c
    stays = get_or-set_same xs place c no_entry at.inside

    digits : (k : ℕ) → digits_of (entry_at (set xs place c) k) ≡ digits_of (entry_at xs k)
    digits k = elim (cases_eq k place) [
      | inl here ↦
          ap (λ n. digits_of (entry_at (set xs place c) n)) here ∙ ap digits_of stays ∙ same-digits c e key ∙ sym (same-digits (entry_at xs place) e at.same)
          ∙ ap (λ n. digits_of (entry_at xs n)) (sym here)
      | inr other ↦ ap digits_of (get_or-set_other xs place k c no_entry other)
    ]

    rises : AreRising (set xs place c)
    rises k inside =
        subst (λ ds. IsBefore ds (digits_of (entry_at (set xs place c) (k + 1)))) (sym (digits k))
        (subst (IsBefore (digits_of (entry_at xs k))) (sym (digits (k + 1))) (rising k (omega (arith, inside, length-set xs place c))))

    among : IsOfEither xs (e ∷ []) c
    among = elim from [ inl is ↦ inl (subst (Contains xs) (sym is) (Contains-get_or xs place no_entry at.inside)) | inr is ↦ inr (subst (Contains (e ∷ [])) (sym is) (0, omega arith, refl)) ]

    each : All (IsOfEither xs (e ∷ [])) (set xs place c)
    each = All-set (IsOfEither xs (e ∷ [])) xs place c among (λ k d inside. inl (Contains-get_or xs k d inside))

    here : (key : Key) (most : ℕ) → key_of_entry c ≡ key → c.delay ≤ most → HasEntry (set xs place c) key most
    here k most same less = record { entry = c; among = (place, omega (arith, at.inside, length-set xs place c), get_or-set_same xs place c c at.inside); key_is = same; delay = less }

    new : IsCoveredBy (set xs place c) e
    new = here (key_of_entry e) e.delay key less_new

    old : (x : Entry) → Contains xs x → IsCoveredBy (set xs place c) x
    old x h = elim (cases_eq h.0 place) [
      | inl same ↦
          let stands : entry_at xs place ≡ x = ap (entry_at xs) (sym same) ∙ get_or_default xs h.0 no_entry x h.1 ∙ h.2 in
          here (key_of_entry x) x.delay (key ∙ sym at.same ∙ ap key_of_entry stands) (omega (arith, less_old, ap (λ (y : Entry). y.delay) stands))
      | inr other ↦ record { entry = x; among = (h.0, omega (arith, h.1, length-set xs place c), get_or-set_other xs place h.0 c x other ∙ h.2); key_is = refl; delay = omega arith }
    ]

pub put_there : (xs : List Entry) (e c there : Entry) (place : ℕ) → AreRising xs → HasKeyAt xs e place → there ≡ entry_at xs place → (c ≡ there) ⊎ (c ≡ e) → c.delay ≤ there.delay → c.delay ≤ e.delay → IsJoinOf xs (e ∷ []) (set xs place c)
put_there xs e c there place rising at is either less_old less_new =
    let from : (c ≡ entry_at xs place) ⊎ (c ≡ e) = elim either [ inl h ↦ inl (h ∙ is) | inr h ↦ inr h ] in
    put_same xs e c place rising at from (omega (arith, less_old, ap (λ (x : Entry). x.delay) is)) less_new

-- ---- by one phase, entry by entry

-- two lists that together are what is next after the first n entries by this phase
pub record AreSplit (p : Problem) (entries : List Entry) (n k : ℕ) (kept anew : List Entry) : Type 0 where
  pub kept_rises : AreRising kept
  pub anew_rises : AreRising anew
  pub each : (e : Entry) → IsOfEither kept anew e → IsOf (IsReachedBy p entries n k) e
  pub all : (s : Stage) → IsReachedBy p entries n k s → HasEntry kept (key_of s) s.delay ⊎ HasEntry anew (key_of s) s.delay

on-entry : (p : Problem) (entries : List Entry) (n k : ℕ) (x : Entry) → IsOf (IsReachedBy p entries n k) x → IsOf (IsReachedBy p entries (n + 1) k) x
on-entry p entries n k x o = record {
  stage = o.stage;
  holds = record { place = o.holds.place; first = omega (arith, o.holds.first); inside = o.holds.inside; leads = o.holds.leads };
  key = o.key;
  delay = o.delay;
}

-- where the next entry has no fit serving of it
pub same-split : (p : Problem) (entries : List Entry) (n k : ℕ) (kept anew : List Entry) → stage_after p (stage_of_entry p (entry_at entries n)) k ≡ None → AreSplit p entries n k kept anew → AreSplit p entries (n + 1) k kept anew
same-split p entries n k kept anew none so = record {
  kept_rises = so.kept_rises;
  anew_rises = so.anew_rises;
  each = λ e o. on-entry p entries n k e (so.each e o);
  all = λ s h. elim (cases_eq h.place n) [
    | inl here ↦ absurd (none-some s (sym none ∙ ap (λ m. stage_after p (stage_of_entry p (entry_at entries m)) k) (sym here) ∙ h.leads))
    | inr other ↦ so.all s (record { place = h.place; first = omega (arith, h.first); inside = h.inside; leads = h.leads })
  ];
}

covered-in : (list new : List Entry) (x : Entry) (key : Key) (most : ℕ) → IsJoinOf list (x ∷ []) new → HasEntry list key most → HasEntry new key most
covered-in list new x key most join h = (let there = join.all h.entry (inl h.among) in record { entry = there.entry; among = there.among; key_is = there.key_is ∙ h.key_is; delay = omega (arith, there.delay, h.delay) })

-- where it has one
module _ (p : Problem) (entries : List Entry) (n k : ℕ) (x : Entry) (inside : n < length entries) (leads : stage_after p (stage_of_entry p (entry_at entries n)) k ≡ Some (stage_of_next x)) where
  new-of : IsOf (IsReachedBy p entries (n + 1) k) x
  new-of = record { stage = stage_of_next x; holds = record { place = n; first = omega arith; inside = inside; leads = leads }; key = refl; delay = refl }

  new-among : (list new : List Entry) → IsJoinOf list (x ∷ []) new → ((e : Entry) → Contains list e → IsOf (IsReachedBy p entries n k) e) → (e : Entry) → Contains new e → IsOf (IsReachedBy p entries (n + 1) k) e
  new-among list new join old e h = elim (All-contains (IsOfEither list (x ∷ [])) new e join.each h) [
    | inl there ↦ on-entry p entries n k e (old e there)
    | inr one ↦ subst (IsOf (IsReachedBy p entries (n + 1) k)) (sym (only-one x e one)) new-of
  ]

  new-has : (list new : List Entry) → IsJoinOf list (x ∷ []) new → (s : Stage) (h : IsReachedBy p entries (n + 1) k s) → h.place ≡ n → HasEntry new (key_of s) s.delay
  new-has list new join s h here =
      let same = some-same (stage_of_next x) s (sym leads ∙ ap (λ m. stage_after p (stage_of_entry p (entry_at entries m)) k) (sym here) ∙ h.leads) in
      let there = join.all x (inr (0, omega arith, refl)) in
      record { entry = there.entry; among = there.among; key_is = there.key_is ∙ ap key_of same; delay = omega (arith, there.delay, ap (λ (t : Stage). t.delay) same) }

  pub more-split : (kept anew new_kept new_anew : List Entry) → IsPutInEither kept anew x new_kept new_anew → AreSplit p entries n k kept anew → AreSplit p entries (n + 1) k new_kept new_anew
  more-split kept anew new_kept new_anew (inl put) so = subst (AreSplit p entries (n + 1) k new_kept) (sym put.1) (record {
    kept_rises = put.0.rising;
    anew_rises = so.anew_rises;
    each = λ e o. elim o [
      | inl h ↦ new-among kept new_kept put.0 (λ y q. so.each y (inl q)) e h
      | inr h ↦ on-entry p entries n k e (so.each e (inr h))
    ];
    all = λ s h. elim (cases_eq h.place n) [
      | inl here ↦ inl (new-has kept new_kept put.0 s h here)
      | inr other ↦ elim (so.all s (record { place = h.place; first = omega (arith, h.first); inside = h.inside; leads = h.leads })) [
        | inl has ↦ inl (covered-in kept new_kept x (key_of s) s.delay put.0 has)
        | inr has ↦ inr has
      ]
    ];
  })
  more-split kept anew new_kept new_anew (inr put) so = subst (λ xs. AreSplit p entries (n + 1) k xs new_anew) (sym put.0) (record {
    kept_rises = so.kept_rises;
    anew_rises = put.1.rising;
    each = λ e o. elim o [
      | inl h ↦ on-entry p entries n k e (so.each e (inl h))
      | inr h ↦ new-among anew new_anew put.1 (λ y q. so.each y (inr q)) e h
    ];
    all = λ s h. elim (cases_eq h.place n) [
      | inl here ↦ inr (new-has anew new_anew put.1 s h here)
      | inr other ↦ elim (so.all s (record { place = h.place; first = omega (arith, h.first); inside = h.inside; leads = h.leads })) [
        | inl has ↦ inl has
        | inr has ↦ inr (covered-in anew new_anew x (key_of s) s.delay put.1 has)
      ]
    ];
  })

-- both together
pub split-joined : (p : Problem) (entries : List Entry) (n k : ℕ) (kept anew joined : List Entry) → AreSplit p entries n k kept anew → IsJoinOf kept anew joined → AreReachedBy p entries n k joined
split-joined p entries n k kept anew joined so join = record {
  rising = join.rising;
  each = All-weaker (IsOfEither kept anew) (IsOf (IsReachedBy p entries n k)) so.each joined join.each;
  all = λ s h. elim (so.all s h) [
    | inl has ↦ covered s has.entry (inl has.among) has.key_is has.delay
    | inr has ↦ covered s has.entry (inr has.among) has.key_is has.delay
  ];
}
  where
    covered : (s : Stage) (y : Entry) → IsOfEither kept anew y → key_of_entry y ≡ key_of s → y.delay ≤ s.delay → HasEntry joined (key_of s) s.delay
    covered s y among key less = (let there = join.all y among in record { entry = there.entry; among = there.among; key_is = there.key_is ∙ key; delay = omega (arith, there.delay, less) })

-- whether the phase has a fit serving
pub some-after : (p : Problem) (e x : Entry) (k : ℕ) (r : Option Entry) → r ≡ Some x → option_map stage_of_next r ≡ stage_after p (stage_of_entry p e) k → stage_after p (stage_of_entry p e) k ≡ Some (stage_of_next x)
some-after p e x k r is value = sym value ∙ ap (option_map stage_of_next) is

pub none-after : (p : Problem) (e : Entry) (k : ℕ) (r : Option Entry) → ((x : Entry) → r ≡ Some x → ⊥) → option_map stage_of_next r ≡ stage_after p (stage_of_entry p e) k → stage_after p (stage_of_entry p e) k ≡ None
none-after p e k None none value = sym value
none-after p e k (Some x) none value = absurd (none x refl)

pub some-here : (p : Problem) (entries : List Entry) (n k : ℕ) (e x : Entry) (r : Option Entry) → entry_at entries n ≡ e → r ≡ Some x → option_map stage_of_next r ≡ stage_after p (stage_of_entry p e) k → stage_after p (stage_of_entry p (entry_at entries n)) k ≡ Some (stage_of_next x)
some-here p entries n k e x r at is value = ap (λ y. stage_after p (stage_of_entry p y) k) at ∙ some-after p e x k r is value

pub none-here : (p : Problem) (entries : List Entry) (n k : ℕ) (e : Entry) (r : Option Entry) → entry_at entries n ≡ e → ((x : Entry) → r ≡ Some x → ⊥) → option_map stage_of_next r ≡ stage_after p (stage_of_entry p e) k → stage_after p (stage_of_entry p (entry_at entries n)) k ≡ None
none-here p entries n k e r at none value = ap (λ y. stage_after p (stage_of_entry p y) k) at ∙ none-after p e k r none value

-- ---- by the first phases

-- a fit serving of one of the first n phases leads here
pub record IsReachedWithin (p : Problem) (entries : List Entry) (n : ℕ) (s : Stage) : Type 0 where
  pub phase : ℕ
  pub first : phase < n
  pub by_it : IsReachedBy p entries (length entries) phase s

pub no-phases : (p : Problem) (entries : List Entry) → AreLeastOf (IsReachedWithin p entries 0) []
no-phases p entries = record {
  rising = λ j inside. absurd (omega arith);
  each = λ j d inside. absurd (omega arith);
  all = λ s h. absurd (omega (arith, h.first));
}

pub more-phases : (p : Problem) (entries : List Entry) (n : ℕ) (next by_phase joined : List Entry) → AreLeastOf (IsReachedWithin p entries n) next → AreReachedBy p entries (length entries) n by_phase → IsJoinOf next by_phase joined → AreLeastOf (IsReachedWithin p entries (n + 1)) joined
more-phases p entries n next by_phase joined so is join = record {
  rising = join.rising;
  each = All-weaker (IsOfEither next by_phase) (IsOf (IsReachedWithin p entries (n + 1))) of-either joined join.each;
  all = λ s h. elim (cases_eq h.phase n) [
    | inl here ↦
        let there = is.all s (subst (λ k. IsReachedBy p entries (length entries) k s) here h.by_it) in
        covered s there.entry (inr there.among) there.key_is there.delay
    | inr other ↦
        let there = so.all s (record { phase = h.phase; first = omega (arith, h.first); by_it = h.by_it }) in
        covered s there.entry (inl there.among) there.key_is there.delay
  ];
}
  where
    of-either : (y : Entry) → IsOfEither next by_phase y → IsOf (IsReachedWithin p entries (n + 1)) y
    of-either y (inl h) =
        let o = All-contains (IsOf (IsReachedWithin p entries n)) next y so.each h in
        record { stage = o.stage; holds = record { phase = o.holds.phase; first = omega (arith, o.holds.first); by_it = o.holds.by_it }; key = o.key; delay = o.delay }
    of-either y (inr h) =
        let o = All-contains (IsOf (IsReachedBy p entries (length entries) n)) by_phase y is.each h in
        record { stage = o.stage; holds = record { phase = n; first = omega arith; by_it = o.holds }; key = o.key; delay = o.delay }

    covered : (s : Stage) (y : Entry) → IsOfEither next by_phase y → key_of_entry y ≡ key_of s → y.delay ≤ s.delay → HasEntry joined (key_of s) s.delay
    covered s y among key less = (let there = join.all y among in record { entry = there.entry; among = there.among; key_is = there.key_is ∙ key; delay = omega (arith, there.delay, less) })

-- by all phases
pub all-phases : (p : Problem) → IsInstance p → (entries next : List Entry) → AreLeastOf (IsReachedWithin p entries (length p.plan)) next → IsNextOf p entries next
all-phases p lawful entries next so = record {
  rising = so.rising;
  each = All-weaker (IsOf (IsReachedWithin p entries (length p.plan))) (IsOf (IsReachedFrom p entries)) from next so.each;
  all = λ s h. so.all s (record {
    phase = h.phase;
    first = stage-after-phase p lawful (stage_of_entry p h.from) s h.phase h.leads;
    by_it = record {
      place = h.among.0;
      first = h.among.1;
      inside = h.among.1;
      leads = subst (λ x. stage_after p (stage_of_entry p x) h.phase ≡ Some s) (sym (get_or_default entries h.among.0 no_entry h.from h.among.1 ∙ h.among.2)) h.leads;
    };
  });
}
  where
    from : (y : Entry) → IsOf (IsReachedWithin p entries (length p.plan)) y → IsOf (IsReachedFrom p entries) y
    from y o =
        let by = o.holds.by_it in
        record { stage = o.stage; holds = record { from = entry_at entries by.place; among = Contains-get_or entries by.place no_entry by.inside; phase = o.holds.phase; leads = by.leads }; key = o.key; delay = o.delay }

-- the servings of one phase more
pub servings-more : (before here after phases places : ℕ) → here ≤ before + phases * places → after ≤ here + places → after ≤ before + (phases + 1) * places
servings-more before here after phases places so more = omega (arith, so, more)

pub servings-all : (before after phase phases places : ℕ) → after ≤ before + phase * places → phase ≤ phases → after ≤ before + phases * places
servings-all before after phase phases places so few = omega (arith, so, mul-le-mul_right places few)
