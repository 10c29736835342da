-- Each step keeps the rule.
use Rattle.std.proofs.Common.{◌≡◌, ◌≢◌, ℕ, zero, suc, ◌<◌, ◌⊎◌, inl, inr, eqb, Bool, true, false, List, [], ◌∷◌, ◌++◌, length, get_or, set, sym, refl, ap, ◌∙◌, subst, ⊎_elim, arith, eq-eqb, eqb-true, ne_eqb, length-set, get_or-set_same}
use Rattle.std.specs.Prelude.{Option, Some, None, unwrap_or}
use Rattle.std.proofs.lemmas.Option.{none-some}
use Rattle.std.proofs.lemmas.Bool.{false≢true}
use mathlib.Core.Logic.{dite}
use mathlib.Core.Option.{some, none, some-injective, some-ne-none}
use native.Mathlib.Decide.{ℕ_discrete}
use lib.ListN.{get_elem?}
use lib.Seq.{set-get_or}
use prog.Atomic.{either}
use Rattle.atomic_table.specs.Table.{State, Act, Valid, carried_after, step, put_back, rest, keeps, takes, gives, stepped, opening, Allows, Splits}
use Rattle.atomic_table.proofs.Lists.{at_set, at_snoc, at_longer, set_again, set_here, set_else}
use Rattle.task_pool.specs.declared.views.View.{View}
use Rattle.task_pool.specs.Views.{first_view, knowing, worker_view, laying, taking}
use Rattle.task_pool.specs.Rule.{IsSomewhere, Holds}
use Rattle.task_pool.specs.Plays.{Holding, in_front, begins, lays, looks, puts_back, closes, TakesBack, takes_back, TakesTask, takes_task}

module _ {T : Type 0} (ready : T → Type 0) (done : T → T → Type 0) where
  some-one : (x y : T) → Some x ≡ Some y → x ≡ y
  some-one x y e = ap (λ o. unwrap_or o x) e

  -- it is nothing, or something
  by-option : {A : Type 0} (o : Option T) → (o ≡ None → A) → ((x : T) → o ≡ Some x → A) → A
  by-option None nothing something = nothing refl
  by-option (Some x) nothing something = something x refl

  by-bool : {A : Type 0} (b : Bool) → (b ≡ true → A) → (b ≡ false → A) → A
  by-bool true closed unclosed = closed refl
  by-bool false closed unclosed = unclosed refl

  -- what stands at a place stands inside the list
  within : {A : Type 0} (xs : List A) (k : ℕ) (x : A) → get_elem? xs k ≡ some x → k < length xs
  within [] k x e = absurd (some-ne-none x (sym e))
  within (y ∷ ys) zero x e = omega arith
  within (y ∷ ys) (suc k) x e = let i : k < length ys = within ys k x e in omega arith

  -- Below, the seat with this number has this view.
  module _ (s : State (Option T) (View T)) (h : Holds ready done s) (id : ℕ) (v : View T) (here : get_elem? s.views id ≡ some v) where
    -- the first seat is the owner's
    owner-is : id ≡ 0 → h.owner ≡ v
    owner-is own = some-injective h.owner v (sym h.first ∙ ap (get_elem? s.views) (sym own) ∙ here)

    word-after : (n : ℕ) → get_or (set s.words 0 n) 0 0 ≡ n
    word-after n = let wide = h.wide in get_or-set_same s.words 0 n 0 (omega arith)

    -- a step of the owner's end, while no worker has a task
    owner-step : (n : ℕ) (homes : List (mathlib.Core.Option.Option (Option T))) (w : View T) → id ≡ 0 → get_or s.words 0 0 ≢ 2 → length homes ≡ 1 → w.works ≡ v.works → w.taken ≡ v.taken
        → (v.closed ≡ true → w.closed ≡ true)
        → (w.laid ≡ None → w.closed ≡ false → n ≡ 0)
        → (w.closed ≡ true → (w.laid ≡ None) × (n ≡ 4))
        → (w.fresh ≡ true → (w.laid ≡ None) × (get_elem? homes 0 ≡ some (some None)))
        → ((x : T) → w.laid ≡ Some x → IsSomewhere ready done n homes x)
        → Holds ready done record { words = set s.words 0 n; homes = homes; views = set s.views id w }
    owner-step n homes w own free long works taken stays idle shut fresh laid =
        let no-one : (seat : ℕ) (u : View T) (x : T) → get_elem? (set s.views id w) seat ≡ some u → u.taken ≡ Some x → ⊥ = λ seat u x there has. ⊎_elim
        (λ t. free (h.taken id v x here (sym taken ∙ ap (λ (z : View T). z.taken) t.1 ∙ has)).0)
        (λ t. free (h.taken seat u x t.1 has).0)
        (at_set s.views id seat w u there) in
        let after : get_or (set s.words 0 n) 0 0 ≡ n = word-after n in record {
          wide = length-set s.words 0 n ∙ h.wide;
          deep = long;
          owner = w;
          first = subst (λ k. get_elem? (set s.views k w) 0 ≡ some w) (sym own) (set_here s.views 0 w (within s.views 0 h.owner h.first));
          apart = works ∙ ap (λ (z : View T). z.works) (sym (owner-is own)) ∙ h.apart;
          idle = λ unlaid unshut. after ∙ idle unlaid unshut;
          shut = λ is. (let s = shut is in (s.0, after ∙ s.1));
          fresh = fresh;
          laid = λ x is. subst (λ k. IsSomewhere ready done k homes x) (sym after) (laid x is);
          taken = λ seat u x there has. absurd (no-one seat u x there has);
          known = λ seat u there has. ⊎_elim
              (λ t. ap (λ (z : View T). z.closed) t.1 ∙ has)
              (λ t. stays (ap (λ (z : View T). z.closed) (sym (owner-is own)) ∙ h.known seat u t.1 has))
              (at_set s.views id seat w u there);
          one = λ seat other u z x y there here' has has'. absurd (no-one seat u x there has);
        }

    -- nothing changed
    stays : (words : List ℕ) → words ≡ s.words → Holds ready done record { words = words; homes = s.homes; views = set s.views id v }
    stays words same = subst (λ (z : List ℕ × List (View T)). Holds ready done record { words = z.0; homes = s.homes; views = z.1 }) (λ i. (sym same i, sym (set_again s.views id v here) i)) h

    -- nothing is laid: the word is 0 or 4
    unlaid-word : h.owner.laid ≡ None → (get_or s.words 0 0 ≡ 0) ⊎ (get_or s.words 0 0 ≡ 4)
    unlaid-word unlaid = by-bool h.owner.closed (λ is. inr (h.shut is).1) (λ unshut. inl (h.idle unlaid unshut))

    -- so no worker has a task
    free-unlaid : id ≡ 0 → v.laid ≡ None → get_or s.words 0 0 ≢ 2
    free-unlaid own unlaid two = ⊎_elim (λ z. absurd (omega arith)) (λ z. absurd (omega arith)) (unlaid-word (ap (λ (z : View T). z.laid) (owner-is own) ∙ unlaid))

    -- the word is 4: the owner has closed the slot
    word-closed : get_or s.words 0 0 ≡ 4 → h.owner.closed ≡ true
    word-closed four = by-bool h.owner.closed (λ is. is) (λ unshut. by-option h.owner.laid
        (λ unlaid. let zero-word = h.idle unlaid unshut in absurd (omega arith))
        (λ x laid. absurd (⊎_elim (λ t. let one = t.0 in omega arith) (λ t. ⊎_elim (λ two. omega arith) (λ t. let three = t.0 in omega arith) t) (h.laid x laid))))

    -- a worker's end is not the first seat
    worker-apart : v.works ≡ true → 0 ≢ id
    worker-apart works own = false≢true (sym h.apart ∙ ap (λ (z : View T). z.works) (owner-is (sym own)) ∙ works)

    -- a step of a worker's end
    worker-step : (n : ℕ) (homes : List (mathlib.Core.Option.Option (Option T))) (w : View T) → v.works ≡ true → length homes ≡ 1
        → w.closed ≡ v.closed
        → ((seat : ℕ) (u : View T) (x : T) → seat ≢ id → get_elem? s.views seat ≡ some u → u.taken ≢ Some x)
        → h.owner.laid ≢ None
        → (h.owner.fresh ≡ true → (h.owner.laid ≡ None) × (get_elem? homes 0 ≡ some (some None)))
        → ((x : T) → h.owner.laid ≡ Some x → IsSomewhere ready done n homes x)
        → ((x : T) → w.taken ≡ Some x → (n ≡ 2) × (h.owner.laid ≡ Some x))
        → Holds ready done record { words = set s.words 0 n; homes = homes; views = set s.views id w }
    worker-step n homes w works long same others some-laid fresh laid taken =
        let only : (seat : ℕ) (u : View T) (x : T) → get_elem? (set s.views id w) seat ≡ some u → u.taken ≡ Some x → (seat ≡ id) × (w ≡ u) = λ seat u x there has. ⊎_elim
        (λ t. t)
        (λ t. absurd (others seat u x t.0 t.1 has))
        (at_set s.views id seat w u there) in
        let after : get_or (set s.words 0 n) 0 0 ≡ n = word-after n in record {
          wide = length-set s.words 0 n ∙ h.wide;
          deep = long;
          owner = h.owner;
          first = set_else s.views id 0 w (worker-apart works) ∙ h.first;
          apart = h.apart;
          idle = λ unlaid unshut. absurd (some-laid unlaid);
          shut = λ is. absurd (some-laid (h.shut is).0);
          known = λ seat u there has. ⊎_elim
              (λ t. h.known id v here (sym same ∙ ap (λ (z : View T). z.closed) t.1 ∙ has))
              (λ t. h.known seat u t.1 has)
              (at_set s.views id seat w u there);
          fresh = fresh;
          laid = λ x is. subst (λ k. IsSomewhere ready done k homes x) (sym after) (laid x is);
          taken = λ seat u x there has. let t = taken x (ap (λ (z : View T). z.taken) (only seat u x there has).1 ∙ has) in (after ∙ t.0, t.1);
          one = λ seat other u z x y there here' has has'. (only seat u x there has).0 ∙ sym (only other z y here' has').0;
        }

  -- an empty slot is taken from a new slot
  pub begins-empty : (slots id : ℕ) (me : Holding T) → id ≡ 0 → me.0.fresh ≡ true → me.0.closed ≡ false → Allows (Holds ready done) slots id me 0 (λ _. 0) (λ _. begins (step slots 0 0 0 none) me 0)
  begins-empty slots id me own fresh unshut s h long here small =
      let is : h.owner ≡ me.0 = owner-is s h id me.0 here own in
      let at = h.fresh (ap (λ (z : View T). z.fresh) is ∙ fresh) in
      let unlaid : me.0.laid ≡ None = sym (ap (λ (z : View T). z.laid) is) ∙ at.0 in (
        laying me.0 None,
        takes 0 None,
        at.1,
        owner-step s h id me.0 here 0 (set s.homes 0 none) (laying me.0 None) own (free-unlaid s h id me.0 here own unlaid) (length-set s.homes 0 none ∙ h.deep) refl refl
            (λ is. absurd (false≢true (sym unshut ∙ is)))
            (λ _ _. refl)
            (λ no. absurd (false≢true no))
            (λ no. absurd (false≢true no))
            (λ x no. absurd (none-some x no)),
        refl,
      )

  -- a task is laid
  pub lays-task : (slots id : ℕ) (me : Holding T) (x : T) → id ≡ 0 → me.0.laid ≡ None → me.0.closed ≡ false → me.1 ≡ (0, Some x) ∷ [] → ready x
      → Allows (Holds ready done) slots id me 0 (λ _. 1) (λ _. lays (step slots 0 1 0 none) me 1)
  lays-task slots id me x own unlaid unshut held may s h long here small =
      let w : View T = laying me.0 (Some x) in
      let homes : List (mathlib.Core.Option.Option (Option T)) = set s.homes 0 (some (Some x)) in
      let deep = h.deep in (
        w,
        gives,
        tt,
        subst (λ hs. Holds ready done record { words = set s.words 0 1; homes = hs; views = set s.views id w }) (sym (ap (put_back s.homes) held))
            (owner-step s h id me.0 here 1 homes w own (free-unlaid s h id me.0 here own unlaid) (length-set s.homes 0 (some (Some x)) ∙ h.deep) refl refl
            (λ is. absurd (false≢true (sym unshut ∙ is)))
            (λ no _. absurd (none-some x (sym no)))
            (λ no. absurd (false≢true no))
            (λ no. absurd (false≢true no))
            (λ y is. let same : x ≡ y = some-one x y is in inl (refl, subst ready same may, subst (λ z. get_elem? homes 0 ≡ some (some (Some z))) same (set_here s.homes 0 (some (Some x)) (omega arith))))),
        let told : lays (step slots 0 1 0 none) me 1 (w, rest me.1) = ap (λ l. (laying me.0 (in_front l), rest me.1)) (sym held) in told,
      )

  -- the slot is closed
  pub closes-slot : (slots id : ℕ) (me : Holding T) → id ≡ 0 → me.0.fresh ≡ false → me.0.laid ≡ None → Allows (Holds ready done) slots id me 0 (λ _. 4) (λ _. closes (step slots 0 4 0 none) me 4)
  closes-slot slots id me own old unlaid s h long here small = (
    knowing me.0 true,
    keeps,
    tt,
    owner-step s h id me.0 here 4 s.homes (knowing me.0 true) own (free-unlaid s h id me.0 here own unlaid) h.deep refl refl
        (λ _. refl)
        (λ _ no. absurd (false≢true (sym no)))
        (λ _. (unlaid, refl))
        (λ no. absurd (false≢true (sym old ∙ no)))
        (λ x no. absurd (none-some x (sym unlaid ∙ no))),
    refl,
  )

  -- the word is another, or the step changes nothing
  module _ (slots id old new : ℕ) (me : Holding T) (then : Holding T → Bool → Type 0) where
    missed : (s : State (Option T) (View T)) → Holds ready done s → get_elem? s.views id ≡ some me.0 → get_or s.words 0 0 ≢ old → then me false
        → (w : View T) × (a : Act (Option T)) × Valid s.homes me.1 a × Holds ready done (stepped s 0 (either (eqb (get_or s.words 0 0) old) new (get_or s.words 0 0)) id me.1 w a) × then (w, carried_after me.1 a) (eqb (get_or s.words 0 0) old)
    missed s h here other same = let n : ℕ = get_or s.words 0 0 in let miss = ne_eqb n old other in (
      me.0,
      keeps,
      tt,
      stays s h id me.0 here (set s.words 0 (either (eqb n old) new n)) (ap (λ b. set s.words 0 (either b new n)) miss ∙ set-get_or s.words 0 0),
      subst (then me) (sym miss) same,
    )

    met : (s : State (Option T) (View T)) (w : View T) (x : Option T) → get_or s.words 0 0 ≡ old → get_elem? s.homes 0 ≡ some (some x)
        → Holds ready done record { words = set s.words 0 new; homes = set s.homes 0 none; views = set s.views id w } → then (w, (0, x) ∷ me.1) true
        → (w : View T) × (a : Act (Option T)) × Valid s.homes me.1 a × Holds ready done (stepped s 0 (either (eqb (get_or s.words 0 0) old) new (get_or s.words 0 0)) id me.1 w a) × then (w, carried_after me.1 a) (eqb (get_or s.words 0 0) old)
    met s w x is home after told = let n : ℕ = get_or s.words 0 0 in let hit = eq-eqb n old is in (
      w,
      takes 0 x,
      home,
      subst (λ b. Holds ready done (stepped s 0 (either b new n) id me.1 w (takes 0 x))) (sym hit) after,
      subst (then (w, (0, x) ∷ me.1)) (sym hit) told,
    )

  -- what is done comes back
  pub takes-back : (slots id : ℕ) (me : Holding T) (x : T) → id ≡ 0 → me.0.fresh ≡ false → me.0.laid ≡ Some x
      → Allows (Holds ready done) slots id me 0 (λ n. either (eqb n 3) 0 n) (takes_back done (step slots 0 3 0 none) me)
  takes-back slots id me x own old laid s h long here small = let n : ℕ = get_or s.words 0 0 in dite (ℕ_discrete n 3)
      (λ lies. let is : h.owner.laid ≡ Some x = ap (λ (z : View T). z.laid) (owner-is s h id me.0 here own) ∙ laid in
      let back : (y : T) × done x y × (get_elem? s.homes 0 ≡ some (some (Some y))) = ⊎_elim (λ t. let at = t.0 in absurd (omega arith)) (λ t. ⊎_elim (λ two. absurd (omega arith)) (λ t. (t.1, t.2, t.3)) t) (h.laid x is) in
      met slots id 3 0 me (TakesBack done me) s (laying me.0 None) (Some back.0) lies back.2
      (owner-step s h id me.0 here 0 (set s.homes 0 none) (laying me.0 None) own (λ two. omega arith) (length-set s.homes 0 none ∙ h.deep) refl refl
      (λ is. let four = (h.shut (ap (λ (z : View T). z.closed) (owner-is s h id me.0 here own) ∙ is)).1 in absurd (omega arith))
      (λ _ _. refl)
      (λ no. absurd (false≢true no))
      (λ no. absurd (false≢true no))
      (λ y no. absurd (none-some y no)))
      (x, back.0, laid, back.1, refl))
      (λ other. missed slots id 3 0 me (TakesBack done me) s h here other refl)

  -- a worker takes the task that lies there
  pub takes-task : (slots id : ℕ) (me : Holding T) → me.0.works ≡ true → me.0.taken ≡ None
      → Allows (Holds ready done) slots id me 0 (λ n. either (eqb n 1) 2 n) (takes_task ready (step slots 0 1 2 none) me)
  takes-task slots id me works idle s h long here small = let n : ℕ = get_or s.words 0 0 in dite (ℕ_discrete n 1)
      (λ lies. by-option h.owner.laid
      (λ unlaid. absurd (⊎_elim (λ z. omega arith) (λ z. omega arith) (unlaid-word s h id me.0 here unlaid)))
      (λ x laid. let at : ready x × (get_elem? s.homes 0 ≡ some (some (Some x))) = ⊎_elim (λ t. (t.1, t.2)) (λ t. ⊎_elim (λ two. absurd (omega arith)) (λ t. let three = t.0 in absurd (omega arith)) t) (h.laid x laid) in
      met slots id 1 2 me (TakesTask ready me) s (taking me.0 (Some x)) (Some x) lies at.1
      (worker-step s h id me.0 here 2 (set s.homes 0 none) (taking me.0 (Some x)) works (length-set s.homes 0 none ∙ h.deep)
      refl
      (λ seat u y apart there has. let two = (h.taken seat u y there has).0 in omega arith)
      (λ unlaid. none-some x (sym unlaid ∙ laid))
      (λ new. absurd (none-some x (sym (h.fresh new).0 ∙ laid)))
      (λ y _. inr (inl refl))
      (λ y has. (refl, laid ∙ has)))
      (x, at.0, refl)))
      (λ other. missed slots id 1 2 me (TakesTask ready me) s h here other refl)

  -- and puts back what became of it
  pub puts-back : (slots id : ℕ) (me : Holding T) (x y : T) → me.0.works ≡ true → me.0.taken ≡ Some x → me.1 ≡ (0, Some y) ∷ [] → done x y
      → Allows (Holds ready done) slots id me 0 (λ _. 3) (λ _. puts_back (step slots 0 3 0 none) me 3)
  puts-back slots id me x y works taken held is s h long here small =
      let w : View T = taking me.0 None in
      let homes : List (mathlib.Core.Option.Option (Option T)) = set s.homes 0 (some (Some y)) in
      let deep = h.deep in
      let laid : h.owner.laid ≡ Some x = (h.taken id me.0 x here taken).1 in (
        w,
        gives,
        tt,
        subst (λ hs. Holds ready done record { words = set s.words 0 3; homes = hs; views = set s.views id w }) (sym (ap (put_back s.homes) held))
            (worker-step s h id me.0 here 3 homes w works (length-set s.homes 0 (some (Some y)) ∙ h.deep)
            refl
            (λ seat u z apart there has. apart (h.one seat id u me.0 z x there here has taken))
            (λ unlaid. none-some x (sym unlaid ∙ laid))
            (λ new. absurd (none-some x (sym (h.fresh new).0 ∙ laid)))
            (λ z was. inr (inr (refl, y, subst (λ q. done q y) (some-one x z (sym laid ∙ was)) is, set_here s.homes 0 (some (Some y)) (omega arith))))
            (λ z no. absurd (none-some z no))),
        refl,
      )

  -- a worker looks whether the slot is closed
  pub looks-at : (slots id : ℕ) (me : Holding T) → me.0.works ≡ true → Allows (Holds ready done) slots id me 0 (λ n. n) (looks (step slots 0 0 0 none) me)
  looks-at slots id me works s h long here small =
      let n : ℕ = get_or s.words 0 0 in
      let w : View T = knowing me.0 (eqb n 4) in
      let was : (seat : ℕ) (u : View T) → get_elem? (set s.views id w) seat ≡ some u → (t : View T) × (get_elem? s.views seat ≡ some t) × (t.taken ≡ u.taken) = λ seat u there. ⊎_elim
      (λ t. (me.0, subst (λ k. get_elem? s.views k ≡ some me.0) (sym t.0) here, ap (λ (z : View T). z.taken) t.1))
      (λ t. (u, t.1, refl))
      (at_set s.views id seat w u there) in (
        w,
        keeps,
        tt,
        subst (λ (words : List ℕ). Holds ready done record { words = words; homes = s.homes; views = set s.views id w }) (sym (set-get_or s.words 0 0)) record {
          wide = h.wide;
          deep = h.deep;
          owner = h.owner;
          first = set_else s.views id 0 w (worker-apart s h id me.0 here works) ∙ h.first;
          apart = h.apart;
          idle = h.idle;
          shut = h.shut;
          fresh = h.fresh;
          laid = h.laid;
          taken = λ seat u x there has. (let t = was seat u there in h.taken seat t.0 x t.1 (t.2 ∙ has));
          known = λ seat u there has. ⊎_elim
              (λ t. word-closed s h id me.0 here (eqb-true n 4 (ap (λ (z : View T). z.closed) t.1 ∙ has)))
              (λ t. h.known seat u t.1 has)
              (at_set s.views id seat w u there);
          one = λ seat other u z x y there here' has has'. (let t = was seat u there in let o = was other z here' in h.one seat other t.0 o.0 x y t.1 o.1 (t.2 ∙ has) (o.2 ∙ has'));
        },
        refl,
      )

  -- one more end
  pub seats-worker : (id : ℕ) (v : View T) → Splits (Holds ready done) id v v (worker_view v)
  seats-worker id v s h here =
      let back : set s.views id v ≡ s.views = set_again s.views id v here in
      let fromold : (seat : ℕ) (u : View T) (x : T) → get_elem? (s.views ++ worker_view v ∷ []) seat ≡ some u → u.taken ≡ Some x → get_elem? s.views seat ≡ some u = λ seat u x there has. ⊎_elim
      (λ t. t)
      (λ t. absurd (none-some x (ap (λ (z : View T). z.taken) t ∙ has)))
      (at_snoc s.views (worker_view v) u seat there) in
      let known : (seat : ℕ) (u : View T) → get_elem? (s.views ++ worker_view v ∷ []) seat ≡ some u → u.closed ≡ true → h.owner.closed ≡ true = λ seat u there has. ⊎_elim
      (λ t. h.known seat u t has)
      (λ t. absurd (false≢true (ap (λ (z : View T). z.closed) t ∙ has)))
      (at_snoc s.views (worker_view v) u seat there) in
      subst (λ (vs : List (View T)). Holds ready done record { words = s.words; homes = s.homes; views = vs ++ worker_view v ∷ [] }) (sym back) record {
        wide = h.wide;
        deep = h.deep;
        owner = h.owner;
        first = at_longer s.views (worker_view v ∷ []) 0 h.owner h.first;
        apart = h.apart;
        idle = h.idle;
        shut = h.shut;
        known = known;
        fresh = h.fresh;
        laid = h.laid;
        taken = λ seat u x there has. h.taken seat u x (fromold seat u x there has) has;
        one = λ seat other u z x y there here' has has'. h.one seat other u z x y (fromold seat u x there has) (fromold other z y here' has') has has';
      }

  -- the rule holds of a new slot
  pub opens : (words : List ℕ) (xs : List (Option T)) → words ≡ 0 ∷ [] → xs ≡ None ∷ [] → Holds ready done (opening words xs first_view)
  opens words xs zero-word empty = subst (λ (z : List ℕ × List (Option T)). Holds ready done (opening z.0 z.1 first_view)) (λ i. (sym zero-word i, sym empty i)) record {
    wide = refl;
    deep = refl;
    owner = first_view;
    first = refl;
    apart = refl;
    idle = λ _ _. refl;
    shut = λ no. absurd (false≢true no);
    known = λ seat u there has. absurd (unknown seat u there has);
    fresh = λ _. (refl, refl);
    laid = λ x no. absurd (none-some x no);
    taken = λ seat u x there has. absurd (alone seat u x there has);
    one = λ seat other u z x y there here' has has'. absurd (alone seat u x there has);
  }
    where
      alone : (seat : ℕ) (u : View T) (x : T) → get_elem? (first_view {T = T} ∷ []) seat ≡ some u → u.taken ≡ Some x → ⊥
      alone zero u x there has = none-some x (ap (λ (z : View T). z.taken) (some-injective first_view u there) ∙ has)
      alone (suc seat) u x there has = some-ne-none u (sym there)

      unknown : (seat : ℕ) (u : View T) → get_elem? (first_view {T = T} ∷ []) seat ≡ some u → u.closed ≡ true → ⊥
      unknown zero u there has = false≢true (ap (λ (z : View T). z.closed) (some-injective first_view u there) ∙ has)
      unknown (suc seat) u there has = some-ne-none u (sym there)
