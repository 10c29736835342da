-- The table grows by a group, by a cell, and to its end.
use Rattle.std.specs.Prelude.{option_and_then}
use Rattle.std.proofs.Common.{◌≡◌, ℕ, zero, suc, ◌+◌, ◌-◌, ◌*◌, ◌<◌, ◌≤◌, Bool, false, List, [], ◌∷◌, ◌++◌, length, sum, get_or, AllPairs, All, Contains, Option, Some, refl, sym, ap, subst, ◌∙◌, inl, inr, length-append, arith}
use Rattle.std.proofs.lemmas.Bool.{cases_eq, cases_lt}
use Rattle.std.proofs.lemmas.List.{get_or-append_right, get_or_append_left, get_or_default}
use Rattle.std.proofs.lemmas.List.Elements.{All-append, All-cons, All-nil, Contains-append_left, Contains-append_right}
use Rattle.switch_rules.specs.declared.Cluster.{Cluster}
use Rattle.schedule_meaning.specs.Instances.{Problem, IsInstance, list_at}
use Rattle.dp_certificate.specs.Limits.{IsSomeDelay, IsWithin}
use Rattle.dp_certificate.specs.NextEntry.{stage_of_next}
use Rattle.dp_certificate.specs.Prefixes.{Key, Stage, first_stage, key_of, one_more, stage_after, stage_of}
use Rattle.dp_certificate.specs.Proves.{key_of_entry, stage_of_entry}
use Rattle.dp_certificate.proofs.LimitLaws.{first-within, step-within, within-less}
use Rattle.dp_certificate.proofs.RestLaws.{step-stale}
use Rattle.dp_certificate.proofs.Stages.{more-other, more-same, none-counted, some-same, stage-alike, stage-push}
use Rattle.switch_rules.proofs.Counting.{count-le-sum}
use Rattle.forward_dp.specs.Groups.{AreMade, IsArrival, IsSource, no_row, row_at}
use Rattle.forward_dp.specs.Rows.{IsNoWorse, time_of}
use Rattle.forward_dp.specs.declared.rows.Row.{Row}
use Rattle.forward_dp.proofs.Reaching.{arrival-of, arrival-phase}
use Rattle.forward_dp.specs.Numbers.{counts_number, order_number}
use Rattle.forward_dp.specs.Tables.{AreWithin, HasRowFor, IsReached, IsTable, IsWholeTable, row_group, row_number, stage_group}
use Rattle.forward_dp.proofs.Cells.{IsCell, time-small}
use Rattle.forward_dp.proofs.OrderLaws.{order-push}
use Rattle.forward_dp.proofs.RowLaws.{EndsBy, IsLed, before-four, before_of, back, counts-same, ends-by, entry-stage, forth, group-parts, led, reached-led, step-counts, step-phase}

pairs-append : {X : Type 0} (R : X → X → Type 0) (xs ys : List X) → AllPairs R xs → AllPairs R ys → ((i j : ℕ) (d : X) → i < length xs → j < length ys → R (get_or xs i d) (get_or ys j d)) → AllPairs R (xs ++ ys)
pairs-append R xs ys first second across i j d less inside = elim (cases_lt j (length xs)) [
  | inl low ↦
      subst (λ x. R x (get_or (xs ++ ys) j d)) (sym (get_or_append_left xs ys d i (omega arith))) (subst (R (get_or xs i d)) (sym (get_or_append_left xs ys d j low)) (first i j d less low))
  | inr high ↦
      let back : j - length xs < length ys = omega (arith, inside, length-append xs ys) in
      let last : get_or (xs ++ ys) j d ≡ get_or ys (j - length xs) d = get_or-append_right xs ys (length xs) j d refl high in
      subst (R (get_or (xs ++ ys) i d)) (sym last) (elim (cases_lt i (length xs)) [
        | inl under ↦ subst (λ x. R x (get_or ys (j - length xs) d)) (sym (get_or_append_left xs ys d i under)) (across i (j - length xs) d under back)
        | inr over ↦ subst (λ x. R x (get_or ys (j - length xs) d)) (sym (get_or-append_right xs ys (length xs) i d refl over)) (second (i - length xs) (j - length xs) d (omega arith) back)
      ])
]

-- what follows a row that is no worse is no worse than what follows the other
no-worse-next : (r y : Row) (d o c k : ℕ) → IsNoWorse r d o → IsNoWorse y (r.entry.delay + c) (r.order * 4 + k) → IsNoWorse y (d + c) (o * 4 + k)
no-worse-next r y d o c k (inl x) (inl z) = inl (omega arith)
no-worse-next r y d o c k (inl x) (inr z) = inl (omega arith)
no-worse-next r y d o c k (inr x) (inl z) = inl (omega arith)
no-worse-next r y d o c k (inr x) (inr z) = inr (z.0 ∙ ap (λ n. n + c) x.0, omega arith)

-- a row that is no worse has no more delay
pub no-more : (r : Row) (d o : ℕ) → IsNoWorse r d o → r.entry.delay ≤ d
no-more r d o (inl x) = omega arith
no-more r d o (inr x) = omega (arith, x.0)

worse-by : (r y : Row) (d o c k e m : ℕ) → IsNoWorse r d o → IsNoWorse y (r.entry.delay + c) (r.order * 4 + k) → e ≡ d + c → m ≡ o * 4 + k → IsNoWorse y e m
worse-by r y d o c k e m a b ed em = subst (λ i. IsNoWorse y e i) (sym em) (subst (λ i. IsNoWorse y i (o * 4 + k)) (sym ed) (no-worse-next r y d o c k a b))

same-times : (s t a b : ℕ) → t < 4294967296 → b < 4294967296 → s * 4294967296 + t ≡ a * 4294967296 + b → (s ≡ a) × (t ≡ b)
same-times s t a b ht hb e = (omega arith, omega arith)

small-at : (n : ℕ) → n < 131072 → n < 4294967296
small-at n h = omega arith

same-keys : (cs ds : List ℕ) (k s a l t b : ℕ) → cs ≡ ds → k ≡ l → s ≡ t → a ≡ b → (let x : Key = record { counts = cs; phase = k; since = s; at = a } in x ≡ record { counts = ds; phase = l; since = t; at = b })
same-keys cs ds k s a l t b ec ek es ea = cc

number-below : (b t : List ℕ) (k : ℕ) → k < 4 → ((j : ℕ) → get_or b j 0 ≤ get_or t j 0) → get_or b k 0 < get_or t k 0 → counts_number b < counts_number t
number-below b t zero h all less = omega (arith, all 0, all 1, all 2, all 3, less)
number-below b t (suc zero) h all less = omega (arith, all 0, all 1, all 2, all 3, less)
number-below b t (suc (suc zero)) h all less = omega (arith, all 0, all 1, all 2, all 3, less)
number-below b t (suc (suc (suc zero))) h all less = omega (arith, all 0, all 1, all 2, all 3, less)
number-below b t (suc (suc (suc (suc k)))) h all less = absurd (omega arith)

-- ---- what is made in one group

module _ (p : Problem) (limit : Option ℕ) (lawful : IsInstance p) (t : List ℕ) (k : ℕ) (places : length t ≡ 4) (digits : (j : ℕ) → get_or t j 0 < 64) (small : k < 4) (some : 0 < get_or t k 0)
    (rows source new : List Row) (start : ℕ) (cluster : Cluster) (table : IsTable p limit (counts_number t * 4 + k) rows) (cell : IsCell rows source start (before_of t k)) (is : IsSource p k cluster source) (made : AreMade p limit k cluster source rows new) where
  -- each row that is made is that of a fit prefix, with these counts and this phase
  record IsNew (c : Row) : Type 0 where
    reached : IsReached p c
    counts : c.entry.counts ≡ t
    phase : c.entry.phase ≡ k
    within : IsWithin p limit (stage_of_entry p c.entry)

  arrived-new : (c : Row) (kept : Bool) → IsArrival p limit k cluster source (length source) kept c → IsNew c
  arrived-new c kept a =
      let r = row_at source a.place in
      let h : IsReached p r = subst (IsReached p) (sym (cell.slice.at a.place a.inside)) (table.made.each (start + a.place) no_row (omega (arith, a.inside, cell.slice.inside))) in
      let leads : stage_of p (h.prefix ++ k ∷ []) ≡ Some (stage_of_next c.entry) = stage-push p (first_stage p) h.prefix k ∙ ap (option_and_then (λ s. stage_after p s k)) h.leads ∙ a.leads in
      let same : stage_of_entry p c.entry ≡ stage_of_next c.entry = entry-stage p lawful (h.prefix ++ k ∷ []) (stage_of_next c.entry) c.entry leads refl in
      record {
        reached = record {
          prefix = h.prefix ++ k ∷ [];
          leads = leads ∙ ap (λ (s : Stage). let o : Option Stage = Some s in o) (sym same);
          order = a.order ∙ ap (λ n. n * 4 + k) h.order ∙ sym (order-push h.prefix k);
        };
        counts = sym (step-counts p (stage_of_entry p r.entry) (stage_of_next c.entry) k a.leads) ∙ ap (λ xs. one_more xs k) (cell.each a.place a.inside) ∙ back t k places small some;
        phase = arrival-phase p limit k cluster source (length source) kept c a;
        within = a.within;
      }

  made-new : (i : ℕ) (d : Row) → i < length made.made → IsNew (get_or made.made i d)
  made-new i d h = (let a = made.best.from i d h in arrived-new (get_or made.made i d) a.0 a.1)

  pub made-counts : All (λ r. r.entry.counts ≡ t) made.made
  made-counts i d h = (made-new i d h).counts

  made-group : (i : ℕ) (d : Row) → i < length made.made → row_group (get_or made.made i d) ≡ counts_number t * 4 + k
  made-group i d h = (let x = made-new i d h in omega (arith, ap counts_number x.counts, x.phase))

  new-each : All (IsReached p) (rows ++ made.made)
  new-each = All-append (IsReached p) rows made.made table.made.each (λ i d h. (made-new i d h).reached)

  new-within : AreWithin p limit (rows ++ made.made)
  new-within = All-append (λ r. IsWithin p limit (stage_of_entry p r.entry)) rows made.made table.within (λ i d h. (made-new i d h).within)

  new-rising : AllPairs (λ a b. row_number a < row_number b) (rows ++ made.made)
  new-rising = pairs-append (λ a b. row_number a < row_number b) rows made.made table.made.rising
      (λ i j d less h.
      let later = made.later i j d less h in
      omega (arith, later, made-group i d (omega (arith, less, h)), made-group j d h))
      (λ i j d hi hj.
      let r = table.made.each i d hi in
      let l = reached-led p lawful (get_or rows i d) r in
      omega (arith, table.below i d hi, time-small p r.prefix (get_or rows i d) l, made-group j d hj))

  new-below : All (λ r. row_group r < counts_number t * 4 + k + 1) (rows ++ made.made)
  new-below = All-append (λ r. row_group r < counts_number t * 4 + k + 1) rows made.made (λ i d h. omega (arith, table.below i d h)) (λ i d h. omega (arith, made-group i d h))

  -- what leads to it is in a group below
  under : (xs : List ℕ) (j : ℕ) → j < 4 → xs ≡ before_of t k → counts_number xs * 4 + j < counts_number t * 4 + k
  under xs j hj e =
      let b = before_of t k in
      let long : k < length b = omega (arith, before-four t k places) in
      let more : get_or t k 0 ≡ get_or b k 0 + 1 = ap (λ ys. get_or ys k 0) (sym (back t k places small some)) ∙ more-same b k long in
      let less : counts_number b < counts_number t = number-below b t k small
      (λ i. elim (cases_eq i k) [
        | inl same ↦ omega (arith, more, ap (λ n. get_or b n 0) same, ap (λ n. get_or t n 0) same)
        | inr other ↦ omega (arith, ap (λ ys. get_or ys i 0) (sym (back t k places small some)), more-other b k i other)
      ])
      (omega (arith, more)) in
      omega (arith, less, ap counts_number e, hj)

  -- the last step to a stage of the new group
  record LastStep (w : List ℕ) (s : Stage) : Type 0 where
    front : List ℕ
    before : Stage
    leads : stage_of p front ≡ Some before
    step : stage_after p before k ≡ Some s
    less : before.counts ≡ before_of t k
    group : stage_group before < counts_number t * 4 + k
    order : order_number w ≡ order_number front * 4 + k
    counts : s.counts ≡ t
    phase : s.head.phase ≡ k
    at : s.head.at < 131072
    reach : s.head.at ≤ 104000
    within : IsWithin p limit s
    before_within : IsWithin p limit before

  step-from : (w : List ℕ) (s : Stage) (l : IsLed p w s) → s.counts ≡ t → s.head.phase ≡ k → IsWithin p limit s → EndsBy p w s → LastStep w s
  step-from w s l counts phase within by =
      let last : by.last ≡ k = sym (step-phase p by.before s by.last by.step) ∙ phase in
      let step : stage_after p by.before k ≡ Some s = ap (stage_after p by.before) (sym last) ∙ by.step in
      let lu = led p lawful by.front by.before by.leads in
      let less : by.before.counts ≡ before_of t k = forth by.before.counts t k lu.stage.places small (step-counts p by.before s k step ∙ counts) in
      record {
        front = by.front;
        before = by.before;
        leads = by.leads;
        step = step;
        less = less;
        group = under by.before.counts by.before.head.phase lu.phase less;
        order = ap order_number by.is ∙ order-push by.front by.last ∙ ap (λ j. order_number by.front * 4 + j) last;
        counts = counts;
        phase = phase;
        at = l.at;
        reach = l.stage.reach;
        within = within;
        before_within = step-within p limit lawful by.before s k lu.stage.places step within;
      }

  some-served : (w : List ℕ) (s : Stage) (l : IsLed p w s) → s.counts ≡ t → 0 < length w
  some-served w s l counts = elim (cases_eq (length w) 0) [
    | inl none ↦ absurd (omega (arith, none, l.stage.total, some, ap (λ xs. get_or xs k 0) counts, count-le-sum s.counts k))
    | inr more ↦ omega arith
  ]

  last-step : (w : List ℕ) (s : Stage) → stage_of p w ≡ Some s → stage_group s ≡ counts_number t * 4 + k → IsWithin p limit s → LastStep w s
  last-step w s e group within =
      let l = led p lawful w s e in
      let parts = group-parts (counts_number s.counts) (counts_number t) s.head.phase k l.phase small group in
      let counts : s.counts ≡ t = counts-same s.counts t l.stage.places places l.digits digits parts.0 in
      step-from w s l counts parts.1 within (ends-by p w s (length w - 1) e (let more = some-served w s l counts in omega (arith, more)))

  -- the row of the source from which the step is made
  record FromRow (u : Stage) (order : ℕ) : Type 0 where
    place : ℕ
    inside : place < length source
    key : key_of_entry (row_at source place).entry ≡ key_of u
    no_worse : IsNoWorse (row_at source place) u.delay order

  from-row : (u : Stage) (order : ℕ) → u.counts ≡ before_of t k → HasRowFor rows u order → FromRow u order
  from-row u order before has =
      let q = has.among.0 in
      let there : row_at rows q ≡ has.row = get_or_default rows q no_row has.row has.among.1 ∙ has.among.2 in
      let only = cell.only q has.among.1 (ap (λ (r : Row). r.entry.counts) there ∙ ap (λ (x : Key). x.counts) has.key ∙ before) in
      let n = q - start in
      let inside : n < length source = omega (arith, only.0, only.1) in
      let at : start + n ≡ q = omega (arith, only.0) in
      let read : row_at source n ≡ has.row = cell.slice.at n inside ∙ ap (row_at rows) at ∙ there in
      record {
        place = n;
        inside = inside;
        key = ap (λ (r : Row). key_of_entry r.entry) read ∙ has.key;
        no_worse = subst (λ (r : Row). IsNoWorse r u.delay order) (sym read) has.no_worse;
      }

  -- where the row of the source leads
  next-of : (v : List ℕ) (u s : Stage) (r : Row) → stage_of p v ≡ Some u → stage_after p u k ≡ Some s → key_of_entry r.entry ≡ key_of u → (c : ℕ) × (s.delay ≡ u.delay + c) × (stage_after p (stage_of_entry p r.entry) k ≡ Some (record { counts = s.counts; head = s.head; delay = r.entry.delay + c }))
  next-of v u s r leads step key =
      let alike = stage-alike p u r.entry.delay k s step in
      (alike.0, alike.1, ap (λ (x : Stage). stage_after p x k) (entry-stage p lawful v u r.entry leads key) ∙ alike.2)

  -- a row of what is made has the key of a stage
  made-key : (s : Stage) (y : Row) → Contains made.made y → s.counts ≡ t → s.head.phase ≡ k → s.head.at < 131072 → time_of y ≡ s.head.since * 4294967296 + s.head.at → key_of_entry y.entry ≡ key_of s
  made-key s y among counts phase at time =
      let new_y : IsNew y = subst IsNew among.2 (made-new among.0 y among.1) in
      let ly = reached-led p lawful y new_y.reached in
      let at_y : y.entry.at < 131072 = ly.at in
      let times = same-times y.entry.since y.entry.at s.head.since s.head.at (small-at y.entry.at at_y) (small-at s.head.at at) time in
      same-keys y.entry.counts s.counts y.entry.phase y.entry.since y.entry.at s.head.phase s.head.since s.head.at (new_y.counts ∙ sym counts) (new_y.phase ∙ sym phase) times.0 times.1

  made-row : (s : Stage) (c n : ℕ) → n < length source → s.counts ≡ t → s.head.phase ≡ k → s.head.at < 131072 → s.head.at ≤ 104000 → s.head.fresh ≡ false → IsWithin p limit (record { counts = s.counts; head = s.head; delay = (row_at source n).entry.delay + c })
      → stage_after p (stage_of_entry p (row_at source n).entry) k ≡ Some (record { counts = s.counts; head = s.head; delay = (row_at source n).entry.delay + c })
      → (y : Row) × Contains made.made y × (key_of_entry y.entry ≡ key_of s) × IsNoWorse y ((row_at source n).entry.delay + c) ((row_at source n).order * 4 + k)
  made-row s c n inside counts phase at reach stale within leads =
      let d = (row_at source n).entry.delay + c in
      let arrival = arrival-of p limit k cluster source n (record { counts = s.counts; head = s.head; delay = d }) is inside leads stale reach within in
      let y = made.best.all (record { entry = record { counts = s.counts; phase = s.head.phase; since = s.head.since; at = s.head.at; delay = d }; order = (row_at source n).order * 4 + k }) arrival in
      (y.row, y.among, made-key s y.row y.among counts phase at y.time_is, y.no_worse)

  row-from : (w : List ℕ) (s : Stage) (l : LastStep w s) (f : FromRow l.before (order_number l.front)) → HasRowFor (rows ++ made.made) s (order_number w)
  row-from w s l f =
      let r = row_at source f.place in
      let next = next-of l.front l.before s r l.leads l.step f.key in
      let y = made-row s next.0 f.place f.inside l.counts l.phase l.at l.reach (step-stale p l.before s k l.step)
      (within-less p limit s (r.entry.delay + next.0) (omega (arith, no-more r l.before.delay (order_number l.front) f.no_worse, next.1)) l.within) next.2 in
      record {
        row = y.0;
        among = Contains-append_right rows made.made y.0 y.1;
        key = y.2;
        no_worse = worse-by r y.0 l.before.delay (order_number l.front) next.0 k s.delay (order_number w) f.no_worse y.3 next.1 l.order;
      }

  -- a stage of the new group has a row
  new-row : (w : List ℕ) (s : Stage) → stage_of p w ≡ Some s → stage_group s ≡ counts_number t * 4 + k → IsWithin p limit s → HasRowFor (rows ++ made.made) s (order_number w)
  new-row w s e group within =
      let l = last-step w s e group within in
      row-from w s l (from-row l.before (order_number l.front) l.less (table.all l.front l.before l.leads l.group l.before_within))

  -- so the table has grown by the group
  pub grown : IsTable p limit (counts_number t * 4 + k + 1) new
  grown = subst (IsTable p limit (counts_number t * 4 + k + 1)) (sym made.is) (record {
    made = record { each = new-each; rising = new-rising };
    within = new-within;
    below = new-below;
    all = λ w s e less within. elim (cases_lt (stage_group s) (counts_number t * 4 + k)) [
      | inl old ↦ (let h = table.all w s e old within in record { row = h.row; among = Contains-append_left rows made.made h.row h.among; key = h.key; no_worse = h.no_worse })
      | inr last ↦ new-row w s e (omega arith) within
    ];
  })

-- ---- groups that are empty

-- where no stage is of these groups, the table is as far already
pub table-on : (p : Problem) (limit : Option ℕ) (low high : ℕ) (rows : List Row) → low ≤ high → ((w : List ℕ) (s : Stage) → stage_of p w ≡ Some s → stage_group s < high → stage_group s < low) → IsTable p limit low rows → IsTable p limit high rows
table-on p limit low high rows rise none table = record {
  made = table.made;
  within = table.within;
  below = λ i d h. omega (arith, table.below i d h);
  all = λ w s e less. table.all w s e (none w s e less);
}

-- a phase of which none is served leads to no stage with these counts
pub none-of-phase : (p : Problem) → IsInstance p → (t : List ℕ) (k : ℕ) → length t ≡ 4 → ((j : ℕ) → get_or t j 0 < 64) → k < 4 → get_or t k 0 ≡ 0 → 0 < counts_number t → (w : List ℕ) (s : Stage) → stage_of p w ≡ Some s → stage_group s < counts_number t * 4 + k + 1 → stage_group s < counts_number t * 4 + k
none-of-phase p lawful t k places digits small none some w s e less = elim (cases_lt (stage_group s) (counts_number t * 4 + k)) [
  | inl below ↦ below
  | inr not ↦
      let l = led p lawful w s e in
      let parts = group-parts (counts_number s.counts) (counts_number t) s.head.phase k l.phase small (omega arith) in
      let counts : s.counts ≡ t = counts-same s.counts t l.stage.places places l.digits digits parts.0 in
      absurd (elim (cases_eq (length w) 0) [
        | inl empty ↦
            let zero_at : (j : ℕ) → get_or s.counts j 0 ≤ 0 = λ j. omega (arith, empty, l.stage.total, count-le-sum s.counts j) in
            omega (arith, some, ap counts_number counts, zero_at 0, zero_at 1, zero_at 2, zero_at 3)
        | inr long ↦
            let by = ends-by p w s (length w - 1) e (omega arith) in
            let last : by.last ≡ k = sym (step-phase p by.before s by.last by.step) ∙ parts.1 in
            let lu = led p lawful by.front by.before by.leads in
            let more : get_or (one_more by.before.counts k) k 0 ≡ get_or t k 0 = ap (λ xs. get_or xs k 0) (ap (one_more by.before.counts) (sym last) ∙ step-counts p by.before s by.last by.step ∙ counts) in
            omega (arith, more, none, more-same by.before.counts k (omega (arith, lu.stage.places, small)))
      ])
]

-- the phases after the last of the plan
pub none-past : (p : Problem) → IsInstance p → (n : ℕ) (w : List ℕ) (s : Stage) → stage_of p w ≡ Some s → stage_group s < n * 4 + 4 → stage_group s < n * 4 + length p.plan
none-past p lawful n w s e less =
    let l = led p lawful w s e in
    let phase = l.stage.head.phase in
    let four = l.phase in
    omega (arith, phase, four, less, lawful.plan.count.0)

-- counts that the next ones pass over
pub none-between : (p : Problem) → IsInstance p → (last old new : List ℕ) → ((k : ℕ) → get_or last k 0 ≡ length (list_at p.lists k)) → ((c : List ℕ) → ((k : ℕ) → get_or c k 0 ≤ get_or last k 0) → counts_number c < counts_number new → counts_number c ≤ counts_number old)
    → (w : List ℕ) (s : Stage) → stage_of p w ≡ Some s → stage_group s < counts_number new * 4 → stage_group s < counts_number old * 4 + 4
none-between p lawful last old new lengths least w s e less =
    let l = led p lawful w s e in
    let phase = l.phase in
    let below = least s.counts (λ k. omega (arith, l.stage.counts k, lengths k)) (omega (arith, less)) in
    omega (arith, below, phase)

-- the first row
no-prefix : (w : List ℕ) → length w ≡ 0 → w ≡ []
no-prefix [] h = refl
no-prefix (k ∷ ks) h = absurd (omega arith)

root : Problem → Row
root p = record { entry = record { counts = 0 ∷ 0 ∷ 0 ∷ 0 ∷ []; phase = p.head.phase; since = p.head.since; at = p.head.at; delay = 0 }; order = 0 }

root-row : (p : Problem) → IsInstance p → (w : List ℕ) (s : Stage) → stage_of p w ≡ Some s → stage_group s < 4 → HasRowFor (root p ∷ []) s (order_number w)
unfolding root
root-row p lawful w s e less =
    let l = led p lawful w s e in
    let none : List ℕ = 0 ∷ 0 ∷ 0 ∷ 0 ∷ [] in
    let counts : s.counts ≡ none = counts-same s.counts none l.stage.places refl l.digits (λ k. omega (arith, none-counted k)) (omega (arith, less)) in
    let empty : w ≡ [] = no-prefix w (sym l.stage.total ∙ ap sum counts) in
    let same : first_stage p ≡ s = some-same (first_stage p) s (ap (stage_of p) (sym empty) ∙ e) in
    subst (λ (x : Stage). HasRowFor (root p ∷ []) x (order_number w)) same (subst (λ v. HasRowFor (root p ∷ []) (first_stage p) (order_number v)) (sym empty) (record { row = root p; among = (0, omega arith, refl); key = refl; no_worse = inr (refl, omega arith) }))

root-table : (p : Problem) (limit : Option ℕ) → IsInstance p → IsSomeDelay p limit → IsTable p limit 4 (root p ∷ [])
unfolding root
root-table p limit lawful delay = record {
  made = record {
    each = All-cons (IsReached p) (root p) [] (record { prefix = []; leads = ap (λ (s : Stage). let o : Option Stage = Some s in o) (sym (entry-stage p lawful [] (first_stage p) (root p).entry refl refl)); order = refl }) (All-nil (IsReached p));
    rising = λ i j d less h. absurd (omega arith);
  };
  within = All-cons (λ r. IsWithin p limit (stage_of_entry p r.entry)) (root p) [] (first-within p limit lawful delay) (All-nil (λ r. IsWithin p limit (stage_of_entry p r.entry)));
  below = All-cons (λ r. row_group r < 4) (root p) [] (let phase = lawful.head.phase in omega (arith, phase, lawful.plan.count.1)) (All-nil (λ r. row_group r < 4));
  all = λ w s e less within. root-row p lawful w s e less;
}

pub table-first : (p : Problem) (limit : Option ℕ) → IsInstance p → IsSomeDelay p limit → (r : Row) → r ≡ record { entry = record { counts = 0 ∷ 0 ∷ 0 ∷ 0 ∷ []; phase = p.head.phase; since = p.head.since; at = p.head.at; delay = 0 }; order = 0 } → IsTable p limit 4 (r ∷ [])
unfolding root
table-first p limit lawful delay r is = subst (λ x. IsTable p limit 4 (x ∷ [])) (sym is) (root-table p limit lawful delay)

-- the last counts
pub table-whole : (p : Problem) (limit : Option ℕ) → IsInstance p → (last old : List ℕ) (rows : List Row) → ((k : ℕ) → get_or last k 0 ≡ length (list_at p.lists k)) → ((c : List ℕ) → ((k : ℕ) → get_or c k 0 ≤ get_or last k 0) → counts_number c ≤ counts_number old) → IsTable p limit (counts_number old * 4 + 4) rows → IsWholeTable p limit rows
table-whole p limit lawful last old rows lengths least table = record {
  made = table.made;
  within = table.within;
  all = λ w s e within.
      let l = led p lawful w s e in
      let phase = l.phase in
      let below = least s.counts (λ k. omega (arith, l.stage.counts k, lengths k)) in
      table.all w s e (omega (arith, below, phase)) within;
}
