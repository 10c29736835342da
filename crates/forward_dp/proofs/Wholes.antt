-- A table with the best answer is a certificate that proves it, whether it is whole or has a limit that some sequence keeps.
use Rattle.std.specs.Prelude.{option_and_then}
use Rattle.std.proofs.Common.{◌≡◌, ℕ, ◌+◌, ◌-◌, ◌<◌, ◌≤◌, ◌⊎◌, true, List, [], ◌∷◌, ◌++◌, length, sum, get_or, map, take, drop, All, Contains, Option, Some, None, IfSome, Result, Ok, Err, IfOk, OnOk, refl, sym, ap, subst, ◌∙◌, inl, inr, arith}
use Rattle.std.proofs.lemmas.Bool.{cases_lt}
use Rattle.std.proofs.lemmas.List.{get_or-map, get_or_default, length-map}
use Rattle.std.proofs.lemmas.List.Elements.{All-map, All-weaker}
use Rattle.std.proofs.lemmas.List.Sums.{sum_by-cons}
use Rattle.std.proofs.lemmas.Option.{none-some}
use Rattle.schedule_meaning.specs.Best.{IsBest, IsLeast}
use Rattle.schedule_meaning.specs.Instances.{Problem, IsInstance, counts_of, list_at}
use Rattle.schedule_meaning.specs.Timing.{delay_of}
use Rattle.schedule_meaning.specs.declared.planners.Answer.{Answer}
use Rattle.schedule_meaning.specs.declared.planners.Answer.TheVariants.{Plan, NoPlan}
use Rattle.schedule_meaning.proofs.Choosing.{best-least}
use Rattle.schedule_meaning.proofs.Sequences.{get_or-counts, none-unless}
use Rattle.dp_certificate.specs.Certificates.{Claim, IsBefore, IsCertificate, IsEntry, digits_of, entry_at, no_entry}
use Rattle.dp_certificate.specs.Limits.{HasKeysWithin, IsLimited, IsSomeDelay, IsWithin}
use Rattle.dp_certificate.specs.Numbers.{AreLengths, IsShort, sequence_of}
use Rattle.dp_certificate.specs.Prefixes.{HasAllKeys, Key, Stage, first_stage, key_of, stage_after, stage_of}
use Rattle.dp_certificate.specs.Proves.{HasEntry, IsClosed, IsEnded, IsNoCheaper, IsPlanned, IsTooDear, Proves, rest_of, stage_of_entry}
use Rattle.dp_certificate.specs.Whole.{IsOfPrefix, IsWhole}
use Rattle.dp_certificate.specs.declared.Entry.{Entry}
use Rattle.dp_certificate.proofs.LimitLaws.{first-within, served-within}
use Rattle.dp_certificate.proofs.Stages.{delay-of-stage, stage-of-delay, stage-push}
use Rattle.forward_dp.specs.Groups.{no_row, row_at}
use Rattle.forward_dp.specs.Rows.{IsNoWorse}
use Rattle.forward_dp.specs.declared.rows.Row.{Row}
use Rattle.forward_dp.proofs.Keeping.{no-worse-trans}
use Rattle.forward_dp.specs.Numbers.{counts_number, order_number}
pub use Rattle.forward_dp.specs.Parts.{AreParts}
use Rattle.forward_dp.specs.Tables.{HasAnswers, HasEntries, IsFrom, IsReached, IsTableMade, IsWholeTable, all_rows}
use Rattle.forward_dp.proofs.Bounds.{IsStage, stage-bounds, stage-few, sum-le}
use Rattle.forward_dp.proofs.Cells.{IsCell, led-at}
use Rattle.forward_dp.proofs.Few.{rows-few}
use Rattle.forward_dp.proofs.Growing.{no-more}
use Rattle.forward_dp.proofs.KeyOrder.{keys-rise}
use Rattle.forward_dp.proofs.OrderLaws.{best-none, best-plan}
use Rattle.forward_dp.specs.declared.live_rows.DroppedRows.{DroppedRows}
use Rattle.forward_dp.specs.declared.live_rows.Rows.{Rows}
use Rattle.forward_dp.proofs.Parting.{latest-cell}
use Rattle.forward_dp.proofs.RowLaws.{entry_for, entry-stage, four, led, reached-led, same-parts}

if-some : {X : Type 0} (P : X → Type 0) (o : Option X) (x : X) → o ≡ Some x → IfSome o P → P x
if-some P o x e h = subst (λ o. IfSome o P) e h

if-each : {X : Type 0} (P : X → Type 0) (o : Option X) → ((x : X) → o ≡ Some x → P x) → IfSome o P
if-each P None h = tt
if-each P (Some x) h = h x refl

-- the entry of a fit prefix is that of its stage
pub entry-same : (p : Problem) (e : Entry) (o : IsOfPrefix p e) → e ≡ entry_for o.stage o.stage.delay
unfolding entry_for
entry-same p e o =
    ap (λ (k : Key). let x : Entry = record { counts = k.counts; phase = k.phase; since = k.since; at = k.at; delay = e.delay } in x) o.key
    ∙ ap (entry_for o.stage) o.delay

-- and is within its bounds
pub entry-bounds : (p : Problem) → IsInstance p → (e : Entry) → IsOfPrefix p e → IsEntry p e
unfolding entry_for
entry-bounds p lawful e o =
    let s = o.stage in
    let b : IsStage p (length o.prefix) s = stage-bounds p lawful o.prefix s o.leads in
    let within : IsEntry p (entry_for s s.delay) = record {
      counts = b.counts;
      head = record { phase = b.head.phase; begun = b.head.begun; within = b.head.within };
      reach = b.reach;
      delay = omega (arith, b.delay, stage-few p lawful (length o.prefix) s b, lawful.few);
    } in
    subst (IsEntry p) (sym (entry-same p e o)) within

whole-certificate : (p : Problem) (limit : Option ℕ) (entries : List Entry) (answer : Answer) → IsInstance p → IsLimited p limit entries → IsCertificate (record { problem = p; entries = entries; answer = answer })
whole-certificate p limit entries answer lawful whole = record {
  instance = lawful;
  bounds = All-weaker (IsOfPrefix p) (IsEntry p) (entry-bounds p lawful) entries whole.each;
  rising = whole.rising;
}

-- a best answer has few places
pub best-short : (p : Problem) (answer : Answer) → IsInstance p → IsBest p answer → IsShort answer
best-short p (Plan sequence delay) lawful best = omega (arith, (stage-of-delay p lawful sequence delay best.feasible).3, lawful.few)
best-short p NoPlan lawful best = tt

-- a stage above a limit that a feasible sequence keeps is too dear for a least answer
above-dear : (p : Problem) (answer : Answer) (most : ℕ) (s : Stage) → IsLeast p answer → (sequence : List ℕ) × (delay_of p sequence ≡ Some most) → most < s.delay + rest_of p s.counts s.head.at → IsTooDear p answer s
above-dear p (Plan sequence claimed) most s least delay above =
    let less : claimed ≤ most = if-some (λ d. claimed ≤ d) (delay_of p delay.0) most delay.1 (least.1 delay.0) in
    omega (arith, less, above)
above-dear p NoPlan most s least delay above = absurd (none-some most (sym (least delay.0) ∙ delay.1))

-- a stage is within the limit or too dear
within-or : (p : Problem) (answer : Answer) (limit : Option ℕ) (s : Stage) → IsLeast p answer → IsSomeDelay p limit → IsWithin p limit s ⊎ IsTooDear p answer s
within-or p answer None s least delay = inl tt
within-or p answer (Some most) s least delay = elim (cases_lt most (s.delay + rest_of p s.counts s.head.at)) [ inl above ↦ inr (above-dear p answer most s least delay above) | inr low ↦ inl low ]

-- what is served next after an entry has an entry, or is too dear
entry-closed : (c : Claim) (limit : Option ℕ) → IsInstance c.problem → IsSomeDelay c.problem limit → IsLeast c.problem c.answer → IsLimited c.problem limit c.entries → (e : Entry) → IsOfPrefix c.problem e → IsClosed c e
entry-closed c limit lawful delay least whole e o k =
    let p = c.problem in
    let s = o.stage in
    let Met : Stage → Type 0 = λ t. HasEntry c.entries (key_of t) t.delay ⊎ IsTooDear p c.answer t in
    let same : stage_of_entry p e ≡ s = entry-stage p lawful o.prefix s e o.leads o.key ∙ ap (λ d. let x : Stage = record { counts = s.counts; head = s.head; delay = d } in x) o.delay in
    subst (λ (x : Stage). IfSome (stage_after p x k) (λ t. HasEntry c.entries (key_of t) t.delay ⊎ IsTooDear p c.answer t)) (sym same) (if-each Met (stage_after p s k) (λ t et.
    let leads : stage_of p (o.prefix ++ k ∷ []) ≡ Some t = stage-push p (first_stage p) o.prefix k ∙ ap (option_and_then (λ s. stage_after p s k)) o.leads ∙ et in
    elim (within-or p c.answer limit t least delay) [
      | inl within ↦ inl (if-some (λ s. IsWithin p limit s → HasEntry c.entries (key_of s) s.delay) (stage_of p (o.prefix ++ k ∷ [])) t leads (whole.all (o.prefix ++ k ∷ [])) within)
      | inr dear ↦ inr dear
    ]))

-- a whole sequence does not undercut a least answer
no-cheaper : (p : Problem) (answer : Answer) (u : List ℕ) (d : ℕ) (e : Entry) → IsLeast p answer → delay_of p u ≡ Some d → e.delay ≡ d → IsNoCheaper answer e
no-cheaper p (Plan sequence claimed) u d e least ed same =
    let less : claimed ≤ d = if-some (λ d. claimed ≤ d) (delay_of p u) d ed (least.1 u) in
    omega arith
no-cheaper p NoPlan u d e least ed same = absurd (none-some d (sym (least u) ∙ ed))

entry-ended : (c : Claim) → IsInstance c.problem → IsLeast c.problem c.answer → (e : Entry) → IsOfPrefix c.problem e → IsEnded c e
entry-ended c lawful least e o all =
    let p = c.problem in
    let s = o.stage in
    let b : IsStage p (length o.prefix) s = stage-bounds p lawful o.prefix s o.leads in
    let full : (k : ℕ) → get_or s.counts k 0 ≡ get_or (counts_of p.lists) k 0 = λ k. ap (λ (x : Key). get_or x.counts k 0) (sym o.key) ∙ all k ∙ sym (get_or-counts p.lists k) in
    let up : sum s.counts ≤ sum (counts_of p.lists) = sum-le s.counts (counts_of p.lists) (λ k. omega (arith, full k)) in
    let down : sum (counts_of p.lists) ≤ sum s.counts = sum-le (counts_of p.lists) s.counts (λ k. omega (arith, full k)) in
    no-cheaper p c.answer o.prefix s.delay e least (delay-of-stage p lawful o.prefix s o.leads (omega (arith, b.total))) o.delay

planned : (p : Problem) (answer : Answer) → IsLeast p answer → IsPlanned p answer
planned p (Plan sequence delay) least = least.0
planned p NoPlan least = tt

whole-proves : (p : Problem) (limit : Option ℕ) (entries : List Entry) (answer : Answer) → IsInstance p → IsSomeDelay p limit → IsLimited p limit entries → IsBest p answer → Proves (record { problem = p; entries = entries; answer = answer })
whole-proves p limit entries answer lawful delay whole best =
    let c : Claim = record { problem = p; entries = entries; answer = answer } in
    let least = best-least p answer best in
    record {
      planned = planned p answer least;
      root = whole.all [] (first-within p limit lawful delay);
      closed = All-weaker (IsOfPrefix p) (IsClosed c) (entry-closed c limit lawful delay least whole) entries whole.each;
      ended = All-weaker (IsOfPrefix p) (IsEnded c) (entry-ended c lawful least) entries whole.each;
    }

-- with no limit the table is the whole one
pub limited-whole : (p : Problem) (entries : List Entry) → IsLimited p None entries → IsWhole p entries
limited-whole p entries table = record {
  rising = table.rising;
  each = table.each;
  all = λ u. if-each (λ s. HasEntry entries (key_of s) s.delay) (stage_of p u) (λ s e. if-some (λ s. IsWithin p None s → HasEntry entries (key_of s) s.delay) (stage_of p u) s e (table.all u) tt);
}

-- and all keys are within it
pub keys-within : (p : Problem) (keys : List Key) → HasAllKeys p keys → HasKeysWithin p None keys
keys-within p keys all u = if-each (λ s. IsWithin p None s → Contains keys (key_of s)) (stage_of p u) (λ s e within. if-some (λ s. Contains keys (key_of s)) (stage_of p u) s e (all u))

-- ---- the rows as entries

-- what is of a fit prefix
row-of : (p : Problem) (r : Row) → IsReached p r → IsOfPrefix p r.entry
row-of p r h = record { prefix = h.prefix; stage = stage_of_entry p r.entry; leads = h.leads; key = refl; delay = refl }

entry-of-row : (rows : List Row) (k : ℕ) → k < length rows → entry_at (map (λ r. r.entry) rows) k ≡ (row_at rows k).entry
entry-of-row rows k h = get_or-map (λ (r : Row). r.entry) rows k no_row no_entry h

whole-rows : (p : Problem) (limit : Option ℕ) → IsInstance p → (rows : List Row) → IsWholeTable p limit rows → IsLimited p limit (map (λ r. r.entry) rows)
whole-rows p limit lawful rows table = record {
  rising = λ k inside.
      let here : k + 1 < length rows = omega (arith, inside, length-map rows (λ (r : Row). r.entry)) in
      let a = led-at p lawful rows table.made k (omega (arith, here)) in
      let b = led-at p lawful rows table.made (k + 1) here in
      let rise = keys-rise p a.0 b.0 (row_at rows k) (row_at rows (k + 1)) a.1 b.1 (table.made.rising k (k + 1) no_row (omega arith) here) in
      subst (λ e. IsBefore (digits_of e) (digits_of (entry_at (map (λ r. r.entry) rows) (k + 1)))) (sym (entry-of-row rows k (omega (arith, here)))) (subst (λ e. IsBefore (digits_of (row_at rows k).entry) (digits_of e)) (sym (entry-of-row rows (k + 1) here)) rise);
  each = All-map (IsOfPrefix p) (λ r. r.entry) rows (λ i d h. row-of p _ (table.made.each i d h));
  within = All-map (λ e. IsWithin p limit (stage_of_entry p e)) (λ r. r.entry) rows table.within;
  all = λ u. if-each (λ s. IsWithin p limit s → HasEntry (map (λ r. r.entry) rows) (key_of s) s.delay) (stage_of p u) (λ s e within.
      let has = table.all u s e within in
      let k = has.among.0 in
      record {
        entry = has.row.entry;
        among = (k, omega (arith, has.among.1, length-map rows (λ (r : Row). r.entry)), get_or-map (λ (r : Row). r.entry) rows k has.row has.row.entry has.among.1 ∙ ap (λ (r : Row). r.entry) has.among.2);
        key_is = has.key;
        delay = less has.row s.delay (order_number u) has.no_worse;
      });
}
  where
    less : (r : Row) (d o : ℕ) → IsNoWorse r d o → r.entry.delay ≤ d
    less r d o (inl h) = omega arith
    less r d o (inr h) = omega (arith, h.0)

-- ---- the best answer

sum-four : (a b c d : ℕ) → sum (a ∷ b ∷ c ∷ d ∷ []) ≡ a + b + c + d
sum-four a b c d = omega (arith, sum_by-cons (λ n. n) a (b ∷ c ∷ d ∷ []), sum_by-cons (λ n. n) b (c ∷ d ∷ []), sum_by-cons (λ n. n) c (d ∷ []), sum_by-cons (λ n. n) d [])

-- the rows of whole sequences: each such sequence within the limit has one
pub record IsLast (p : Problem) (limit : Option ℕ) (source : List Row) : Type 0 where
  pub each : (n : ℕ) (d : Row) → n < length source → (u : List ℕ) × (stage_of p u ≡ Some (stage_of_entry p (get_or source n d).entry)) × ((get_or source n d).order ≡ order_number u) × (length u ≡ sum (counts_of p.lists))
  pub all : (u : List ℕ) (d : ℕ) → delay_of p u ≡ Some d → IfSome limit (λ most. d ≤ most) → (r : Row) × Contains source r × IsNoWorse r d (order_number u)

last-rows : (p : Problem) (limit : Option ℕ) → IsInstance p → (rows source : List Row) (start : ℕ) (last : List ℕ) → IsWholeTable p limit rows → AreLengths p.lists last → IsCell rows source start last → IsLast p limit source
last-rows p limit lawful rows source start last table lengths cell = record {
  each = λ n d h.
      let at : get_or source n d ≡ row_at source n = get_or_default source n d no_row h in
      let r : IsReached p (get_or source n d) = subst (IsReached p) (sym (at ∙ cell.slice.at n h)) (table.made.each (start + n) no_row (omega (arith, h, cell.slice.inside))) in
      let l = reached-led p lawful (get_or source n d) r in
      let counts : (get_or source n d).entry.counts ≡ last = ap (λ (r : Row). r.entry.counts) at ∙ cell.each n h in
      let total : sum (get_or source n d).entry.counts ≡ sum (counts_of p.lists) = ap sum counts ∙ last-sum in
      (r.prefix, r.leads, r.order, sym l.stage.total ∙ total);
  all = λ u d e low.
      let led_to : (t : Stage) × (stage_of p u ≡ Some t) × (t.delay ≡ d) × (length u ≡ sum (counts_of p.lists)) = stage-of-delay p lawful u d e in
      let b : IsStage p (length u) led_to.0 = stage-bounds p lawful u led_to.0 led_to.1 in
      let full : led_to.0.counts ≡ last = all-served led_to.0.counts b.places (λ k. b.counts k) (b.total ∙ led_to.3) in
      let within : IsWithin p limit led_to.0 = served-within p limit led_to.0 (λ k. ap (λ xs. get_or xs k 0) full ∙ lengths.each k) (subst (λ n. IfSome limit (λ most. n ≤ most)) (sym led_to.2) low) in
      let has = table.all u led_to.0 led_to.1 within in
      let q = has.among.0 in
      let there : row_at rows q ≡ has.row = get_or_default rows q no_row has.row has.among.1 ∙ has.among.2 in
      let only = cell.only q has.among.1 (ap (λ (r : Row). r.entry.counts) there ∙ ap (λ (x : Key). x.counts) has.key ∙ full) in
      let inside : q - start < length source = omega (arith, only.0, only.1) in
      let read : get_or source (q - start) has.row ≡ has.row = get_or_default source (q - start) has.row no_row inside ∙ cell.slice.at (q - start) inside ∙ ap (row_at rows) (let eq : start + (q - start) ≡ q = omega (arith, only.0) in eq) ∙ there in
      (has.row, (q - start, inside, read), subst (λ n. IsNoWorse has.row n (order_number u)) led_to.2 has.no_worse);
}
  where
    last-sum : sum last ≡ sum (counts_of p.lists)
    last-sum =
        let up : sum last ≤ sum (counts_of p.lists) = sum-le last (counts_of p.lists) (λ k. omega (arith, lengths.each k, get_or-counts p.lists k)) in
        let down : sum (counts_of p.lists) ≤ sum last = sum-le (counts_of p.lists) last (λ k. omega (arith, lengths.each k, get_or-counts p.lists k)) in
        omega arith

    all-served : (xs : List ℕ) → length xs ≡ 4 → ((k : ℕ) → get_or xs k 0 ≤ length (list_at p.lists k)) → sum xs ≡ sum (counts_of p.lists) → xs ≡ last
    all-served xs places within total =
        let a = ap sum (four xs places) ∙ sum-four (get_or xs 0 0) (get_or xs 1 0) (get_or xs 2 0) (get_or xs 3 0) in
        let b = ap sum (four last lengths.places) ∙ sum-four (get_or last 0 0) (get_or last 1 0) (get_or last 2 0) (get_or last 3 0) in
        let all : get_or xs 0 0 + get_or xs 1 0 + get_or xs 2 0 + get_or xs 3 0 ≡ get_or last 0 0 + get_or last 1 0 + get_or last 2 0 + get_or last 3 0 = omega (arith, a, b, total, last-sum) in
        four xs places
        ∙ same-parts (get_or xs 0 0) (get_or xs 1 0) (get_or xs 2 0) (get_or xs 3 0) (get_or last 0 0) (get_or last 1 0) (get_or last 2 0) (get_or last 3 0)
        (omega (arith, all, within 0, within 1, within 2, within 3, lengths.each 0, lengths.each 1, lengths.each 2, lengths.each 3))
        (omega (arith, all, within 0, within 1, within 2, within 3, lengths.each 0, lengths.each 1, lengths.each 2, lengths.each 3))
        (omega (arith, all, within 0, within 1, within 2, within 3, lengths.each 0, lengths.each 1, lengths.each 2, lengths.each 3))
        (omega (arith, all, within 0, within 1, within 2, within 3, lengths.each 0, lengths.each 1, lengths.each 2, lengths.each 3))
        ∙ sym (four last lengths.places)

-- where there is a feasible sequence there is a row
some-row : (p : Problem) (limit : Option ℕ) (source : List Row) → IsSomeDelay p limit → IsLast p limit source → (u : List ℕ) (d : ℕ) → delay_of p u ≡ Some d → (r : Row) × Contains source r
some-row p None source delay last u d e = (let there = last.all u d e tt in (there.0, there.1))
some-row p (Some most) source delay last u d e = (let there = last.all delay.0 most delay.1 (omega arith) in (there.0, there.1))

-- no row of whole sequences: no plan
pub none-best : (p : Problem) (limit : Option ℕ) (source : List Row) → IsSomeDelay p limit → IsLast p limit source → source ≡ [] → IsBest p NoPlan
none-best p limit source delay last none = best-none p (λ u. none-unless (delay_of p u) (λ d e.
    let there = some-row p limit source delay last u d e in
    absurd (omega (arith, there.1.1, ap (length {A = Row}) none))))

-- a row that is no worse than any of them is no worse than any sequence
met : (p : Problem) (limit : Option ℕ) (source : List Row) (best : Row) → All (λ r. IsNoWorse best r.entry.delay r.order) source → (w : List ℕ) (d : ℕ) → (r : Row) × Contains source r × IsNoWorse r d (order_number w) → IsNoWorse best d (order_number w)
met p limit source best no_worse w d r =
    let first : IsNoWorse best r.0.entry.delay r.0.order = subst (λ (x : Row). IsNoWorse best x.entry.delay x.order) r.1.2 (no_worse r.1.0 r.0 r.1.1) in
    no-worse-trans best r.0 d (order_number w) first r.2

best-below : (p : Problem) (limit : Option ℕ) (source : List Row) (best : Row) → IsSomeDelay p limit → IsLast p limit source → All (λ r. IsNoWorse best r.entry.delay r.order) source → (w : List ℕ) (d : ℕ) → delay_of p w ≡ Some d → IsNoWorse best d (order_number w)
best-below p None source best delay last no_worse w d e = met p None source best no_worse w d (last.all w d e tt)
best-below p (Some most) source best delay last no_worse w d e = elim (cases_lt most d) [
  | inl above ↦
      let low = no-more best most (order_number delay.0) (met p (Some most) source best no_worse delay.0 most (last.all delay.0 most delay.1 (omega arith))) in
      inl (omega (arith, low, above))
  | inr low ↦ met p (Some most) source best no_worse w d (last.all w d e low)
]

-- the best of them: the best plan
pub some-best : (p : Problem) (limit : Option ℕ) → IsInstance p → (source : List Row) (best : Row) (answer : Answer) → IsSomeDelay p limit → IsLast p limit source → Contains source best → All (λ r. IsNoWorse best r.entry.delay r.order) source
    → ((s : List ℕ) → length s ≡ sum (counts_of p.lists) → All (λ k. k < 4) s → order_number s ≡ best.order → answer ≡ Plan s best.entry.delay) → IsBest p answer
some-best p limit lawful source best answer delay last among no_worse is =
    let row = last.each among.0 best among.1 in
    let same : get_or source among.0 best ≡ best = among.2 in
    let u = row.0 in
    let s = stage_of_entry p (get_or source among.0 best).entry in
    let below : All (λ k. k < 4) u = (led p lawful u s row.1).phases in
    let order : best.order ≡ order_number u = ap (λ (r : Row). r.order) (sym same) ∙ row.2 in
    let spent : s.delay ≡ best.entry.delay = ap (λ (r : Row). r.entry.delay) same in
    let feasible : delay_of p u ≡ Some best.entry.delay = delay-of-stage p lawful u s row.1 row.3 ∙ ap (λ d. let o : Option ℕ = Some d in o) spent in
    subst (IsBest p) (sym (is u row.3 below (sym order))) (best-plan p u best.entry.delay (omega (arith, lawful.lists, lawful.plan.count.1)) feasible (λ w.
    if-each (λ e. (best.entry.delay < e) ⊎ ((best.entry.delay ≡ e) × (order_number u ≤ order_number w))) (delay_of p w) (λ d e.
    subst (λ n. (best.entry.delay < d) ⊎ ((best.entry.delay ≡ d) × (n ≤ order_number w))) order (best-below p limit source best delay last no_worse w d e))))

-- the cell of the last counts
pub last-cell : (p : Problem) → IsInstance p → (rows : Rows) (latest : List Row) (last : List ℕ) (start end : ℕ) (has : HasAnswers p rows) → latest ≡ rows.latest.items → AreLengths p.lists last → IsFrom latest 0 (counts_number last) start → IsFrom latest start (counts_number last + 1) end → IsLast p has.limit (take (end - start) (drop start latest))
last-cell p lawful rows latest last start end has same lengths first second =
    subst (λ xs. IsLast p has.limit (take (end - start) (drop start xs))) (sym same)
    (last-rows p has.limit lawful (all_rows has.gone rows) (take (end - start) (drop start rows.latest.items)) (length (has.gone ++ rows.earlier.items) + start) last has.made.table lengths
    (latest-cell p has.limit lawful has.gone rows last start end has.made lengths (subst (λ xs. IsFrom xs 0 (counts_number last) start) same first) (subst (λ xs. IsFrom xs start (counts_number last + 1) end) same second)))

-- the entries of all rows of a table, and the best answer of an instance
pub parts : (p : Problem) (limit : Option ℕ) (gone : List Row) (rows : Rows) (entries : List Entry) (answer : Answer) → IsInstance p → IsSomeDelay p limit → IsTableMade p limit gone rows → entries ≡ map (λ r. r.entry) (all_rows gone rows) → IsBest p answer → AreParts p limit entries answer
parts p limit gone rows entries answer lawful delay made are best =
    record {
      lawful = lawful;
      delay = delay;
      table = subst (IsLimited p limit) (sym are) (whole-rows p limit lawful (all_rows gone rows) made.table);
      best = best;
      few = omega (arith, ap length are, length-map (all_rows gone rows) (λ (r : Row). r.entry), rows-few p lawful (all_rows gone rows) made.table.made);
    }

-- as a call answers with them
pub made-parts : {F : Type 0} (p : Problem) (limit : Option ℕ) (gone : List Row) (rows : Rows) (past : DroppedRows) (result : Result Answer F) → OnOk result (IsInstance p) → IsSomeDelay p limit → IsTableMade p limit gone rows → OnOk result (HasEntries past (all_rows gone rows)) → past.keeps_entries ≡ true → IfOk result (IsBest p) → IfOk result (AreParts p limit past.entries.items)
made-parts p limit gone rows past (Ok answer) lawful delay made taken keeps best = parts p limit gone rows past.entries.items answer lawful delay made (taken keeps) best
made-parts p limit gone rows past (Err fault) lawful delay made taken keeps best = tt

-- the rows that were taken last are those of the table
pub taken-all : (past : DroppedRows) (gone : List Row) (rows : Rows) (earlier latest : List Row) → earlier ≡ rows.earlier.items → latest ≡ rows.latest.items → HasEntries past (gone ++ earlier ++ latest) → HasEntries past (all_rows gone rows)
taken-all past gone rows earlier latest first second taken keeps =
    taken keeps ∙ ap (λ xs. map (λ (r : Row). r.entry) (gone ++ xs ++ latest)) first ∙ ap (λ xs. map (λ (r : Row). r.entry) (gone ++ rows.earlier.items ++ xs)) second

-- a best answer has at most 40 places
pub best-few : (p : Problem) (answer : Answer) → IsInstance p → IsBest p answer → length (sequence_of answer) ≤ 40
best-few p (Plan sequence delay) lawful best = omega (arith, (stage-of-delay p lawful sequence delay best.feasible).3, lawful.few)
best-few p NoPlan lawful best = omega arith

-- a certificate made of these parts has what it promises
pub record IsCertified (p : Problem) (limit : Option ℕ) (c : Claim) : Type 0 where
  pub table : IsLimited p limit c.entries
  pub best : IsBest p c.answer
  pub proves : Proves c
  pub few : (length c.entries ≤ 2000001) × (length (sequence_of c.answer) ≤ 40)

pub certified : (p given : Problem) (limit : Option ℕ) (entries : List Entry) (answer : Answer) (made : Claim) → AreParts p limit entries answer → given ≡ p
    → made ≡ record { problem = given; entries = entries; answer = answer } → IsCertified p limit made
certified p given limit entries answer made h same out =
    let c : Claim = record { problem = p; entries = entries; answer = answer } in
    let is : made ≡ c = out ∙ ap (λ (q : Problem). let x : Claim = record { problem = q; entries = entries; answer = answer } in x) same in
    let here : IsCertified p limit c = record { table = h.table; best = h.best; proves = whole-proves p limit entries answer h.lawful h.delay h.table h.best; few = (h.few, best-few p answer h.lawful h.best) } in
    subst (IsCertified p limit) (sym is) here

-- and they are one
pub lawful : (p given : Problem) (limit : Option ℕ) (entries : List Entry) (answer : Answer) → AreParts p limit entries answer → given ≡ p → IsCertificate (record { problem = given; entries = entries; answer = answer })
lawful p given limit entries answer h same =
    subst (λ (q : Problem). IsCertificate (record { problem = q; entries = entries; answer = answer })) (sym same) (whole-certificate p limit entries answer h.lawful h.table)
