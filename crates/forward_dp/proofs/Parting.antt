-- The rows that are kept among all rows: where a group is reached from, and what its rows are put after.
use Rattle.std.proofs.Common.{◌≡◌, ℕ, zero, suc, ◌+◌, ◌-◌, ◌*◌, ◌<◌, ◌≤◌, Bool, true, false, cond, List, [], ◌∷◌, ◌++◌, length, get_or, set, take, drop, All, Option, refl, sym, ap, subst, ◌∙◌, inl, inr, append_assoc, append-nil, length-append, length-drop, arith}
use Rattle.std.proofs.Math.Seq.{drop-append-add, drop-append_seam}
use Rattle.std.proofs.lemmas.Bool.{cases_Bool, cases_lt}
use Rattle.std.proofs.lemmas.List.{drop-append-le, get_or-append_right, get_or_append_left, get_or-set_other, take-append-le}
use Rattle.std.proofs.lemmas.List.Elements.{All-append, All-cons, All-drop, All-nil}
use Rattle.switch_rules.specs.declared.Cluster.{Cluster}
use Rattle.schedule_meaning.specs.Instances.{Problem, IsInstance, list_at}
use Rattle.dp_certificate.specs.Limits.{IsSomeDelay}
use Rattle.dp_certificate.specs.Numbers.{AreLengths}
use Rattle.forward_dp.specs.Groups.{AreJoined, AreReachedBy, no_row}
use Rattle.forward_dp.specs.declared.groups.Reached.{Reached}
use Rattle.forward_dp.specs.declared.rows.Row.{Row}
use Rattle.forward_dp.specs.Numbers.{counts_number}
use Rattle.forward_dp.specs.Tables.{AreBetween, AreEnds, AreStanding, CanFill, IsCellMade, IsCellReady, IsEntered, IsFrom, IsGroupFilled, IsGroupReady, IsLastCounts, IsLeft, IsNextCounts, IsTable, IsTableMade, all_rows, base_of, counts_number_at, row_group, source_of, unit_of}
use Rattle.forward_dp.specs.declared.live_rows.Rows.{Rows}
use Rattle.forward_dp.proofs.Cells.{IsCell, cell-is}
use Rattle.forward_dp.proofs.Few.{rows-few}
use Rattle.forward_dp.proofs.Filling.{IsFound, can-fill, cell-filled, cell-ready, ends-filled, ends-passed, ends-start, filled, found, small-digits, small-last, table-filled, table-passed}
use Rattle.forward_dp.proofs.Growing.{table-first, table-whole}
use Rattle.forward_dp.proofs.RowLaws.{back, before-four, before-is, before_of, number-more}

-- a source stands among all rows: those before it have lower counts than a number, and those after it higher ones
pub record IsAmid (front source behind all : List Row) (number : ℕ) : Type 0 where
  pub is : all ≡ front ++ source ++ behind
  pub low : All (λ r. counts_number r.entry.counts < number) front
  pub high : All (λ r. number < counts_number r.entry.counts) behind

module _ (front source behind all : List Row) (number : ℕ) (amid : IsAmid front source behind all number) where
  long : length all ≡ length front + length source + length behind
  long = omega (arith, ap length amid.is, length-append (front ++ source) behind, length-append front source)

  in-front : (place : ℕ) → place < length front → counts_number_at all place < number
  in-front place h =
      let e : counts_number_at all place ≡ counts_number_at front place =
      ap (λ rs. counts_number_at rs place) amid.is
      ∙ ap (λ (r : Row). counts_number r.entry.counts) (get_or_append_left (front ++ source) behind no_row place (omega (arith, h, length-append front source)) ∙ get_or_append_left front source no_row place h) in
      omega (arith, e, amid.low place no_row h)

  in-source : (n : ℕ) → n < length source → counts_number_at all (length front + n) ≡ counts_number_at source n
  in-source n h =
      ap (λ rs. counts_number_at rs (length front + n)) amid.is
      ∙ ap (λ (r : Row). counts_number r.entry.counts) (get_or_append_left (front ++ source) behind no_row (length front + n) (omega (arith, h, length-append front source))
      ∙ get_or-append_right front source (length front) (length front + n) no_row refl (omega arith)
      ∙ ap (λ m. get_or source m no_row) (let e : length front + n - length front ≡ n = omega arith in e))

  in-behind : (place : ℕ) → length front + length source ≤ place → place < length all → number < counts_number_at all place
  in-behind place h inside =
      let both : length (front ++ source) ≡ length front + length source = length-append front source in
      let e : counts_number_at all place ≡ counts_number_at behind (place - length (front ++ source)) =
      ap (λ rs. counts_number_at rs place) amid.is
      ∙ ap (λ (r : Row). counts_number r.entry.counts) (get_or-append_right (front ++ source) behind (length (front ++ source)) place no_row refl (omega (arith, h, both))) in
      omega (arith, e, amid.high (place - length (front ++ source)) no_row (omega (arith, both, h, inside, long)))

  -- a search in the source is one among all rows
  pub from-all : (from least place : ℕ) → least ≤ number + 1 → IsFrom source from least place → IsFrom all (length front + from) least (length front + place)
  from-all from least place few f = record {
    rise = omega (arith, f.rise);
    within = omega (arith, f.within, long);
    below = λ more.
        let same : length front + place - 1 ≡ length front + (place - 1) = omega (arith, more) in
        let e : counts_number_at all (length front + place - 1) ≡ counts_number_at source (place - 1) = ap (counts_number_at all) same ∙ in-source (place - 1) (omega (arith, more, f.within)) in
        omega (arith, e, f.below (omega (arith, more)));
    here = λ inside. elim (cases_lt place (length source)) [
      | inl some ↦ omega (arith, in-source place some, f.here some)
      | inr none ↦ omega (arith, few, in-behind (length front + place) (omega (arith, none)) inside)
    ];
  }

  pub slice-all : (start end : ℕ) → start ≤ end → end ≤ length source → take (length front + end - (length front + start)) (drop (length front + start) all) ≡ take (end - start) (drop start source)
  slice-all start end rise within =
      ap (λ n. take n (drop (length front + start) all)) (let e : length front + end - (length front + start) ≡ end - start = omega (arith, rise) in e)
      ∙ ap (λ rs. take (end - start) (drop (length front + start) rs)) (amid.is ∙ append_assoc front source behind)
      ∙ ap (take (end - start)) (drop-append-add front (source ++ behind) start ∙ drop-append-le start source behind (omega (arith, rise, within)))
      ∙ take-append-le (end - start) (drop start source) behind (omega (arith, length-drop start source, within))

  -- what has lower counts ends within the source, at the last
  pub begins : (from : ℕ) → ((place : ℕ) → place < from → counts_number_at all place < number) → from ≤ length all → from ≤ length front + length source
  begins from below known = elim (cases_lt (length front + length source) from) [
    | inl past ↦ absurd (omega (arith, below (length front + length source) past, in-behind (length front + length source) (omega arith) (omega (arith, past, known))))
    | inr not ↦ not
  ]

  pub lower : (from : ℕ) → ((place : ℕ) → place < from → counts_number_at all place < number) → (place : ℕ) → place < length front + (from - length front) → counts_number_at all place < number
  lower from below place h = elim (cases_lt place (length front)) [ inl low ↦ in-front place low | inr high ↦ below place (omega (arith, h, high)) ]

-- the counts with one less of a phase
less-by : (counts : List ℕ) (k : ℕ) → length counts ≡ 4 → k < 4 → 0 < get_or counts k 0 → counts_number counts ≡ counts_number (set counts k (get_or counts k 0 - 1)) + unit_of k
less-by counts k places small some = ap counts_number (sym (back counts k places small some)) ∙ number-more (before_of counts k) k (before-four counts k places) small ∙ ap (λ xs. counts_number xs + unit_of k) (before-is counts k)

small-phase : (p : Problem) (k : ℕ) → IsInstance p → k < length p.plan → k < 4
small-phase p k lawful h = omega (arith, h, lawful.plan.count.1)

can-below : (p : Problem) (limit : Option ℕ) (counts : List ℕ) (k from : ℕ) (all : List Row) → CanFill p limit counts k from all → (place : ℕ) → place < from → counts_number_at all place < counts_number (set counts k (get_or counts k 0 - 1))
can-below p limit counts k from all can place h = omega (arith, can.behind place h, less-by counts k can.places (small-phase p k can.lawful can.phase) can.some)

-- a group is found by searches in the source
found-amid : (p : Problem) (limit : Option ℕ) (counts : List ℕ) (k from start end : ℕ) (front source behind all : List Row) (list : List Cluster) (d : Cluster) → CanFill p limit counts k from all → IsAmid front source behind all (counts_number (set counts k (get_or counts k 0 - 1)))
    → list ≡ list_at p.lists k → IsFrom source (from - length front) (counts_number (set counts k (get_or counts k 0 - 1))) start → IsFrom source start (counts_number (set counts k (get_or counts k 0 - 1)) + 1) end
    → IsFound p counts k all (take (end - start) (drop start source)) (length front + start) (length front + end) (get_or list (get_or (set counts k (get_or counts k 0 - 1)) k 0) d)
found-amid p limit counts k from start end front source behind all list d can amid is_list first second =
    let number = counts_number (set counts k (get_or counts k 0 - 1)) in
    let below = can-below p limit counts k from all can in
    let within : from ≤ length front + length source = begins front source behind all number amid from below can.known in
    let later : CanFill p limit counts k (length front + (from - length front)) all = record {
      lawful = can.lawful;
      places = can.places;
      within = can.within;
      phase = can.phase;
      some = can.some;
      table = can.table;
      known = omega (arith, within, long front source behind all number amid);
      behind = λ place h. omega (arith, lower front source behind all number amid from below place h, less-by counts k can.places (small-phase p k can.lawful can.phase) can.some);
    } in
    subst (λ xs. IsFound p counts k all xs (length front + start) (length front + end) (get_or list (get_or (set counts k (get_or counts k 0 - 1)) k 0) d)) (slice-all front source behind all number amid start end second.rise second.within)
    (found p limit counts k (length front + (from - length front)) (length front + start) (length front + end) all all all list d later refl refl is_list
    (from-all front source behind all number amid (from - length front) number start (omega arith) first) (from-all front source behind all number amid start (number + 1) end (omega arith) second))

-- the rows from which a phase is served stand among all rows
pub record IsBetween (k : ℕ) (gone : List Row) (rows : Rows) (number : ℕ) : Type 0 where
  pub front : List Row
  pub behind : List Row
  pub base : base_of rows k ≡ length front
  pub amid : IsAmid front (source_of rows k) behind (all_rows gone rows) number

unit-some : (k : ℕ) → 0 < unit_of k
unit-some zero = omega arith
unit-some (suc zero) = omega arith
unit-some (suc (suc zero)) = omega arith
unit-some (suc (suc (suc k))) = omega arith

true-false : true ≡ false → ⊥
true-false e = absurd (cc)

module _ (p : Problem) (k : ℕ) (counts : List ℕ) (gone : List Row) (rows : Rows) (standing : AreStanding p (suc k) counts gone rows) (less : counts_number counts ≡ counts_number (set counts (suc k) (get_or counts (suc k) 0 - 1)) + unit_of (suc k)) where
  first : get_or (set counts (suc k) (get_or counts (suc k) 0 - 1)) 0 0 ≡ get_or counts 0 0
  first = get_or-set_other counts (suc k) 0 (get_or counts (suc k) 0 - 1) 0 (λ same. absurd (omega (arith, same)))

  -- among the latest rows, with no row after them
  between-shared : rows.apart ≡ false → IsBetween (suc k) gone rows (counts_number (set counts (suc k) (get_or counts (suc k) 0 - 1)))
  between-shared shared =
      let parted = standing.shared shared in
      record {
        front = gone ++ rows.earlier.items;
        behind = [];
        base = ap (λ b. cond b rows.gone (rows.gone + length rows.earlier.items)) shared ∙ omega (arith, standing.count, length-append gone rows.earlier.items);
        amid = subst (λ b. IsAmid (gone ++ rows.earlier.items) (cond b rows.earlier.items rows.latest.items) [] (all_rows gone rows) (counts_number (set counts (suc k) (get_or counts (suc k) 0 - 1)))) (sym shared) (record {
          is = sym (append-nil (gone ++ rows.earlier.items ++ rows.latest.items));
          low = All-append (λ r. counts_number r.entry.counts < counts_number (set counts (suc k) (get_or counts (suc k) 0 - 1))) gone rows.earlier.items (λ i d h. omega (arith, parted.past i d h, first)) (λ i d h. omega (arith, parted.earlier i d h, first));
          high = All-nil (λ r. counts_number (set counts (suc k) (get_or counts (suc k) 0 - 1)) < counts_number r.entry.counts);
        });
      }

  -- among the earlier rows, with the last cell after them
  between-apart : rows.apart ≡ true → IsBetween (suc k) gone rows (counts_number (set counts (suc k) (get_or counts (suc k) 0 - 1)))
  between-apart apart =
      let parts = (standing.apart apart).parts in
      record {
        front = gone;
        behind = rows.latest.items;
        base = ap (λ b. cond b rows.gone (rows.gone + length rows.earlier.items)) apart ∙ standing.count;
        amid = subst (λ b. IsAmid gone (cond b rows.earlier.items rows.latest.items) rows.latest.items (all_rows gone rows) (counts_number (set counts (suc k) (get_or counts (suc k) 0 - 1)))) (sym apart) (record {
          is = refl;
          low = λ i d h. omega (arith, parts.past i d h, first);
          high = λ i d h. omega (arith, parts.latest i d h, less, unit-some (suc k));
        });
      }

between : (p : Problem) (k : ℕ) (counts : List ℕ) (gone : List Row) (rows : Rows) → AreStanding p k counts gone rows → ((j : ℕ) → get_or counts j 0 < 64) → counts_number counts ≡ counts_number (set counts k (get_or counts k 0 - 1)) + unit_of k → IsBetween k gone rows (counts_number (set counts k (get_or counts k 0 - 1)))
between p zero counts gone rows standing digits less = elim (cases_Bool rows.apart) [
  | inl apart ↦ absurd (omega (arith, (standing.apart apart).served))
  | inr shared ↦
      let parted = standing.shared shared in
      record {
        front = gone;
        behind = rows.latest.items;
        base = standing.count;
        amid = record {
          is = refl;
          low = λ i d h. omega (arith, parted.past i d h, less);
          high = λ i d h. omega (arith, parted.latest i d h, less, digits 1, digits 2, digits 3);
        };
      }
]
between p (suc k) counts gone rows standing digits less = elim (cases_Bool rows.apart) [
  | inl apart ↦ between-apart p k counts gone rows standing less apart
  | inr shared ↦ between-shared p k counts gone rows standing less shared
]

ready-between : (p : Problem) (limit : Option ℕ) (counts : List ℕ) (k from : ℕ) (gone : List Row) (rows : Rows) → IsGroupReady p limit counts k from gone rows → IsBetween k gone rows (counts_number (set counts k (get_or counts k 0 - 1)))
ready-between p limit counts k from gone rows ready =
    let can = ready.can in
    between p k counts gone rows ready.standing (small-digits p counts can.lawful can.within) (less-by counts k can.places (small-phase p k can.lawful can.phase) can.some)

-- the search begins within the source
pub ready-within : (p : Problem) (limit : Option ℕ) (counts : List ℕ) (k from base : ℕ) (source : List Row) (gone : List Row) (rows : Rows) → IsGroupReady p limit counts k from gone rows → base ≡ base_of rows k → source ≡ source_of rows k → from - base ≤ length source
ready-within p limit counts k from base source gone rows ready is_base is_source =
    let b = ready-between p limit counts k from gone rows ready in
    omega (arith, is_base, b.base, ap length is_source, begins b.front (source_of rows k) b.behind (all_rows gone rows) (counts_number (set counts k (get_or counts k 0 - 1))) b.amid from (can-below p limit counts k from (all_rows gone rows) ready.can) ready.can.known)

-- and ends before the last row
pub ready-long : (p : Problem) (limit : Option ℕ) (counts : List ℕ) (k from base : ℕ) (source : List Row) (gone : List Row) (rows : Rows) → IsGroupReady p limit counts k from gone rows → base ≡ base_of rows k → source ≡ source_of rows k → base + length source ≤ length (all_rows gone rows)
ready-long p limit counts k from base source gone rows ready is_base is_source =
    let b = ready-between p limit counts k from gone rows ready in
    omega (arith, is_base, b.base, ap length is_source, long b.front (source_of rows k) b.behind (all_rows gone rows) (counts_number (set counts k (get_or counts k 0 - 1))) b.amid)

pub ready-found : (p : Problem) (limit : Option ℕ) (counts : List ℕ) (k from base skip start end : ℕ) (source : List Row) (gone : List Row) (rows : Rows) (list : List Cluster) (d : Cluster) → IsGroupReady p limit counts k from gone rows → base ≡ base_of rows k → source ≡ source_of rows k
    → list ≡ list_at p.lists k → skip ≡ from - base → IsFrom source skip (counts_number (set counts k (get_or counts k 0 - 1))) start → IsFrom source start (counts_number (set counts k (get_or counts k 0 - 1)) + 1) end
    → IsFound p counts k (all_rows gone rows) (take (end - start) (drop start source)) (base + start) (base + end) (get_or list (get_or (set counts k (get_or counts k 0 - 1)) k 0) d)
ready-found p limit counts k from base skip start end source gone rows list d ready is_base is_source is_list is_skip first second =
    let b = ready-between p limit counts k from gone rows ready in
    let at : length b.front ≡ base = sym (is_base ∙ b.base) in
    let number = counts_number (set counts k (get_or counts k 0 - 1)) in
    let one : IsFrom (source_of rows k) (from - length b.front) number start = subst (λ n. IsFrom (source_of rows k) (from - n) number start) (sym at) (subst (λ xs. IsFrom xs (from - base) number start) is_source (subst (λ n. IsFrom source n number start) is_skip first)) in
    let two : IsFrom (source_of rows k) start (number + 1) end = subst (λ xs. IsFrom xs start (number + 1) end) is_source second in
    let here = found-amid p limit counts k from start end b.front (source_of rows k) b.behind (all_rows gone rows) list d ready.can b.amid is_list one two in
    subst (λ xs. IsFound p counts k (all_rows gone rows) (take (end - start) (drop start xs)) (base + start) (base + end) (get_or list (get_or (set counts k (get_or counts k 0 - 1)) k 0) d)) (sym is_source)
    (subst (λ n. IsFound p counts k (all_rows gone rows) (take (end - start) (drop start (source_of rows k))) (n + start) (n + end) (get_or list (get_or (set counts k (get_or counts k 0 - 1)) k 0) d)) at here)

cancel : (front xs ys : List Row) → front ++ xs ≡ front ++ ys → xs ≡ ys
cancel front xs ys e = sym (drop-append_seam front xs) ∙ ap (drop (length front)) e ∙ drop-append_seam front ys

-- rows after the latest ones are after all
joined-all : (front old new : List Row) (reached : Reached) → AreJoined reached old new → AreJoined reached (front ++ old) (front ++ new)
joined-all front old new reached joined = record { made = joined.made; is = ap (λ xs. front ++ xs) joined.is ∙ sym (append_assoc front old joined.made); later = joined.later; best = joined.best }

-- rows after the latest ones, with counts as these have
made-between : (low middle high number : ℕ) (gone made : List Row) (old new : Rows) → AreBetween low middle high gone old → middle ≤ number → number < high → new.earlier.items ≡ old.earlier.items → new.latest.items ≡ old.latest.items ++ made → All (λ r. counts_number r.entry.counts ≡ number) made → AreBetween low middle high gone new
made-between low middle high number gone made old new parts up below same_earlier latest each = record {
  past = parts.past;
  earlier = subst (All (λ r. counts_number r.entry.counts < middle)) (sym same_earlier) parts.earlier;
  latest = subst (All (λ r. (middle ≤ counts_number r.entry.counts) × (counts_number r.entry.counts < high))) (sym latest)
      (All-append (λ r. (middle ≤ counts_number r.entry.counts) × (counts_number r.entry.counts < high)) old.latest.items made parts.latest (λ i d h. (omega (arith, each i d h), omega (arith, each i d h))));
}

-- what is known of the rows after the first ones
all-behind : (P : Row → Type 0) (front xs : List Row) → All P (front ++ xs) → All P xs
all-behind P front xs h = subst (All P) (drop-append_seam front xs) (All-drop P (length front) (front ++ xs) h)

-- more phases are passed
standing-on : (p : Problem) (k n : ℕ) (counts : List ℕ) (gone : List Row) (rows : Rows) → k ≤ n → AreStanding p k counts gone rows → AreStanding p n counts gone rows
standing-on p k n counts gone rows more h = record {
  count = h.count;
  shared = h.shared;
  apart = λ is. (let was = h.apart is in record { served = omega (arith, was.served, more); last = was.last; parts = was.parts });
}

-- the rows once a phase is served
pub record HasLeft (Holds : List Row → Type 0) (p : Problem) (k : ℕ) (counts : List ℕ) (gone : List Row) (old new : Rows) : Type 0 where
  pub past : List Row
  pub held : Holds past
  pub standing : AreStanding p (k + 1) counts past new
  pub same : all_rows past new ≡ all_rows gone old

module _ (Holds : List Row → Type 0) (p : Problem) (limit : Option ℕ) (counts : List ℕ) (k from : ℕ) (ends : Bool) (gone : List Row) (old new : Rows) (ready : IsGroupReady p limit counts k from gone old) (left : IsLeft Holds ends gone old new) where
  left-stays : ends ≡ false → AreStanding p (k + 1) counts left.past new
  left-stays h =
      let same = left.stays h in
      subst (λ rows. AreStanding p (k + 1) counts left.past rows) (sym same.1) (subst (λ xs. AreStanding p (k + 1) counts xs old) (sym same.0) (standing-on p k (k + 1) counts gone old (omega arith) ready.standing))

  left-goes : ends ≡ true → k ≡ 0 → IsLastCounts p counts → AreStanding p (k + 1) counts left.past new
  left-goes h none last =
      let goes = left.goes h in
      elim (cases_Bool old.apart) [
        | inl apart ↦ absurd (omega (arith, none, (ready.standing.apart apart).served))
        | inr shared ↦
            let parted = ready.standing.shared shared in
            record {
              count = left.count ready.standing.count;
              shared = λ other. absurd (true-false (sym goes.3 ∙ other));
              apart = λ is. record {
                served = omega arith;
                last = last;
                parts = record {
                  past = subst (All (λ r. counts_number r.entry.counts + 262144 < get_or counts 0 0 * 262144 + 262144)) (sym goes.0)
                      (All-append (λ r. counts_number r.entry.counts + 262144 < get_or counts 0 0 * 262144 + 262144) gone old.earlier.items (λ i d h. omega (arith, parted.past i d h)) (λ i d h. omega (arith, parted.earlier i d h)));
                  earlier = subst (All (λ r. counts_number r.entry.counts < counts_number counts)) (sym goes.1)
                      (λ i d h. omega (arith, none, all-behind (λ r. row_group r < counts_number counts * 4 + k) (gone ++ old.earlier.items) old.latest.items ready.can.table.below i d h));
                  latest = subst (All (λ r. (counts_number counts ≤ counts_number r.entry.counts) × (counts_number r.entry.counts < get_or counts 0 0 * 262144 + 262144))) (sym goes.2)
                      (All-nil (λ r. (counts_number counts ≤ counts_number r.entry.counts) × (counts_number r.entry.counts < get_or counts 0 0 * 262144 + 262144)));
                };
              };
            }
      ]

  pub has-left : (ends ≡ true → (k ≡ 0) × IsLastCounts p counts) → HasLeft Holds p k counts gone old new
  has-left only = record {
    past = left.past;
    held = left.held;
    standing = elim (cases_Bool ends) [ inl h ↦ left-goes h (only h).0 (only h).1 | inr h ↦ left-stays h ];
    same = left.same;
  }

pub ready-filled : (Holds : List Row → Type 0) (p : Problem) (limit : Option ℕ) (counts : List ℕ) (k from start end : ℕ) (gone source : List Row) (old mid new : Rows) (cluster : Cluster) (reached : Reached) → IsGroupReady p limit counts k from gone old → IsFound p counts k (all_rows gone old) source start end cluster
    → AreReachedBy p limit k cluster source (length source) reached → HasLeft Holds p k counts gone old mid → AreJoined reached mid.latest.items new.latest.items → new.gone ≡ mid.gone → new.earlier.items ≡ mid.earlier.items → new.apart ≡ mid.apart → IsGroupFilled Holds p limit counts k gone old new end
ready-filled Holds p limit counts k from start end gone source old mid new cluster reached ready f by left joined same_gone same_earlier same_apart =
    let can = ready.can in
    let past = left.past in
    let digits = small-digits p counts can.lawful can.within in
    let behind : AreJoined reached (all_rows past mid) (all_rows past new) =
    subst (λ xs. AreJoined reached (all_rows past mid) (past ++ xs ++ new.latest.items)) (sym same_earlier) (joined-all (past ++ mid.earlier.items) mid.latest.items new.latest.items reached joined) in
    let done = filled p limit counts k from start end (all_rows gone old) source (all_rows past new) cluster reached can f by (subst (λ xs. AreJoined reached xs (all_rows past new)) left.same behind) in
    let latest : new.latest.items ≡ mid.latest.items ++ done.made =
    cancel (past ++ mid.earlier.items) new.latest.items (mid.latest.items ++ done.made) (ap (λ xs. past ++ xs ++ new.latest.items) (sym same_earlier) ∙ done.longer ∙ ap (λ xs. xs ++ done.made) (sym left.same) ∙ append_assoc (past ++ mid.earlier.items) mid.latest.items done.made) in
    let each : All (λ r. counts_number r.entry.counts ≡ counts_number counts) done.made = λ i d h. ap counts_number (done.cell i d h) in
    record {
      past = past;
      held = left.held;
      filled = done;
      standing = record {
        count = same_gone ∙ left.standing.count;
        shared = λ h. made-between (get_or counts 0 0 * 262144) (get_or counts 0 0 * 262144) (get_or counts 0 0 * 262144 + 262144) (counts_number counts) past done.made mid new (left.standing.shared (sym same_apart ∙ h)) (omega arith) (omega (arith, digits 1, digits 2, digits 3)) same_earlier latest each;
        apart = λ h.
            let was = left.standing.apart (sym same_apart ∙ h) in
            record {
              served = was.served;
              last = was.last;
              parts = made-between (get_or counts 0 0 * 262144 + 262144) (counts_number counts) (get_or counts 0 0 * 262144 + 262144) (counts_number counts) past done.made mid new was.parts (omega arith) (omega (arith, digits 1, digits 2, digits 3)) same_earlier latest each;
            };
      };
    }

-- how many rows there are
pub ready-few : (p : Problem) (limit : Option ℕ) (counts : List ℕ) (k from : ℕ) (gone : List Row) (rows : Rows) → IsGroupReady p limit counts k from gone rows → length (all_rows gone rows) ≤ 2000001
ready-few p limit counts k from gone rows ready = rows-few p ready.can.lawful (all_rows gone rows) ready.can.table.made

pub ready-gone : (p : Problem) (limit : Option ℕ) (counts : List ℕ) (k from : ℕ) (gone : List Row) (rows : Rows) → IsGroupReady p limit counts k from gone rows → rows.gone + length rows.earlier.items ≤ 2000001
ready-gone p limit counts k from gone rows ready =
    omega (arith, ready.standing.count, ready-few p limit counts k from gone rows ready, length-append (gone ++ rows.earlier.items) rows.latest.items, length-append gone rows.earlier.items)

-- ---- a cell

-- the groups of the phases so far are made
pub record IsUnderWay (p : Problem) (limit : Option ℕ) (counts : List ℕ) (k : ℕ) (gone : List Row) (rows : Rows) (ends : List ℕ) : Type 0 where
  pub table : IsTable p limit (counts_number counts * 4 + k) (all_rows gone rows)
  pub ends_are : AreEnds (length p.plan) (all_rows gone rows) (counts_number counts + 1) k ends
  pub standing : AreStanding p k counts gone rows

-- and some rows are dropped
pub record HasCome (Holds : List Row → Type 0) (p : Problem) (limit : Option ℕ) (counts : List ℕ) (k : ℕ) (rows : Rows) (ends : List ℕ) : Type 0 where
  pub gone : List Row
  pub held : Holds gone
  pub way : IsUnderWay p limit counts k gone rows ends

pub cell-starts : (Holds : List Row → Type 0) (p : Problem) (limit : Option ℕ) (counts : List ℕ) (gone : List Row) (rows : Rows) (ends : List ℕ) → Holds gone → IsCellReady p limit counts gone rows ends → HasCome Holds p limit counts 0 rows ends
cell-starts Holds p limit counts gone rows ends held ready = record {
  gone = gone;
  held = held;
  way = record {
    table = subst (λ n. IsTable p limit n (all_rows gone rows)) (let e : counts_number counts * 4 ≡ counts_number counts * 4 + 0 = omega arith in e) ready.can.table;
    ends_are = ready.can.known;
    standing = ready.standing;
  };
}

pub group-ready : (p : Problem) (limit : Option ℕ) (counts : List ℕ) (k : ℕ) (gone now : List Row) (first rows : Rows) (initial ends : List ℕ) → IsCellReady p limit counts gone first initial → k < length p.plan → 0 < get_or counts k 0 → IsUnderWay p limit counts k now rows ends → IsGroupReady p limit counts k (get_or ends k 0) now rows
group-ready p limit counts k gone now first rows initial ends ready inside some way = record {
  can = can-fill p limit counts k (all_rows gone first) (all_rows now rows) initial ends ready.can inside some way.table way.ends_are;
  standing = way.standing;
}

pub cell-goes-on : (Holds : List Row → Type 0) (p : Problem) (limit : Option ℕ) (counts : List ℕ) (k end : ℕ) (gone : List Row) (rows new : Rows) (ends : List ℕ) → IsUnderWay p limit counts k gone rows ends → k < length p.plan → length p.plan ≤ 4 → IsGroupFilled Holds p limit counts k gone rows new end → HasCome Holds p limit counts (k + 1) new (set ends k end)
cell-goes-on Holds p limit counts k end gone rows new ends way inside few made = record {
  gone = made.past;
  held = made.held;
  way = record {
    table = table-filled p limit counts k end (all_rows gone rows) (all_rows made.past new) made.filled;
    ends_are = ends-filled p limit counts k end (all_rows gone rows) (all_rows made.past new) ends inside few way.ends_are made.filled;
    standing = made.standing;
  };
}

pub cell-passes : (Holds : List Row → Type 0) (p : Problem) (limit : Option ℕ) (counts : List ℕ) (k : ℕ) (gone : List Row) (first rows : Rows) (initial ends : List ℕ) → IsCellReady p limit counts gone first initial → k < length p.plan → get_or counts k 0 ≤ 0 → HasCome Holds p limit counts k rows ends → HasCome Holds p limit counts (k + 1) rows ends
cell-passes Holds p limit counts k gone first rows initial ends ready inside none come = record {
  gone = come.gone;
  held = come.held;
  way = record {
    table = table-passed p limit counts k (all_rows gone first) (all_rows come.gone rows) initial ready.can inside none come.way.table;
    ends_are = ends-passed (length p.plan) (all_rows come.gone rows) (counts_number counts + 1) k ends come.way.ends_are;
    standing = standing-on p k (k + 1) counts come.gone rows (omega arith) come.way.standing;
  };
}

pub cell-ends : (Holds : List Row → Type 0) (p : Problem) (limit : Option ℕ) (counts : List ℕ) (n : ℕ) (gone : List Row) (first rows : Rows) (initial ends : List ℕ) → IsCellReady p limit counts gone first initial → n ≡ length p.plan → HasCome Holds p limit counts n rows ends → IsCellMade Holds p limit counts rows ends
cell-ends Holds p limit counts n gone first rows initial ends ready all come =
    let few : length p.plan ≤ 4 = ready.can.lawful.plan.count.1 in
    record {
      gone = come.gone;
      held = come.held;
      filled = cell-filled p limit counts n (all_rows gone first) (all_rows come.gone rows) initial ends ready.can all come.way.table come.way.ends_are;
      standing = standing-on p n 4 counts come.gone rows (omega (arith, all, few)) come.way.standing;
    }

-- ---- the table

-- a row of no places
pub table-starts : (p : Problem) (limit : Option ℕ) → IsInstance p → IsSomeDelay p limit → (r : Row) (rows : Rows) → r ≡ record { entry = record { counts = 0 ∷ 0 ∷ 0 ∷ 0 ∷ []; phase = p.head.phase; since = p.head.since; at = p.head.at; delay = 0 }; order = 0 }
    → rows.gone ≡ 0 → rows.earlier.items ≡ [] → rows.latest.items ≡ r ∷ [] → rows.apart ≡ false → IsUnderWay p limit (0 ∷ 0 ∷ 0 ∷ 0 ∷ []) 4 [] rows (0 ∷ 0 ∷ 0 ∷ 0 ∷ [])
table-starts p limit lawful delay r rows is none earlier latest shared =
    let all : all_rows [] rows ≡ r ∷ [] = ap (λ xs. let ys : List Row = [] ++ xs ++ rows.latest.items in ys) earlier ∙ latest in
    let low : counts_number r.entry.counts ≡ 0 = ap (λ (x : Row). counts_number x.entry.counts) is in
    record {
      table = subst (IsTable p limit 4) (sym all) (table-first p limit lawful delay r is);
      ends_are = ends-start (length p.plan) (all_rows [] rows);
      standing = record {
        count = none;
        shared = λ _. record {
          past = All-nil (λ r. counts_number r.entry.counts + 262144 < 0);
          earlier = subst (All (λ r. counts_number r.entry.counts < 0)) (sym earlier) (All-nil (λ r. counts_number r.entry.counts < 0));
          latest = subst (All (λ r. (0 ≤ counts_number r.entry.counts) × (counts_number r.entry.counts < 262144))) (sym latest)
              (All-cons (λ r. (0 ≤ counts_number r.entry.counts) × (counts_number r.entry.counts < 262144)) r [] (omega arith, omega (arith, low)) (All-nil (λ r. (0 ≤ counts_number r.entry.counts) × (counts_number r.entry.counts < 262144))));
        };
        apart = λ other. absurd (true-false (sym other ∙ shared));
      };
    }

pub way-gone : (p : Problem) (limit : Option ℕ) (counts : List ℕ) (k : ℕ) (gone : List Row) (rows : Rows) (ends : List ℕ) → IsInstance p → IsUnderWay p limit counts k gone rows ends → rows.gone + length rows.earlier.items ≤ 2000001
way-gone p limit counts k gone rows ends lawful way =
    omega (arith, way.standing.count, rows-few p lawful (all_rows gone rows) way.table.made, length-append (gone ++ rows.earlier.items) rows.latest.items, length-append gone rows.earlier.items)

-- where counts come next, the last cell does not stand apart
not-apart : (p : Problem) (last counts next : List ℕ) (gone : List Row) (rows : Rows) → AreLengths p.lists last → IsNextCounts last counts next → AreStanding p 4 counts gone rows → rows.apart ≡ false
not-apart p last counts next gone rows lengths is standing = elim (cases_Bool rows.apart) [
  | inl apart ↦ absurd (omega (arith, is.above, (standing.apart apart).last next (λ k. omega (arith, is.within k, lengths.each k))))
  | inr shared ↦ shared
]

-- the next cell can be filled
pub entered-ready : (p : Problem) (limit : Option ℕ) → IsInstance p → (last counts next : List ℕ) (gone : List Row) (rows new : Rows) (ends : List ℕ) (Holds : List Row → Type 0) → AreLengths p.lists last → IsNextCounts last counts next → ((k : ℕ) → get_or counts k 0 ≤ get_or last k 0) → IsUnderWay p limit counts 4 gone rows ends
    → (e : IsEntered Holds (get_or counts 0 0) (get_or next 0 0) gone rows new) → IsCellReady p limit next e.past new ends
entered-ready p limit lawful last counts next gone rows new ends Holds lengths is within way e =
    let small = small-last p last lawful lengths in
    let above = is.above in
    let rise : get_or counts 0 0 ≤ get_or next 0 0 = omega (arith, above, within 0, within 1, within 2, within 3, is.within 0, is.within 1, is.within 2, is.within 3, small 0, small 1, small 2, small 3) in
    let shared : rows.apart ≡ false = not-apart p last counts next gone rows lengths is way.standing in
    record {
      can = cell-ready p limit lawful last counts next (all_rows e.past new) ends lengths is (subst (IsTable p limit (counts_number counts * 4 + 4)) (sym e.same) way.table) (subst (λ rs. AreEnds (length p.plan) rs (counts_number counts + 1) 4 ends) (sym e.same) way.ends_are);
      standing = record {
        count = e.count way.standing.count;
        shared = λ _. e.parted (way.standing.shared shared) rise;
        apart = λ other. absurd (true-false (sym other ∙ e.apart ∙ shared));
      };
    }

pub way-made : (Holds : List Row → Type 0) (p : Problem) (limit : Option ℕ) (counts : List ℕ) (rows : Rows) (ends : List ℕ) (made : IsCellMade Holds p limit counts rows ends) → IsUnderWay p limit counts 4 made.gone rows ends
way-made Holds p limit counts rows ends made = record { table = made.filled.table; ends_are = made.filled.known; standing = made.standing }

-- what stands before the latest rows has lower counts than the last
lower-than-last : (p : Problem) (counts last : List ℕ) (gone : List Row) (rows : Rows) → counts_number last ≡ counts_number counts → AreStanding p 4 counts gone rows → All (λ r. counts_number r.entry.counts < counts_number last) (gone ++ rows.earlier.items)
lower-than-last p counts last gone rows same standing = elim (cases_Bool rows.apart) [
  | inl apart ↦
      let parts = (standing.apart apart).parts in
      All-append (λ r. counts_number r.entry.counts < counts_number last) gone rows.earlier.items (λ i d h. omega (arith, same, parts.past i d h)) (λ i d h. omega (arith, same, parts.earlier i d h))
  | inr shared ↦
      let parted = standing.shared shared in
      All-append (λ r. counts_number r.entry.counts < counts_number last) gone rows.earlier.items (λ i d h. omega (arith, same, parted.past i d h)) (λ i d h. omega (arith, same, parted.earlier i d h))
]

-- the last cell is made
pub table-ends : (p : Problem) (limit : Option ℕ) → IsInstance p → (last counts : List ℕ) (gone : List Row) (rows : Rows) (ends : List ℕ) → AreLengths p.lists last → ((k : ℕ) → get_or counts k 0 ≤ get_or last k 0) → ((c : List ℕ) → ((k : ℕ) → get_or c k 0 ≤ get_or last k 0) → counts_number c ≤ counts_number counts)
    → IsUnderWay p limit counts 4 gone rows ends → IsTableMade p limit gone rows
table-ends p limit lawful last counts gone rows ends lengths within least way = record {
  table = table-whole p limit lawful last counts (all_rows gone rows) lengths.each least way.table;
  before = λ other others.
      let up : counts_number other ≤ counts_number counts = least other (λ k. omega (arith, others.each k, lengths.each k)) in
      let down : counts_number counts ≤ counts_number other =
      omega (arith, within 0, within 1, within 2, within 3, lengths.each 0, lengths.each 1, lengths.each 2, lengths.each 3, others.each 0, others.each 1, others.each 2, others.each 3) in
      lower-than-last p counts other gone rows (omega (arith, up, down)) way.standing;
}

-- the rows with the last counts are among the latest ones
pub latest-cell : (p : Problem) (limit : Option ℕ) → IsInstance p → (gone : List Row) (rows : Rows) (last : List ℕ) (start end : ℕ) → IsTableMade p limit gone rows → AreLengths p.lists last → IsFrom rows.latest.items 0 (counts_number last) start → IsFrom rows.latest.items start (counts_number last + 1) end
    → IsCell (all_rows gone rows) (take (end - start) (drop start rows.latest.items)) (length (gone ++ rows.earlier.items) + start) last
latest-cell p limit lawful gone rows last start end made lengths first second =
    let front = gone ++ rows.earlier.items in
    let all = all_rows gone rows in
    let source = rows.latest.items in
    let number = counts_number last in
    let amid : IsAmid front source [] all number = record {
      is = sym (append-nil all);
      low = made.before last lengths;
      high = All-nil (λ r. number < counts_number r.entry.counts);
    } in
    subst (λ xs. IsCell all xs (length front + start) last) (slice-all front source [] all number amid start end second.rise second.within)
    (cell-is p lawful all last (length front + 0) (length front + start) (length front + end) made.table.made lengths.places (small-last p last lawful lengths)
    (from-all front source [] all number amid 0 number start (omega arith) first) (from-all front source [] all number amid start (number + 1) end (omega arith) second)
    (λ place h. in-front front source [] all number amid place (omega (arith, h))))

-- ---- rows that are dropped

-- the latest rows are the earlier ones now
turned-same : (gone past : List Row) (old new : Rows) → past ≡ gone ++ old.earlier.items → new.earlier.items ≡ old.latest.items → new.latest.items ≡ [] → all_rows past new ≡ all_rows gone old
turned-same gone past old new is earlier latest =
    ap (λ xs. xs ++ new.earlier.items ++ new.latest.items) is
    ∙ ap (λ xs. gone ++ old.earlier.items ++ xs ++ new.latest.items) earlier
    ∙ ap (λ xs. gone ++ old.earlier.items ++ old.latest.items ++ xs) latest
    ∙ append-nil (all_rows gone old)

-- the next cell has more clusters of the first phase
pub turned : (Holds : List Row → Type 0) (first next : ℕ) (gone slice : List Row) (old new : Rows) → Holds (gone ++ slice) → slice ≡ old.earlier.items → first < next → new.gone ≡ old.gone + length old.earlier.items → new.earlier.items ≡ old.latest.items → new.latest.items ≡ [] → new.apart ≡ old.apart
    → IsEntered Holds first next gone old new
turned Holds first next gone slice old new held is less count earlier latest apart = record {
  past = gone ++ old.earlier.items;
  held = subst (λ xs. Holds (gone ++ xs)) is held;
  count = λ was. omega (arith, count, was, length-append gone old.earlier.items);
  parted = λ parted rise. record {
    past = All-append (λ r. counts_number r.entry.counts + 262144 < next * 262144) gone old.earlier.items (λ i d h. omega (arith, parted.past i d h, less)) (λ i d h. omega (arith, parted.earlier i d h, less));
    earlier = subst (All (λ r. counts_number r.entry.counts < next * 262144)) (sym earlier) (λ i d h. omega (arith, parted.latest i d h, less));
    latest = subst (All (λ r. (next * 262144 ≤ counts_number r.entry.counts) × (counts_number r.entry.counts < next * 262144 + 262144))) (sym latest)
        (All-nil (λ r. (next * 262144 ≤ counts_number r.entry.counts) × (counts_number r.entry.counts < next * 262144 + 262144)));
  };
  apart = apart;
  same = turned-same gone (gone ++ old.earlier.items) old new refl earlier latest;
}

-- the first phase is served in the last cell
pub left : (Holds : List Row → Type 0) (ends : Bool) (gone slice : List Row) (old new : Rows) → Holds (gone ++ slice) → slice ≡ old.earlier.items → ends ≡ true → new.gone ≡ old.gone + length old.earlier.items → new.earlier.items ≡ old.latest.items → new.latest.items ≡ [] → new.apart ≡ true → IsLeft Holds ends gone old new
left Holds ends gone slice old new held is whether count earlier latest apart = record {
  past = gone ++ old.earlier.items;
  held = subst (λ xs. Holds (gone ++ xs)) is held;
  count = λ was. omega (arith, count, was, length-append gone old.earlier.items);
  stays = λ other. absurd (true-false (sym whether ∙ other));
  goes = λ _. (refl, earlier, latest, apart);
  same = turned-same gone (gone ++ old.earlier.items) old new refl earlier latest;
}
