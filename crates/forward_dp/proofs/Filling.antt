-- A group is filled from the rows with one cluster less, and a cell from its groups.
use Rattle.std.specs.Prelude.{slice_get}
use Rattle.std.proofs.Common.{◌≡◌, ℕ, zero, suc, ◌+◌, ◌-◌, ◌*◌, ◌<◌, ◌≤◌, List, [], ◌∷◌, ◌++◌, length, sum, get_or, set, take, drop, Option, Some, refl, sym, ap, subst, ◌∙◌, inl, inr, length-append, length-set, suc-mul, arith}
use Rattle.std.proofs.Math.Nat.{mul-le-mul_left}
use Rattle.std.proofs.lemmas.Bool.{cases_eq, cases_lt}
use Rattle.std.proofs.lemmas.List.{get_or_append_left, get_or-set_other, get_or-set_same}
use Rattle.std.proofs.lemmas.List.Sums.{sum_by-cons, sum_by-set}
use Rattle.std.proofs.lemmas.Option.{slice_get-get_or}
use Rattle.switch_rules.specs.declared.Cluster.{Cluster}
use Rattle.schedule_meaning.specs.Instances.{Problem, IsInstance, list_at}
use Rattle.dp_certificate.specs.Numbers.{AreLengths}
use Rattle.dp_certificate.proofs.NextLaws.{few-listed}
use Rattle.dp_certificate.proofs.Stages.{none-counted}
use Rattle.forward_dp.specs.Groups.{AreJoined, AreReachedBy, IsSource, no_row}
use Rattle.forward_dp.specs.declared.groups.Reached.{Reached}
use Rattle.forward_dp.specs.declared.rows.Row.{Row}
use Rattle.forward_dp.proofs.Reaching.{joined-made}
use Rattle.forward_dp.specs.Numbers.{counts_number}
use Rattle.forward_dp.specs.Tables.{AreBelow, AreEnds, CanFill, CanFillCell, IsCellFilled, IsFilled, IsFrom, IsNextCounts, IsTable, counts_number_at, unit_of}
use Rattle.forward_dp.proofs.Cells.{IsCell, cell-is, cell-source, counts-rise, slice-is}
use Rattle.forward_dp.proofs.Growing.{grown, made-counts, none-between, none-of-phase, none-past, table-on}
use Rattle.forward_dp.proofs.RowLaws.{back, before-four, before-is, before_of, number-more}

-- the rows from which a group is reached
pub record IsFound (p : Problem) (counts : List ℕ) (k : ℕ) (rows source : List Row) (start end : ℕ) (cluster : Cluster) : Type 0 where
  pub cell : IsCell rows source start (before_of counts k)
  pub is : IsSource p k cluster source
  pub behind : AreBelow rows k (counts_number counts + 1) end
  pub known : end ≤ length rows
  pub rise : start ≤ end
  pub long : length source ≡ end - start

pub small-digits : (p : Problem) (counts : List ℕ) → IsInstance p → ((j : ℕ) → get_or counts j 0 ≤ length (list_at p.lists j)) → (j : ℕ) → get_or counts j 0 < 64
small-digits p counts lawful within j = omega (arith, within j, few-listed p lawful j)

module _ (p : Problem) (limit : Option ℕ) (counts : List ℕ) (k from start end : ℕ) (rows : List Row) (can : CanFill p limit counts k from rows) (first : IsFrom rows from (counts_number (before_of counts k)) start) (second : IsFrom rows start (counts_number (before_of counts k) + 1) end) where
  small : k < 4
  small = omega (arith, can.phase, can.lawful.plan.count.1)

  digits : (j : ℕ) → get_or counts j 0 < 64
  digits = small-digits p counts can.lawful can.within

  less-by : counts_number counts ≡ counts_number (before_of counts k) + unit_of k
  less-by = ap counts_number (sym (back counts k can.places small can.some)) ∙ number-more (before_of counts k) k (before-four counts k can.places) small

  before-digits : (j : ℕ) → get_or (before_of counts k) j 0 < 64
  before-digits j = subst (λ xs. get_or xs j 0 < 64) (sym (before-is counts k)) (elim (cases_eq j k) [
    | inl same ↦ omega (arith, digits k, ap (λ i. get_or (set counts k (get_or counts k 0 - 1)) i 0) same, get_or-set_same counts k (get_or counts k 0 - 1) 0 (omega (arith, can.places, small)))
    | inr other ↦ omega (arith, digits j, get_or-set_other counts k j (get_or counts k 0 - 1) 0 other)
  ])

  the-cell : IsCell rows (take (end - start) (drop start rows)) start (before_of counts k)
  the-cell = cell-is p can.lawful rows (before_of counts k) from start end can.table.made (before-four counts k can.places) before-digits first second (λ place h. omega (arith, can.behind place h, less-by))

  the-next : (d : Cluster) → slice_get (list_at p.lists k) (get_or (before_of counts k) k 0) ≡ Some (get_or (list_at p.lists k) (get_or (before_of counts k) k 0) d)
  the-next d =
      let one : get_or (before_of counts k) k 0 ≡ get_or counts k 0 - 1 = ap (λ xs. get_or xs k 0) (before-is counts k) ∙ get_or-set_same counts k (get_or counts k 0 - 1) 0 (omega (arith, can.places, small)) in
      slice_get-get_or (list_at p.lists k) (get_or (before_of counts k) k 0) d (omega (arith, one, can.within k, can.some))

  the-behind : AreBelow rows k (counts_number counts + 1) end
  the-behind place h =
      let within = second.within in
      elim (cases_lt start end) [
        | inl some ↦ omega (arith, second.below some, counts-rise p can.lawful rows can.table.made place (end - 1) (omega (arith, h)) (omega (arith, some, within)), less-by)
        | inr none ↦ elim (cases_lt from start) [
          | inl more ↦ omega (arith, first.below more, counts-rise p can.lawful rows can.table.made place (start - 1) (omega (arith, h, none)) (omega (arith, more, first.within)), less-by)
          | inr low ↦ omega (arith, can.behind place (omega (arith, h, none, low)))
        ]
      ]

  found-here : (d : Cluster) → IsFound p counts k rows (take (end - start) (drop start rows)) start end (get_or (list_at p.lists k) (get_or (before_of counts k) k 0) d)
  found-here d = record {
    cell = the-cell;
    is = cell-source p can.lawful rows (take (end - start) (drop start rows)) start (before_of counts k) k (get_or (list_at p.lists k) (get_or (before_of counts k) k 0) d) can.table.made the-cell (the-next d);
    behind = the-behind;
    known = second.within;
    rise = second.rise;
    long = the-long;
  }
    where
      the-long : length (take (end - start) (drop start rows)) ≡ end - start
      the-long = (slice-is rows start end second.rise second.within).1

-- the same over what the calls give
pub found : (p : Problem) (limit : Option ℕ) (counts : List ℕ) (k from start end : ℕ) (rows slice other : List Row) (list : List Cluster) (d : Cluster) → CanFill p limit counts k from rows → slice ≡ rows → other ≡ rows → list ≡ list_at p.lists k
    → IsFrom slice from (counts_number (set counts k (get_or counts k 0 - 1))) start → IsFrom slice start (counts_number (set counts k (get_or counts k 0 - 1)) + 1) end
    → IsFound p counts k rows (take (end - start) (drop start other)) start end (get_or list (get_or (set counts k (get_or counts k 0 - 1)) k 0) d)
found p limit counts k from start end rows slice other list d can is_rows is_other is_list first second =
    let b = sym (before-is counts k) in
    let one : IsFrom rows from (counts_number (before_of counts k)) start = subst (λ xs. IsFrom rows from (counts_number xs) start) b (subst (λ rs. IsFrom rs from (counts_number (set counts k (get_or counts k 0 - 1))) start) is_rows first) in
    let two : IsFrom rows start (counts_number (before_of counts k) + 1) end = subst (λ xs. IsFrom rows start (counts_number xs + 1) end) b (subst (λ rs. IsFrom rs start (counts_number (set counts k (get_or counts k 0 - 1)) + 1) end) is_rows second) in
    let here = found-here p limit counts k from start end rows can one two d in
    subst (λ rs. IsFound p counts k rows (take (end - start) (drop start rs)) start end (get_or list (get_or (set counts k (get_or counts k 0 - 1)) k 0) d)) (sym is_other)
    (subst (λ cs. IsFound p counts k rows (take (end - start) (drop start rows)) start end (get_or cs (get_or (set counts k (get_or counts k 0 - 1)) k 0) d)) (sym is_list)
    (subst (λ xs. IsFound p counts k rows (take (end - start) (drop start rows)) start end (get_or (list_at p.lists k) (get_or xs k 0) d)) (sym b) here))

pub filled : (p : Problem) (limit : Option ℕ) (counts : List ℕ) (k from start end : ℕ) (rows source new : List Row) (cluster : Cluster) (reached : Reached) → CanFill p limit counts k from rows → IsFound p counts k rows source start end cluster → AreReachedBy p limit k cluster source (length source) reached → AreJoined reached rows new → IsFilled p limit counts k rows new end
filled p limit counts k from start end rows source new cluster reached can f by joined =
    let made = joined-made p limit k cluster source reached rows new by joined in
    record {
      table = grown p limit can.lawful counts k can.places (small-digits p counts can.lawful can.within) (omega (arith, can.phase, can.lawful.plan.count.1)) can.some rows source new start cluster can.table f.cell f.is made;
      made = made.made;
      longer = made.is;
      cell = made-counts p limit can.lawful counts k can.places (small-digits p counts can.lawful can.within) (omega (arith, can.phase, can.lawful.plan.count.1)) can.some rows source new start cluster can.table f.cell f.is made;
      known = f.known;
      behind = f.behind;
    }

-- ---- a cell

-- a row in front stays where it is
at-front : (rows made : List Row) (place : ℕ) → place < length rows → counts_number_at (rows ++ made) place ≡ counts_number_at rows place
at-front rows made place h = ap (λ (r : Row). counts_number r.entry.counts) (get_or_append_left rows made no_row place h)

below-longer : (rows new made : List Row) (k number end : ℕ) → new ≡ rows ++ made → end ≤ length rows → AreBelow rows k number end → AreBelow new k number end
below-longer rows new made k number end is within h place less = omega (arith, h place less, ap (λ rs. counts_number_at rs place) is, at-front rows made place (omega (arith, less, within)))

-- a group can be filled
pub can-fill : (p : Problem) (limit : Option ℕ) (counts : List ℕ) (k : ℕ) (first rows : List Row) (initial ends : List ℕ) → CanFillCell p limit counts first initial → k < length p.plan → 0 < get_or counts k 0 → IsTable p limit (counts_number counts * 4 + k) rows → AreEnds (length p.plan) rows (counts_number counts + 1) k ends → CanFill p limit counts k (get_or ends k 0) rows
can-fill p limit counts k first rows initial ends can phase some table e = record {
  lawful = can.lawful;
  places = can.places;
  within = can.within;
  phase = phase;
  some = some;
  table = table;
  known = e.within k;
  behind = λ place h. omega (arith, e.ahead k (omega arith) place h);
}

-- the ends after a group that is filled
pub ends-filled : (p : Problem) (limit : Option ℕ) (counts : List ℕ) (k end : ℕ) (rows new : List Row) (ends : List ℕ) → k < length p.plan → length p.plan ≤ 4 → AreEnds (length p.plan) rows (counts_number counts + 1) k ends → IsFilled p limit counts k rows new end → AreEnds (length p.plan) new (counts_number counts + 1) (k + 1) (set ends k end)
ends-filled p limit counts k end rows new ends phase few e f =
    let longer : length new ≡ length rows + length f.made = ap length f.longer ∙ length-append rows f.made in
    let here : get_or (set ends k end) k 0 ≡ end = get_or-set_same ends k end 0 (omega (arith, e.places, phase, few)) in
    let there : (j : ℕ) → (j ≡ k → ⊥) → get_or (set ends k end) j 0 ≡ get_or ends j 0 = λ j other. get_or-set_other ends k j end 0 other in
    record {
      places = length-set ends k end ∙ e.places;
      within = λ j. elim (cases_eq j k) [
        | inl same ↦ omega (arith, here, ap (λ i. get_or (set ends k end) i 0) same, f.known, longer)
        | inr other ↦ omega (arith, there j other, e.within j, longer)
      ];
      none = λ j past. there j (λ same. omega (arith, same, past, phase)) ∙ e.none j past;
      behind = λ j. elim (cases_eq j k) [
        | inl same ↦
            subst (λ i. AreBelow new i (counts_number counts + 1) (get_or (set ends k end) i 0)) (sym same)
            (subst (AreBelow new k (counts_number counts + 1)) (sym here) (below-longer rows new f.made k (counts_number counts + 1) end f.longer f.known f.behind))
        | inr other ↦ subst (AreBelow new j (counts_number counts + 1)) (sym (there j other)) (below-longer rows new f.made j (counts_number counts + 1) (get_or ends j 0) f.longer (e.within j) (e.behind j))
      ];
      ahead = λ j past place h.
          let other : j ≡ k → ⊥ = λ same. omega (arith, same, past) in
          let before : place < get_or ends j 0 = subst (λ n. place < n) (there j other) h in
          omega (arith, e.ahead j (omega (arith, past)) place before, ap (λ rs. counts_number_at rs place) f.longer, at-front rows f.made place (omega (arith, before, e.within j)));
    }

-- a phase of which none is served
pub ends-passed : (phases : ℕ) (rows : List Row) (number k : ℕ) (ends : List ℕ) → AreEnds phases rows number k ends → AreEnds phases rows number (k + 1) ends
ends-passed phases rows number k ends e = record { places = e.places; within = e.within; none = e.none; behind = e.behind; ahead = λ j past. e.ahead j (omega (arith, past)) }

pub table-passed : (p : Problem) (limit : Option ℕ) (counts : List ℕ) (k : ℕ) (first rows : List Row) (initial : List ℕ) → CanFillCell p limit counts first initial → k < length p.plan → get_or counts k 0 ≤ 0 → IsTable p limit (counts_number counts * 4 + k) rows → IsTable p limit (counts_number counts * 4 + (k + 1)) rows
table-passed p limit counts k first rows initial can phase none table =
    subst (λ n. IsTable p limit n rows) (let e : counts_number counts * 4 + k + 1 ≡ counts_number counts * 4 + (k + 1) = omega arith in e)
    (table-on p limit (counts_number counts * 4 + k) (counts_number counts * 4 + k + 1) rows (omega arith)
    (none-of-phase p can.lawful counts k can.places (small-digits p counts can.lawful can.within) (omega (arith, phase, can.lawful.plan.count.1)) (omega (arith, none)) can.some) table)

pub table-filled : (p : Problem) (limit : Option ℕ) (counts : List ℕ) (k end : ℕ) (rows new : List Row) → IsFilled p limit counts k rows new end → IsTable p limit (counts_number counts * 4 + (k + 1)) new
table-filled p limit counts k end rows new f = subst (λ n. IsTable p limit n new) (let e : counts_number counts * 4 + k + 1 ≡ counts_number counts * 4 + (k + 1) = omega arith in e) f.table

-- all phases are passed
pub cell-filled : (p : Problem) (limit : Option ℕ) (counts : List ℕ) (n : ℕ) (first rows : List Row) (initial ends : List ℕ) → CanFillCell p limit counts first initial → n ≡ length p.plan → IsTable p limit (counts_number counts * 4 + n) rows → AreEnds (length p.plan) rows (counts_number counts + 1) n ends → IsCellFilled p limit counts rows ends
cell-filled p limit counts n first rows initial ends can all table e =
    let few : length p.plan ≤ 4 = can.lawful.plan.count.1 in
    record {
      table = table-on p limit (counts_number counts * 4 + length p.plan) (counts_number counts * 4 + 4) rows (omega arith) (none-past p can.lawful (counts_number counts)) (subst (λ m. IsTable p limit (counts_number counts * 4 + m) rows) all table);
      known = record { places = e.places; within = e.within; none = e.none; behind = e.behind; ahead = λ j past. e.ahead j (omega (arith, past, all, few)) };
    }

-- ---- steps

sum-within : (xs : List ℕ) (phases most : ℕ) → ((j : ℕ) → get_or xs j 0 ≤ most) → ((j : ℕ) → phases ≤ j → get_or xs j 0 ≡ 0) → sum xs ≤ phases * most
sum-within [] phases most each none = omega arith
sum-within (x ∷ xs) zero most each none = omega (arith, sum_by-cons (λ n. n) x xs, none 0 (omega arith), sum-within xs zero most (λ j. each (suc j)) (λ j h. none (suc j) (omega arith)))
sum-within (x ∷ xs) (suc phases) most each none = omega (arith, sum_by-cons (λ n. n) x xs, each 0, sum-within xs phases most (λ j. each (suc j)) (λ j h. none (suc j) (omega arith)), suc-mul phases most)

pub ends-sum : (phases : ℕ) (rows : List Row) (number k : ℕ) (ends : List ℕ) → AreEnds phases rows number k ends → sum ends ≤ phases * length rows
ends-sum phases rows number k ends e = sum-within ends phases (length rows) e.within e.none

-- one of them may go up to the last row
pub ends-one : (phases : ℕ) (rows : List Row) (number j k : ℕ) (ends : List ℕ) → AreEnds phases rows number j ends → k < phases → phases ≤ 4 → sum ends + length rows ≤ phases * length rows + get_or ends k 0
ends-one phases rows number j k ends e inside few =
    let place : k < length ends = omega (arith, e.places, inside, few) in
    let all = sum-within (set ends k (length rows)) phases (length rows)
    (λ i. elim (cases_eq i k) [
      | inl same ↦ omega (arith, get_or-set_same ends k (length rows) 0 place, ap (λ n. get_or (set ends k (length rows)) n 0) same)
      | inr other ↦ omega (arith, get_or-set_other ends k i (length rows) 0 other, e.within i)
    ])
    (λ i past. get_or-set_other ends k i (length rows) 0 (λ same. omega (arith, same, past, inside)) ∙ e.none i past) in
    omega (arith, all, sum_by-set (λ x. x) ends k (length rows) 0 place)

-- the steps of a cell, however far it came
pub most-steps : (phases start before steps first ends rows keys : ℕ) → before + first ≤ start + ends → steps ≤ before → ends ≤ phases * rows → rows ≤ keys → steps + first ≤ start + phases * keys
most-steps phases start before steps first ends rows keys a b c d = omega (arith, a, b, c, mul-le-mul_left phases d)

pub most-one : (phases start before steps first ends rows keys from : ℕ) → before + first ≤ start + ends → steps + from ≤ before + rows → ends + rows ≤ phases * rows + from → rows ≤ keys → steps + first ≤ start + phases * keys
most-one phases start before steps first ends rows keys from a b c d = omega (arith, a, b, c, mul-le-mul_left phases d)

-- a step in which the ends go on
pub ends-cost : (ends : List ℕ) (k end start before after first : ℕ) → k < length ends → before + first ≤ start + sum ends → after + get_or ends k 0 ≤ before + end → after + first ≤ start + sum (set ends k end)
ends-cost ends k end start before after first inside a b = omega (arith, a, b, sum_by-set (λ x. x) ends k end 0 inside)

-- ---- the table

-- the next cell can be filled
pub cell-ready : (p : Problem) (limit : Option ℕ) → IsInstance p → (last counts next : List ℕ) (rows : List Row) (ends : List ℕ) → AreLengths p.lists last → IsNextCounts last counts next → IsTable p limit (counts_number counts * 4 + 4) rows → AreEnds (length p.plan) rows (counts_number counts + 1) 4 ends → CanFillCell p limit next rows ends
cell-ready p limit lawful last counts next rows ends lengths is table e =
    let above = is.above in
    let few : length p.plan ≤ 4 = lawful.plan.count.1 in
    record {
      lawful = lawful;
      places = is.places;
      within = λ j. omega (arith, is.within j, lengths.each j);
      some = omega (arith, above);
      table = table-on p limit (counts_number counts * 4 + 4) (counts_number next * 4) rows (omega (arith, above)) (none-between p lawful last counts next lengths.each is.least) table;
      known = record {
        places = e.places;
        within = e.within;
        none = e.none;
        behind = λ k place h. omega (arith, e.behind k place h, above);
        ahead = λ k past place h. omega (arith, e.behind k place h, above);
      };
    }

pub ends-start : (phases : ℕ) (rows : List Row) → AreEnds phases rows 1 4 (0 ∷ 0 ∷ 0 ∷ 0 ∷ [])
ends-start phases rows = record {
  places = refl;
  within = λ k. omega (arith, none-counted k);
  none = λ k past. none-counted k;
  behind = λ k place h. absurd (omega (arith, h, none-counted k));
  ahead = λ k past place h. absurd (omega (arith, h, none-counted k));
}

pub small-last : (p : Problem) (last : List ℕ) → IsInstance p → AreLengths p.lists last → (k : ℕ) → get_or last k 0 < 64
small-last p last lawful lengths k = omega (arith, lengths.each k, few-listed p lawful k)

pub all-steps : (phases start steps ends rows keys : ℕ) → steps ≤ start + ends → ends ≤ phases * rows → rows ≤ keys → steps ≤ start + phases * keys
all-steps phases start steps ends rows keys a b c = omega (arith, a, b, mul-le-mul_left phases c)
