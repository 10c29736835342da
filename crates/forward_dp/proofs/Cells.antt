-- The rows with the same counts stand together, and can be served on.
use Rattle.std.proofs.Common.{◌≡◌, ℕ, ◌+◌, ◌-◌, ◌*◌, ◌<◌, ◌≤◌, ◌==◌, ◌&&◌, List, length, sum, get_or, take, drop, Some, sym, ap, subst, ◌∙◌, inl, inr, arith}
use Rattle.std.specs.Prelude.{slice_get}
use Rattle.std.proofs.lemmas.Bool.{cases_eq, cases_lt}
use Rattle.std.proofs.lemmas.List.{get_or-drop, get_or-take, get_or_default, length-drop, length-take}
use Rattle.switch_rules.specs.declared.Cluster.{Cluster}
use Rattle.schedule_meaning.specs.Instances.{Problem, IsInstance, list_at}
use Rattle.dp_certificate.specs.Proves.{stage_of_entry}
use Rattle.forward_dp.specs.Groups.{IsSource, no_row, row_at}
use Rattle.forward_dp.specs.Rows.{time_of}
use Rattle.forward_dp.specs.declared.rows.Row.{Row}
use Rattle.forward_dp.specs.Numbers.{counts_number}
use Rattle.forward_dp.specs.Tables.{AreRows, IsFrom, IsReached, counts_number_at, row_number}
use Rattle.forward_dp.proofs.RowLaws.{IsLed, counts-same, reached-entry, reached-led}

-- a slice of the rows from a place on
pub record IsSlice (rows source : List Row) (start : ℕ) : Type 0 where
  pub at : (n : ℕ) → n < length source → row_at source n ≡ row_at rows (start + n)
  pub inside : start + length source ≤ length rows

pub slice-is : (rows : List Row) (start end : ℕ) → start ≤ end → end ≤ length rows → IsSlice rows (take (end - start) (drop start rows)) start × (length (take (end - start) (drop start rows)) ≡ end - start)
slice-is rows start end rise within =
    let long : length (take (end - start) (drop start rows)) ≡ end - start = omega (arith, length-take (end - start) (drop start rows), length-drop start rows) in (
      record {
        at = λ n h. get_or-take (end - start) (drop start rows) n no_row (omega (arith, long, h)) ∙ get_or-drop start rows n no_row;
        inside = omega (arith, long);
      },
      long,
    )

-- the rows with these counts
pub record IsCell (rows source : List Row) (start : ℕ) (counts : List ℕ) : Type 0 where
  pub slice : IsSlice rows source start
  pub each : (n : ℕ) → n < length source → (row_at source n).entry.counts ≡ counts
  pub only : (q : ℕ) → q < length rows → (row_at rows q).entry.counts ≡ counts → (start ≤ q) × (q < start + length source)

-- what is known of the row at a place
pub led-at : (p : Problem) → IsInstance p → (rows : List Row) → AreRows p rows → (i : ℕ) (h : i < length rows) → (u : List ℕ) × IsLed p u (stage_of_entry p (row_at rows i).entry)
led-at p lawful rows are i h = (let r = are.each i no_row h in (r.prefix, reached-led p lawful (row_at rows i) r))

-- the times of a row are small
pub time-small : (p : Problem) (u : List ℕ) (r : Row) → IsLed p u (stage_of_entry p r.entry) → time_of r < 18446744073709551616
time-small p u r l =
    let since : r.entry.since < 131072 = l.since in
    let at : r.entry.at < 131072 = l.at in
    omega arith

pub counts-rise : (p : Problem) → IsInstance p → (rows : List Row) → AreRows p rows → (i j : ℕ) → i ≤ j → j < length rows → counts_number_at rows i ≤ counts_number_at rows j
counts-rise p lawful rows are i j h inside = elim (cases_eq i j) [
  | inl same ↦ omega (arith, ap (counts_number_at rows) same)
  | inr other ↦
      let a = led-at p lawful rows are i (omega arith) in
      let b = led-at p lawful rows are j inside in
      let pa : (row_at rows i).entry.phase < 4 = a.1.phase in
      let pb : (row_at rows j).entry.phase < 4 = b.1.phase in
      below (counts_number_at rows i) (row_at rows i).entry.phase (time_of (row_at rows i)) (counts_number_at rows j) (row_at rows j).entry.phase (time_of (row_at rows j)) pb (time-small p b.0 (row_at rows j) b.1) (are.rising i j no_row (omega arith) inside)
]
  where
    below : (x k s y j t : ℕ) → j < 4 → t < 18446744073709551616 → (x * 4 + k) * 18446744073709551616 + s < (y * 4 + j) * 18446744073709551616 + t → x ≤ y
    below x k s y j t hj ht less = omega arith

-- two searches find the rows with the same counts
pub cell-is : (p : Problem) → IsInstance p → (rows : List Row) (counts : List ℕ) (from start end : ℕ) → AreRows p rows → length counts ≡ 4 → ((k : ℕ) → get_or counts k 0 < 64) → IsFrom rows from (counts_number counts) start → IsFrom rows start (counts_number counts + 1) end
    → ((place : ℕ) → place < from → counts_number_at rows place < counts_number counts) → IsCell rows (take (end - start) (drop start rows)) start counts
cell-is p lawful rows counts from start end are four digits first second before =
    let slice = slice-is rows start end second.rise second.within in
    let source = take (end - start) (drop start rows) in
    let rise : (i j : ℕ) → i ≤ j → j < length rows → counts_number_at rows i ≤ counts_number_at rows j = counts-rise p lawful rows are in
    let within = second.within in
    record {
      slice = slice.0;
      each = λ n h.
          let inside : start + n < end = omega (arith, h, slice.1, second.rise) in
          let low : counts_number counts ≤ counts_number_at rows (start + n) = omega (arith, first.here (omega (arith, inside, within)), rise start (start + n) (omega arith) (omega (arith, inside, within))) in
          let high : counts_number_at rows (start + n) < counts_number counts + 1 = omega (arith, second.below (omega (arith, inside)), rise (start + n) (end - 1) (omega (arith, inside)) (omega (arith, inside, within))) in
          let l = led-at p lawful rows are (start + n) (omega (arith, inside, within)) in
          ap (λ (r : Row). r.entry.counts) (slice.0.at n h) ∙ counts-same (row_at rows (start + n)).entry.counts counts l.1.stage.places four l.1.digits digits (omega (arith, low, high));
      only = λ q h e.
          let same : counts_number_at rows q ≡ counts_number counts = ap counts_number e in (
            elim (cases_lt q start) [
              | inl less ↦ absurd (elim (cases_lt from start) [
                | inl some ↦ omega (arith, same, first.below some, rise q (start - 1) (omega (arith, less)) (omega (arith, less, first.within)))
                | inr none ↦ omega (arith, same, before q (omega (arith, less, none)))
              ])
              | inr more ↦ more
            ],
            elim (cases_lt q end) [
              | inl less ↦ omega (arith, less, slice.1, second.rise)
              | inr more ↦ absurd (omega (arith, same, second.here (omega (arith, h, more)), rise end q more h))
            ],
          );
    }

-- they can be served on by the next cluster of a phase
pub cell-source : (p : Problem) → IsInstance p → (rows source : List Row) (start : ℕ) (counts : List ℕ) (k : ℕ) (cluster : Cluster) → AreRows p rows → IsCell rows source start counts → slice_get (list_at p.lists k) (get_or counts k 0) ≡ Some cluster → IsSource p k cluster source
cell-source p lawful rows source start counts k cluster are cell next =
    let inside : (n : ℕ) → n < length source → start + n < length rows = λ n h. omega (arith, h, cell.slice.inside) in
    let at : (n : ℕ) (d : Row) → n < length source → get_or source n d ≡ row_at rows (start + n) = λ n d h. get_or_default source n d no_row h ∙ cell.slice.at n h in
    let reached : (n : ℕ) (d : Row) → n < length source → IsReached p (get_or source n d) = λ n d h. subst (IsReached p) (sym (at n d h)) (are.each (start + n) no_row (inside n h)) in
    let same : (n : ℕ) (d : Row) → n < length source → (get_or source n d).entry.counts ≡ counts = λ n d h. ap (λ (r : Row). r.entry.counts) (get_or_default source n d no_row h) ∙ cell.each n h in
    record {
      lawful = lawful;
      entries = λ n d h. reached-entry p lawful (get_or source n d) (reached n d h);
      orders = λ n d h. (let r = reached n d h in omega (arith, r.order, (reached-led p lawful (get_or source n d) r).order));
      next = λ n d h. ap (λ xs. slice_get (list_at p.lists k) (get_or xs k 0)) (same n d h) ∙ next;
      later = λ i j d less h phases.
          let rise = are.rising (start + i) (start + j) no_row (omega arith) (inside j h) in
          apart (counts_number (get_or source i d).entry.counts) (counts_number (get_or source j d).entry.counts) (get_or source i d).entry.phase (get_or source j d).entry.phase (time_of (get_or source i d)) (time_of (get_or source j d))
          (ap counts_number (same i d (omega (arith, less, h)) ∙ sym (same j d h))) phases
          (omega (arith, rise, ap row_number (at i d (omega (arith, less, h))), ap row_number (at j d h)));
      fresh = λ i j d less h.
          let a = reached-led p lawful (get_or source i d) (reached i d (omega (arith, less, h))) in
          let b = reached-led p lawful (get_or source j d) (reached j d h) in
          let long : length (reached i d (omega (arith, less, h))).prefix ≡ length (reached j d h).prefix = sym a.stage.total ∙ ap sum (same i d (omega (arith, less, h)) ∙ sym (same j d h)) ∙ b.stage.total in
          a.stage.fresh ∙ ap (λ n. (n == 0) && p.head.fresh) long ∙ sym b.stage.fresh;
    }
  where
    apart : (x y k j s t : ℕ) → x ≡ y → k ≡ j → (x * 4 + k) * 18446744073709551616 + s < (y * 4 + j) * 18446744073709551616 + t → s < t
    apart x y k j s t ex ek less = omega arith
