-- Rows in order, of which those of one second and link are added.
use Rattle.std.proofs.Common.{◌≡◌, ◌≢◌, ℕ, ◌+◌, ◌-◌, ◌<◌, ◌≤◌, List, [], ◌∷◌, ◌++◌, length, get_or, take, sum_by, All, refl, sym, ap, ◌∙◌, inl, inr, arith}
use Rattle.std.specs.Prelude.{AllPairs}
use Rattle.std.specs.List.Sorted.{IsNonDecreasingBy}
use Rattle.std.proofs.Math.ListN.{set}
use Rattle.std.proofs.lemmas.Bool.{cases_lt}
use Rattle.std.proofs.lemmas.Bool.Decides.{eqb_tells}
use Rattle.std.proofs.lemmas.List.{get_or-set_same, get_or-set_other, get_or_default, get_or_push, length-set, length_push, take_more}
use Rattle.std.proofs.lemmas.List.Elements.{All-nil, All-push}
use Rattle.std.proofs.lemmas.List.Quantifiers.{all_pairs_push}
use Rattle.std.proofs.lemmas.List.Sums.{sum_by-set, sum_by_push}
use Rattle.arrivals.specs.declared.rows.ArrivalRow.{ArrivalRow}
use Rattle.arrivals.specs.Amounts.{IsBefore}
use Rattle.arrivals.specs.Rows.{amount_of, arriving_by}
use Rattle.arrivals.specs.Stored.{EndsBy, EndsWith, IsJoined, order_of}
use Rattle.arrivals.proofs.RowLaws.{arriving-append, arriving-sum, brings, brings-more}

-- with the last row raised by the amount of a row of the same second and link
module _ (old : List ArrivalRow) (r : ArrivalRow) (i : ℕ) (q s : ArrivalRow) (last : i ≡ length old - 1) (here : q ≡ get_or old i q) (order : AllPairs IsBefore old) (ends : EndsWith r old)
    (second : s.second ≡ q.second) (link : s.link ≡ q.link) (adds : s.amount ≡ q.amount + r.amount) where
  inside : i < length old
  inside = omega (arith, last, ends.some)

  read : (d : ArrivalRow) → get_or old i d ≡ q
  read d = get_or_default old i d q inside ∙ sym here

  of-second : q.second ≡ r.second
  of-second = ap (λ (t : ArrivalRow). t.second) here ∙ ap (λ k. (get_or old k q).second) last ∙ ends.second q

  of-link : q.link ≡ r.link
  of-link = ap (λ (t : ArrivalRow). t.link) here ∙ ap (λ k. (get_or old k q).link) last ∙ ends.link q

  -- each row stays at its second and link
  same-place : (k : ℕ) (d : ArrivalRow) → ((get_or (set old i s) k d).second ≡ (get_or old k d).second) × ((get_or (set old i s) k d).link ≡ (get_or old k d).link)
  same-place k d = elim (eqb_tells k i) [
    | inl p ↦
        let new : get_or (set old i s) k d ≡ s = ap (λ j. get_or (set old i s) j d) p.1 ∙ get_or-set_same old i s d inside in
        let was : get_or old k d ≡ q = ap (λ j. get_or old j d) p.1 ∙ read d in
        (ap (λ (t : ArrivalRow). t.second) new ∙ second ∙ sym (ap (λ (t : ArrivalRow). t.second) was), ap (λ (t : ArrivalRow). t.link) new ∙ link ∙ sym (ap (λ (t : ArrivalRow). t.link) was))
    | inr o ↦
        let kept : get_or (set old i s) k d ≡ get_or old k d = get_or-set_other old i k s d o.1 in
        (ap (λ (t : ArrivalRow). t.second) kept, ap (λ (t : ArrivalRow). t.link) kept)
  ]

  amounts : All (λ t. 1 ≤ t.amount) old → 1 ≤ r.amount → All (λ t. 1 ≤ t.amount) (set old i s)
  amounts least one k d within = elim (eqb_tells k i) [
    | inl p ↦ omega (arith, adds, one, ap (λ (t : ArrivalRow). t.amount) (ap (λ j. get_or (set old i s) j d) p.1 ∙ get_or-set_same old i s d inside))
    | inr o ↦ omega (arith, least k d (omega (arith, within, length-set old i s)), ap (λ (t : ArrivalRow). t.amount) (get_or-set_other old i k s d o.1))
  ]

  pub joined-same : IsJoined old r (set old i s)
  joined-same = record {
    order = λ j k d less within.
        let was = order j k d less (omega (arith, within, length-set old i s)) in
        let a = same-place j d in
        let b = same-place k d in
        record { seconds = omega (arith, was.seconds, a.0, b.0); links = λ e. omega (arith, was.links (sym a.0 ∙ e ∙ b.0), a.1, b.1) };
    ends = λ d some.
        let at : length (set old i s) - 1 ≡ length old - 1 = omega (arith, length-set old i s) in
        let place = same-place (length (set old i s) - 1) d in
        let was_second : (get_or old (length (set old i s) - 1) d).second ≡ r.second = ap (λ k. (get_or old k d).second) at ∙ ends.second d in
        let was_link : (get_or old (length (set old i s) - 1) d).link ≡ r.link = ap (λ k. (get_or old k d).link) at ∙ ends.link d in
        omega (arith, place.0, place.1, was_second, was_link);
    least = amounts;
    sums = λ l x. omega (arith, arriving-sum (set old i s) l x, arriving-sum old l x, sum_by-set (λ t. brings t l x) old i s q inside, ap (λ t. brings t l x) (read q), brings-more q r s of-second of-link second link adds l x, arriving-append old (r ∷ []) l x);
    whole = omega (arith, sum_by-set amount_of old i s q inside, ap amount_of (read q), adds);
  }

-- with the row after all others
module _ (old : List ArrivalRow) (r : ArrivalRow) (order : AllPairs IsBefore old) (ends : EndsBy (order_of r) old) (other : (d : ArrivalRow) → 0 < length old → order_of (get_or old (length old - 1) d) ≢ order_of r) (small : 0 < length old → r.link < 4294967296) where
  last-before : (d : ArrivalRow) → 0 < length old → IsBefore (get_or old (length old - 1) d) r
  last-before d some =
      let ne = other d some in
      let low : order_of (get_or old (length old - 1) d) < order_of r = (let most = ends d some in omega arith) in
      record { seconds = omega (arith, low, small some); links = λ e. omega (arith, low, e) }

  all-before : (k : ℕ) (d : ArrivalRow) → k < length old → IsBefore (get_or old k d) r
  all-before k d within = elim (cases_lt k (length old - 1)) [
    | inl less ↦
        let first = order k (length old - 1) d less (omega (arith, within)) in
        let next = last-before d (omega (arith, within)) in
        record {
          seconds = omega (arith, first.seconds, next.seconds);
          links = λ e.
              let same : (get_or old k d).second ≡ (get_or old (length old - 1) d).second = omega (arith, e, first.seconds, next.seconds) in
              omega (arith, first.links same, next.links (sym same ∙ e));
        }
    | inr last ↦
        let at : length old - 1 ≡ k = omega (arith, last, within) in
        let next = last-before d (omega (arith, within)) in
        record {
          seconds = omega (arith, next.seconds, ap (λ j. (get_or old j d).second) at);
          links = λ e. omega (arith, next.links (ap (λ j. (get_or old j d).second) at ∙ e), ap (λ j. (get_or old j d).link) at);
        }
  ]

  pub joined-after : IsJoined old r (old ++ r ∷ [])
  joined-after = record {
    order = all_pairs_push IsBefore old r order all-before;
    ends = λ d some.
        let at : length old ≡ length (old ++ r ∷ []) - 1 = omega (arith, length_push old r) in
        let last : get_or (old ++ r ∷ []) (length (old ++ r ∷ []) - 1) d ≡ r = get_or_push old r d (length (old ++ r ∷ []) - 1) at in
        omega (arith, ap order_of last);
    least = λ all one. All-push (λ t. 1 ≤ t.amount) old r all one;
    sums = λ l x. refl;
    whole = sum_by_push amount_of old r;
  }

-- the rows so far are joined
pub record HasJoined (rows : List ArrivalRow) (i : ℕ) (kept : List ArrivalRow) : Type 0 where
  pub order : AllPairs IsBefore kept
  pub ends : (d : ArrivalRow) → i < length rows → EndsBy (order_of (get_or rows i d)) kept
  pub least : All (λ t. 1 ≤ t.amount) kept
  pub sums : (l x : ℕ) → arriving_by kept x l ≡ arriving_by (take i rows) x l
  pub whole : sum_by amount_of kept ≡ sum_by amount_of (take i rows)

pub has-none : (rows kept : List ArrivalRow) → kept ≡ [] → HasJoined rows 0 kept
has-none rows kept none = rw none (record {
  order = λ j k d less within. absurd (omega (arith, within));
  ends = λ d more e some. absurd (omega (arith, some));
  least = All-nil (λ t. 1 ≤ t.amount);
  sums = λ l x. refl;
  whole = refl;
})

module _ (rows : List ArrivalRow) (i : ℕ) (r : ArrivalRow) (inside : i < length rows) (here : r ≡ get_or rows i r) (rises : IsNonDecreasingBy order_of rows) (least : All (λ t. 1 ≤ t.amount) rows) where
  at-row : (d : ArrivalRow) → get_or rows i d ≡ r
  at-row d = get_or_default rows i d r inside ∙ sym here

  pub has-more : (old new : List ArrivalRow) → HasJoined rows i old → IsJoined old r new → HasJoined rows (i + 1) new
  has-more old new has joined = record {
    order = joined.order;
    ends = λ d more e some. omega (arith, joined.ends e some, rises i (i + 1) d (omega arith) more, ap order_of (at-row d));
    least = joined.least has.least (omega (arith, least i r inside, ap amount_of (at-row r)));
    sums = λ l x.
        joined.sums l x
        ∙ omega (arith, arriving-append old (r ∷ []) l x, has.sums l x, arriving-append (take i rows) (r ∷ []) l x)
        ∙ ap (λ t. arriving_by (take i rows ++ t ∷ []) x l) here
        ∙ ap (λ l'. arriving_by l' x l) (sym (take_more rows i r inside));
    whole = joined.whole ∙ omega (arith, has.whole, sum_by_push amount_of (take i rows) r) ∙ ap (λ t. sum_by amount_of (take i rows ++ t ∷ [])) here ∙ ap (sum_by amount_of) (sym (take_more rows i r inside));
  }
