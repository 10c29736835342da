-- What rows bring.
use Rattle.std.proofs.Common.{◌≡◌, ◌≢◌, ℕ, zero, suc, ◌+◌, ◌<◌, ◌≤◌, true, eqb, List, [], ◌∷◌, ◌++◌, length, get_or, filter, sum_by, All, refl, sym, ap, ◌∙◌, subst, inl, inr, arith}
use Rattle.std.specs.Prelude.{IsPermutation}
use Rattle.std.proofs.lemmas.Bool.{cond_both, and_parts, eqb-true, false≢true}
use Rattle.std.specs.Cmp.Derive.{both_true}
use Rattle.std.proofs.lemmas.Bool.Decides.{eqb_tells}
use Rattle.std.proofs.lemmas.List.Elements.{All-head, All-tail, filter-append}
use Rattle.std.proofs.lemmas.List.Sorted.{sum_by-IsPermutation}
use Rattle.std.proofs.lemmas.List.Sums.{sum_by-append, sum_by-cons, get_or-le-sum_by}
use Rattle.net_parts.specs.Limits.{most_of_all}
use Rattle.net_parts.specs.Numbers.{Net}
use Rattle.road_net.specs.Totals.{total}
use Rattle.road_net.proofs.TotalLaws.{total-add, total-same, total-zero}
use Rattle.arrivals.specs.declared.rows.ArrivalRow.{ArrivalRow}
use Rattle.arrivals.specs.Amounts.{Amounts, AreArrivals, AreArrivalsOf, AreKept, IsEntry, arriving_of}
use Rattle.net_parts.specs.Outline.{known_seconds}
use Rattle.arrivals.specs.Rows.{IsSource, IsRow, AreRows, amount_of, is_at, arriving_by}

-- what one row brings to a link in a second
abbrev pub brings : ArrivalRow → ℕ → ℕ → ℕ
brings r l x = arriving_by (r ∷ []) x l

pub brings-here : (r : ArrivalRow) (l x : ℕ) → r.link ≡ l → r.second ≡ x → brings r l x ≡ r.amount
brings-here r l x link second =
    cond_both (is_at l x r) (r ∷ []) [] (λ rs. sum_by amount_of rs ≡ r.amount) (λ e. omega arith)
    (λ e. absurd (false≢true (sym e ∙ both_true (same-eqb r.link l link) (same-eqb r.second x second))))
  where
    same-eqb : (a b : ℕ) → a ≡ b → eqb a b ≡ true
    same-eqb a b same = elim (eqb_tells a b) [ inl p ↦ p.0 | inr q ↦ absurd (q.1 same) ]

pub brings-else : (r : ArrivalRow) (l x : ℕ) → (r.link ≡ l → r.second ≡ x → ⊥) → brings r l x ≡ 0
brings-else r l x other =
    cond_both (is_at l x r) (r ∷ []) [] (λ rs. sum_by amount_of rs ≡ 0)
    (λ e.
    let both = and_parts (eqb r.link l) (eqb r.second x) e in
    absurd (other (eqb-true r.link l both.0) (eqb-true r.second x both.1)))
    (λ e. refl)

-- the same row with more
pub brings-more : (q r s : ArrivalRow) → q.second ≡ r.second → q.link ≡ r.link → s.second ≡ q.second → s.link ≡ q.link → s.amount ≡ q.amount + r.amount → (l x : ℕ) → brings s l x ≡ brings q l x + brings r l x
brings-more q r s second link same_second same_link adds l x = elim (eqb_tells r.link l) [
  | inl p ↦ elim (eqb_tells r.second x) [
    | inl h ↦ omega (arith, adds, brings-here s l x (same_link ∙ link ∙ p.1) (same_second ∙ second ∙ h.1), brings-here q l x (link ∙ p.1) (second ∙ h.1), brings-here r l x p.1 h.1)
    | inr h ↦
        omega (arith, brings-else s l x (λ _ e. h.1 (sym second ∙ sym same_second ∙ e)), brings-else q l x (λ _ e. h.1 (sym second ∙ e)), brings-else r l x (λ _ e. h.1 e))
  ]
  | inr p ↦ omega (arith, brings-else s l x (λ e _. p.1 (sym link ∙ sym same_link ∙ e)), brings-else q l x (λ e _. p.1 (sym link ∙ e)), brings-else r l x (λ e _. p.1 e))
]

-- rows after others
pub arriving-append : (xs ys : List ArrivalRow) (l x : ℕ) → arriving_by (xs ++ ys) x l ≡ arriving_by xs x l + arriving_by ys x l
arriving-append xs ys l x = ap (sum_by amount_of) (filter-append (is_at l x) xs ys) ∙ sum_by-append amount_of (filter (is_at l x) xs) (filter (is_at l x) ys)

-- each row brings its own, so their order does not matter
pub arriving-sum : (rows : List ArrivalRow) (l x : ℕ) → arriving_by rows x l ≡ sum_by (λ r. brings r l x) rows
arriving-sum [] l x = refl
arriving-sum (r ∷ rs) l x = omega (arith, arriving-append (r ∷ []) rs l x, arriving-sum rs l x, sum_by-cons (λ r. brings r l x) r rs)

pub arriving-permutation : (xs ys : List ArrivalRow) → IsPermutation xs ys → (l x : ℕ) → arriving_by ys x l ≡ arriving_by xs x l
arriving-permutation xs ys same l x = arriving-sum ys l x ∙ sum_by-IsPermutation (λ r. brings r l x) xs ys same ∙ sym (arriving-sum xs l x)

-- a row is within what enters at its place
pub own-amount : (rows : List ArrivalRow) (k : ℕ) (d : ArrivalRow) → k < length rows → (get_or rows k d).amount ≤ arriving_by rows (get_or rows k d).second (get_or rows k d).link
own-amount rows k d inside =
    let r : ArrivalRow = get_or rows k d in
    omega (arith, arriving-sum rows r.link r.second, get_or-le-sum_by (λ s. brings s r.link r.second) rows k d inside, brings-here r r.link r.second refl refl)

-- where something enters, there is a lawful row
pub entry-there : (net : Net) (rows : List ArrivalRow) (l x : ℕ) → All (IsRow net) rows → 0 < arriving_by rows x l → IsSource net l × (x < known_seconds net)
entry-there net [] l x are some = absurd (omega arith)
entry-there net (r ∷ rs) l x are some =
    cond_both (is_at l x r) (r ∷ filter (is_at l x) rs) (filter (is_at l x) rs) (λ picked. 0 < sum_by amount_of picked → IsSource net l × (x < known_seconds net))
    (λ e enters.
    let both = and_parts (eqb r.link l) (eqb r.second x) e in
    let row = All-head (IsRow net) r rs are in
    (subst (IsSource net) (eqb-true r.link l both.0) row.source, subst (λ y. y < known_seconds net) (eqb-true r.second x both.1) row.bounds.second))
    (λ e enters. entry-there net rs l x (All-tail (IsRow net) r rs are) enters)
    some

entries-there : (net : Net) (rows kept : List ArrivalRow) → All (IsRow net) rows → All (λ r. 1 ≤ r.amount) kept → ((l x : ℕ) → arriving_by kept x l ≡ arriving_by rows x l) → All (IsEntry net) kept
entries-there net rows kept are least sums k d inside =
    let r : ArrivalRow = get_or kept k d in
    let some : 0 < arriving_by rows r.second r.link = omega (arith, own-amount kept k d inside, least k d inside, sums r.link r.second) in
    let at = entry-there net rows r.link r.second are some in
    record { source = at.0; second = at.1 }

-- a sum of which one term alone is not 0
module _ (e : ℕ) (f : ℕ → ℕ) (other : (i : ℕ) → e ≢ i → f i ≡ 0) where
  none-before : (n : ℕ) → n ≤ e → total f n ≡ 0
  none-before zero h = refl
  none-before (suc n) h = omega (arith, none-before n (omega arith), other n (omega arith))

  total-one : (n : ℕ) → total f n ≤ f e
  total-one zero = omega arith
  total-one (suc n) = elim (eqb_tells e n) [
    | inl p ↦ omega (arith, none-before n (omega (arith, p.1)), ap f p.1)
    | inr q ↦ omega (arith, total-one n, other n q.1)
  ]

-- no links and seconds have more of rows than these bring
row-within : (r : ArrivalRow) (n m : ℕ) → total (λ x. total (λ l. brings r l x) m) n ≤ r.amount
row-within r n m =
    omega (
      arith,
      total-one r.second (λ x. total (λ l. brings r l x) m) (λ x apart. total-same (λ l. brings r l x) (λ l. 0) m (λ l h. brings-else r l x (λ _ e. apart e)) ∙ total-zero m) n,
      total-one r.link (λ l. brings r l r.second) (λ l apart. brings-else r l r.second (λ e _. apart e)) m,
      brings-here r r.link r.second refl refl,
    )

pub rows-within : (rows : List ArrivalRow) (n m : ℕ) → total (λ x. total (arriving_by rows x) m) n ≤ sum_by amount_of rows
rows-within [] n m = omega (arith, total-same (λ x. total (arriving_by [] x) m) (λ x. 0) n (λ x h. total-zero m), total-zero n)
rows-within (r ∷ rs) n m = omega (arith, split, row-within r n m, rows-within rs n m, sum_by-cons amount_of r rs)
  where
    split : total (λ x. total (arriving_by (r ∷ rs) x) m) n ≡ total (λ x. total (λ l. brings r l x) m) n + total (λ x. total (arriving_by rs x) m) n
    split =
        total-same (λ x. total (arriving_by (r ∷ rs) x) m) (λ x. total (λ l. brings r l x) m + total (arriving_by rs x) m) n (λ x h. total-same (arriving_by (r ∷ rs) x) (λ l. brings r l x + arriving_by rs x l) m (λ l h. arriving-append (r ∷ []) rs l x) ∙ total-add (λ l. brings r l x) (arriving_by rs x) m)
        ∙ total-add (λ x. total (λ l. brings r l x) m) (λ x. total (arriving_by rs x) m) n

pub few-kept : (a b : Amounts) → a ≡ b → AreKept a.rows → (n m : ℕ) → total (λ x. total (arriving_of b x) m) n ≤ most_of_all
few-kept a b same kept = rw (← same) (λ n m. omega (arith, rows-within a.rows n m, kept.few))

-- what the arrivals of rows are for a network
pub arrivals-of : (net : Net) (rows : List ArrivalRow) (a : Amounts) → AreArrivalsOf net rows a → AreArrivals net a
arrivals-of net rows a are = record {
  rows = entries-there net rows a.rows are.lawful.each are.kept.least are.sums;
  sources = λ l x some. (entry-there net rows l x are.lawful.each (rw (are.sums l x) at some)).0;
  few = λ n. few-kept a a refl are.kept n (length net.links);
}

-- each row brings something, so there are no more rows than they bring
pub rows-count : (net : Net) (rows : List ArrivalRow) → AreRows net rows → length rows ≤ most_of_all
rows-count net rows are = omega (arith, count rows are.each, are.few)
  where
    count : (rows : List ArrivalRow) → All (IsRow net) rows → length rows ≤ sum_by amount_of rows
    count [] are = omega arith
    count (r ∷ rs) are = omega (arith, sum_by-cons amount_of r rs, count rs (All-tail (IsRow net) r rs are), (All-head (IsRow net) r rs are).bounds.least)
