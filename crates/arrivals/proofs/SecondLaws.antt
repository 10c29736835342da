-- The rows of one second, and what they bring to each link.
use Rattle.std.proofs.Common.{◌≡◌, ◌≢◌, ℕ, zero, suc, ◌+◌, ◌<◌, ◌≤◌, eqb, Bool, true, false, List, [], ◌∷◌, length, get_or, filter, take, drop, sum_by, All, refl, sym, ap, subst, ◌∙◌, inl, inr, arith}
use Rattle.std.specs.Prelude.{AllPairs, ◌&&◌}
use Rattle.std.specs.List.{AllWithin}
use Rattle.std.specs.List.Sorted.{IsNonDecreasingBy}
use Rattle.std.proofs.lemmas.Bool.{cases_lt, cond-true, cond-false, eqb-true}
use Rattle.std.proofs.lemmas.Bool.Decides.{eqb_tells}
use Rattle.std.proofs.lemmas.List.{get_or-drop, length-drop}
use Rattle.std.proofs.lemmas.List.Elements.{All-head, All-tail, filter_passes}
use Rattle.std.proofs.lemmas.List.Kept.{AllPairs-filter}
use Rattle.std.proofs.lemmas.List.Sums.{sum_by-cons}
use Rattle.arrivals.specs.declared.rows.ArrivalRow.{ArrivalRow}
use Rattle.arrivals.specs.Amounts.{AreRising, IsBefore, amount_to}
use Rattle.arrivals.specs.Rows.{amount_of, arriving_by}

module _ {X : Type 0} (p : X → Bool) where
  filter-yes : (x : X) (xs : List X) → p x ≡ true → filter p (x ∷ xs) ≡ x ∷ filter p xs
  filter-yes x xs holds = cond-true (p x) (x ∷ filter p xs) (filter p xs) holds

  filter-no : (x : X) (xs : List X) → p x ≡ false → filter p (x ∷ xs) ≡ filter p xs
  filter-no x xs fails = cond-false (p x) (x ∷ filter p xs) (filter p xs) fails

  -- what is left out in front, where nothing of it passes
  pub drop-others : (xs : List X) (i : ℕ) → ((k : ℕ) (d : X) → k < i → k < length xs → p (get_or xs k d) ≡ false) → filter p (drop i xs) ≡ filter p xs
  drop-others [] zero below = refl
  drop-others [] (suc i) below = refl
  drop-others (x ∷ xs) zero below = refl
  drop-others (x ∷ xs) (suc i) below = drop-others xs i (λ k d less inside. below (suc k) d (omega arith) (omega arith)) ∙ sym (filter-no x xs (below 0 x (omega arith) (omega arith)))

  -- what passes, where that is all in front
  pub take-those : (xs : List X) (n : ℕ) → ((k : ℕ) (d : X) → k < n → k < length xs → p (get_or xs k d) ≡ true) → ((k : ℕ) (d : X) → n ≤ k → k < length xs → p (get_or xs k d) ≡ false) → take n xs ≡ filter p xs
  take-those [] zero within above = refl
  take-those [] (suc n) within above = refl
  take-those (x ∷ xs) zero within above =
      take-those xs zero (λ k d less inside. absurd (omega (arith, less))) (λ k d least inside. above (suc k) d (omega arith) (omega arith)) ∙ sym (filter-no x xs (above 0 x (omega arith) (omega arith)))
  take-those (x ∷ xs) (suc n) within above =
      ap (λ l. x ∷ l) (take-those xs n (λ k d less inside. within (suc k) d (omega arith) (omega arith)) (λ k d least inside. above (suc k) d (omega arith) (omega arith))) ∙ sym (filter-yes x xs (within 0 x (omega arith) (omega arith)))

-- rows in order are in the order of seconds
pub seconds-rise : (rows : List ArrivalRow) → AllPairs IsBefore rows → IsNonDecreasingBy (λ row. row.second) rows
seconds-rise rows order i j d le inside = elim (cases_lt i j) [
  | inl less ↦ (order i j d less inside).seconds
  | inr most ↦ let same : i ≡ j = omega (arith, le, most) in omega (arith, ap (λ k. (get_or rows k d).second) same)
]

-- those of a second are the first of those that are not before it
module _ (rows : List ArrivalRow) (x from count : ℕ) (rest : List ArrivalRow) (left : rest ≡ drop from rows) (before : AllWithin (λ row. row.second < x) rows 0 from) (after : AllWithin (λ row. x ≤ row.second) rows from (length rows))
    (until : AllWithin (λ row. row.second ≤ x) rest 0 count) (past : AllWithin (λ row. x < row.second) rest count (length rest)) where
  other-second : (r : ArrivalRow) → r.second ≢ x → eqb r.second x ≡ false
  other-second r apart = elim (eqb_tells r.second x) [ inl p ↦ absurd (apart p.1) | inr q ↦ q.0 ]

  same-second : (r : ArrivalRow) → r.second ≡ x → eqb r.second x ≡ true
  same-second r same = elim (eqb_tells r.second x) [ inl p ↦ p.0 | inr q ↦ absurd (q.1 same) ]

  not-before : (k : ℕ) (d : ArrivalRow) → k < length rest → x ≤ (get_or rest k d).second
  not-before k d inside =
      let there : from + k < length rows = omega (arith, inside, ap length left, length-drop from rows) in
      let high = after (from + k) d (omega arith) there in
      omega (arith, high, ap (λ (r : ArrivalRow). r.second) (ap (λ l. get_or l k d) left ∙ get_or-drop from rows k d))

  pub of-second : take count rest ≡ filter (λ row. eqb row.second x) rows
  of-second =
      take-those (λ row. eqb row.second x) rest count
      (λ k d less inside. let high = until k d (omega arith) less in same-second (get_or rest k d) (omega (arith, high, not-before k d inside)))
      (λ k d least inside. let high = past k d least inside in other-second (get_or rest k d) (omega (arith, high)))
      ∙ ap (filter (λ row. eqb row.second x)) left
      ∙ drop-others (λ row. eqb row.second x) rows from (λ k d less inside. let low = before k d (omega arith) less in other-second (get_or rows k d) (omega (arith, low)))

pairs-tail : (r : ArrivalRow) (rs : List ArrivalRow) → AllPairs IsBefore (r ∷ rs) → AllPairs IsBefore rs
pairs-tail r rs all i j d less inside = all (suc i) (suc j) d (omega arith) (omega arith)

-- in one second links rise
rising-from : (rows : List ArrivalRow) (first x : ℕ) → AllPairs IsBefore rows → All (λ row. eqb row.second x ≡ true) rows → All (λ row. first ≤ row.link) rows → AreRising first rows
rising-from [] first x order same low = tt
rising-from (r ∷ rs) first x order same low = (
  All-head (λ row. first ≤ row.link) r rs low,
  rising-from rs (r.link + 1) x (pairs-tail r rs order) (All-tail (λ row. eqb row.second x ≡ true) r rs same) (λ k d inside.
      let at : r.second ≡ x = eqb-true r.second x (All-head (λ row. eqb row.second x ≡ true) r rs same) in
      let later : (get_or rs k d).second ≡ x = eqb-true (get_or rs k d).second x (All-tail (λ row. eqb row.second x ≡ true) r rs same k d inside) in
      let less : r.link < (get_or rs k d).link = (order 0 (suc k) d (omega arith) (omega arith)).links (at ∙ sym later) in
      omega (arith, less)),
)

pub second-rises : (rows : List ArrivalRow) (x : ℕ) → AllPairs IsBefore rows → AreRising 0 (filter (λ row. eqb row.second x) rows)
second-rises rows x order =
    rising-from (filter (λ row. eqb row.second x) rows) 0 x (AllPairs-filter IsBefore (λ row. eqb row.second x) rows order) (filter_passes (λ row. eqb row.second x) rows) (λ k d inside. omega arith)

-- two tests one after the other
pub filter-both : (p q : ArrivalRow → Bool) (rows : List ArrivalRow) → filter p (filter q rows) ≡ filter (λ row. p row && q row) rows
filter-both p q [] = refl
filter-both p q (r ∷ rs) = case (filter-both p q rs) (p r) (q r) refl refl
  where
    case : filter p (filter q rs) ≡ filter (λ row. p row && q row) rs → (a b : Bool) → p r ≡ a → q r ≡ b → filter p (filter q (r ∷ rs)) ≡ filter (λ row. p row && q row) (r ∷ rs)
    case same true true a b = ap (filter p) (filter-yes q r rs b) ∙ filter-yes p r (filter q rs) a ∙ ap (λ l. r ∷ l) same ∙ sym (filter-yes (λ row. p row && q row) r rs (λ i. a i && b i))
    case same false true a b = ap (filter p) (filter-yes q r rs b) ∙ filter-no p r (filter q rs) a ∙ same ∙ sym (filter-no (λ row. p row && q row) r rs (λ i. a i && b i))
    case same true false a b = ap (filter p) (filter-no q r rs b) ∙ same ∙ sym (filter-no (λ row. p row && q row) r rs (λ i. a i && b i))
    case same false false a b = ap (filter p) (filter-no q r rs b) ∙ same ∙ sym (filter-no (λ row. p row && q row) r rs (λ i. a i && b i))

pub second-amounts : (rows : List ArrivalRow) (x l : ℕ) → amount_to (filter (λ row. eqb row.second x) rows) l ≡ arriving_by rows x l
second-amounts rows x l = ap (sum_by amount_of) (filter-both (λ row. eqb row.link l) (λ row. eqb row.second x) rows)

-- the rows of a second of rows in order
pub second-is : (part rows : List ArrivalRow) (x : ℕ) → part ≡ filter (λ row. eqb row.second x) rows → AllPairs IsBefore rows → AreRising 0 part × ((l : ℕ) → amount_to part l ≡ arriving_by rows x l)
second-is part rows x are order = rw are (second-rises rows x order, λ l. second-amounts rows x l)

-- what rows with one more in front bring to a link
pub to-this : (r : ArrivalRow) (rs : List ArrivalRow) (l : ℕ) → r.link ≡ l → amount_to (r ∷ rs) l ≡ r.amount + amount_to rs l
to-this r rs l same = elim (eqb_tells r.link l) [
  | inl p ↦ ap (sum_by amount_of) (filter-yes (λ row. eqb row.link l) r rs p.0) ∙ sum_by-cons amount_of r (filter (λ row. eqb row.link l) rs)
  | inr q ↦ absurd (q.1 same)
]

pub to-others : (r : ArrivalRow) (rs : List ArrivalRow) (l : ℕ) → r.link ≢ l → amount_to (r ∷ rs) l ≡ amount_to rs l
to-others r rs l apart = elim (eqb_tells r.link l) [ inl p ↦ absurd (apart p.1) | inr q ↦ ap (sum_by amount_of) (filter-no (λ row. eqb row.link l) r rs q.0) ]

-- nothing to a link below all
rising-above : (rows : List ArrivalRow) (first l : ℕ) → AreRising first rows → l < first → amount_to rows l ≡ 0
rising-above [] first l rising low = refl
rising-above (r ∷ rs) first l rising low = to-others r rs l (omega (arith, rising.0, low)) ∙ rising-above rs (r.link + 1) l rising.1 (omega (arith, rising.0, low))

pub rising-more : (rows : List ArrivalRow) (first next : ℕ) → AreRising first rows → next ≤ first → AreRising next rows
rising-more [] first next rising less = tt
rising-more (r ∷ rs) first next rising less = (omega (arith, rising.0, less), rising.1)

-- the rows after those of a link
module _ (rows : List ArrivalRow) (l : ℕ) (rising : AreRising l rows) where
  pub taken : (r : ArrivalRow) (rest : List ArrivalRow) → rows ≡ r ∷ rest → r.link ≡ l → (r.amount ≡ amount_to rows l) × AreRising (l + 1) rest × ((k : ℕ) → l < k → amount_to rest k ≡ amount_to rows k)
  taken r rest are same =
      let two : AreRising l (r ∷ rest) = subst (AreRising l) are rising in
      let next : AreRising (l + 1) rest = rising-more rest (r.link + 1) (l + 1) two.1 (omega (arith, same)) in (
        omega (arith, to-this r rest l same, rising-above rest (l + 1) l next (omega arith), ap (λ rs. amount_to rs l) are),
        next,
        λ k less. sym (to-others r rest k (omega (arith, same, less))) ∙ ap (λ rs. amount_to rs k) (sym are),
      )

  pub later : (r : ArrivalRow) (rest : List ArrivalRow) → rows ≡ r ∷ rest → r.link ≢ l → (0 ≡ amount_to rows l) × AreRising (l + 1) rows
  later r rest are apart =
      let two : AreRising l (r ∷ rest) = subst (AreRising l) are rising in
      let next : AreRising (l + 1) (r ∷ rest) = (omega (arith, two.0, apart), two.1) in
      (sym (ap (λ rs. amount_to rs l) are ∙ rising-above (r ∷ rest) (l + 1) l next (omega arith)), subst (AreRising (l + 1)) (sym are) next)

-- the links of rows do not fall
pub links-rise : (rows : List ArrivalRow) (first : ℕ) → AreRising first rows → IsNonDecreasingBy (λ row. row.link) rows
links-rise rows first rising i j d le inside = pairs rows first rising i j d le inside
  where
    above : (rows : List ArrivalRow) (first : ℕ) → AreRising first rows → (k : ℕ) (d : ArrivalRow) → k < length rows → first ≤ (get_or rows k d).link
    above [] first rising k d inside = absurd (omega (arith, inside))
    above (r ∷ rs) first rising zero d inside = rising.0
    above (r ∷ rs) first rising (suc k) d inside = omega (arith, rising.0, above rs (r.link + 1) rising.1 k d (omega (arith, inside)))

    pairs : (rows : List ArrivalRow) (first : ℕ) → AreRising first rows → (i j : ℕ) (d : ArrivalRow) → i ≤ j → j < length rows → (get_or rows i d).link ≤ (get_or rows j d).link
    pairs [] first rising i j d le inside = absurd (omega (arith, inside))
    pairs (r ∷ rs) first rising zero zero d le inside = omega arith
    pairs (r ∷ rs) first rising zero (suc j) d le inside = omega (arith, above rs (r.link + 1) rising.1 j d (omega (arith, inside)))
    pairs (r ∷ rs) first rising (suc i) zero d le inside = absurd (omega (arith, le))
    pairs (r ∷ rs) first rising (suc i) (suc j) d le inside = pairs rs (r.link + 1) rising.1 i j d (omega (arith, le)) (omega (arith, inside))

-- from the first row whose link is not below this one on
pub from-link : (rows : List ArrivalRow) (first l p : ℕ) → AreRising first rows → AllWithin (λ row. row.link < l) rows 0 p → AllWithin (λ row. l ≤ row.link) rows p (length rows) → p ≤ length rows
    → AreRising l (drop p rows) × (amount_to (drop p rows) l ≡ amount_to rows l)
from-link [] first l zero rising below above most = (tt, refl)
from-link [] first l (suc p) rising below above most = absurd (omega (arith, most))
from-link (r ∷ rs) first l zero rising below above most = ((above 0 r (omega arith) (omega arith), rising.1), refl)
from-link (r ∷ rs) first l (suc p) rising below above most =
    let low : r.link < l = below 0 r (omega arith) (omega arith) in
    let rest = from-link rs (r.link + 1) l p rising.1 (λ k d from to. below (suc k) d (omega arith) (omega (arith, to))) (λ k d from to. above (suc k) d (omega (arith, from)) (omega (arith, to))) (omega (arith, most)) in
    (rest.0, rest.1 ∙ sym (to-others r rs l (omega (arith, low))))
