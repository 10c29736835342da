-- A forecast's rows are put in their seconds one after another.
use Rattle.std.proofs.Common.{◌≡◌, ◌≢◌, ℕ, ◌+◌, ◌*◌, ◌<◌, ◌≤◌, ◌⊎◌, Bool, true, false, nat_eq, List, [], ◌∷◌, Option, None, Some, All, length, get_or, set, take, find, sum, unwrap_or, refl, sym, ap, ◌∙◌, inl, inr, arith, get_or-set_other, get_or-set_same}
use Rattle.std.specs.Option.{option_map, option_or}
use Rattle.std.specs.List.Sorted.{IsStrictlyIncreasing}
use Rattle.std.proofs.lemmas.List.{length-take, take_more, get_or-map, get_or-take, length-map}
use Rattle.std.proofs.lemmas.List.Elements.{All-from_get_or, All-get_or}
use Rattle.std.proofs.lemmas.List.Folds.{find-append}
use Rattle.std.proofs.lemmas.List.Sums.{sum_by-set}
use Rattle.std.proofs.lemmas.Bool.{eq-eqb}
use Rattle.std.proofs.lemmas.Bool.Decides.{eqb_tells}
use Rattle.board_model.specs.declared.forecasts.Row.{Row}
use Rattle.board_model.specs.Forecasts.{IsForecast, IsRow, amount_at, seconds}
use Rattle.clusters.proofs.ListLaws.{rising-apart, find-none}

abbrev no_row : Row
no_row = record { second = 0; amount = 0 }

abbrev amount_of : Option Row → ℕ
amount_of row = unwrap_or (option_map (λ r. r.amount) row) 0

ne-eqb : (a b : ℕ) → a ≢ b → nat_eq a b ≡ false
ne-eqb a b ne = elim (eqb_tells a b) [ inl same ↦ absurd (ne same.1) | inr other ↦ other.0 ]

option_or-none : (o : Option Row) → option_or o None ≡ o
option_or-none None = refl
option_or-none (Some row) = refl

has : ℕ → Row → Bool
has s row = nat_eq row.second s

-- the amount in second s with one more row: what it was where that row has another second, and else that row's
pub amount-other : (rows : List Row) (i s : ℕ) → i < length rows → (get_or rows i no_row).second ≢ s → amount_at (take (i + 1) rows) s ≡ amount_at (take i rows) s
unfolding has
amount-other rows i s lt ne =
    let row : Row = get_or rows i no_row in
    let miss : nat_eq row.second s ≡ false = ne-eqb row.second s ne in
    let one : find (has s) (row ∷ []) ≡ None = rw miss refl in
    ap amount_of (ap (find (has s)) (take_more rows i no_row lt) ∙ find-append (has s) (take i rows) (row ∷ []) ∙ ap (option_or (find (has s) (take i rows))) one ∙ option_or-none (find (has s) (take i rows)))

pub amount-same : (rows : List Row) (i s : ℕ) → i < length rows → IsStrictlyIncreasing (seconds rows) → (get_or rows i no_row).second ≡ s
    → amount_at (take (i + 1) rows) s ≡ (get_or rows i no_row).amount
unfolding has
amount-same rows i s lt rising e =
    let row : Row = get_or rows i no_row in
    let hit : nat_eq row.second s ≡ true = eq-eqb row.second s e in
    let one : find (has s) (row ∷ []) ≡ Some row = rw hit refl in
    let earlier : All (λ r. has s r ≡ false) (take i rows) = All-from_get_or (λ r. has s r ≡ false) (take i rows) no_row (λ k below.
    let inside : k < i = omega (arith, length-take i rows, below) in
    let same : get_or (take i rows) k no_row ≡ get_or rows k no_row = get_or-take i rows k no_row inside in
    let second : (j : ℕ) → j < length rows → get_or (seconds rows) j 0 ≡ (get_or rows j no_row).second = λ j b. get_or-map (λ r. r.second) rows j no_row 0 b in
    let apart : get_or (seconds rows) k 0 < get_or (seconds rows) i 0 = rising-apart (seconds rows) rising k i inside (rw (length-map rows (λ r. r.second)) lt) in
    rw same (ne-eqb (get_or rows k no_row).second s (λ f. omega (arith, apart, second k (omega arith), second i lt, e, f))))
    in
    let none : find (has s) (take i rows) ≡ None = find-none (has s) (take i rows) earlier in
    ap amount_of (ap (find (has s)) (take_more rows i no_row lt) ∙ find-append (has s) (take i rows) (row ∷ []) ∙ ap (λ o. option_or o (find (has s) (row ∷ []))) none ∙ one)

-- The first i rows are put in their seconds, those from the second `from` on; nothing stood there.
pub record IsPutting (now from : ℕ) (rows : List Row) (before amounts : List ℕ) (i : ℕ) : Type 0 where
  pub near : (k : ℕ) → now + k < from → get_or amounts k 0 ≡ get_or before k 0
  pub far : (k : ℕ) → from ≤ now + k → k < length before → get_or amounts k 0 ≡ amount_at (take i rows) (now + k)
  pub total : sum amounts ≤ sum before + 80000 * i

-- a row whose second has no place changes nothing
pub putting-skip : (now from : ℕ) (rows : List Row) (before amounts : List ℕ) (i : ℕ)
    → IsPutting now from rows before amounts i → i < length rows → ((get_or rows i no_row).second < from) ⊎ (now + length before ≤ (get_or rows i no_row).second)
    → IsPutting now from rows before amounts (i + 1)
putting-skip now from rows before amounts i h lt out = record {
  near = h.near;
  far = λ k le below.
      let ne : (get_or rows i no_row).second ≢ now + k = λ e. elim out [ inl early ↦ omega arith | inr late ↦ omega arith ] in
      h.far k le below ∙ sym (amount-other rows i (now + k) lt ne);
  total = omega (arith, h.total);
}

pub putting-put : (now from : ℕ) (rows : List Row) (before amounts : List ℕ) (i place : ℕ)
    → IsForecast rows → IsPutting now from rows before amounts i → length amounts ≡ length before → i < length rows
    → from ≤ now + place → place < length before → (get_or rows i no_row).second ≡ now + place
    → IsPutting now from rows before (set amounts place (get_or rows i no_row).amount) (i + 1)
putting-put now from rows before amounts i place rows_are h same lt le below e = record {
  near = λ k near. let ne : k ≢ place = omega arith in rw get_or-set_other (h.near k near);
  far = λ k far inside. elim (eqb_tells k place) [
    | inl equal ↦
        let at : k ≡ place = equal.1 in
        rw at (let room : place < length amounts = omega arith in rw get_or-set_same (sym (amount-same rows i (now + place) lt rows_are.rising e)))
    | inr other ↦
        let ne : k ≢ place = other.1 in
        let miss : (get_or rows i no_row).second ≢ now + k = λ f. ne (omega arith) in
        rw get_or-set_other (h.far k far inside ∙ sym (amount-other rows i (now + k) lt miss))
  ];
  total =
      let row : IsRow (get_or rows i no_row) = All-get_or IsRow rows i no_row lt rows_are.each in
      omega (arith, h.total, sum_by-set (λ x. x) amounts place (get_or rows i no_row).amount 0 (omega arith), row.most);
}
