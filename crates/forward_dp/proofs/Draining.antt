-- Rows in places: one offered, and all moved into a list.
use Rattle.std.proofs.Common.{◌≡◌, ℕ, ◌+◌, ◌<◌, ◌≤◌, List, [], ◌∷◌, ◌++◌, length, get_or, set, All, Contains, Option, Some, None, IfSome, refl, sym, ap, subst, ◌∙◌, inl, inr, length-set, arith}
use Rattle.std.proofs.lemmas.Bool.{cases_eq, cases_lt}
use Rattle.std.proofs.lemmas.List.{get_or-set_other}
use Rattle.std.proofs.lemmas.Grind.{get_or-set_at}
use Rattle.std.proofs.lemmas.Option.{none-some, same_Some}
use Rattle.std.proofs.lemmas.List.Elements.{All-push, Contains-append_left, Contains-append_right}
use Rattle.std.proofs.lemmas.List.Quantifiers.{all_pairs_push}
use Rattle.forward_dp.specs.declared.rows.Row.{Row}
use Rattle.forward_dp.specs.Rows.{AreBestOf, AreLater, ArePlaced, AreRisingPlaces, IsNoWorse, IsOffered, IsPlaced, row_in, time_of}
use Rattle.forward_dp.proofs.Keeping.{has-self}

if-none : {X : Type 0} (P : X → Type 0) (o : Option X) → o ≡ None → IfSome o P
if-none P o e = subst (λ o. IfSome o P) (sym e) tt

-- a row offered to an empty place
pub offered-new : (places : List (Option Row)) (k : ℕ) (row : Row) → k < length places → row_in places k ≡ None → IsOffered places (set places k (Some row)) k row
offered-new places k row inside empty = record {
  stays = row;
  there = get_or-set_at places k k (Some row) None refl inside;
  from = inl refl;
  no_worse = inr (refl, omega arith);
  keeps = if-none (λ r. IsNoWorse row r.entry.delay r.order) (row_in places k) empty;
  others = λ j other. get_or-set_other places k j (Some row) None other;
}

-- of two rows one is no worse
not-worse : (a b : Row) → ¬ IsNoWorse a b.entry.delay b.order → IsNoWorse b a.entry.delay a.order
not-worse a b h = elim (cases_lt b.entry.delay a.entry.delay) [
  | inl less ↦ inl less
  | inr up ↦ elim (cases_lt a.entry.delay b.entry.delay) [
    | inl less ↦ absurd (h (inl less))
    | inr down ↦
        let same : a.entry.delay ≡ b.entry.delay = omega (arith, up, down) in
        elim (cases_lt a.order b.order) [ inl less ↦ absurd (h (inr (same, omega (arith, less)))) | inr order ↦ inr (sym same, order) ]
  ]
]

-- a row offered to the place of a worse one
pub offered-better : (places : List (Option Row)) (k : ℕ) (row there : Row) → k < length places → row_in places k ≡ Some there → ¬ IsNoWorse there row.entry.delay row.order → IsOffered places (set places k (Some row)) k row
offered-better places k row there inside is worse = record {
  stays = row;
  there = get_or-set_at places k k (Some row) None refl inside;
  from = inl refl;
  no_worse = inr (refl, omega arith);
  keeps = subst (λ (o : Option Row). IfSome o (λ r. IsNoWorse row r.entry.delay r.order)) (sym is) (not-worse there row worse);
  others = λ j other. get_or-set_other places k j (Some row) None other;
}

-- the rows in the places before a place are moved into a list, and those from there on stand yet
pub record AreDrained (initial places : List (Option Row)) (place : ℕ) (out : List Row) : Type 0 where
  pub cleared : (k : ℕ) → k < place → row_in places k ≡ None
  pub ahead : (k : ℕ) → place ≤ k → row_in places k ≡ row_in initial k
  pub later : AreLater out
  pub from : All (λ r. (k : ℕ) × (k < place) × (row_in initial k ≡ Some r)) out
  pub all : (k : ℕ) (r : Row) → k < place → row_in initial k ≡ Some r → Contains out r

-- the next place is empty
pub drained-none : (initial places : List (Option Row)) (place : ℕ) (out : List Row) → AreDrained initial places place out → row_in places place ≡ None → AreDrained initial places (place + 1) out
drained-none initial places place out d empty = record {
  cleared = λ k h. elim (cases_lt k place) [ inl less ↦ d.cleared k less | inr last ↦ (let same : place ≡ k = omega (arith, h, last) in ap (row_in places) (sym same) ∙ empty) ];
  ahead = λ k h. d.ahead k (omega (arith, h));
  later = d.later;
  from = λ k e h. (let f = d.from k e h in (f.0, omega (arith, f.1), f.2));
  all = λ k r h e. elim (cases_lt k place) [
    | inl less ↦ d.all k r less e
    | inr last ↦ (let same : place ≡ k = omega (arith, h, last) in absurd (none-some r (sym empty ∙ d.ahead place (omega arith) ∙ ap (row_in initial) same ∙ e)))
  ];
}

-- the row in the next place is moved
pub drained-some : (initial places : List (Option Row)) (place : ℕ) (row : Row) (out : List Row) → AreRisingPlaces initial → AreDrained initial places place out → place < length places → row_in places place ≡ Some row
    → AreDrained initial (set places place None) (place + 1) (out ++ row ∷ [])
drained-some initial places place row out rising d inside there =
    let was : row_in initial place ≡ Some row = sym (d.ahead place (omega arith)) ∙ there in
    record {
      cleared = λ k h. elim (cases_lt k place) [
        | inl less ↦ get_or-set_other places place k None None (λ e. omega (arith, less, e)) ∙ d.cleared k less
        | inr last ↦ get_or-set_at places place k None None (omega (arith, h, last)) inside
      ];
      ahead = λ k h. get_or-set_other places place k None None (λ e. omega (arith, h, e)) ∙ d.ahead k (omega (arith, h));
      later = all_pairs_push (λ a b. time_of a < time_of b) out row d.later (λ k e h. (let f = d.from k e h in rising f.0 place (get_or out k e) row f.1 f.2 was));
      from = All-push (λ r. (k : ℕ) × (k < place + 1) × (row_in initial k ≡ Some r)) out row (λ k e h. (let f = d.from k e h in (f.0, omega (arith, f.1), f.2))) (place, omega arith, was);
      all = λ k r h e. elim (cases_lt k place) [
        | inl less ↦ Contains-append_left out (row ∷ []) r (d.all k r less e)
        | inr last ↦
            let same : place ≡ k = omega (arith, h, last) in
            let both : row ≡ r = same_Some row r (sym was ∙ ap (row_in initial) same ∙ e) in
            subst (Contains (out ++ row ∷ [])) both (Contains-append_right out (row ∷ []) row (0, omega arith, refl))
      ];
    }

-- taking a row away keeps the span
pub placed-less : (places : List (Option Row)) (first end k : ℕ) → ArePlaced places first end → k < length places → ArePlaced (set places k None) first end
placed-less places first end k placed inside = record {
  within = subst (λ n. end ≤ n) (sym (length-set places k None)) placed.within;
  below = λ j h. elim (cases_eq j k) [ inl e ↦ get_or-set_at places k j None None e inside | inr other ↦ get_or-set_other places k j None None other ∙ placed.below j h ];
  above = λ j h. elim (cases_eq j k) [ inl e ↦ get_or-set_at places k j None None e inside | inr other ↦ get_or-set_other places k j None None other ∙ placed.above j h ];
}

pub drained-all : (initial places : List (Option Row)) (first end place : ℕ) (out : List Row) → ArePlaced initial first end → AreDrained initial places place out → end ≤ place → AreBestOf (IsPlaced initial) out
drained-all initial places first end place out placed d over = record {
  from = λ k e h. (let f = d.from k e h in (f.0, f.2));
  all = λ r h. has-self out r (elim (cases_lt h.0 place) [
    | inl less ↦ d.all h.0 r less h.1
    | inr rest ↦ absurd (none-some r (sym (placed.above h.0 (omega (arith, over, rest))) ∙ h.1))
  ]);
}
