-- What lists of rows keep.
use Rattle.std.proofs.Common.{◌≡◌, ℕ, ◌-◌, ◌<◌, ◌≢◌, ◌⊎◌, List, [], ◌∷◌, ◌++◌, length, get_or, set, Contains, refl, sym, ap, subst, ◌∙◌, inl, inr, length-set, arith}
use Rattle.std.proofs.lemmas.Bool.{cases_eq, cases_lt}
use Rattle.std.proofs.lemmas.List.{get_or-set_other, get_or_default}
use Rattle.std.proofs.lemmas.Grind.{get_or-set_at}
use Rattle.std.proofs.lemmas.List.Elements.{All-push, All-contains_itself, Contains-append_left, Contains-append_right}
use Rattle.std.proofs.lemmas.List.Quantifiers.{all_pairs_push}
use Rattle.forward_dp.specs.declared.rows.Row.{Row}
use Rattle.forward_dp.specs.Rows.{AreBestOf, AreLater, AreUpTo, HasRow, IsNoWorse, time_of}

pub no-worse-self : (r : Row) → IsNoWorse r r.entry.delay r.order
no-worse-self r = inr (refl, omega arith)

pub no-worse-trans : (a b : Row) (d o : ℕ) → IsNoWorse a b.entry.delay b.order → IsNoWorse b d o → IsNoWorse a d o
no-worse-trans a b d o (inl x) (inl y) = inl (omega arith)
no-worse-trans a b d o (inl x) (inr y) = inl (omega arith)
no-worse-trans a b d o (inr x) (inl y) = inl (omega arith)
no-worse-trans a b d o (inr x) (inr y) = inr (x.0 ∙ y.0, omega arith)

-- each row of a list is there itself
pub has-self : (rows : List Row) (r : Row) → Contains rows r → HasRow rows (time_of r) r.entry.delay r.order
has-self rows r h = record { row = r; among = h; time_is = refl; no_worse = no-worse-self r }

-- a row put after the others
pub best-push : (xs : List Row) (c : Row) → AreBestOf (λ r. Contains xs r ⊎ (r ≡ c)) (xs ++ c ∷ [])
best-push xs c = record {
  from = All-push (λ r. Contains xs r ⊎ (r ≡ c)) xs c (λ k d h. inl (All-contains_itself xs k d h)) (inr refl);
  all = λ r h. has-self (xs ++ c ∷ []) r (elim h [
    | inl among ↦ Contains-append_left xs (c ∷ []) r among
    | inr same ↦ subst (Contains (xs ++ c ∷ [])) (sym same) (Contains-append_right xs (c ∷ []) c (0, omega arith, refl))
  ]);
}

pub later-push : (xs : List Row) (c : Row) → AreLater xs → AreUpTo (time_of c) xs → ((d : Row) → 0 < length xs → time_of (get_or xs (length xs - 1) d) ≢ time_of c) → AreLater (xs ++ c ∷ [])
later-push xs c later last apart = all_pairs_push (λ a b. time_of a < time_of b) xs c later (λ k d h. elim (cases_lt k (length xs - 1)) [
  | inl before ↦ omega (arith, later k (length xs - 1) d before (omega arith), last (length xs - 1) d (omega arith))
  | inr end ↦
      let same : length xs - 1 ≡ k = omega arith in
      let other : time_of (get_or xs k d) ≢ time_of c = subst (λ i. time_of (get_or xs i d) ≢ time_of c) same (apart d (omega arith)) in
      omega (arith, last k d h, other)
])

-- a row in the place of one with its time
pub best-set : (xs : List Row) (k : ℕ) (y c x : Row) → k < length xs → y ≡ get_or xs k y → time_of y ≡ time_of c → (x ≡ y) ⊎ (x ≡ c) → IsNoWorse x y.entry.delay y.order → IsNoWorse x c.entry.delay c.order
    → AreBestOf (λ r. Contains xs r ⊎ (r ≡ c)) (set xs k x)
best-set xs k y c x inside there alike from first second =
    let time_x : time_of x ≡ time_of c = elim from [ inl e ↦ ap time_of e ∙ alike | inr e ↦ ap time_of e ] in
    let among_x : Contains (set xs k x) x = (k, omega (arith, length-set xs k x), get_or-set_at xs k k x x refl inside) in
    record {
      from = λ i d h. elim (cases_eq i k) [
        | inl same ↦
            subst (λ r. Contains xs r ⊎ (r ≡ c)) (sym (get_or-set_at xs k i x d same inside))
            (elim from [ inl e ↦ inl (subst (Contains xs) (sym e) (k, inside, sym there)) | inr e ↦ inr e ])
        | inr other ↦ subst (λ r. Contains xs r ⊎ (r ≡ c)) (sym (get_or-set_other xs k i x d other)) (inl (All-contains_itself xs i d (omega (arith, h, length-set xs k x))))
      ];
      all = λ r h. elim h [
        | inl among ↦ elim (cases_eq among.0 k) [
          | inl same ↦
              let is_y : r ≡ y = sym among.2 ∙ get_or_default xs among.0 r y among.1 ∙ ap (λ i. get_or xs i y) same ∙ sym there in
              record { row = x; among = among_x; time_is = time_x ∙ sym alike ∙ ap time_of (sym is_y); no_worse = subst (λ z. IsNoWorse x z.entry.delay z.order) (sym is_y) first }
          | inr other ↦ has-self (set xs k x) r (among.0, omega (arith, among.1, length-set xs k x), get_or-set_other xs k among.0 x r other ∙ among.2)
        ]
        | inr e ↦ record { row = x; among = among_x; time_is = time_x ∙ ap time_of (sym e); no_worse = subst (λ z. IsNoWorse x z.entry.delay z.order) (sym e) second }
      ];
    }

-- what is the best of some is the best of what they are the best of
pub best-more : (C D : Row → Type 0) (xs ys : List Row) (c : Row) → AreBestOf C xs → AreBestOf (λ r. Contains xs r ⊎ (r ≡ c)) ys → D c → ((r : Row) → C r → D r) → ((r : Row) → D r → C r ⊎ (r ≡ c)) → AreBestOf D ys
best-more C D xs ys c old new is_c wider only = record {
  from = λ k d h. elim (new.from k d h) [
    | inl among ↦ wider (get_or ys k d) (subst C among.2 (old.from among.0 (get_or ys k d) among.1))
    | inr e ↦ subst D (sym e) is_c
  ];
  all = λ r h. elim (only r h) [
    | inl was ↦
        let a : HasRow xs (time_of r) r.entry.delay r.order = old.all r was in
        let b : HasRow ys (time_of a.row) a.row.entry.delay a.row.order = new.all a.row (inl a.among) in
        record { row = b.row; among = b.among; time_is = b.time_is ∙ a.time_is; no_worse = no-worse-trans b.row a.row r.entry.delay r.order b.no_worse a.no_worse }
    | inr e ↦ new.all r (inr e)
  ];
}
