-- What a report tells of a line shows each link green as the line does.
use Rattle.std.proofs.Common.{◌≡◌, ◌≢◌, ℕ, zero, suc, ◌+◌, ◌<◌, ◌≤◌, Bool, true, false, not, ◌&&◌, ◌||◌, ◌==◌, ◌⊎◌, cond, List, [], ◌∷◌, length, count_by, All, Option, None, Some, refl, sym, ap, subst, ◌∙◌, inl, inr, arith}
use Rattle.std.specs.Option.{is_none, option_map}
use Rattle.std.proofs.lemmas.Bool.{and_parts, cases_Bool, cases_lt, false≢true}
use Rattle.std.proofs.lemmas.List.{get_or_past}
use Rattle.std.proofs.lemmas.List.Folds.{list_any_at}
use Rattle.std.proofs.lemmas.Option.{same_Some}
use Rattle.phase_plan.specs.declared.Phase.{Phase}
use Rattle.net_parts.specs.Numbers.{Net, has_link}
use Rattle.net_parts.specs.Outline.{also_at, also_links_at, is_green_in, is_green_to, link_at, walk_at}
use Rattle.net_parts.specs.declared.roads.Walk.{Walk}
use Rattle.road_net.specs.Through.{is_through, may_stay, names_staying}
use Rattle.road_net.proofs.Serving.{is_link}
use Rattle.control_flow.specs.Greens.{IsLawful}
use Rattle.control_flow.specs.Signs.{is_on_in, on_of, sign_after, sign_at}
use Rattle.control_flow.specs.declared.greens.Green.{Green}
use Rattle.control_flow.specs.declared.greens.Sign.{Sign}
use Rattle.control_flow.specs.declared.greens.Sign.TheVariants as signs
use Rattle.control_flow.proofs.RowLaws.{lawful-next, lawful-tail}
use Rattle.control_flow.proofs.SignLaws.{after-row, before-row, within-row}
use Rattle.world_records.specs.Told.{told_after, told_rows}
use Rattle.world_records.proofs.ToldSigns.{row-late, row-told, told-shows, told-standing}

-- ---- signs that light something alike: they are the same, or it is lit under neither

abbrev pub AreAlike : (Sign → Bool) → Sign → Sign → Type 0
AreAlike lit s t = (s ≡ t) ⊎ ((lit s ≡ false) × (lit t ≡ false))

module _ (lit : Sign → Bool) (dark : lit signs.Dark ≡ false) (plan : List Phase) (never : (k j : ℕ) → k ≢ j → lit (signs.Change k j) ≡ false) (end second : ℕ) (early : second < end) where
  alike-row : (before : Option ℕ) (r : Green) (rs ss : List Green) → AreAlike lit (sign_after (Some r.phase) rs second) (sign_after (Some r.phase) ss second)
      → AreAlike lit (sign_after before (r ∷ rs) second) (sign_after before (r ∷ ss) second)
  alike-row before r rs ss alike = elim (cases_lt second r.from) [
    | inl sooner ↦ inl (before-row before r rs second sooner ∙ sym (before-row before r ss second sooner))
    | inr begun ↦ elim (cases_lt second r.to) [
      | inl within ↦ inl (within-row before r rs second begun within ∙ sym (within-row before r ss second begun within))
      | inr over ↦
          subst (λ s. AreAlike lit s (sign_after before (r ∷ ss) second)) (sym (after-row before r rs second begun over))
          (subst (λ s. AreAlike lit (sign_after (Some r.phase) rs second) s) (sym (after-row before r ss second begun over)) alike)
    ]
  ]

  alike-after : (r : Green) (rows : List Green) → IsLawful plan (r ∷ rows) → AreAlike lit (sign_after (Some r.phase) (told_after false end r.to rows) second) (sign_after (Some r.phase) rows second)
  alike-after r [] lawful = inl refl
  alike-after r (n ∷ ns) lawful = elim (cases_lt n.from end) [
    | inl begun ↦
        subst (λ (l : List Green). AreAlike lit (sign_after (Some r.phase) l second) (sign_after (Some r.phase) (n ∷ ns) second)) (sym (row-told false end r.to n ns begun))
        (alike-row (Some r.phase) n (told_after false end n.to ns) ns (alike-after n ns (lawful-tail plan r (n ∷ ns) lawful)))
    | inr late ↦
        subst (λ (l : List Green). AreAlike lit (sign_after (Some r.phase) l second) (sign_after (Some r.phase) (n ∷ ns) second)) (sym (row-late false end r.to n ns late))
        (inr (dark, ap lit (before-row (Some r.phase) n ns second (omega (arith, late, early))) ∙ never r.phase n.phase (λ same. (lawful-next plan r n ns lawful).other (sym same))))
  ]

  alike-at : (rows : List Green) → IsLawful plan rows → AreAlike lit (sign_at (told_rows false end rows) second) (sign_at rows second)
  alike-at [] lawful = inl refl
  alike-at (r ∷ rs) lawful = elim (cases_lt r.from end) [
    | inl begun ↦
        subst (λ (l : List Green). AreAlike lit (sign_at l second) (sign_at (r ∷ rs) second)) (sym (row-told false end r.from r rs begun)) (alike-row None r (told_after false end r.to rs) rs (alike-after r rs lawful))
    | inr late ↦ inl (ap (λ (l : List Green). sign_at l second) (row-late false end r.from r rs late) ∙ sym (before-row None r rs second (omega (arith, late, early))))
  ]

-- what has a walk is lit only where a phase is on, so signs that show the same phase green light it alike
walk-alike : (green : ℕ → Bool) (walk x : ℕ) (s t : Sign) → on_of s ≡ on_of t → AreAlike (is_on_in green (Some walk) x) s t
walk-alike green walk x (signs.On k g) (signs.On j h) same =
    let is : (k, g) ≡ (j, h) = same_Some (k, g) (j, h) same in
    inl (ap (λ (n : ℕ × ℕ). signs.On n.0 n.1) is)
walk-alike green walk x (signs.On k g) (signs.Change i j) same = absurd cc
walk-alike green walk x (signs.On k g) signs.Dark same = absurd cc
walk-alike green walk x (signs.Change i j) (signs.On k g) same = absurd cc
walk-alike green walk x (signs.Change i j) (signs.Change k l) same = inr (refl, refl)
walk-alike green walk x (signs.Change i j) signs.Dark same = inr (refl, refl)
walk-alike green walk x signs.Dark (signs.On k g) same = absurd cc
walk-alike green walk x signs.Dark (signs.Change k l) same = inr (refl, refl)
walk-alike green walk x signs.Dark signs.Dark same = inr (refl, refl)

-- ---- at a node that is not through a link without a walk is green in its home alone

either : (a b : Bool) → (a || b) ≡ true → (b ≡ true → ⊥) → a ≡ true
either true b e never = refl
either false b e never = absurd (never e)

or-right : (a b : Bool) → b ≡ true → (a || b) ≡ true
or-right true b e = refl
or-right false b e = e

module _ (net : Net) (l node : ℕ) (to : (link_at net l).to ≡ Some node) (walk : (link_at net l).walk ≡ None) (still : is_through net node ≡ false) where
  names-it : (links : List ℕ) → has_link l links ≡ true → names_staying net links ≡ true
  names-it [] has = absurd (false≢true has)
  names-it (m ∷ ms) has = elim (cases_Bool (m == l)) [
    | inl same ↦ list_any_at (may_stay net) (m ∷ ms) 0 m (omega arith) (ap (λ (k : ℕ). may_stay net k) (is_link m l same) ∙ ap is_none walk)
    | inr other ↦ or-right (may_stay net m) (names_staying net ms) (names-it ms (ap (λ (b : Bool). b || has_link l ms) (sym other) ∙ has))
  ]

  not-also : (k : ℕ) → has_link l (also_links_at net node k) ≡ true → ⊥
  not-also k has = elim (cases_lt k (length (also_at net node))) [
    | inl inside ↦ false≢true (sym still ∙ list_any_at (names_staying net) (also_at net node) k [] inside (names-it (also_links_at net node k) has))
    | inr past ↦ false≢true (sym (ap (has_link l) (get_or_past (also_at net node) k [] past)) ∙ has)
  ]

  home-alone : (k : ℕ) → is_green_in net l k ≡ true → (link_at net l).phase ≡ k
  home-alone k on =
      let is : (((link_at net l).phase == k) || has_link l (also_links_at net node k)) ≡ true = sym (ap (is_green_to net l k) to) ∙ on in
      is_link (link_at net l).phase k (either ((link_at net l).phase == k) (has_link l (also_links_at net node k)) is (not-also k))

  never-two : (k j : ℕ) → k ≢ j → (is_green_in net l k && is_green_in net l j) ≡ false
  never-two k j differ = elim (cases_Bool (is_green_in net l k && is_green_in net l j)) [
    | inl both ↦
        let parts = and_parts (is_green_in net l k) (is_green_in net l j) both in
        absurd (differ (sym (home-alone k parts.0) ∙ home-alone j parts.1))
    | inr off ↦ off
  ]

-- what is told of a lawful line shows each link that ends at its node green as the line does
pub told-alike : (net : Net) (l node : ℕ) → (link_at net l).to ≡ Some node → (plan : List Phase) → (end second : ℕ) → second < end → (rows : List Green) → IsLawful plan rows
    → AreAlike (is_on_in (is_green_in net l) (walk_at net l) second) (sign_at (told_rows (is_through net node) end rows) second) (sign_at rows second)
told-alike net l node to plan end second early rows lawful = by-walk (link_at net l).walk refl
  where
    green : ℕ → Bool
    green = is_green_in net l

    told : List Green
    told = told_rows (is_through net node) end rows

    by-through : (link_at net l).walk ≡ None → (through : Bool) → is_through net node ≡ through → AreAlike (is_on_in green None second) (sign_at (told_rows through end rows) second) (sign_at rows second)
    by-through walk true is = inl (told-shows end rows second early)
    by-through walk false is = alike-at (is_on_in green None second) refl plan (never-two net l node to walk is) end second early rows lawful

    by-walk : (walk : Option Walk) → (link_at net l).walk ≡ walk → AreAlike (is_on_in green (walk_at net l) second) (sign_at told second) (sign_at rows second)
    by-walk None is = subst (λ (w : Option Walk). AreAlike (is_on_in green (option_map (λ k. k.seconds) w) second) (sign_at told second) (sign_at rows second)) (sym is) (by-through is (is_through net node) refl)
    by-walk (Some walk) is =
        subst (λ (w : Option Walk). AreAlike (is_on_in green (option_map (λ k. k.seconds) w) second) (sign_at told second) (sign_at rows second)) (sym is)
        (walk-alike green walk.seconds second (sign_at told second) (sign_at rows second) (told-standing (is_through net node) end rows second early))
