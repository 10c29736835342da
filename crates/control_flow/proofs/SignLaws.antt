-- What the rows of a line show, one after another, and that a spliced line shows the same before it goes on.
use Rattle.std.proofs.Common.{◌≡◌, ℕ, zero, suc, ◌-◌, ◌<◌, ◌≤◌, Bool, true, false, cond, ltb, leb, List, [], ◌∷◌, length, Option, Some, None, refl, sym, ap, subst, ◌∙◌, inl, inr, arith}
use Rattle.std.specs.Option.{option_map}
use Rattle.std.proofs.lemmas.Bool.{cases_lt, cond_below, cond_above, and_from, and_right, le-leb, le-ltb, lt-ltb}
use Rattle.control_flow.specs.declared.greens.Green.{Green}
use Rattle.control_flow.specs.declared.greens.Sign.{Sign}
use Rattle.control_flow.specs.declared.greens.Sign.TheVariants as signs
use Rattle.control_flow.specs.Greens.{IsInOrder, covers, green_at, row_after, row_at, standing}
use Rattle.control_flow.specs.Signs.{change_from, on_of, sign_after, sign_at}
use Rattle.control_flow.proofs.OrderLaws.{order-first, order-tail, none-before}

-- a row: before it, in it, and after it

pub before-row : (before : Option ℕ) (r : Green) (rs : List Green) (second : ℕ) → second < r.from → sign_after before (r ∷ rs) second ≡ change_from before r.phase
before-row before r rs second h = sym (cond_below second r.from (change_from before r.phase) (cond (ltb second r.to) (signs.On r.phase r.from) (sign_after (Some r.phase) rs second)) h)

from-row : (before : Option ℕ) (r : Green) (rs : List Green) (second : ℕ) → r.from ≤ second → sign_after before (r ∷ rs) second ≡ cond (ltb second r.to) (signs.On r.phase r.from) (sign_after (Some r.phase) rs second)
from-row before r rs second begun =
    let on = cond (ltb second r.to) (signs.On r.phase r.from) (sign_after (Some r.phase) rs second) in
    sym (cond_above second r.from (change_from before r.phase) on on begun refl)

pub within-row : (before : Option ℕ) (r : Green) (rs : List Green) (second : ℕ) → r.from ≤ second → second < r.to → sign_after before (r ∷ rs) second ≡ signs.On r.phase r.from
within-row before r rs second begun h = from-row before r rs second begun ∙ sym (cond_below second r.to (signs.On r.phase r.from) (sign_after (Some r.phase) rs second) h)

pub after-row : (before : Option ℕ) (r : Green) (rs : List Green) (second : ℕ) → r.from ≤ second → r.to ≤ second → sign_after before (r ∷ rs) second ≡ sign_after (Some r.phase) rs second
after-row before r rs second begun h =
    from-row before r rs second begun ∙ sym (cond_above second r.to (signs.On r.phase r.from) (sign_after (Some r.phase) rs second) (sign_after (Some r.phase) rs second) h refl)

-- the same row before lines that show the same after it
pub same-row : (before : Option ℕ) (r : Green) (rs ss : List Green) (second : ℕ) → sign_after (Some r.phase) rs second ≡ sign_after (Some r.phase) ss second → sign_after before (r ∷ rs) second ≡ sign_after before (r ∷ ss) second
same-row before r rs ss second e = ap (λ (s : Sign). cond (ltb second r.from) (change_from before r.phase) (cond (ltb second r.to) (signs.On r.phase r.from) s)) e

-- a change shows no green
pub change-off : (before : Option ℕ) (j : ℕ) → on_of (change_from before j) ≡ None
change-off None j = refl
change-off (Some k) j = refl

-- the same row before lines that show the same greens after it
pub on-row : (before : Option ℕ) (r : Green) (rs ss : List Green) (second : ℕ) → on_of (sign_after (Some r.phase) rs second) ≡ on_of (sign_after (Some r.phase) ss second) → on_of (sign_after before (r ∷ rs) second) ≡ on_of (sign_after before (r ∷ ss) second)
on-row before r rs ss second e = elim (cases_lt second r.from) [
  | inl early ↦ ap on_of (before-row before r rs second early ∙ sym (before-row before r ss second early))
  | inr begun ↦ elim (cases_lt second r.to) [
    | inl within ↦ ap on_of (within-row before r rs second begun within ∙ sym (within-row before r ss second begun within))
    | inr over ↦ ap on_of (after-row before r rs second begun over) ∙ e ∙ sym (ap on_of (after-row before r ss second begun over))
  ]
]

-- by the place of the first row that ends after a second

pub sign-past : (before : Option ℕ) (rows : List Green) (second i : ℕ) → IsInOrder rows → length rows ≤ i → ((k : ℕ) → k < i → (row_at rows k).to ≤ second) → sign_after before rows second ≡ signs.Dark
sign-past before [] second i o none ended = refl
sign-past before (r ∷ rs) second zero o none ended = absurd (omega arith)
sign-past before (r ∷ rs) second (suc i) o none ended =
    let over = ended 0 (omega arith) in
    after-row before r rs second (omega (arith, over, order-first r rs o)) over
    ∙ sign-past (Some r.phase) rs second i (order-tail r rs o) (omega arith) (λ k h. ended (suc k) (omega arith))

pub sign-on : (before : Option ℕ) (rows : List Green) (second i : ℕ) → IsInOrder rows → i < length rows → ((k : ℕ) → k < i → (row_at rows k).to ≤ second) → second < (row_at rows i).to → (row_at rows i).from ≤ second
    → sign_after before rows second ≡ signs.On (row_at rows i).phase (row_at rows i).from
sign-on before [] second i o inside ended ends begun = absurd (omega arith)
sign-on before (r ∷ rs) second zero o inside ended ends begun = within-row before r rs second begun ends
sign-on before (r ∷ rs) second (suc i) o inside ended ends begun =
    let over = ended 0 (omega arith) in
    after-row before r rs second (omega (arith, over, order-first r rs o)) over
    ∙ sign-on (Some r.phase) rs second i (order-tail r rs o) (omega arith) (λ k h. ended (suc k) (omega arith)) ends begun

change-after : (before : Option ℕ) (rows : List Green) (second i : ℕ) → IsInOrder rows → suc i < length rows → ((k : ℕ) → k < suc i → (row_at rows k).to ≤ second) → second < (row_at rows (suc i)).from
    → sign_after before rows second ≡ signs.Change (row_at rows i).phase (row_at rows (suc i)).phase
change-after before [] second i o inside ended early = absurd (omega arith)
change-after before (r ∷ []) second i o inside ended early = absurd (omega arith)
change-after before (r ∷ s ∷ rs) second zero o inside ended early =
    let over = ended 0 (omega arith) in
    after-row before r (s ∷ rs) second (omega (arith, over, order-first r (s ∷ rs) o)) over ∙ before-row (Some r.phase) s rs second early
change-after before (r ∷ s ∷ rs) second (suc i) o inside ended early =
    let over = ended 0 (omega arith) in
    after-row before r (s ∷ rs) second (omega (arith, over, order-first r (s ∷ rs) o)) over
    ∙ change-after (Some r.phase) (s ∷ rs) second i (order-tail r (s ∷ rs) o) (omega arith) (λ k h. ended (suc k) (omega arith)) early

pub sign-change : (rows : List Green) (second i : ℕ) → IsInOrder rows → 0 < i → i < length rows → ((k : ℕ) → k < i → (row_at rows k).to ≤ second) → second < (row_at rows i).from
    → sign_at rows second ≡ signs.Change (row_at rows (i - 1)).phase (row_at rows i).phase
sign-change rows second i o some =
    let e : suc (i - 1) ≡ i = omega arith in
    subst (λ (n : ℕ). n < length rows → ((k : ℕ) → k < n → (row_at rows k).to ≤ second) → second < (row_at rows n).from → sign_at rows second ≡ signs.Change (row_at rows (i - 1)).phase (row_at rows n).phase) e
    (change-after None rows second (i - 1) o)

-- where the first row begins later, a line is dark
pub sign-early : (rows : List Green) (second : ℕ) → 0 < length rows → second < (row_at rows 0).from → sign_at rows second ≡ signs.Dark
sign-early [] second some early = absurd (omega arith)
sign-early (r ∷ rs) second some early = before-row None r rs second early

-- the row that ends after the second, where it has begun
pub sign-begun : (before : Option ℕ) (rows : List Green) (second : ℕ) (row : Green) → IsInOrder rows → row_after rows second ≡ Some row → row.from ≤ second → sign_after before rows second ≡ signs.On row.phase row.from
sign-begun before [] second row o e begun = let impossible : ⊥ = cc in absurd impossible
sign-begun before (r ∷ rs) second row o e begun = elim (cases_lt second r.to) [
  | inl h ↦
      let f = cond_below second r.to (Some r) (row_after rs second) h in
      let same : r ≡ row = cc in
      within-row before r rs second (omega (arith, ap (λ (g : Green). g.from) same)) h ∙ ap (λ (g : Green). signs.On g.phase g.from) same
  | inr over ↦
      after-row before r rs second (omega (arith, order-first r rs o)) over
      ∙ sign-begun (Some r.phase) rs second row (order-tail r rs o) (cond_above second r.to (Some r) (row_after rs second) (row_after rs second) over refl ∙ e) begun
]

-- the green of a sign is that of the row that covers the second

standing-after : (before : Option ℕ) (rows : List Green) (second : ℕ) → IsInOrder rows → on_of (sign_after before rows second) ≡ option_map (λ row. (row.phase, row.from)) (green_at rows second)
standing-after before [] second o = refl
standing-after before (r ∷ rs) second o =
    let show : Option Green → Option (ℕ × ℕ) = option_map (λ (row : Green). (row.phase, row.from)) in
    elim (cases_lt second r.from) [
      | inl early ↦ ap on_of (before-row before r rs second early) ∙ change-off before r.phase ∙ sym (ap show (none-before r rs second o early))
      | inr begun ↦ elim (cases_lt second r.to) [
        | inl within ↦
            let here : covers r second ≡ true = and_from (leb r.from second) (ltb second r.to) (le-leb r.from second begun) (lt-ltb second r.to within) in
            ap on_of (within-row before r rs second begun within) ∙ sym (ap (λ (t : Bool). show (cond t (Some r) (green_at rs second))) here)
        | inr over ↦
            let not_here : covers r second ≡ false = and_right (leb r.from second) (ltb second r.to) (le-ltb second r.to over) in
            ap on_of (after-row before r rs second begun over)
            ∙ standing-after (Some r.phase) rs second (order-tail r rs o)
            ∙ sym (ap (λ (t : Bool). show (cond t (Some r) (green_at rs second))) not_here)
      ]
    ]

pub standing-green : (rows : List Green) (second : ℕ) → IsInOrder rows → standing rows second ≡ option_map (λ row. (row.phase, row.from)) (green_at rows second)
standing-green rows second o = standing-after None rows second o
