-- The rows of a line from the last that begins by a second on.
use Rattle.std.proofs.Common.{◌≡◌, ℕ, zero, suc, ◌+◌, ◌-◌, ◌<◌, ◌≤◌, List, [], ◌∷◌, ◌++◌, Some, drop, length, take, refl, sym, ap, subst, ◌∙◌, arith}
use Rattle.std.specs.Prelude.{if◌then◌else◌, nat_le, nat_lt}
use Rattle.std.specs.Option.{option_map}
use Rattle.std.proofs.lemmas.Bool.{cond_both, le-leb, le-ltb, leb-true, ltb-false}
use Rattle.std.proofs.lemmas.List.{length-drop, take_all}
use Rattle.control_flow.specs.Greens.{Follows, IsInOrder, IsLawful, head_at, head_in, row_after, row_at, rows_before, spliced}
use Rattle.control_flow.specs.declared.greens.Green.{Green}
use Rattle.phase_plan.specs.declared.Phase.{Phase}
use Rattle.round_states.specs.States.{IsLineAt}
use Rattle.round_decisions.specs.Lines.{rows_from}

-- one row less is still a line
lawful-rest : (plan : List Phase) (row next : Green) (rows : List Green) → IsLawful plan (row ∷ next ∷ rows) → IsLawful plan (next ∷ rows)
lawful-rest plan row next rows is = record {
  greens = λ k d inside. is.greens (suc k) d (omega arith);
  order = λ k inside. subst (λ j. Follows plan (row_at (row ∷ next ∷ rows) (suc k)) (row_at (row ∷ next ∷ rows) j)) (let e : suc k + 1 ≡ suc (k + 1) = omega arith in e) (is.order (suc k) (omega arith));
}

line-rest : (plan : List Phase) (second : ℕ) (row next : Green) (rows : List Green) → next.from ≤ second → IsLineAt plan second (row ∷ next ∷ rows) → IsLineAt plan second (next ∷ rows)
line-rest plan second row next rows begun is = record {
  lawful = lawful-rest plan row next rows is.lawful;
  begins = λ k d inside. is.begins (suc k) d (omega arith);
  some = omega arith;
  begun = begun;
  ends = is.ends;
}

pub from-line : (plan : List Phase) (second : ℕ) (rows : List Green) → IsLineAt plan second rows → IsLineAt plan second (rows_from second rows)
from-line plan second [] is = is
from-line plan second (row ∷ []) is = is
from-line plan second (row ∷ next ∷ rows) is = cond_both (nat_le next.from second) (rows_from second (next ∷ rows)) (row ∷ next ∷ rows) (IsLineAt plan second)
    (λ yes. from-line plan second (next ∷ rows) (line-rest plan second row next rows (leb-true next.from second yes) is)) (λ no. is)

order-rest : (row next : Green) (rows : List Green) → IsInOrder (row ∷ next ∷ rows) → IsInOrder (next ∷ rows)
order-rest row next rows is = record {
  long = λ k d inside. is.long (suc k) d (omega arith);
  order = λ k inside. subst (λ j. (row_at (row ∷ next ∷ rows) (suc k)).to ≤ (row_at (row ∷ next ∷ rows) j).from) (let e : suc k + 1 ≡ suc (k + 1) = omega arith in e) (is.order (suc k) (omega arith));
}

-- a row that ends by a second does not stand after it
pub from-after : (second later : ℕ) (rows : List Green) → second ≤ later → IsInOrder rows → row_after (rows_from second rows) later ≡ row_after rows later
from-after second later [] most is = refl
from-after second later (row ∷ []) most is = refl
from-after second later (row ∷ next ∷ rows) most is = cond_both (nat_le next.from second) (rows_from second (next ∷ rows)) (row ∷ next ∷ rows) (λ l. row_after l later ≡ row_after (row ∷ next ∷ rows) later)
    (λ yes.
    let early : row.to ≤ next.from = is.order 0 (omega arith) in
    let begun : next.from ≤ second = leb-true next.from second yes in
    from-after second later (next ∷ rows) most (order-rest row next rows is)
    ∙ sym (ap (λ b. if b then Some row else row_after (next ∷ rows) later) (le-ltb later row.to (omega arith))))
    (λ no. refl)

pub from-heads : (second : ℕ) (rows : List Green) → IsInOrder rows → (plan : List Phase) (later : ℕ) → second ≤ later → head_at plan (rows_from second rows) later ≡ head_at plan rows later
from-heads second rows is plan later most = ap (option_map (head_in plan later)) (from-after second later rows most is)

-- where the next row has begun, the rows are those from it on; where it has not, or there is none, they are all
after-one : (second index : ℕ) (rows : List Green) → index + 1 < length rows → (row_at rows (index + 1)).from ≤ second → rows_from second (drop index rows) ≡ rows_from second (drop (index + 1) rows)
after-one second zero [] inside begun = absurd (omega arith)
after-one second zero (x ∷ []) inside begun = absurd (omega arith)
after-one second zero (x ∷ y ∷ rows) inside begun = ap (λ b. if b then rows_from second (y ∷ rows) else x ∷ y ∷ rows) (le-leb y.from second begun)
after-one second (suc index) [] inside begun = absurd (omega arith)
after-one second (suc index) (x ∷ rows) inside begun =
    let e : suc index + 1 ≡ suc (index + 1) = omega arith in
    after-one second index rows (omega arith) (subst (λ k. (row_at (x ∷ rows) k).from ≤ second) e begun) ∙ sym (ap (λ k. rows_from second (drop k (x ∷ rows))) e)

pub from-next : (second index next : ℕ) (rows : List Green) → index + 1 ≡ next → next < length rows → (row_at rows next).from ≤ second → rows_from second (drop index rows) ≡ rows_from second (drop next rows)
from-next second index next rows place inside begun =
    after-one second index rows (omega arith) (subst (λ k. (row_at rows k).from ≤ second) (sym place) begun) ∙ ap (λ k. rows_from second (drop k rows)) place

pub from-last : (second index : ℕ) (rows : List Green) → length rows ≤ index + 1 → rows_from second (drop index rows) ≡ drop index rows
from-last second zero [] past = refl
from-last second zero (x ∷ []) past = refl
from-last second zero (x ∷ y ∷ rows) past = absurd (omega arith)
from-last second (suc index) [] past = refl
from-last second (suc index) (x ∷ rows) past = from-last second index rows (omega arith)

-- the rows from a place on, as a part of the list
pub part-from : (second first : ℕ) (rows line : List Green) → drop first rows ≡ rows_from second rows → rows ≡ line → take (length rows - first) (drop first rows) ≡ rows_from second line
part-from second first rows line from same = take_all (length rows - first) (drop first rows) (omega (arith, length-drop first rows)) ∙ from ∙ ap (rows_from second) same

-- a spliced line begins no later than the old one
pub spliced-first : (old next : List Green) → 0 < length old → (row_at (spliced old next) 0).from ≤ (row_at old 0).from
spliced-first [] next some = absurd (omega arith)
spliced-first (o ∷ os) [] some = omega arith
spliced-first (o ∷ os) (row ∷ rows) some = cond_both (nat_lt o.from row.from) (o ∷ rows_before os row.from) [] (λ (l : List Green). (row_at (l ++ row ∷ rows) 0).from ≤ o.from)
    (λ yes. omega arith) (λ no. ltb-false o.from row.from no)
