-- From the round on in which a phase has no mark it is green within a turn.
use Rattle.std.proofs.Common.{◌≡◌, ℕ, zero, suc, ◌+◌, ◌-◌, ◌<◌, ◌≤◌, Bool, true, cond, leb, ltb, ◌&&◌, ◌==◌, IsTrue, List, [], ◌∷◌, ◌++◌, length, All, Some, refl, sym, ap, subst, ◌∙◌, inl, inr, arith, length-append}
use Rattle.std.specs.Option.{option_map}
use Rattle.std.proofs.lemmas.Bool.{cases_lt, cond_below, or_right}
use Rattle.std.proofs.lemmas.List.Elements.{All-cons, All-head, All-nil, All-tail}
use Rattle.std.proofs.lemmas.List.Folds.{list_any-append}
use Rattle.std.proofs.lemmas.Option.{same_Some}
use Rattle.phase_plan.specs.Phases.{IsRing, is_unmarked_at, IsPhase}
use Rattle.phase_plan.specs.declared.Phase.{Phase}
use Rattle.switch_rules.specs.declared.Head.{Head}
use Rattle.control_flow.specs.Greens.{GoesOn, IsGreen, IsLawful, covers, end_of, head_at, head_in, is_green, row_after, row_at, rows_before, spliced}
use Rattle.control_flow.specs.declared.greens.Green.{Green}
use Rattle.control_flow.proofs.RowLaws.{end_of-last, lawful-tail, row_after-some}
use Rattle.control_flow.proofs.SpliceLaws.{IsRowOf, continued-by, row-of-head}
use Rattle.control_flow.specs.Recalls.{without_marks}
use Rattle.waits.specs.Rounds.{AreRounds}
use Rattle.waits.specs.Waits.{IsGreenBy, AreIntergreensWithin, longest_way}
use Rattle.waits.proofs.Intergreens.{first-from, kept-more, kept-none, past-row, spliced-intergreens}
use Rattle.control_flow.proofs.RecallLaws.{phases-without, without-at}
use Rattle.waits.proofs.Rounds.{kept}
use Rattle.waits.proofs.Turns.{within}

-- rows that have ended by a second
abbrev pub ArePast : ℕ → List Green → Type 0
ArePast now rows = All (λ (row : Green). row.to ≤ now) rows

module _ (plan : List Phase) (p : All IsPhase plan) (intergreen : ℕ → ℕ) where
  -- what a splice keeps has ended
  kept-past : (old : List Green) (now : ℕ) (row first : Green) → IsLawful plan old → row_after old now ≡ Some row → first.from ≡ row.from → ArePast now (rows_before old first.from)
  kept-past [] now row first lawful e same = All-nil (λ (r : Green). r.to ≤ now)
  kept-past (r ∷ rs) now row first lawful e same = elim (cases_lt now r.to) [
    | inl h ↦
        let f = cond_below now r.to (Some r) (row_after rs now) h in
        let is : r ≡ row = cc in
        let from : first.from ≡ r.from = same ∙ sym (ap (λ (g : Green). g.from) is) in
        subst (ArePast now) (sym (kept-none plan p intergreen r first rs from)) (All-nil (λ (g : Green). g.to ≤ now))
    | inr h ↦
        let (found, below) = past-row plan p intergreen r rs now row first lawful e same h in
        subst (ArePast now) (sym (kept-more plan p intergreen r first rs below)) (All-cons (λ (g : Green). g.to ≤ now) r (rows_before rs first.from) h (kept-past rs now row first (lawful-tail plan r rs lawful) found same))
  ]

  -- a splice leaves alone what has ended
  splice-front : (front back : List Green) (now : ℕ) (row first : Green) (more : List Green) → IsLawful plan (front ++ back) → ArePast now front → row_after (front ++ back) now ≡ Some row → first.from ≡ row.from
      → (row_after back now ≡ Some row) × (rows_before (front ++ back) first.from ++ first ∷ more ≡ front ++ (rows_before back first.from ++ first ∷ more))
  splice-front [] back now row first more lawful past e same = (e, refl)
  splice-front (r ∷ rs) back now row first more lawful past e same =
      let ended : r.to ≤ now = All-head (λ (g : Green). g.to ≤ now) r rs past in
      let (found, below) = past-row plan p intergreen r (rs ++ back) now row first lawful e same ended in
      let others = splice-front rs back now row first more (lawful-tail plan r (rs ++ back) lawful) (All-tail (λ (g : Green). g.to ≤ now) r rs past) found same in
      (others.0, ap (λ (rows : List Green). rows ++ first ∷ more) (kept-more plan p intergreen r first (rs ++ back) below) ∙ ap (λ (rows : List Green). r ∷ rows) others.1)

-- what is green in the back of a line is green in the line
green-behind : (front back : List Green) (k x : ℕ) → IsTrue (is_green back k x) → IsTrue (is_green (front ++ back) k x)
green-behind front back k x green =
    list_any-append (λ (row : Green). (row.phase == k) && covers row x) front back ∙ or_right (is_green front k x) (is_green back k x) green

past-later : (now later : ℕ) (rows : List Green) → now ≤ later → ArePast now rows → ArePast later rows
past-later now later [] h past = All-nil (λ (r : Green). r.to ≤ later)
past-later now later (r ∷ rs) h past =
    All-cons (λ (g : Green). g.to ≤ later) r rs (omega (arith, h, All-head (λ (g : Green). g.to ≤ now) r rs past)) (past-later now later rs h (All-tail (λ (g : Green). g.to ≤ now) r rs past))

-- a line whose back, from a row on that begins at a second, is lawful in a plan with fewer marks; what is before it has ended
record IsParted (plan free : List Phase) (intergreen : ℕ → ℕ) (now from : ℕ) (line : List Green) : Type 0 where
  front : List Green
  back : List Green
  is : line ≡ front ++ back
  past : ArePast now front
  lawful : IsLawful free back
  intergreens : AreIntergreensWithin intergreen back
  some : 0 < length back
  starts : (row_at back 0).from ≡ from

module _ (plan : List Phase) (these : ℕ → Bool) (p : IsRing plan) (intergreen : ℕ → ℕ) where
  abbrev free : List Phase
  free = without_marks plan these

  q : All IsPhase free
  q = phases-without plan these p.phases

  same-head : (now : ℕ) (row : Green) → row.phase < length plan → head_in free now row ≡ head_in plan now row
  same-head now row below =
      ap (λ (loss : ℕ). let h : Head = cond (leb row.from now) (record { phase = row.phase; since = row.from; at = now; fresh = ltb now (row.from + loss) }) (record { phase = row.phase; since = row.from; at = row.from; fresh = true }) in h)
      (ap (λ (s : Phase). s.loss) (without-at plan these row.phase below))

  -- the first of these rounds parts the line
  parts : (now : ℕ) (old : List Green) (head : Head) (next : List Green) → IsLawful plan old → head_at plan old now ≡ Some head → GoesOn head next → IsLawful free next → AreIntergreensWithin intergreen next
      → IsParted plan free intergreen now (row_at next 0).from (spliced old next)
  parts now old head [] lawful at goes freely intergreens = absurd (omega (arith, goes.some))
  parts now old head (first ∷ more) lawful at goes freely intergreens =
      let row : IsRowOf plan old now head = row-of-head plan old now head at in
      record {
        front = rows_before old first.from;
        back = first ∷ more;
        is = refl;
        past = kept-past plan p.phases intergreen old now row.row first lawful row.found (goes.begin ∙ row.since);
        lawful = freely;
        intergreens = intergreens;
        some = omega arith;
        starts = refl;
      }

  -- a later one changes its back alone
  goes-on : (now later from : ℕ) (old : List Green) (head : Head) (next : List Green) → now ≤ later → IsLawful plan old → head_at plan old later ≡ Some head → GoesOn head next → IsLawful free next → AreIntergreensWithin intergreen next
      → IsParted plan free intergreen now from old → IsParted plan free intergreen now from (spliced old next)
  goes-on now later from old head [] h lawful at goes freely intergreens parted = absurd (omega (arith, goes.some))
  goes-on now later from old head (first ∷ more) h lawful at goes freely intergreens parted =
      let row : IsRowOf plan old later head = row-of-head plan old later head at in
      let begin : first.from ≡ row.row.from = goes.begin ∙ row.since in
      let (found, whole) = splice-front plan p.phases intergreen parted.front parted.back later row.row first more (subst (IsLawful plan) parted.is lawful) (past-later now later parted.front h parted.past) (subst (λ (rows : List Green). row_after rows later ≡ Some row.row) parted.is row.found) begin in
      let green = row_after-some (IsGreen plan) old later row.row lawful.greens row.found in
      let is_head : head_in plan later row.row ≡ head = same_Some (head_in plan later row.row) head (sym (ap (option_map (head_in plan later)) row.found) ∙ at) in
      let there : head_at free parted.back later ≡ Some head = ap (option_map (head_in free later)) found ∙ ap Some (same-head later row.row green.0.phase ∙ is_head) in
      record {
        front = parted.front;
        back = spliced parted.back (first ∷ more);
        is = ap (λ (rows : List Green). rows_before rows first.from ++ first ∷ more) parted.is ∙ whole;
        past = parted.past;
        lawful = (continued-by free parted.back later head (first ∷ more) q parted.lawful there freely goes).lawful;
        intergreens = spliced-intergreens free q intergreen parted.back (first ∷ more) later head parted.lawful there goes parted.intergreens intergreens;
        some = omega (arith, length-append (rows_before parted.back first.from) (first ∷ more));
        starts = first-from free q intergreen parted.back later row.row first more parted.lawful found begin ∙ parted.starts;
      }

  module _ (rounds : ℕ) (begins : ℕ → ℕ) (line : ℕ → List Green) (are : AreRounds plan intergreen rounds begins line) (rises : (r s : ℕ) → r ≤ s → begins r ≤ begins s)
      (first : ℕ) (less : first < rounds) (freely : (r : ℕ) (inside : r < rounds) → first ≤ r → IsLawful (without_marks plan these) (are.each r inside).next) where
    abbrev from : ℕ
    from = (row_at (are.each first less).next 0).from

    parted : (d : ℕ) → first + suc d ≤ rounds → IsParted plan free intergreen (begins first) from (line (first + suc d))
    parted zero most =
        let one = are.each first less in
        let e : first + 1 ≡ suc first = omega arith in
        subst (λ (r : ℕ). IsParted plan free intergreen (begins first) from (line r)) (sym e)
        (subst (IsParted plan free intergreen (begins first) from) (sym one.line) (parts (begins first) (line first) one.head one.next (kept plan p intergreen rounds begins line are first (omega (arith, less))).0 one.at one.goes (freely first less (omega arith)) one.intergreens))
    parted (suc d) most =
        let r = first + suc d in
        let inside : r < rounds = omega (arith, most) in
        let one = are.each r inside in
        let e : first + suc (suc d) ≡ suc r = omega arith in
        subst (λ (s : ℕ). IsParted plan free intergreen (begins first) from (line s)) (sym e)
        (subst (IsParted plan free intergreen (begins first) from) (sym one.line) (goes-on (begins first) (begins r) from (line r) one.head one.next (rises first r (omega arith)) (kept plan p intergreen rounds begins line are r (omega (arith, inside))).0 one.at one.goes (freely r inside (omega arith)) one.intergreens (parted d (omega (arith, most)))))

    pub recalls : (k : ℕ) → k < length (without_marks plan these) → is_unmarked_at (without_marks plan these) k ≡ true → (second : ℕ) → (row_at (are.each first less).next 0).from ≤ second
        → second + longest_way (without_marks plan these) intergreen k k < end_of (line rounds) → IsGreenBy (line rounds) k second (second + longest_way (without_marks plan these) intergreen k k)
    recalls k below marked second begun end =
        let d = rounds - first - 1 in
        let e : first + suc d ≡ rounds = omega (arith, less) in
        let last : IsParted plan free intergreen (begins first) from (line rounds) = subst (λ (r : ℕ). IsParted plan free intergreen (begins first) from (line r)) e (parted d (omega (arith, less))) in
        let ends : end_of (line rounds) ≡ end_of last.back = ap end_of last.is ∙ end_of-last last.front last.back last.some in
        let by = within free q intergreen k below marked last.back last.lawful last.intergreens second (omega (arith, last.starts, begun)) (omega (arith, ends, end)) in
        record { second = by.second; after = by.after; before = by.before; green = subst (λ (rows : List Green). IsTrue (is_green rows k by.second)) (sym last.is) (green-behind last.front last.back k by.second by.green) }
