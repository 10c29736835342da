-- A timeline that is continued from the head that it has at a second.
use Rattle.std.proofs.Common.{◌≡◌, ◌≢◌, ℕ, ◌+◌, ◌<◌, ◌≤◌, Bool, true, false, ◌==◌, ◌&&◌, ◌||◌, cond, ltb, leb, List, [], ◌∷◌, ◌++◌, All, Option, Some, None, Result, Ok, Err, OnOk, refl, sym, ap, subst, ◌∙◌, inl, inr, arith}
use Rattle.std.specs.Option.{option_map}
use Rattle.std.specs.List.{list_any}
use Rattle.std.proofs.lemmas.Bool.{cases_lt, cond_below, cond_above, cond_both, and_left, and_right, lt-ltb, lt-leb, leb-false}
use Rattle.std.proofs.lemmas.List.Elements.{All-nil, All-cons, All-head, All-tail, All-append, All-weaker}
use Rattle.phase_plan.specs.Phases.{IsMarkedAt, IsPhase, IsRing, between, phase_at}
use Rattle.phase_plan.specs.declared.Phase.{Phase}
use Rattle.switch_rules.specs.declared.Head.{Head}
use Rattle.control_flow.specs.declared.greens.Green.{Green}
use Rattle.control_flow.specs.declared.greens.Colour.TheVariants as colours
use Rattle.control_flow.specs.Greens.{row_at, IsGreen, Follows, IsLawful, GoesOn, BeginBy, IsContinued, Joins, covers, covers_yellow, is_green, is_yellow, colour_at, row_after, head_in, head_at, rows_before, spliced}
use Rattle.control_flow.specs.Signs.{change_from, sign_after}
use Rattle.control_flow.specs.declared.greens.Sign.TheVariants as signs
use Rattle.control_flow.proofs.OrderLaws.{green-lasts, row_after-has}
use Rattle.control_flow.proofs.RowLaws.{lawful-cons, lawful-tail, lawful-first, lawful-next, end_of-append, row_after-some}
use Rattle.control_flow.proofs.SignLaws.{before-row, within-row, same-row}

-- the head of a row: its phase and begin, and a time that is not before now

pub head_in-phase : (plan : List Phase) (now : ℕ) (row : Green) → (head_in plan now row).phase ≡ row.phase
head_in-phase plan now row = cond_both (leb row.from now) _ _ (λ (h : Head). h.phase ≡ row.phase) (λ e. refl) (λ e. refl)

pub head_in-since : (plan : List Phase) (now : ℕ) (row : Green) → (head_in plan now row).since ≡ row.from
head_in-since plan now row = cond_both (leb row.from now) _ _ (λ (h : Head). h.since ≡ row.from) (λ e. refl) (λ e. refl)

pub head_in-later : (plan : List Phase) (now : ℕ) (row : Green) → now ≤ (head_in plan now row).at
head_in-later plan now row = cond_both (leb row.from now) _ _ (λ (h : Head). now ≤ h.at) (λ e. omega arith) (λ e. let after = leb-false row.from now e in omega (arith, after))

pub head_in-by : (plan : List Phase) (now : ℕ) (row : Green) (n : ℕ) → now ≤ n → row.from ≤ n → (head_in plan now row).at ≤ n
head_in-by plan now row n a b = cond_both (leb row.from now) _ _ (λ (h : Head). h.at ≤ n) (λ e. a) (λ e. b)

-- the row of a head
pub record IsRowOf (plan : List Phase) (rows : List Green) (now : ℕ) (head : Head) : Type 0 where
  pub row : Green
  pub found : row_after rows now ≡ Some row
  pub phase : head.phase ≡ row.phase
  pub since : head.since ≡ row.from
  pub later : now ≤ head.at

row-of-some : (plan : List Phase) (rows : List Green) (now : ℕ) (head : Head) (o : Option Green) → row_after rows now ≡ o → option_map (head_in plan now) o ≡ Some head → IsRowOf plan rows now head
row-of-some plan rows now head None found e = let impossible : IsRowOf plan rows now head = cc in impossible
row-of-some plan rows now head (Some row) found e =
    let same : head_in plan now row ≡ head = cc in
    record {
      row = row;
      found = found;
      phase = sym (ap (λ (h : Head). h.phase) same) ∙ head_in-phase plan now row;
      since = sym (ap (λ (h : Head). h.since) same) ∙ head_in-since plan now row;
      later = subst (λ (h : Head). now ≤ h.at) same (head_in-later plan now row);
    }

pub row-of-head : (plan : List Phase) (rows : List Green) (now : ℕ) (head : Head) → head_at plan rows now ≡ Some head → IsRowOf plan rows now head
row-of-head plan rows now head e = row-of-some plan rows now head (row_after rows now) refl e

-- in a lawful timeline, rows begin after those before them

pub begins-later : (plan : List Phase) (first : Green) (rows : List Green) (now : ℕ) (row : Green) → IsLawful plan (first ∷ rows) → row_after rows now ≡ Some row → first.to ≤ row.from
begins-later plan first [] now row lawful e = let impossible : first.to ≤ row.from = cc in impossible
begins-later plan first (next ∷ rows) now row lawful e =
    let follows = lawful-next plan first next rows lawful in
    let others = lawful-tail plan first (next ∷ rows) lawful in
    let green = lawful-first plan next rows others in
    elim (cases_lt now next.to) [
      | inl h ↦
          let f = cond_below now next.to (Some next) (row_after rows now) h in
          let same : next ≡ row = cc in
          omega (arith, follows.begins, ap (λ (r : Green). r.from) same)
      | inr h ↦
          let later = begins-later plan next rows now row others (cond_above now next.to (Some next) (row_after rows now) (row_after rows now) h refl ∙ e) in
          omega (arith, follows.begins, green.least, later)
    ]

-- the splice is lawful

-- a first row in the place of a row
pub record Replaces (first row : Green) : Type 0 where
  pub phase : first.phase ≡ row.phase
  pub from : first.from ≡ row.from

kept-none : (r first : Green) (rs : List Green) → first.from ≡ r.from → rows_before (r ∷ rs) first.from ≡ []
kept-none r first rs e = sym (cond_above r.from first.from (r ∷ rows_before rs first.from) [] [] (omega (arith, e)) refl)

kept-more : (r first : Green) (rs : List Green) → r.from < first.from → rows_before (r ∷ rs) first.from ≡ r ∷ rows_before rs first.from
kept-more r first rs h = sym (cond_below r.from first.from (r ∷ rows_before rs first.from) [] h)

-- a row that has ended by now stays: the row after now is one of the others, and what comes in its place begins later
past-row : (plan : List Phase) (r : Green) (rs : List Green) (now : ℕ) (row first : Green) → All IsPhase plan → IsLawful plan (r ∷ rs) → row_after (r ∷ rs) now ≡ Some row → Replaces first row → r.to ≤ now
    → (row_after rs now ≡ Some row) × (r.from < first.from)
past-row plan r rs now row first p lawful e same h =
    let found = cond_above now r.to (Some r) (row_after rs now) (row_after rs now) h refl ∙ e in
    let later = begins-later plan r rs now row lawful found in
    let long = green-lasts plan r p (lawful-first plan r rs lawful) in
    (found, omega (arith, same.from, later, long))

-- the first row of what is kept, or else of what comes after it, is where the old one is
first-of-splice : (plan : List Phase) (before : Green) (old : List Green) (now : ℕ) (row first : Green) (rest : List Green) → All IsPhase plan → IsLawful plan (before ∷ old) → row_after old now ≡ Some row → Replaces first row
    → Follows plan before (row_at (rows_before old first.from ++ first ∷ rest) 0)
first-of-splice plan before [] now row first rest p lawful e same = let impossible : Follows plan before first = cc in impossible
first-of-splice plan before (r ∷ rs) now row first rest p lawful e same =
    let follows = lawful-next plan before r rs lawful in
    let others = lawful-tail plan before (r ∷ rs) lawful in
    elim (cases_lt now r.to) [
      | inl h ↦
          let f = cond_below now r.to (Some r) (row_after rs now) h in
          let is : r ≡ row = cc in
          let from : first.from ≡ r.from = same.from ∙ sym (ap (λ (g : Green). g.from) is) in
          let phase : first.phase ≡ r.phase = same.phase ∙ sym (ap (λ (g : Green). g.phase) is) in
          let new : Follows plan before first = record { passed = subst (λ k. All (IsMarkedAt plan) (between plan before.phase k)) (sym phase) follows.passed; other = subst (λ k. k ≢ before.phase) (sym phase) follows.other; begins = omega (arith, from, follows.begins) } in
          rw (kept-none r first rs from) new
      | inr h ↦
          let past = past-row plan r rs now row first p others e same h in
          rw (kept-more r first rs past.1) follows
    ]

splice-lawful : (plan : List Phase) (old : List Green) (now : ℕ) (row first : Green) (rest : List Green) → All IsPhase plan → IsLawful plan old → row_after old now ≡ Some row → Replaces first row → IsLawful plan (first ∷ rest)
    → IsLawful plan (rows_before old first.from ++ first ∷ rest)
splice-lawful plan [] now row first rest p lawful e same next = next
splice-lawful plan (r ∷ rs) now row first rest p lawful e same next = elim (cases_lt now r.to) [
  | inl h ↦
      let f = cond_below now r.to (Some r) (row_after rs now) h in
      let is : r ≡ row = cc in
      let from : first.from ≡ r.from = same.from ∙ sym (ap (λ (g : Green). g.from) is) in
      rw (kept-none r first rs from) next
  | inr h ↦
      let (found, below) = past-row plan r rs now row first p lawful e same h in
      let others = splice-lawful plan rs now row first rest p (lawful-tail plan r rs lawful) found same next in
      rw (kept-more r first rs below) (lawful-cons plan r (rows_before rs first.from ++ first ∷ rest) (lawful-first plan r rs lawful) (λ some. first-of-splice plan r rs now row first rest p lawful found same) others)
]

-- and it shows the same signs before now

-- a row of the same phase and begin in its place, in a second before its end and that of the row
other-row : (before : Option ℕ) (first r : Green) (rest rs : List Green) (second : ℕ) → Replaces first r → second < first.to → second < r.to → sign_after before (first ∷ rest) second ≡ sign_after before (r ∷ rs) second
other-row before first r rest rs second same new old = elim (cases_lt second r.from) [
  | inl early ↦ before-row before first rest second (omega (arith, same.from, early)) ∙ ap (change_from before) same.phase ∙ sym (before-row before r rs second early)
  | inr begun ↦
      within-row before first rest second (omega (arith, same.from, begun)) new
      ∙ ap (λ (k : ℕ). signs.On k first.from) same.phase
      ∙ ap (λ (g : ℕ). signs.On r.phase g) same.from
      ∙ sym (within-row before r rs second begun old)
]

splice-signs : (plan : List Phase) (old : List Green) (now : ℕ) (row first : Green) (rest : List Green) → All IsPhase plan → IsLawful plan old → row_after old now ≡ Some row → Replaces first row → now ≤ first.to
    → (before : Option ℕ) (second : ℕ) → second < now → sign_after before (rows_before old first.from ++ first ∷ rest) second ≡ sign_after before old second
splice-signs plan [] now row first rest p lawful e same spent before second past = let impossible : sign_after before (first ∷ rest) second ≡ sign_after before [] second = cc in impossible
splice-signs plan (r ∷ rs) now row first rest p lawful e same spent before second past = elim (cases_lt now r.to) [
  | inl h ↦
      let f = cond_below now r.to (Some r) (row_after rs now) h in
      let is : r ≡ row = cc in
      let here : Replaces first r = record { phase = same.phase ∙ sym (ap (λ (g : Green). g.phase) is); from = same.from ∙ sym (ap (λ (g : Green). g.from) is) } in
      rw (kept-none r first rs here.from) (other-row before first r rest rs second here (omega arith) (omega arith))
  | inr h ↦
      let (found, below) = past-row plan r rs now row first p lawful e same h in
      let others = splice-signs plan rs now row first rest p (lawful-tail plan r rs lawful) found same spent (Some r.phase) second past in
      rw (kept-more r first rs below) (same-row before r (rows_before rs first.from ++ first ∷ rest) rs second others)
]

-- and the same colours

later-any : (test : Green → Bool) (rows : List Green) → All (λ (row : Green). test row ≡ false) rows → list_any test rows ≡ false
later-any test [] all = refl
later-any test (row ∷ rows) all =
    let here = All-head (λ (g : Green). test g ≡ false) row rows all in
    let others = later-any test rows (All-tail (λ (g : Green). test g ≡ false) row rows all) in
    cc

all-later : (plan : List Phase) (first : Green) (rows : List Green) → IsLawful plan (first ∷ rows) → All (λ (row : Green). (first.to ≤ row.from) × (first.to ≤ row.to)) rows
all-later plan first [] lawful = All-nil (λ (row : Green). (first.to ≤ row.from) × (first.to ≤ row.to))
all-later plan first (next ∷ rows) lawful =
    let follows = lawful-next plan first next rows lawful in
    let others = lawful-tail plan first (next ∷ rows) lawful in
    let green = lawful-first plan next rows others in
    let more = λ (row : Green) (h : (next.to ≤ row.from) × (next.to ≤ row.to)). let both : (first.to ≤ row.from) × (first.to ≤ row.to) = (omega (arith, follows.begins, green.least, h.0), omega (arith, follows.begins, green.least, h.1)) in both in
    All-cons (λ (row : Green). (first.to ≤ row.from) × (first.to ≤ row.to)) next rows (omega (arith, follows.begins), omega (arith, follows.begins, green.least))
    (All-weaker (λ (row : Green). (next.to ≤ row.from) × (next.to ≤ row.to)) (λ (row : Green). (first.to ≤ row.from) × (first.to ≤ row.to)) more rows (all-later plan next rows others))

-- a test that no row from now on passes, and that the first row passes where the old one does
pub record LooksBack (now : ℕ) (row first : Green) (test : Green → Bool) : Type 0 where
  pub later : (g : Green) → now ≤ g.from → now ≤ g.to → test g ≡ false
  pub same : test first ≡ test row

none-later : (plan : List Phase) (now : ℕ) (row first from : Green) (rows : List Green) (test : Green → Bool) → LooksBack now row first test → now ≤ from.to → IsLawful plan (from ∷ rows) → list_any test rows ≡ false
none-later plan now row first from rows test back spent lawful =
    let more = λ (g : Green) (h : (from.to ≤ g.from) × (from.to ≤ g.to)). back.later g (omega (arith, h.0)) (omega (arith, h.1)) in
    later-any test rows (All-weaker (λ (g : Green). (from.to ≤ g.from) × (from.to ≤ g.to)) (λ (g : Green). test g ≡ false) more rows (all-later plan from rows lawful))

splice-any : (plan : List Phase) (old : List Green) (now : ℕ) (row first : Green) (rest : List Green) (test : Green → Bool) → All IsPhase plan → IsLawful plan old → row_after old now ≡ Some row → Replaces first row → now ≤ first.to
    → IsLawful plan (first ∷ rest) → LooksBack now row first test → list_any test (rows_before old first.from ++ first ∷ rest) ≡ list_any test old
splice-any plan [] now row first rest test p lawful e same spent next back = let impossible : list_any test (first ∷ rest) ≡ list_any test [] = cc in impossible
splice-any plan (r ∷ rs) now row first rest test p lawful e same spent next back = elim (cases_lt now r.to) [
  | inl h ↦
      let f = cond_below now r.to (Some r) (row_after rs now) h in
      let is : r ≡ row = cc in
      let from : first.from ≡ r.from = same.from ∙ sym (ap (λ (g : Green). g.from) is) in
      let new = none-later plan now row first first rest test back spent next in
      let before = none-later plan now row first r rs test back (omega arith) lawful in
      let shows : test first ≡ test r = back.same ∙ sym (ap test is) in
      rw (kept-none r first rs from) cc
  | inr h ↦
      let (found, below) = past-row plan r rs now row first p lawful e same h in
      let others = splice-any plan rs now row first rest test p (lawful-tail plan r rs lawful) found same spent next back in
      rw (kept-more r first rs below) (ap (λ (b : Bool). test r || b) others)
]

green-looks-back : (now : ℕ) (row first : Green) (k second : ℕ) → now < row.to → Replaces first row → now ≤ first.to → second < now → LooksBack now row first (λ g. (g.phase == k) && covers g second)
green-looks-back now row first k second h same spent past = record {
  later = λ g from to. and_right (g.phase == k) (covers g second) (and_left (leb g.from second) (ltb second g.to) (lt-leb g.from second (omega arith)));
  same =
      let phase = ap (λ (j : ℕ). (j == k) && covers first second) same.phase in
      phase ∙ ap (λ (b : Bool). (row.phase == k) && b)
      (ap (λ (b : Bool). leb first.from second && b) (lt-ltb second first.to (omega arith)) ∙ ap (λ (g : ℕ). leb g second && true) same.from ∙ sym (ap (λ (b : Bool). leb row.from second && b) (lt-ltb second row.to (omega arith))));
}

yellow-looks-back : (now : ℕ) (row first : Green) (k yellow second : ℕ) → now < row.to → now ≤ first.to → second < now → LooksBack now row first (λ g. (g.phase == k) && covers_yellow g yellow second)
yellow-looks-back now row first k yellow second h spent past =
    let none = λ (g : Green) (to : now ≤ g.to). and_right (g.phase == k) (covers_yellow g yellow second) (and_left (leb g.to second) (ltb second (g.to + yellow)) (lt-leb g.to second (omega arith))) in
    record { later = λ g from to. none g to; same = none first spent ∙ sym (none row (omega arith)) }

splice-colours : (plan : List Phase) (old : List Green) (now : ℕ) (row first : Green) (rest : List Green) → All IsPhase plan → IsLawful plan old → row_after old now ≡ Some row → Replaces first row → now ≤ first.to
    → IsLawful plan (first ∷ rest) → (k second : ℕ) → second < now → colour_at plan (rows_before old first.from ++ first ∷ rest) k second ≡ colour_at plan old k second
splice-colours plan old now row first rest p lawful e same spent next k second past =
    let behind = (row_after-some (IsGreen plan) old now row lawful.greens e).1 in
    let yellow = (phase_at plan k).yellow in
    let green_same = splice-any plan old now row first rest (λ g. (g.phase == k) && covers g second) p lawful e same spent next (green-looks-back now row first k second behind same spent past) in
    let yellow_same = splice-any plan old now row first rest (λ g. (g.phase == k) && covers_yellow g yellow second) p lawful e same spent next (yellow-looks-back now row first k yellow second behind spent past) in
    let new = rows_before old first.from ++ first ∷ rest in
    ap (λ (b : Bool). cond b colours.Green (cond (is_yellow plan new k second) colours.Yellow colours.Red)) green_same
    ∙ ap (λ (b : Bool). cond (is_green old k second) colours.Green (cond b colours.Yellow colours.Red)) yellow_same

-- the rows that are kept

kept-by : (old : List Green) (second n : ℕ) → BeginBy n old → BeginBy n (rows_before old second)
kept-by [] second n h = h
kept-by (r ∷ rs) second n h =
    cond_both (ltb r.from second) (r ∷ rows_before rs second) [] (BeginBy n)
    (λ e. All-cons (λ (g : Green). g.from ≤ n) r (rows_before rs second) (All-head (λ (g : Green). g.from ≤ n) r rs h) (kept-by rs second n (All-tail (λ (g : Green). g.from ≤ n) r rs h)))
    (λ e. All-nil (λ (g : Green). g.from ≤ n))

-- where a line has this head, one that goes on in the head joins it
pub joins-head : (plan : List Phase) (rows : List Green) (now : ℕ) (head : Head) (next : List Green) → head_at plan rows now ≡ Some head → GoesOn head next → Joins rows next
joins-head plan rows now head [] e begin = tt
joins-head plan rows now head (first ∷ rest) e begin =
    let of = row-of-head plan rows now head e in
    let has = row_after-has rows now of.row of.found in
    record {
      index = has.index;
      below = has.below;
      same_phase = has.same_phase ∙ sym (begin.phase ∙ of.phase);
      same_begin = has.same_begin ∙ sym (begin.begin ∙ of.since);
    }

-- what a continued timeline keeps
pub continued-by : (plan : List Phase) (old : List Green) (now : ℕ) (head : Head) (next : List Green) → All IsPhase plan → IsLawful plan old → head_at plan old now ≡ Some head → IsLawful plan next → GoesOn head next
    → IsContinued plan old now next (spliced old next)
continued-by plan old now head [] p lawful e next begin = absurd (omega (arith, begin.some))
continued-by plan old now head (first ∷ rest) p lawful e next begin =
    let of = row-of-head plan old now head e in
    let same : Replaces first of.row = record { phase = begin.phase ∙ of.phase; from = begin.begin ∙ of.since } in
    record {
      lawful = splice-lawful plan old now of.row first rest p lawful of.found same next;
      past = splice-signs plan old now of.row first rest p lawful of.found same (omega (arith, of.later, begin.spent)) None;
      colours = splice-colours plan old now of.row first rest p lawful of.found same (omega (arith, of.later, begin.spent)) next;
      end = end_of-append (rows_before old first.from) first rest;
      begins_by = λ n a b. All-append (λ (g : Green). g.from ≤ n) (rows_before old first.from) (first ∷ rest) (kept-by old first.from n a) b;
    }

pub continued : (plan : List Phase) (old : List Green) (now : ℕ) (head : Head) (next : List Green) → IsRing plan → IsLawful plan old → head_at plan old now ≡ Some head → IsLawful plan next → GoesOn head next
    → IsContinued plan old now next (spliced old next)
continued plan old now head next p = continued-by plan old now head next p.phases

-- the same where the splice was done
pub answered-continued : {E : Type 0} (r : Result (Unit {0}) E) (plan : List Phase) (old next new : List Green) (now : ℕ) (head : Head) → IsRing plan → IsLawful plan old → head_at plan old now ≡ Some head → IsLawful plan next → GoesOn head next
    → OnOk r (new ≡ spliced old next) → OnOk r (IsContinued plan old now next new)
answered-continued (Ok x) plan old next new now head p lawful e others begin done = subst (IsContinued plan old now next) (sym done) (continued plan old now head next p lawful e others begin)
answered-continued (Err e) plan old next new now head p lawful found others begin done = tt
