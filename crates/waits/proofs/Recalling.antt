-- A queue of a phase that is recalled loses something within the longest wait of the phase, beside the time until it is recalled.
use Rattle.std.proofs.Common.{◌≡◌, ℕ, zero, suc, ◌+◌, ◌-◌, ◌*◌, ◌/◌, ◌<◌, ◌≤◌, max, Bool, true, false, cond, ltb, not, ◌&&◌, ◌==◌, List, [], ◌∷◌, ◌++◌, length, get_or, IfSome, Option, None, Some, refl, sym, ap, subst, ◌∙◌, inl, inr, arith, div-add-mod', eq-eqb}
use Rattle.std.specs.List.{fold, range_with_len}
use Rattle.std.specs.Prelude.{sum_by}
use Rattle.std.proofs.lemmas.Bool.{cases_lt, cond_above, cond_below}
use Rattle.std.proofs.lemmas.List.{ext_get_or, get_or_past}
use Rattle.std.proofs.lemmas.List.Elements.{All-get_or, All-head}
use Rattle.std.proofs.lemmas.List.FromFn.{get_or-range_with_len, length-range_with_len}
use Rattle.std.proofs.lemmas.Nat.{mod_below}
use Rattle.std.proofs.lemmas.Option.{none-some, same_Some}
use Rattle.std.proofs.Math.Nat.{mul-le-mul_right}
use Rattle.phase_plan.specs.Phases.{IsOwnRing, IsRing, between, is_unmarked_at, no_phase, phase_at}
use Rattle.phase_plan.specs.declared.Phase.{Phase}
use Rattle.control_flow.specs.Greens.{IsGreen, IsLawful, end_of, row_after, row_at}
use Rattle.control_flow.specs.Recalls.{without_marks}
use Rattle.control_flow.specs.Signs.{sign_at}
use Rattle.control_flow.specs.declared.greens.Green.{Green}
use Rattle.control_flow.specs.declared.greens.Sign.{Sign}
use Rattle.control_flow.proofs.RecallLaws.{lawful-without, length-without, without-at}
use Rattle.control_flow.proofs.RowLaws.{lawful-tail}
use Rattle.control_flow.proofs.SpliceLaws.{row-of-head}
use Rattle.net_parts.specs.Numbers.{Net, no_link}
use Rattle.net_parts.specs.Outline.{IsLink, link_at, plan_at}
use Rattle.net_simulator.specs.Flow.{Cumulative, cumulative_under, queue}
use Rattle.net_simulator.specs.Senses.{stood}
use Rattle.net_simulator.specs.Worlds.{signs_by}
use Rattle.net_simulator.proofs.AtNodes.{past-at-nodes}
use Rattle.road_net.specs.Network.{IsNetwork}
use Rattle.waits.specs.Discharges.{Discharges, greatest_intergreen, recalled_wait}
use Rattle.waits.specs.Rounds.{AreRounds, IsRound}
use Rattle.waits.specs.Waits.{AreIntergreensWithin, IsGreenBy, longest_red, longest_span, longest_way}
use Rattle.waits.proofs.Intergreens.{intergreens-tail}
use Rattle.waits.proofs.Recalled.{recalls}
use Rattle.waits.proofs.Rounds.{kept}
use Rattle.waits.proofs.Waiting.{driven-by, entered-later, in-past, left-later, passed, queue-is, queue-kept, waits}

-- ---- fewer marks

-- a mark that is taken away twice is taken away
twice : (mark some more : Bool) → (some ≡ true → more ≡ true) → ((mark && not some) && not more) ≡ (mark && not more)
twice true true more within = ap not (sym (within refl))
twice true false more within = refl
twice false some more within = refl

module _ (plan : List Phase) (some more : ℕ → Bool) (within : (k : ℕ) → some k ≡ true → more k ≡ true) where
  without-twice : without_marks (without_marks plan some) more ≡ without_marks plan more
  without-twice = ext_get_or no_phase (without_marks (without_marks plan some) more) (without_marks plan more) (length-without (without_marks plan some) more ∙ length-without plan some ∙ sym (length-without plan more))
      (λ k inside.
      let below : k < length plan = omega (arith, inside, length-without (without_marks plan some) more, length-without plan some) in
      without-at (without_marks plan some) more k (omega (arith, below, length-without plan some))
      ∙ ap (λ (p : Phase). let q : Phase = record p { skip = p.skip && not (more k) } in q) (without-at plan some k below)
      ∙ ap (λ (b : Bool). let q : Phase = record (phase_at plan k) { skip = b } in q) (twice (phase_at plan k).skip (some k) (more k) (within k))
      ∙ sym (without-at plan more k below))

  -- what is lawful where more phases have lost their marks is lawful where fewer have
  pub lawful-fewer : (rows : List Green) → IsLawful (without_marks plan more) rows → IsLawful (without_marks plan some) rows
  lawful-fewer rows lawful = lawful-without (without_marks plan some) more rows (subst (λ (p : List Phase). IsLawful p rows) (sym without-twice) lawful)

-- the plan in which this phase alone has lost its mark
abbrev pub freed : List Phase → ℕ → List Phase
freed plan k = without_marks plan (λ j. j == k)

-- it is unmarked there
freed-unmarked : (plan : List Phase) (k : ℕ) → k < length plan → is_unmarked_at (freed plan k) k ≡ true
freed-unmarked plan k below =
    ap (λ (p : Phase). not p.skip) (without-at plan (λ j. j == k) k below) ∙ ap (λ (b : Bool). not ((phase_at plan k).skip && not b)) (eq-eqb k k refl) ∙ by (phase_at plan k).skip
  where
    by : (mark : Bool) → not (mark && false) ≡ true
    by true = refl
    by false = refl

-- a phase that loses its mark keeps its times
module _ (plan : List Phase) (these : ℕ → Bool) where
  pub same-field : (field : Phase → ℕ) → ((p : Phase) (b : Bool) → (let q : Phase = record p { skip = b } in field q) ≡ field p) → (k : ℕ) → field (phase_at (without_marks plan these) k) ≡ field (phase_at plan k)
  same-field field same k = elim (cases_lt k (length plan)) [
    | inl below ↦ ap field (without-at plan these k below) ∙ same (phase_at plan k) ((phase_at plan k).skip && not (these k))
    | inr past ↦ ap field (get_or_past (without_marks plan these) k no_phase (omega (arith, past, length-without plan these)) ∙ sym (get_or_past plan k no_phase past))
  ]

  pub same-between : (s j : ℕ) → between (without_marks plan these) s j ≡ between plan s j
  same-between s j = ap (λ (n : ℕ). cond (ltb s j) (range_with_len (s + 1) (j - (s + 1))) (range_with_len (s + 1) (n - (s + 1)) ++ range_with_len 0 j)) (length-without plan these)

  -- so no way is longer
  same-way : (intergreen : ℕ → ℕ) (s j : ℕ) → longest_way (without_marks plan these) intergreen s j ≡ longest_way plan intergreen s j
  same-way intergreen s j =
      ap (λ (ks : List ℕ). intergreen s + sum_by (longest_span (without_marks plan these) intergreen) ks) (same-between s j)
      ∙ ap (λ (f : ℕ → ℕ). intergreen s + sum_by f (between plan s j)) (λ i x. same-field (λ (p : Phase). p.greatest) (λ p b. refl) x i + intergreen x)

-- ---- when the green of a head begins

module _ (f : ℕ → ℕ) where
  most-grows : (a : ℕ) (ks : List ℕ) → a ≤ fold (λ most k. max most (f k)) a ks
  most-grows a [] = omega arith
  most-grows a (k ∷ ks) = (let more = most-grows (max a (f k)) ks in omega (arith, more))

  most-of : (a i : ℕ) (ks : List ℕ) → i < length ks → f (get_or ks i 0) ≤ fold (λ most k. max most (f k)) a ks
  most-of a i [] inside = absurd (omega (arith, inside))
  most-of a zero (k ∷ ks) inside = (let more = most-grows (max a (f k)) ks in omega (arith, more))
  most-of a (suc i) (k ∷ ks) inside = most-of (max a (f k)) i ks (omega (arith, inside))

module _ (plan : List Phase) (intergreen : ℕ → ℕ) where
  pub intergreen-most : (k : ℕ) → k < length plan → intergreen k ≤ greatest_intergreen plan intergreen
  intergreen-most k below =
      let at : get_or (range_with_len 0 (length plan)) k 0 ≡ k = get_or-range_with_len 0 (length plan) k 0 below ∙ (let e : 0 + k ≡ k = omega arith in e) in
      let most = most-of intergreen 0 k (range_with_len 0 (length plan)) (omega (arith, below, length-range_with_len 0 (length plan))) in
      omega (arith, most, ap intergreen at)

  -- the first row that ends after a second begins by the greatest intergreen after it
  begins-soon : (rows : List Green) (now : ℕ) (row : Green) → IsLawful plan rows → AreIntergreensWithin intergreen rows → (row_at rows 0).from ≤ now + greatest_intergreen plan intergreen
      → row_after rows now ≡ Some row → row.from ≤ now + greatest_intergreen plan intergreen
  begins-soon [] now row lawful within first found = absurd (none-some row found)
  begins-soon (r ∷ []) now row lawful within first found = elim (cases_lt now r.to) [
    | inl still ↦ (let same : r ≡ row = same_Some r row (cond_below now r.to (Some r) None still ∙ found) in omega (arith, first, ap (λ (g : Green). g.from) same))
    | inr over ↦ absurd (none-some row (cond_above now r.to (Some r) None None over refl ∙ found))
  ]
  begins-soon (r ∷ s ∷ ss) now row lawful within first found = elim (cases_lt now r.to) [
    | inl still ↦ (let same : r ≡ row = same_Some r row (cond_below now r.to (Some r) (row_after (s ∷ ss) now) still ∙ found) in omega (arith, first, ap (λ (g : Green). g.from) same))
    | inr over ↦
        let next = within.next 0 (omega arith) in
        let most = intergreen-most r.phase (All-head (IsGreen plan) r (s ∷ ss) lawful.greens).phase in
        begins-soon (s ∷ ss) now row (lawful-tail plan r (s ∷ ss) lawful) (intergreens-tail intergreen r (s ∷ ss) within) (omega (arith, next, most, over))
        (cond_above now r.to (Some r) (row_after (s ∷ ss) now) (row_after (s ∷ ss) now) over refl ∙ found)
  ]

-- ---- for how long a queue has stood

stands-for : (net : Net) (past : ℕ → ℕ → Cumulative) (l n d : ℕ) → ((m : ℕ) → n < m → m ≤ n + d → 0 < queue net past m l) → d ≤ stood net past (n + d) l
unfolding stood
stands-for net past l n zero stands = omega arith
stands-for net past l n (suc d) stands =
    let e : n + suc d ≡ suc (n + d) = omega arith in
    let before = stands-for net past l n d (λ m after within. stands m after (omega (arith, within))) in
    let one : stood net past (n + suc d) l ≡ stood net past (n + d) l + 1 = ap (λ (m : ℕ). stood net past m l) e ∙ sym (cond_below 0 (queue net past (suc (n + d)) l) (stood net past (n + d) l + 1) 0 (stands (suc (n + d)) (omega arith) (omega arith))) in
    omega (arith, before, one)

-- ---- rounds that recall a phase

-- a round that continues a line within intergreens, and where this is so by rows that are lawful with this phase recalled
pub record RecallsIf (asked : Type 0) (plan : List Phase) (intergreen : ℕ → ℕ) (k now : ℕ) (old new : List Green) : Type 0 where
  pub one : IsRound plan intergreen now old new
  pub freely : asked → IsLawful (freed plan k) one.next

-- the queue of a link stands as a round begins, and has stood for so many seconds
pub record HasStood (net : Net) (past : ℕ → ℕ → Cumulative) (now recall l : ℕ) : Type 0 where
  pub stands : 0 < queue net past now l
  pub long : recall ≤ stood net past now l

-- the rounds of a network, of so many seconds each, in which a node recalls the phase of a link where its queue has stood for so long;
-- `line r node` is the line of a node before round r, and `shown x node` its sign in second x
pub record RecallRounds (net : Net) (arriving : ℕ → ℕ → ℕ) (shown : ℕ → ℕ → Sign) (line : ℕ → ℕ → List Green) (intergreen : ℕ → ℕ) (rounds step recall l node : ℕ) : Type 0 where
  pub some : 1 ≤ step
  pub shows : (r x n : ℕ) → r ≤ rounds → x < r * step → n < length net.node_names → sign_at (line r n) x ≡ shown x n
  pub lawful : IsLawful (plan_at net node) (line 0 node)
  pub intergreens : AreIntergreensWithin intergreen (line 0 node)
  pub begins : (r : ℕ) → r ≤ rounds → (row_at (line r node) 0).from ≡ 0
  pub later : (r : ℕ) → r < rounds → suc r * step < end_of (line (suc r) node)
  pub each : (r : ℕ) → r < rounds → RecallsIf (HasStood net (cumulative_under net arriving shown (r * step)) (r * step) recall l) (plan_at net node) intergreen (link_at net l).phase (r * step) (line r node) (line (suc r) node)

-- rounding up
module _ (step : ℕ) (some : 1 ≤ step) (n : ℕ) where
  abbrev up : ℕ
  up = (n + (step - 1)) / step

  up-bounds : (n ≤ up * step) × (up * step < n + step)
  up-bounds = (let parts = div-add-mod' (n + (step - 1)) step in let less = mod_below (n + (step - 1)) step (omega (arith, some)) in (omega (arith, parts, less, some), omega (arith, parts, some)))

-- more rounds of a step take longer
fewer : (step a b : ℕ) → a * step < b * step → a < b
fewer step a b less = elim (cases_lt a b) [
  | inl below ↦ below
  | inr past ↦ absurd (let most = mul-le-mul_right {m = b} {n = a} step past in omega (arith, less, most))
]

module _ (net : Net) (network : IsNetwork net) (arriving : ℕ → ℕ → ℕ) (shown : ℕ → ℕ → Sign) (line : ℕ → ℕ → List Green) (intergreen : ℕ → ℕ) (rounds step recall l node : ℕ)
    (inside : l < length net.link_names) (ends : (link_at net l).to ≡ Some node) (plain : (link_at net l).walk ≡ None) (are : RecallRounds net arriving shown line intergreen rounds step recall l node) where
  abbrev plan : List Phase
  plan = plan_at net node

  abbrev k : ℕ
  k = (link_at net l).phase

  link-is : IsLink (length net.node_names) (link_at net l)
  link-is = All-get_or (IsLink (length net.node_names)) net.links l no_link (let f = network.outline.road_count in omega (arith, f, inside)) network.outline.links

  there : node < length net.node_names
  there = subst (λ (o : Option ℕ). IfSome o (λ n. n < length net.node_names)) ends link-is.to

  plan-is : IsRing plan
  plan-is = (All-get_or IsOwnRing net.plans node [] (let e = network.outline.plan_count in omega (arith, e, there)) network.outline.plans).ring

  below : k < length plan
  below = (network.served.entries l node inside ends).0

  abbrev past : ℕ → Cumulative
  past = passed net arriving shown l inside

  -- the rounds up to one
  among : (n : ℕ) → n ≤ rounds → (r : ℕ) → r < n → r < rounds
  among n few r less = omega (arith, less, few)

  abbrev rounds-to : (n : ℕ) → n ≤ rounds → AreRounds plan intergreen n (λ r. r * step) (λ r. line r node)
  rounds-to n few = record { lawful = are.lawful; intergreens = are.intergreens; each = λ r less. (are.each r (among n few r less)).one }

  kept-line : (r : ℕ) → r ≤ rounds → IsLawful plan (line r node) × AreIntergreensWithin intergreen (line r node)
  kept-line = kept plan plan-is intergreen rounds (λ r. r * step) (λ r. line r node) (rounds-to rounds (omega arith))

  -- what a round splices in begins soon after the round
  next-soon : (r : ℕ) (less : r < rounds) → (row_at (are.each r less).one.next 0).from ≤ r * step + greatest_intergreen plan intergreen
  next-soon r less =
      let one : IsRound plan intergreen (r * step) (line r node) (line (suc r) node) = (are.each r less).one in
      let row = row-of-head plan (line r node) (r * step) one.head one.at in
      let before = kept-line r (omega (arith, less)) in
      let soon = begins-soon plan intergreen (line r node) (r * step) row.row before.0 before.1 (omega (arith, are.begins r (omega (arith, less)))) row.found in
      omega (arith, soon, one.goes.begin, row.since)

  -- a queue from which nothing goes stands on
  module _ (n wait : ℕ) (stands : 0 < queue net (cumulative_under net arriving shown n) n l) (none : (past (n + wait)).left ≤ (past n).left) where
    stands-on : (m now : ℕ) → n ≤ m → m ≤ n + wait → m ≤ now → 0 < queue net (cumulative_under net arriving shown now) m l
    stands-on m now after within early =
        let travels = link-is.travel.0 in
        let flows = driven-by net network l inside plain in
        let was = queue-is net arriving shown l inside travels flows node ends n in
        let is = queue-is net arriving shown l inside travels flows node ends m in
        let more = entered-later net arriving shown l inside (n - (link_at net l).travel) (m - (link_at net l).travel) (omega (arith, after)) in
        let less = left-later net arriving shown l inside m (n + wait) within in
        omega (arith, stands, none, was, is, more, less, queue-kept net arriving shown l inside now m early)

    has-stood : (r : ℕ) → n + recall ≤ r * step → r * step ≤ n + wait → HasStood net (cumulative_under net arriving shown (r * step)) (r * step) recall l
    has-stood r after within =
        let d = r * step - n in
        let e : n + d ≡ r * step = omega (arith, after) in
        let long = stands-for net (cumulative_under net arriving shown (r * step)) l n d (λ m later most. stands-on m (r * step) (omega (arith, later)) (omega (arith, most, e, within)) (omega (arith, most, e))) in
        record {
          stands = stands-on (r * step) (r * step) (omega (arith, after)) within (omega arith);
          long = omega (arith, long, after, ap (λ (m : ℕ). stood net (cumulative_under net arriving shown (r * step)) m l) e);
        }

  module _ (long : (phase_at plan k).loss < (phase_at plan k).least) (n : ℕ) (room : n + recalled_wait plan intergreen (recall + step) k ≤ rounds * step)
      (stands : 0 < queue net (cumulative_under net arriving shown n) n l) (none : (past (n + recalled_wait plan intergreen (recall + step) k)).left ≤ (past n).left) where
    abbrev wait : ℕ
    wait = recalled_wait plan intergreen (recall + step) k

    abbrev red : ℕ
    red = longest_red plan intergreen k

    abbrev first : ℕ
    first = up step are.some (n + recall)

    abbrev last : ℕ
    last = up step are.some (n + wait)

    at-first : (n + recall ≤ first * step) × (first * step < n + recall + step)
    at-first = up-bounds step are.some (n + recall)

    at-last : (n + wait ≤ last * step) × (last * step < n + wait + step)
    at-last = up-bounds step are.some (n + wait)

    few : last ≤ rounds
    few = (let less = fewer step last (suc rounds) (omega (arith, at-last.1, room)) in omega (arith, less))

    less : first < last
    less = fewer step first last (omega (arith, at-first.1, at-last.0))

    -- from the first of them on each round recalls the phase
    freely : (r : ℕ) (early : r < last) → first ≤ r → IsLawful (freed plan k) ((rounds-to last few).each r early).next
    freely r early after =
        let late = mul-le-mul_right {m = first} {n = r} step after in
        let soon = mul-le-mul_right {m = suc r} {n = last} step early in
        (are.each r (among last few r early)).freely (has-stood n wait stands none r (omega (arith, late, at-first.0)) (omega (arith, soon, at-last.1)))

    abbrev second : ℕ
    second = first * step + greatest_intergreen plan intergreen

    last-ends : n + wait < end_of (line last node)
    last-ends = by last refl
      where
        by : (r : ℕ) → r ≡ last → n + wait < end_of (line last node)
        by zero same = absurd (omega (arith, same, less))
        by (suc r) same = (let later = are.later r (omega (arith, same, few)) in let most = at-last.0 in subst (λ (s : ℕ). s * step < end_of (line s node) → n + wait < end_of (line last node)) (sym same) (λ h. omega (arith, h, most)) later)

    green : IsGreenBy (line last node) k second (second + red)
    green =
        let way = same-way plan (λ j. j == k) intergreen k k in
        subst (λ (most : ℕ). IsGreenBy (line last node) k second (second + most)) way
        (recalls plan (λ j. j == k) plan-is intergreen last (λ r. r * step) (λ r. line r node) (rounds-to last few) (λ r s h. mul-le-mul_right {m = r} {n = s} step h) first less freely
        k (omega (arith, below, length-without plan (λ j. j == k))) (freed-unmarked plan k below) second (next-soon first (among last few first less)) (omega (arith, way, at-first.1, last-ends)))

    same-past : cumulative_under net arriving (signs_by (line last)) (n + wait) ≡ cumulative_under net arriving shown (n + wait)
    same-past = past-at-nodes net network arriving (signs_by (line last)) shown (n + wait) (λ x m early at. are.shows last x m few (omega (arith, early, at-last.0)) at)

    -- so something goes
    goes : (past n).left < (past (n + wait)).left
    goes =
        let gone = subst (λ (p : ℕ → ℕ → Cumulative). 0 < queue net p second l → (p second l).left < (p (second + (red + (phase_at plan k).loss + 1)) l).left) same-past
        (waits net network arriving (line last) l node inside ends plain plan-is (kept-line last few).0 long second red (n + wait) green (omega (arith, at-first.1)))
        (stands-on n wait stands none second (n + wait) (omega (arith, at-first.0)) (omega (arith, at-first.1)) (omega (arith, at-first.1))) in
        let from = ap (λ (q : Cumulative). q.left) (in-past net arriving shown l inside (n + wait) second (omega (arith, at-first.1))) in
        let to = ap (λ (q : Cumulative). q.left) (in-past net arriving shown l inside (n + wait) (second + (red + (phase_at plan k).loss + 1)) (omega (arith, at-first.1))) in
        let early = left-later net arriving shown l inside n second (omega (arith, at-first.0)) in
        let late = left-later net arriving shown l inside (second + (red + (phase_at plan k).loss + 1)) (n + wait) (omega (arith, at-first.1)) in
        omega (arith, gone, from, to, early, late)

  -- a queue that stands loses something within the wait
  pub recalled-waits : (phase_at plan k).loss < (phase_at plan k).least → (n now : ℕ) → n + recalled_wait plan intergreen (recall + step) k ≤ now → now ≤ rounds * step
      → 0 < queue net (cumulative_under net arriving shown now) n l → Discharges (cumulative_under net arriving shown now) l n (n + recalled_wait plan intergreen (recall + step) k)
  recalled-waits long n now room end stands =
      let wait = recalled_wait plan intergreen (recall + step) k in
      let from = ap (λ (q : Cumulative). q.left) (in-past net arriving shown l inside now n (omega (arith, room))) in
      let to = ap (λ (q : Cumulative). q.left) (in-past net arriving shown l inside now (n + wait) room) in
      elim (cases_lt (past n).left (past (n + wait)).left) [
        | inl gone ↦ omega (arith, gone, from, to)
        | inr none ↦
            let gone = goes long n (omega (arith, room, end)) (omega (arith, stands, queue-kept net arriving shown l inside now n (omega (arith, room)))) none in
            omega (arith, gone, from, to)
      ]
