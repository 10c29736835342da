-- The timelines of servings and of no plan are lawful, begin with the green of the head, and end late enough.
use Rattle.std.proofs.Common.{◌≡◌, ◌≢◌, ℕ, ◌+◌, ◌-◌, ◌<◌, ◌≤◌, Bool, true, false, cond, List, [], ◌∷◌, ◌++◌, length, All, get_or, drop, refl, sym, ap, subst, ◌∙◌, inl, inr, arith, append_assoc, length-append, filter}
use Rattle.std.specs.List.{range_with_len}
use Rattle.std.proofs.lemmas.List.{drop_more, drop_all, get_or-append-add}
use Rattle.std.proofs.lemmas.Bool.{cases_lt, cond_both}
use Rattle.std.proofs.lemmas.List.Elements.{All-nil, All-cons, All-head, All-tail, All-append}
use Rattle.phase_plan.specs.Phases.{IsMarkedAt, IsRing, between, is_unmarked_at, passed_numbers, phase_at, passing, switch_time}
use Rattle.phase_plan.specs.declared.Phase.{Phase}
use Rattle.switch_rules.specs.Serving.{IsHead, earliest_end, earliest_green, head_after}
use Rattle.switch_rules.specs.declared.Head.{Head}
use Rattle.switch_rules.specs.declared.Served.{Served}
use Rattle.control_flow.specs.declared.greens.Green.{Green}
use Rattle.control_flow.specs.Greens.{no_green, row_at, IsGreen, IsLawful, BeginBy}
use Rattle.control_flow.specs.Timelines.{IsServingOf, AreServings, IsGreenOf, HasGreens, shortest_greens, begin_after, last_end, left_for, turned, line_of, rotation_of}
use Rattle.control_flow.proofs.RowLaws.{lawful-cons, end_of-last}
use Rattle.phase_plan.proofs.RingLaws.{IsWalk, passes-marked, phase-bounds, stops-first, walk-passed}
use Rattle.control_flow.proofs.RingLaws.{AreOthers, begin_after-later, begin_after-passed, passed-others}
use Rattle.control_flow.proofs.TurningLaws.{IsLineFrom, turned-by, turned-line}
use Rattle.control_flow.proofs.ServingLaws.{IsAnyServing, IsServingOf-keeps, IsServingOf-head}

-- the timeline of no plan

pub rotation_of-line : (plan : List Phase) (head : Head) (until : ℕ) → IsRing plan → IsHead plan head → head.at ≤ 104000 → IsLineFrom plan head until (rotation_of plan head until)
rotation_of-line plan head until p h reach =
    let times = phase-bounds plan head.phase p h.phase in
    turned-line plan (is_unmarked_at plan) p (passes-marked plan) head (earliest_end plan head) until h reach (omega arith) (omega (arith, h.within, times.greatest)) (omega arith)

-- where its rows begin
pub rotation_of-by : (plan : List Phase) (head : Head) (until n : ℕ) → IsRing plan → IsHead plan head → head.since ≤ n → until + 20 ≤ n → BeginBy n (rotation_of plan head until)
rotation_of-by plan head until n p h since last = turned-by plan (is_unmarked_at plan) p (passes-marked plan) head (earliest_end plan head) until n h.phase since last

-- the greens that the ring passes, up to a second at which the wanted green can begin

shortest-by : (plan : List Phase) (from : ℕ) (ks : List ℕ) (b : ℕ) → begin_after plan from ks ≤ b → BeginBy b (shortest_greens plan from ks)
shortest-by plan from [] b h = All-nil (λ (row : Green). row.from ≤ b)
shortest-by plan from (k ∷ ks) b h =
    let next = from + passing (phase_at plan k) in
    All-cons (λ (row : Green). row.from ≤ b) (record { phase = k; from = from; to = from + (phase_at plan k).least }) (shortest_greens plan next ks) (omega (arith, begin_after-later plan next ks)) (shortest-by plan next ks b h)

-- a lawful rest that begins with phase j, at second b or later
pub record IsRest (plan : List Phase) (j b : ℕ) (rest : List Green) : Type 0 where
  pub lawful : IsLawful plan rest
  pub some : 0 < length rest
  pub phase : (row_at rest 0).phase ≡ j
  pub begins : b ≤ (row_at rest 0).from

shortest-lawful : (plan : List Phase) (ks : List ℕ) (row : Green) (j b : ℕ) (rest : List Green) → IsRing plan → IsGreen plan row → IsWalk (IsMarkedAt plan) plan row.phase ks j → AreOthers row.phase ks j
    → begin_after plan (row.to + (phase_at plan row.phase).yellow + (phase_at plan row.phase).clear) ks ≤ b → IsRest plan j b rest
    → IsLawful plan (row ∷ shortest_greens plan (row.to + (phase_at plan row.phase).yellow + (phase_at plan row.phase).clear) ks ++ rest)
shortest-lawful plan [] row j b rest p green walk apart time others =
    lawful-cons plan row rest green (λ h. record { passed = subst (λ k. All (IsMarkedAt plan) (between plan row.phase k)) (sym others.phase) walk; other = subst (λ k. k ≢ row.phase) (sym others.phase) apart; begins = omega (arith, others.begins) }) others.lawful
shortest-lawful plan (k ∷ ks) row j b rest p green walk apart time others =
    let from = row.to + (phase_at plan row.phase).yellow + (phase_at plan row.phase).clear in
    let first : Green = record { phase = k; from = from; to = from + (phase_at plan k).least } in
    let times = phase-bounds plan k p walk.0 in
    let next : IsGreen plan first = record { phase = walk.0; least = omega arith; greatest = omega (arith, times.greatest) } in
    let same : from + passing (phase_at plan k) ≡ first.to + (phase_at plan k).yellow + (phase_at plan k).clear = omega arith in
    let short : begin_after plan (first.to + (phase_at plan k).yellow + (phase_at plan k).clear) ks ≤ b = omega (arith, ap (λ t. begin_after plan t ks) same) in
    let later = shortest-lawful plan ks first j b rest p next walk.2 apart.1 short others in
    lawful-cons plan row (first ∷ shortest_greens plan (from + passing (phase_at plan k)) ks ++ rest) green (λ h. record { passed = walk.1; other = apart.0; begins = omega arith })
    (rw same later)

-- a green that goes on

kept-line : (plan : List Phase) (head : Head) (k : ℕ) (s : Served) (until : ℕ) (rows : List Green) → (k ≡ head.phase) × (s.green ≡ head.since) × (head.at ≤ s.finish)
    → IsLineFrom plan (head_after k s) until rows → IsLineFrom plan head until rows
kept-line plan head k s until rows stood line = record {
  lawful = line.lawful;
  begin = record { some = line.begin.some; phase = line.begin.phase ∙ stood.0; begin = line.begin.begin ∙ stood.1; spent = omega (arith, stood.2, line.begin.spent) };
  end = line.end;
}

-- a green that is left

-- the wanted green can begin after those that the ring passes
left-short : (plan : List Phase) (head : Head) (k b : ℕ) → IsHead plan head → k < length plan → earliest_green plan head k ≤ b
    → begin_after plan (last_end plan head k b + (phase_at plan head.phase).yellow + (phase_at plan head.phase).clear) (passed_numbers plan head.phase k) ≤ b
left-short plan head k b h below earliest =
    let to = last_end plan head k b in
    let in_time : to + switch_time plan head.phase k ≤ b = omega (arith, earliest) in
    omega (arith, begin_after-passed plan to head.phase k, in_time)

left-line : (plan : List Phase) (head : Head) (k : ℕ) (s : Served) (until : ℕ) (rest : List Green) → IsRing plan → IsHead plan head → head.at ≤ 104000 → k < length plan → IsAnyServing plan head k s
    → earliest_green plan head k ≤ s.green → IsLineFrom plan (head_after k s) until rest
    → IsLineFrom plan head until (left_for plan head (last_end plan head k s.green) (passed_numbers plan head.phase k) ++ rest)
left-line plan head k s until rest p h reach below keeps earliest line =
    let times = phase-bounds plan head.phase p h.phase in
    let to = last_end plan head k s.green in
    let row : Green = record { phase = head.phase; from = head.since; to = to } in
    let ks = passed_numbers plan head.phase k in
    let from = to + (phase_at plan head.phase).yellow + (phase_at plan head.phase).clear in
    let green : IsGreen plan row = record { phase = h.phase; least = omega arith; greatest = omega (arith, h.within, times.greatest) } in
    let short = left-short plan head k s.green h below earliest in
    let others : IsRest plan k s.green rest = record { lawful = line.lawful; some = line.begin.some; phase = line.begin.phase; begins = omega (arith, line.begin.begin) } in
    record {
      lawful = shortest-lawful plan ks row k s.green rest p green (walk-passed plan head.phase k h.phase below) (passed-others plan head.phase k p h.phase below) short others;
      begin = record { some = omega arith; phase = refl; begin = refl; spent = omega arith };
      end = omega (arith, line.end, end_of-last (row ∷ shortest_greens plan from ks) rest line.begin.some);
    }

pub line_of-line : (plan : List Phase) (ks : List ℕ) (ss : List Served) (head : Head) (until : ℕ) → IsRing plan → IsHead plan head → head.at ≤ 104000 → AreServings plan head ks ss
    → IsLineFrom plan head until (line_of plan head ks ss until)
line_of-line plan [] [] head until p h reach servings =
    let times = phase-bounds plan head.phase p h.phase in
    turned-line plan (is_unmarked_at plan) p (passes-marked plan) head (head.since + (phase_at plan head.phase).greatest) until h reach (omega (arith, times.greatest)) (omega arith) h.within
line_of-line plan [] (s ∷ ss) head until p h reach servings = absurd servings
line_of-line plan (k ∷ ks) [] head until p h reach servings = absurd servings
line_of-line plan (k ∷ ks) (s ∷ ss) head until p h reach servings =
    let one = servings.0 in
    let keeps = IsServingOf-keeps plan head k s p h one in
    let next = head_after k s in
    let rest = line_of plan next ks ss until in
    let line = line_of-line plan ks ss next until p (IsServingOf-head plan head k s p h one) (omega (arith, keeps.reach)) servings.1 in
    cond_both s.kept rest (left_for plan head (last_end plan head k s.green) (passed_numbers plan head.phase k) ++ rest) (IsLineFrom plan head until)
    (λ e. kept-line plan head k s until rest (keeps.stood e) line)
    (λ e. left-line plan head k s until rest p h reach one.phase keeps (keeps.anew e) line)

-- where their rows begin

left-by : (plan : List Phase) (head : Head) (k b n : ℕ) (rest : List Green) → IsHead plan head → k < length plan → earliest_green plan head k ≤ b → head.since ≤ n → b ≤ n → BeginBy n rest
    → BeginBy n (left_for plan head (last_end plan head k b) (passed_numbers plan head.phase k) ++ rest)
left-by plan head k b n rest h below earliest since early others =
    let to = last_end plan head k b in
    let row : Green = record { phase = head.phase; from = head.since; to = to } in
    let ks = passed_numbers plan head.phase k in
    let from = to + (phase_at plan head.phase).yellow + (phase_at plan head.phase).clear in
    let short : begin_after plan from ks ≤ n = omega (arith, left-short plan head k b h below earliest) in
    All-cons (λ (r : Green). r.from ≤ n) row (shortest_greens plan from ks ++ rest) since
    (All-append (λ (r : Green). r.from ≤ n) (shortest_greens plan from ks) rest (shortest-by plan from ks n short) others)

pub line_of-by : (plan : List Phase) (ks : List ℕ) (ss : List Served) (head : Head) (until n : ℕ) → IsRing plan → IsHead plan head → AreServings plan head ks ss
    → head.since ≤ n → until + 20 ≤ n → All (λ (s : Served). s.green ≤ n) ss → BeginBy n (line_of plan head ks ss until)
line_of-by plan [] ss head until n p h servings since last greens = turned-by plan (is_unmarked_at plan) p (passes-marked plan) head (head.since + (phase_at plan head.phase).greatest) until n h.phase since last
line_of-by plan (k ∷ ks) [] head until n p h servings since last greens = absurd servings
line_of-by plan (k ∷ ks) (s ∷ ss) head until n p h servings since last greens =
    let one = servings.0 in
    let keeps = IsServingOf-keeps plan head k s p h one in
    let next = head_after k s in
    let rest = line_of plan next ks ss until in
    let early = All-head (λ (t : Served). t.green ≤ n) s ss greens in
    let others = line_of-by plan ks ss next until n p (IsServingOf-head plan head k s p h one) servings.1 early last (All-tail (λ (t : Served). t.green ≤ n) s ss greens) in
    cond_both s.kept rest (left_for plan head (last_end plan head k s.green) (passed_numbers plan head.phase k) ++ rest) (BeginBy n)
    (λ e. others)
    (λ e. left-by plan head k s.green n rest h one.phase (keeps.anew e) since early others)

-- each serving has its green

IsGreenOf-behind : (front rows : List Green) (k : ℕ) (s : Served) → IsGreenOf rows k s → IsGreenOf (front ++ rows) k s
IsGreenOf-behind front rows k s g =
    let same = get_or-append-add front rows g.index no_green in
    record {
      index = length front + g.index;
      below = omega (arith, length-append front rows, g.below);
      phase = ap (λ (r : Green). r.phase) same ∙ g.phase;
      begin = ap (λ (r : Green). r.from) same ∙ g.begin;
      finish = omega (arith, ap (λ (r : Green). r.to) same, g.finish);
    }

HasGreens-behind : (front rows : List Green) (ks : List ℕ) (ss : List Served) → HasGreens rows ks ss → HasGreens (front ++ rows) ks ss
HasGreens-behind front rows [] ss has = tt
HasGreens-behind front rows (k ∷ ks) [] has = tt
HasGreens-behind front rows (k ∷ ks) (s ∷ ss) has = (IsGreenOf-behind front rows k s has.0, HasGreens-behind front rows ks ss has.1)

pub line_of-greens : (plan : List Phase) (ks : List ℕ) (ss : List Served) (head : Head) (until : ℕ) → IsRing plan → IsHead plan head → head.at ≤ 104000 → AreServings plan head ks ss
    → HasGreens (line_of plan head ks ss until) ks ss
line_of-greens plan [] ss head until p h reach servings = tt
line_of-greens plan (k ∷ ks) [] head until p h reach servings = tt
line_of-greens plan (k ∷ ks) (s ∷ ss) head until p h reach servings =
    let one = servings.0 in
    let keeps = IsServingOf-keeps plan head k s p h one in
    let next = head_after k s in
    let behind = IsServingOf-head plan head k s p h one in
    let low : next.at ≤ 104000 = omega (arith, keeps.reach) in
    let rest = line_of plan next ks ss until in
    let begin = (line_of-line plan ks ss next until p behind low servings.1).begin in
    let here : IsGreenOf rest k s = record { index = 0; below = begin.some; phase = begin.phase; begin = begin.begin; finish = begin.spent } in
    let has : HasGreens rest (k ∷ ks) (s ∷ ss) = (here, line_of-greens plan ks ss next until p behind low servings.1) in
    let left = left_for plan head (last_end plan head k s.green) (passed_numbers plan head.phase k) in
    cond_both s.kept rest (left ++ rest) (λ rows. HasGreens rows (k ∷ ks) (s ∷ ss))
    (λ e. has)
    (λ e. HasGreens-behind left rest (k ∷ ks) (s ∷ ss) has)

-- steps of the loops

shortest-append : (plan : List Phase) (from : ℕ) (ks ls : List ℕ) → shortest_greens plan from (ks ++ ls) ≡ shortest_greens plan from ks ++ shortest_greens plan (begin_after plan from ks) ls
shortest-append plan from [] ls = refl
shortest-append plan from (k ∷ ks) ls =
    ap (λ (rows : List Green). record { phase = k; from = from; to = from + (phase_at plan k).least } ∷ rows) (shortest-append plan (from + passing (phase_at plan k)) ks ls)

-- a phase that a test passes gets its green, where those from it on were still to come
pub shortest-step : (plan : List Phase) (test : ℕ → Bool) (k high at : ℕ) (p : Phase) (rows whole : List Green) → k < high → p ≡ phase_at plan k → test k ≡ true
    → rows ++ shortest_greens plan at (filter test (range_with_len k (high - k))) ≡ whole
    → (rows ++ record { phase = k; from = at; to = at + p.least } ∷ []) ++ shortest_greens plan (at + p.least + p.yellow + p.clear) (filter test (range_with_len (k + 1) (high - (k + 1)))) ≡ whole
shortest-step plan test k high at p rows whole h times passes so_far =
    let rest = filter test (range_with_len (k + 1) (high - (k + 1))) in
    let row = λ (q : Phase). let r : Green = record { phase = k; from = at; to = at + q.least } in r in
    let same : at + p.least + p.yellow + p.clear ≡ at + passing p = omega arith in
    append_assoc rows (row p ∷ []) (shortest_greens plan (at + p.least + p.yellow + p.clear) rest)
    ∙ ap (λ (b : ℕ). rows ++ row p ∷ shortest_greens plan b rest) same
    ∙ ap (λ (q : Phase). rows ++ row q ∷ shortest_greens plan (at + passing q) rest) times
    ∙ ap (λ (ks : List ℕ). rows ++ shortest_greens plan at ks) (sym (stops-first test k high true h passes))
    ∙ so_far

pub behind-step : (plan : List Phase) (test : ℕ → Bool) (k high at whole : ℕ) (p : Phase) → k < high → p ≡ phase_at plan k → test k ≡ true → begin_after plan at (filter test (range_with_len k (high - k))) ≡ whole
    → begin_after plan (at + p.least + p.yellow + p.clear) (filter test (range_with_len (k + 1) (high - (k + 1)))) ≡ whole
behind-step plan test k high at whole p h times passes so_far =
    let rest = filter test (range_with_len (k + 1) (high - (k + 1))) in
    let same : at + p.least + p.yellow + p.clear ≡ at + passing p = omega arith in
    ap (λ (b : ℕ). begin_after plan b rest) same
    ∙ ap (λ (q : Phase). begin_after plan (at + passing q) rest) times
    ∙ ap (begin_after plan at) (sym (stops-first test k high true h passes))
    ∙ so_far

-- greens of the phases up to the end of the ring, and then of those from its begin
pub shortest-both : (plan : List Phase) (from behind : ℕ) (ks ls : List ℕ) (old rows whole : List Green) → rows ≡ old ++ shortest_greens plan from ks → behind ≡ begin_after plan from ks → whole ≡ rows ++ shortest_greens plan behind ls
    → whole ≡ old ++ shortest_greens plan from (ks ++ ls)
shortest-both plan from behind ks ls old rows whole first at second =
    second
    ∙ ap (λ (b : ℕ). rows ++ shortest_greens plan b ls) at
    ∙ ap (λ (rs : List Green). rs ++ shortest_greens plan (begin_after plan from ks) ls) first
    ∙ append_assoc old (shortest_greens plan from ks) (shortest_greens plan (begin_after plan from ks) ls)
    ∙ ap (λ (rs : List Green). old ++ rs) (sym (shortest-append plan from ks ls))

-- the loop over the servings

-- what stands where there is no serving
abbrev pub no_served : Served
no_served = record { green = 0; start = 0; finish = 0; cost = 0; kept = false }

-- the serving at an index, and those after it
pub record IsNext (plan : List Phase) (head : Head) (phases : List ℕ) (served : List Served) (index : ℕ) : Type 0 where
  pub below : index < length served
  pub one : IsServingOf plan head (get_or phases index 0) (get_or served index no_served)
  pub others : AreServings plan (head_after (get_or phases index 0) (get_or served index no_served)) (drop (index + 1) phases) (drop (index + 1) served)

pub next-serving : (plan : List Phase) (head : Head) (phases : List ℕ) (served : List Served) (index : ℕ) → index < length phases → AreServings plan head (drop index phases) (drop index served) → IsNext plan head phases served index
next-serving plan head phases served index h servings =
    let k = get_or phases index 0 in
    let ks = drop (index + 1) phases in
    let first : AreServings plan head (k ∷ ks) (drop index served) = subst (λ ls. AreServings plan head ls (drop index served)) (drop_more phases index 0 h) servings in
    elim (cases_lt index (length served)) [
      | inl below ↦
          let both : AreServings plan head (k ∷ ks) (get_or served index no_served ∷ drop (index + 1) served) = subst (AreServings plan head (k ∷ ks)) (drop_more served index no_served below) first in
          record { below = below; one = both.0; others = both.1 }
      | inr over ↦
          let none : AreServings plan head (k ∷ ks) [] = subst (AreServings plan head (k ∷ ks)) (drop_all index served over) first in
          absurd none
    ]

line_of-next : (plan : List Phase) (head : Head) (phases : List ℕ) (served : List Served) (index until : ℕ) → index < length phases → index < length served
    → line_of plan head (drop index phases) (drop index served) until
    ≡ line_of plan head (get_or phases index 0 ∷ drop (index + 1) phases) (get_or served index no_served ∷ drop (index + 1) served) until
line_of-next plan head phases served index until h below =
    ap (λ (ks : List ℕ). line_of plan head ks (drop index served) until) (drop_more phases index 0 h)
    ∙ ap (λ (ss : List Served). line_of plan head (get_or phases index 0 ∷ drop (index + 1) phases) ss until) (drop_more served index no_served below)

-- the serving goes on in the green that stands
pub line-kept : (plan : List Phase) (head : Head) (phases : List ℕ) (served : List Served) (index until : ℕ) (rows whole : List Green) → index < length phases → index < length served
    → (get_or served index no_served).kept ≡ true → rows ++ line_of plan head (drop index phases) (drop index served) until ≡ whole
    → rows ++ line_of plan (head_after (get_or phases index 0) (get_or served index no_served)) (drop (index + 1) phases) (drop (index + 1) served) until ≡ whole
line-kept plan head phases served index until rows whole h below kept so_far =
    let k = get_or phases index 0 in
    let s = get_or served index no_served in
    let rest = line_of plan (head_after k s) (drop (index + 1) phases) (drop (index + 1) served) until in
    let left = left_for plan head (last_end plan head k s.green) (passed_numbers plan head.phase k) in
    ap (λ (rs : List Green). rows ++ rs) (sym (line_of-next plan head phases served index until h below ∙ ap (λ (b : Bool). cond b rest (left ++ rest)) kept)) ∙ so_far

-- the green that stands is left for the serving
pub line-left : (plan : List Phase) (head : Head) (phases : List ℕ) (served : List Served) (index until : ℕ) (rows more whole : List Green) → index < length phases → index < length served
    → (get_or served index no_served).kept ≡ false → rows ++ line_of plan head (drop index phases) (drop index served) until ≡ whole
    → more ≡ rows ++ left_for plan head (last_end plan head (get_or phases index 0) (get_or served index no_served).green) (passed_numbers plan head.phase (get_or phases index 0))
    → more ++ line_of plan (head_after (get_or phases index 0) (get_or served index no_served)) (drop (index + 1) phases) (drop (index + 1) served) until ≡ whole
line-left plan head phases served index until rows more whole h below left_is so_far more_is =
    let k = get_or phases index 0 in
    let s = get_or served index no_served in
    let rest = line_of plan (head_after k s) (drop (index + 1) phases) (drop (index + 1) served) until in
    let left = left_for plan head (last_end plan head k s.green) (passed_numbers plan head.phase k) in
    ap (λ (rs : List Green). rs ++ rest) more_is
    ∙ append_assoc rows left rest
    ∙ ap (λ (rs : List Green). rows ++ rs) (sym (line_of-next plan head phases served index until h below ∙ ap (λ (b : Bool). cond b rest (left ++ rest)) left_is)) ∙ so_far

-- the last green is held
pub line-over : (plan : List Phase) (head : Head) (p : Phase) (phases : List ℕ) (served : List Served) (index until : ℕ) (rows whole : List Green) → length phases ≤ index → p ≡ phase_at plan head.phase
    → rows ++ line_of plan head (drop index phases) (drop index served) until ≡ whole → rows ++ turned plan (is_unmarked_at plan) head (head.since + p.greatest) until ≡ whole
line-over plan head p phases served index until rows whole over times so_far =
    ap (λ (q : Phase). rows ++ turned plan (is_unmarked_at plan) head (head.since + q.greatest) until) times
    ∙ ap (λ (ks : List ℕ). rows ++ line_of plan head ks (drop index served) until) (sym (drop_all index phases over))
    ∙ so_far
