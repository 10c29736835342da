-- Heads, lines and servings, moved by some seconds.
use Rattle.std.proofs.Common.{◌≡◌, ℕ, zero, suc, ◌+◌, ◌-◌, ◌<◌, ◌≤◌, Bool, true, false, List, [], ◌∷◌, ◌++◌, Option, Some, None, length, map, max, min, refl, sym, ap, ◌∙◌, inl, inr, arith}
use Rattle.std.specs.Prelude.{◌==◌, if◌then◌else◌, nat_le, nat_lt}
use Rattle.std.specs.Option.{option_map}
use Rattle.std.proofs.lemmas.Bool.{cases_lt, eq-eqb, eqb-true, le-leb, le-ltb, lt-leb, lt-ltb, ne_eqb}
use Rattle.std.proofs.lemmas.List.{map-append}
use Rattle.phase_plan.specs.Phases.{IsRing, first_up, is_unmarked_at, passed_numbers, passing, phase_at, switch_time}
use Rattle.phase_plan.specs.declared.Phase.{Phase}
use Rattle.phase_plan.proofs.RingLaws.{passes-marked}
use Rattle.control_flow.specs.Greens.{head_at, head_in, row_after, rows_before, spliced}
use Rattle.control_flow.specs.Timelines.{AreServings, green_after, last_end, left_for, line_of, shortest_greens, turned, turning}
use Rattle.control_flow.specs.declared.greens.Green.{Green}
use Rattle.control_flow.proofs.TurningLaws.{turned-is}
use Rattle.intersection_actor.specs.Commits.{line_for, phases_of}
use Rattle.schedule_meaning.specs.declared.planners.Answer.{Answer}
use Rattle.schedule_meaning.specs.declared.planners.Answer.TheVariants.{Plan, NoPlan}
use Rattle.switch_rules.specs.Serving.{earliest_end, head_after}
use Rattle.switch_rules.specs.declared.Head.{Head}
use Rattle.switch_rules.specs.declared.Served.{Served}
use Rattle.round_decisions.specs.Lines.{rows_from}
use Rattle.round_decisions.specs.Origins.{moved_green, moved_head, moved_line}

-- tests of numbers that say the same of others
pub lt-same : (a b c d : ℕ) → (a < b → c < d) → (c < d → a < b) → nat_lt a b ≡ nat_lt c d
lt-same a b c d f g = elim (cases_lt a b) [
  | inl h ↦ lt-ltb a b h ∙ sym (lt-ltb c d (f h))
  | inr h ↦ le-ltb a b h ∙ sym (le-ltb c d (elim (cases_lt c d) [ inl k ↦ absurd (let e = g k in omega arith) | inr k ↦ k ]))
]

pub le-same : (a b c d : ℕ) → (a ≤ b → c ≤ d) → (c ≤ d → a ≤ b) → nat_le a b ≡ nat_le c d
le-same a b c d f g = elim (cases_lt b a) [
  | inl h ↦ lt-leb a b h ∙ sym (lt-leb c d (elim (cases_lt d c) [ inl k ↦ k | inr k ↦ absurd (let e = g k in omega arith) ]))
  | inr h ↦ le-leb a b h ∙ sym (le-leb c d (f h))
]

pub eq-same : (a b c d : ℕ) → (a ≡ b → c ≡ d) → (c ≡ d → a ≡ b) → (a == b) ≡ (c == d)
eq-same a b c d f g = by (a == b) refl
  where
    by : (t : Bool) → (a == b) ≡ t → (a == b) ≡ (c == d)
    by true e = e ∙ sym (eq-eqb c d (f (eqb-true a b e)))
    by false e = e ∙ sym (ne_eqb c d (λ same. let here = eq-eqb a b (g same) in let never : true ≡ false = sym here ∙ e in cc))

module _ (d : ℕ) where
  pub lt-moved : (a b : ℕ) → nat_lt (a + d) (b + d) ≡ nat_lt a b
  lt-moved a b = lt-same (a + d) (b + d) a b (λ h. omega arith) (λ h. omega arith)

  pub le-moved : (a b : ℕ) → nat_le (a + d) (b + d) ≡ nat_le a b
  le-moved a b = le-same (a + d) (b + d) a b (λ h. omega arith) (λ h. omega arith)

  -- heads
  pub after-moved : (rows : List Green) (now : ℕ) → row_after (moved_line d rows) (now + d) ≡ option_map (moved_green d) (row_after rows now)
  after-moved [] now = refl
  after-moved (row ∷ rows) now =
      ap (λ b. if b then Some (moved_green d row) else row_after (moved_line d rows) (now + d)) (lt-moved now row.to)
      ∙ pick (nat_lt now row.to) (after-moved rows now)
    where
      pick : (b : Bool) → row_after (moved_line d rows) (now + d) ≡ option_map (moved_green d) (row_after rows now)
          → (if b then Some (moved_green d row) else row_after (moved_line d rows) (now + d)) ≡ option_map (moved_green d) (if b then Some row else row_after rows now)
      pick true rest = refl
      pick false rest = rest

  in-moved : (plan : List Phase) (now : ℕ) (row : Green) → head_in plan (now + d) (moved_green d row) ≡ moved_head d (head_in plan now row)
  in-moved plan now row =
      let fresh : nat_lt (now + d) (row.from + d + (phase_at plan row.phase).loss) ≡ nat_lt now (row.from + (phase_at plan row.phase).loss) =
      lt-same (now + d) (row.from + d + (phase_at plan row.phase).loss) now (row.from + (phase_at plan row.phase).loss) (λ h. omega arith) (λ h. omega arith) in
      ap (λ b. if b then record { phase = row.phase; since = row.from + d; at = now + d; fresh = nat_lt (now + d) (row.from + d + (phase_at plan row.phase).loss) } else record { phase = row.phase; since = row.from + d; at = row.from + d; fresh = true }) (le-moved row.from now)
      ∙ ap (λ f. if nat_le row.from now then record { phase = row.phase; since = row.from + d; at = now + d; fresh = f } else record { phase = row.phase; since = row.from + d; at = row.from + d; fresh = true }) fresh
      ∙ pick (nat_le row.from now) (nat_lt now (row.from + (phase_at plan row.phase).loss))
    where
      pick : (b f : Bool) → (if b then record { phase = row.phase; since = row.from + d; at = now + d; fresh = f } else record { phase = row.phase; since = row.from + d; at = row.from + d; fresh = true })
          ≡ moved_head d (if b then record { phase = row.phase; since = row.from; at = now; fresh = f } else record { phase = row.phase; since = row.from; at = row.from; fresh = true })
      pick true f = refl
      pick false f = refl

  pub head-moved : (plan : List Phase) (rows : List Green) (now : ℕ) → head_at plan (moved_line d rows) (now + d) ≡ option_map (moved_head d) (head_at plan rows now)
  head-moved plan rows now = ap (option_map (head_in plan (now + d))) (after-moved rows now) ∙ by (row_after rows now)
    where
      by : (o : Option Green) → option_map (head_in plan (now + d)) (option_map (moved_green d) o) ≡ option_map (moved_head d) (option_map (head_in plan now) o)
      by None = refl
      by (Some row) = ap Some (in-moved plan now row)

  -- lines
  before-moved : (rows : List Green) (from : ℕ) → rows_before (moved_line d rows) (from + d) ≡ moved_line d (rows_before rows from)
  before-moved [] from = refl
  before-moved (row ∷ rows) from =
      ap (λ b. if b then moved_green d row ∷ rows_before (moved_line d rows) (from + d) else []) (lt-moved row.from from)
      ∙ ap (λ l. if nat_lt row.from from then moved_green d row ∷ l else []) (before-moved rows from)
      ∙ pick (nat_lt row.from from)
    where
      pick : (b : Bool) → (if b then moved_green d row ∷ moved_line d (rows_before rows from) else []) ≡ moved_line d (if b then row ∷ rows_before rows from else [])
      pick true = refl
      pick false = refl

  pub spliced-moved : (old next : List Green) → spliced (moved_line d old) (moved_line d next) ≡ moved_line d (spliced old next)
  spliced-moved old [] = refl
  spliced-moved old (row ∷ rows) = ap (λ l. l ++ moved_line d (row ∷ rows)) (before-moved old row.from) ∙ sym (map-append (moved_green d) (rows_before old row.from) (row ∷ rows))

  pub from-moved : (second : ℕ) (rows : List Green) → rows_from (second + d) (moved_line d rows) ≡ moved_line d (rows_from second rows)
  from-moved second [] = refl
  from-moved second (row ∷ []) = refl
  from-moved second (row ∷ next ∷ rows) =
      ap (λ b. if b then rows_from (second + d) (moved_line d (next ∷ rows)) else moved_line d (row ∷ next ∷ rows)) (le-moved next.from second)
      ∙ ap (λ l. if nat_le next.from second then l else moved_line d (row ∷ next ∷ rows)) (from-moved second (next ∷ rows))
      ∙ pick (nat_le next.from second)
    where
      pick : (b : Bool) → (if b then moved_line d (rows_from second (next ∷ rows)) else moved_line d (row ∷ next ∷ rows)) ≡ moved_line d (if b then rows_from second (next ∷ rows) else row ∷ next ∷ rows)
      pick true = refl
      pick false = refl

  -- timelines
  pub end-moved : (plan : List Phase) (head : Head) → earliest_end plan (moved_head d head) ≡ earliest_end plan head + d
  end-moved plan head = omega arith

  shortest-moved : (plan : List Phase) (from moved : ℕ) (ks : List ℕ) → moved ≡ from + d → shortest_greens plan moved ks ≡ moved_line d (shortest_greens plan from ks)
  shortest-moved plan from moved [] same = refl
  shortest-moved plan from moved (k ∷ ks) same =
      let to : moved + (phase_at plan k).least ≡ from + (phase_at plan k).least + d = omega (arith, same) in
      ap (λ (row : Green). row ∷ shortest_greens plan (moved + passing (phase_at plan k)) ks) (λ i. record { phase = k; from = same i; to = to i })
      ∙ ap (λ l. moved_green d (record { phase = k; from = from; to = from + (phase_at plan k).least }) ∷ l) (shortest-moved plan (from + passing (phase_at plan k)) (moved + passing (phase_at plan k)) ks (omega (arith, same)))

  left-moved : (plan : List Phase) (head : Head) (to moved : ℕ) (ks : List ℕ) → moved ≡ to + d → left_for plan (moved_head d head) moved ks ≡ moved_line d (left_for plan head to ks)
  left-moved plan head to moved ks same =
      ap (λ t. record { phase = head.phase; from = head.since + d; to = t } ∷ shortest_greens plan (moved + (phase_at plan head.phase).yellow + (phase_at plan head.phase).clear) ks) same
      ∙ ap (λ l. record { phase = head.phase; from = head.since + d; to = to + d } ∷ l)
      (shortest-moved plan (to + (phase_at plan head.phase).yellow + (phase_at plan head.phase).clear) (moved + (phase_at plan head.phase).yellow + (phase_at plan head.phase).clear) ks (omega (arith, same)))

  after-green-moved : (plan : List Phase) (stops : ℕ → Bool) (s to : ℕ) → green_after plan stops s (to + d) ≡ moved_green d (green_after plan stops s to)
  after-green-moved plan stops s to = same (to + d + (phase_at plan s).yellow + (phase_at plan s).clear) (to + (phase_at plan s).yellow + (phase_at plan s).clear) (omega arith)
    where
      same : (from was : ℕ) → from ≡ was + d → record { phase = first_up plan stops s; from = from; to = from + (phase_at plan (first_up plan stops s)).least } ≡ moved_green d (record { phase = first_up plan stops s; from = was; to = was + (phase_at plan (first_up plan stops s)).least })
      same from was e = let to_is : from + (phase_at plan (first_up plan stops s)).least ≡ was + (phase_at plan (first_up plan stops s)).least + d = omega (arith, e) in λ i. record { phase = first_up plan stops s; from = e i; to = to_is i }

  turning-moved : (plan : List Phase) (stops : ℕ → Bool) (most until s to : ℕ) → turning plan stops most (until + d) s (to + d) ≡ moved_line d (turning plan stops most until s to)
  turning-moved plan stops zero until s to = refl
  turning-moved plan stops (suc most) until s to =
      ap (λ b. if b then [] else green_after plan stops s (to + d) ∷ turning plan stops most (until + d) (green_after plan stops s (to + d)).phase (green_after plan stops s (to + d)).to) (lt-moved until to)
      ∙ ap (λ (g : Green). if nat_lt until to then [] else g ∷ turning plan stops most (until + d) g.phase g.to) (after-green-moved plan stops s to)
      ∙ ap (λ l. if nat_lt until to then [] else moved_green d (green_after plan stops s to) ∷ l) (turning-moved plan stops most until (green_after plan stops s to).phase (green_after plan stops s to).to)
      ∙ pick (nat_lt until to)
    where
      pick : (b : Bool) → (if b then [] else moved_green d (green_after plan stops s to) ∷ moved_line d (turning plan stops most until (green_after plan stops s to).phase (green_after plan stops s to).to))
          ≡ moved_line d (if b then [] else green_after plan stops s to ∷ turning plan stops most until (green_after plan stops s to).phase (green_after plan stops s to).to)
      pick true = refl
      pick false = refl

  turned-moved : (plan : List Phase) → IsRing plan → (head : Head) → head.phase < length plan → (to moved until : ℕ) → moved ≡ to + d → turned plan (is_unmarked_at plan) (moved_head d head) moved (until + d) ≡ moved_line d (turned plan (is_unmarked_at plan) head to until)
  turned-moved plan p head below to moved until same =
      ap (λ t. turned plan (is_unmarked_at plan) (moved_head d head) t (until + d)) same
      ∙ turned-is plan (is_unmarked_at plan) p (passes-marked plan) (moved_head d head) (to + d) (until + d) below
      ∙ ap (λ n. record { phase = head.phase; from = head.since + d; to = to + d } ∷ turning plan (is_unmarked_at plan) n (until + d) head.phase (to + d)) (let e : until + d + 1 - (to + d) ≡ until + 1 - to = omega arith in e)
      ∙ ap (λ l. record { phase = head.phase; from = head.since + d; to = to + d } ∷ l) (turning-moved plan (is_unmarked_at plan) (until + 1 - to) until head.phase to)
      ∙ ap (moved_line d) (sym (turned-is plan (is_unmarked_at plan) p (passes-marked plan) head to until below))

  -- servings
  abbrev pub moved_served : Served → Served
  moved_served s = record { green = s.green + d; start = s.start + d; finish = s.finish + d; cost = s.cost; kept = s.kept }

  last-moved : (plan : List Phase) (head : Head) (j b : ℕ) → last_end plan (moved_head d head) j (b + d) ≡ last_end plan head j b + d
  last-moved plan head j b = by (earliest_end plan head) (head.since + (phase_at plan head.phase).greatest) (switch_time plan head.phase j)
      (earliest_end plan (moved_head d head)) (head.since + d + (phase_at plan head.phase).greatest) (end-moved plan head) (omega arith)
    where
      by : (e g s f h : ℕ) → f ≡ e + d → h ≡ g + d → max f (min h (b + d - s)) ≡ max e (min g (b - s)) + d
      by e g s f h x y = omega (arith, x, y)

  pub line_of-moved : (plan : List Phase) → IsRing plan → (until : ℕ) (ks : List ℕ) (ss : List Served) (head : Head) → head.phase < length plan → AreServings plan head ks ss
      → line_of plan (moved_head d head) ks (map moved_served ss) (until + d) ≡ moved_line d (line_of plan head ks ss until)
  line_of-moved plan p until [] [] head below are = turned-moved plan p head below (head.since + (phase_at plan head.phase).greatest) (head.since + d + (phase_at plan head.phase).greatest) until (omega arith)
  line_of-moved plan p until [] (s ∷ ss) head below are = absurd are
  line_of-moved plan p until (k ∷ ks) [] head below are = absurd are
  line_of-moved plan p until (k ∷ ks) (s ∷ ss) head below are = by s.kept (line_of-moved plan p until ks ss (head_after k s) are.0.phase are.1)
    where
      by : (b : Bool) → line_of plan (moved_head d (head_after k s)) ks (map moved_served ss) (until + d) ≡ moved_line d (line_of plan (head_after k s) ks ss until)
          → (if b then line_of plan (moved_head d (head_after k s)) ks (map moved_served ss) (until + d) else left_for plan (moved_head d head) (last_end plan (moved_head d head) k (s.green + d)) (passed_numbers plan head.phase k) ++ line_of plan (moved_head d (head_after k s)) ks (map moved_served ss) (until + d))
          ≡ moved_line d (if b then line_of plan (head_after k s) ks ss until else left_for plan head (last_end plan head k s.green) (passed_numbers plan head.phase k) ++ line_of plan (head_after k s) ks ss until)
      by true rest = rest
      by false rest =
          ap (λ l. l ++ line_of plan (moved_head d (head_after k s)) ks (map moved_served ss) (until + d)) (left-moved plan head (last_end plan head k s.green) (last_end plan (moved_head d head) k (s.green + d)) (passed_numbers plan head.phase k) (last-moved plan head k s.green))
          ∙ ap (λ l. moved_line d (left_for plan head (last_end plan head k s.green) (passed_numbers plan head.phase k)) ++ l) rest
          ∙ sym (map-append (moved_green d) (left_for plan head (last_end plan head k s.green) (passed_numbers plan head.phase k)) (line_of plan (head_after k s) ks ss until))

  pub line_for-moved : (plan : List Phase) → IsRing plan → (head : Head) → head.phase < length plan → (answer : Answer) (served : List Served) (until : ℕ) → AreServings plan head (phases_of answer) served
      → line_for plan (moved_head d head) answer (map moved_served served) (until + d) ≡ moved_line d (line_for plan head answer served until)
  line_for-moved plan p head below (Plan sequence delay) served until are = line_of-moved plan p until sequence served head below are
  line_for-moved plan p head below NoPlan served until are = turned-moved plan p head below (earliest_end plan head) (earliest_end plan (moved_head d head)) until (end-moved plan head)
