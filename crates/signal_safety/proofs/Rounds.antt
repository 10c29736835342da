-- What each round keeps of the lines of a network, where `line round node` is the line of a node before a round.
use Rattle.std.proofs.Common.{◌≡◌, ℕ, zero, suc, ◌+◌, ◌*◌, ◌/◌, ◌<◌, ◌≤◌, List, Option, Some, None, All, length, refl, ap, subst, ◌∙◌, inl, inr, arith, leb}
use Rattle.std.specs.Option.{option_map}
use Rattle.std.proofs.lemmas.Bool.{cases_lt, cond_both, leb-true}
use Rattle.std.proofs.Math.Nat.{div-lt_iff_lt-mul}
use Rattle.std.proofs.lemmas.Option.{none-some, same_Some}
use Rattle.control_flow.specs.Greens.{BeginBy, GoesOn, IsContinued, IsGreen, IsLawful, head_at, head_in, row_after, spliced}
use Rattle.control_flow.specs.Signs.{sign_at}
use Rattle.control_flow.specs.Timelines.{AreServings, line_of, rotation_of}
use Rattle.control_flow.specs.declared.greens.Green.{Green}
use Rattle.control_flow.proofs.MakingLaws.{line_of-by, line_of-line, rotation_of-by, rotation_of-line}
use Rattle.control_flow.proofs.RowLaws.{row_after-some}
use Rattle.control_flow.proofs.SpliceLaws.{continued, head_in-by, head_in-since}
use Rattle.net_parts.proofs.OutlineLaws.{run-by}
use Rattle.net_parts.specs.Limits.{most_seconds}
use Rattle.net_parts.specs.Numbers.{Net}
use Rattle.net_parts.specs.Outline.{plan_at}
use Rattle.phase_plan.specs.Phases.{IsRing}
use Rattle.phase_plan.specs.declared.Phase.{Phase}
use Rattle.road_net.specs.Network.{IsNetwork}
use Rattle.switch_rules.specs.Serving.{IsHead}
use Rattle.switch_rules.specs.declared.Head.{Head}
use Rattle.switch_rules.specs.declared.Served.{Served}
use Rattle.signal_safety.specs.Rounds.{shown_by, shown_every}

-- a line as the rounds leave it: lawful, and its rows begin by 100,000
pub record IsLine (plan : List Phase) (rows : List Green) : Type 0 where
  pub lawful : IsLawful plan rows
  pub begins : BeginBy 100000 rows

-- the head of such a line
pub record IsSoonHead (plan : List Phase) (head : Head) : Type 0 where
  pub is : IsHead plan head
  pub since : head.since ≤ 100000
  pub reach : head.at ≤ 100000

head-of-row : (plan : List Phase) (now : ℕ) (row : Green) → IsGreen plan row → now < row.to → IsHead plan (head_in plan now row)
head-of-row plan now row green behind = cond_both (leb row.from now) _ _ (IsHead plan)
    (λ e. record { phase = green.phase; begun = leb-true row.from now e; within = (let most = green.greatest in omega arith) })
    (λ e. record { phase = green.phase; begun = omega arith; within = omega arith })

pub head-of : (plan : List Phase) (rows : List Green) (now : ℕ) (head : Head) → IsLine plan rows → now ≤ 100000 → head_at plan rows now ≡ Some head → IsSoonHead plan head
head-of plan rows now head line early e = by (row_after rows now) refl e
  where
    by : (o : Option Green) → row_after rows now ≡ o → option_map (head_in plan now) o ≡ Some head → IsSoonHead plan head
    by None found is = absurd (none-some head is)
    by (Some here) found is =
        let same : head_in plan now here ≡ head = same_Some (head_in plan now here) head is in
        let green = row_after-some (IsGreen plan) rows now here line.lawful.greens found in
        let from = row_after-some (λ (r : Green). r.from ≤ 100000) rows now here line.begins found in
        subst (IsSoonHead plan) same (record {
          is = head-of-row plan now here green.0 green.1;
          since = (let s = head_in-since plan now here in let f = from.0 in omega arith);
          reach = head_in-by plan now here 100000 early from.0;
        })

-- a line with which another may go on from a head
pub record IsNext (plan : List Phase) (head : Head) (rows : List Green) : Type 0 where
  pub line : IsLine plan rows
  pub goes : GoesOn head rows

module _ (plan : List Phase) (head : Head) (until : ℕ) (p : IsRing plan) (h : IsSoonHead plan head) (soon : until + 20 ≤ 100000) where
  -- the rows of servings, and those of a turn of the ring
  pub line-next : (phases : List ℕ) (served : List Served) → AreServings plan head phases served → All (λ (s : Served). s.green ≤ 100000) served → IsNext plan head (line_of plan head phases served until)
  line-next phases served are greens =
      let line = line_of-line plan phases served head until p h.is (omega (arith, h.reach)) are in
      record { line = record { lawful = line.lawful; begins = line_of-by plan phases served head until 100000 p h.is are h.since soon greens }; goes = line.begin }

  pub rotation-next : IsNext plan head (rotation_of plan head until)
  rotation-next =
      let line = rotation_of-line plan head until p h.is (omega (arith, h.reach)) in
      record { line = record { lawful = line.lawful; begins = rotation_of-by plan head until 100000 p h.is h.since soon }; goes = line.begin }

-- what a round that begins at a second keeps of a node's line
pub record KeepsLine (plan : List Phase) (old : List Green) (now : ℕ) (rows : List Green) : Type 0 where
  pub line : IsLine plan rows
  pub past : (second : ℕ) → second < now → sign_at rows second ≡ sign_at old second

-- it does where it splices rows with which the line may go on
pub spliced-keeps : (plan : List Phase) (old : List Green) (now : ℕ) (head : Head) (next : List Green) → IsRing plan → IsLine plan old → head_at plan old now ≡ Some head → IsNext plan head next → KeepsLine plan old now (spliced old next)
spliced-keeps plan old now head next p line at goes =
    let c : IsContinued plan old now next (spliced old next) = continued plan old now head next p line.lawful at goes.line.lawful goes.goes in
    record { line = record { lawful = c.lawful; begins = c.begins_by 100000 line.begins goes.line.begins }; past = c.past }

-- each of the first rounds, of so many seconds, keeps the line of each node
abbrev pub AllKeepEvery : Net → ℕ → (ℕ → ℕ → List Green) → ℕ → Type 0
AllKeepEvery net step line rounds = (round node : ℕ) → round < rounds → node < length net.node_names → KeepsLine (plan_at net node) (line round node) (round * step) (line (suc round) node)

-- they do where the first lines are lines, and each round keeps what is a line before it
module _ (net : Net) (step : ℕ) (line : ℕ → ℕ → List Green) (rounds : ℕ) (early : (r : ℕ) → r < rounds → r * step ≤ most_seconds) (first : (node : ℕ) → node < length net.node_names → IsLine (plan_at net node) (line 0 node))
    (keeps : (round node : ℕ) → round < rounds → node < length net.node_names → round * step ≤ most_seconds → IsLine (plan_at net node) (line round node) → KeepsLine (plan_at net node) (line round node) (round * step) (line (suc round) node)) where
  line-is : (r : ℕ) → r ≤ rounds → (node : ℕ) → node < length net.node_names → IsLine (plan_at net node) (line r node)
  line-is zero most node below = first node below
  line-is (suc r) most node below = (keeps r node (omega arith) below (early r (omega arith)) (line-is r (omega arith) node below)).line

  pub all-keep-every : AllKeepEvery net step line rounds
  all-keep-every r node less below = keeps r node less below (early r less) (line-is r (omega arith) node below)

module _ (net : Net) (step : ℕ) (some : 0 < step) (line : ℕ → ℕ → List Green) (rounds : ℕ) (keep : AllKeepEvery net step line rounds) where
  -- what a line shows in a round before is what the line made in that round showed
  pub shows-every : (r : ℕ) → r ≤ rounds → (second node : ℕ) → node < length net.node_names → second / step < r → sign_at (line r node) second ≡ shown_every step (λ round. line (suc round)) second node
  shows-every zero most second node below before = absurd (omega arith)
  shows-every (suc r) most second node below before = elim (cases_lt (second / step) r) [
    | inl earlier ↦ (keep r node (omega arith) below).past second ((div-lt_iff_lt-mul {k = step} {x = second} {y = r} some).0 earlier) ∙ shows-every r (omega arith) second node below earlier
    | inr last ↦ (let e : r ≡ second / step = omega arith in ap (λ s. sign_at (line (suc s) node) second) e)
  ]

-- the same of the rounds of a network
abbrev pub AllKeep : Net → (ℕ → ℕ → List Green) → ℕ → Type 0
AllKeep net = AllKeepEvery net net.run.step

module _ (net : Net) (network : IsNetwork net) (line : ℕ → ℕ → List Green) (rounds : ℕ) (few : rounds ≤ net.run.rounds) (first : (node : ℕ) → node < length net.node_names → IsLine (plan_at net node) (line 0 node))
    (keeps : (round node : ℕ) → round < rounds → node < length net.node_names → round * net.run.step ≤ most_seconds → IsLine (plan_at net node) (line round node)
    → KeepsLine (plan_at net node) (line round node) (round * net.run.step) (line (suc round) node)) where
  pub all-keep : AllKeep net line rounds
  all-keep = all-keep-every net net.run.step line rounds
      (λ r less. run-by net.run network.outline.run r (omega (arith, less, few))) first keeps

module _ (net : Net) (network : IsNetwork net) (line : ℕ → ℕ → List Green) (rounds : ℕ) (keep : AllKeep net line rounds) where
  pub shows : (r : ℕ) → r ≤ rounds → (second node : ℕ) → node < length net.node_names → second / net.run.step < r → sign_at (line r node) second ≡ shown_by net (λ round. line (suc round)) second node
  shows = shows-every net net.run.step network.outline.run.step.0 line rounds keep

  pub lawful-after : (r : ℕ) → 0 < r → r ≤ rounds → (node : ℕ) → node < length net.node_names → IsLawful (plan_at net node) (line r node)
  lawful-after zero some most node below = absurd (omega arith)
  lawful-after (suc r) some most node below = (keep r node (omega arith) below).line.lawful
