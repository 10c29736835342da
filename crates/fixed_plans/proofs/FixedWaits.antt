-- Under a fixed plan a queue of a phase with a row discharges within a length of the cycle and the start-up of the green.
use Rattle.std.proofs.Common.{◌≡◌, ℕ, suc, ◌+◌, ◌<◌, ◌≤◌, Bool, true, false, cond, eqb, ltb, List, [], ◌∷◌, length, get_or, map, Option, Some, None, Ok, Err, find, refl, sym, ap, subst, ◌∙◌, inl, inr, arith, eqb-true}
use Rattle.std.specs.List.{range_with_len}
use Rattle.std.proofs.lemmas.Bool.{cases_Bool, ltb-true}
use Rattle.std.proofs.lemmas.List.Elements.{All-get_or}
use Rattle.std.proofs.lemmas.List.FromFn.{get_or-map-range_with_len}
use Rattle.std.proofs.lemmas.Option.{none-some, same_Some, slice_get-get_or}
use Rattle.foundation.proofs.ResultLaws.{same_Ok}
use Rattle.control_flow.specs.Greens.{IsInOrder, IsLawful, no_green, row_after}
use Rattle.control_flow.specs.Signs.{sign_at}
use Rattle.control_flow.specs.declared.greens.Green.{Green}
use Rattle.control_flow.specs.declared.greens.Sign.TheVariants.{On}
use Rattle.control_flow.proofs.OrderLaws.{covering-after, order-lawful}
use Rattle.control_flow.proofs.SignLaws.{sign-begun}
use Rattle.fixed_plans.specs.Lines.{cycle_length, fixed_line, green_from, green_of, rows_of}
use Rattle.fixed_plans.specs.Rows.{IsFixedPlan}
use Rattle.fixed_plans.specs.declared.rows.FixedRow.{FixedRow}
use Rattle.fixed_plans.proofs.CycleLaws.{row_in}
use Rattle.fixed_plans.proofs.LineLaws.{IsLineOf, own-cycle}
use Rattle.net_parts.specs.Numbers.{Net, no_link}
use Rattle.net_parts.specs.Outline.{IsLink, link_at, plan_at}
use Rattle.net_simulator.specs.Flow.{Cumulative, cumulative_under, queue}
use Rattle.net_simulator.specs.Shown.{cumulative_of_lines}
use Rattle.net_simulator.specs.Sums.{end_of_run}
use Rattle.net_simulator.specs.Worlds.{line_in, signs_by}
use Rattle.net_simulator.proofs.AtNodes.{past-at-nodes}
use Rattle.phase_plan.specs.Phases.{IsRing, phase_at}
use Rattle.phase_plan.specs.declared.Phase.{Phase}
use Rattle.road_net.specs.Network.{IsNetwork}
use Rattle.fixed_plans.specs.FixedBounds.{cycle_bound, fixed_bounds, row_bound}
use Rattle.fixed_plans.proofs.CycleGreens.{BeginsBy, IsPlaced, comes, place-of}
use Rattle.signal_safety.proofs.Lines.{plan-is}
use Rattle.waits.specs.Discharges.{AreWaitsWithin}
use Rattle.waits.specs.declared.bounds.NoBound.TheVariants.{ShortGreen}
use Rattle.waits.proofs.BoundLaws.{node-inside}
use Rattle.waits.proofs.Waiting.{driven-by, goes-by, in-past, left-later, queue-kept}

-- the row of a phase, where it gives a bound
record GivesBound (plan : List Phase) (cycle : List FixedRow) (k wait : ℕ) : Type 0 where
  index : ℕ
  below : index < length cycle
  phase : (row_in cycle index).phase ≡ k
  long : (phase_at plan k).loss < (row_in cycle index).green
  is : cycle_length plan cycle + (phase_at plan k).loss + 1 ≡ wait

-- the place of what is found
pub record IsFound (rows : List FixedRow) (k : ℕ) (r : FixedRow) : Type 0 where
  pub index : ℕ
  pub below : index < length rows
  pub at : row_in rows index ≡ r
  pub phase : r.phase ≡ k

pub found : (rows : List FixedRow) (k : ℕ) (r : FixedRow) → find (λ (row : FixedRow). eqb row.phase k) rows ≡ Some r → IsFound rows k r
found [] k r e = absurd (none-some r e)
found (first ∷ rows) k r e = elim (cases_Bool (eqb first.phase k)) [
  | inl same ↦
      let here : first ≡ r = same_Some first r (sym (ap (λ (b : Bool). cond b (Some first) (find (λ (row : FixedRow). eqb row.phase k) rows)) same) ∙ e) in
      record { index = 0; below = omega arith; at = here; phase = sym (ap (λ (x : FixedRow). x.phase) here) ∙ eqb-true first.phase k same }
  | inr other ↦
      let later = found rows k r (sym (ap (λ (b : Bool). cond b (Some first) (find (λ (row : FixedRow). eqb row.phase k) rows)) other) ∙ e) in
      record { index = suc later.index; below = (let h = later.below in omega (arith, h)); at = later.at; phase = later.phase }
]

longer : (b : Bool) (most wait : ℕ) → cond b (Ok most) (Err ShortGreen) ≡ Ok wait → (b ≡ true) × (most ≡ wait)
longer true most wait e = (refl, same_Ok most wait e)
longer false most wait e = absurd (cc)

gives-bound : (plan : List Phase) (cycle : List FixedRow) (k wait : ℕ) → cycle_bound plan cycle k ≡ Ok wait → GivesBound plan cycle k wait
gives-bound plan cycle k wait e = by (find (λ (row : FixedRow). eqb row.phase k) cycle) refl e
  where
    by : (o : Option FixedRow) → find (λ (row : FixedRow). eqb row.phase k) cycle ≡ o → row_bound plan (cycle_length plan cycle) o ≡ Ok wait → GivesBound plan cycle k wait
    by None none is = absurd (cc)
    by (Some r) some is =
        let place = found cycle k r some in
        let (long, most) = longer (ltb (phase_at plan r.phase).loss r.green) (cycle_length plan cycle + (phase_at plan r.phase).loss + 1) wait is in
        let less : (phase_at plan r.phase).loss < r.green = ltb-true (phase_at plan r.phase).loss r.green long in
        record {
          index = place.index;
          below = place.below;
          phase = ap (λ (x : FixedRow). x.phase) place.at ∙ place.phase;
          long = omega (arith, less, ap (λ (x : FixedRow). x.green) place.at, ap (λ (j : ℕ). (phase_at plan j).loss) place.phase);
          is = omega (arith, most, ap (λ (j : ℕ). (phase_at plan j).loss) place.phase);
        }

-- what a line shows in the seconds of a green that it has
shows-green : (plan : List Phase) (p : IsRing plan) (rows : List Green) → IsLawful plan rows → (g : Green) → IsPlaced rows g → (x : ℕ) → g.from ≤ x → x < g.to → sign_at rows x ≡ On g.phase g.from
shows-green plan p rows lawful g placed x begun still =
    let order : IsInOrder rows = order-lawful plan rows p lawful in
    let from = ap (λ (r : Green). r.from) placed.at in
    let to = ap (λ (r : Green). r.to) placed.at in
    let after : row_after rows x ≡ Some g = covering-after rows x placed.index order placed.below (omega (arith, from, begun)) (omega (arith, to, still)) ∙ slice_get-get_or rows placed.index no_green placed.below ∙ ap Some placed.at in
    sign-begun None rows x g order after begun

module _ (net : Net) (network : IsNetwork net) (rows : List FixedRow) (is : IsFixedPlan net rows) (arriving : ℕ → ℕ → ℕ) (lawful : (node : ℕ) → node < length net.node_names → IsLawful (plan_at net node) (fixed_line net rows node)) where
  abbrev past : ℕ → ℕ → Cumulative
  past = cumulative_under net arriving (signs_by (fixed_line net rows)) (end_of_run net)

  pub fixed-waits : AreWaitsWithin net (fixed_bounds net rows) (cumulative_under net arriving (signs_by (fixed_line net rows)) (end_of_run net)) (end_of_run net)
  fixed-waits l node wait n inside ends plain bound room stands =
      let below = node-inside net network l node inside ends in
      let plan = plan_at net node in
      let cycle = rows_of rows node in
      let k = (link_at net l).phase in
      let p = plan-is net network node below in
      let has = gives-bound plan cycle k wait bound in
      let loss : ℕ = (phase_at plan k).loss in
      let row = row_in cycle has.index in
      let end = end_of_run net in
      let by : BeginsBy plan cycle p (own-cycle net network rows node below is) end has.index n = comes plan cycle p (own-cycle net network rows node below is) has.index end n has.below (omega (arith, room)) in
      let g : Green = green_of by.at row in
      let placed = place-of (green_from plan cycle) (end + cycle_length plan cycle) 0 by.at g (omega arith) (omega (arith, by.inside)) by.begins in
      let x = by.at + loss in
      let shown : (y : ℕ) → by.at ≤ y → y ≤ x → signs_by (fixed_line net rows) y node ≡ On k by.at = λ y low high.
      shows-green plan p (fixed_line net rows node) (lawful node below) g placed y (omega (arith, low)) (omega (arith, has.long, high)) ∙ ap (λ (j : ℕ). On j by.at) has.phase in
      let link : IsLink (length net.node_names) (link_at net l) = All-get_or (IsLink (length net.node_names)) net.links l no_link (let f = network.outline.road_count in omega (arith, f, inside)) network.outline.links in
      let seen = signs_by (fixed_line net rows) in
      let early : 0 < queue net (cumulative_under net arriving seen n) n l = omega (arith, stands, queue-kept net arriving seen l inside end n (omega (arith, room))) in
      let goes = goes-by net arriving seen l inside link.travel.0 (driven-by net network l inside plain) node ends n x by.at (omega (arith, by.after)) shown (omega arith) early in
      let later = left-later net arriving seen l inside (x + 1) (n + wait) (omega (arith, by.before, has.is)) in
      omega (arith, goes, later, ap (λ (q : Cumulative). q.left) (in-past net arriving seen l inside end n (omega (arith, room))), ap (λ (q : Cumulative). q.left) (in-past net arriving seen l inside end (n + wait) room))

-- for the list of the timelines
module _ (net : Net) (network : IsNetwork net) (rows : List FixedRow) (is : IsFixedPlan net rows) (nodes : ℕ) (whole : length net.node_names ≤ nodes)
    (lines : List (List Green)) (are : lines ≡ map (fixed_line net rows) (range_with_len 0 nodes)) (of : (node : ℕ) → node < nodes → IsLineOf net node (fixed_line net rows node)) (arriving : ℕ → ℕ → ℕ) where
  line-is : (node : ℕ) → node < length net.node_names → line_in lines node ≡ fixed_line net rows node
  line-is node below =
      ap (λ (all : List (List Green)). get_or all node []) are
      ∙ get_or-map-range_with_len (fixed_line net rows) 0 nodes node node [] (omega (arith, below, whole)) (omega arith)

  same-past : cumulative_under net arriving (signs_by (fixed_line net rows)) (end_of_run net) ≡ cumulative_of_lines net arriving lines
  same-past = past-at-nodes net network arriving (signs_by (fixed_line net rows)) (signs_by (line_in lines)) (end_of_run net) (λ x n less below. ap (λ (line : List Green). sign_at line x) (sym (line-is n below)))

  pub lines-wait : AreWaitsWithin net (fixed_bounds net rows) (cumulative_of_lines net arriving lines) (end_of_run net)
  lines-wait = subst (λ (past : ℕ → ℕ → Cumulative). AreWaitsWithin net (fixed_bounds net rows) past (end_of_run net)) same-past
      (fixed-waits net network rows is arriving (λ node below. (of node (omega (arith, below, whole))).lawful))
