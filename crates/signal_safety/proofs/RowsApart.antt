-- The rows of lawful lines in which two links in conflict are green are apart.
use Rattle.std.proofs.Common.{◌≡◌, ℕ, ◌+◌, ◌<◌, ◌≤◌, List, Option, Some, length, get_or, sym, ap, subst, ◌∙◌, inl, inr, arith}
use Rattle.std.specs.Prelude.{All, Contains, IsTrue, MatchOption, unwrap_or}
use Rattle.std.proofs.lemmas.Bool.{cases_lt}
use Rattle.std.proofs.lemmas.Bool.Decides.{eqb_tells}
use Rattle.std.proofs.lemmas.List.{get_or_default}
use Rattle.std.proofs.lemmas.List.Elements.{All-get_or}
use Rattle.control_flow.specs.Greens.{AreApart, IsGreen, IsLawful, covers, no_green, row_at}
use Rattle.control_flow.specs.declared.greens.Green.{Green}
use Rattle.control_flow.proofs.ApartLaws.{are-apart}
use Rattle.control_flow.proofs.OrderLaws.{green-length}
use Rattle.net_parts.specs.Numbers.{Net}
use Rattle.net_parts.specs.Outline.{is_green_in, link_at, plan_at}
use Rattle.phase_plan.specs.Phases.{IsRing, phase_at}
use Rattle.phase_plan.specs.declared.Phase.{Phase}
use Rattle.road_net.specs.Joins.{AreNeverBoth, IsConflict}
use Rattle.road_net.specs.Network.{IsNetwork}
use Rattle.signal_safety.specs.Safe.{IsSafe}
use Rattle.signal_safety.specs.Rows.{AreRowsApart, FollowsRows, IsGreenOf, times_of}
use Rattle.signal_safety.proofs.Lines.{conflict-inside, conflict-node, plan-is}

module _ (net : Net) (lines : ℕ → List Green) (node : ℕ) (p : IsRing (plan_at net node)) (lawful : IsLawful (plan_at net node) (lines node)) where
  of-node : (link : ℕ) (row : Green) → (link_at net link).to ≡ Some node → IsGreenOf net lines link row → Contains (lines node) row
  of-node link row to green = subst (λ (o : Option ℕ). MatchOption o ⊥ (λ n. Contains (lines n) row)) to green.ends

  -- the place of a row
  at-place : (row : Green) (has : Contains (lines node) row) → row_at (lines node) has.0 ≡ row
  at-place row has = get_or_default (lines node) has.0 no_green row has.1 ∙ has.2

  long : (row : Green) → Contains (lines node) row → row.from + 1 ≤ row.to
  long row has =
      let is : IsGreen (plan_at net node) (get_or (lines node) has.0 row) = All-get_or (IsGreen (plan_at net node)) (lines node) has.0 row has.1 lawful.greens in
      green-length (plan_at net node) row p (subst (IsGreen (plan_at net node)) has.2 is)

  apart : AreApart (plan_at net node) (lines node)
  apart = are-apart (plan_at net node) (lines node) p lawful

  -- a later row begins after yellow and all-red of an earlier one
  later : (early late : Green) (one : Contains (lines node) early) (other : Contains (lines node) late) → one.0 < other.0
      → early.to + (phase_at (plan_at net node) early.phase).yellow + (phase_at (plan_at net node) early.phase).clear ≤ late.from
  later early late one other less =
      let after = apart.apart one.0 other.0 less other.1 in
      let first = at-place early one in
      let second = at-place late other in
      omega (arith, after, ap (λ (g : Green). g.to) first, ap (λ (g : Green). (phase_at (plan_at net node) g.phase).yellow) first, ap (λ (g : Green). (phase_at (plan_at net node) g.phase).clear) first, ap (λ (g : Green). g.from) second)

  module _ (a b : ℕ) (first : (link_at net a).to ≡ Some node) (second : (link_at net b).to ≡ Some node) (never : AreNeverBoth net a b) where
    -- no row is one of both
    same-never : (one other : Green) → IsGreenOf net lines a one → IsGreenOf net lines b other → (here : Contains (lines node) one) (there : Contains (lines node) other) → here.0 ≡ there.0 → ⊥
    same-never one other mine others here there same =
        let rows : one ≡ other = sym (at-place one here) ∙ ap (row_at (lines node)) same ∙ at-place other there in
        never one.phase mine.phase (ap (λ (g : Green). is_green_in net b g.phase) rows ∙ others.phase)

    rows-never : (one other : Green) (x : ℕ) → IsGreenOf net lines a one → IsGreenOf net lines b other → IsTrue (covers one x) → IsTrue (covers other x) → ⊥
    rows-never one other x mine others is are =
        let here = of-node a one first mine in
        let there = of-node b other second others in
        same-never one other mine others here there
        (apart.one here.0 there.0 x here.1 there.1 (subst (λ (g : Green). IsTrue (covers g x)) (sym (at-place one here)) is) (subst (λ (g : Green). IsTrue (covers g x)) (sym (at-place other there)) are))

    rows-follow : FollowsRows net lines a b
    rows-follow early late mine others order =
        let here = of-node a early first mine in
        let there = of-node b late second others in
        let times : times_of net a early ≡ phase_at (plan_at net node) early.phase = ap (λ (o : Option ℕ). phase_at (plan_at net (unwrap_or o 0)) early.phase) first in
        elim (cases_lt here.0 there.0) [
          | inl less ↦ (let after = later early late here there less in omega (arith, after, ap (λ (q : Phase). q.yellow) times, ap (λ (q : Phase). q.clear) times))
          | inr most ↦ elim (eqb_tells here.0 there.0) [
            | inl p ↦ absurd (same-never early late mine others here there p.1)
            | inr q ↦
                let less : there.0 < here.0 = (let ne = q.1 in omega (arith, most)) in
                let after = later late early there here less in
                let some = long late there in
                absurd (omega (arith, after, some, order))
          ]
        ]

pub rows-apart : (net : Net) → IsNetwork net → (lines : ℕ → List Green) → ((node : ℕ) → node < length net.node_names → IsLawful (plan_at net node) (lines node)) → IsSafe net lines → All (AreRowsApart net lines) net.conflicts
rows-apart net network lines lawful safe i d inside =
    let c = get_or net.conflicts i d in
    let is = All-get_or (IsConflict net) net.conflicts i d inside network.joins.conflicts in
    let (node, at) = conflict-node net network c (conflict-inside net network lines lawful i d inside) is in
    let p = plan-is net network node at.below in
    let line = lawful node at.below in
    record {
      never = rows-never net lines node p line c.0 c.1 at.first at.second is.apart;
      first = rows-follow net lines node p line c.0 c.1 at.first at.second is.apart;
      second = rows-follow net lines node p line c.1 c.0 at.second at.first (λ k other one. is.apart k one other);
    }
