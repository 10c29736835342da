-- Lawful lines row by row, and what a reason says of a sheet.
use Rattle.std.proofs.Common.{◌≡◌, ◌↔◌, ℕ, zero, suc, ◌+◌, ◌-◌, ◌<◌, List, [], All, length, sym, subst, ◌∙◌, arith}
use Rattle.std.proofs.lemmas.List.{get_or_default}
use Rattle.foundation.specs.Firsts.{IsFirstWithout}
use Rattle.phase_plan.specs.declared.Phase.{Phase}
use Rattle.net_parts.specs.Numbers.{Net}
use Rattle.net_parts.specs.Outline.{plan_at}
use Rattle.road_net.specs.Network.{IsNetwork}
use Rattle.control_flow.specs.Greens.{Follows, IsInOrder, IsLawful, no_green, row_at}
use Rattle.control_flow.specs.declared.greens.Green.{Green}
use Rattle.control_flow.proofs.OrderLaws.{order-lawful}
use Rattle.net_simulator.specs.Counts.{counts_at}
use Rattle.net_simulator.specs.Flow.{cumulative_under}
use Rattle.net_simulator.specs.Sums.{end_of_run, link_totals, totals}
use Rattle.net_simulator.specs.Worlds.{Stands, WorldState, line_in, signs_by}
use Rattle.signal_safety.proofs.Lines.{plan-is}
use Rattle.audit.specs.declared.sheet.Sheet.{Sheet}
use Rattle.audit.specs.Audits.{AllRows, AreLawful, FollowsAt, IsClean, IsGreenAt, IsLinkShown, IsWhy}
use Rattle.net_simulator.specs.Shown.{all_shown, link_shown}
use Rattle.audit.specs.declared.findings.AuditWhy.{AuditWhy}
use Rattle.audit.specs.declared.findings.AuditWhy.TheVariants.{Span, Next, Link, Total}
use Rattle.audit.specs.declared.findings.Finding.TheVariants.{Clean, Bad}

-- the rows of a lawful timeline are greens, and each follows the one before it
pub lawful-greens : (plan : List Phase) (rows : List Green) → IsLawful plan rows → (k : ℕ) → k < length rows → IsGreenAt plan rows k
lawful-greens plan rows lawful k h = lawful.greens k no_green h

pub lawful-follow : (plan : List Phase) (rows : List Green) → IsLawful plan rows → (k : ℕ) → k < length rows → FollowsAt plan rows k
lawful-follow plan rows lawful zero h some = absurd (omega (arith, some))
lawful-follow plan rows lawful (suc k) h some =
    let here : k + 1 ≡ suc k = omega arith in
    let before : k ≡ suc k - 1 = omega arith in
    subst (λ j. Follows plan (row_at rows j) (row_at rows (suc k))) before (subst (λ j. Follows plan (row_at rows k) (row_at rows j)) here (lawful.order k (omega (arith, h))))

-- a fact of all rows of a node is one of the same rows of the same plan
pub same-rows : (Fact : List Phase → List Green → ℕ → Type 0) (net : Net) (lines : List (List Green)) (node : ℕ) (plan : List Phase) (rows : List Green)
    → plan ≡ plan_at net node → rows ≡ line_in lines node → AllRows Fact net lines node → (k : ℕ) → k < length rows → Fact plan rows k
same-rows Fact net lines node plan rows p r all =
    subst (λ xs. (k : ℕ) → k < length xs → Fact plan xs k) (sym r) (subst (λ q. (k : ℕ) → k < length (line_in lines node) → Fact q (line_in lines node) k) (sym p) all)

-- lawful lines are in order
pub in-order : (net : Net) → IsNetwork net → (lines : List (List Green)) → length lines ≡ length net.node_names → AreLawful net lines → All IsInOrder lines
in-order net network lines count lawful i d h =
    let below : i < length net.node_names = omega (arith, count, h) in
    subst IsInOrder (get_or_default lines i [] d h) (order-lawful (plan_at net i) (line_in lines i) (plan-is net network i below) (lawful i below))

module _ (net : Net) (arriving : ℕ → ℕ → ℕ) (s : Sheet) where
  -- a sheet with a reason is not clean
  pub refutes : (why : AuditWhy) → IsWhy net arriving s why → IsClean net arriving s → ⊥
  refutes (Span node row) first clean = first.least.here (lawful-greens (plan_at net node) (line_in s.lines node) (clean.lawful node first.least.below))
  refutes (Next node row) (greens, first) clean = first.least.here (lawful-follow (plan_at net node) (line_in s.lines node) (clean.lawful node first.least.below))
  refutes (Link link) (lawful, first) clean = first.here (clean.links link first.below)
  refutes Total (lawful, links, other) clean = other clean.all

  pub bad : (why : AuditWhy) → IsWhy net arriving s why → Bad why ≡ Clean ↔ IsClean net arriving s
  bad why is = ((λ e. absurd (cc)), (λ clean. absurd (refutes why is clean)))

  -- what a world has counted that stands at the end of the run under the lines of the sheet
  module _ (w : WorldState) (stands : Stands net arriving (signs_by (line_in s.lines)) w) (at : w.second ≡ end_of_run net) where
    counted : (l : ℕ) → l < length net.link_names → counts_at w.counts l ≡ link_shown net arriving s.lines l
    counted l h = subst (λ x. counts_at w.counts l ≡ link_totals net (cumulative_under net arriving (signs_by (line_in s.lines)) x) x l) at (stands.counts l h)

    counted-all : w.totals ≡ all_shown net arriving s.lines
    counted-all = subst (λ x. w.totals ≡ totals net arriving (cumulative_under net arriving (signs_by (line_in s.lines)) x) x) at stands.totals

    pub links-shown : ((l : ℕ) → l < length net.link_names → counts_at s.links l ≡ counts_at w.counts l) → (l : ℕ) → l < length net.link_names → IsLinkShown net arriving s l
    links-shown same l h = same l h ∙ counted l h

    pub link-why : AreLawful net s.lines → (l : ℕ) → IsFirstWithout (λ k. counts_at s.links k ≡ counts_at w.counts k) (length net.link_names) l → IsWhy net arriving s (Link l)
    link-why lawful l first = (
      lawful,
      record {
        below = first.below;
        before = λ k h. first.before k h ∙ counted k (omega (arith, h, first.below));
        here = λ shown. first.here (shown ∙ sym (counted l first.below));
      },
    )

    pub total-why : AreLawful net s.lines → ((l : ℕ) → l < length net.link_names → counts_at s.links l ≡ counts_at w.counts l) → (s.totals ≡ w.totals → ⊥) → IsWhy net arriving s Total
    total-why lawful same other = (lawful, links-shown same, λ shown. other (shown ∙ sym counted-all))
