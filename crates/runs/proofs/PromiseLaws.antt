-- What every run keeps.
use Rattle.std.proofs.Common.{◌≡◌, ℕ, ◌<◌, List, [], All, length, get_or, sym, ap, subst, ◌∙◌, arith}
use Rattle.std.proofs.lemmas.List.FromFn.{get_or-map-range_with_len}
use Rattle.std.proofs.lemmas.Nat.{div_below}
use Rattle.control_flow.specs.Greens.{IsLawful as IsLawfulLine}
use Rattle.control_flow.specs.Signs.{sign_at}
use Rattle.control_flow.specs.declared.greens.Green.{Green}
use Rattle.histories.specs.Histories.{IsLawful}
use Rattle.intersection_actor.specs.declared.records.PlanRecord.{PlanRecord}
use Rattle.net_parts.specs.Numbers.{Net}
use Rattle.net_parts.specs.Outline.{plan_at}
use Rattle.road_net.specs.Network.{IsNetwork}
use Rattle.schedule_meaning.specs.Best.{IsLeast}
use Rattle.signal_safety.proofs.Lines.{safe}
use Rattle.signal_safety.proofs.Rounds.{AllKeep, lawful-after, shows}
use Rattle.runs.specs.Promises.{KeepsPromises, last_line}
use Rattle.runs.specs.Plans.{IsPlannedFrom, NamesVersions, NeverOlder}
use Rattle.runs.specs.Runs.{IsRun, line_before}
use Rattle.runs.specs.declared.records.RunRecord.{RunRecord}
use Rattle.runs.proofs.PlanLaws.{all-least, all-named, all-planned, never-older}
use Rattle.runs.proofs.Planning.{run-waits}

module _ (net : Net) (network : IsNetwork net) (arriving : ℕ → ℕ → ℕ) (h : List ℕ) (lawful : IsLawful net h) (run : RunRecord) (is : IsRun net arriving h run) (keep : AllKeep net (line_before net is.made) net.run.rounds) where
  line-is : (node : ℕ) → node < length net.node_names → last_line run node ≡ line_before net is.made net.run.rounds node
  line-is node below =
      ap (λ (l : List (List Green)). get_or l node []) is.by.timelines
      ∙ get_or-map-range_with_len (line_before net is.made net.run.rounds) 0 (length net.node_names) node node [] below (omega arith)

  lawful-line : (node : ℕ) → node < length net.node_names → IsLawfulLine (plan_at net node) (last_line run node)
  lawful-line node below = subst (IsLawfulLine (plan_at net node)) (sym (line-is node below)) (lawful-after net network (line_before net is.made) net.run.rounds keep net.run.rounds (network.outline.run.rounds.0) (omega arith) node below)

  pub kept : KeepsPromises net arriving h is.made run
  kept = record {
    named = subst (All (NamesVersions net h)) (sym is.by.plans) (all-named net network arriving h lawful is.heard is.made is.by.commits is.along);
    newer = subst NeverOlder (sym is.by.plans) (never-older net network arriving h lawful is.heard is.made is.by.commits is.along);
    planned = subst (All (IsPlannedFrom net arriving is.made)) (sym is.by.plans) (all-planned net network arriving h lawful is.heard is.made is.by.commits is.along);
    least = subst (All (λ (p : PlanRecord). IsLeast p.instance p.answer)) (sym is.by.plans) (all-least net network arriving h lawful is.heard is.made is.by.commits is.along);
    lawful = lawful-line;
    safe = safe net network (last_line run) lawful-line;
    signs = λ second node before below. ap (λ (l : List Green). sign_at l second) (line-is node below) ∙ shows net network (line_before net is.made) net.run.rounds keep net.run.rounds (omega arith) second node below (div_below second net.run.step net.run.rounds network.outline.run.step.0 before);
    waits = run-waits net network arriving is.heard is.made is.by.commits;
  }
