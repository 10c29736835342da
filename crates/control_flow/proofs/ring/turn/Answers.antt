use Rattle.std.proofs.Common.{◌+◌, ◌-◌, List, [], ◌∷◌, ◌++◌, sym, ap, ◌∙◌, append_assoc}
use Rattle.control_flow.specs.declared.greens.Green.{Green}
use Rattle.control_flow.specs.Timelines.{stops_at, turning}
use Rattle.control_flow.proofs.TurningLaws.{passes-called, turned-is, turning-more}
use Rattle.control_flow.proofs.ring.turn.Goals as goal

pub loop-last-init : goal.loop-last-init
loop-last-init c =
    let plan = c.args.plan.now in
    let calls = c.args.calls.now in
    let head = c.args.head.now in
    let old = c.args.rows.now.items in
    let row : Green = record { phase = head.phase; from = head.since; to = c.args.to } in
    let others = turning plan (stops_at plan calls) (c.args.until + 1 - c.args.to) c.args.until head.phase c.args.to in
    record {
      rows = ap (λ (rows : List Green). rows ++ others) c.in_ok-push.ensures.items
          ∙ append_assoc old (row ∷ []) others
          ∙ ap (λ (rows : List Green). old ++ rows) (sym (turned-is plan (stops_at plan calls) c.requires.ring (passes-called plan calls) head c.args.to c.args.until c.requires.phase));
      phase = c.requires.phase;
    }

pub loop-last-preserved : goal.loop-last-preserved
loop-last-preserved c =
    let l = c.loop-last in
    let plan = c.args.plan.now in
    let calls = c.args.calls.now in
    let next = c.green_after-last.result in
    let others = turning plan (stops_at plan calls) (c.args.until + 1 - next.to) c.args.until next.phase next.to in
    record {
      rows = ap (λ (rows : List Green). rows ++ others) c.in_ok-push-2.ensures.items
          ∙ turning-more plan (stops_at plan calls) c.requires.ring (passes-called plan calls) c.args.until l.last.phase l.last.to next l.rows.items _ l.invariant.phase c.loop-last-test.true c.green_after-last.ensures.value l.invariant.rows;
      phase = c.green_after-last.ensures.phase;
    }
