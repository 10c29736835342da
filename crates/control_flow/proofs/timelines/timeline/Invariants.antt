use Rattle.std.proofs.Common.{◌≡◌, ◌≤◌, ◌++◌, drop}
use Rattle.switch_rules.specs.Serving.{IsHead}
use Rattle.control_flow.specs.Timelines.{AreServings, line_of}
use Rattle.control_flow.proofs.timelines.timeline.Given as goal

-- what is there and what the further servings give is the whole
abbrev pub invariant-loop-index : goal.invariant-loop-index
invariant-loop-index l = record {
  rows : l.rows.items ++ line_of l.plan l.current (drop l.index l.phases) (drop l.index l.served) l.until ≡ line_of l.plan l.head l.phases l.served l.until;
  servings : AreServings l.plan l.current (drop l.index l.phases) (drop l.index l.served);
  head : IsHead l.plan l.current;
  reach : l.current.at ≤ 104000;
}
