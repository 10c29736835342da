-- The table of commands: what each means.
use Rattle.command_words.specs.Calls.{Actuate, Audit, Bounds, BoundsFixed, Call, Certify, CertifyBound, CertifyPar, Check, Compare, CompareFixed, Decide, DecideNode, Fixed, Grid, Instance, Net, Plan, Queues, Replay, Scale, Spill, SpillActuated, Totals, Turns, Upgrade}
use Rattle.commands.specs.Meanings.{Meaning}
use Rattle.audit_jobs.specs.Meanings.{audit_meaning, queues_meaning}
use Rattle.controller_jobs.specs.Meanings.{actuate_meaning, bounds_fixed_meaning, bounds_meaning, compare_fixed_meaning, compare_meaning, fixed_meaning, scale_meaning, spill_actuated_meaning, spill_meaning}
use Rattle.network_jobs.specs.Meanings.{grid_meaning, instance_meaning, net_meaning, replay_meaning, totals_meaning, turns_meaning, upgrade_meaning}
use Rattle.planner_jobs.specs.Meanings.{certify_bound_meaning, certify_meaning, check_meaning, plan_meaning}
use Rattle.round_jobs.specs.Meanings.{decide_meaning, decide_node_meaning}

abbrev pub meaning_of : Call → Meaning
meaning_of (Plan file) = plan_meaning file
meaning_of (Certify file) = certify_meaning file
meaning_of (CertifyBound file) = certify_bound_meaning file
meaning_of (CertifyPar file width) = certify_meaning file
meaning_of (Check file) = check_meaning file
meaning_of (Turns net arr) = turns_meaning net arr
meaning_of (Totals net arr) = totals_meaning net arr
meaning_of (Replay net arr hist) = replay_meaning net arr hist
meaning_of (Net net arr) = net_meaning net arr
meaning_of (Instance net arr hist node round) = instance_meaning net arr hist node round
meaning_of (Actuate net arr) = actuate_meaning net arr
meaning_of (Fixed net arr plan) = fixed_meaning net arr plan
meaning_of (Compare net arr) = compare_meaning net arr
meaning_of (CompareFixed net arr plan) = compare_fixed_meaning net arr plan
meaning_of (Scale net arr first last step) = scale_meaning net arr first last step
meaning_of (Spill net arr store) = spill_meaning net arr store
meaning_of (SpillActuated net arr store) = spill_actuated_meaning net arr store
meaning_of (Decide net state) = decide_meaning net state
meaning_of (DecideNode net state node) = decide_node_meaning net state node
meaning_of (Audit net arr report) = audit_meaning net arr report
meaning_of (Queues net arr report) = queues_meaning net arr report
meaning_of (Grid number side rounds) = grid_meaning number side rounds
meaning_of (Upgrade net) = upgrade_meaning net
meaning_of (Bounds net) = bounds_meaning net
meaning_of (BoundsFixed net plan) = bounds_fixed_meaning net plan
