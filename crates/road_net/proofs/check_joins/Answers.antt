use Rattle.std.proofs.Common.{◌<◌, ◌^◌, length, sum_by, refl}
use Rattle.std.proofs.lemmas.List.Elements.{All-weaker}
use Rattle.net_parts.specs.Outline.{AreTurns}
use Rattle.net_parts.specs.Parts.{net_of}
use Rattle.net_parts.proofs.OutlineLaws.{outline-few}
use Rattle.road_net.specs.Joins.{share_of}
use Rattle.road_net.proofs.FirstFaults.{halted, entries-fault, shares-fault, phases-fault, homed}
use Rattle.road_net.proofs.Joining.{shares-small}
use Rattle.road_net.proofs.check_joins.Goals as goal

pub returns-in_err-check_entries : goal.returns-in_err-check_entries
returns-in_err-check_entries c =
    let net = net_of c.args.parts.now in
    let first = entries-fault net c.args.entry.now c.requires.entry c.requires.ends c.args.entry.now refl _ c.in_err-check_entries.ensures in
    halted net _ c.from_residual.result first c.from_residual.ensures.1

pub check_shares-requires-clause-sums : goal.check_shares-requires-clause-sums
check_shares-requires-clause-sums c =
    let links = length c.args.parts.now.link_names in
    rw c.as_slice.ensures.value (All-weaker (AreTurns links) (λ ts. sum_by share_of ts < 2 ^ 32) (shares-small links) c.args.parts.now.turns.items c.requires.outline.turns)

pub returns-in_err-check_shares : goal.returns-in_err-check_shares
returns-in_err-check_shares c =
    let net = net_of c.args.parts.now in
    let first = shares-fault net c.args.entry.now c.requires.entry c.requires.ends c.in_ok-check_entries.ensures _ _ c.as_slice-links.ensures.value c.as_slice.ensures.value _ c.in_err-check_shares.ensures in
    halted net _ c.from_residual-in_err-check_shares.result first c.from_residual-in_err-check_shares.ensures.1

pub check_phases-requires-clause-phases : goal.check_phases-requires-clause-phases
check_phases-requires-clause-phases c = rw c.as_slice-2.ensures.value (outline-few (net_of c.args.parts.now) c.requires.outline)

pub returns-in_err-check_phases : goal.returns-in_err-check_phases
returns-in_err-check_phases c =
    let net = net_of c.args.parts.now in
    let shares = (rw (c.as_slice-links.ensures.value, c.as_slice.ensures.value) at c.in_ok-check_shares.ensures) in
    let first = phases-fault net c.args.entry.now c.requires.entry c.requires.ends c.in_ok-check_entries.ensures shares _ _ c.as_slice-links.ensures.value c.as_slice-2.ensures.value _ c.in_err-check_phases.ensures in
    halted net _ c.from_residual-in_err-check_phases.result first c.from_residual-in_err-check_phases.ensures.1

pub check_overlaps-requires-clause-homed : goal.check_overlaps-requires-clause-homed
check_overlaps-requires-clause-homed c =
    let shares = (rw (c.as_slice-links.ensures.value, c.as_slice.ensures.value) at c.in_ok-check_shares.ensures) in
    let phases = (rw (c.as_slice-links.ensures.value, c.as_slice-2.ensures.value) at c.in_ok-check_phases.ensures) in
    homed (net_of c.args.parts.now) c.args.entry.now c.requires.entry c.requires.ends c.in_ok-check_entries.ensures shares phases
