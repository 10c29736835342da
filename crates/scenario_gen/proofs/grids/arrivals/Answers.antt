use Rattle.std.proofs.Common.{List, subst}
use Rattle.arrivals.specs.declared.rows.ArrivalRow.{ArrivalRow}
use Rattle.arrivals.specs.Faults.{IsRowFault}
use Rattle.scenario_gen.specs.Arrivals.{rows}
use Rattle.scenario_gen.proofs.Lawful.{memory-alone-of-rows}
use Rattle.scenario_gen.proofs.grids.arrivals.Goals as goal

pub alloc_error_of_rows-requires : goal.alloc_error_of_rows-requires
alloc_error_of_rows-requires c =
    memory-alone-of-rows c.args.net.now (rows c.args.number c.args.rounds c.args.net.now) c.in_ok-rows.ensures.lawful c.in-Err.fault
    (subst (λ (rs : List ArrivalRow). IsRowFault c.args.net.now rs c.in-Err.fault) c.in_ok-rows.ensures.value c.in-Err.ensures.first)
