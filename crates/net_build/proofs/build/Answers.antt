use Rattle.std.proofs.lemmas.Result.{err_from_is_err_and, IfErr-weaker}
use Rattle.net_parts.specs.Parts.{net_of}
use Rattle.net_build.proofs.Outline.{outline}
use Rattle.road_net.specs.FirstFaults.{IsDraftFault, IsNumbersOf}
use Rattle.net_build.proofs.Building.{numbers-none, IsDraftFault-bounds, IsDraftFault-numbers, IsDraftFault-joins}
use Rattle.net_build.proofs.build.Goals as goal

pub join_parts-requires : goal.join_parts-requires
join_parts-requires c = outline c.args.draft _ c.in_ok-check_bounds.ensures.ok c.in_ok-parts.ensures.ok.node_names c.in_ok-parts.ensures.ok.link_names c.in_ok-parts.ensures.ok.numbers

pub returns-in_err-check_bounds-clause-first : goal.returns-in_err-check_bounds-clause-first
returns-in_err-check_bounds-clause-first c =
    let p = err_from_is_err_and c.from_residual.result c.from_residual.ensures.1 in
    rw (p.1, p.2) (IsDraftFault-bounds c.args.draft _ c.in_err-check_bounds.ensures.first)

pub returns-in_err-parts-clause-first : goal.returns-in_err-parts-clause-first
returns-in_err-parts-clause-first c =
    let p = err_from_is_err_and c.from_residual-in_err-parts.result c.from_residual-in_err-parts.ensures.1 in
    rw (p.1, p.2) (IsDraftFault-numbers c.args.draft _ c.in_ok-check_bounds.ensures.ok c.in_err-parts.ensures.first)

pub returns-in_err-parts-clause-refused : goal.returns-in_err-parts-clause-refused
returns-in_err-parts-clause-refused c =
    let p = err_from_is_err_and c.from_residual-in_err-parts.result c.from_residual-in_err-parts.ensures.1 in
    rw (p.1, p.2) (numbers-none c.args.draft _ c.in_err-parts.ensures.refused)

pub returns-clause-first : goal.returns-clause-first
returns-clause-first c =
    let is : IsNumbersOf c.args.draft (net_of c.in_ok-parts.parts) = record { bounds = c.in_ok-check_bounds.ensures.ok; node_names = c.in_ok-parts.ensures.ok.node_names; link_names = c.in_ok-parts.ensures.ok.link_names; numbers = c.in_ok-parts.ensures.ok.numbers } in
    IfErr-weaker c.join_parts.result _ (IsDraftFault c.args.draft) (IsDraftFault-joins c.args.draft (net_of c.in_ok-parts.parts) is) c.join_parts.ensures.first
