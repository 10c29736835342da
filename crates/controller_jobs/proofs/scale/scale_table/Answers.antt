use Rattle.std.proofs.Common.{arith}
use Rattle.std.proofs.lemmas.Result.{err_from_is_err_and}
use Rattle.arrivals.specs.Amounts.{arriving_of}
use Rattle.controller_jobs.proofs.FactorLaws.{none-over, refuses-all, scaled-more}
use Rattle.controller_jobs.proofs.scale.scale_table.Goals as goal

pub returns-in_err-push_factor-clause-refused : goal.returns-in_err-push_factor-clause-refused
returns-in_err-push_factor-clause-refused c =
    let range = c.args.range.now in
    let p = err_from_is_err_and c.from_residual.result c.from_residual.ensures.1 in
    rw (p.1, p.2) (refuses-all c.args.net.now (arriving_of c.args.arrivals.now) range.first range.step range.last c.loop-place.place c.factor_at.result (omega (arith, c.loop-place-test.true)) c.factor_at.ensures.value _ c.in_err-push_factor.ensures.refused)

pub loop-place-preserved : goal.loop-place-preserved
loop-place-preserved c =
    scaled-more c.args.net.now (arriving_of c.args.arrivals.now) c.args.range.now.first c.args.range.now.step c.loop-place.place c.factor_at.result c.loop-place.text.items c.push_factor.new.text.items
    c.factor_at.ensures.value c.loop-place.invariant c.in_ok-push_factor.ensures.ok c.in_ok-push_factor.ensures.few

pub returns-clause-few : goal.returns-clause-few
returns-clause-few c =
    let range = c.args.range.now in
    none-over c.args.net.now (arriving_of c.args.arrivals.now) range.first range.step range.last c.loop-place.text.items c.loop-place.place (omega (arith, c.loop-place-test.false, c.loop-place.auto)) c.loop-place.invariant
