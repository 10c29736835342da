use Rattle.std.proofs.lemmas.Result.{err_from_is_err_and}
use Rattle.toml.specs.View.{view}
use Rattle.foundation.proofs.EachLaws.{each-map, each-more, each-end}
use Rattle.net_tables.proofs.FirstLaws.{Blames-weaker, first-unread}
use Rattle.net_tables.proofs.tables.read_all.Goals as goal

pub returns-in_err-element-clause-first : goal.returns-in_err-element-clause-first
returns-in_err-element-clause-first g c =
    let p = err_from_is_err_and c.from_residual.result c.from_residual.ensures.1 in
    rw (p.1, p.2) (Blames-weaker {P = g.T.Element.at_fault c.args.version c.args.item c.ordinal.result (view c.index-values-index.result)} c.in_err-element.field-0.0
    (λ named fault. record {
      index = c.loop-index.index;
      first = first-unread (g.T.Element.reading c.args.version) view c.args.values.now c.loop-index.index c.index-values-index.result c.loop-index.all.items _ c.loop-index-test.true c.index-values-index.is c.loop-index.invariant (rw c.ordinal.ensures at fault);
    })
    c.in_err-element.ensures.first)

pub loop-index-preserved : goal.loop-index-preserved
loop-index-preserved g c =
    rw c.in_ok-push.ensures.items (each-more (λ v. g.T.Element.reading c.args.version (view v)) c.args.values.now c.loop-index.index c.index-values-index.result c.loop-index.all.items c.in_ok-element.element c.loop-index-test.true c.index-values-index.is c.loop-index.invariant c.in_ok-element.ensures.ok)

pub returns-clause-ok : goal.returns-clause-ok
returns-clause-ok g c = rw (each-map (g.T.Element.reading c.args.version) view c.args.values.now) (each-end (λ v. g.T.Element.reading c.args.version (view v)) c.args.values.now c.loop-index.index c.loop-index.all.items c.loop-index-test.false c.loop-index.invariant)
