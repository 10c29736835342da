use Rattle.std.proofs.Common.{◌≡◌, length, sym, ◌∙◌, arith}
use Rattle.net_threads.proofs.Passes.{trades-other, trades-own}
use Rattle.net_threads.proofs.TaskLists.{kept-actors, kept-settings}
use Rattle.net_threads.proofs.all_nodes.NodeTasks.trade.Goals as goal

pub loop-k-preserved : goal.loop-k-preserved
loop-k-preserved g c =
    let i = c.loop-k.invariant in
    let old = c.args.self.now.all in
    let now = c.loop-k.self.all.items in
    let k = c.loop-k.k in
    let t = c.trade.new.self in
    let d = c.index_mut.result.now in
    let e = c.trade.ensures in
    let p = c.index-passes-k in
    let count : c.len-k-end.result ≡ length old.items = omega (arith, c.len-k-end.ensures, old.ok.0) in
    let same : length c.args.passes.now ≡ length old.items = omega (arith, c.requires, old.ok.0) in
    record {
      actors = kept-actors now k d t c.index_mut.ensures.value e.actor ∙ i.actors;
      settings = kept-settings now k d t c.index_mut.ensures.value e.setting ∙ i.settings;
      taken = trades-own old.items now k c.len-k-end.result d c.index_mut.ensures.value i.actors c.loop-k-test.true count c.args.passes.now same c.loop-k.passes p.result t i.taken i.given p.is (e.pass.0 ∙ sym p.is);
      given = trades-other old.items now k c.len-k-end.result d c.index_mut.ensures.value i.actors c.loop-k-test.true count c.args.passes.now same c.loop-k.passes c.trade.new.pass i.taken i.given e.pass.1;
    }
